-- A tick in the parts that a store makes of it, each for whatever seat number it is given.
--
-- stepped     the books after a seat's clock moved: one tick more for a seat in use whose meta-period goes on
-- owes        how many runs a seat still owes for the ticks that have passed
-- made_one    the books after a run: a seat that owed one has made it
use Rattle.std.specs.Prelude.{ℕ, ◌-◌, cond, ◌&&◌, nat_lt}
use Rattle.ledger.specs.Books.{Books, seat_of, used_seat, entered, ran_once}
use Rattle.ledger.specs.Seats.{due}

abbrev pub stepped : Books → ℕ → Books
stepped b i = cond (used_seat b i && nat_lt (seat_of b i).elapsed (seat_of b i).plan.meta_period) (entered b i) b

abbrev pub owes : Books → ℕ → ℕ
owes b i = cond (used_seat b i) (due (seat_of b i) - (seat_of b i).runs) 0

abbrev pub made_one : Books → ℕ → Books
made_one b i = cond (used_seat b i && nat_lt (seat_of b i).runs (due (seat_of b i))) (ran_once b i) b
