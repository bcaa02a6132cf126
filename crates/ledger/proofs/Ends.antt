-- The end of a seat's tick: what it gives the pool. Assumes nothing.
use Rattle.std.proofs.Common.{rules, ◌≡◌, ℕ, ◌+◌, ◌≤◌, cond, List, set, ap, arith}
use Rattle.ledger.specs.declared.frame.Frame.{Frame}
use Rattle.ledger.specs.declared.ledger.Ledger.{Ledger}
use Rattle.ledger.specs.declared.seat.Seat.{Seat}
use Rattle.ledger.specs.Seats.{turned}
use Rattle.ledger.specs.Books.{collector_share, extra, leaves}
use Rattle.ledger.specs.Fair.{Fair, Found}
use Rattle.ledger.specs.Of.{books_of}
use Rattle.ledger.proofs.Facts.{fair_of}
use Rattle.ledger.proofs.Jobs.{turned_fair, job_seat}
use Rattle.ledger.proofs.Puts.{fair_put_down}
use Rattle.ledger.specs.Shares.{had, adds}

-- what the end of a tick gives the pool
abbrev pub back : Frame → Seat → ℕ
back f s = cond (leaves s) (s.plan.writes + collector_share f) 0

pub back_had : (f : Frame) (s : Seat) → back f s + had f (turned s) ≡ had f s
back_had f s = search rules

pub turned_adds_less : (α : ℕ) (s : Seat) → adds α (turned s) ≤ adds α s
turned_adds_less α s = search rules

-- the yield rule leaves no room for more tokens than pages
module _ {xs : List Seat} {pool spare : ℕ} {f : Frame} (b : Fair xs pool spare f) where
  pub highest_few : f.pool + f.allowance + extra f.alpha xs ≤ 2112
  highest_few = search rules

  pub tokens_few : f.pool + f.allowance ≤ 2112
  tokens_few = omega (arith, highest_few)

module _ (l : Ledger) {i : ℕ} {s : Seat} (found : Found (books_of l) i s) where
  pub turned_put : Fair (set l.seats i (turned s)) (l.pool + back l.frame s) l.spare l.frame
  turned_put =
      let f = l.frame in
      let moved = back_had f s in
      let less = turned_adds_less f.alpha s in
      let here = ap (had f) found.is in
      let plus = ap (adds f.alpha) found.is in
      fair_put_down (fair_of l) i (turned s) found.there (turned_fair (job_seat found.used found.fair)) (l.pool + back f s) (omega arith) (omega arith)
