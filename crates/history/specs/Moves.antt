-- Which entry moves a seat's record, how, and when it may.
--
-- InUse         a seat that serves or is under notice
-- Grants        a serving seat with fewer than its writes charged
-- Pays          a plan whose runs win back what its writes take
-- Step          what an entry makes of the record of one seat
-- runs_due      the runs that a tick makes for a seat
-- Answered      what the whole table of seats says of an entry's answer
-- Run           the histories that such moves can make, each with the seats as they stand after it
use Rattle.std.specs.Prelude.{◌≡◌, ℕ, ◌-◌, ◌*◌, ◌<◌, ◌≤◌, Bool, true, false, cond, [], ◌∷◌, Some, ◌≢◌}
use Rattle.plan.specs.declared.numbers.Plan.{Plan}
use Rattle.plan.specs.Plan.{planned}
use Rattle.ledger.specs.declared.frame.Frame.{Frame}
use Rattle.ledger.specs.declared.seat.Status.TheVariants.{Empty, Serving}
use Rattle.ledger.specs.declared.seat.Seat.{Seat}
use Rattle.ledger.specs.Seats.{in_use, seated, warned, took, gave_back, saved, one_later, due, passed}
use Rattle.ledger.specs.Books.{collector_share}
use Rattle.history.specs.History.{
  hands_back,
  Call,
  opening,
  admit,
  notice,
  take,
  hand_back,
  save,
  read,
  tick,
  Deed,
  admitted,
  noticed,
  granted,
  handed_back,
  stored,
  Entry,
  opened,
  did,
  told,
  ticked,
  refused,
  programmed,
  asked,
  erased,
  History,
  sum_first,
}

abbrev pub InUse : Seat → Type 0
InUse s = s.status ≡ Empty → ⊥

abbrev pub Grants : Seat → Type 0
Grants s = (s.status ≡ Serving) × (s.charge < s.plan.writes)

pub record Pays (α : ℕ) (t : Plan) : Type 0 where
  pub lasts : 1 ≤ t.meta_period
  pub writes_some : 1 ≤ t.writes
  pub covered : t.writes ≤ t.runs * α

module _ (f : Frame) (i : ℕ) where
  abbrev pub DeedStep : Deed → Seat → Seat → Type 0
  DeedStep (admitted p w plan) a b = (i < 8) × (a.status ≡ Empty) × (planned f.alpha p w ≡ Some plan) × (b ≡ seated plan (collector_share f))
  DeedStep noticed a b = (a.status ≡ Serving) × (a.out ≡ 0) × (b ≡ warned a)
  DeedStep granted a b = Grants a × (b ≡ took a)
  DeedStep handed_back a b = InUse a × (0 < a.out) × (b ≡ gave_back a)
  DeedStep (stored n d tries) a b = InUse a × (0 < a.out) × (b ≡ saved a)

  -- a save that is refused for what it brings hands the permit back; refused otherwise, it found none
  abbrev pub SaveRefused : Bool → Seat → Seat → Type 0
  SaveRefused true a b = InUse a × (0 < a.out) × (b ≡ gave_back a)
  SaveRefused false a b = (InUse a → a.out ≡ 0) × (b ≡ a)

  abbrev pub RefusalStep : Call → ℕ → Seat → Seat → Type 0
  RefusalStep (opening m y p) why a b = b ≡ a
  RefusalStep (admit j p w) why a b = b ≡ a
  RefusalStep (notice j) why a b = (j ≡ i → a.status ≡ Serving → a.out ≢ 0) × (b ≡ a)
  RefusalStep (take j) why a b = (j ≡ i → Grants a → ⊥) × (b ≡ a)
  RefusalStep (hand_back j) why a b = (j ≡ i → InUse a → a.out ≡ 0) × (b ≡ a)
  RefusalStep (save j n d) why a b = (j ≡ i → SaveRefused (hands_back why) a b) × ((j ≢ i) → b ≡ a)
  RefusalStep (read n r) why a b = b ≡ a
  RefusalStep tick why a b = b ≡ a

  abbrev pub Step : Entry → Seat → Seat → Type 0
  Step (opened m y p) a b = b ≡ a
  Step (did j d) a b = (j ≡ i → DeedStep d a b) × ((j ≢ i) → b ≡ a)
  Step (told n r d) a b = b ≡ a
  Step (ticked n r c t) a b = b ≡ passed f.alpha a
  Step (refused c why) a b = RefusalStep c why a b
  Step (programmed q l d g) a b = b ≡ a
  Step (asked k) a b = b ≡ a
  Step (erased k) a b = b ≡ a

abbrev pub runs_due : Seat → ℕ
runs_due s = cond (in_use s) (due (one_later s) - s.runs) 0

-- a tick answers the runs that it makes for all seats
abbrev pub Answered : Entry → (ℕ → Seat) → Type 0
Answered (opened m y p) l = Unit {0}
Answered (did j d) l = Unit {0}
Answered (told n r d) l = Unit {0}
Answered (ticked n r c t) l = n ≡ sum_first 8 (λ i. runs_due (l i))
Answered (refused c why) l = Unit {0}
Answered (programmed q p d g) l = Unit {0}
Answered (asked k) l = Unit {0}
Answered (erased k) l = Unit {0}

pub data Run (f : Frame) : History → (ℕ → Seat) → Type 0 where
  fresh : {l : ℕ → Seat} → ((i : ℕ) → (l i).status ≡ Empty) → Run f [] l
  then_entry : {h : History} {l m : ℕ → Seat} (e : Entry) → Run f h l → Answered e l → ((i : ℕ) → Step f i e (l i) (m i)) → Run f (e ∷ h) m
