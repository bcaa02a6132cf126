-- A seat's record says what its history counts; and the theorem that it always does.
--
-- InStep        the record of a seat in use, serving or leaving, against its history
-- Left          a seat that was in use once and is empty now
-- Coupled       the one or the other, by the seat's status
-- Allowed       what the seats' history says of an entry: an accepted call was allowed, a refused one was not
-- Shows         what can be seen of accounts and charges is what the records have
-- SeatsKept     the theorem
use Rattle.std.specs.Prelude.{◌≡◌, ℕ, ◌+◌, ◌*◌, ◌<◌, ◌≤◌, Bool, true, false, [], ◌∷◌, Some}
use Rattle.plan.specs.declared.numbers.Plan.{Plan}
use Rattle.plan.specs.Plan.{planned}
use Rattle.ledger.specs.declared.frame.Frame.{Frame}
use Rattle.ledger.specs.declared.seat.Status.{Status}
use Rattle.ledger.specs.declared.seat.Status.TheVariants.{Empty, Serving, OnNotice}
use Rattle.ledger.specs.declared.seat.Seat.{Seat}
use Rattle.history.specs.History.{
  hands_back,
  Call,
  opening,
  admit,
  notice,
  take,
  hand_back,
  save,
  read,
  tick,
  Deed,
  admitted,
  noticed,
  granted,
  handed_back,
  stored,
  Entry,
  opened,
  did,
  told,
  ticked,
  refused,
  programmed,
  asked,
  erased,
  History,
  count,
  storing,
  seat_plan,
  elapsed,
  period,
  permits_out,
  charged,
  runs_made,
  runs_of_tick,
  under_notice,
  emptied,
}
use Rattle.history.specs.Promise.{View, Given, Vacant, MayNotice, MayTake, MayReturn, SeatNow}
use Rattle.history.specs.Moves.{Pays, Run}

pub record InStep (α i : ℕ) (h : History) (s : Seat) (leaving : Bool) : Type 0 where
  pub pays : Pays α s.plan
  pub plan_is : seat_plan i h ≡ Some s.plan
  pub elapsed_is : s.elapsed ≡ elapsed i s.plan h
  pub before_turn : s.elapsed < s.plan.meta_period
  pub runs_are : s.runs ≡ runs_made i s.plan h
  pub out_is : s.out ≡ permits_out i h
  pub charge_is : s.charge ≡ charged i s.plan h
  pub account_is : s.account + count (storing i) (period i s.plan h) ≡ s.plan.writes + α * s.runs
  pub charge_splits : s.charge ≡ s.out + count (storing i) (period i s.plan h)
  pub out_charged : s.out ≤ s.charge
  pub charge_fits : s.charge ≤ s.plan.writes
  pub notice_is : under_notice i h ≡ leaving
  pub not_emptied : emptied i s.plan h ≡ false
  pub settled : leaving ≡ true → s.out ≡ 0

pub record Left (i : ℕ) (h : History) (t : Plan) : Type 0 where
  pub was_noticed : under_notice i h ≡ true
  pub is_emptied : emptied i t h ≡ true
  pub none_out : permits_out i h ≡ 0

abbrev pub CoupledBy : ℕ → ℕ → History → Seat → Status → Type 0
CoupledBy α i h s Empty = Given (seat_plan i h) (Unit {0}) (λ t. Left i h t)
CoupledBy α i h s Serving = InStep α i h s false
CoupledBy α i h s OnNotice = InStep α i h s true

abbrev pub Coupled : ℕ → ℕ → History → Seat → Type 0
Coupled α i h s = CoupledBy α i h s s.status

-- ---- what was allowed, by the history before it

abbrev pub DeedAllowed : ℕ → ℕ → Deed → History → Type 0
DeedAllowed α i (admitted p w plan) h = (i < 8) × Vacant i h × (planned α p w ≡ Some plan)
DeedAllowed α i noticed h = MayNotice i h
DeedAllowed α i granted h = MayTake i h
DeedAllowed α i handed_back h = MayReturn i h
DeedAllowed α i (stored n d tries) h = MayReturn i h

abbrev pub SaveAnswered : Bool → ℕ → History → Type 0
SaveAnswered true i h = MayReturn i h
SaveAnswered false i h = MayReturn i h → ⊥

abbrev pub RefusalAllowed : Call → ℕ → History → Type 0
RefusalAllowed (opening m y p) why h = Unit {0}
RefusalAllowed (admit i p w) why h = Unit {0}
RefusalAllowed (notice i) why h = MayNotice i h → ⊥
RefusalAllowed (take i) why h = MayTake i h → ⊥
RefusalAllowed (hand_back i) why h = MayReturn i h → ⊥
RefusalAllowed (save i n d) why h = SaveAnswered (hands_back why) i h
RefusalAllowed (read n r) why h = Unit {0}
RefusalAllowed tick why h = Unit {0}

abbrev pub Allowed : ℕ → Entry → History → Type 0
Allowed α (opened m y p) h = Unit {0}
Allowed α (did i d) h = DeedAllowed α i d h
Allowed α (told n r d) h = Unit {0}
Allowed α (ticked n r c t) h = n ≡ runs_of_tick h
Allowed α (refused c why) h = RefusalAllowed c why h
Allowed α (programmed q l d g) h = Unit {0}
Allowed α (asked b) h = Unit {0}
Allowed α (erased b) h = Unit {0}

abbrev pub AllAllowed : ℕ → History → Type 0
AllAllowed α [] = Unit {0}
AllAllowed α (e ∷ h) = Allowed α e h × AllAllowed α h

abbrev pub Shows : View → (ℕ → Seat) → Type 0
Shows v l = (i : ℕ) → (v.account i ≡ (l i).account) × (v.charge i ≡ (l i).charge)

-- every history that the moves of seats can make: each call on a seat was accepted and refused as the history says;
-- each seat's record says what its history counts; and so does what can be seen of it
abbrev pub SeatsKept : Type 0
SeatsKept =
    (f : Frame) (h : History) (l : ℕ → Seat) (v : View) → Run f h l → Shows v l →
    AllAllowed f.alpha h ×
    ((i : ℕ) → Coupled f.alpha i h (l i)) ×
    ((i : ℕ) → Given (seat_plan i h) (Unit {0}) (λ t. emptied i t h ≡ false → SeatNow f i t h v))
