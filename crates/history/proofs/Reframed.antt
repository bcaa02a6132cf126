-- The allowance plays no part in the promise, so a frame may be read off the chip at any time.
use Rattle.std.proofs.Common.{◌≡◌, ℕ, [], ◌∷◌, sym, subst}
use Rattle.ledger.specs.declared.frame.Frame.{Frame}
use Rattle.history.specs.History.{
  Call,
  opening,
  admit,
  notice,
  take,
  hand_back,
  save,
  read,
  tick,
  Deed,
  admitted,
  noticed,
  granted,
  handed_back,
  stored,
  Entry,
  opened,
  did,
  told,
  ticked,
  refused,
  programmed,
  asked,
  erased,
  History,
}
use Rattle.history.specs.Promise.{View, Given, DeedRight, RefusalRight, Right, Every, Promise, ShutPromise, frame_of}
use Rattle.history.specs.Joined.{PromiseReaches}

abbrev with_allowance : Frame → ℕ → Frame
with_allowance f a =
    record {
      blocks = f.blocks;
      pages_per_block = f.pages_per_block;
      page_size = f.page_size;
      allowance = a;
      numbers = f.numbers;
      alpha = f.alpha;
      pool = f.pool;
    }

module _ (f : Frame) (a : ℕ) where
  deed_right : (i : ℕ) (d : Deed) (h : History) → DeedRight f i d h → DeedRight (with_allowance f a) i d h
  deed_right i (admitted p w plan) h r = r
  deed_right i noticed h r = r
  deed_right i granted h r = r
  deed_right i handed_back h r = r
  deed_right i (stored n d t) h r = r

  refusal_right : (c : Call) (why : ℕ) (h : History) → RefusalRight f c why h → RefusalRight (with_allowance f a) c why h
  refusal_right (opening m y p) why h r = r
  refusal_right (admit i p w) why h r = r
  refusal_right (notice i) why h r = r
  refusal_right (take i) why h r = r
  refusal_right (hand_back i) why h r = r
  refusal_right (save i n d) why h r = r
  refusal_right (read n room) why h r = r
  refusal_right tick why h r = r

  right : (e : Entry) (h : History) → Right f e h → Right (with_allowance f a) e h
  right (opened m y p) h r = r
  right (did i d) h r = deed_right i d h r
  right (told n room d) h r = r
  right (ticked n r c t) h p = p
  right (refused c why) h r = refusal_right c why h r
  right (programmed q l d g) h r = r
  right (asked b) h r = r
  right (erased b) h r = r

  every : (h : History) → Every f h → Every (with_allowance f a) h
  every [] all = all
  every (e ∷ h) all = (right e h all.0, every h all.1)

  reframed : (h : History) (v : View) → Promise f h v → Promise (with_allowance f a) h v
  reframed h v p = record { opened_with = p.opened_with; every = every h p.every; kept = p.kept; named = p.named; chip = p.chip; seats = p.seats }

pub promise_reaches : PromiseReaches
promise_reaches f m h v blocks per_block page_size p =
    let same : frame_of m (f.numbers, f.alpha, f.pool) ≡ with_allowance f m.allowance =
    λ i.
    record {
      blocks = blocks i;
      pages_per_block = per_block i;
      page_size = page_size i;
      allowance = m.allowance;
      numbers = f.numbers;
      alpha = f.alpha;
      pool = f.pool;
    } in
    let there : Promise (frame_of m (f.numbers, f.alpha, f.pool)) h v = subst (λ x. Promise x h v) (sym same) (reframed f m.allowance h v p) in
    subst (λ o. Given o (ShutPromise h) (λ o. Promise (frame_of m o) h v)) (sym p.opened_with) there
