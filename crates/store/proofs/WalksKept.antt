-- How far a tick has come: its seats, its runs, and what follows from its history.
--
-- Between       the walk stands between two seats: it has passed those before, and made the runs that they owed
-- Inside        it is at a seat, whose clock has moved and of whose runs so many are made
-- Reached       that, with the history so far
use Rattle.std.proofs.lemmas.Grind.{common_steps}
use Rattle.std.proofs.Common.{◌≡◌, ℕ, zero, suc, ◌+◌, ◌-◌, ◌<◌, ◌≤◌, Bool, true, false, ltb, List, [], ◌∷◌, length, get_or, set, Option, sym, refl, ap, ◌∙◌, subst, le_of_suc-le-suc, not-suc-le-zero, add-one, arith, rules}
use Rattle.std.proofs.lemmas.Bool.{and_from, lt-ltb, cond-true, cond-false}
use Rattle.chip.specs.Meaning.{Page}
use Rattle.ledger.specs.declared.frame.Frame.{Frame}
use Rattle.ledger.specs.declared.seat.Seat.{Seat}
use Rattle.ledger.specs.Seats.{nobody, in_use, one_later, due, ran, ran_times, turned, passed}
use Rattle.ledger.specs.Books.{Books, seat_of, used_seat, entered, ran_once, ended}
use Rattle.ledger.specs.Steps.{owes}
use Rattle.ledger.specs.Walk.{walked}
use Rattle.ledger.proofs.Answered.{used_parts}
use Rattle.ledger.proofs.Walk.{walked_none, walked_length, walked_next, walked_more, none_yet, seat_after_runs, one_run_on, tick_ends}
use Rattle.history.specs.History.{erased, History, sum_first}
use Rattle.history.specs.Moves.{runs_due}
use Rattle.history.specs.Follows.{WithinTick}
use Rattle.history.proofs.Follows.{recycle_follows}
use Rattle.history.proofs.Laws.{work_counts}
use Rattle.store.specs.Tick.{Desk, Recycle, Walk, begun, unused, enters, runs_free, runs_recycled, ends}

-- ---- seats

-- a seat that nobody uses is passed without a trace
skipped : (α n : ℕ) (xs : List Seat) → in_use (get_or xs n nobody) ≡ false → walked α (suc n) xs ≡ walked α n xs
skipped α zero [] empty = refl
skipped α (suc n) [] empty = refl
skipped α zero (x ∷ xs) empty = search rules
skipped α (suc n) (x ∷ xs) empty = ap (λ (ys : List Seat). passed α x ∷ ys) (skipped α n xs empty)

-- a walk over all seats has passed each
pub walked_at : (α n : ℕ) (xs : List Seat) → length xs ≤ n → (i : ℕ) → get_or (walked α n xs) i nobody ≡ passed α (get_or xs i nobody)
walked_at α zero [] long i = refl
walked_at α (suc n) [] long i = refl
walked_at α zero (x ∷ xs) long i = absurd (not-suc-le-zero long)
walked_at α (suc n) (x ∷ xs) long zero = refl
walked_at α (suc n) (x ∷ xs) long (suc i) = walked_at α n xs (le_of_suc-le-suc long) i

sum_more : (n : ℕ) (g : ℕ → ℕ) → sum_first (n + 1) g ≡ sum_first n g + g n
sum_more n g = ap (λ (m : ℕ). sum_first m g) (add-one n)

-- a seat that is none of the eight is nobody's
unused_seat : (b : Books) (i : ℕ) → length b.seats ≡ 8 → used_seat b i ≡ false → in_use (seat_of b i) ≡ false
unused_seat b i eight q = grind (arith, common_steps)

module _ (b₀ : Books) (eight : length b₀.seats ≡ 8) where
  abbrev so_far : ℕ → List Seat
  so_far i = walked b₀.frame.alpha i b₀.seats

  pub record Between (i runs : ℕ) (seats : List Seat) : Type 0 where
    pub walked_to : seats ≡ walked b₀.frame.alpha i b₀.seats
    pub made : runs ≡ sum_first i (λ k. runs_due (seat_of b₀ k))

  pub record Inside (i runs : ℕ) (seats : List Seat) : Type 0 where
    pub there : i < 8
    pub used : in_use (seat_of b₀ i) ≡ true
    pub now : ℕ
    pub within : now ≤ due (one_later (seat_of b₀ i)) - (seat_of b₀ i).runs
    pub at : seats ≡ set (walked b₀.frame.alpha i b₀.seats) i (ran_times b₀.frame.alpha now (one_later (get_or (walked b₀.frame.alpha i b₀.seats) i nobody)))
    pub made : runs ≡ sum_first i (λ k. runs_due (seat_of b₀ k)) + now

  long_so_far : (i : ℕ) → length (so_far i) ≡ 8
  long_so_far i = walked_length b₀.frame.alpha i b₀.seats ∙ eight

  next_seat : (i : ℕ) → get_or (so_far i) i nobody ≡ seat_of b₀ i
  next_seat i = walked_next b₀.frame.alpha i b₀.seats

  pass_unused : (b : Books) (i runs : ℕ) → used_seat b i ≡ false → Between i runs b.seats → Between (i + 1) runs b.seats
  pass_unused b i runs q k =
      let long = ap length k.walked_to ∙ long_so_far i in
      let here : seat_of b i ≡ seat_of b₀ i = ap (λ (xs : List Seat). get_or xs i nobody) k.walked_to ∙ next_seat i in
      let empty : in_use (seat_of b₀ i) ≡ false = sym (ap in_use here) ∙ unused_seat b i long q in
      let none = cond-false (in_use (seat_of b₀ i)) (due (one_later (seat_of b₀ i)) - (seat_of b₀ i).runs) 0 empty in
      let more = sum_more i (λ k. runs_due (seat_of b₀ k)) in
      let was = k.made in
      record {
        walked_to = k.walked_to ∙ sym (skipped b₀.frame.alpha i b₀.seats empty) ∙ ap (λ (m : ℕ). walked b₀.frame.alpha m b₀.seats) (sym (add-one i));
        made = omega arith;
      }

  enter : (b : Books) (i runs : ℕ) → used_seat b i ≡ true → Between i runs b.seats → Inside i runs (entered b i).seats
  enter b i runs q k =
      let parts = used_parts b i q in
      let here : seat_of b i ≡ seat_of b₀ i = ap (λ (xs : List Seat). get_or xs i nobody) k.walked_to ∙ next_seat i in
      let long = long_so_far i in
      let was = k.made in
      record {
        there = parts.0;
        used = sym (ap in_use here) ∙ parts.1;
        now = 0;
        within = omega arith;
        at = ap (λ (xs : List Seat). set xs i (one_later (get_or xs i nobody))) k.walked_to ∙ none_yet b₀.frame.alpha i (so_far i) (omega (arith, parts.0));
        made = omega arith;
      }

  -- what is left to do at a seat
  owes_now : (b : Books) (i runs : ℕ) (k : Inside i runs b.seats) → owes b i ≡ due (one_later (seat_of b₀ i)) - ((seat_of b₀ i).runs + k.now)
  owes_now b i runs k =
      let long = long_so_far i in
      let low = k.there in
      let here : seat_of b i ≡ ran_times b₀.frame.alpha k.now (one_later (seat_of b₀ i)) =
      ap (λ (xs : List Seat). get_or xs i nobody) k.at
      ∙ seat_after_runs b₀.frame.alpha i (so_far i) (omega arith) k.now
      ∙ ap (λ (x : Seat). ran_times b₀.frame.alpha k.now (one_later x)) (next_seat i) in
      let used : used_seat b i ≡ true = and_from (ltb i 8) (in_use (seat_of b i)) (lt-ltb i 8 low) (ap in_use here ∙ k.used) in
      cond-true (used_seat b i) (due (seat_of b i) - (seat_of b i).runs) 0 used ∙ ap (λ (x : Seat). due x - x.runs) here

  run_once : (b : Books) (i runs : ℕ) → b.frame ≡ b₀.frame → 0 < owes b i → Inside i runs b.seats → Inside i (runs + 1) (ran_once b i).seats
  run_once b i runs frame some k =
      let long = long_so_far i in
      let there = k.there in
      let left = owes_now b i runs k in
      let few = k.within in
      let was = k.made in
      record {
        there = k.there;
        used = k.used;
        now = k.now + 1;
        within = omega arith;
        at = ap (λ (f : Frame). set b.seats i (ran f.alpha (seat_of b i))) frame
            ∙ ap (λ (xs : List Seat). set xs i (ran b₀.frame.alpha (get_or xs i nobody))) k.at
            ∙ one_run_on b₀.frame.alpha i (so_far i) (omega arith) k.now;
        made = omega arith;
      }

  end : (b : Books) (i runs : ℕ) → owes b i ≡ 0 → Inside i runs b.seats → Between (i + 1) runs (ended b i).seats
  end b i runs none k =
      let long = long_so_far i in
      let there = k.there in
      let left = owes_now b i runs k in
      let few = k.within in
      let here = next_seat i in
      let was = k.made in
      let all : k.now ≡ due (one_later (seat_of b₀ i)) - (seat_of b₀ i).runs = omega arith in
      let total = cond-true (in_use (seat_of b₀ i)) (due (one_later (seat_of b₀ i)) - (seat_of b₀ i).runs) 0 k.used in
      let more = sum_more i (λ k. runs_due (seat_of b₀ k)) in
      record {
        walked_to = ap (λ (xs : List Seat). set xs i (turned (get_or xs i nobody))) k.at
            ∙ tick_ends b₀.frame.alpha i (so_far i) (omega arith) (ap in_use here ∙ k.used) k.now (all ∙ sym (ap (λ (x : Seat). due (one_later x) - x.runs) here))
            ∙ ap (λ (x : Seat). set (so_far i) i (passed b₀.frame.alpha x)) here
            ∙ walked_more b₀.frame.alpha i b₀.seats;
        made = omega arith;
      }

  -- ---- with the history so far

  module _ (x₀ : Desk) (some : 0 < b₀.frame.pages_per_block) where
    abbrev At : ℕ → Bool → ℕ → List Seat → Type 0
    At i false runs seats = Between i runs seats
    At i true runs seats = Inside i runs seats

    abbrev Doing : Desk → ℕ → ℕ → ℕ → Type 0
    Doing x recycles copies tries = WithinTick b₀.frame x.past (λ k. seat_of b₀ k) x.maps x.pages recycles copies tries

    pub record Reached (i : ℕ) (inside : Bool) (runs recycles copies tries : ℕ) (b : Books) (x : Desk) : Type 0 where
      pub frame : b.frame ≡ b₀.frame
      pub doing : WithinTick b₀.frame x.past (λ k. seat_of b₀ k) x.maps x.pages recycles copies tries
      pub at : At i inside runs b.seats

    recycled : (f : Frame) (x y : Desk) (r c t more made : ℕ) → f ≡ b₀.frame → Recycle f x more made y → Doing x r c t → Doing y (r + 1) (c + more) (t + made)
    recycled f x y r c t more made frame cycle doing =
        let z : Recycle b₀.frame x more made y = subst (λ (g : Frame). Recycle g x more made y) frame cycle in
        let dead = work_counts b₀.frame x.past x.maps x.pages some doing.work z.block z.there in
        let enough = z.enough in
        let next = recycle_follows doing z.block made some z.there (omega arith) z.emptied z.programs in
        let seats = λ (k : ℕ). seat_of b₀ k in
        subst (λ (h : History). WithinTick b₀.frame h seats y.maps y.pages (r + 1) (c + more) (t + made)) (sym z.past)
        (subst (λ (m : ℕ → Option ℕ). WithinTick b₀.frame (erased z.block ∷ z.before.past) seats m y.pages (r + 1) (c + more) (t + made)) (sym z.maps)
        (subst (λ (p : List Page). WithinTick b₀.frame (erased z.block ∷ z.before.past) seats z.before.maps p (r + 1) (c + more) (t + made)) (sym z.pages) next))

    pub walk_reached : {i runs recycles copies tries : ℕ} {inside : Bool} {b : Books} {x : Desk} → Doing x₀ 0 0 0 → Walk b₀ x₀ i inside runs recycles copies tries b x
        → Reached i inside runs recycles copies tries b x
    walk_reached start begun =
        record { frame = refl; doing = start; at = record { walked_to = sym (walked_none b₀.frame.alpha b₀.seats); made = refl } }
    walk_reached start (unused {i = i} {runs = runs} {b = b} w q) =
        let k = walk_reached start w in
        record { frame = k.frame; doing = k.doing; at = pass_unused b i runs q k.at }
    walk_reached start (enters {i = i} {runs = runs} {b = b} w q) =
        let k = walk_reached start w in
        record { frame = k.frame; doing = k.doing; at = enter b i runs q k.at }
    walk_reached start (runs_free {i = i} {runs = runs} {b = b} w more room) =
        let k = walk_reached start w in
        record { frame = k.frame; doing = k.doing; at = run_once b i runs k.frame more k.at }
    walk_reached start (runs_recycled {i = i} {runs = runs} {recycles = r} {copies = c} {tries = t} {more = more} {made = made} {b = b} {x = x} {y = y} w left few cycle) =
        let k = walk_reached start w in
        record {
          frame = k.frame;
          doing = recycled b.frame x y r c t more made k.frame cycle k.doing;
          at = run_once b i runs k.frame left k.at;
        }
    walk_reached start (ends {i = i} {runs = runs} {b = b} w none) =
        let k = walk_reached start w in
        record { frame = k.frame; doing = k.doing; at = end b i runs none k.at }
