-- What each move makes of the number of tokens. Assumes nothing.
use Rattle.std.proofs.lemmas.Grind.{common_steps}
use Rattle.std.proofs.Common.{◌≡◌, ℕ, suc, ◌+◌, ◌-◌, ◌<◌, ◌≤◌, Bool, true, false, cond, not, ◌&&◌, eqb, List, [], ◌∷◌, length, get_or, None, refl, mul_comm, arith}
use Rattle.plan.specs.declared.numbers.Plan.{Plan}
use Rattle.std.proofs.lemmas.Bool.{eqb-true}
use Rattle.ledger.specs.declared.frame.Frame.{Frame}
use Rattle.ledger.specs.declared.seat.Seat.{Seat}
use Rattle.ledger.specs.declared.seat.Status.{Status}
use Rattle.ledger.specs.declared.seat.Status.TheVariants.{Empty, Serving, OnNotice}
use Rattle.ledger.specs.Seats.{nobody, is_empty, in_use, empty_status, serving_status, due, at_end, turned}
use Rattle.ledger.specs.Books.{Books, seat_of, held, tokens, extra, highest, lent, collector_share, used_seat, asks_return, with_seat, admitted, noticed, taken, returned, spent, entered, ran_once, ended}
use Rattle.ledger.specs.Fair.{FairBooks, JobFair, SeatFair}
use Rattle.ledger.specs.Settled.{Below}
use Rattle.ledger.specs.Shares.{holds, had, adds}
use Rattle.ledger.proofs.Clockwork.{runs_full}
use Rattle.ledger.proofs.Ends.{back}
use Rattle.ledger.proofs.Jobs.{out_paid}
use Rattle.ledger.proofs.Sums.{held_set, held_has}

module _ (b : Books) (i : ℕ) where
  -- another record with as many tokens
  tokens_same : (s : Seat) → holds s ≡ holds (seat_of b i) → tokens (with_seat b i s) ≡ tokens b
  tokens_same s same = grind (arith, common_steps, held_set)

  pub tokens_noticed : tokens (noticed b i) ≡ tokens b
  tokens_noticed = tokens_same _ refl

  pub tokens_taken : tokens (taken b i) ≡ tokens b
  tokens_taken = tokens_same _ refl

  pub tokens_returned : tokens (returned b i) ≡ tokens b
  tokens_returned = tokens_same _ refl

  pub tokens_entered : tokens (entered b i) ≡ tokens b
  tokens_entered = tokens_same _ refl

  pub tokens_ran : i < length b.seats → tokens (ran_once b i) ≡ tokens b + b.frame.alpha
  tokens_ran there = grind (arith, common_steps, held_set)

  pub tokens_admitted :
      FairBooks b → i < 8 → is_empty (seat_of b i) ≡ true → (plan : Plan) → plan.writes + collector_share b.frame ≤ b.pool →
      tokens (admitted b i plan) ≡ tokens b
  tokens_admitted fair there empty plan room = grind (arith, common_steps, held_set)

  -- a stored save takes one token, of its seat's account
  pub tokens_spent : FairBooks b → asks_return b i ≡ None → tokens (spent b i) + 1 ≡ tokens b
  tokens_spent fair granted = grind (arith, common_steps, held_set, out_paid)

-- ---- the end of a meta-period

module _ {f : Frame} {s : Seat} (j : JobFair f s) where
  -- once all runs of a meta-period are made, the account holds what the next one starts with
  pub turn_pays : s.elapsed ≡ s.plan.meta_period → s.runs ≡ due s → s.plan.writes ≤ s.account
  turn_pays full made = grind (arith, common_steps, runs_full, mul_comm)

  end_holds :
      (t : Bool) (st : Status) → eqb s.elapsed s.plan.meta_period ≡ t → s.runs ≡ due s →
      cond (not (empty_status st) && (not (serving_status st) && t)) (s.plan.writes + collector_share f) 0 + holds (cond t (at_end st s) s) ≤ holds s
  end_holds true Empty full made = omega arith
  end_holds true Serving full made = let pays = turn_pays (eqb-true _ _ full) made in omega arith
  end_holds true OnNotice full made = let pays = turn_pays (eqb-true _ _ full) made in omega (arith, j.copies_paid)
  end_holds false Empty full made = omega arith
  end_holds false Serving full made = omega arith
  end_holds false OnNotice full made = omega arith

  pub ends_lower : s.runs ≡ due s → back f s + holds (turned s) ≤ holds s
  ends_lower made = end_holds (eqb s.elapsed s.plan.meta_period) s.status refl made

-- the end of a seat's tick never makes tokens
pub tokens_ended : (b : Books) (i : ℕ) → FairBooks b → (used_seat b i ≡ true → (seat_of b i).runs ≡ due (seat_of b i)) → tokens (ended b i) ≤ tokens b
tokens_ended b i fair made = grind (arith, common_steps, held_set, ends_lower)

-- ---- the cap

-- sums over a list keep an order that holds of each element
module _ (F H K : List Seat → ℕ) (p q r : Seat → ℕ) (f-step : (x : Seat) (xs : List Seat) → F (x ∷ xs) ≡ p x + F xs) (h-step : (x : Seat) (xs : List Seat) → H (x ∷ xs) ≡ q x + H xs) (k-step : (x : Seat) (xs : List Seat) → K (x ∷ xs) ≡ r x + K xs) where
  sums_within : F [] ≡ 0 → (xs : List Seat) → ((i : ℕ) → i < length xs → p (get_or xs i nobody) ≤ q (get_or xs i nobody) + r (get_or xs i nobody)) → F xs ≤ H xs + K xs
  sums_within none [] each = omega (arith, none)
  sums_within none (x ∷ xs) each =
      let here = each 0 (omega arith) in
      let rest = sums_within none xs (λ i there. each (suc i) (omega arith)) in
      omega (arith, f-step x xs, h-step x xs, k-step x xs)

-- a seat that still has a run to make holds at most its share and the yield of the runs before the last
pub seat_cap : {f : Frame} {s : Seat} → SeatFair f s → (in_use s ≡ true → s.runs < s.plan.runs) → holds s ≤ had f s + adds f.alpha s
seat_cap {f} {s} fair below = grind (arith, common_steps)

-- whenever a block is chosen, the tokens are at most what the yield rule reckons with
pub tokens_capped : (b : Books) → FairBooks b → Below b → tokens b ≤ highest b
tokens_capped b fair below =
    let f = b.frame in
    let eight = fair.eight in
    let each : (i : ℕ) → i < length b.seats → holds (get_or b.seats i nobody) ≤ had f (get_or b.seats i nobody) + adds f.alpha (get_or b.seats i nobody) =
    λ i there. (let within : i < 8 = omega arith in seat_cap (fair.each i within) (below i within)) in
    let sum = sums_within held (lent f) (extra f.alpha) holds (had f) (adds f.alpha) (λ _ _. refl) (λ _ _. refl) (λ _ _. refl) refl b.seats each in
    omega (arith, fair.lent_out, fair.spare_within)

-- a collector's tokens are among those that are not spare
pub collector_within : (b : Books) (i : ℕ) → FairBooks b → used_seat b i ≡ true → collector_share b.frame + b.spare ≤ tokens b
collector_within b i fair used = grind (arith, common_steps, held_has)

-- a permit that is out is paid for, by a token that is not spare
pub permit_paid : (b : Books) (i : ℕ) → FairBooks b → asks_return b i ≡ None → (0 < (seat_of b i).account) × (b.spare < tokens b)
permit_paid b i fair granted = grind (arith, common_steps, held_has, out_paid)

-- the pool is what is not lent
pub pool_left : (b : Books) → FairBooks b → b.pool ≡ b.frame.pool - lent b.frame b.seats
pool_left b fair = omega (arith, fair.lent_out)
