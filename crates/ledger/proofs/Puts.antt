-- Books stay fair when one fair seat takes the place of another. Assumes nothing.
use Rattle.std.proofs.lemmas.Grind.{common_steps}
use Rattle.std.proofs.Common.{rules, ◌≡◌, ℕ, ◌+◌, ◌-◌, ◌*◌, ◌<◌, ◌≤◌, true, List, length, get_or, set, sym, refl, ap, arith}
use Rattle.plan.specs.declared.numbers.Plan.{Plan}
use Rattle.plan.specs.Yield.{yield_rule}
use Rattle.std.proofs.lemmas.Bool.{cond-true}
use Rattle.ledger.specs.declared.frame.Frame.{Frame}
use Rattle.ledger.specs.declared.ledger.Ledger.{Ledger}
use Rattle.ledger.specs.declared.seat.Seat.{Seat}
use Rattle.ledger.specs.Seats.{nobody, is_serving, in_use, warned, took, gave_back, saved, one_later, due, ran}
use Rattle.ledger.specs.Books.{collector_share, extra}
use Rattle.ledger.specs.Fair.{Fair, Found, JobFair, SeatFair}
use Rattle.ledger.specs.Of.{books_of}
use Rattle.ledger.proofs.Facts.{fair_of}
use Rattle.ledger.proofs.Jobs.{job_seat, warned_fair, took_fair, gave_back_fair, saved_fair, one_later_fair, ran_fair}
use Rattle.ledger.specs.Shares.{had, adds}
use Rattle.ledger.proofs.Sums.{lent_set, extra_set}

-- with fewer tokens the yield rule stands all the more
pub rule_under : (N π M H G α : ℕ) → G ≤ H → yield_rule N π M H α ≡ true → yield_rule N π M G α ≡ true
rule_under N π M H G α less stands = search rules

module _ {xs : List Seat} {pool spare : ℕ} {f : Frame} (b : Fair xs pool spare f) (i : ℕ) (s : Seat) (within : i < 8) (fair : SeatFair f s) where
  there : i < length xs
  there = omega (arith, b.eight)

  -- one seat for another, and the pool with it
  pub fair_put_with :
      (after : ℕ) →
      after + had f s ≡ pool + had f (get_or xs i nobody) →
      yield_rule f.blocks f.pages_per_block f.numbers (f.pool + f.allowance + extra f.alpha (set xs i s)) f.alpha ≡ true →
      Fair (set xs i s) after spare f
  fair_put_with after moved rule = grind (arith, common_steps, lent_set)

  pub fair_put_down : (after : ℕ) → after + had f s ≡ pool + had f (get_or xs i nobody) → adds f.alpha s ≤ adds f.alpha (get_or xs i nobody) → Fair (set xs i s) after spare f
  fair_put_down after moved less =
      let sum = extra_set f.alpha xs i s there in
      fair_put_with after moved (rule_under _ _ _ (f.pool + f.allowance + extra f.alpha xs) _ _ (omega arith) b.rule)

  -- a seat of the same plan and standing
  pub fair_put : had f s ≡ had f (get_or xs i nobody) → adds f.alpha s ≡ adds f.alpha (get_or xs i nobody) → Fair (set xs i s) pool spare f
  fair_put same-had same-adds = fair_put_down pool (omega arith) (omega arith)

-- ---- the books of a ledger

-- a seat in use gives way to one of the same plan and standing
module _ (l : Ledger) {i : ℕ} {s : Seat} (found : Found (books_of l) i s) where
  pub fair_swap : (t : Seat) → t.plan ≡ s.plan → in_use t ≡ true → JobFair l.frame t → Fair (set l.seats i t) l.pool l.spare l.frame
  fair_swap t same used fair =
      let f = l.frame in
      let was = ap (had f) (sym found.is) in
      let had-was = cond-true (in_use s) (s.plan.writes + collector_share f) 0 found.used in
      let had-now = cond-true (in_use t) (t.plan.writes + collector_share f) 0 used in
      let writes = ap (λ (p : Plan). p.writes) same in
      let plus = ap (adds f.alpha) (sym found.is) in
      let adds-was = cond-true (in_use s) ((s.plan.runs - 1) * f.alpha) 0 found.used in
      let adds-now = cond-true (in_use t) ((t.plan.runs - 1) * f.alpha) 0 used in
      let runs = ap (λ (p : Plan). (p.runs - 1) * f.alpha) same in
      fair_put (fair_of l) i t found.there (job_seat used fair) (omega arith) (omega arith)

  pub warned_put : s.out ≡ 0 → Fair (set l.seats i (warned s)) l.pool l.spare l.frame
  warned_put none = fair_swap (warned s) refl refl (warned_fair found.fair none)

  pub took_put : is_serving s ≡ true → s.charge < s.plan.writes → Fair (set l.seats i (took s)) l.pool l.spare l.frame
  took_put serving room = fair_swap (took s) refl found.used (took_fair found.fair serving room)

  pub gave_back_put : 0 < s.out → Fair (set l.seats i (gave_back s)) l.pool l.spare l.frame
  gave_back_put out = fair_swap (gave_back s) refl found.used (gave_back_fair found.fair out)

  pub saved_put : 0 < s.out → Fair (set l.seats i (saved s)) l.pool l.spare l.frame
  saved_put out = fair_swap (saved s) refl found.used (saved_fair found.fair out)

  pub one_later_put : s.elapsed < s.plan.meta_period → Fair (set l.seats i (one_later s)) l.pool l.spare l.frame
  one_later_put before = fair_swap (one_later s) refl found.used (one_later_fair found.fair before)

  pub ran_put : s.runs < due s → Fair (set l.seats i (ran l.frame.alpha s)) l.pool l.spare l.frame
  ran_put more = fair_swap (ran l.frame.alpha s) refl found.used (ran_fair found.fair more)

  -- the same for what a function made of the seat, at an index that is the seat's number
  pub put_as : {k : ℕ} {t u : Seat} → k ≡ i → t ≡ u → Fair (set l.seats i u) l.pool l.spare l.frame → Fair (set l.seats k t) l.pool l.spare l.frame
  put_as at is fair = search rules

pub put_as_with :
    (l : Ledger) (i : ℕ) {k p q : ℕ} {t u : Seat} → k ≡ i → t ≡ u → p ≡ q → Fair (set l.seats i u) q l.spare l.frame → Fair (set l.seats k t) p l.spare l.frame
put_as_with l i at is much fair = search rules
