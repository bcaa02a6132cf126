-- Admission keeps the books fair. Assumes nothing.
use Rattle.std.proofs.lemmas.Grind.{common_steps}
use Rattle.std.proofs.Common.{rules, ◌≡◌, ℕ, ◌+◌, ◌-◌, ◌*◌, ◌<◌, ◌≤◌, false, ltb, get_or, set, Some, refl, subst, arith}
use Rattle.plan.specs.declared.numbers.Plan.{Plan}
use Rattle.plan.proofs.Law.{many_law, one_law}
use Rattle.plan.specs.Plan.{PlanLaw, plan_of, planned, many_runs, one_run}
use Rattle.std.proofs.lemmas.Bool.{cond_both, cond-false, ltb-true, ltb-false}
use Rattle.ledger.specs.declared.ledger.Ledger.{Ledger}
use Rattle.ledger.specs.Seats.{nobody, in_use, seated}
use Rattle.ledger.specs.Books.{collector_share, highest, extra}
use Rattle.ledger.specs.Fair.{Affordable, Fair}
use Rattle.ledger.specs.Of.{books_of}
use Rattle.ledger.proofs.Facts.{fair_of}
use Rattle.ledger.proofs.Jobs.{job_seat, seated_fair}
use Rattle.ledger.proofs.Puts.{fair_put_with, rule_under}
use Rattle.ledger.proofs.Sums.{extra_set}

pub record Sized (α p w : ℕ) (plan : Plan) : Type 0 where
  pub is : plan_of α p w ≡ plan
  pub runs_some : 1 ≤ plan.runs
  pub writes_few : plan.writes ≤ 1024
  pub runs_few : plan.runs ≤ 1024

-- the numbers that have a plan
pub record Ranged (α p w : ℕ) (plan : Plan) : Type 0 where
  pub yields : 1 ≤ α
  pub yields_few : α ≤ 32
  pub period : 1 ≤ p
  pub writes : 1 ≤ w
  pub writes_few : w ≤ 1024
  pub is : plan_of α p w ≡ plan

pub planned_ranged : (α p w : ℕ) (plan : Plan) → planned α p w ≡ Some plan → Ranged α p w plan
planned_ranged α p w plan planned-as = search rules

pub planned_law : (α p w : ℕ) (plan : Plan) → planned α p w ≡ Some plan → PlanLaw α p w plan
planned_law α p w plan planned-as =
    let r = planned_ranged α p w plan planned-as in
    subst (PlanLaw α p w) r.is
    (cond_both (ltb α w) (many_runs α p w) (one_run α p w) (PlanLaw α p w) (λ more. many_law α p w r.yields r.period (ltb-true α w more)) (λ fits. one_law α p w r.period r.writes (ltb-false α w fits)))

pub planned_sized : (α p w : ℕ) (plan : Plan) → planned α p w ≡ Some plan → PlanLaw α p w plan → Sized α p w plan
planned_sized α p w plan planned-as law = grind (arith, common_steps)

-- a new seat of an affordable plan
pub seated_put :
    (l : Ledger) (i : ℕ) (plan : Plan) → i < 8 → in_use (get_or l.seats i nobody) ≡ false → Affordable (books_of l) plan →
    Fair (set l.seats i (seated plan (collector_share l.frame))) (l.pool - (plan.writes + collector_share l.frame)) l.spare l.frame
seated_put l i plan there empty able =
    let f = l.frame in
    let b = fair_of l in
    let s = get_or l.seats i nobody in
    let t = seated plan (collector_share f) in
    let none = cond-false (in_use s) (s.plan.writes + collector_share f) 0 empty in
    let nothing = cond-false (in_use s) ((s.plan.runs - 1) * f.alpha) 0 empty in
    let sum = extra_set f.alpha l.seats i t (omega (arith, b.eight)) in
    let room = able.in_pool in
    fair_put_with b i t there (job_seat refl (seated_fair f plan able.lasts able.writes_some able.writes_few able.runs_few able.won_back)) (l.pool - (plan.writes + collector_share f)) (omega arith)
    (rule_under f.blocks f.pages_per_block f.numbers (highest (books_of l) + (plan.runs - 1) * f.alpha) (f.pool + f.allowance + extra f.alpha (set l.seats i t)) f.alpha (omega arith) able.rule)
