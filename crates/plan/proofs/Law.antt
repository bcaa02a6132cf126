-- The plan of the rules keeps the law of a plan. Assumes nothing.
use Rattle.std.proofs.Common.{◌≡◌, ℕ, ◌+◌, ◌-◌, ◌*◌, ◌/◌, ◌%◌, ◌^◌, ◌<◌, ◌≤◌, min, Some, subst, Bool, true, false, cond, ◌&&◌, ltb, leb, sym, refl, ap, ◌∙◌, mul_assoc, mul_comm, add-mul, mul-le-mul, mul-pos, le-div_iff_mul-le, div-le_self, arith}
use native.Mathlib.Nat.{mul-div-le, lt-div-mul-add, div-eq_of_lt-le}
use Rattle.std.proofs.lemmas.Bool.{and_parts, leb-true, ltb-true, ltb-false}
use Rattle.std.proofs.lemmas.Grind.{div_ceil_times}
use Rattle.std.proofs.lemmas.Option.{cond_some}
use Rattle.plan.specs.declared.numbers.Plan.{Plan}
use Rattle.plan.specs.Plan.{in_range, plan_of, planned, PlanLaw, ⌈◌/◌⌉, many_runs, one_run}

-- a quotient rounded up
pub rounded_up : (a b : ℕ) → 1 ≤ b → a / b + min 1 (a % b) ≡ ⌈ a / b ⌉
rounded_up a b h =
    let up = a / b + min 1 (a % b) in
    let times = div_ceil_times a b h in
    let more = add-mul up 1 b in
    sym (div-eq_of_lt-le {k = up} b {m = a + (b - 1)} (omega (arith, times.0, times.1)) (omega (arith, times.0, times.1)))

pub many_law : (α p w : ℕ) → 1 ≤ α → 1 ≤ p → α < w → PlanLaw α p w (many_runs α p w)
many_law α p w a b over =
    let up = lt-div-mul-add {a = w + (α - 1)} {b = α} a in
    let down = (le-div_iff_mul-le {k = α} {x = ⌈ w / α ⌉} {y = w + (α - 1)} a).0 (omega arith) in
    record {
      rate = refl;
      lasts = b;
      writes_some = omega arith;
      won_back = omega arith;
      none_to_spare = omega arith;
      full = λ fits. omega arith;
      single = λ fits. omega arith;
    }

pub one_law : (α p w : ℕ) → 1 ≤ p → 1 ≤ w → w ≤ α → PlanLaw α p w (one_run α p w)
one_law α p w b c fits =
    let some : 1 ≤ α / w = (le-div_iff_mul-le {k = w} {x = 1} {y = α} c).1 (omega arith) in
    let below = mul-div-le α w in
    let next = lt-div-mul-add {a = α} {b = w} c in
    let turned = mul_comm (α / w) w in
    record {
      rate = mul_assoc w (α / w) p ∙ ap (λ x. w * x) (mul_comm (α / w) p);
      lasts = mul-pos b some;
      writes_some = mul-pos c some;
      won_back = omega arith;
      none_to_spare = omega arith;
      full = λ _. omega arith;
      single = λ _. refl;
    }

-- the numbers of a plan are far below what a machine word holds
pub record Small (plan : Plan) : Type 0 where
  pub meta_period : plan.meta_period < 2 ^ 64
  pub writes : plan.writes < 2 ^ 64
  pub runs : plan.runs < 2 ^ 64

-- the ranges, as orders
pub record Ranges (α p w : ℕ) : Type 0 where
  pub yield_low : 1 ≤ α
  pub yield_high : α ≤ 32
  pub period_low : 1 ≤ p
  pub period_high : p ≤ 60000
  pub writes_low : 1 ≤ w
  pub writes_high : w ≤ 1024

pub ranges : (α p w : ℕ) → in_range α p w ≡ true → Ranges α p w
ranges α p w is =
    let parts = and_parts (leb 1 α && leb α 32) ((leb 1 p && leb p 60000) && (leb 1 w && leb w 1024)) is in
    let yields = and_parts (leb 1 α) (leb α 32) parts.0 in
    let others = and_parts (leb 1 p && leb p 60000) (leb 1 w && leb w 1024) parts.1 in
    let periods = and_parts (leb 1 p) (leb p 60000) others.0 in
    let writes = and_parts (leb 1 w) (leb w 1024) others.1 in
    record {
      yield_low = leb-true 1 α yields.0;
      yield_high = leb-true α 32 yields.1;
      period_low = leb-true 1 p periods.0;
      period_high = leb-true p 60000 periods.1;
      writes_low = leb-true 1 w writes.0;
      writes_high = leb-true w 1024 writes.1;
    }

-- every plan of the rules keeps the law
pub law_of : (α p w : ℕ) → in_range α p w ≡ true → PlanLaw α p w (plan_of α p w)
law_of α p w is = by (ranges α p w is) (ltb α w) refl
  where
    by : Ranges α p w → (v : Bool) → ltb α w ≡ v → PlanLaw α p w (cond v (many_runs α p w) (one_run α p w))
    by r true over = many_law α p w r.yield_low r.period_low (ltb-true α w over)
    by r false fits = one_law α p w r.period_low r.writes_low (ltb-false α w fits)

pub planned_law : (α p w : ℕ) (plan : Plan) → planned α p w ≡ Some plan → PlanLaw α p w plan
planned_law α p w plan is =
    let ranged = cond_some (in_range α p w) (plan_of α p w) plan is in
    subst (PlanLaw α p w) ranged.1 (law_of α p w ranged.0)

-- and is small
pub small_of : (α p w : ℕ) → in_range α p w ≡ true → Small (plan_of α p w)
small_of α p w is = by (ranges α p w is) (ltb α w) refl
  where
    by : Ranges α p w → (v : Bool) → ltb α w ≡ v → Small (cond v (many_runs α p w) (one_run α p w))
    by r true over =
        let fewer = div-le_self (w + (α - 1)) α in
        record { meta_period = omega arith; writes = omega arith; runs = omega arith }
    by r false fits =
        let several = div-le_self α w in
        let long = mul-le-mul {n₁ = p} {m₁ = α / w} {n₂ = 60000} {m₂ = 32} r.period_high (omega arith) in
        let below = mul-div-le α w in
        record { meta_period = omega arith; writes = omega arith; runs = omega arith }
