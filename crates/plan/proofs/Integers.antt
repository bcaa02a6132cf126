-- The yield rule by sums is the yield rule over the integers. Assumes nothing.
use Rattle.std.proofs.Common.{◌≡◌, ℕ, zero, suc, ◌+◌, ◌*◌, Bool, ℤ, pos, ◌-ℤ◌, ◌*ℤ◌, ◌<ℤ◌, Decides, sym, subst, suc-mul, zero-mul, arith}
use Rattle.std.proofs.lemmas.Int.{ints}
use Rattle.std.proofs.lemmas.Bool.Decides.{Decides-at, Decides-like, Decides-ltb}
use Rattle.plan.specs.Yield.{YieldRule, IntegerRule, yield_rule}

-- the rule with an integer y for α − 1
abbrev With : ℕ → ℕ → ℕ → ℕ → ℤ → Type 0
With N π M H y = (y *ℤ pos N) <ℤ ((((pos N *ℤ pos π) -ℤ pos M) -ℤ pos H) -ℤ y)

less_one : (a : ℕ) → pos (suc a) -ℤ pos 1 ≡ pos a
less_one a = omega (arith, ints)

by_sums : (N π M H α : ℕ) → IntegerRule N π M H α → YieldRule N π M H α
by_sums N π M H zero r = let z = zero-mul N in omega (arith, ints)
by_sums N π M H (suc a) r =
    let at = subst (With N π M H) (less_one a) r in
    let z = suc-mul a N in
    omega (arith, ints)

by_integers : (N π M H α : ℕ) → YieldRule N π M H α → IntegerRule N π M H α
by_integers N π M H zero r = let z = zero-mul N in omega (arith, ints)
by_integers N π M H (suc a) r =
    let z = suc-mul a N in
    let at : With N π M H (pos a) = omega (arith, ints) in
    subst (With N π M H) (sym (less_one a)) at

pub over_integers : (N π M H α : ℕ) (r : Bool) → r ≡ yield_rule N π M H α → Decides r (IntegerRule N π M H α)
over_integers N π M H α r is =
    Decides-like r (by_integers N π M H α) (by_sums N π M H α) (Decides-at r (yield_rule N π M H α) is (Decides-ltb (M + H + α + α * N) (N * π + N + 1)))
