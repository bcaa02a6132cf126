-- The arithmetic of a seat's clock: how many runs are due after e of σ ticks. Assumes nothing.
use Rattle.std.proofs.Common.{rules, ◌≡◌, ℕ, ◌*◌, ◌/◌, ◌<◌, ◌≤◌}
use native.Mathlib.Nat.{mul-div_cancel_left}

-- before the meta-period ends, one run at least is left
pub runs_left : (e k σ : ℕ) → 1 ≤ k → e < σ → e * k / σ < k
runs_left e k σ some before = search rules

-- at its end, none
pub runs_full : (k σ : ℕ) → 1 ≤ σ → σ * k / σ ≡ k
runs_full k σ some = mul-div_cancel_left k some
