-- How large the numbers of fair books can be. Assumes nothing.
use Rattle.std.proofs.lemmas.Grind.{common_steps}
use Rattle.std.proofs.Common.{rules, ℕ, ◌-◌, ◌*◌, ◌<◌, ◌≤◌, List, get_or, arith}
use Rattle.ledger.specs.declared.frame.Frame.{Frame}
use Rattle.ledger.specs.declared.seat.Seat.{Seat}
use Rattle.ledger.specs.Seats.{nobody}
use Rattle.ledger.specs.Shares.{holds}
use Rattle.ledger.specs.Fair.{Fair, JobFair}

module _ {xs : List Seat} {pool spare : ℕ} {f : Frame} (b : Fair xs pool spare f) where
  pub job_holds_few : (s : Seat) → JobFair f s → holds s ≤ 33824
  job_holds_few s j = grind (arith, common_steps)

  pub job_adds_few : (s : Seat) → JobFair f s → (s.plan.runs - 1) * f.alpha ≤ 32736
  job_adds_few s j = search rules

  pub holds_few : (i : ℕ) → i < 8 → holds (get_or xs i nobody) ≤ 33824
  holds_few i there = grind (arith, common_steps, job_holds_few)
