use Rattle.std.proofs.Common.{◌≡◌, ◌-◌, ◌*◌, ◌<◌, true, length, get_or, sym, arith}
use Rattle.std.proofs.lemmas.Grind.{common_steps}
use Rattle.std.proofs.lemmas.Bool.{cond-true, cond-false}
use Rattle.ledger.specs.Seats.{nobody, in_use}
use Rattle.ledger.proofs.Bounds.{job_adds_few}
use Rattle.ledger.proofs.Facts.{fair_of}
use Rattle.ledger.proofs.Sums.{extra_more}
use Rattle.ledger.proofs.ledger.Ledger.extra.Goals as goal
use Rattle.ledger.proofs.ledger.Ledger.extra.Goals.{then-is_in_use, else-is_in_use}

pub overflow_mul-sum : goal.overflow_mul-sum
overflow_mul-sum c = let b = fair_of c.args.self.now in grind (arith, common_steps, job_adds_few)

pub overflow_add-sum : goal.overflow_add-sum
overflow_add-sum c = let b = fair_of c.args.self.now in grind (arith, common_steps, job_adds_few)

pub loop-seat-preserved : goal.loop-seat-preserved
loop-seat-preserved c =
    let l = c.args.self.now in
    let b = fair_of l in
    let i = c.loop-seat.seat-index in
    let s = get_or l.seats i nobody in
    let there : i < length l.seats = omega (arith, b.eight) in
    let more = extra_more l.frame.alpha l.seats i there in
    let so_far = c.loop-seat.invariant.0 in
    let bound = c.loop-seat.invariant.1 in
    elim c.if-is_in_use.branch [
      | then-is_in_use w ↦ (
          let used : in_use s ≡ true = sym w.if-is_in_use.ensures in
          let part = cond-true (in_use s) ((s.plan.runs - 1) * l.frame.alpha) 0 used in
          let few = job_adds_few b s ((b.each i c.loop-seat-test.true).used used) in
          let sum = w.sum-is in
          (omega arith, omega arith)
          )
      | else-is_in_use w ↦ (
          let part = cond-false (in_use s) ((s.plan.runs - 1) * l.frame.alpha) 0 (sym w.if-is_in_use.ensures) in
          let sum = w.sum-is in
          (omega arith, omega arith)
          )
    ]
