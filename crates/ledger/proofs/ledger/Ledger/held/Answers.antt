use Rattle.std.proofs.Common.{◌<◌, length, arith}
use Rattle.ledger.proofs.Bounds.{holds_few}
use Rattle.ledger.proofs.Facts.{fair_of}
use Rattle.ledger.proofs.Sums.{held_more}
use Rattle.ledger.proofs.ledger.Ledger.held.Goals as goal

pub overflow_add-sum : goal.overflow_add-sum
overflow_add-sum c =
    let b = fair_of c.args.self.now in
    let few = holds_few b c.loop-seat.seat-index (omega (arith, b.eight)) in
    omega arith

pub overflow_add-sum-in-loop-seat : goal.overflow_add-sum-in-loop-seat
overflow_add-sum-in-loop-seat c =
    let b = fair_of c.args.self.now in
    let few = holds_few b c.loop-seat.seat-index (omega (arith, b.eight)) in
    let so_far = c.loop-seat.invariant.1 in
    let eight = b.eight in
    omega arith

pub loop-seat-preserved : goal.loop-seat-preserved
loop-seat-preserved c =
    let b = fair_of c.args.self.now in
    let few = holds_few b c.loop-seat.seat-index (omega (arith, b.eight)) in
    let there : c.loop-seat.seat-index < length c.args.self.now.seats = omega (arith, b.eight) in
    let more = held_more c.args.self.now.seats c.loop-seat.seat-index there in
    let so_far = c.loop-seat.invariant.0 in
    let bound = c.loop-seat.invariant.1 in
    (omega arith, omega arith)
