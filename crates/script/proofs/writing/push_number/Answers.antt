use Rattle.std.proofs.Common.{refl, arith}
use Rattle.script.proofs.Decimals.{wrote_none, room_left, wrote_more, wrote_all}
use Rattle.script.proofs.writing.push_number.Goals as goal

pub loop-rest-init : goal.loop-rest-init
loop-rest-init c = wrote_none c.args.number _ (omega arith) refl refl

pub overflow_sub-first : goal.overflow_sub-first
overflow_sub-first c = room_left c.args.number _ _ _ (omega arith) c.loop-rest.invariant c.loop-rest-test.true

pub loop-rest-preserved : goal.loop-rest-preserved
loop-rest-preserved c = wrote_more c.args.number _ _ _ (omega arith) c.loop-rest.invariant c.loop-rest-test.true

pub returns : goal.returns
returns c =
    let all = wrote_all c.args.number c.loop-rest.rest c.loop-rest.first c.loop-rest.digits (omega arith) c.loop-rest.invariant (omega arith) in
    rw (← all) c.extend_from_slice.ensures.items
