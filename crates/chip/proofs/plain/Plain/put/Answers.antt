use Rattle.std.proofs.Common.{refl, ap, ◌∙◌, arith}
use Rattle.chip.specs.Slot.{slot_of}
use Rattle.chip.specs.Shaping.{fit}
use Rattle.chip.proofs.Slots.{length_slot}
use Rattle.chip.proofs.Placing.{room_read, put_slot}
use Rattle.chip.proofs.plain.Plain.put.Goals as goal

pub write-requires-clause-small : goal.write-requires-clause-small
write-requires-clause-small c =
    let s = c.args.self.now.size in
    let ready = c.in_ok-at.ensures in
    let few = (fit s.blocks s.pages_per_block s.page_size _ ready.1.whole).few_bytes in
    let fits = ready.2 in omega arith

pub returns : goal.returns
returns c =
    let p = c.args.self.now in
    let ready = c.in_ok-at.ensures in
    let at = c.in_ok-at.at in
    let d = c.args.bytes.now in
    let wrote = c.write.ensures ∙ ap (λ n. slot_of n c.args.label d) (room_read p.size p.memory.now c.args.page at ready.1) in (
      ready.0,
      ready.2,
      record {
        whole = ready.1.whole;
        there = ready.1.there;
        fills = length_slot p.size.page_size c.args.label d ready.2;
        size = refl;
        bytes = put_slot p.size p.memory.now c.args.page at ready.1 c.write.new.slot _ wrote;
      },
    )
