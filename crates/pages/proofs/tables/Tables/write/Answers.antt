use Rattle.std.proofs.Common.{◌≡◌, true, false, length, Some, None, Ok, subst, rules, arith}
use Rattle.chip.specs.Calls.{Programmed}
use Rattle.pages.specs.Search.{over, Found}
use Rattle.pages.proofs.Truth.{countable, replaceable}
use Rattle.pages.proofs.Writing.{trying_none, trying_stuck, trying_more, trying_good, failed_allowance}
use Rattle.pages.proofs.tables.Tables.write.Goals as goal

pub loop-page-init : goal.loop-page-init
loop-page-init g c = (omega arith, trying_none (g.C.Chip.means c.args.chip.now) c.args.self.now c.args.skip c.args.label c.args.bytes.now)

pub returns-in_err-page : goal.returns-in_err-page
returns-in_err-page g c = λ can.
    let n = g.C.Chip.means c.loop-page.chip in
    let t = c.loop-page.self in
    let y = c.loop-page.invariant.1 can in
    let none : c.place.result ≡ None = search rules in
    let stuck = subst (λ r. Found (over t.geometry.pages_per_block c.args.skip) n.pages t.start r) none (c.place.ensures.found y.can.tied.sized) in
    absurd (trying_stuck n t c.args.skip c.args.label (length c.args.bytes.now) y.can stuck)

pub returns-then-good : goal.returns-then-good
returns-then-good g c = λ can.
    let m = g.C.Chip.means c.args.chip.now in
    let n = g.C.Chip.means c.loop-page.chip in
    let o = g.C.Chip.means c.place.new.chip in
    let t = c.loop-page.self in
    let q = c.in_ok-page.page in
    let after = g.C.Chip.means c.program.new.self in
    let y = c.loop-page.invariant.1 can in
    let is : c.place.result ≡ Some q = search rules in
    let p = subst (λ r. Found (over t.geometry.pages_per_block c.args.skip) n.pages t.start r) is (c.place.ensures.found y.can.tied.sized) in
    let good : c.program.result ≡ Ok true = search rules in
    let did = subst (λ r. Programmed o q c.args.label c.args.bytes.now r after) good c.program.ensures.effect in
    trying_good m c.args.self.now c.args.skip c.args.label c.args.bytes.now c.loop-page.tries n t y q p
    o after c.settle.new.self c.loop-page.invariant.0 c.place.ensures.same did (c.settle.ensures (replaceable y.can.tied c.args.label y.can.known))

pub loop-page-preserved : goal.loop-page-preserved
loop-page-preserved g c =
    let m = g.C.Chip.means c.args.chip.now in
    let n = g.C.Chip.means c.loop-page.chip in
    let o = g.C.Chip.means c.place.new.chip in
    let t = c.loop-page.self in
    let q = c.in_ok-page.page in
    let after = g.C.Chip.means c.program.new.self in
    let is : c.place.result ≡ Some q = search rules in
    let bad : c.program.result ≡ Ok false = search rules in
    let did = subst (λ r. Programmed o q c.args.label c.args.bytes.now r after) bad c.program.ensures.effect in (
      failed_allowance m n o q c.args.label c.loop-page.tries c.args.bytes.now after c.loop-page.invariant.0 c.place.ensures.same did,
      λ can.
          let y = c.loop-page.invariant.1 can in
          let p = subst (λ r. Found (over t.geometry.pages_per_block c.args.skip) n.pages t.start r) is (c.place.ensures.found y.can.tied.sized) in
          trying_more m c.args.self.now c.args.skip c.args.label c.args.bytes.now c.loop-page.tries n t y q p
          o after c.spoil.new.self c.place.ensures.same did (c.spoil.ensures (countable y.can.tied q p.there)),
    )
