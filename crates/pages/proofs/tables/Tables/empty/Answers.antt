use Rattle.std.proofs.Common.{◌≡◌, ◌+◌, ◌-◌, ◌*◌, ◌<◌, ◌≤◌, length, sym, subst, rules, arith}
use Rattle.pages.specs.declared.emptied.Emptied.{Emptied}
use Rattle.pages.specs.Copy.{CanCopy, Copied}
use Rattle.pages.specs.Recycle.{EmptiedTo, added}
use Rattle.pages.proofs.Writing.{few_failures}
use Rattle.pages.proofs.Emptying.{emptied_none, copies_few, can_copy, counted, few_tries, added_few}
use Rattle.pages.proofs.tables.Tables.empty.Goals as goal

pub loop-page-init : goal.loop-page-init
loop-page-init g c = λ can.
    let first = c.args.block * c.args.self.now.geometry.pages_per_block in
    let none : first - first ≡ 0 = omega arith in
    rw (none, c.default-done.ensures.0, c.default-done.ensures.1) (emptied_none (g.C.Chip.means c.args.chip.now) c.args.self.now c.args.block can.tied)

pub returns-in_err-made : goal.returns-in_err-made
returns-in_err-made g c = λ can.
    let m = g.C.Chip.means c.args.chip.now in
    let n = g.C.Chip.means c.loop-page.chip in
    let long : length c.loop-page.buffer ≡ 512 = search rules in
    let i = c.loop-page.page - c.args.block * c.args.self.now.geometry.pages_per_block in
    let here : c.args.block * c.args.self.now.geometry.pages_per_block + i ≡ c.loop-page.page = omega arith in
    let e = c.loop-page.invariant can in
    let ready = can_copy m c.args.self.now c.args.block i c.loop-page.done.copies c.loop-page.done.tries n c.loop-page.self e (omega arith) 512 can in
    let ready-there = subst (λ p. CanCopy n c.loop-page.self c.args.block p 512) here ready in
    absurd (c.in_err-made.ensures (subst (λ x. CanCopy n c.loop-page.self c.args.block c.loop-page.page x) (sym long) ready-there))

pub loop-page-preserved : goal.loop-page-preserved
loop-page-preserved g c = λ can.
    let m = g.C.Chip.means c.args.chip.now in
    let t = c.args.self.now in
    let b = c.args.block in
    let n = g.C.Chip.means c.loop-page.chip in
    let long : length c.loop-page.buffer ≡ 512 = search rules in
    let i = c.loop-page.page - c.args.block * c.args.self.now.geometry.pages_per_block in
    let here : c.args.block * c.args.self.now.geometry.pages_per_block + i ≡ c.loop-page.page = omega arith in
    let o = g.C.Chip.means c.copy_one.new.chip in
    let d = c.loop-page.done in
    let made = c.in_ok-made.made in
    let e = c.loop-page.invariant can in
    let within : i < t.geometry.pages_per_block = omega arith in
    let ready = can_copy m t b i d.copies d.tries n c.loop-page.self e within 512 can in
    let ready-there = subst (λ p. CanCopy n c.loop-page.self b p 512) here ready in
    let made-there = c.in_ok-made.ensures (subst (λ x. CanCopy n c.loop-page.self b c.loop-page.page x) (sym long) ready-there) in
    let done = subst (λ p. Copied n c.loop-page.self b p made o c.copy_one.new.self) (sym here) made-there in
    let new = counted m t b i d n c.loop-page.self made o c.copy_one.new.self e within done in
    let few = copies_few m t b i d.copies d.tries n c.loop-page.self e within in
    let small : d.copies ≤ 31 = omega (arith, few, within, t.geometry.sized.3) in
    let more = added_few d.copies made small in
    let allowed = few_failures m (g.C.Chip.shaped c.args.chip.now) in
    let fits = few_tries m t b (i + 1) (added d made).copies (added d made).tries o c.copy_one.new.self new allowed more in
    let is : c.with-done.result ≡ added d made = c.with-done.ensures (omega (arith, small)) fits in
    let step : c.loop-page.page + 1 - b * t.geometry.pages_per_block ≡ i + 1 = omega arith in
    rw step (subst (λ (x : Emptied). EmptiedTo m t b (i + 1) x.copies x.tries o c.copy_one.new.self) (sym is) new)

pub returns : goal.returns
returns g c = λ can.
    let all : c.loop-page.page - c.args.block * c.args.self.now.geometry.pages_per_block ≡ c.args.self.now.geometry.pages_per_block = omega arith in
    rw all at (c.loop-page.invariant can)
