use Rattle.std.proofs.Common.{◌≡◌, Some, refl, rules}
use Rattle.store.specs.State.{standing}
use Rattle.store.specs.Effects.{Ticks}
use Rattle.store.specs.Seen.{seen}
use Rattle.store.proofs.Booking.{opened_sound, from_parts}
use Rattle.store.proofs.Entering.{entered_tick}
use Rattle.store.proofs.Passing.{ticked_sound}
use Rattle.store.proofs.store.Store.tick.Goals as goal

pub returns-in_err-open-clause-promise : goal.returns-in_err-open-clause-promise
returns-in_err-open-clause-promise g c = entered_tick (seen g.C.Chip.means c.args.self.now) _ _ (λ _. search rules)

pub invariant_of-self-2 : goal.invariant_of-self-2
invariant_of-self-2 g c =
    let is : c.self.inside.opened ≡ Some c.in_ok-open.open.now = search rules in
    let s = standing g.C.Chip.means c.self.inside.chip c.self.inside.chooser (Some c.in_ok-open.open.now) in
    let t = standing g.C.Chip.means c.pass.new.chip c.pass.new.chooser (Some c.pass.new.self) in
    ticked_sound s t c.pass.result refl refl (c.pass.ensures (opened_sound g.C.Chip.means c.self.inside.chip c.self.inside.chooser is c.self.invariant))

pub returns : goal.returns
returns g c =
    let is : c.self.inside.opened ≡ Some c.in_ok-open.open.now = search rules in
    let s = standing g.C.Chip.means c.self.inside.chip c.self.inside.chooser (Some c.in_ok-open.open.now) in
    let t = standing g.C.Chip.means c.pass.new.chip c.pass.new.chooser (Some c.pass.new.self) in
    let o = opened_sound g.C.Chip.means c.self.inside.chip c.self.inside.chooser is c.self.invariant in
    let e = from_parts g.C.Chip.means c.self.inside.chip c.self.inside.chooser is c.self.invariant c.self.view_is (λ x. Ticks x c.pass.result t) (c.pass.ensures o) in
    record { effect = e; sound = ticked_sound s t c.pass.result refl refl (c.pass.ensures o); promise = entered_tick (seen g.C.Chip.means c.args.self.now) t c.pass.result (λ _. e) }
