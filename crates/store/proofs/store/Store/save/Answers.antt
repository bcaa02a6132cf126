use Rattle.std.proofs.Common.{◌≡◌, Some, Ok, Err, refl, rules}
use Rattle.ledger.specs.Books.{asks_return, returned}
use Rattle.ledger.specs.Of.{books_of}
use Rattle.store.specs.State.{standing}
use Rattle.store.specs.Effects.{Saves}
use Rattle.store.specs.Seen.{seen}
use Rattle.store.proofs.Booking.{ledger_sound, of_parts, from_parts}
use Rattle.store.proofs.Saving.{always_written, saved, saved_sound}
use Rattle.store.proofs.Entering.{entered_save}
use Rattle.store.proofs.store.Store.save.Goals as goal

pub returns-in_err-open-clause-promise : goal.returns-in_err-open-clause-promise
returns-in_err-open-clause-promise g c = entered_save (seen g.C.Chip.means c.args.self.now) _ c.args.permit.seat c.args.number c.args.bytes.now _ (λ _. search rules)

pub returns-in_err-may_spend-clause-promise : goal.returns-in_err-may_spend-clause-promise
returns-in_err-may_spend-clause-promise g c = entered_save (seen g.C.Chip.means c.args.self.now) _ c.args.permit.seat c.args.number c.args.bytes.now _ (λ _. search rules)

pub invariant_of-self-in-Err : goal.invariant_of-self-in-Err
invariant_of-self-in-Err g c =
    let is : c.self.inside.opened ≡ Some c.in_ok-open.open.now = search rules in
    let b = books_of c.in_ok-open.open.now.ledger in
    ledger_sound g.C.Chip.means c.self.inside.chip c.self.inside.chooser is c.self.invariant c.hand_back.new.self (asks_return b c.args.permit.seat) (returned b c.args.permit.seat) c.hand_back.ensures.books refl refl c.hand_back.ensures.law

pub returns-in-Err : goal.returns-in-Err
returns-in-Err g c =
    let is : c.self.inside.opened ≡ Some c.in_ok-open.open.now = search rules in
    let b = books_of c.in_ok-open.open.now.ledger in
    let t = standing g.C.Chip.means c.self.inside.chip c.self.inside.chooser (Some (record { ledger = c.hand_back.new.self; tables = c.in_ok-open.open.now.tables })) in
    let kept = ledger_sound g.C.Chip.means c.self.inside.chip c.self.inside.chooser is c.self.invariant c.hand_back.new.self (asks_return b c.args.permit.seat) (returned b c.args.permit.seat) c.hand_back.ensures.books refl refl c.hand_back.ensures.law in
    let e = from_parts g.C.Chip.means c.self.inside.chip c.self.inside.chooser is c.self.invariant c.self.view_is (λ s. Saves s c.args.permit.seat c.args.number c.args.bytes.now (Err c.in-Err.refusal) t) (search rules, record { chip = refl; chooser = refl; is_open = refl; tables = refl }, search rules, λ _. kept) in
    record { effect = e; sound = kept; promise = entered_save (seen g.C.Chip.means c.args.self.now) t c.args.permit.seat c.args.number c.args.bytes.now (Err c.in-Err.refusal) (λ _. e) }

pub invariant_of-self-in_err-tries : goal.invariant_of-self-in_err-tries
invariant_of-self-in_err-tries g c =
    let is : c.self.inside.opened ≡ Some c.in_ok-open.open.now = search rules in
    absurd (always_written g.C.Chip.means c.self.inside.chip c.self.inside.chooser is c.self.invariant c.args.permit.seat c.args.number c.args.bytes.now c.in_ok-may_spend.ensures c.in_default.ensures c.write.new.chip c.write.new.self c.in_err-tries.ensures)

pub returns-in_err-tries : goal.returns-in_err-tries
returns-in_err-tries g c =
    let is : c.self.inside.opened ≡ Some c.in_ok-open.open.now = search rules in
    absurd (always_written g.C.Chip.means c.self.inside.chip c.self.inside.chooser is c.self.invariant c.args.permit.seat c.args.number c.args.bytes.now c.in_ok-may_spend.ensures c.in_default.ensures c.write.new.chip c.write.new.self c.in_err-tries.ensures)

pub invariant_of-self-2 : goal.invariant_of-self-2
invariant_of-self-2 g c =
    let is : c.self.inside.opened ≡ Some c.in_ok-open.open.now = search rules in
    saved_sound g.C.Chip.means c.self.inside.chip c.self.inside.chooser is c.self.invariant c.args.permit.seat c.args.number c.args.bytes.now c.in_ok-may_spend.ensures c.in_default.ensures c.write.new.chip c.write.new.self c.in_ok-tries.tries c.pay_for.new.self c.spend.new.self c.saturating_sub.result c.saturating_sub.ensures c.in_ok-tries.ensures c.pay_for.ensures.books c.spend.ensures.books

pub returns : goal.returns
returns g c =
    let is : c.self.inside.opened ≡ Some c.in_ok-open.open.now = search rules in
    let t = standing g.C.Chip.means c.write.new.chip c.self.inside.chooser (Some (record { ledger = c.spend.new.self; tables = c.write.new.self })) in
    let e = of_parts g.C.Chip.means c.self.view_is (λ s. Saves s c.args.permit.seat c.args.number c.args.bytes.now (Ok c.in_ok-tries.tries) t) (saved g.C.Chip.means c.self.inside.chip c.self.inside.chooser is c.self.invariant c.args.permit.seat c.args.number c.args.bytes.now c.in_ok-may_spend.ensures c.in_default.ensures c.write.new.chip c.write.new.self c.in_ok-tries.tries c.pay_for.new.self c.spend.new.self c.saturating_sub.result c.saturating_sub.ensures c.in_ok-tries.ensures c.pay_for.ensures.books c.spend.ensures.books) in
    record { effect = e; sound = saved_sound g.C.Chip.means c.self.inside.chip c.self.inside.chooser is c.self.invariant c.args.permit.seat c.args.number c.args.bytes.now c.in_ok-may_spend.ensures c.in_default.ensures c.write.new.chip c.write.new.self c.in_ok-tries.tries c.pay_for.new.self c.spend.new.self c.saturating_sub.result c.saturating_sub.ensures c.in_ok-tries.ensures c.pay_for.ensures.books c.spend.ensures.books; promise = entered_save (seen g.C.Chip.means c.args.self.now) t c.args.permit.seat c.args.number c.args.bytes.now (Ok c.in_ok-tries.tries) (λ _. e) }
