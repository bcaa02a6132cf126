use Rattle.std.proofs.Common.{◌≡◌, Some, Ok, Err, refl, ◌∙◌, rules}
use Rattle.ledger.specs.Books.{answer, asks_take, taken}
use Rattle.ledger.specs.Of.{books_of}
use Rattle.store.specs.State.{standing}
use Rattle.store.specs.Effects.{Takes}
use Rattle.store.specs.Seen.{seen}
use Rattle.store.proofs.Booking.{refusal_of, ledger_sound, from_parts, booked}
use Rattle.store.proofs.Entering.{entered_take}
use Rattle.store.proofs.store.Store.take.Goals as goal

pub invariant_of-self-2 : goal.invariant_of-self-2
invariant_of-self-2 g c =
    let is : c.self.inside.opened ≡ Some c.in_ok-open.open.now = search rules in
    let b = books_of c.in_ok-open.open.now.ledger in
    ledger_sound g.C.Chip.means c.self.inside.chip c.self.inside.chooser is c.self.invariant c.take.new.self (asks_take b c.args.seat) (taken b c.args.seat) c.take.ensures.books refl refl c.take.ensures.law

pub returns-in_err-open-clause-promise : goal.returns-in_err-open-clause-promise
returns-in_err-open-clause-promise g c = entered_take (seen g.C.Chip.means c.args.self.now) _ c.args.seat _ (λ _. search rules)

pub invariant_of-self-in_err-take : goal.invariant_of-self-in_err-take
invariant_of-self-in_err-take g c =
    let is : c.self.inside.opened ≡ Some c.in_ok-open.open.now = search rules in
    let b = books_of c.in_ok-open.open.now.ledger in
    ledger_sound g.C.Chip.means c.self.inside.chip c.self.inside.chooser is c.self.invariant c.take.new.self (asks_take b c.args.seat) (taken b c.args.seat) c.take.ensures.books refl refl c.take.ensures.law

pub returns-in_err-take : goal.returns-in_err-take
returns-in_err-take g c =
    let is : c.self.inside.opened ≡ Some c.in_ok-open.open.now = search rules in
    let b = books_of c.in_ok-open.open.now.ledger in
    let refused : c.from_residual-in_err-take.result ≡ Err c.in_err-take.field-0.0 = search rules in
    let told : c.from_residual-in_err-take.result ≡ answer (asks_take b c.args.seat) (record { seat = c.args.seat }) = refused ∙ refusal_of (asks_take b c.args.seat) c.in_err-take.field-0.0 (record { seat = c.args.seat }) c.in_err-take.ensures.answer in
    let t = standing g.C.Chip.means c.self.inside.chip c.self.inside.chooser (Some (record { ledger = c.take.new.self; tables = c.in_ok-open.open.now.tables })) in
    let e = from_parts g.C.Chip.means c.self.inside.chip c.self.inside.chooser is c.self.invariant c.self.view_is (λ s. Takes s c.args.seat c.from_residual-in_err-take.result t) (told, booked g.C.Chip.means c.self.inside.chip c.self.inside.chooser is c.self.invariant c.take.new.self (asks_take b c.args.seat) (taken b c.args.seat) c.take.ensures.books refl refl c.take.ensures.law) in
    record { effect = e; sound = search rules; promise = entered_take (seen g.C.Chip.means c.args.self.now) t c.args.seat c.from_residual-in_err-take.result (λ _. e) }

pub returns : goal.returns
returns g c =
    let is : c.self.inside.opened ≡ Some c.in_ok-open.open.now = search rules in
    let t = standing g.C.Chip.means c.self.inside.chip c.self.inside.chooser (Some (record { ledger = c.take.new.self; tables = c.in_ok-open.open.now.tables })) in
    let e = from_parts g.C.Chip.means c.self.inside.chip c.self.inside.chooser is c.self.invariant c.self.view_is (λ s. Takes s c.args.seat (Ok (record { seat = c.args.seat })) t) (search rules) in
    record { effect = e; sound = search rules; promise = entered_take (seen g.C.Chip.means c.args.self.now) t c.args.seat (Ok (record { seat = c.args.seat })) (λ _. e) }
