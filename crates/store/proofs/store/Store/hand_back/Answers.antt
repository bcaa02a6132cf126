use Rattle.std.proofs.Common.{◌≡◌, Some, refl, rules}
use Rattle.ledger.specs.Books.{asks_return, returned}
use Rattle.ledger.specs.Of.{books_of}
use Rattle.store.specs.State.{standing}
use Rattle.store.specs.Effects.{Returns}
use Rattle.store.specs.Seen.{seen}
use Rattle.store.proofs.Booking.{ledger_sound, from_parts, booked}
use Rattle.store.proofs.Entering.{entered_return}
use Rattle.store.proofs.store.Store.hand_back.Goals as goal

pub invariant_of-self-2 : goal.invariant_of-self-2
invariant_of-self-2 g c =
    let is : c.self.inside.opened ≡ Some c.in_ok-open.open.now = search rules in
    let b = books_of c.in_ok-open.open.now.ledger in
    ledger_sound g.C.Chip.means c.self.inside.chip c.self.inside.chooser is c.self.invariant c.hand_back.new.self (asks_return b c.args.permit.seat) (returned b c.args.permit.seat) c.hand_back.ensures.books refl refl c.hand_back.ensures.law

pub returns-in_err-open-clause-promise : goal.returns-in_err-open-clause-promise
returns-in_err-open-clause-promise g c = entered_return (seen g.C.Chip.means c.args.self.now) _ c.args.permit.seat _ (λ _. search rules)

pub returns : goal.returns
returns g c =
    let is : c.self.inside.opened ≡ Some c.in_ok-open.open.now = search rules in
    let b = books_of c.in_ok-open.open.now.ledger in
    let t = standing g.C.Chip.means c.self.inside.chip c.self.inside.chooser (Some (record { ledger = c.hand_back.new.self; tables = c.in_ok-open.open.now.tables })) in
    let e = from_parts g.C.Chip.means c.self.inside.chip c.self.inside.chooser is c.self.invariant c.self.view_is (λ s. Returns s c.args.permit.seat c.hand_back.result t) (c.hand_back.ensures.answer, booked g.C.Chip.means c.self.inside.chip c.self.inside.chooser is c.self.invariant c.hand_back.new.self (asks_return b c.args.permit.seat) (returned b c.args.permit.seat) c.hand_back.ensures.books refl refl c.hand_back.ensures.law) in
    record { effect = e; sound = search rules; promise = entered_return (seen g.C.Chip.means c.args.self.now) t c.args.permit.seat c.hand_back.result (λ _. e) }
