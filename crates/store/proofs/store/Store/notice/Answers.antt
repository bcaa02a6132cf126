use Rattle.std.proofs.Common.{◌≡◌, Some, refl, rules}
use Rattle.ledger.specs.Books.{asks_notice, noticed}
use Rattle.ledger.specs.Of.{books_of}
use Rattle.store.specs.State.{standing}
use Rattle.store.specs.Effects.{Notices}
use Rattle.store.specs.Seen.{seen}
use Rattle.store.proofs.Booking.{ledger_sound, from_parts, booked}
use Rattle.store.proofs.Entering.{entered_notice}
use Rattle.store.proofs.store.Store.notice.Goals as goal

pub invariant_of-self-2 : goal.invariant_of-self-2
invariant_of-self-2 g c =
    let is : c.self.inside.opened ≡ Some c.in_ok-open.open.now = search rules in
    let b = books_of c.in_ok-open.open.now.ledger in
    ledger_sound g.C.Chip.means c.self.inside.chip c.self.inside.chooser is c.self.invariant c.notice.new.self (asks_notice b c.args.seat) (noticed b c.args.seat) c.notice.ensures.books refl refl c.notice.ensures.law

pub returns-in_err-open-clause-promise : goal.returns-in_err-open-clause-promise
returns-in_err-open-clause-promise g c = entered_notice (seen g.C.Chip.means c.args.self.now) _ c.args.seat _ (λ _. search rules)

pub returns : goal.returns
returns g c =
    let is : c.self.inside.opened ≡ Some c.in_ok-open.open.now = search rules in
    let b = books_of c.in_ok-open.open.now.ledger in
    let t = standing g.C.Chip.means c.self.inside.chip c.self.inside.chooser (Some (record { ledger = c.notice.new.self; tables = c.in_ok-open.open.now.tables })) in
    let e = from_parts g.C.Chip.means c.self.inside.chip c.self.inside.chooser is c.self.invariant c.self.view_is (λ s. Notices s c.args.seat c.notice.result t) (c.notice.ensures.answer, booked g.C.Chip.means c.self.inside.chip c.self.inside.chooser is c.self.invariant c.notice.new.self (asks_notice b c.args.seat) (noticed b c.args.seat) c.notice.ensures.books refl refl c.notice.ensures.law) in
    record { effect = e; sound = search rules; promise = entered_notice (seen g.C.Chip.means c.args.self.now) t c.args.seat c.notice.result (λ _. e) }
