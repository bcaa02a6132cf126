use Rattle.std.proofs.Common.{◌≡◌, true, Some, Ok, Err, ap, sym, ◌∙◌, rules, arith}
use Rattle.std.specs.Result.{is_err}
use Rattle.chip.specs.Calls.{fetched_into}
use Rattle.ledger.specs.declared.frame.Frame.{Frame}
use Rattle.store.proofs.Reading.{short, error_of}
use Rattle.ledger.specs.declared.refusal.Refusal.TheVariants.{NoSuchNumber, BufferTooShort}
use Rattle.pages.specs.Tied.{maps_of}
use Rattle.store.specs.State.{standing}
use Rattle.store.specs.Effects.{Reads}
use Rattle.store.specs.Seen.{seen}
use Rattle.store.proofs.Booking.{of_parts}
use Rattle.store.proofs.Entering.{entered_read}
use Rattle.store.proofs.store.Store.read.Goals as goal

pub returns-in_err-open-clause-promise : goal.returns-in_err-open-clause-promise
returns-in_err-open-clause-promise g c = entered_read (seen g.C.Chip.means c.args.self.now) _ c.args.number c.args.buffer.now c.args.buffer.now _ (λ _. search rules)

pub returns-then-from-frame-clause-promise : goal.returns-then-from-frame-clause-promise
returns-then-from-frame-clause-promise g c = entered_read (seen g.C.Chip.means c.args.self.now) _ c.args.number c.args.buffer.now c.args.buffer.now (Err NoSuchNumber) (λ _. search rules)

pub returns-in_err-page-clause-promise : goal.returns-in_err-page-clause-promise
returns-in_err-page-clause-promise g c = entered_read (seen g.C.Chip.means c.args.self.now) _ c.args.number c.args.buffer.now c.args.buffer.now _ (λ _. search rules)

pub returns-in_err-length-clause-promise : goal.returns-in_err-length-clause-promise
returns-in_err-length-clause-promise g c =
    let is : c.self.inside.opened ≡ Some c.in_ok-open.open.now = search rules in
    let named : Some c.in_ok-page.page ≡ maps_of c.in_ok-open.open.now.tables c.args.number = search rules in
    let numbers = ap (λ (f : Frame). f.numbers) c.frame.ensures in
    let failed : is_err c.fetch.result ≡ true = search rules in
    let answered : c.from_residual-in_err-length.result ≡ Err BufferTooShort = search rules in
    let e = error_of c.fetch.result failed in
    let told = sym e.1 ∙ c.fetch.ensures.value in
    let stays = c.fetch.ensures.buffer ∙ ap (λ r. fetched_into (g.C.Chip.means c.self.inside.chip) c.in_ok-page.page r c.args.buffer.now) e.1 in
    let read =
    of_parts g.C.Chip.means c.self.view_is (λ x. Reads x c.args.number c.args.buffer.now (Err BufferTooShort) (standing g.C.Chip.means c.fetch.new.self c.self.inside.chooser c.self.inside.opened) c.fetch.new.buffer)
    (short g.C.Chip.means c.self.inside.chip c.fetch.new.self c.self.inside.chooser is c.self.invariant c.args.number c.args.buffer.now c.fetch.new.buffer
    c.fetch.ensures.same (omega (arith, numbers, c.from.ensures, c.if-from-frame.false)) c.in_ok-page.page (λ _. named) e.0 told stays) in
    rw answered (entered_read (seen g.C.Chip.means c.args.self.now) _ c.args.number c.args.buffer.now c.fetch.new.buffer (Err BufferTooShort) (λ _. read))

pub returns-clause-promise : goal.returns-clause-promise
returns-clause-promise g c = entered_read (seen g.C.Chip.means c.args.self.now) _ c.args.number c.args.buffer.now c.fetch.new.buffer (Ok c.in_ok-length.length) (λ _. search rules)
