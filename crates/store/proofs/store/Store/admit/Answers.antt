use Rattle.std.proofs.Common.{◌≡◌, Some, refl, rules}
use Rattle.plan.specs.Plan.{plan_of}
use Rattle.ledger.specs.Books.{asks_admit, admitted}
use Rattle.ledger.specs.Of.{books_of}
use Rattle.store.specs.State.{standing}
use Rattle.store.specs.Effects.{Admits}
use Rattle.store.specs.Seen.{seen}
use Rattle.store.proofs.Booking.{opened_sound, ledger_sound, from_parts, booked}
use Rattle.store.proofs.Entering.{entered_admit}
use Rattle.store.proofs.store.Store.admit.Goals as goal

pub invariant_of-self-2 : goal.invariant_of-self-2
invariant_of-self-2 g c =
    let is : c.self.inside.opened ≡ Some c.in_ok-open.open.now = search rules in
    let b = books_of c.in_ok-open.open.now.ledger in
    ledger_sound g.C.Chip.means c.self.inside.chip c.self.inside.chooser is c.self.invariant c.admit.new.self (asks_admit b c.args.seat c.args.job.period c.args.job.writes) (admitted b c.args.seat (plan_of b.frame.alpha c.args.job.period c.args.job.writes)) c.admit.ensures.books refl refl c.admit.ensures.law

pub returns-in_err-open-clause-promise : goal.returns-in_err-open-clause-promise
returns-in_err-open-clause-promise g c = entered_admit (seen g.C.Chip.means c.args.self.now) _ c.args.seat c.args.job.period c.args.job.writes _ (λ _. search rules)

pub returns : goal.returns
returns g c =
    let is : c.self.inside.opened ≡ Some c.in_ok-open.open.now = search rules in
    let b = books_of c.in_ok-open.open.now.ledger in
    let t = standing g.C.Chip.means c.self.inside.chip c.self.inside.chooser (Some (record { ledger = c.admit.new.self; tables = c.in_ok-open.open.now.tables })) in
    let kept = booked g.C.Chip.means c.self.inside.chip c.self.inside.chooser is c.self.invariant c.admit.new.self (asks_admit b c.args.seat c.args.job.period c.args.job.writes) (admitted b c.args.seat (plan_of b.frame.alpha c.args.job.period c.args.job.writes)) c.admit.ensures.books refl refl c.admit.ensures.law in
    let e = from_parts g.C.Chip.means c.self.inside.chip c.self.inside.chooser is c.self.invariant c.self.view_is (λ s. Admits s c.args.seat c.args.job.period c.args.job.writes c.admit.result t) (c.admit.ensures.answer, kept) in
    record { effect = e; sound = kept.sound (opened_sound g.C.Chip.means c.self.inside.chip c.self.inside.chooser is c.self.invariant); promise = entered_admit (seen g.C.Chip.means c.args.self.now) t c.args.seat c.args.job.period c.args.job.writes c.admit.result (λ _. e) }
