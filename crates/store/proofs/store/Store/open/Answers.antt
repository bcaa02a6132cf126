use Rattle.ledger.specs.Of.{books_of}
use Rattle.std.specs.Option.{option_map}
use Rattle.std.proofs.Common.{◌≡◌, Some, Ok, Err, ap, sym, refl, ◌∙◌, subst, rules, None}
use Rattle.chip.specs.declared.words.Shape.{Shape}
use Rattle.chip.specs.Meaning.{Meaning}
use Rattle.ledger.specs.Books.{answer}
use Rattle.store.specs.State.{standing}
use Rattle.store.specs.Effects.{asks_frame, blank, Opens}
use Rattle.store.specs.Seen.{seen}
use Rattle.store.proofs.Booking.{of_parts}
use Rattle.store.proofs.Entering.{entered_open}
use Rattle.store.proofs.Fresh.{not_opened, frame_refused, opened_with, opened_sized, fresh_tables}
use Rattle.store.proofs.store.Store.open.Goals as goal

pub returns-in_err-may_open : goal.returns-in_err-may_open
returns-in_err-may_open g c =
    let s = standing g.C.Chip.means c.self.inside.chip c.self.inside.chooser c.self.inside.opened in
    let t = standing g.C.Chip.means c.shape-shape.new.self s.chooser c.self.inside.opened in
    let refused : c.from_residual.result ≡ Err c.in_err-may_open.field-0.0 = search rules in
    let told = c.in_err-may_open.ensures ∙ ap (λ o. answer (asks_frame o c.framed-frame.result) tt) c.is_some.ensures in
    let e =
    subst (λ r. Opens s c.args.numbers c.args.alpha c.args.pool r t) (sym refused)
    (not_opened s c.args.numbers c.args.alpha c.args.pool c.framed-frame.result (c.framed-frame.ensures s.chip c.shape-shape.ensures.value) t c.in_err-may_open.field-0.0 told c.shape-shape.ensures.same refl refl refl refl) in
    let f = of_parts g.C.Chip.means c.self.view_is (λ x. Opens x c.args.numbers c.args.alpha c.args.pool c.from_residual.result t) e in
    record { effect = f; sound = search rules; promise = entered_open (seen g.C.Chip.means c.args.self.now) t c.args.numbers c.args.alpha c.args.pool c.from_residual.result (λ _. f) }

pub returns-in_err-ledger : goal.returns-in_err-ledger
returns-in_err-ledger g c =
    let s = standing g.C.Chip.means c.self.inside.chip c.self.inside.chooser c.self.inside.opened in
    let told = c.in_ok-may_open.ensures ∙ ap (λ o. answer (asks_frame o c.framed-frame.result) tt) c.is_some.ensures in
    let none : c.opened.result ≡ None = search rules in
    absurd (frame_refused s c.args.numbers c.args.alpha c.args.pool c.framed-frame.result (c.framed-frame.ensures s.chip c.shape-shape.ensures.value) (g.C.Chip.shaped c.self.inside.chip) c.in_ok-may_open.field-0 told (ap (option_map books_of) (sym none) ∙ c.opened.ensures))

pub invariant_of-geometry : goal.invariant_of-geometry
invariant_of-geometry g c =
    let s = standing g.C.Chip.means c.self.inside.chip c.self.inside.chooser c.self.inside.opened in
    let told = c.in_ok-may_open.ensures ∙ ap (λ o. answer (asks_frame o c.framed-frame.result) tt) c.is_some.ensures in
    record { sized = opened_sized s c.args.numbers c.args.alpha c.args.pool c.framed-frame.result (c.framed-frame.ensures s.chip c.shape-shape.ensures.value) (g.C.Chip.shaped c.self.inside.chip) c.in_ok-may_open.field-0 told c.shape-shape.result c.shape-shape.ensures.value }

pub invariant_of-self-2 : goal.invariant_of-self-2
invariant_of-self-2 g c =
    let s = standing g.C.Chip.means c.self.inside.chip c.self.inside.chooser c.self.inside.opened in
    let told = c.in_ok-may_open.ensures ∙ ap (λ o. answer (asks_frame o c.framed-frame.result) tt) c.is_some.ensures in
    let made : c.opened.result ≡ Some c.in_ok-ledger.ledger = search rules in
    let value = c.shape-shape.ensures.value in
    let same = c.shape-shape.ensures.same in
    let t = standing g.C.Chip.means c.erase_all.new.chip s.chooser (Some (record { ledger = c.in_ok-ledger.ledger; tables = c.fresh.result })) in
    let e =
    opened_with s c.args.numbers c.args.alpha c.args.pool c.framed-frame.result (c.framed-frame.ensures s.chip value) (g.C.Chip.shaped c.self.inside.chip) c.in_ok-may_open.field-0 told t c.in_ok-ledger.ledger (ap (option_map books_of) (sym made) ∙ c.opened.ensures)
    (c.erase_all.ensures (ap (λ (x : Shape). x.blocks) value ∙ sym (ap (λ (x : Meaning). x.blocks) same)) ∙ ap blank same) refl refl refl
    (fresh_tables s.chip c.shape-shape.result _ c.fresh.result value refl refl c.fresh.ensures.map c.fresh.ensures.dead c.fresh.ensures.free c.fresh.ensures.start c.fresh.ensures.geometry) in
    e.2

pub returns : goal.returns
returns g c =
    let s = standing g.C.Chip.means c.self.inside.chip c.self.inside.chooser c.self.inside.opened in
    let told = c.in_ok-may_open.ensures ∙ ap (λ o. answer (asks_frame o c.framed-frame.result) tt) c.is_some.ensures in
    let made : c.opened.result ≡ Some c.in_ok-ledger.ledger = search rules in
    let value = c.shape-shape.ensures.value in
    let same = c.shape-shape.ensures.same in
    let t = standing g.C.Chip.means c.erase_all.new.chip s.chooser (Some (record { ledger = c.in_ok-ledger.ledger; tables = c.fresh.result })) in
    let e =
    opened_with s c.args.numbers c.args.alpha c.args.pool c.framed-frame.result (c.framed-frame.ensures s.chip value) (g.C.Chip.shaped c.self.inside.chip) c.in_ok-may_open.field-0 told t c.in_ok-ledger.ledger (ap (option_map books_of) (sym made) ∙ c.opened.ensures)
    (c.erase_all.ensures (ap (λ (x : Shape). x.blocks) value ∙ sym (ap (λ (x : Meaning). x.blocks) same)) ∙ ap blank same) refl refl refl
    (fresh_tables s.chip c.shape-shape.result _ c.fresh.result value refl refl c.fresh.ensures.map c.fresh.ensures.dead c.fresh.ensures.free c.fresh.ensures.start c.fresh.ensures.geometry) in
    let f = of_parts g.C.Chip.means c.self.view_is (λ x. Opens x c.args.numbers c.args.alpha c.args.pool (Ok tt) t) e in
    record { effect = f; sound = e.2; promise = entered_open (seen g.C.Chip.means c.args.self.now) t c.args.numbers c.args.alpha c.args.pool (Ok tt) (λ _. f) }
