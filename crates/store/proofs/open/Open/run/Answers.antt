use Rattle.std.proofs.Common.{◌≡◌, ◌+◌, ◌-◌, ◌<◌, ◌≤◌, Some, sym, ap, ◌∙◌, subst, arith}
use Rattle.ledger.specs.Books.{tokens}
use Rattle.ledger.specs.Of.{books_of}
use Rattle.pages.specs.Recycle.{all_free}
use Rattle.store.specs.State.{standing, paid_for}
use Rattle.store.specs.Walking.{one_run, one_recycle, Ran}
use Rattle.store.proofs.Running.{small_counts, ran_free, ready, small_recycle, ran_recycled}
use Rattle.store.proofs.open.Open.run.Goals as goal

pub returns-then-from-wanted : goal.returns-then-from-wanted
returns-then-from-wanted g c = λ n can.
    let s = standing g.C.Chip.means c.args.chip.now c.args.chooser.now (Some c.args.self.now) in
    let k = c.args.so_far in
    let small = small_counts n k s.chip can.few can.little in
    let is : c.with_run.result ≡ one_run k = c.with_run.ensures small.0 in
    let wide : tokens (books_of s.ledger) + (books_of s.ledger).frame.alpha ≤ all_free s.chip = omega (arith, can.sound.tied.free_pages) in
    subst (λ l. Ran n c.args.seat k s l (standing g.C.Chip.means c.args.chip.now c.args.chooser.now (Some (record { ledger = c.ran.new.self; tables = c.args.self.now.tables })))) (sym is)
    (ran_free n c.args.seat k s can c.ran.new.self c.ran.ensures.books wide)

pub returns-in_err-done : goal.returns-in_err-done
returns-in_err-done g c = λ n can.
    let s = standing g.C.Chip.means c.args.chip.now c.args.chooser.now (Some c.args.self.now) in
    let short : all_free s.chip < tokens (books_of s.ledger) + (books_of s.ledger).frame.alpha = omega (arith, can.sound.tied.free_pages) in
    absurd (c.in_err-done.ensures (books_of s.ledger).frame.alpha (ready n c.args.seat c.args.so_far s can short))

pub returns : goal.returns
returns g c = λ n can.
    let s = standing g.C.Chip.means c.args.chip.now c.args.chooser.now (Some c.args.self.now) in
    let m = c.recycle.new.chip in
    let k = c.args.so_far in
    let d = c.in_ok-done.done in
    let short : all_free s.chip < tokens (books_of s.ledger) + (books_of s.ledger).frame.alpha = omega (arith, can.sound.tied.free_pages) in
    let r = c.in_ok-done.ensures (books_of s.ledger).frame.alpha (ready n c.args.seat k s can short) in
    let paid : books_of c.pay_for.new.self ≡ paid_for (d.tries - d.copies) (books_of s.ledger) = c.pay_for.ensures.books ∙ ap (λ x. paid_for x (books_of s.ledger)) c.saturating_sub.ensures in
    let small = small_counts n k s.chip can.few can.little in
    let more = small_recycle n c.args.seat k s can short m c.recycle.new.chooser d c.recycle.new.self r c.pay_for.new.self c.ran-2.new.self paid c.ran-2.ensures.books in
    let is : c.with_recycle.result ≡ one_recycle k d = c.with_recycle.ensures small.0 small.1 more.0 more.1 in
    subst (λ l. Ran n c.args.seat k s l (standing g.C.Chip.means m c.recycle.new.chooser (Some (record { ledger = c.ran-2.new.self; tables = c.recycle.new.self })))) (sym is)
    (ran_recycled n c.args.seat k s can short m c.recycle.new.chooser d c.recycle.new.self r c.pay_for.new.self c.ran-2.new.self paid c.ran-2.ensures.books)
