use Rattle.std.proofs.Common.{◌≡◌, ◌+◌, true, false, Some, sym, ◌∙◌, subst, arith}
use Rattle.ledger.specs.Books.{used_seat}
use Rattle.ledger.specs.Of.{books_of}
use Rattle.store.specs.State.{standing}
use Rattle.store.specs.Walking.{Midway}
use Rattle.store.proofs.Serving.{midway_can, midway_more, served_unused, served_used, entered_so, begun_so, stepped_unused}
use Rattle.store.proofs.open.Open.serve.Goals as goal

pub returns-then-not-enter : goal.returns-then-not-enter
returns-then-not-enter g c = λ n can.
    let s = standing g.C.Chip.means c.args.chip.now c.args.chooser.now (Some c.args.self.now) in
    let none : used_seat (books_of s.ledger) c.args.seat ≡ false = sym c.enter.ensures.answer ∙ c.if-not-enter.true in
    served_unused n c.args.seat c.args.so_far s can c.enter.new.self none (c.enter.ensures.books ∙ stepped_unused (books_of s.ledger) c.args.seat none)

pub returns-in_err-count : goal.returns-in_err-count
returns-in_err-count g c = λ n can.
    let s = standing g.C.Chip.means c.args.chip.now c.args.chooser.now (Some c.args.self.now) in
    let t = standing g.C.Chip.means c.loop.chip c.loop.chooser (Some c.loop.self) in
    let used : used_seat (books_of s.ledger) c.args.seat ≡ true = sym c.enter.ensures.answer ∙ c.if-not-enter.false in
    let began = begun_so n c.args.seat c.args.so_far s can c.enter.new.self used c.enter.ensures.books c.runs_due-due.result c.runs_due-due.ensures.value in
    absurd (c.in_err-count.ensures (n + c.loop.counter) (midway_can n c.args.seat c.runs_due-due.result c.loop.counter c.args.so_far _ began c.loop.count t (c.loop.invariant n began) (omega arith)))

pub loop-preserved : goal.loop-preserved
loop-preserved g c = λ n began.
    let t = standing g.C.Chip.means c.loop.chip c.loop.chooser (Some c.loop.self) in
    let u = standing g.C.Chip.means c.run.new.chip c.run.new.chooser (Some c.run.new.self) in
    let y = c.loop.invariant n began in
    midway_more n c.args.seat c.runs_due-due.result c.loop.counter c.args.so_far _ began c.loop.count t y (omega arith) c.in_ok-count.count u
    (c.in_ok-count.ensures (n + c.loop.counter) (midway_can n c.args.seat c.runs_due-due.result c.loop.counter c.args.so_far _ began c.loop.count t y (omega arith)))

pub returns : goal.returns
returns g c = λ n can.
    let s = standing g.C.Chip.means c.args.chip.now c.args.chooser.now (Some c.args.self.now) in
    let t = standing g.C.Chip.means c.loop.chip c.loop.chooser (Some c.loop.self) in
    let due = c.runs_due-due.result in
    let used : used_seat (books_of s.ledger) c.args.seat ≡ true = sym c.enter.ensures.answer ∙ c.if-not-enter.false in
    let began = begun_so n c.args.seat c.args.so_far s can c.enter.new.self used c.enter.ensures.books due c.runs_due-due.ensures.value in
    let all : c.loop.counter ≡ due = omega arith in
    let y = subst (λ x. Midway n c.args.seat c.args.so_far (standing g.C.Chip.means c.args.chip.now c.args.chooser.now (Some (record { ledger = c.enter.new.self; tables = c.args.self.now.tables }))) x c.loop.count t) all (c.loop.invariant n began) in
    served_used n c.args.seat c.args.so_far s can c.enter.new.self used (entered_so n c.args.seat c.args.so_far s can c.enter.new.self used c.enter.ensures.books) due c.loop.count t c.end.new.self began y c.end.ensures.books
