use Rattle.std.proofs.Common.{rules, ◌<◌, ◌≤◌, mul-le-mul, arith}
use Rattle.ledger.specs.Seats.{due}
use Rattle.ledger.specs.Books.{with_seat}
use Rattle.ledger.specs.Of.{books_of}
use Rattle.ledger.proofs.Facts.{fair_of}
use Rattle.ledger.proofs.Jobs.{account_within, due_within}
use Rattle.ledger.proofs.Puts.{put_as, ran_put}
use Rattle.ledger.proofs.Kept.{run_adds}
use Rattle.ledger.proofs.ledger.Ledger.ran.Goals as goal

pub ran-requires : goal.ran-requires
ran-requires c =
    let b = fair_of c.args.self.now in
    let j = c.in-Ok.ensures.found.fair in
    let most = account_within j in
    let made = due_within j in
    let small : c.args.self.now.frame.alpha ≤ 32 = omega (arith, b.yields_within, b.small_blocks) in
    let few : c.in-Ok.found.runs ≤ 1024 = omega (arith, j.runs_few) in
    let won = mul-le-mul small few in
    (omega (arith, j.writes_few, b.yields_within, b.small_blocks), omega (arith, j.runs_few))

pub invariant_of-self : goal.invariant_of-self
invariant_of-self c =
    let l = c.args.self.now in
    let found = c.in-Ok.ensures.found in
    let more : c.in-Ok.found.runs < due c.in-Ok.found = omega arith in
    record { fair = ∣ put_as l found c.from.ensures c.ran.ensures (ran_put l found more) ∣₁ }

pub returns-then-found-due-clause-tokens : goal.returns-then-found-due-clause-tokens
returns-then-found-due-clause-tokens c = run_adds {c = with_seat (books_of c.args.self.now) c.from.result c.ran.result} (fair_of c.args.self.now) c.args.seat (search rules)
