use Rattle.std.proofs.Common.{◌-◌, length, replicate, refl, arith, rules}
use Rattle.std.proofs.lemmas.Bool.{lt-leb}
use Rattle.chip.proofs.Wearing.{good_when, bad_when, filled}
use Rattle.chip.proofs.gaps.Gaps.new.Goals as goal
use Rattle.chip.proofs.gaps.Gaps.new.Goals.{then-gaps-gt-MOST-via-then-gaps-gt-MOST, then-gaps-gt-MOST-via-else-gaps-gt-MOST+then-contains}

pub returns-then-gaps-gt-MOST : goal.returns-then-gaps-gt-MOST
returns-then-gaps-gt-MOST c =
    elim c.then-gaps-gt-MOST.branch [
      | then-gaps-gt-MOST-via-then-gaps-gt-MOST w ↦ rw (lt-leb (length c.args.gaps.now) 8 w.if-gaps-gt-MOST.true) refl
      | then-gaps-gt-MOST-via-else-gaps-gt-MOST+then-contains w ↦ bad_when c.args.gaps.now (let e = w.contains.ensures.value in let f = w.if-contains.true in search rules)
    ]

pub returns : goal.returns
returns c =
    let gaps = c.args.gaps.now in (
      good_when gaps c.if-gaps-gt-MOST.false (let e = c.contains.ensures.value in let f = c.if-contains.false in search rules),
      omega arith,
      filled (replicate 8 0) gaps c.copy_from_slice.new.self (8 - length gaps) refl (omega arith) (omega arith) c.copy_from_slice.ensures.after,
    )
