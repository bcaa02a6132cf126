use Rattle.std.proofs.Common.{◌-◌, cond, sym, ap, ◌∙◌}
use native.Mathlib.Nat.{sub-zero}
use Rattle.chip.proofs.Flawing.{programmed_good, programmed_failed}
use Rattle.chip.proofs.flawed.calls.FlawedChip.program.Goals as goal
use Rattle.chip.proofs.flawed.calls.FlawedChip.program.Goals.{then-fails+in_ok-spoil, else-fails+in_ok-put}

pub returns-clause-effect : goal.returns-clause-effect
returns-clause-effect c =
    let f = c.args.self.now in
    let left = 8 - f.gaps.next in
    let hit = sym c.strike-fails.ensures.value in
    elim c.if-fails.branch [
      | then-fails+in_ok-spoil w ↦
          let done = w.in_ok-spoil.ensures in
          let struck = w.if-fails.true in
          let fell = rw w.self-is at c.wear.ensures.left ∙ ap (λ t. left - cond t 1 0) (hit ∙ struck) in
          rw (w.self-is, struck)
          (programmed_failed f.plain w.spoil.new.self left (8 - c.wear.new.self.next) c.args.page c.args.label c.args.bytes.now done.0
          (c.strike-fails.ensures.some struck) fell done.2)
      | else-fails+in_ok-put w ↦
          let done = w.in_ok-put.ensures in
          let passed = w.if-fails.false in
          let stayed = rw w.self-is at c.wear.ensures.left ∙ ap (λ t. left - cond t 1 0) (hit ∙ passed) ∙ sub-zero left in
          rw (w.self-is, passed)
          (programmed_good f.plain w.put.new.self left (8 - c.wear.new.self.next) c.args.page c.args.label c.args.bytes.now done.0 done.1 stayed done.2)
    ]
