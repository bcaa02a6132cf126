use Rattle.std.proofs.Common.{◌≡◌, ◌++◌, vec_items}
use Rattle.script.specs.Reader.{lines_left}
use Rattle.script.specs.Text.{script_of}
use Rattle.sheet.specs.Sheet.{plan_lines}
use Rattle.sheet.proofs.sheets.plan_sheet.Given as goal

abbrev pub invariant-loop-line : goal.invariant-loop-line
invariant-loop-line l = vec_items l.out ++ plan_lines (lines_left l.line-iterator) ≡ plan_lines (script_of l.input)
