use Rattle.std.proofs.Common.{rules, vec_items}
use Rattle.sheet.proofs.Told.{sheet_answers}
use Rattle.sheet.proofs.sheets.plan_sheet.Goals as goal

pub returns-clause-law : goal.returns-clause-law
returns-clause-law c = sheet_answers c.args.input.now (vec_items c.if-input-gt-MOST_BYTES.out) (search rules)
