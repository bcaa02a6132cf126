use Rattle.std.proofs.Common.{◌≡◌, ◌+◌, ◌-◌, ◌^◌, min, get_or, ap, ◌∙◌}
use Rattle.pages.proofs.Wiping.{free_fits, wiped_so, small_sum, tables_so}
use Rattle.pages.proofs.tables.Tables.wipe.Goals as goal

pub returns : goal.returns
returns g c = λ can.
    let t = c.args.self.now in
    let b = c.args.block in
    let is : c.saturating_add-self.result ≡ t.free + get_or t.dead b 0 =
    small_sum c.saturating_add-self.result t.free (get_or t.dead b 0) (c.saturating_add-self.ensures ∙ ap (λ x. min (t.free + x) (2 ^ 16 - 1)) c.from.ensures) (free_fits can.tied b can.block can.emptied) in
    wiped_so (g.C.Chip.means c.args.chip.now) t b can (g.C.Chip.means c.erase.new.self) _ c.erase.ensures.after (tables_so t b c.saturating_add-self.result c.restart-self.result is c.restart-self.ensures)
