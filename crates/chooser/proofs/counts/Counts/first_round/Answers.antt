use Rattle.std.proofs.Common.{sym, ◌∙◌, rules}
use Rattle.chooser.proofs.Askable.{asked}
use Rattle.chooser.proofs.Round.{found_always, met_up, met_again, passes}
use Rattle.chooser.proofs.counts.Counts.first_round.Goals as goal

pub unwrap-requires : goal.unwrap-requires
unwrap-requires c =
    let dead = c.args.self.now.dead.now in
    let found = found_always dead (asked dead c.args.self.now.asked).some in
    search rules

pub returns-in-Some : goal.returns-in-Some
returns-in-Some c =
    let dead = c.args.self.now.dead.now in
    let met = met_up dead c.args.from c.requires c.in-Some.block c.in-Some.ensures in
    record { block = met.0; passes = passes dead c.args.from c.requires (asked dead c.args.self.now.asked).some; yields = met.1 }

pub returns-in-None : goal.returns-in-None
returns-in-None c =
    let dead = c.args.self.now.dead.now in
    let met = met_again dead c.args.from c.requires c.unwrap.result c.in-None.ensures (sym c.unwrap.ensures ∙ c.first_from-in-None.ensures) in
    record { block = met.0; passes = passes dead c.args.from c.requires (asked dead c.args.self.now.asked).some; yields = met.1 }
