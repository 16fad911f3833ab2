use Rattle.std.proofs.Common.{sym, ◌∙◌}
use Rattle.identity_table.proofs.records.Records.find_number.Goals as goal
use Rattle.identity_table.proofs.IndexLemmas.{number_found, number_none}

pub returns-in-Some : goal.returns-in-Some
returns-in-Some c =
    c.get-in-Some.ensures.value
    ∙ number_found c.args.self.now c.requires c.args.number c.in-Some.place.now (sym c.in-Some.ensures.value)

pub returns-in-None : goal.returns-in-None
returns-in-None c = sym (number_none c.args.self.now c.requires c.args.number (sym c.in-None.ensures.value))
