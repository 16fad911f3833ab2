use Rattle.std.proofs.Common.{sym, ◌∙◌}
use Rattle.identity_table.proofs.records.Records.find.Goals as goal
use Rattle.identity_table.proofs.IndexLemmas.{blob_found, blob_none}

pub returns-in-Some : goal.returns-in-Some
returns-in-Some c =
    c.get-in-Some.ensures.value
    ∙ blob_found c.args.self.now c.requires c.args.blob.now c.in-Some.place.now (sym c.in-Some.ensures.value)

pub returns-in-None : goal.returns-in-None
returns-in-None c = sym (blob_none c.args.self.now c.requires c.args.blob.now (sym c.in-None.ensures.value))
