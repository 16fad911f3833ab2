use Rattle.std.proofs.Common.{arith, sym}
use Rattle.std.proofs.lemmas.Grind.{common_steps}
use Rattle.schedule_text.proofs.FieldLemmas.{fields_of-no_space, fields_of-space}
use Rattle.schedule_text.proofs.fields.Fields.next_field.Goals as goal

pub returns-in-Some : goal.returns-in-Some
returns-in-Some c =
    grind (arith, common_steps, c.self.view_is, fields_of-space c.in_ok-rest.rest.now c.in-Some.end (sym c.in-Some.ensures))

pub returns-in-None : goal.returns-in-None
returns-in-None c =
    grind (arith, common_steps, c.self.view_is, fields_of-no_space c.in_ok-rest.rest.now (sym c.in-None.ensures))
