use Rattle.std.proofs.Common.{OnOk, Result, Ok, Err}
use Rattle.constraint_rec.proofs.FieldLemmas.{behind_string}
use Rattle.constraint_rec.proofs.destination.take_destination.Goals as goal

-- what holds always, holds after Ok
on_ok : {A E : Type 0} {P : Type 0} (result : Result A E) → P → OnOk result P
on_ok (Ok x) p = p
on_ok (Err e) p = tt

pub returns-clause-shorter : goal.returns-clause-shorter
returns-clause-shorter c =
    on_ok c.read_destination.result (behind_string c.args.from.now c.in_ok-take_string.field-0.now c.take_string.new.self c.in_ok-take_string.ensures.found)
