use Rattle.constraint_rec.proofs.FieldLemmas.{behind_string}
use Rattle.constraint_rec.proofs.kind.take_extension.Goals as goal

pub returns-then-eq-clause-shorter : goal.returns-then-eq-clause-shorter
returns-then-eq-clause-shorter c =
    behind_string c.args.from.now c.in_ok-name.name.now c.take_string.new.self c.in_ok-name.ensures.found

pub returns-then-eq-3-clause-shorter : goal.returns-then-eq-3-clause-shorter
returns-then-eq-3-clause-shorter c =
    behind_string c.args.from.now c.in_ok-name.name.now c.take_string.new.self c.in_ok-name.ensures.found

pub returns-then-eq-2-clause-shorter : goal.returns-then-eq-2-clause-shorter
returns-then-eq-2-clause-shorter c =
    behind_string c.args.from.now c.in_ok-name.name.now c.take_string.new.self c.in_ok-name.ensures.found
