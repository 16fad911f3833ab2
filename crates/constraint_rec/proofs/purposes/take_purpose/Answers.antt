use Rattle.constraint_rec.proofs.FieldLemmas.{behind_string}
use Rattle.constraint_rec.proofs.purposes.take_purpose.Goals as goal

pub returns-clause-shorter : goal.returns-clause-shorter
returns-clause-shorter c =
    behind_string c.args.from.now c.in_ok-word.word.now c.take_string.new.self c.in_ok-word.ensures.found
