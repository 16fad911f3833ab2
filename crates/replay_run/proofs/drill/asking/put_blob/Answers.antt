use Rattle.std.proofs.Common.{◌∙◌}
use Rattle.replay_run.proofs.TallyLemmas.{blob-short}
use Rattle.replay_run.proofs.drill.asking.put_blob.Goals as goal

pub put_string-requires : goal.put_string-requires
put_string-requires c = blob-short _ c.args.key (c.deref.ensures.value ∙ c.in_ok-blob.ensures)
