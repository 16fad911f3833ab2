use Rattle.frame_core.proofs.PutLemmas.{string_is_found}
use Rattle.frame_core.proofs.laws.a_put_frame_is_found_whole.Goals as goal

pub returns : goal.returns
returns c = string_is_found
