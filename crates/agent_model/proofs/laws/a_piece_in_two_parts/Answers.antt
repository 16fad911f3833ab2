use Rattle.agent_model.proofs.RoleCutLemmas.{piece_agrees}
use Rattle.agent_model.proofs.laws.a_piece_in_two_parts.Goals as goal

pub returns : goal.returns
returns c = piece_agrees
