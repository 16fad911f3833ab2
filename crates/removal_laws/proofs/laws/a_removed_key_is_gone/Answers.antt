use Rattle.removal_laws.proofs.GoneLemmas.{gone-all, gone-others}
use Rattle.removal_laws.proofs.HeldLemmas.{held_as_added}
use Rattle.removal_laws.proofs.laws.a_removed_key_is_gone.Goals as goal

pub returns : goal.returns
returns c = record {
  all = λ settings one other alike fit none drained. gone-all settings one other alike fit drained none;
  others = λ settings one other alike fit hold drained. gone-others settings one other alike fit drained hold;
  held = held_as_added;
}
