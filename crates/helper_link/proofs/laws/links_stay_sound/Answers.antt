use Rattle.helper_link.specs.HelperLink.{lost, no_link}
use Rattle.helper_link.proofs.SoundLemmas.{IsSound-gone, IsSound-submitted, IsSound-telling}
use Rattle.helper_link.proofs.laws.links_stay_sound.Goals as goal

pub returns-clause-first : goal.returns-clause-first
returns-clause-first c = IsSound-gone no_link

pub returns-clause-submitted : goal.returns-clause-submitted
returns-clause-submitted c = IsSound-submitted

pub returns-clause-told : goal.returns-clause-told
returns-clause-told c = IsSound-telling

pub returns-clause-lost : goal.returns-clause-lost
returns-clause-lost c = λ link sound. IsSound-gone (lost link)
