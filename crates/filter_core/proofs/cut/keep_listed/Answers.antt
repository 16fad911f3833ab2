use Rattle.std.proofs.Common.{◌∙◌, ap, map, rules}
use Rattle.std.proofs.lemmas.Fn.{filter_same}
use Rattle.agent_msg.specs.ReplyReading.{lent}
use Rattle.filter_model.specs.Looking.{is_listed}
use Rattle.filter_core.proofs.CutLemmas.{kept}
use Rattle.filter_core.proofs.cut.keep_listed.Goals as goal

pub returns : goal.returns
returns c =
    ap (map lent) (filter_same _ (λ one. is_listed one.0.now c.args.listed.now) _ (λ x b f' k. search rules) _ _ c.retain.ensures.filtered)
    ∙ kept c.args.listed.now c.args.identities.now.items
