use Rattle.std.proofs.Common.{◌∙◌, ◌+◌, ◌∷◌, ap, drop, subst, sym}
use Rattle.std.proofs.lemmas.List.{drop_more}
use Rattle.helper_link.specs.HelperLink.{askers}
use Rattle.helper_link.specs.declared.ask.Ask.{Ask}
use Rattle.agent_core.specs.Bound.{AreSilent}
use Rattle.agent_core.specs.Slots.{OpenPorts, open_of}
use Rattle.agent_core.proofs.BoundLemmas.{silent-at}
use Rattle.agent_core.proofs.HelperLemmas.{refused-more}
use Rattle.agent_core.proofs.AlikeLemmas.{spares-on}
use Rattle.agent_core.proofs.helper.refuse_all.Goals as goal

pub refuse_one-requires : goal.refuse_one-requires
refuse_one-requires c =
    let l = c.loop-ask in
    let item = c.ask-item.result in
    let later = drop (l.ask-index + 1) c.args.asks.now in
    let more = drop_more c.args.asks.now l.ask-index item c.loop-ask-test.true ∙ ap (λ (ask : Ask). ask ∷ later) (sym c.ask-item.is) in
    (silent-at item _ _ l.ports.ports more l.invariant.1).0

pub loop-ask-preserved : goal.loop-ask-preserved
loop-ask-preserved c =
    let l = c.loop-ask in
    let item = c.ask-item.result in
    let later = drop (l.ask-index + 1) c.args.asks.now in
    let more = drop_more c.args.asks.now l.ask-index item c.loop-ask-test.true ∙ ap (λ (ask : Ask). ask ∷ later) (sym c.ask-item.is) in
    let silent = (silent-at item _ _ l.ports.ports more l.invariant.1).1 in (
      refused-more item later _ (open_of l.ports) (open_of c.refuse_one.new.ports) more c.refuse_one.ensures.ports ∙ l.invariant.0,
      subst (λ ps. AreSilent (askers later) ps) (sym (ap (λ (v : OpenPorts). v.ports) c.refuse_one.ensures.ports)) silent,
      spares-on c.args.ports.now l.ports c.refuse_one.new.ports l.invariant.2 c.refuse_one.ensures.spared,
    )
