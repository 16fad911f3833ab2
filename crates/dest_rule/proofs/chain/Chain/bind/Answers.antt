use Rattle.std.proofs.Common.{ap, ◌∙◌}
use Rattle.dest_rule.specs.Chains.{Binding, ChainState, judge}
use Rattle.dest_rule.proofs.ChainLemmas.{IsChain-pushed}
use Rattle.dest_rule.proofs.chain.Chain.bind.Goals as goal

pub invariant_of-self-2 : goal.invariant_of-self-2
invariant_of-self-2 c =
    let host_key = c.args.host_key.now in
    let session = c.args.session.now in
    let binding = c.in_ok-binding.binding in
    let is = c.in_ok-binding.ensures in
    IsChain-pushed c.self.inside.bindings.items c.push.new.self.items binding host_key session
    c.in_ok-push.ensures.items (ap (λ (b : Binding). b.host_key) is) (ap (λ (b : Binding). b.session) is)
    c.self.invariant (ap (λ (v : ChainState). judge host_key session v.bindings) c.self.view_is ∙ c.requires.new)
    c.requires.key
