use Rattle.std.proofs.Common.{◌∙◌, ap, sym, take, drop}
use Rattle.standin_core.proofs.HostLemmas.{looking-start, looking-found, looking-next, looking-end}
use Rattle.standin_core.proofs.hosts.find_secret.Goals as goal

pub hosts-init : goal.hosts-init
hosts-init c = λ hosts are. looking-start hosts c.args.tag.now c.args.pairs.now are

pub hosts-preserved : goal.hosts-preserved
hosts-preserved c = λ hosts are.
    looking-next hosts c.args.tag.now c.hosts.rest.now c.split_at-in-hosts.result.0.now c.split_at.result.1.now c.eq.result
    (c.hosts.invariant hosts are) c.hosts-test.true (c.split_at-in-hosts.ensures.front ∙ ap (take 32) c.split_at.ensures.front)
    c.split_at.ensures.back c.eq.ensures c.if-eq.false

pub returns-then-eq : goal.returns-then-eq
returns-then-eq c = λ hosts are. sym
    (looking-found hosts c.args.tag.now c.hosts.rest.now c.split_at-in-hosts.result.0.now c.split_at-in-hosts.result.1.now c.eq.result
    (c.hosts.invariant hosts are) c.hosts-test.true (c.split_at-in-hosts.ensures.front ∙ ap (take 32) c.split_at.ensures.front)
    (c.split_at-in-hosts.ensures.back ∙ ap (drop 32) c.split_at.ensures.front) c.eq.ensures c.if-eq.true)

pub returns : goal.returns
returns c = λ hosts are. sym (looking-end hosts c.args.tag.now c.hosts.rest.now (c.hosts.invariant hosts are) c.hosts-test.false)
