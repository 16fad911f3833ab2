use Rattle.std.proofs.Common.{◌≡◌, ◌∙◌, ◌++◌, ◌∷◌, [], ℕ, List, Option, Some, ap, length, sym, subst}
use Rattle.userauth_blob.specs.UserAuths.{login}
use Rattle.dest_rule.specs.Chains.{Binding}
use Rattle.dest_rule.specs.Hosts.{first_to, newest_host}
use Rattle.dest_rule.proofs.HostLemmas.{lent_host_key, login-host, newest_host-last, newest_host-none, no_login-host}
use Rattle.dest_rule.proofs.OrderLemmas.{by_rules}
use Rattle.dest_rule.proofs.host.login_host.Goals as goal

pub returns-in_default : goal.returns-in_default
returns-in_default c =
    sym (no_login-host c.args.rules.now c.args.blob.now c.args.chain.now.bindings c.args.message.now c.args.wall c.in_default.field-0 c.in_default.ensures.exact)

pub returns-in-None : goal.returns-in-None
returns-in-None c =
    let chain = c.args.chain.now.bindings in
    let auth = login c.in-Ok.auth in
    let none = subst (λ (b : List Binding). length b ≡ 0) c.bindings.ensures.value c.in-None.ensures.cases in
    sym (login-host c.args.rules.now c.args.blob.now chain c.args.message.now c.args.wall auth c.in-Ok.ensures.exact
    ∙ newest_host-none (by_rules c.args.rules.now (Some auth.user) c.args.wall) chain none)

pub returns-in-Some : goal.returns-in-Some
returns-in-Some c =
    let chain = c.args.chain.now.bindings in
    let auth = login c.in-Ok.auth in
    let grounds = by_rules c.args.rules.now (Some auth.user) c.args.wall in
    let newest = c.in-Some.newest.now in
    let earlier = c.in-Some.earlier.now in
    let parts : chain ≡ earlier ++ newest ∷ [] = sym c.bindings.ensures.value ∙ c.in-Some.ensures.cases.0 in
    c.host_behind.ensures
    ∙ ap (λ (p : Option (List ℕ)). first_to grounds p newest.host_key c.args.rules.now) (lent_host_key c.last.result _ c.last.ensures.value)
    ∙ sym (newest_host-last grounds newest earlier)
    ∙ sym (ap (newest_host grounds) parts)
    ∙ sym (login-host c.args.rules.now c.args.blob.now chain c.args.message.now c.args.wall auth c.in-Ok.ensures.exact)
