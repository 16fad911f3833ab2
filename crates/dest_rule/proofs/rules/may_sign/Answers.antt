use Rattle.std.proofs.Common.{arith, ◌==◌, length, List, Some, None, sym, ap, ◌∙◌}
use Rattle.std.proofs.lemmas.Result.{MatchResult-weaker, err_from_is_err_and}
use Rattle.userauth_blob.specs.UserAuths.{login}
use Rattle.dest_rule.specs.Chains.{Binding}
use Rattle.dest_rule.specs.Rules.{bad_place_in, denial_of_newest}
use Rattle.dest_rule.proofs.AnswerLemmas.{newest_lent, on_login, denial_by_place, denial-unbound, denial-no_login, denial-long_user, denial-login}
use Rattle.dest_rule.proofs.rules.may_sign.Goals as goal

pub returns-in_default : goal.returns-in_default
returns-in_default c =
    let chain = c.args.chain.now.bindings in
    let last = newest_lent chain c.bindings-bindings.result.now None c.bindings-bindings.ensures.value c.in_default.ensures.value in
    denial-unbound c.args.rules.now c.args.blob.now chain c.args.message.now c.args.wall last

pub returns-in_err-auth : goal.returns-in_err-auth
returns-in_err-auth c =
    let chain = c.args.chain.now.bindings in
    let binding = c.in-Some.newest.now in
    let last = newest_lent chain c.bindings-bindings.result.now (Some binding) c.bindings-bindings.ensures.value c.in-Some.ensures.value in
    let p = err_from_is_err_and c.from_residual.result c.from_residual.ensures.1 in
    rw (p.1, p.2) (denial-no_login c.args.rules.now c.args.blob.now chain c.args.message.now c.args.wall binding
    c.in_err-auth.field-0.0 last c.in_err-auth.ensures.exact)

pub returns-then-auth-gt-LONGEST_USER : goal.returns-then-auth-gt-LONGEST_USER
returns-then-auth-gt-LONGEST_USER c =
    let chain = c.args.chain.now.bindings in
    let binding = c.in-Some.newest.now in
    let last = newest_lent chain c.bindings-bindings.result.now (Some binding) c.bindings-bindings.ensures.value c.in-Some.ensures.value in
    denial-long_user c.args.rules.now c.args.blob.now chain c.args.message.now c.args.wall binding
    (login c.in_ok-auth.auth) last c.in_ok-auth.ensures.exact c.if-auth-gt-LONGEST_USER.true

pub returns-in-Some-bad_place : goal.returns-in-Some-bad_place
returns-in-Some-bad_place c =
    let chain = c.args.chain.now.bindings in
    let binding = c.in-Some.newest.now in
    let auth = login c.in_ok-auth.auth in
    let last = newest_lent chain c.bindings-bindings.result.now (Some binding) c.bindings-bindings.ensures.value c.in-Some.ensures.value in
    let bad = c.in-Some-bad_place.ensures
    ∙ ap (bad_place_in (on_login c.args.rules.now auth.user c.args.wall)) c.bindings-bindings.ensures.value in
    denial-login c.args.rules.now c.args.blob.now chain c.args.message.now c.args.wall binding auth last c.in_ok-auth.ensures.exact (omega arith)
    ∙ ap (λ p. denial_by_place p auth binding (length chain == 1)) (sym bad)

pub returns : goal.returns
returns c =
    let chain = c.args.chain.now.bindings in
    let lent = c.bindings-bindings.result.now in
    let binding = c.in-Some.newest.now in
    let auth = login c.in_ok-auth.auth in
    let last = newest_lent chain lent (Some binding) c.bindings-bindings.ensures.value c.in-Some.ensures.value in
    let good = c.in_default-bad_place.ensures
    ∙ ap (bad_place_in (on_login c.args.rules.now auth.user c.args.wall)) c.bindings-bindings.ensures.value in
    let is = denial-login c.args.rules.now c.args.blob.now chain c.args.message.now c.args.wall binding auth last c.in_ok-auth.ensures.exact (omega arith)
    ∙ ap (λ p. denial_by_place p auth binding (length chain == 1)) (sym good)
    ∙ ap (λ (b : List Binding). denial_of_newest auth binding (length b == 1)) (sym c.bindings-bindings.ensures.value) in
    MatchResult-weaker c.check_newest.result c.check_newest.ensures (λ x none. is ∙ none) (λ denial some. is ∙ some)
