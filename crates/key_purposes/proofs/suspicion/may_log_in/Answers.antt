use Rattle.std.proofs.Common.{◌≡◌, ◌||◌, ◌+◌, ◌∙◌, sym, ap, drop, Bool, false, true}
use Rattle.std.proofs.Math.ListN.{drop_of_length-le}
use Rattle.key_purposes.specs.Suspicions.{may_log_in, names_login}
use Rattle.key_purposes.proofs.SuspicionLemmas.{here, left_is, none_in_nothing, one_more}
use Rattle.key_purposes.proofs.suspicion.may_log_in.Goals as goal

pub returns-then-names_login : goal.returns-then-names_login
returns-then-names_login c =
    let named : names_login (drop c.loop-at.at c.args.message.now) ≡ true =
    ap names_login (sym (left_is c.args.message.now c.loop-at.at)) ∙ sym c.names_login.ensures ∙ c.if-names_login.true in
    sym (c.loop-at.invariant ∙ one_more c.args.message.now c.loop-at.at c.loop-at-test.true
    ∙ here (names_login (drop c.loop-at.at c.args.message.now)) (may_log_in (drop (c.loop-at.at + 1) c.args.message.now)) named)

pub loop-at-preserved : goal.loop-at-preserved
loop-at-preserved c =
    let none : names_login (drop c.loop-at.at c.args.message.now) ≡ false =
    ap names_login (sym (left_is c.args.message.now c.loop-at.at)) ∙ sym c.names_login.ensures ∙ c.if-names_login.false in
    c.loop-at.invariant ∙ one_more c.args.message.now c.loop-at.at c.loop-at-test.true
    ∙ ap (λ (b : Bool). b || may_log_in (drop (c.loop-at.at + 1) c.args.message.now)) none

pub returns : goal.returns
returns c =
    sym (c.loop-at.invariant ∙ ap may_log_in (drop_of_length-le c.args.message.now c.loop-at-test.false) ∙ none_in_nothing)
