use Rattle.std.proofs.Common.{List, Some, None, sym, ap, ◌∙◌}
use Rattle.std.specs.Prelude.{◌&&◌, not, is_none}
use Rattle.dest_rule.specs.Chains.{Binding}
use Rattle.dest_rule.specs.Rules.{bad_place_in, goes_on}
use Rattle.dest_rule.proofs.AnswerLemmas.{newest_lent, on_no_login, visible-free, visible-unbound, visible-bound}
use Rattle.dest_rule.proofs.rules.visible.Goals as goal

pub returns-then-is_empty : goal.returns-then-is_empty
returns-then-is_empty c =
    sym (visible-free c.args.rules.now c.args.chain.now.bindings c.args.chain.now.attempted c.args.wall
    (sym c.is_empty.ensures ∙ c.if-is_empty.true))

pub returns-in-None : goal.returns-in-None
returns-in-None c =
    let chain = c.args.chain.now.bindings in
    let last = newest_lent chain c.bindings-bindings.result.now None c.bindings-bindings.ensures.value c.in-None.ensures.value in
    ap not c.attempted.ensures
    ∙ sym (visible-unbound c.args.rules.now chain c.args.chain.now.attempted c.args.wall
    (sym c.is_empty.ensures ∙ c.if-is_empty.false) last)

pub returns-in-Some : goal.returns-in-Some
returns-in-Some c =
    let chain = c.args.chain.now.bindings in
    let binding = c.in-Some.newest.now in
    let grounds = on_no_login c.args.rules.now c.args.wall in
    let last = newest_lent chain c.bindings-bindings.result.now (Some binding) c.bindings-bindings.ensures.value c.in-Some.ensures.value in
    c.permits_way.ensures
    ∙ ap (λ (b : List Binding). is_none (bad_place_in grounds b) && goes_on grounds binding) c.bindings-bindings.ensures.value
    ∙ sym (visible-bound c.args.rules.now chain c.args.chain.now.attempted c.args.wall binding
    (sym c.is_empty.ensures ∙ c.if-is_empty.false) last)
