use Rattle.std.proofs.Common.{◌≡◌, ◌∙◌, ◌∷◌, ◌++◌, ◌+◌, [], List, Ok, ap, drop, subst, sym}
use Rattle.std.specs.Prelude.{All}
use Rattle.std.proofs.lemmas.List.Elements.{All-nil, All-cons, All-append}
use Rattle.constraint_rec.specs.declared.constraint.Constraint.{Constraint}
use Rattle.constraint_rec.specs.Hops.{IsDestination}
use Rattle.add_rules.specs.Rules.{rule_of, rules_of}
use Rattle.add_rules.proofs.RuleLemmas.{behind, lent, made_word, rule_is}
use Rattle.add_rules.proofs.rules.destination_rules.Goals as goal

pub words-preserved : goal.words-preserved
words-preserved c =
    let files = c.args.files.now in
    let words = c.args.words.now in
    let n = c.words.word-index in
    let rule = c.in-Ok.rule in
    let made = c.words.rules.items in
    let all = rules_of files (lent words) in
    let text = c.as_bytes.result.now in
    let read : Ok rule ≡ rule_of files text = sym c.in-Ok.is ∙ c.in_ok-rule.ensures in
    let pushed : c.push.new.self.items ≡ made ++ rule ∷ [] = c.in_ok-push-in-Ok.ensures.items in
    record {
      made = made_word files all made words n _ rule c.words-test.true c.words.invariant.made (read ∙ ap (rule_of files) c.as_bytes.ensures.value)
          ∙ ap (λ (l : List Constraint). behind l (rules_of files (lent (drop (n + 1) words)))) (sym pushed);
      good = subst (All IsDestination) (sym pushed)
          (All-append IsDestination made (rule ∷ []) c.words.invariant.good
          (All-cons IsDestination rule [] (rule_is files text rule (sym read)) (All-nil IsDestination)));
    }
