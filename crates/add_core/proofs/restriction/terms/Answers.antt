use Rattle.std.proofs.Common.{◌≡◌, List, ℕ, Ok, ap, subst, sym, ◌∙◌, rules}
use Rattle.std.specs.Borrow.{Bor}
use Rattle.constraint_rec.specs.declared.terms.Terms.{Terms}
use Rattle.add_words.specs.Words.{plain_words}
use Rattle.add_core.specs.Exchanges.{Refuses, Tells}
use Rattle.add_core.specs.Restrictions.{hosts_held, terms_by, terms_for}
use Rattle.add_core.proofs.FileLemmas.{lent}
use Rattle.add_core.proofs.RestrictionLemmas.{refuses_on}
use Rattle.add_core.proofs.restriction.terms.Goals as goal

pub returns-in_err-hosts-clause-told : goal.returns-in_err-hosts-clause-told
returns-in_err-hosts-clause-told g c = λ held known.
    let stop = c.in_err-hosts.field-0.0 in
    let words = plain_words c.args.words.now in
    let told = subst (λ (l : List (Bor (List ℕ))). Refuses stop (hosts_held held 0 (lent l))) c.deref.ensures.value (c.in_err-hosts.ensures.told held known) in
    let refused = refuses_on stop (hosts_held held 0 words.hosts) (terms_for words held) (λ fault is. ap (terms_by words) is) told in
    search rules

pub returns-clause-told : goal.returns-clause-told
returns-clause-told g c = λ held known.
    let words = plain_words c.args.words.now in
    let read : hosts_held held 0 words.hosts ≡ Ok c.in_ok-hosts.hosts.items =
    ap (λ (l : List (Bor (List ℕ))). hosts_held held 0 (lent l)) (sym c.deref.ensures.value) ∙ c.in_ok-hosts.ensures.told held known in
    let same : terms_by words (Ok c.deref-2.result.now) ≡ terms_for words held =
    ap (λ (l : List (List ℕ)). terms_by words (Ok l)) c.deref-2.ensures.value ∙ ap (terms_by words) (sym read) in
    subst (Tells (λ (t : Terms). t) c.terms_by.result) same c.terms_by.ensures.told
