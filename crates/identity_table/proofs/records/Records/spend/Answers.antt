use Rattle.std.proofs.Common.{◌≡◌, ◌≤◌, ℕ, Option, Some, None, IfSome, sym, ap, subst, ◌∙◌, arith}
use Rattle.std.proofs.lemmas.Bool.Decides.{nat_tests}
use Rattle.identity_table.specs.Identities.{HeldKey, find_number, spend_identity, used_by}
use Rattle.identity_table.specs.Indices.{held, held_at, key_if, number_key}
use Rattle.identity_table.proofs.UpdateLemmas.{none_is_not, same_some}
use Rattle.identity_table.proofs.IndexLemmas.{number_none, there}
use Rattle.identity_table.proofs.SpendLemmas.{none_left, spend_last, spend_nowhere, spend_unlimited, usable_found}
use Rattle.identity_table.proofs.SpentLemmas.{number_at}
use Rattle.identity_table.proofs.records.Records.spend.Goals as goal

pub returns-in_default-clause-spent : goal.returns-in_default-clause-spent
returns-in_default-clause-spent c =
    let old = c.args.self.now in
    sym (spend_nowhere c.args.number (held old) (number_none old c.requires c.args.number (sym c.in_default.ensures.value)))

pub returns-in_default-get-clause-spent : goal.returns-in_default-get-clause-spent
returns-in_default-get-clause-spent c =
    let old = c.args.self.now in
    let at = there number_key (held_at old c.in-Some.place.now) c.args.number
    (c.requires.numbers.held c.args.number c.in-Some.place.now (sym c.in-Some.ensures.value)) in
    none_is_not (held_at old c.in-Some.place.now) at.0 (sym c.in_default-get.ensures.value) at.1

pub returns-in-Some-uses-clause-spent : goal.returns-in-Some-uses-clause-spent
returns-in-Some-uses-clause-spent c =
    let old = c.args.self.now in
    let place = c.in-Some.place.now in
    let one : HeldKey = c.in-Some-get.identity.now in
    let at : held_at old place ≡ Some one = sym c.in-Some-get.ensures.value in
    let own : one.number ≡ c.args.number =
    same_some one.number c.args.number (sym (ap (key_if number_key) at) ∙ c.requires.numbers.held c.args.number place (sym c.in-Some.ensures.value)) in
    (rw at at c.leave_uses.ensures.spent) ∙ ap (λ (n : ℕ). spend_identity n (held old)) own

pub returns-in-Some-2-clause-spent : goal.returns-in-Some-2-clause-spent
returns-in-Some-2-clause-spent c =
    let old = c.args.self.now in
    let place = c.in-Some.place.now in
    let one : HeldKey = c.in-Some-get.identity.now in
    let at : held_at old place ≡ Some one = sym c.in-Some-get.ensures.value in
    let own : one.number ≡ c.args.number =
    same_some one.number c.args.number (sym (ap (key_if number_key) at) ∙ c.requires.numbers.held c.args.number place (sym c.in-Some.ensures.value)) in
    let found : find_number one.number (held old) ≡ Some one = number_at old c.requires place one at in
    let some : one.uses ≡ Some c.in-Some-uses.uses = sym c.uses.ensures ∙ c.in-Some-uses.is in
    let least : 1 ≤ c.in-Some-uses.uses =
    subst (λ (u : Option ℕ). IfSome u (λ n. 1 ≤ n)) some (usable_found one.number (held old) one c.requires.sound.uses found) in
    let is : c.in-Some-uses.uses ≡ 1 = grind (arith, nat_tests, least, c.if-uses-gt1.false) in
    let last : used_by one.uses one ≡ None = none_left one (some ∙ ap (λ (n : ℕ). Some n) is) in
    (rw at at c.take.ensures.removed)
    ∙ spend_last c.args.number (held old) one c.requires.sound.blobs (subst (λ (n : ℕ). find_number n (held old) ≡ Some one) own found) last

pub returns-in-None-clause-spent : goal.returns-in-None-clause-spent
returns-in-None-clause-spent c =
    let old = c.args.self.now in
    let place = c.in-Some.place.now in
    let one : HeldKey = c.in-Some-get.identity.now in
    let at : held_at old place ≡ Some one = sym c.in-Some-get.ensures.value in
    let own : one.number ≡ c.args.number =
    same_some one.number c.args.number (sym (ap (key_if number_key) at) ∙ c.requires.numbers.held c.args.number place (sym c.in-Some.ensures.value)) in
    let found : find_number one.number (held old) ≡ Some one = number_at old c.requires place one at in
    sym (spend_unlimited c.args.number (held old) one (subst (λ (n : ℕ). find_number n (held old) ≡ Some one) own found)
    (sym c.uses.ensures ∙ c.in-None.is))
