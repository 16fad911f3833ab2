use Rattle.std.proofs.Common.{◌≡◌, ◌+◌, Option, Some, IsSome, refl, sym, ap, subst, ◌∙◌}
use Rattle.std.proofs.lemmas.Map.Lookups.{exact_unsigned}
use Rattle.identity_table.specs.Identities.{HeldKey, used_by}
use Rattle.identity_table.specs.Indices.{held_at}
use Rattle.identity_table.proofs.UpdateLemmas.{get-changed}
use Rattle.identity_table.proofs.records.Records.leave_uses.Goals as goal
use Rattle.identity_table.proofs.SpendLemmas.{used_left}
use Rattle.identity_table.proofs.SpentLemmas.{IsIndexed-spent, held-spent}

pub returns-in-Some-clause-indexed : goal.returns-in-Some-clause-indexed
returns-in-Some-clause-indexed c =
    let old = c.args.self.now in
    let one : HeldKey = c.in-Some.identity.now in
    let after : HeldKey = c.leave_uses.new.self in
    let at : held_at old c.args.place ≡ Some one = sym c.in-Some.ensures.value in
    let less : one.uses ≡ Some (c.args.uses + 1) = rw at at c.requires.less in
    let left : used_by one.uses one ≡ Some after =
    used_left c.args.uses one less c.requires.some ∙ ap (λ (k : HeldKey). Some k) (sym c.leave_uses.ensures) in
    let through = c.get_mut.follows.holds after in
    IsIndexed-spent old (record old { places = c.get_mut.follows.lender after }) c.args.place one after c.requires.indexed at left
    through.4 through.0
    (get-changed exact_unsigned old.places (c.get_mut.follows.lender after) c.args.place (Some after)
    (through.3 (subst (λ (found : Option HeldKey). IsSome found) (sym at) refl)))
    (λ key. refl) (λ key. refl) (λ key. refl) refl refl refl

pub returns-in-Some-clause-spent : goal.returns-in-Some-clause-spent
returns-in-Some-clause-spent c =
    let old = c.args.self.now in
    let one : HeldKey = c.in-Some.identity.now in
    let after : HeldKey = c.leave_uses.new.self in
    let at : held_at old c.args.place ≡ Some one = sym c.in-Some.ensures.value in
    let less : one.uses ≡ Some (c.args.uses + 1) = rw at at c.requires.less in
    let left : used_by one.uses one ≡ Some after =
    used_left c.args.uses one less c.requires.some ∙ ap (λ (k : HeldKey). Some k) (sym c.leave_uses.ensures) in
    rw at (held-spent old (c.get_mut.follows.lender after) c.args.place one after c.requires.indexed at left
    (c.get_mut.follows.holds after).0)
