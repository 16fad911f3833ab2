use Rattle.std.proofs.Common.{Option, IsSome, List, ℕ, refl, sym, ap, subst, ◌∙◌}
use Rattle.lists.proofs.FirstLemmas.{removed_nowhere}
use Rattle.identity_table.specs.Identities.{HeldKey, find_identity, has_blob, remove_identity}
use Rattle.identity_table.specs.Indices.{blob_key, held, held_at}
use Rattle.identity_table.proofs.UpdateLemmas.{same_some}
use Rattle.identity_table.proofs.records.Records.remove.Goals as goal
use Rattle.identity_table.proofs.IndexLemmas.{blob_found, blob_none, there}

pub take-requires-clause-there : goal.take-requires-clause-there
take-requires-clause-there c =
    let at = there blob_key (held_at c.args.self.now c.in-Some.place.now) c.args.blob.now
    (c.requires.blobs.held c.args.blob.now c.in-Some.place.now (sym c.in-Some.ensures.value)) in
    subst (λ (found : Option HeldKey). IsSome found) (sym at.1) refl

pub returns-in-Some-clause-there : goal.returns-in-Some-clause-there
returns-in-Some-clause-there c =
    let at = there blob_key (held_at c.args.self.now c.in-Some.place.now) c.args.blob.now
    (c.requires.blobs.held c.args.blob.now c.in-Some.place.now (sym c.in-Some.ensures.value)) in
    let found = blob_found c.args.self.now c.requires c.args.blob.now c.in-Some.place.now (sym c.in-Some.ensures.value) in
    (λ _. subst (λ (one : Option HeldKey). IsSome one) (sym at.1 ∙ found) refl, λ _. refl)

pub returns-in-Some-clause-removed : goal.returns-in-Some-clause-removed
returns-in-Some-clause-removed c =
    let at = there blob_key (held_at c.args.self.now c.in-Some.place.now) c.args.blob.now
    (c.requires.blobs.held c.args.blob.now c.in-Some.place.now (sym c.in-Some.ensures.value)) in
    (rw at.1 at c.take.ensures.removed)
    ∙ ap (λ (blob : List ℕ). remove_identity blob (held c.args.self.now)) (same_some at.0.blob c.args.blob.now at.2)

pub returns-in-None-clause-there : goal.returns-in-None-clause-there
returns-in-None-clause-there c =
    let none = blob_none c.args.self.now c.requires c.args.blob.now (sym c.in-None.ensures.value) in
    rw none (λ is. is, λ is. is)

pub returns-in-None-clause-removed : goal.returns-in-None-clause-removed
unfolding find_identity remove_identity
returns-in-None-clause-removed c =
    sym (removed_nowhere (has_blob c.args.blob.now) (held c.args.self.now)
    (blob_none c.args.self.now c.requires c.args.blob.now (sym c.in-None.ensures.value)))
