use Rattle.std.proofs.Common.{◌≡◌, ◌+◌, ◌≤◌, ◌∙◌, ℕ, None, length, ap, arith, subst, sym}
use Rattle.redact_core.specs.Places.{IsPlaced, most_kept, place_in}
use Rattle.redact_core.specs.Redaction.{noted}
use Rattle.redact_core.proofs.PlaceLemmas.{none_of, noted_then, placed_then}
use Rattle.redact_core.proofs.passphrases.Passphrases.note.Goals as goal
use Rattle.redact_core.proofs.passphrases.Passphrases.note.Goals.{in-Err, in-Ok}

pub invariant_of-self : goal.invariant_of-self
invariant_of-self c =
    let old = c.self.inside in
    let new : place_in old.places.entries c.args.passphrase ≡ None = none_of _ (sym c.contains_key.ensures ∙ c.if-contains_key.false) in
    let fits : old.kept + (length c.args.passphrase + 64) ≤ most_kept =
    omega (arith, c.if-room-self.false, c.len-room.ensures, c.self.invariant.fits) in
    subst (λ (n : ℕ). IsPlaced c.insert.new.self.entries (old.kept + (n + 64))) (sym c.len-room.ensures)
    (placed_then old.places.entries c.insert.new.self.entries c.args.passphrase old.kept c.len-place.result c.self.invariant
    new c.len-place.ensures.len c.in-Ok.ensures.entries c.in-Ok.ensures.updates.0 fits)

pub returns-clause-ok : goal.returns-clause-ok
returns-clause-ok c =
    let old = c.self.inside in
    let new : place_in old.places.entries c.args.passphrase ≡ None = none_of _ (sym c.contains_key.ensures ∙ c.if-contains_key.false) in
    elim c.match-insert.branch [
      | in-Ok w ↦
          rw w.result-is
          (w.self-is ∙ noted_then old.places.entries c.insert.new.self.entries c.args.passphrase old.kept c.len-place.result
          c.self.invariant new c.len-place.ensures.len w.in-Ok.ensures.entries ∙ ap (noted c.args.passphrase) c.self.view_is)
      | in-Err w ↦ rw w.result-is tt
    ]
