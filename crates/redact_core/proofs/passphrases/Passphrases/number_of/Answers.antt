use Rattle.std.proofs.Common.{◌+◌, ◌∙◌, ap, sym, arith}
use Rattle.redact_core.specs.Redaction.{number_of}
use Rattle.redact_core.proofs.PlaceLemmas.{number_new, place_small}
use Rattle.redact_core.proofs.passphrases.Passphrases.number_of.Goals as goal

pub overflow_add-result : goal.overflow_add-result
overflow_add-result c =
    omega (
      arith,
      place_small c.self.inside.places.entries c.args.passphrase.now c.self.inside.kept c.in-Some.place.now
          c.self.invariant (sym c.in-Some.ensures.value),
    )

pub returns-in-None : goal.returns-in-None
returns-in-None c =
    ap (λ n. n + 1) c.len.ensures.len
    ∙ sym (number_new c.self.inside.places.entries c.args.passphrase.now c.self.inside.kept c.self.invariant (sym c.in-None.ensures.value))
    ∙ ap (number_of c.args.passphrase.now) c.self.view_is
