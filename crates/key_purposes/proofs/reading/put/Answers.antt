use Rattle.std.proofs.Common.{◌≡◌, ◌∙◌, true, inr, ap, sym, refl}
use Rattle.std.specs.List.{list_any}
use Rattle.key_purposes.specs.Purposes.{is_same}
use Rattle.key_purposes.proofs.reading.put.Goals as goal

pub returns-then-holds : goal.returns-then-holds
returns-then-holds c =
    let found : list_any (λ one. is_same one c.args.purpose) c.args.purposes.now.items ≡ true =
    sym (c.holds.ensures ∙ ap (list_any (λ one. is_same one c.args.purpose)) c.deref.ensures.value) ∙ c.if-holds.true in
    inr (rw found refl)
