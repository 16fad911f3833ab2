use Rattle.std.proofs.Common.{get_or, ap, ◌∙◌, zero-add}
use Rattle.std.proofs.lemmas.Simd.{get_or-chunk}
use Rattle.pattern_core.proofs.places.first_bytes.Goals as goal

pub returns-clause-each : goal.returns-clause-each
returns-clause-each c k below within =
    get_or-chunk 0 64 c.args.text.now k 0 below ∙ ap (λ n. get_or c.args.text.now n 0) (zero-add k)
