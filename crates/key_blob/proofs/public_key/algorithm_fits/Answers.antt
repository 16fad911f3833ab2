use Rattle.std.proofs.Common.{◌∷◌, ap, subst, List, ℕ}
use Rattle.std.specs.Prelude.{◌↔◌, IsTrue, Contains}
use Rattle.key_blob.specs.KeyTypes.{KeyType}
use Rattle.key_blob.proofs.TypeLemmas.{is_tested_behind}
use Rattle.key_blob.proofs.public_key.algorithm_fits.Goals as goal

pub returns-else-eq : goal.returns-else-eq
returns-else-eq c =
    let row = c.row_of-key_type.result in
    let names = ap (λ (type : KeyType). type.name ∷ type.other_algorithms) c.row_of-key_type.ensures in
    subst (λ (names : List (List ℕ)). IsTrue c.contains.result ↔ Contains names c.args.algorithm.now) names
    (is_tested_behind row.name.now c.args.algorithm.now row.other_algorithms.now c.contains.result c.if-eq.ensures c.contains.ensures.value)
