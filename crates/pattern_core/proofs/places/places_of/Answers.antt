use Rattle.std.proofs.Common.{◌≡◌, ◌==◌, get_or, sym, subst, ◌∙◌}
use Rattle.std.specs.Int.RustNames.{bit_or}
use Rattle.pattern_core.proofs.LetterLemmas.{either_case-tests}
use Rattle.pattern_core.proofs.PlaceLemmas.{has_place-or}
use Rattle.pattern_core.specs.Letters.{read_byte}
use Rattle.pattern_core.specs.Pieces.{has_place}
use Rattle.pattern_core.proofs.places.places_of.Goals as goal

pub returns-in-Lowered : goal.returns-in-Lowered
returns-in-Lowered c k below within =
    let wanted = c.args.wanted in
    let lower = c.places_of_byte-in-Lowered.result in
    let upper = c.places_of_byte-in-Lowered-2.result in
    let low = subst (λ case. read_byte case wanted ≡ wanted) c.in-Lowered.is c.requires in
    subst (λ case. has_place (bit_or lower upper) k ≡ (wanted == read_byte case (get_or c.args.text.now k 0))) (sym c.in-Lowered.is)
    (has_place-or lower upper k
    ∙ either_case-tests (has_place lower k) (has_place upper k) (get_or c.first_bytes-bytes.result k 0) (get_or c.args.text.now k 0)
    wanted c.to_ascii_uppercase.result (c.places_of_byte-in-Lowered.ensures k below)
    (c.places_of_byte-in-Lowered-2.ensures k below) (c.first_bytes-bytes.ensures.each k below within) low
    c.to_ascii_uppercase.ensures.value)
