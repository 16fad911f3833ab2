use Rattle.std.proofs.Common.{ℕ, ◌++◌, List, sym, ap, ◌∙◌, rules}
use Rattle.key_blob.proofs.Theorems.{added_is_found, read_is_addition, only_memory_fails}
use Rattle.key_blob.proofs.added.read_added.Goals as goal

pub returns-in_err-key-clause-only : goal.returns-in_err-key-clause-only
returns-in_err-key-clause-only c = λ key rest is parts.
    let memory = only_memory_fails c.rest-bytes.result.now c.in_err-key.field-0.0 key rest c.in_err-key.ensures is (c.rest-bytes.ensures.value ∙ parts) in
    search rules

pub returns-clause-found : goal.returns-clause-found
returns-clause-found c =
    let found = added_is_found c.rest-bytes.result.now c.in_ok-key.key c.in_ok-key.rest.now c.rest-bytes.ensures.bytes c.in_ok-key.ensures in
    (found.0, sym c.rest-bytes.ensures.value ∙ found.1 ∙ ap (λ (left : List ℕ). c.in_ok-key.key.private ++ left) (sym c.new.ensures))

pub returns-clause-only : goal.returns-clause-only
returns-clause-only c = λ key rest is parts.
    let both = read_is_addition c.rest-bytes.result.now c.in_ok-key.key key c.in_ok-key.rest.now rest c.in_ok-key.ensures is (c.rest-bytes.ensures.value ∙ parts) in
    (both.0, c.new.ensures ∙ both.1)
