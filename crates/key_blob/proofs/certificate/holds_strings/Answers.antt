use Rattle.std.proofs.Common.{ap, sym, ◌∙◌, ◌==◌, length, List, ℕ}
use Rattle.key_blob.proofs.PrincipalLemmas.{string_shorter, are_strings-step, are_strings-end, end_test}
use Rattle.key_blob.proofs.certificate.holds_strings.Goals as goal

pub strings-smaller : goal.strings-smaller
strings-smaller c = string_shorter c.strings.from (c.in-Ok.field-0.now, c.take_string.new.self) c.in-Ok.ensures.exact

pub strings-preserved : goal.strings-preserved
strings-preserved c = sym (are_strings-step c.strings.from (c.in-Ok.field-0.now, c.take_string.new.self) c.in-Ok.ensures.exact) ∙ c.strings.invariant

pub returns : goal.returns
returns c =
    end_test c.at_end.result c.take_string.new.self c.at_end.ensures
    ∙ ap (λ (left : List ℕ). length left == 0) c.in_default.ensures.unchanged
    ∙ sym (are_strings-end c.strings.from c.in_default.ensures.exact) ∙ c.strings.invariant
