use Rattle.std.proofs.Common.{◌≡◌, ◌+◌, length, take, drop, ap, ◌∙◌, [], ◌∷◌, ◌++◌, List, ℕ, append_assoc, arith}
use Rattle.wire_text.specs.Wire.{uint32}
use Rattle.key_blob.specs.AddedKeys.{private_from}
use Rattle.redact_core.specs.Redaction.{blank}
use Rattle.redact_core.proofs.BlankLemmas.{length-without_secrets}
use Rattle.redact_core.proofs.FrameLemmas.{on_ok, on_err, front_later, extended, key_frame}
use Rattle.redact_core.proofs.addition.put_addition.Goals as goal

pub returns-in_err-put_blank-clause-front : goal.returns-in_err-put_blank-clause-front
returns-in_err-put_blank-clause-front c =
    let out = c.args.out.now.items in
    let number = c.args.number in
    let len = 1 + length c.args.key.now + length c.args.rest.now in
    let public = c.split_at.result.0.now in
    let middle = c.extend_from_slice.new.self.items in
    let is : middle ≡ out ++ (uint32 len ++ number ∷ public) =
    c.in_ok-extend_from_slice.ensures.items
    ∙ ap (λ (l : List ℕ). l ++ public) (c.in_ok-put_u8.ensures.ok ∙ ap
    (λ (l : List ℕ). l ++ number ∷ []) c.in_ok-put_u32.ensures.ok)
    ∙ append_assoc (out ++ uint32 len) (number ∷ []) public ∙ append_assoc out (uint32 len) (number ∷ public) in
    on_err (front_later out (uint32 len ++ number ∷ public) middle c.put_blank.new.out.items is
    c.in_err-put_blank.ensures.front) c.from_residual-in_err-put_blank.result

pub returns-clause-ok : goal.returns-clause-ok
returns-clause-ok c =
    let out = c.args.out.now.items in
    let number = c.args.number in
    let key = c.args.key.now in
    let rest = c.args.rest.now in
    let len = 1 + length key + length rest in
    let parts : List ℕ → List ℕ → List ℕ = λ public private. (((out ++ uint32 len) ++ number ∷ []) ++ public)
    ++ private in
    let public = c.split_at.result.0.now in
    let private = c.split_at.result.1.now in
    let place = c.private_from.ensures in
    let put : c.put_blank.new.out.items ≡ parts public (blank private) =
    c.in_ok-put_blank.ensures.ok ∙ ap (λ (l : List ℕ). l ++ blank private) (c.in_ok-extend_from_slice.ensures.items
    ∙ ap (λ (l : List ℕ). l ++ public) (c.in_ok-put_u8.ensures.ok ∙ ap
    (λ (l : List ℕ). l ++ number ∷ []) c.in_ok-put_u32.ensures.ok)) in
    let public_is : public ≡ take (private_from key) key = c.split_at.ensures.front
    ∙ ap (λ (n : ℕ). take n key) place in
    let private_is : private ≡ drop (private_from key) key = c.split_at.ensures.back
    ∙ ap (λ (n : ℕ). drop n key) place in
    let zeros = blank (drop (private_from key) key) in
    let there : c.put_blank.new.out.items ≡ parts (take (private_from key) key) zeros =
    put ∙ ap (λ (l : List ℕ). parts l (blank private)) public_is
    ∙ ap (λ (l : List ℕ). parts (take (private_from key) key) (blank l)) private_is in
    on_ok (λ last. last ∙ ap (λ (l : List ℕ). l ++ rest) there
    ∙ key_frame out (take (private_from key) key) zeros rest number len
    (omega (arith, length-without_secrets key c.requires.key)))
    c.extend_from_slice-2.result (extended c.extend_from_slice-2.result c.put_blank.new.out.items
    c.extend_from_slice-2.new.self.items rest c.extend_from_slice-2.ensures.items)
