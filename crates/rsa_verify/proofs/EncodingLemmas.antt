-- The encoded message.
use Rattle.std.proofs.Common.{◌≡◌, ◌≤◌, ◌-◌, ℕ, suc, ◌+◌, arith, ap, ◌∙◌, List, [], ◌∷◌, ◌++◌, length, replicate}
use Rattle.std.proofs.lemmas.List.{append_assoc, length-append, length-replicate}
use Rattle.rsa_verify.specs.Encoding.{encoded}

pub encoded-is : (xs ys zs info : List ℕ) (i k : ℕ) → xs ≡ 0 ∷ 1 ∷ replicate i 255 → ys ≡ xs ++ 0 ∷ []
    → zs ≡ ys ++ info → i ≡ k - length info - 3 → zs ≡ encoded k info
unfolding encoded
encoded-is xs ys zs info i k xs_is ys_is zs_is here =
    zs_is
    ∙ ap (λ w. w ++ info) (ys_is ∙ ap (λ w. w ++ 0 ∷ []) xs_is)
    ∙ append_assoc (0 ∷ 1 ∷ replicate i 255) (0 ∷ []) info
    ∙ ap (λ j. 0 ∷ 1 ∷ replicate j 255 ++ 0 ∷ info) here

pub length-encoded : (k : ℕ) (info : List ℕ) → length info + 11 ≤ k → length (encoded k info) ≡ k
unfolding encoded
length-encoded k info room =
    length-append (0 ∷ 1 ∷ replicate (k - length info - 3) 255) (0 ∷ info)
    ∙ ap (λ j. suc (suc j) + suc (length info)) (length-replicate (k - length info - 3) 255)
    ∙ omega arith
