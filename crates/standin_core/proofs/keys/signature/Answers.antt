use Rattle.std.proofs.Common.{◌≡◌, ℕ, List, [], ◌++◌, length, drop, take, replicate, refl, sym, ap, ◌∙◌, arith}
use borrow.Rule.Slice.PartMut.{put_mid}
use Rattle.std.proofs.lemmas.List.{drop_at, drop_all, take_at, append-nil, length-append, length-drop, length-take}
use Rattle.hmac_core.specs.Hmac.{hmac}
use Rattle.sha2.specs.Sha256.{sha256}
use Rattle.standin_core.proofs.KeyLemmas.{head, headed}
use Rattle.standin_core.proofs.keys.signature.Goals as goal

-- a write over the second half
joined : (front mac tail : List ℕ) → length front ≡ 32 → length tail ≡ 32
    → put_mid 32 32 (front ++ tail) mac ≡ front ++ mac
joined front mac tail long rest =
    let behind : drop 32 (front ++ tail) ≡ tail = drop_at front tail 32 long in
    let none : drop 32 (drop 32 (front ++ tail)) ≡ [] = ap (drop 32) behind ∙ drop_all 32 tail (omega arith) in
    ap (λ (f : List ℕ). f ++ (mac ++ drop 32 (drop 32 (front ++ tail)))) (take_at front tail 32 long)
    ∙ ap (λ (r : List ℕ). front ++ (mac ++ r)) none ∙ ap (λ (m : List ℕ). front ++ m) (append-nil mac)

-- its length
half : (front tail mac new : List ℕ) → length front ≡ 32 → length tail ≡ 32
    → length new ≡ length (take 32 (drop 32 (front ++ tail))) → new ≡ mac → length mac ≡ 32
half front tail mac new long rest same is =
    omega (arith, ap length is, same, length-take 32 (drop 32 (front ++ tail)), length-drop 32 (front ++ tail), length-append front tail)

pub returns : goal.returns
returns c =
    let mac = c.copy_from_slice-2.ensures.after ∙ c.hmac_sha256.ensures in
    let sized = half c.copy_from_slice.new.self (replicate 32 0) (hmac sha256 c.args.secret.now c.args.message.now) c.copy_from_slice-2.new.self c.copy_from_slice.ensures.len refl c.copy_from_slice-2.ensures.len mac in
    joined c.copy_from_slice.new.self c.copy_from_slice-2.new.self (replicate 32 0) c.copy_from_slice.ensures.len refl
    ∙ ap (λ (f : List ℕ). f ++ c.copy_from_slice-2.new.self) c.copy_from_slice.ensures.after
    ∙ ap (λ (m : List ℕ). head ++ m) mac
    ∙ sym (headed (hmac sha256 c.args.secret.now c.args.message.now) sized)
