-- A look that tells of the front is each answer exactly where its relation holds.
use Rattle.std.proofs.Common.{◌≡◌, ℕ, ◌+◌, ◌<◌, ◌≤◌, List, length, take, refl, sym, ap, ◌∙◌, arith, inl, inr}
use Rattle.std.specs.Prelude.{◌⊎◌, ◌↔◌}
use Rattle.std.specs.Int.{w32, from_be_bytes}
use Rattle.frame_core.specs.declared.outcome.Look.{Look}
use Rattle.frame_core.specs.declared.outcome.Look.TheVariants as answers
use Rattle.frame_core.specs.Looks.{front_of}
use Rattle.wire_text.specs.Wire.{announced_len}
use Rattle.wire_text.specs.Frames.{Whole, Bad, front, StartsWithFrame, StartsBadly, IsUnfinished}
use Rattle.wire_text.proofs.WireLemmas.{announced_len-read}
use Rattle.wire_text.proofs.FrontLemmas.{front-waits, front-whole, front-bad, front-more, front-whole_iff, front-bad_iff, front-more_iff}

-- a look is known by its front
pub same_look : (a b : Look) → front_of a ≡ front_of b → a ≡ b
same_look (answers.Whole n) (answers.Whole m) same = cc
same_look (answers.Whole n) (answers.Bad m) same = cc
same_look (answers.Whole n) answers.More same = cc
same_look (answers.Bad n) (answers.Whole m) same = cc
same_look (answers.Bad n) (answers.Bad m) same = cc
same_look (answers.Bad n) answers.More same = cc
same_look answers.More (answers.Whole m) same = cc
same_look answers.More (answers.Bad m) same = cc
same_look answers.More answers.More same = refl

-- a look that tells of the front, and what it says
pub record IsLook (max : ℕ) (bytes : List ℕ) (answer : Look) : Type 0 where
  pub exact : front_of answer ≡ front max bytes
  pub whole : (answer ≡ answers.Whole (announced_len bytes)) ↔ StartsWithFrame max bytes
  pub bad : (answer ≡ answers.Bad (announced_len bytes)) ↔ StartsBadly max bytes
  pub more : (answer ≡ answers.More) ↔ IsUnfinished max bytes

-- what it says follows from the front
pub IsLook-from_front : (max : ℕ) (bytes : List ℕ) (answer : Look) → front_of answer ≡ front max bytes → IsLook max bytes answer
IsLook-from_front max bytes answer exact =
    record {
      exact = exact;
      whole = (
        λ is. (front-whole_iff max bytes).0 (sym exact ∙ ap front_of is),
        λ starts. same_look answer (answers.Whole (announced_len bytes)) (exact ∙ front-whole max bytes starts),
      );
      bad = (
        λ is. (front-bad_iff max bytes).0 (sym exact ∙ ap front_of is),
        λ starts. same_look answer (answers.Bad (announced_len bytes)) (exact ∙ front-bad max bytes starts),
      );
      more = (
        λ is. (front-more_iff max bytes).0 (sym exact ∙ ap front_of is),
        λ unfinished. same_look answer answers.More (exact ∙ front-more max bytes unfinished),
      );
    }

-- the first four bytes, the bytes behind them, and the number read from the four
pub record IsRead (bytes header rest : List ℕ) (announced : ℕ) : Type 0 where
  pub first : header ≡ take 4 bytes
  pub behind : length rest + 4 ≡ length bytes
  pub value : announced ≡ from_be_bytes w32 header

-- the number is the length that is announced
value_is : (bytes header rest : List ℕ) (announced : ℕ) → IsRead bytes header rest announced → announced ≡ announced_len bytes
value_is bytes header rest announced read =
    let behind : length rest + 4 ≡ length bytes = read.behind in
    announced_len-read bytes header announced (omega arith) read.first read.value

-- a bad length
pub IsLook-bad : (max : ℕ) (bytes header rest : List ℕ) (announced : ℕ) → IsRead bytes header rest announced → (announced ≡ 0) ⊎ ((announced ≡ 0 → ⊥) × max < announced) → IsLook max bytes (answers.Bad announced)
IsLook-bad max bytes header rest announced read refused =
    let behind : length rest + 4 ≡ length bytes = read.behind in
    let same = value_is bytes header rest announced read in
    let starts : StartsBadly max bytes = record {
      header = omega arith;
      refused = elim refused [ inl none ↦ inl (sym same ∙ none) | inr above ↦ inr (omega (arith, same, above.1)) ];
    } in
    IsLook-from_front max bytes (answers.Bad announced) (ap Bad same ∙ sym (front-bad max bytes starts))

-- a body that is not there yet
pub IsLook-more : (max : ℕ) (bytes header rest : List ℕ) (announced : ℕ) → IsRead bytes header rest announced → 0 < announced → announced ≤ max → length rest < announced → IsLook max bytes answers.More
IsLook-more max bytes header rest announced read some within short =
    let behind : length rest + 4 ≡ length bytes = read.behind in
    let same = value_is bytes header rest announced read in
    IsLook-from_front max bytes answers.More
    (sym (front-waits max bytes (omega arith) (omega (arith, same)) (omega (arith, same)) (omega (arith, same))))

-- a whole frame
pub IsLook-whole : (max : ℕ) (bytes header rest : List ℕ) (announced : ℕ) → IsRead bytes header rest announced → 0 < announced → announced ≤ max → announced ≤ length rest → IsLook max bytes (answers.Whole announced)
IsLook-whole max bytes header rest announced read some within enough =
    let behind : length rest + 4 ≡ length bytes = read.behind in
    let same = value_is bytes header rest announced read in
    let starts : StartsWithFrame max bytes = record {
      header = omega arith;
      some = omega (arith, same);
      within = omega (arith, same);
      follows = omega (arith, same);
    } in
    IsLook-from_front max bytes (answers.Whole announced) (ap Whole same ∙ sym (front-whole max bytes starts))
