-- Alike streams, of which the first bytes were heard: the same stands at their fronts.
use Rattle.std.proofs.Common.{◌≡◌, ℕ, ◌+◌, ◌<◌, ◌≤◌, List, [], ◌∷◌, ◌++◌, length, take, refl, sym, ap, subst, ◌∙◌, arith, inl, inr, length-append}
use Rattle.std.specs.Prelude.{◌⊎◌}
use Rattle.wire_text.specs.Wire.{announced_len}
use Rattle.wire_text.specs.Frames.{Bad, Front, More, Whole, after_front, front, front_body, split, split_from, then_split, unsplit}
use Rattle.wire_text.proofs.WireLemmas.{announced_len-append, announced_len-take}
use Rattle.wire_text.proofs.FrontLemmas.{front-append_bad, front-append_whole, front-bad, front-whole, front_says, length-front_body}
use Rattle.wire_text.proofs.SplitLemmas.{after_front-append, front_body-append, split-bad, split-front, split-whole}
use Rattle.wire_text.specs.Bounds.{longest_body}
use Rattle.agent_secrecy.specs.Alike.{AreAlikeAdditions, AreAlikeBodies, AreAlikeSplits, AreAlikeStreams, AreAllAlike}
use Rattle.agent_secrecy.proofs.KeyLemmas.{alike_lengths, alike_sym}

-- ---- alike both ways

additions_sym : (one other : List ℕ) → AreAlikeAdditions one other → AreAlikeAdditions other one
additions_sym one other alike = record {
  number = alike.number;
  adds = alike.adds;
  key = alike.other_key;
  other_key = alike.key;
  keys = alike_sym alike.key alike.other_key alike.keys;
  rest = alike.rest;
  left = alike.right;
  right = alike.left;
}

bodies_sym : (one other : List ℕ) → AreAlikeBodies one other → AreAlikeBodies other one
bodies_sym one other (inl same) = inl (sym same)
bodies_sym one other (inr alike) = inr (additions_sym one other alike)

all_sym : (ones others : List (List ℕ)) → AreAllAlike ones others → AreAllAlike others ones
all_sym [] [] alike = tt
all_sym [] (other ∷ others) alike = absurd alike
all_sym (one ∷ ones) [] alike = absurd alike
all_sym (one ∷ ones) (other ∷ others) alike =
    (bodies_sym one other alike.0, all_sym ones others alike.1)

pub streams_sym : (one other : List ℕ) → AreAlikeStreams one other → AreAlikeStreams other one
streams_sym one other alike = record {
  bodies = all_sym (split longest_body one).bodies (split longest_body other).bodies alike.bodies;
  lengths = sym alike.lengths;
  heads = sym alike.heads;
}

-- alike bodies are of one length
body_lengths : (one other : List ℕ) → AreAlikeBodies one other → length one ≡ length other
body_lengths one other (inl same) = ap length same
body_lengths one other (inr alike) = omega (
  arith,
  ap length alike.left,
  ap length alike.right,
  length-append alike.key.private alike.rest,
  length-append alike.other_key.private alike.rest,
  alike_lengths alike.key alike.other_key alike.keys,
)

-- the split of a stream of which a whole frame was heard
split-heard : (max : ℕ) (s t : List ℕ) (body_len : ℕ) → front max s ≡ Whole body_len
    → split max (s ++ t) ≡ then_split (front_body body_len s ∷ []) (split max (after_front body_len s ++ t))
split-heard max s t body_len found =
    split-whole max (s ++ t) body_len (front-append_whole max s t body_len found)
    ∙ ap (λ (b : List ℕ). then_split (b ∷ []) (split max (after_front body_len (s ++ t)))) (front_body-append max s t body_len found)
    ∙ ap (λ (r : List ℕ). then_split (front_body body_len s ∷ []) (split max r)) (after_front-append max s t body_len found)

-- a whole frame that was heard to its end
heard_whole : (max : ℕ) (s t : List ℕ) (body_len : ℕ) → front max (s ++ t) ≡ Whole body_len
    → 4 + body_len ≤ length s → front max s ≡ Whole body_len
heard_whole max s t body_len found enough =
    let is = front_says max (s ++ t) (Whole body_len) found in
    let same : announced_len (s ++ t) ≡ announced_len s = announced_len-append s t (omega arith) in
    let len : body_len ≡ announced_len (s ++ t) = is.1 in
    let some : 0 < announced_len (s ++ t) = is.0.some in
    let within : announced_len (s ++ t) ≤ max = is.0.within in
    let here : body_len ≡ announced_len s = len ∙ same in
    front-whole max s (record { header = omega arith; some = omega (arith, same); within = omega (arith, same); follows = omega (arith, here) })
    ∙ ap Whole (sym here)

-- ---- fronts

-- what stands at the fronts of what was heard of two streams, with these bytes still to come
pub data AreAlikeFronts (h k f g : List ℕ) : Front → Front → Type 0 where
  both_whole : (body_len : ℕ) → AreAlikeBodies (front_body body_len h) (front_body body_len k)
      → AreAlikeStreams (after_front body_len h ++ f) (after_front body_len k ++ g) → AreAlikeFronts h k f g (Whole body_len) (Whole body_len)
  both_bad : (one other : ℕ) → AreAlikeFronts h k f g (Bad one) (Bad other)
  both_more : AreAlikeFronts h k f g More More

pub record IsWholeToo (h k f g : List ℕ) (body_len : ℕ) : Type 0 where
  pub front : front longest_body k ≡ Whole body_len
  pub bodies : AreAlikeBodies (front_body body_len h) (front_body body_len k)
  pub streams : AreAlikeStreams (after_front body_len h ++ f) (after_front body_len k ++ g)

module _ (h k f g : List ℕ) (lengths : length h ≡ length k) where
  -- by what stands at the front of the other stream
  whole_by : (body_len : ℕ) (answer : Front) → front longest_body h ≡ Whole body_len
      → front longest_body (k ++ g) ≡ answer
      → AreAlikeSplits (then_split (front_body body_len h ∷ []) (split longest_body (after_front body_len h ++ f))) (split_from answer (split longest_body) (k ++ g))
      → IsWholeToo h k f g body_len
  whole_by body_len (Whole other_len) found is alike =
      let first : AreAlikeBodies (front_body body_len h) (front_body other_len (k ++ g)) = alike.bodies.0 in
      let one_len = length-front_body longest_body h body_len found in
      let other_is_len = length-front_body longest_body (k ++ g) other_len is in
      let same : body_len ≡ other_len = omega (arith, one_len, other_is_len, body_lengths _ _ first) in
      let says = front_says longest_body h (Whole body_len) found in
      let follows : 4 + announced_len h ≤ length h = says.0.follows in
      let is_announced : body_len ≡ announced_len h = says.1 in
      let there : front longest_body (k ++ g) ≡ Whole body_len = is ∙ ap Whole (sym same) in
      let here : front longest_body k ≡ Whole body_len = heard_whole longest_body k g body_len there (omega (arith, lengths)) in
      let later : AreAlikeStreams (after_front body_len h ++ f) (after_front other_len (k ++ g)) =
      record { bodies = alike.bodies.1; lengths = alike.lengths; heads = alike.heads } in
      record {
        front = here;
        bodies = subst (AreAlikeBodies (front_body body_len h)) (ap (λ (n : ℕ). front_body n (k ++ g)) (sym same) ∙ front_body-append longest_body k g body_len here) first;
        streams = subst (AreAlikeStreams (after_front body_len h ++ f)) (ap (λ (n : ℕ). after_front n (k ++ g)) (sym same) ∙ after_front-append longest_body k g body_len here) later;
      }
  whole_by body_len (Bad announced) found is alike = absurd (alike.bodies)
  whole_by body_len More found is alike = absurd (alike.bodies)

  -- a whole frame stands at the front of the other too
  whole_too : (body_len : ℕ) → front longest_body h ≡ Whole body_len
      → AreAlikeStreams (h ++ f) (k ++ g) → IsWholeToo h k f g body_len
  whole_too body_len found alike =
      whole_by body_len (front longest_body (k ++ g)) found refl
      (subst (AreAlikeSplits (then_split (front_body body_len h ∷ []) (split longest_body (after_front body_len h ++ f)))) (split-front longest_body (k ++ g))
      (subst (λ parts. AreAlikeSplits parts (split longest_body (k ++ g))) (split-heard longest_body h f body_len found) alike))

  bad_from : (announced : ℕ) → front longest_body h ≡ Bad announced
      → take 4 (h ++ f) ≡ take 4 (k ++ g) → front longest_body k ≡ Bad (announced_len k)
  bad_from announced found heads =
      let says = front_says longest_body h (Bad announced) found in
      let header : 4 ≤ length h = says.0.header in
      let same : announced_len h ≡ announced_len k =
      sym (announced_len-append h f header) ∙ sym (announced_len-take (h ++ f) (omega (arith, length-append h f)))
      ∙ ap announced_len heads
      ∙ announced_len-take (k ++ g) (omega (arith, lengths, length-append k g)) ∙ announced_len-append k g (omega (arith, lengths)) in
      front-bad longest_body k (record {
        header = omega (arith, lengths);
        refused = subst (λ (n : ℕ). (n ≡ 0) ⊎ (longest_body < n)) same says.0.refused;
      })

  bad_by : (announced : ℕ) (answer : Front) → front longest_body h ≡ Bad announced
      → AreAlikeSplits (unsplit (h ++ f)) (split_from answer (split longest_body) (k ++ g)) → front longest_body k ≡ Bad (announced_len k)
  bad_by announced (Whole other_len) found alike = absurd (alike.bodies)
  bad_by announced (Bad other) found alike = bad_from announced found alike.heads
  bad_by announced More found alike = bad_from announced found alike.heads

  -- a bad length stands at the front of the other too
  bad_too : (announced : ℕ) → front longest_body h ≡ Bad announced
      → AreAlikeStreams (h ++ f) (k ++ g) → front longest_body k ≡ Bad (announced_len k)
  bad_too announced found alike =
      bad_by announced (front longest_body (k ++ g)) found
      (subst (AreAlikeSplits (unsplit (h ++ f))) (split-front longest_body (k ++ g))
      (subst (λ parts. AreAlikeSplits parts (split longest_body (k ++ g))) (split-bad longest_body (h ++ f) announced (front-append_bad longest_body h f announced found)) alike))

more_whole : (n : ℕ) → More ≡ Whole n → ⊥
more_whole n same = cc

more_bad : (n : ℕ) → More ≡ Bad n → ⊥
more_bad n same = cc

fronts_by : (h k f g : List ℕ) (lengths : length h ≡ length k) (one other : Front)
    → front longest_body h ≡ one → front longest_body k ≡ other → AreAlikeStreams (h ++ f) (k ++ g)
    → AreAlikeFronts h k f g one other
fronts_by h k f g lengths (Whole body_len) other one_is other_is alike =
    let too = whole_too h k f g lengths body_len one_is alike in
    subst (AreAlikeFronts h k f g (Whole body_len)) (sym too.front ∙ other_is) (both_whole body_len too.bodies too.streams)
fronts_by h k f g lengths (Bad announced) other one_is other_is alike =
    subst (AreAlikeFronts h k f g (Bad announced)) (sym (bad_too h k f g lengths announced one_is alike) ∙ other_is) (both_bad announced (announced_len k))
fronts_by h k f g lengths More (Whole body_len) one_is other_is alike =
    absurd (more_whole body_len (sym one_is ∙ (whole_too k h g f (sym lengths) body_len other_is (streams_sym (h ++ f) (k ++ g) alike)).front))
fronts_by h k f g lengths More (Bad announced) one_is other_is alike =
    absurd (more_bad (announced_len h) (sym one_is ∙ bad_too k h g f (sym lengths) announced other_is (streams_sym (h ++ f) (k ++ g) alike)))
fronts_by h k f g lengths More More one_is other_is alike = both_more

-- however much of them was heard
pub alike_fronts : (h k f g : List ℕ) → length h ≡ length k → AreAlikeStreams (h ++ f) (k ++ g)
    → AreAlikeFronts h k f g (front longest_body h) (front longest_body k)
alike_fronts h k f g lengths alike =
    fronts_by h k f g lengths (front longest_body h) (front longest_body k) refl refl alike
