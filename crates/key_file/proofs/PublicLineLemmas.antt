-- The first line of a text: what is read is in the grammar.
use Rattle.std.proofs.Common.{◌≡◌, ◌≢◌, ◌<◌, inl, inr, ℕ, List, [], ◌∷◌, ◌++◌, Ok, refl, sym, ap, subst, ◌∙◌, append_assoc}
use Rattle.std.proofs.lemmas.List.{append-nil}
use Rattle.wire_text.specs.Wire.{IsBytes}
use Rattle.key_file.specs.PublicLines.{IsWord, EndsWord, IsPublicLine, parts, first, typed_key, words_key, line_key}
use Rattle.key_file.proofs.PartLemmas.{HasNo, cut_cases, parts-at, parts-whole, words_all}
use Rattle.key_file.proofs.LineLemmas.{typed_is_found}

-- nothing, or something behind the mark
abbrev EndsAt : ℕ → List ℕ → Type 0
EndsAt mark [] = Unit {0}
EndsAt mark (byte ∷ rest) = byte ≡ mark

-- a text as its first part and what follows it
record IsFirst (mark : ℕ) (text : List ℕ) : Type 0 where
  front : List ℕ
  rest : List ℕ
  free : HasNo mark front
  whole : text ≡ front ++ rest
  end : EndsAt mark rest
  is : first (parts mark text) ≡ front

first_of : (mark : ℕ) (text : List ℕ) → IsFirst mark text
first_of mark text = elim (cut_cases mark text) [
  | inl none ↦ record {
    front = text;
    rest = [];
    free = none;
    whole = sym (append-nil text);
    end = tt;
    is = ap first (parts-whole mark text none);
  }
  | inr cut ↦ record {
    front = cut.front;
    rest = mark ∷ cut.rest;
    free = cut.free;
    whole = cut.whole;
    end = refl;
    is = ap (λ (t : List ℕ). first (parts mark t)) cut.whole ∙ ap first (parts-at mark cut.front cut.rest cut.free);
  }
]

-- a byte that ends a line or a word
ends_word : (rest more : List ℕ) → EndsAt 32 rest → EndsAt 10 more → EndsWord (rest ++ more)
ends_word [] [] a b = tt
ends_word [] (byte ∷ more) a b = inr b
ends_word (byte ∷ rest) more a b = inl a

-- bytes that end neither
word_of : (word : List ℕ) → HasNo 32 word → HasNo 10 word → IsWord word
word_of word a b i d within = (a i d within, b i d within)

-- ---- what is read

-- the words of a line, of which two are read
record AreWords (line blob : List ℕ) : Type 0 where
  type : List ℕ
  encoded : List ℕ
  rest : List ℕ
  whole : line ≡ type ++ 32 ∷ (encoded ++ rest)
  type_free : HasNo 32 type
  encoded_free : HasNo 32 encoded
  end : EndsAt 32 rest
  read : typed_key type encoded ≡ Ok blob

words_of : (line blob : List ℕ) → words_key (parts 32 line) ≡ Ok blob → AreWords line blob
words_of line blob e = elim (cut_cases 32 line) [
  | inl none ↦ absurd (cc (rw (parts-whole 32 line none) at e))
  | inr cut ↦
      let split : parts 32 line ≡ cut.front ∷ parts 32 cut.rest = ap (parts 32) cut.whole ∙ parts-at 32 cut.front cut.rest cut.free in
      let two = rw split at e in
      elim (cut_cases 32 cut.rest) [
        | inl none ↦
            record {
              type = cut.front;
              encoded = cut.rest;
              rest = [];
              whole = cut.whole ∙ ap (λ (t : List ℕ). cut.front ++ 32 ∷ t) (sym (append-nil cut.rest));
              type_free = cut.free;
              encoded_free = none;
              end = tt;
              read = rw (parts-whole 32 cut.rest none) at two;
            }
        | inr next ↦
            let more : parts 32 cut.rest ≡ next.front ∷ parts 32 next.rest = ap (parts 32) next.whole ∙ parts-at 32 next.front next.rest next.free in
            record {
              type = cut.front;
              encoded = next.front;
              rest = 32 ∷ next.rest;
              whole = cut.whole ∙ ap (λ (t : List ℕ). cut.front ++ 32 ∷ t) next.whole;
              type_free = cut.free;
              encoded_free = next.free;
              end = refl;
              read = rw more at two;
            }
      ]
]

regrouped : (type encoded rest more : List ℕ)
    → (type ++ 32 ∷ (encoded ++ rest)) ++ more ≡ type ++ 32 ∷ (encoded ++ (rest ++ more))
regrouped type encoded rest more = append_assoc type (32 ∷ (encoded ++ rest)) more ∙ ap (λ (t : List ℕ). type ++ 32 ∷ t) (append_assoc encoded rest more)

pub line_is_found : (text blob : List ℕ) → IsBytes text → line_key text ≡ Ok blob
    → IsPublicLine text blob
unfolding line_key
line_is_found text blob small e =
    let line = first_of 10 text in
    let words = words_of line.front blob (subst (λ (t : List ℕ). words_key (parts 32 t) ≡ Ok blob) line.is e) in
    let whole : text ≡ words.type ++ 32 ∷ (words.encoded ++ (words.rest ++ line.rest)) =
    line.whole ∙ ap (λ (t : List ℕ). t ++ line.rest) words.whole ∙ regrouped words.type words.encoded words.rest line.rest in
    let inside = words_all (λ byte. byte ≢ 10) words.type 32 words.encoded words.rest (subst (HasNo 10) words.whole line.free) in
    let bytes = words_all (λ byte. byte < 256) words.type 32 words.encoded (words.rest ++ line.rest) (subst IsBytes whole small) in
    record {
      type = words.type;
      encoded = words.encoded;
      rest = words.rest ++ line.rest;
      text_is = whole;
      type_word = word_of words.type words.type_free inside.0;
      encoded_word = word_of words.encoded words.encoded_free inside.1;
      end = ends_word words.rest line.rest words.end line.end;
      typed = typed_is_found words.type words.encoded blob bytes.1 words.read;
    }
