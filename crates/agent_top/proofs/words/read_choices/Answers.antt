use Rattle.std.proofs.Common.{◌≡◌, ◌≤◌, ◌<◌, ◌-◌, ◌∙◌, ap, arith, drop, get_or, length, refl, sym, true, codes, ℕ, List, [], ◌∷◌, None}
use Rattle.std.proofs.lemmas.List.{length-drop, take_all}
use Rattle.std.specs.Str.{bytes_eq}
use Rattle.std.specs.String.{string_bytes}
use Rattle.std.specs.declared.string.String.{String}
use Rattle.std.specs.declared.alloc.Global.{Global}
use Rattle.replay_run.specs.Choices.{lived_with, settings_with}
use Rattle.agent_top.specs.Words.{choices, texts_of}
use Rattle.agent_top.proofs.words.read_choices.Goals as goal

-- a word alone chooses no lifetime
one_word : (words : List (String Global)) → length words < 2 → settings_with None (texts_of words) ≡ choices (texts_of words)
one_word [] less = refl
one_word (word ∷ []) less = refl
one_word (word ∷ next ∷ words) less = absurd (omega (arith, less))

-- a word behind `-t` chooses one
lived : (words : List (String Global)) (option life : String Global) (name text : List ℕ) → 2 ≤ length words
    → option ≡ get_or words 0 option → life ≡ get_or words 1 life → name ≡ string_bytes option → text ≡ string_bytes life
    → bytes_eq name (codes "-t") ≡ true → lived_with text (texts_of (drop 2 words)) ≡ choices (texts_of words)
lived [] option life name text long first second named says is = absurd (omega (arith, long))
lived (one ∷ []) option life name text long first second named says is = absurd (omega (arith, long))
lived (one ∷ two ∷ words) option life name text long first second named says is =
    let begins : option ≡ one = first in
    let follows : life ≡ two = second in
    rw (← begins, ← follows, ← named, ← says, is) refl

pub returns-then-names_life : goal.returns-then-names_life
returns-then-names_life c =
    let words = c.args.words.now in
    c.read_lived.ensures
    ∙ ap (λ (further : List (String Global)). lived_with c.as_str-then-names_life.result.now (texts_of further))
    (take_all (length words - 2) (drop 2 words) (omega (arith, length-drop 2 words)))
    ∙ lived words c.option-item.result c.life-item.result _ _ c.in-len2-up.len_at_least c.option-item.is c.life-item.is
    c.as_str.ensures.value c.as_str-then-names_life.ensures.value (sym c.names_life.ensures ∙ c.if-names_life.true)

pub returns-in-len1 : goal.returns-in-len1
returns-in-len1 c = c.read_with-in-len1.ensures ∙ one_word c.args.words.now c.in-len1.len_below
