use Rattle.std.proofs.Common.{◌≡◌, ◌∙◌, ap, sym, refl, List, ℕ, Option, Some, None, map, string_bytes, option_map, Bor}
use Rattle.child_peer.specs.Words.{ChildWords, plain_words, words_of}
use Rattle.relay_core.specs.Transcript.{program_in, program_of, transcript_of}
use Rattle.relay_core.proofs.RelayLemmas.{answers_by, no_usage, transcript-refused, transcript-relay}
use Rattle.relay_core.proofs.program.relay_main.Goals as goal

-- the last word, as it was read
last_read : (words : List (List ℕ)) (read : ChildWords) (program : Option (List ℕ))
    → Some read ≡ words_of words → read.last ≡ program → program_of words ≡ program
last_read words read program is named = ap program_in (sym is) ∙ named

-- a program is not none
some_program : (words : List (List ℕ)) (read : ChildWords) (program : List ℕ)
    → Some read ≡ words_of words → read.last ≡ Some program → program_of words ≡ None → ⊥
some_program words read program is named none = cc (last_read words read (Some program) is named, none)

pub returns-in_default-clause-answers : goal.returns-in_default-clause-answers
returns-in_default-clause-answers g c =
    record { is = transcript-refused (map string_bytes c.args.words.now) (ap program_in (sym c.in_default.ensures)); nothing = refl }

pub returns-in_default-last-clause-answers : goal.returns-in_default-last-clause-answers
returns-in_default-last-clause-answers g c =
    let named = ap (option_map (λ (word : Bor (List ℕ)). word.now)) c.in_default-last.is in
    record {
      is = transcript-refused (map string_bytes c.args.words.now) (last_read (map string_bytes c.args.words.now) (plain_words c.in-Some.words) None c.in-Some.ensures named);
      nothing = refl;
    }

pub returns-clause-answers : goal.returns-clause-answers
returns-clause-answers g c =
    let texts = map string_bytes c.args.words.now in
    let named = ap (option_map (λ (word : Bor (List ℕ)). word.now)) c.in-Some-last.is in
    answers_by c.relay.result texts _ _
    (c.relay.ensures (transcript_of texts) (transcript-relay texts (plain_words c.in-Some.words) c.in-Some-last.program.now (sym c.in-Some.ensures) named))

pub returns-clause-usage : goal.returns-clause-usage
returns-clause-usage g c =
    let texts = map string_bytes c.args.words.now in
    let named = ap (option_map (λ (word : Bor (List ℕ)). word.now)) c.in-Some-last.is in
    let ends = c.relay.ensures (transcript_of texts) (transcript-relay texts (plain_words c.in-Some.words) c.in-Some-last.program.now (sym c.in-Some.ensures) named) in
    (λ is. absurd (no_usage c.relay.result _ _ _ ends is), λ none. absurd (some_program texts (plain_words c.in-Some.words) c.in-Some-last.program.now c.in-Some.ensures named none))

pub returns-clause-unused : goal.returns-clause-unused
returns-clause-unused g c =
    let texts = map string_bytes c.args.words.now in
    let named = ap (option_map (λ (word : Bor (List ℕ)). word.now)) c.in-Some-last.is in
    let ends = c.relay.ensures (transcript_of texts) (transcript-relay texts (plain_words c.in-Some.words) c.in-Some-last.program.now (sym c.in-Some.ensures) named) in
    λ is. absurd (no_usage c.relay.result _ _ _ ends is)
