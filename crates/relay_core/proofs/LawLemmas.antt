-- Lemmas for the laws of a relay.
use Rattle.std.proofs.Common.{◌≡◌, ◌⊎◌, inl, inr, ◌&&◌, ◌||◌, ℕ, ℤ, pos, Bool, true, false, List, [], length, map, codes, Option, Some, None, Result, Ok, Err, if◌then◌else◌, nat_eq, refl, ap, sym, ◌∙◌, arith}
use Rattle.std.proofs.lemmas.Bool.Decides.{Decides-int_eq, nat_tests}
use Rattle.std.proofs.lemmas.List.{nil_from_length}
use Rattle.std.proofs.lemmas.Slice.Eq.{bytes_eq-Decides}
use Rattle.std.specs.Char.{to_ascii_lowercase}
use Rattle.std.specs.Ordering.{int_eq}
use Rattle.std.specs.Result.{result_ok}
use Rattle.std.specs.Str.{str_eq_ignore_ascii_case}
use Rattle.child_msg.specs.Messages.{Granted, Denied, ToChildMessage, Sign, Verify, Confirm}
use Rattle.child_msg.specs.Reading.{to_child_of}
use Rattle.child_msg.specs.declared.fault.ChildFault.{ChildFault}
use Rattle.relay_core.specs.Laws.{ConsentsBy, IsConsent, IsPromptOf}
use Rattle.relay_core.specs.Prompts.{is_plain, prompt_in, prompt_of, shown_for}
use Rattle.relay_core.specs.Transcript.{RunAnswer, is_granted, verdict_message}
use Rattle.relay_core.specs.Verdicts.{first_line, is_consent, verdict_of}
use Rattle.relay_core.proofs.PromptLemmas.{prompt_of-message}
use Rattle.relay_core.proofs.VerdictLemmas.{verdict-zero}
use Rattle.world_ports.specs.declared.spawner.Ran.{Ran}

-- ---- consents

both : (a b : Bool) → (a && b) ≡ true → (a ≡ true) × (b ≡ true)
both true b is = (refl, is)
both false b is = cc is

either : (a b : Bool) → (a || b) ≡ true → (a ≡ true) ⊎ (b ≡ true)
either true b is = inl refl
either false b is = inr is

consent-case : (word : List ℕ)
    → (nat_eq (length word) 0 ≡ true) ⊎ (str_eq_ignore_ascii_case word (codes "yes") ≡ true)
    → (word ≡ []) ⊎ (map to_ascii_lowercase word ≡ map to_ascii_lowercase (codes "yes"))
consent-case word (inl empty) = inl (nil_from_length word (grind (arith, nat_tests)))
consent-case word (inr same) = inr ((bytes_eq-Decides (map to_ascii_lowercase word) (map to_ascii_lowercase (codes "yes"))).0 same)

consent-word : (word : List ℕ) → is_consent word ≡ true
    → (word ≡ []) ⊎ (map to_ascii_lowercase word ≡ map to_ascii_lowercase (codes "yes"))
consent-word word is =
    let says : (nat_eq (length word) 0 ≡ true) ⊎ (str_eq_ignore_ascii_case word (codes "yes") ≡ true) = either _ _ is in
    consent-case word says

pub verdict-only : (status : ℤ) (output : List ℕ) → verdict_of status output ≡ true
    → IsConsent status output
unfolding verdict_of
verdict-only status output is =
    let tests = both _ _ is in
    record { zero = (Decides-int_eq status (pos 0)).0 tests.0; word = consent-word (first_line output) tests.1 }

or_true : (a b : Bool) → b ≡ true → (a || b) ≡ true
or_true true b is = refl
or_true false b is = is

word-consent : (word : List ℕ)
    → (word ≡ []) ⊎ (map to_ascii_lowercase word ≡ map to_ascii_lowercase (codes "yes"))
    → is_consent word ≡ true
word-consent word (inl empty) = rw empty refl
word-consent word (inr same) =
    let equal : str_eq_ignore_ascii_case word (codes "yes") ≡ true =
    (bytes_eq-Decides (map to_ascii_lowercase word) (map to_ascii_lowercase (codes "yes"))).1 same in
    or_true (nat_eq (length word) 0) (str_eq_ignore_ascii_case word (codes "yes")) equal

pub verdict-found : (status : ℤ) (output : List ℕ) → IsConsent status output
    → verdict_of status output ≡ true
verdict-found status output consent = verdict-zero status output consent.zero ∙ word-consent (first_line output) consent.word

-- ---- what the agent is told

told-granted : (job : ℕ) (granted : Bool) → verdict_message job granted ≡ Granted job
    → granted ≡ true
told-granted job true is = refl
told-granted job false is = cc is

pub granted-only : (job : ℕ) (answer : RunAnswer)
    → verdict_message job (is_granted answer) ≡ Granted job → ConsentsBy answer
granted-only job (Ok ran) is = record { ran = ran; ended = refl; says = verdict-only ran.status ran.output (told-granted job (verdict_of ran.status ran.output) is) }
granted-only job (Err fault) is = cc is

pub granted-found : (job : ℕ) (answer : RunAnswer) → ConsentsBy answer
    → verdict_message job (is_granted answer) ≡ Granted job
granted-found job answer consents =
    ap (λ (a : RunAnswer). verdict_message job (is_granted a)) consents.ended
    ∙ ap (verdict_message job) (verdict-found consents.ran.status consents.ran.output consents.says)

-- ---- prompts

-- what a choice gave
chosen : {A : Type 0} (test : Bool) (x y : A) → (if test then Some x else None) ≡ Some y
    → (test ≡ true) × (x ≡ y)
chosen true x y is = (refl, cc is)
chosen false x y is = cc is

shown-only : (job number : ℕ) (asked prompt : List ℕ) → shown_for job number asked ≡ Some prompt
    → (number ≡ job) × (is_plain asked ≡ true) × (asked ≡ prompt)
shown-only job number asked prompt is =
    let shows = chosen (nat_eq number job && is_plain asked) asked prompt is in
    let tests = both (nat_eq number job) (is_plain asked) shows.0 in
    let test : nat_eq number job ≡ true = tests.0 in
    let same : number ≡ job = grind (arith, nat_tests) in
    (same, tests.1, shows.1)

prompt-message : (job : ℕ) (body prompt : List ℕ) (read : Result ToChildMessage ChildFault)
    → to_child_of body ≡ read → prompt_in job (result_ok read) ≡ Some prompt
    → IsPromptOf job body prompt
prompt-message job body prompt (Ok (Confirm number asked)) read is =
    let shows = shown-only job number asked prompt is in
    record {
      read = read ∙ ap (λ (n : ℕ). Ok (Confirm n asked)) shows.0 ∙ ap (λ (p : List ℕ). Ok (Confirm job p)) shows.2;
      plain = ap is_plain (sym shows.2) ∙ shows.1;
    }
prompt-message job body prompt (Ok (Sign request)) read is = cc is
prompt-message job body prompt (Ok (Verify request)) read is = cc is
prompt-message job body prompt (Err fault) read is = cc is

pub prompt-only : (job : ℕ) (body prompt : List ℕ) → prompt_of job body ≡ Some prompt
    → IsPromptOf job body prompt
unfolding prompt_of
prompt-only job body prompt is = prompt-message job body prompt (to_child_of body) refl is

pub prompt-found : (job : ℕ) (body prompt : List ℕ) → IsPromptOf job body prompt
    → prompt_of job body ≡ Some prompt
prompt-found job body prompt is =
    let plain = is.plain in
    prompt_of-message job body (Confirm job prompt) is.read ∙ grind (arith, nat_tests, plain)
