-- Lemmas on specs/Prompts.antt.
use Rattle.std.proofs.Common.{◌≡◌, ℕ, zero, suc, ◌<◌, true, List, [], ◌∷◌, Some, None, Result, Ok, Err, option_map, MatchResult, Bor, ap, arith}
use Rattle.std.proofs.lemmas.Bool.Decides.{nat_tests}
use Rattle.std.proofs.lemmas.Str.{IsUtf8-from_ascii}
use Rattle.std.specs.Result.{result_ok}
use Rattle.std.specs.Str.{IsAscii, IsUtf8}
use Rattle.child_msg.specs.Messages.{ToChildMessage}
use Rattle.child_msg.specs.Reading.{to_child_of}
use Rattle.child_msg.specs.declared.fault.ChildFault.{ChildFault}
use Rattle.relay_core.specs.Prompts.{is_plain, is_plain_byte, prompt_in, prompt_of}

-- the prompt of a body by its message
pub prompt_of-message : (job : ℕ) (body : List ℕ) (message : ToChildMessage)
    → to_child_of body ≡ Ok message → prompt_of job body ≡ prompt_in job (Some message)
unfolding prompt_of
prompt_of-message job body message is = ap (λ (r : Result ToChildMessage ChildFault). prompt_in job (result_ok r)) is

pub prompt_of-none : (job : ℕ) (body : List ℕ) (fault : ChildFault) → to_child_of body ≡ Err fault
    → prompt_of job body ≡ None
unfolding prompt_of
prompt_of-none job body fault is = ap (λ (r : Result ToChildMessage ChildFault). prompt_in job (result_ok r)) is

-- a plain byte is one of ASCII
plain_small : (byte : ℕ) → is_plain_byte byte ≡ true → byte < 128
plain_small byte plain = grind (arith, nat_tests)

-- each byte of a plain prompt is
pub plain_ascii : (prompt : List ℕ) → is_plain prompt ≡ true → IsAscii prompt
plain_ascii [] plain i = omega arith
plain_ascii (byte ∷ bytes) plain zero = plain_small byte (grind (arith, nat_tests))
plain_ascii (byte ∷ bytes) plain (suc i) = plain_ascii bytes (grind (arith, nat_tests)) i

-- a plain prompt is text
pub shown_text : {E : Type 0} (prompt : List ℕ) (read : Result (Bor (List ℕ)) E) (P : E → Type 0)
    → is_plain prompt ≡ true
    → MatchResult read (λ s. (s.now ≡ prompt) × IsUtf8 prompt) (λ e. (IsUtf8 prompt → ⊥) × P e)
    → option_map (λ (s : Bor (List ℕ)). s.now) (result_ok read) ≡ Some prompt
shown_text prompt (Ok s) P plain text = ap (λ (p : List ℕ). Some p) text.0
shown_text prompt (Err e) P plain none = absurd (none.0 (IsUtf8-from_ascii prompt (plain_ascii prompt plain)))
