-- It does not matter how the child process's bytes are cut.
use Rattle.std.proofs.Common.{◌≡◌, ℕ, List, [], ◌∷◌, ◌++◌, Option, Some, None, refl, sym, ap, ◌∙◌, append_assoc}
use Rattle.std.proofs.lemmas.Bool.{eq-eqb}
use Rattle.lists.specs.Keyed.{has_key}
use Rattle.lists.proofs.FirstLemmas.{change-pointwise, change-twice, find-change_found}
use Rattle.wire_text.specs.Bounds.{longest_body}
use Rattle.wire_text.specs.Frames.{Front, Whole, Bad, More, front}
use Rattle.wire_text.proofs.FrontLemmas.{front-append_bad, front-append_whole}
use Rattle.wire_text.proofs.SplitLemmas.{front_body-append}
use Rattle.child_msg.specs.Reading.{from_child_of}
use Rattle.confirm_desk.specs.Calls.{Telling, given_back, telling, telling_by, telling_if}
use Rattle.confirm_desk.specs.Confirmations.{Confirmation, Consent, NotYet, Yes, No, came_to, change_job, consent, consent_at, consent_in, find_linked, heard_more, is_at, job_of, told}
use Rattle.confirm_desk.specs.Cuts.{joined, told_in_turn, unless_decided}
use Rattle.confirm_desk.specs.Sound.{AreApart, IsSound}
use Rattle.confirm_desk.specs.declared.held.Verdict.{Verdict}
use Rattle.confirm_desk.specs.declared.held.Verdict.TheVariants as verdicts
use Rattle.confirm_desk.proofs.TellLemmas.{IsSound-telling, lose_changed, only_job, tells}

-- ---- a decision stands, whatever follows

decided_at : (job : ℕ) (heard more : List ℕ) (answer : Front) → front longest_body heard ≡ answer →
    (consent_at job answer heard ≡ NotYet → ⊥) →
    consent_at job (front longest_body (heard ++ more)) (heard ++ more) ≡ consent_at job answer heard
decided_at job heard more (Whole body_len) found decided =
    ap (λ (answer : Front). consent_at job answer (heard ++ more)) (front-append_whole longest_body heard more body_len found)
    ∙ ap (λ (body : List ℕ). consent_in job (from_child_of body)) (front_body-append longest_body heard more body_len found)
decided_at job heard more (Bad announced) found decided =
    ap (λ (answer : Front). consent_at job answer (heard ++ more)) (front-append_bad longest_body heard more announced found)
decided_at job heard more More found decided = absurd (decided refl)

pub consent-append : (job : ℕ) (heard more : List ℕ) → (consent job heard ≡ NotYet → ⊥) →
    consent job (heard ++ more) ≡ consent job heard
unfolding consent
consent-append job heard more decided =
    decided_at job heard more (front longest_body heard) refl decided

-- ---- one that goes on is still at its port

still_linked : (port : ℕ) (f : Confirmation → Confirmation) (all : List Confirmation)
    (found : Confirmation) → ((c : Confirmation) → (f c).port ≡ c.port) → AreApart all →
    find_linked port all ≡ Some found →
    find_linked port (change_job found.job f all) ≡ Some (f found)
still_linked port f all found keeps apart is =
    find-change_found (came_to port) (has_key job_of found.job) f all found
    (λ c. ap (is_at port) (keeps c)) (only_job found.job all apart) is (eq-eqb found.job found.job refl)

-- ---- a piece and then another

-- what is heard in two pieces
pub told-told : (job : ℕ) (piece more : List ℕ) (all : List Confirmation) →
    told job more (told job piece all) ≡ told job (piece ++ more) all
told-told job piece more all =
    change-twice (has_key job_of job) (heard_more piece) (heard_more more) all (λ _. refl)
    ∙ change-pointwise (has_key job_of job) (λ c. heard_more more (heard_more piece c)) (heard_more (piece ++ more)) all
    (λ c. ap (λ (heard : List ℕ). record c { heard = heard }) (append_assoc c.heard piece more))

-- whatever the user says by the second
same_telling : (one : Confirmation) (piece more : List ℕ) (all : List Confirmation) (answer : Consent) →
    telling_by answer (heard_more piece one) more (told one.job piece all) ≡ telling_by answer one (piece ++ more) all
same_telling one piece more all NotYet =
    ap (λ (desk : List Confirmation). record {
      desk =
          desk;
      verdict = verdicts.NotYet;
    }) (told-told one.job piece more all)
same_telling one piece more all Yes =
    ap (λ (desk : List Confirmation). record {
      desk =
          desk;
      verdict = verdicts.Granted (given_back one);
    }) (lose_changed one.job (heard_more piece) all (λ _. refl))
same_telling one piece more all No =
    ap (λ (desk : List Confirmation). record {
      desk =
          desk;
      verdict = verdicts.Denied (given_back one);
    }) (lose_changed one.job (heard_more piece) all (λ _. refl))

not_yes : Yes ≡ NotYet → ⊥
not_yes is = absurd cc

not_no : No ≡ NotYet → ⊥
not_no is = absurd cc

-- by what the user says by the first
append_by : (port : ℕ) (piece more : List ℕ) (all : List Confirmation) (one : Confirmation) (answer : Consent) → IsSound all → find_linked port all ≡ Some one →
    consent one.job (one.heard ++ piece) ≡ answer →
    telling port (piece ++ more) all ≡ unless_decided (telling_by answer one piece all).verdict (telling_by answer one piece all) (telling port more)
append_by port piece more all one NotYet sound found is =
    let again : find_linked port (told one.job piece all) ≡ Some (heard_more piece one) =
    still_linked port (heard_more piece) all one (λ _. refl) sound.apart found in
    let second : Consent = consent one.job ((one.heard ++ piece) ++ more) in
    tells port (piece ++ more) all one second found (ap (consent one.job) (sym (append_assoc one.heard piece more)))
    ∙ sym (same_telling one piece more all second)
    ∙ sym (tells port more (told one.job piece all) (heard_more piece one) second again refl)
append_by port piece more all one Yes sound found is =
    tells port (piece ++ more) all one Yes found
    (ap (consent one.job) (sym (append_assoc one.heard piece more))
    ∙ consent-append one.job (one.heard ++ piece) more (λ e. not_yes (sym is ∙ e)) ∙ is)
append_by port piece more all one No sound found is =
    tells port (piece ++ more) all one No found
    (ap (consent one.job) (sym (append_assoc one.heard piece more))
    ∙ consent-append one.job (one.heard ++ piece) more (λ e. not_no (sym is ∙ e)) ∙ is)

append_if : (port : ℕ) (piece more : List ℕ) (all : List Confirmation) (found : Option Confirmation) → IsSound all → find_linked port all ≡ found →
    telling port (piece ++ more) all ≡ unless_decided (telling port piece all).verdict (telling port piece all) (telling port more)
append_if port piece more all None sound is =
    ap (λ (at : Option Confirmation). telling_if at (piece ++ more) all) is
    ∙ sym (ap (λ (at : Option Confirmation). telling_if at more all) is)
    ∙ sym (ap (λ (at : Option Confirmation). unless_decided (telling_if at piece all).verdict (telling_if at piece all) (telling port more)) is)
append_if port piece more all (Some one) sound is =
    append_by port piece more all one (consent one.job (one.heard ++ piece)) sound is refl
    ∙ ap (λ (t : Telling). unless_decided t.verdict t (telling port more))
    (sym (tells port piece all one (consent one.job (one.heard ++ piece)) is refl))

telling-append : (port : ℕ) (piece more : List ℕ) (all : List Confirmation) → IsSound all →
    telling port (piece ++ more) all ≡ unless_decided (telling port piece all).verdict (telling port piece all) (telling port more)
telling-append port piece more all sound =
    append_if port piece more all (find_linked port all) sound refl

-- later the same is told
same_unless : (verdict : Verdict) (first : Telling) (f g : List Confirmation → Telling) →
    IsSound first.desk → ((all : List Confirmation) → IsSound all → f all ≡ g all) →
    unless_decided verdict first f ≡ unless_decided verdict first g
same_unless verdicts.NotYet first f g sound same = same first.desk sound
same_unless (verdicts.Granted held) first f g sound same = refl
same_unless (verdicts.Denied held) first f g sound same = refl

-- pieces tell what they tell as one
pub told_in_turn-joined : (port : ℕ) (piece : List ℕ) (pieces : List (List ℕ)) (all : List Confirmation) → IsSound all →
    told_in_turn port piece pieces all ≡ telling port (joined piece pieces) all
told_in_turn-joined port piece [] all sound = refl
told_in_turn-joined port piece (next ∷ pieces) all sound =
    same_unless (telling port piece all).verdict (telling port piece all) (told_in_turn port next pieces) (telling port (joined next pieces))
    (IsSound-telling port piece all sound) (told_in_turn-joined port next pieces)
    ∙ sym (telling-append port piece (joined next pieces) all sound)
