-- What a piece of a child process brings.
use Rattle.std.proofs.Common.{◌≡◌, ◌==◌, ◌<◌, ℕ, arith, zero, suc, length, set, Bool, true, false, cond, List, [], ◌∷◌, ◌++◌, get_or, Option, Some, None, Result, Ok, Err, OnOk, OnErr, refl, sym, ap, ◌∙◌, subst}
use Rattle.std.proofs.lemmas.Bool.{eqb-true, eq-eqb}
use Rattle.lists.specs.Firsts.{IsFirst, IsOnly}
use Rattle.lists.specs.Keyed.{has_key}
use Rattle.lists.proofs.FirstLemmas.{changed_to, found_there, found_too, later, remove-change, removed_there}
use Rattle.lists.proofs.KeyedLemmas.{keeps_key}
use Rattle.wire_text.specs.Bounds.{longest_body}
use Rattle.wire_text.specs.Frames.{Front, Whole, Bad, More, front, front_body}
use Rattle.child_msg.specs.Messages.{FromChildMessage, Hello, Signed, Refused, True, False, Granted, Denied}
use Rattle.child_msg.specs.Reading.{from_child_of}
use Rattle.child_msg.specs.declared.fault.ChildFault.{ChildFault}
use Rattle.std.specs.List.{find, remove}
use Rattle.confirm_desk.specs.Calls.{given_back, telling, telling_by, telling_if, took_at, took_by}
use Rattle.confirm_desk.specs.Confirmations.{Confirmation, Consent, NotYet, Yes, No, came_to, change_job, consent, consent_at, consent_in, find_job, find_linked, heard_more, is_at, job_of, lose, told, took_some}
use Rattle.confirm_desk.specs.Sound.{AreApart, IsFree, IsSound}
use Rattle.confirm_desk.specs.declared.held.Verdict.{Verdict}
use Rattle.confirm_desk.proofs.SoundLemmas.{IsPartOf, IsSound-change, IsSound-lose, Keeps, part_of}

-- ---- not yet is more to come

never_for : (same : Bool) → cond same Yes No ≡ NotYet → ⊥
never_for true is = absurd cc
never_for false is = absurd cc

never_in : (job : ℕ) (read : Result FromChildMessage ChildFault) → consent_in job read ≡ NotYet → ⊥
never_in job (Ok (Granted other)) is = never_for (job == other) is
never_in job (Ok (Denied other)) is = absurd cc
never_in job (Ok (Hello other ticket)) is = absurd cc
never_in job (Ok (Signed ask signature)) is = absurd cc
never_in job (Ok (Refused ask)) is = absurd cc
never_in job (Ok (True ask)) is = absurd cc
never_in job (Ok (False ask)) is = absurd cc
never_in job (Err fault) is = absurd cc

more_at : (job : ℕ) (answer : Front) (heard : List ℕ) → consent_at job answer heard ≡ NotYet →
    answer ≡ More
more_at job (Whole body_len) heard is =
    absurd (never_in job (from_child_of (front_body body_len heard)) is)
more_at job (Bad announced) heard is = absurd cc
more_at job More heard is = refl

pub consent_is_more : (job : ℕ) (heard : List ℕ) → consent job heard ≡ NotYet →
    front longest_body heard ≡ More
unfolding consent
consent_is_more job heard is = more_at job (front longest_body heard) heard is

-- ---- at the port, and of the job

-- a job names one at most, and so does a port
pub only_job : (job : ℕ) (all : List Confirmation) → AreApart all → IsOnly (has_key job_of job) all
only_job job [] apart = tt
only_job job (one ∷ all) apart = (
  λ is. ap (λ (n : ℕ). find_job n all) (sym (eqb-true one.job job is)) ∙ apart.0.job,
  only_job job all apart.1,
)

free_at : (port : ℕ) (at : Option ℕ) (others : List Confirmation) → is_at port at ≡ true →
    IsFree at others → find_linked port others ≡ None
free_at port None others is free = absurd cc
free_at port (Some other) others is free =
    ap (λ (n : ℕ). find_linked n others) (sym (eqb-true other port is)) ∙ free

pub only_port : (port : ℕ) (all : List Confirmation) → AreApart all → IsOnly (came_to port) all
only_port port [] apart = tt
only_port port (one ∷ all) apart =
    (λ is. free_at port one.port all is apart.0.port, only_port port all apart.1)

-- the job of what is found at a port finds the same
pub job_found : (port : ℕ) (all : List Confirmation) (found : Confirmation) → AreApart all →
    find_linked port all ≡ Some found → find_job found.job all ≡ Some found
job_found port all found apart is =
    found_too (came_to port) (has_key job_of found.job) all found (only_job found.job all apart) is
    (eq-eqb found.job found.job refl)

-- what is over leaves nothing of its change
pub lose_changed : (job : ℕ) (f : Confirmation → Confirmation) (all : List Confirmation) →
    ((one : Confirmation) → (f one).job ≡ one.job) → lose job (change_job job f all) ≡ lose job all
lose_changed job f all keeps =
    remove-change (has_key job_of job) f all (keeps_key job_of job f keeps)

-- ---- what is told

-- by what is found at the port, and what the user says
pub tells : (port : ℕ) (piece : List ℕ) (all : List Confirmation) (one : Confirmation) (answer : Consent) → find_linked port all ≡ Some one →
    consent one.job (one.heard ++ piece) ≡ answer →
    telling port piece all ≡ telling_by answer one piece all
tells port piece all one answer found is =
    ap (λ (at : Option Confirmation). telling_if at piece all) found ∙ ap (λ (k : Consent). telling_by k one piece all) is

-- ---- desks stay sound

keeps_took : (count : ℕ) → Keeps (took_some count)
keeps_took count = record { job = λ _. refl; asker = λ _. refl; port = λ _. refl; second = λ _. refl }

keeps_heard : (piece : List ℕ) → Keeps (heard_more piece)
keeps_heard piece = record { job = λ _. refl; asker = λ _. refl; port = λ _. refl; second = λ _. refl }

sound_by : (answer : Consent) (one : Confirmation) (piece : List ℕ) (all : List Confirmation) →
    consent one.job (one.heard ++ piece) ≡ answer →
    find_job one.job all ≡ Some one → IsSound all → IsSound (telling_by answer one piece all).desk
sound_by NotYet one piece all is found sound =
    IsSound-change one.job (heard_more piece) all (keeps_heard piece)
    (subst (λ (at : Option Confirmation). IsPartOf at (heard_more piece)) (sym found) (consent_is_more one.job (one.heard ++ piece) is)) sound
sound_by Yes one piece all is found sound = IsSound-lose one.job all sound
sound_by No one piece all is found sound = IsSound-lose one.job all sound

sound_if : (port : ℕ) (found : Option Confirmation) (piece : List ℕ) (all : List Confirmation) →
    find_linked port all ≡ found → IsSound all →
    IsSound (telling_if found piece all).desk
sound_if port None piece all is sound = sound
sound_if port (Some one) piece all is sound =
    sound_by (consent one.job (one.heard ++ piece)) one piece all refl (job_found port all one sound.apart is) sound

pub IsSound-telling : (port : ℕ) (piece : List ℕ) (all : List Confirmation) → IsSound all →
    IsSound (telling port piece all).desk
IsSound-telling port piece all sound = sound_if port (find_linked port all) piece all refl sound

took_sound_by : (found : Option Confirmation) (count : ℕ) (all : List Confirmation) → IsSound all →
    IsSound (took_by found count all)
took_sound_by None count all sound = sound
took_sound_by (Some one) count all sound =
    IsSound-change one.job (took_some count) all (keeps_took count) (part_of one.job (took_some count) all (λ _. refl) sound.apart) sound

pub IsSound-took : (port count : ℕ) (all : List Confirmation) → IsSound all →
    IsSound (took_at port count all)
IsSound-took port count all sound = took_sound_by (find_linked port all) count all sound

-- ---- in storage

-- where one stands behind another that alone passes, the one before it doesn't
passes_not : {A : Type 0} (other : A → Bool) (x : A) (all : List A) (place : ℕ) (one : A) → (other x ≡ true → find other all ≡ None) →
    IsFirst other all place → (here : Bool) → other x ≡ here → other x ≡ false
passes_not other x all place one only rest true passes =
    let never : Some (get_or all place one) ≡ None = sym (found_there other all place one rest) ∙ only passes in
    absurd cc
passes_not other x all place one only rest false fails = fails

-- and so it stands first
behind : {A : Type 0} (other : A → Bool) (x : A) (all : List A) (place : ℕ) → (other x ≡ true → find other all ≡ None) →
    IsFirst other all place → IsFirst other (x ∷ all) (suc place)
behind {A = A} other x all place only rest = record {
  within = omega (arith, rest.within);
  there = rest.there;
  before = before;
}
  where
    before : (k : ℕ) (o : A) → k < suc place → other (get_or (x ∷ all) k o) ≡ false
    before zero o earlier = passes_not other x all place o only rest (other x) refl
    before (suc k) o earlier = rest.before k o (omega (arith, earlier))

-- where one stands first by a test, it stands first by another that it alone passes
first_too : {A : Type 0} (test other : A → Bool) (all : List A) (place : ℕ) (one : A) → IsOnly other all → IsFirst test all place →
    other (get_or all place one) ≡ true → IsFirst other all place
first_too test other [] place one only at is = absurd (omega (arith, at.within))
first_too test other (x ∷ all) zero one only at is = record {
  within = at.within;
  there = λ o. is;
  before = λ k o earlier. absurd (omega (arith, earlier));
}
first_too test other (x ∷ all) (suc place) one only at is =
    behind other x all place only.0 (first_too test other all place one only.1 (later test x all place at) is)

-- what was put at a place is gone with the place
removed_there_too : {A : Type 0} (all : List A) (place : ℕ) (new : A) → remove (set all place new) place ≡ remove all place
removed_there_too [] place new = refl
removed_there_too (one ∷ all) zero new = refl
removed_there_too (one ∷ all) (suc place) new = ap (λ rest. one ∷ rest) (removed_there_too all place new)

put_there : {A : Type 0} (all : List A) (place : ℕ) (new other : A) → place < length all → get_or (set all place new) place other ≡ new
put_there [] place new other within = absurd (omega (arith, within))
put_there (one ∷ all) zero new other within = refl
put_there (one ∷ all) (suc place) new other within = put_there all place new other (omega (arith, within))

-- of what stands first at a port
module _ (port place : ℕ) (all : List Confirmation) (one : Confirmation) (apart : AreApart all) (at : IsFirst (came_to port) all place) (here : one ≡ get_or all place one) where
  pub at_port : find_linked port all ≡ Some one
  at_port = found_there (came_to port) all place one at ∙ ap (λ (c : Confirmation). Some c) (sym here)

  -- it stands first of its job, too
  pub of_job : IsFirst (has_key job_of one.job) all place
  of_job =
      first_too (came_to port) (has_key job_of one.job) all place one (only_job one.job all apart) at
      (eq-eqb (get_or all place one).job one.job (ap job_of (sym here)))

  module _ (piece : List ℕ) (new : Confirmation) (more : new ≡ heard_more piece one) where
    pub told_there : set all place new ≡ told one.job piece all
    told_there = changed_to (has_key job_of one.job) (heard_more piece) all place one new of_job here more

    pub lost_there : remove (set all place new) place ≡ lose one.job all
    lost_there = removed_there_too all place new ∙ sym (removed_there (has_key job_of one.job) all place of_job)

    -- what is taken out holds what it held
    pub gives_back : (out : Confirmation) → out ≡ get_or (set all place new) place out → given_back out ≡ given_back one
    gives_back out is = ap given_back (is ∙ put_there all place new out at.within ∙ more)

    pub says : (answer : Consent) → answer ≡ consent new.job new.heard → telling port piece all ≡ telling_by answer one piece all
    says answer is = tells port piece all one answer at_port (ap (λ (c : Confirmation). consent c.job c.heard) (sym more) ∙ sym is)

-- the desk is sound afterwards, whether memory ran out or not
pub told_sound : {E : Type 0} (result : Result Verdict E) (port : ℕ) (piece : List ℕ) (all now : List Confirmation) →
    OnOk result (now ≡ (telling port piece all).desk) → OnErr result (now ≡ all) → IsSound all →
    IsSound now
told_sound (Ok verdict) port piece all now is same sound =
    subst IsSound (sym is) (IsSound-telling port piece all sound)
told_sound (Err fault) port piece all now is same sound = subst IsSound (sym same) sound
