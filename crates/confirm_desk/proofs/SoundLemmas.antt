-- Desks stay sound, whatever is called.
use Rattle.std.proofs.Common.{◌≡◌, ℕ, ◌<◌, Bool, true, false, cond, eqb, List, [], ◌∷◌, ◌++◌, length, Option, Some, None, refl, sym, ap, ◌∙◌, arith}
use Rattle.std.proofs.lemmas.Bool.{eqb-true, eq-eqb, false_from_ne_true}
use Rattle.std.proofs.lemmas.List.{length-append}
use Rattle.lists.specs.Firsts.{remove_first}
use Rattle.lists.specs.Keyed.{has_key}
use Rattle.lists.proofs.FirstLemmas.{find-change_none, find-push_other, find-remove_none, length-change, length-remove, some_or_later}
use Rattle.lists.proofs.KeyedLemmas.{keeps_key}
use Rattle.lists.proofs.NeverFallLemmas.{never_fall-change, never_fall-push, never_fall-remove}
use Rattle.wire_text.specs.Bounds.{longest_body}
use Rattle.wire_text.specs.Frames.{More, front}
use Rattle.confirm_desk.specs.Confirmations.{AreRaisedBy, Confirmation, asker_of, came_to, change_job, find_asker, find_job, find_linked, is_at, job_of, linked, linked_at, most_confirmations, remove_job, second_of}
use Rattle.confirm_desk.specs.Sound.{AreApart, IsApart, IsFree, IsSound}

-- ---- numbers

-- what differs, differs the other way round
differ : (a b : ℕ) → eqb a b ≡ false → eqb b a ≡ false
differ a b is = false_from_ne_true (eqb b a) (λ e.
    let yes : eqb a b ≡ true = eq-eqb a b (sym (eqb-true b a e)) in absurd cc)

-- ---- no port comes by

free-remove : (test : Confirmation → Bool) (port : Option ℕ) (all : List Confirmation) →
    IsFree port all → IsFree port (remove_first test all)
free-remove test None all none = tt
free-remove test (Some port) all none = find-remove_none (came_to port) test all none

free-change : (job : ℕ) (port : Option ℕ) (f : Confirmation → Confirmation)
    (all : List Confirmation) → ((one : Confirmation) → (f one).port ≡ one.port) →
    IsFree port all → IsFree port (change_job job f all)
free-change job None f all keeps none = tt
free-change job (Some port) f all keeps none =
    find-change_none (came_to port) (has_key job_of job) f all
    (λ one fails. ap (is_at port) (keeps one) ∙ fails) none

-- ---- one is gone

either_apart : (is : Bool) (one : Confirmation) (others rest : List Confirmation) →
    AreApart others → IsApart one rest → AreApart rest →
    AreApart (cond is others (one ∷ rest))
either_apart true one others rest before apart behind = before
either_apart false one others rest before apart behind = (apart, behind)

apart-remove : (test : Confirmation → Bool) (one : Confirmation) (others : List Confirmation) →
    IsApart one others → IsApart one (remove_first test others)
apart-remove test one others apart = record {
  job = find-remove_none (has_key job_of one.job) test others apart.job;
  asker = find-remove_none (has_key asker_of one.asker) test others apart.asker;
  port = free-remove test one.port others apart.port;
  part = apart.part;
}

AreApart-remove : (test : Confirmation → Bool) (all : List Confirmation) → AreApart all →
    AreApart (remove_first test all)
AreApart-remove test [] apart = tt
AreApart-remove test (one ∷ all) apart =
    either_apart (test one) one all (remove_first test all) apart.1 (apart-remove test one all apart.0) (AreApart-remove test all apart.1)

IsSound-remove : (test : Confirmation → Bool) (all : List Confirmation) → IsSound all →
    IsSound (remove_first test all)
IsSound-remove test all sound =
    let short = length-remove test all in
    record {
      few = omega (arith, short, sound.few);
      apart = AreApart-remove test all sound.apart;
      seconds = never_fall-remove second_of test 0 all sound.seconds;
    }

pub IsSound-lose : (job : ℕ) (all : List Confirmation) → IsSound all → IsSound (remove_job job all)
IsSound-lose job all sound = IsSound-remove (has_key job_of job) all sound

-- ---- one is changed

-- what keeps a job, a client, a port and a second
pub record Keeps (f : Confirmation → Confirmation) : Type 0 where
  pub job : (one : Confirmation) → (f one).job ≡ one.job
  pub asker : (one : Confirmation) → (f one).asker ≡ one.asker
  pub port : (one : Confirmation) → (f one).port ≡ one.port
  pub second : (one : Confirmation) → (f one).raised_at ≡ one.raised_at

apart-other : (job : ℕ) (f : Confirmation → Confirmation) (one : Confirmation) (others : List Confirmation) → Keeps f → IsApart one others →
    IsApart one (change_job job f others)
apart-other job f one others keeps apart = record {
  job = find-change_none (has_key job_of one.job) (has_key job_of job) f others
      (λ c fails. keeps_key job_of one.job f keeps.job c ∙ fails) apart.job;
  asker = find-change_none (has_key asker_of one.asker) (has_key job_of job) f others
      (λ c fails. keeps_key asker_of one.asker f keeps.asker c ∙ fails) apart.asker;
  port = free-change job one.port f others keeps.port apart.port;
  part = apart.part;
}

apart-changed : (f : Confirmation → Confirmation) (one : Confirmation) (others : List Confirmation) → Keeps f → front longest_body (f one).heard ≡ More → IsApart one others →
    IsApart (f one) others
apart-changed f one others keeps part apart = record {
  job = rw (keeps.job one) apart.job;
  asker = rw (keeps.asker one) apart.asker;
  port = rw (keeps.port one) apart.port;
  part = part;
}

-- the confirmation that is changed has a part of a frame at most
abbrev pub IsPartOf : Option Confirmation → (Confirmation → Confirmation) → Type 0
IsPartOf None f = Unit {0}
IsPartOf (Some one) f = front longest_body (f one).heard ≡ More

changed_apart : (job : ℕ) (f : Confirmation → Confirmation) (is : Bool) (one : Confirmation) (others rest : List Confirmation) (found : Option Confirmation) → Keeps f →
    IsPartOf (cond is (Some one) found) f → IsApart one others → AreApart others →
    IsApart one rest → (IsPartOf found f → AreApart rest) →
    AreApart (cond is (f one ∷ others) (one ∷ rest))
changed_apart job f true one others rest found keeps part apart behind other changed =
    (apart-changed f one others keeps part apart, behind)
changed_apart job f false one others rest found keeps part apart behind other changed =
    (other, changed part)

AreApart-change : (job : ℕ) (f : Confirmation → Confirmation) (all : List Confirmation) → Keeps f →
    IsPartOf (find_job job all) f → AreApart all →
    AreApart (change_job job f all)
AreApart-change job f [] keeps part apart = tt
AreApart-change job f (one ∷ all) keeps part apart =
    changed_apart job f (has_key job_of job one) one all (change_job job f all) (find_job job all) keeps part apart.0 apart.1
    (apart-other job f one all keeps apart.0) (λ later. AreApart-change job f all keeps later apart.1)

pub IsSound-change : (job : ℕ) (f : Confirmation → Confirmation) (all : List Confirmation) →
    Keeps f → IsPartOf (find_job job all) f → IsSound all →
    IsSound (change_job job f all)
IsSound-change job f all keeps part sound =
    let same = length-change (has_key job_of job) f all in
    record {
      few = omega (arith, same, sound.few);
      apart = AreApart-change job f all keeps part sound.apart;
      seconds = never_fall-change second_of (has_key job_of job) f 0 all keeps.second sound.seconds;
    }

-- a confirmation of a sound desk has a part of a frame at most
part_in : (job : ℕ) (is : Bool) (one : Confirmation) (found : Option Confirmation) (f : Confirmation → Confirmation) →
    front longest_body (f one).heard ≡ More → IsPartOf found f →
    IsPartOf (cond is (Some one) found) f
part_in job true one found f here later = here
part_in job false one found f here later = later

pub part_of : (job : ℕ) (f : Confirmation → Confirmation) (all : List Confirmation) →
    ((one : Confirmation) → (f one).heard ≡ one.heard) → AreApart all →
    IsPartOf (find_job job all) f
part_of job f [] keeps apart = tt
part_of job f (one ∷ all) keeps apart =
    part_in job (has_key job_of job one) one (find_job job all) f (ap (front longest_body) (keeps one) ∙ apart.0.part) (part_of job f all keeps apart.1)

-- ---- one is linked

-- the port of another is as free as it was
free-linked : (job port other : ℕ) (all : List Confirmation) → eqb port other ≡ false →
    find_linked other all ≡ None → find_linked other (linked job port all) ≡ None
free-linked job port other all differs none =
    find-change_none (came_to other) (has_key job_of job) (linked_at port) all (λ one fails. differs) none

still_free : (job port : ℕ) (at : Option ℕ) (all : List Confirmation) → is_at port at ≡ false →
    IsFree at all → IsFree at (linked job port all)
still_free job port None all elsewhere free = tt
still_free job port (Some other) all elsewhere free =
    free-linked job port other all (differ other port elsewhere) free

linked_apart : (job port : ℕ) (is : Bool) (one : Confirmation) (others : List Confirmation) →
    find_linked port others ≡ None → is_at port one.port ≡ false →
    IsApart one others → AreApart others → AreApart (linked job port others) →
    AreApart (cond is (linked_at port one ∷ others) (one ∷ linked job port others))
linked_apart job port true one others free elsewhere apart behind later =
    (record { job = apart.job; asker = apart.asker; port = free; part = apart.part }, behind)
linked_apart job port false one others free elsewhere apart behind later = (
  record {
    job = find-change_none (has_key job_of one.job) (has_key job_of job) (linked_at port) others
        (λ c fails. fails) apart.job;
    asker =
        find-change_none (has_key asker_of one.asker) (has_key job_of job) (linked_at port) others
        (λ c fails. fails) apart.asker;
    port = still_free job port one.port others elsewhere apart.port;
    part = apart.part;
  },
  later,
)

AreApart-linked : (job port : ℕ) (all : List Confirmation) → find_linked port all ≡ None →
    AreApart all → AreApart (linked job port all)
AreApart-linked job port [] free apart = tt
AreApart-linked job port (one ∷ all) free apart =
    let both = some_or_later (came_to port one) one (find_linked port all) free in
    linked_apart job port (has_key job_of job one) one all both.1 both.0 apart.0 apart.1 (AreApart-linked job port all both.1 apart.1)

pub IsSound-linked : (job port : ℕ) (all : List Confirmation) → find_linked port all ≡ None →
    IsSound all → IsSound (linked job port all)
IsSound-linked job port all free sound =
    let same = length-change (has_key job_of job) (linked_at port) all in
    record {
      few = omega (arith, same, sound.few);
      apart = AreApart-linked job port all free sound.apart;
      seconds =
          never_fall-change second_of (has_key job_of job) (linked_at port) 0 all (λ one. refl)
          sound.seconds;
    }

-- ---- one more

free-append : (port : Option ℕ) (all : List Confirmation) (last : Confirmation) → last.port ≡ None →
    IsFree port all → IsFree port (all ++ last ∷ [])
free-append None all last none free = tt
free-append (Some port) all last none free =
    find-push_other (came_to port) all last (ap (is_at port) none) ∙ free

AreApart-append : (all : List Confirmation) (last : Confirmation) → find_job last.job all ≡ None →
    find_asker last.asker all ≡ None → last.port ≡ None →
    front longest_body last.heard ≡ More → AreApart all → AreApart (all ++ last ∷ [])
AreApart-append [] last job asker port part apart =
    (record { job = refl; asker = refl; port = rw port tt; part = part }, tt)
AreApart-append (one ∷ all) last job asker port part apart =
    let jobs = some_or_later (has_key job_of last.job one) one (find_job last.job all) job in
    let askers = some_or_later (has_key asker_of last.asker one) one (find_asker last.asker all) asker in (
      record {
        job =
            find-push_other (has_key job_of one.job) all last (differ one.job last.job jobs.0) ∙ apart.0.job;
        asker =
            find-push_other (has_key asker_of one.asker) all last (differ one.asker last.asker askers.0) ∙ apart.0.asker;
        port = free-append one.port all last port apart.0.port;
        part = apart.0.part;
      },
      AreApart-append all last jobs.1 askers.1 port part apart.1,
    )

pub IsSound-append : (all : List Confirmation) (last : Confirmation) →
    length all < most_confirmations → find_job last.job all ≡ None →
    find_asker last.asker all ≡ None → AreRaisedBy last.raised_at all →
    last.port ≡ None → front longest_body last.heard ≡ More → IsSound all →
    IsSound (all ++ last ∷ [])
IsSound-append all last room job asker later port part sound = record {
  few = omega (arith, length-append all (last ∷ []));
  apart = AreApart-append all last job asker port part sound.apart;
  seconds = never_fall-push second_of 0 all last (omega arith) later sound.seconds;
}
