-- What a confirmation's end leaves.
use Rattle.std.proofs.Common.{◌≡◌, ℕ, Bool, false, cond, eqb, not, List, ◌++◌, Option, Some, None, refl, ap, ◌∙◌}
use Rattle.std.proofs.lemmas.Bool.{eqb-false, eq-eqb}
use Rattle.lists.specs.Keyed.{has_key}
use Rattle.lists.proofs.FirstLemmas.{find-filter, find-removed, if_kept, remove-filter}
use Rattle.lists.proofs.KeyedLemmas.{find_by-remove_apart}
use Rattle.confirm_desk.specs.Calls.{Telling, telling, telling_by}
use Rattle.confirm_desk.specs.Confirmations.{Confirmation, Consent, NotYet, Yes, No, came_to, consent, find_job, find_linked, job_of, remove_job}
use Rattle.confirm_desk.specs.Sound.{AreApart}
use Rattle.confirm_desk.specs.declared.held.Verdict.TheVariants as verdicts
use Rattle.confirm_desk.proofs.TellLemmas.{only_job, only_port, tells}

-- ---- what is over is found no more

pub job_gone : (job : ℕ) (all : List Confirmation) → AreApart all →
    find_job job (remove_job job all) ≡ None
job_gone job all apart = find-removed (has_key job_of job) all (only_job job all apart)

-- at its port
pub port_gone : (port : ℕ) (all : List Confirmation) (found : Confirmation) → AreApart all →
    find_linked port all ≡ Some found → find_linked port (remove_job found.job all) ≡ None
port_gone port all found apart is =
    let others : Confirmation → Bool = λ one. not (has_key job_of found.job one) in
    let none : Option Confirmation = None in
    ap (find_linked port)
    (remove-filter (has_key job_of found.job) all (only_job found.job all apart))
    ∙ find-filter (came_to port) others all (only_port port all apart)
    ∙ ap (if_kept others) is
    ∙ ap (λ (here : Bool). cond (not here) (Some found) none) (eq-eqb found.job found.job refl)

-- and the others are left
pub others_left : (job other : ℕ) (all : List Confirmation) → eqb other job ≡ false →
    find_job other (remove_job job all) ≡ find_job other all
others_left job other all differs =
    find_by-remove_apart job_of other job all (eqb-false other job differs)

-- ---- a decision

decided_by : (port : ℕ) (answer : Consent) (one : Confirmation) (piece : List ℕ) (all : List Confirmation) →
    ((telling_by answer one piece all).verdict ≡ verdicts.NotYet → ⊥) →
    (telling_by answer one piece all).desk ≡ remove_job one.job all
decided_by port NotYet one piece all decided = absurd (decided refl)
decided_by port Yes one piece all decided = refl
decided_by port No one piece all decided = refl

pub decided : (port : ℕ) (piece : List ℕ) (all : List Confirmation) (one : Confirmation) →
    find_linked port all ≡ Some one →
    ((telling port piece all).verdict ≡ verdicts.NotYet → ⊥) →
    (telling port piece all).desk ≡ remove_job one.job all
decided port piece all one found over =
    let is = tells port piece all one (consent one.job (one.heard ++ piece)) found refl in
    ap (λ (t : Telling). t.desk) is
    ∙ decided_by port (consent one.job (one.heard ++ piece)) one piece all (λ none. over (ap (λ (t : Telling). t.verdict) is ∙ none))
