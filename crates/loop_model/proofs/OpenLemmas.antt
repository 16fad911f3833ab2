-- Confirmations at a port, and ports that are open, while others change.
use Rattle.std.proofs.Common.{◌≡◌, ◌≢◌, ℕ, Bool, true, false, List, [], ◌∷◌, Option, Some, None, is_some, refl, sym, ap, ◌∙◌, inl, inr, arith}
use Rattle.std.specs.List.{find}
use Rattle.std.specs.Option.{option_map}
use Rattle.std.proofs.lemmas.Bool.{cases_eq}
use Rattle.std.proofs.lemmas.Bool.Decides.{nat_tests}
use Rattle.confirm_desk.specs.Confirmations.{Confirmation, came_to, change_job, find_linked, job_of, remove_job}
use Rattle.agent_model.specs.Sound.{IsRising}
use Rattle.agent_model.specs.State.{Port, change_port, find_port, remove_port}
use Rattle.agent_model.proofs.LeadLemmas.{Leads}
use Rattle.agent_model.proofs.PortsLemmas.{find_port-apart, find_port-change_port, find_port-left, find_port-remove_port}
use Rattle.agent_model.proofs.RunLemmas.{leads-found}
use Rattle.lists.specs.Firsts.{change_first, remove_first}
use Rattle.lists.specs.Keyed.{has_key}
use Rattle.lists.proofs.KeyedLemmas.{differ}

-- ---- the confirmation at a port

-- what is found and isn't another is found without that other
found-left : {A : Type 0} (test other : A → Bool) (all : List A) (one : A)
    → find test all ≡ Some one → other one ≡ false
    → find test (remove_first other all) ≡ Some one
found-left test other [] one found fails = absurd (cc)
found-left test other (first ∷ all) one found fails =
    let later = found-left test other all one in
    grind (arith, nat_tests)

-- and where that other is changed, and doesn't pass by that
found-elsewhere : {A : Type 0} (test other : A → Bool) (f : A → A) (all : List A) (one : A)
    → ((any : A) → test any ≡ false → test (f any) ≡ false) → find test all ≡ Some one → other one ≡ false
    → find test (change_first other f all) ≡ Some one
found-elsewhere test other f [] one misses found fails = absurd (cc)
found-elsewhere test other f (first ∷ all) one misses found fails =
    let missed = misses first in
    let later = found-elsewhere test other f all one misses in
    grind (arith, nat_tests)

-- one that is over isn't another's
pub linked-left : (number job : ℕ) (all : List Confirmation) (one : Confirmation) → one.job ≢ job
    → find_linked number all ≡ Some one → find_linked number (remove_job job all) ≡ Some one
linked-left number job all one other found =
    found-left (came_to number) (has_key job_of job) all one found (differ one.job job other)

-- one that is changed, and doesn't come there by that, isn't either
pub linked-elsewhere : (number job : ℕ) (f : Confirmation → Confirmation) (all : List Confirmation) (one : Confirmation)
    → one.job ≢ job → ((c : Confirmation) → came_to number c ≡ false → came_to number (f c) ≡ false)
    → find_linked number all ≡ Some one → find_linked number (change_job job f all) ≡ Some one
linked-elsewhere number job f all one other misses found =
    found-elsewhere (came_to number) (has_key job_of job) f all one misses found (differ one.job job other)

-- ---- which ports are open

pub map_some : (f : Port → Port) (found : Option Port)
    → is_some (option_map f found) ≡ is_some found
map_some f None = refl
map_some f (Some at) = refl

pub open-changed : (number other : ℕ) (f : Port → Port) (ports : List Port)
    → ((p : Port) → (f p).number ≡ p.number)
    → is_some (find_port number (change_port other f ports)) ≡ is_some (find_port number ports)
open-changed number other f ports keeps = elim (cases_eq number other) [
  | inl here ↦
      ap (λ n. is_some (find_port number (change_port n f ports))) (sym here)
      ∙ ap is_some (find_port-change_port number f ports keeps) ∙ map_some f (find_port number ports)
  | inr apart ↦ ap is_some (find_port-apart number other f ports keeps apart)
]

pub open_left : (after before : Option Port) → ((at : Port) → after ≡ Some at → before ≡ Some at)
    → is_some after ≡ true
    → is_some before ≡ true
open_left None before was opened = absurd (cc)
open_left (Some at) before was opened = ap is_some (was at refl)

pub open-removed : (number other high : ℕ) (ports : List Port) → IsRising 0 high ports
    → is_some (find_port number (remove_port other ports)) ≡ true → is_some (find_port number ports) ≡ true
open-removed number other high ports rising opened =
    open_left (find_port number (remove_port other ports)) (find_port number ports)
    (λ at found. find_port-left number other 0 high ports at rising found) opened

pub never_open : (number high : ℕ) (ports : List Port) → IsRising 0 high ports
    → is_some (find_port number (remove_port number ports)) ≡ true → ⊥
never_open number high ports rising opened =
    let no : false ≡ true = sym (ap is_some (find_port-remove_port number 0 high ports rising)) ∙ opened in
    absurd (cc)

pub leads-open : (number high : ℕ) (old : List Port) {new : List Port} → Leads old new
    → IsRising 0 high old
    → is_some (find_port number new) ≡ true → is_some (find_port number old) ≡ true
leads-open number high old {new} leads rising opened = by (find_port number new) refl opened
  where
    by : (after : Option Port) → find_port number new ≡ after → is_some after ≡ true
        → is_some (find_port number old) ≡ true
    by None is some = absurd (cc)
    by (Some at) is some = ap is_some (leads-found number 0 high old at leads rising is).1
