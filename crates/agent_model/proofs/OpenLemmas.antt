-- Ports that stay open, and changes of what is to be confirmed that leave each asker and each child process there.
use Rattle.std.proofs.Common.{◌≡◌, ◌≢◌, ℕ, suc, ◌+◌, ◌<◌, List, [], ◌∷◌, ◌++◌, length, refl, ap, arith, sym, subst, ◌∙◌, ◌==◌, ◌⊎◌, Option, Some, None, IsSome, Bool, true, false, cond, inl, inr}
use Rattle.std.specs.Option.{option_map}
use Rattle.std.proofs.lemmas.Bool.{cases_eq}
use Rattle.std.proofs.lemmas.Bool.Decides.{nat_tests}
use Rattle.lists.specs.Keyed.{has_key}
use Rattle.lists.proofs.FirstLemmas.{length-change, length-remove}
use Rattle.confirm_desk.specs.Confirmations.{Confirmation, change_job, find_asker, find_job, find_linked, is_at, linked_at, remove_job, job_of, came_to}
use Rattle.helper_link.specs.declared.answer.Settled.{Settled}
use Rattle.helper_link.specs.declared.state.LinkState.{LinkState}
use Rattle.helper_link.specs.declared.state.LinkState.TheVariants as states
use Rattle.agent_model.specs.Answers.{Answering, answer_all, answer_by, tell_each}
use Rattle.agent_model.specs.Asking.{AreAttended, JobsRise}
use Rattle.agent_model.specs.Children.{changed}
use Rattle.agent_model.specs.State.{Port, change_port, find_port, remove_port}
use Rattle.agent_model.specs.Verdicts.{Verdict, tell}
use Rattle.agent_model.proofs.FateLemmas.{answers_as}
use Rattle.agent_model.proofs.JobLemmas.{IsIn, change-apart, changed_back, find_job-push, find_job-remove, none_passes}
use Rattle.agent_model.proofs.MakeLemmas.{Kept, altered, unchanged}
use Rattle.agent_model.proofs.PortsLemmas.{find_port-apart, find_port-change_port, find_port-removed_apart}

-- ---- open ports

-- each port that was open is
abbrev pub Opens : List Port → List Port → Type 0
Opens old new = (number : ℕ) → IsSome (find_port number old) → IsSome (find_port number new)

-- a port that is open is found
pub some_port : (number : ℕ) (ports : List Port) → IsSome (find_port number ports)
    → (port : Port) × (find_port number ports ≡ Some port)
some_port number ports some = by_found (find_port number ports) refl
  where
    by_found : (found : Option Port) → find_port number ports ≡ found
        → (port : Port) × (find_port number ports ≡ Some port)
    by_found None is = absurd (let no : IsSome {T = Port} None = subst (λ (o : Option Port). IsSome o) is some in cc)
    by_found (Some port) is = (port, is)

pub is_found : (found : Option Port) (port : Port) → found ≡ Some port → IsSome found
is_found found port is = subst IsSome (sym is) refl

pub opens-changed : (at : ℕ) (f : Port → Port) (ports : List Port)
    → ((p : Port) → (f p).number ≡ p.number) → Opens ports (change_port at f ports)
opens-changed at f ports keeps number some =
    let port = some_port number ports some in
    elim (cases_eq number at) [
      | inl same ↦ is_found _ (f port.0)
          (ap (λ n. find_port number (change_port n f ports)) (sym same) ∙ find_port-change_port number f ports keeps ∙ ap (option_map f) port.1)
      | inr other ↦ is_found _ port.0 (find_port-apart number at f ports keeps other ∙ port.1)
    ]

pub opens-in_turn : (old mid new : List Port) → Opens old mid → Opens mid new → Opens old new
opens-in_turn old mid new one two number some = two number (one number some)

pub opens-tell_each : (verdict : Verdict) (numbers : List ℕ) (ports : List Port)
    → Opens ports (tell_each verdict numbers ports)
opens-tell_each verdict [] ports number some = some
opens-tell_each verdict (asker ∷ others) ports number some =
    opens-tell_each verdict others (change_port asker (tell verdict) ports) number (opens-changed asker (tell verdict) ports (λ p. refl) number some)

pub opens-answers : (settled : List Settled) (before : Answering)
    → Opens before.ports (answer_all settled before).ports
opens-answers [] before number some = some
opens-answers (one ∷ later) before number some =
    let told = answers_as one.answer one before in
    opens-answers later (answer_by one.answer one before) number
    (subst (λ ports. IsSome (find_port number ports)) (sym told.ports) (opens-changed one.asker told.change before.ports told.number number some))

pub removed-apart : (number at : ℕ) (ports : List Port) → number ≢ at
    → IsSome (find_port number ports) → IsSome (find_port number (remove_port at ports))
removed-apart number at ports other some =
    subst IsSome (sym (find_port-removed_apart number at ports other)) some

-- ---- confirmations that are linked

-- where nothing is found at a port, none is linked to it
pub none_linked : (number : ℕ) (one : Confirmation) {confirmations : List Confirmation}
    → IsIn one confirmations → find_linked number confirmations ≡ None → one.port ≢ Some number
none_linked number one there none at =
    let fails : is_at number one.port ≡ false = none_passes (came_to number) one there none in
    let passes : (number == number) ≡ true = grind (arith, nat_tests) in
    let no : true ≡ false = sym passes ∙ sym (ap (is_at number) at) ∙ fails in
    absurd (cc)

-- where none is found for a client, none is its own
pub none_asks : (asker : ℕ) (one : Confirmation) {confirmations : List Confirmation}
    → IsIn one confirmations → find_asker asker confirmations ≡ None → one.asker ≢ asker
none_asks asker one there none is =
    let fails : (one.asker == asker) ≡ false = none_passes (λ c. c.asker == asker) one there none in
    let passes : (one.asker == asker) ≡ true = grind (arith, nat_tests) in
    let no : true ≡ false = sym passes ∙ fails in
    absurd (cc)

-- ---- small changes

pub attended-opens : {confirmations : List Confirmation} {link : LinkState} (old new : List Port)
    → Opens old new → AreAttended confirmations link old → AreAttended confirmations link new
attended-opens old new opens attended = record {
  few = attended.few;
  askers = λ job one found. opens one.asker (attended.askers job one found);
  confirmers =
      λ job number one found at. opens number (attended.confirmers job number one found at);
  apart = attended.apart;
  helper = attended.helper;
}

pub attended-link : {confirmations : List Confirmation} {ports : List Port} (old new : LinkState)
    → ((number : ℕ) → new ≡ states.Linked number → old ≡ states.Linked number)
    → AreAttended confirmations old ports → AreAttended confirmations new ports
attended-link old new linked attended = record {
  few = attended.few;
  askers = attended.askers;
  confirmers = attended.confirmers;
  apart = attended.apart;
  helper = λ job number one found at is. attended.helper job number one found at (linked number is);
}

-- a port that is nobody's is closed
pub attended-removed : {confirmations : List Confirmation} {link : LinkState} (at : ℕ) (ports : List Port)
    → ((job : ℕ) (one : Confirmation) → find_job job confirmations ≡ Some one → (one.asker ≢ at) × (one.port ≢ Some at))
    → AreAttended confirmations link ports → AreAttended confirmations link (remove_port at ports)
attended-removed at ports nobody attended = record {
  few = attended.few;
  askers = λ job one found. removed-apart one.asker at ports (nobody job one found).0 (attended.askers job one found);
  confirmers = λ job number one found place. removed-apart number at ports (λ same. (nobody job one found).1 (place ∙ ap Some same)) (attended.confirmers job number one found place);
  apart = attended.apart;
  helper = attended.helper;
}

pub length-push : (new : Confirmation) (confirmations : List Confirmation)
    → length (confirmations ++ new ∷ []) ≡ suc (length confirmations)
length-push new [] = refl
length-push new (one ∷ others) = ap suc (length-push new others)

-- what is heard and owed makes no difference
pub attended-altered : {confirmations : List Confirmation} {link : LinkState} {ports : List Port} (at : ℕ) (f : Confirmation → Confirmation)
    → ((c : Confirmation) → (f c).job ≡ c.job) → ((c : Confirmation) → (f c).asker ≡ c.asker)
    → ((c : Confirmation) → (f c).port ≡ c.port) → AreAttended confirmations link ports
    → AreAttended (change_job at f confirmations) link ports
attended-altered {confirmations = confirmations} {ports = ports} at f jobs whose places attended = record {
  few = omega (arith, length-change (has_key job_of at) f confirmations, attended.few);
  askers = λ job one found.
      let back = changed_back job at f confirmations one jobs found in
      subst (λ n. IsSome (find_port n ports)) (sym (same_asker one back.0 back.2)) (attended.askers job back.0 back.1);
  confirmers = λ job number one found place.
      let back = changed_back job at f confirmations one jobs found in
      attended.confirmers job number back.0 back.1 (sym (same_port one back.0 back.2) ∙ place);
  apart = λ a b number one other this that first second.
      let back = changed_back a at f confirmations one jobs this in
      let back_other = changed_back b at f confirmations other jobs that in
      attended.apart a b number back.0 back_other.0 back.1 back_other.1 (sym (same_port one back.0 back.2) ∙ first) (sym (same_port other back_other.0 back_other.2) ∙ second);
  helper = λ job number one found place.
      let back = changed_back job at f confirmations one jobs found in
      attended.helper job number back.0 back.1 (sym (same_port one back.0 back.2) ∙ place);
}
  where
    same_asker : (one was : Confirmation) → (one ≡ was) ⊎ (one ≡ f was) → one.asker ≡ was.asker
    same_asker one was (inl same) = ap (λ (c : Confirmation). c.asker) same
    same_asker one was (inr changed) = ap (λ (c : Confirmation). c.asker) changed ∙ whose was

    same_port : (one was : Confirmation) → (one ≡ was) ⊎ (one ≡ f was) → one.port ≡ was.port
    same_port one was (inl same) = ap (λ (c : Confirmation). c.port) same
    same_port one was (inr changed) = ap (λ (c : Confirmation). c.port) changed ∙ places was

pub attended-kept : {old new : List Confirmation} {link : LinkState} {ports : List Port}
    → Kept old new → AreAttended old link ports → AreAttended new link ports
attended-kept unchanged attended = attended
attended-kept (altered job f faint) attended =
    attended-altered job f faint.job faint.asker faint.port attended

-- a child process comes to a port that is nobody's
pub attended-linked : {confirmations : List Confirmation} {link : LinkState} {ports : List Port} (at place : ℕ)
    → IsSome (find_port place ports)
    → ((job : ℕ) (one : Confirmation) → find_job job confirmations ≡ Some one → one.port ≢ Some place)
    → link ≢ states.Linked place → AreAttended confirmations link ports
    → AreAttended (change_job at (linked_at place) confirmations) link ports
attended-linked {confirmations = confirmations} {link = link} {ports = ports} at place some free unhelped attended = record {
  few = omega (arith, length-change (has_key job_of at) (linked_at place) confirmations, attended.few);
  askers = λ job one found.
      let back = back_of job one found in
      subst (λ n. IsSome (find_port n ports)) (sym (same_asker one back.0 back.2)) (attended.askers job back.0 back.1);
  confirmers = λ job number one found is.
      let back = back_of job one found in
      by_open job number back.0 back.1 (port_of job one back.0 number back.2 is);
  apart = λ a b number one other this that first second.
      let back = back_of a one this in
      let back_other = back_of b other that in
      by_apart a b number back.0 back_other.0 back.1 back_other.1 (port_of a one back.0 number back.2 first) (port_of b other back_other.0 number back_other.2 second);
  helper = λ job number one found is.
      let back = back_of job one found in
      by_helper job number back.0 back.1 (port_of job one back.0 number back.2 is);
}
  where
    exactly : (job : ℕ) (one was : Confirmation) → find_job job confirmations ≡ Some was
        → find_job job (change_job at (linked_at place) confirmations) ≡ Some one
        → (one ≡ was) ⊎ (one ≡ linked_at place was)
        → ((one ≡ was) ⊎ ((job ≡ at) × (one ≡ linked_at place was)))
    exactly job one was there found (inl same) = inl same
    exactly job one was there found (inr is_new) = elim (cases_eq job at) [
      | inl equal ↦ inr (equal, is_new)
      | inr differs ↦
          (let kept : find_job job (change_job at (linked_at place) confirmations) ≡ find_job job confirmations = change-apart job at (linked_at place) confirmations (λ c. refl) differs in
          let is : Some one ≡ Some was = sym found ∙ kept ∙ there in
          let equal : one ≡ was = cc in
          inl equal)
    ]

    back_of : (job : ℕ) (one : Confirmation)
        → find_job job (change_job at (linked_at place) confirmations) ≡ Some one
        → (was : Confirmation) × (find_job job confirmations ≡ Some was) × ((one ≡ was) ⊎ ((job ≡ at) × (one ≡ linked_at place was)))
    back_of job one found =
        let back = changed_back job at (linked_at place) confirmations one (λ c. refl) found in
        (back.0, back.1, exactly job one back.0 back.1 found back.2)

    same_asker : {job : ℕ} (one was : Confirmation)
        → ((one ≡ was) ⊎ ((job ≡ at) × (one ≡ linked_at place was))) → one.asker ≡ was.asker
    same_asker one was (inl same) = ap (λ (c : Confirmation). c.asker) same
    same_asker one was (inr is_new) = ap (λ (c : Confirmation). c.asker) is_new.1

    port_of : (job : ℕ) (one was : Confirmation) (number : ℕ)
        → ((one ≡ was) ⊎ ((job ≡ at) × (one ≡ linked_at place was))) → one.port ≡ Some number
        → (was.port ≡ Some number) ⊎ ((job ≡ at) × (place ≡ number))
    port_of job one was number (inl same) is =
        inl (ap (λ (c : Confirmation). c.port) (sym same) ∙ is)
    port_of job one was number (inr is_new) is =
        let here_is : Some place ≡ Some number = ap (λ (c : Confirmation). c.port) (sym is_new.1) ∙ is in
        let equal : place ≡ number = cc in
        inr (is_new.0, equal)

    by_open : (job number : ℕ) (was : Confirmation) → find_job job confirmations ≡ Some was
        → (was.port ≡ Some number) ⊎ ((job ≡ at) × (place ≡ number))
        → IsSome (find_port number ports)
    by_open job number was there (inl is) = attended.confirmers job number was there is
    by_open job number was there (inr new) = subst (λ n. IsSome (find_port n ports)) new.1 some

    by_helper : (job number : ℕ) (was : Confirmation) → find_job job confirmations ≡ Some was
        → (was.port ≡ Some number) ⊎ ((job ≡ at) × (place ≡ number)) → link ≢ states.Linked number
    by_helper job number was there (inl is) linked = attended.helper job number was there is linked
    by_helper job number was there (inr new) linked =
        unhelped (linked ∙ ap states.Linked (sym new.1))

    by_apart : (a b number : ℕ) (one other : Confirmation) → find_job a confirmations ≡ Some one
        → find_job b confirmations ≡ Some other
        → (one.port ≡ Some number) ⊎ ((a ≡ at) × (place ≡ number))
        → (other.port ≡ Some number) ⊎ ((b ≡ at) × (place ≡ number)) → a ≡ b
    by_apart a b number one other this that (inl this_at) (inl that_at) =
        attended.apart a b number one other this that this_at that_at
    by_apart a b number one other this that (inl this_at) (inr that_at) =
        absurd (free a one this (this_at ∙ ap Some (sym that_at.1)))
    by_apart a b number one other this that (inr this_at) (inl that_at) =
        absurd (free b other that (that_at ∙ ap Some (sym this_at.1)))
    by_apart a b number one other this that (inr this_at) (inr that_at) = this_at.0 ∙ sym that_at.0

-- one more is to be confirmed
pub attended-raised : {confirmations : List Confirmation} {link : LinkState} {ports : List Port} (last : ℕ) (new : Confirmation)
    → JobsRise 0 confirmations last → new.job ≡ last + 1 → new.port ≡ None
    → length confirmations < 16 → IsSome (find_port new.asker ports)
    → AreAttended confirmations link ports → AreAttended (confirmations ++ new ∷ []) link ports
attended-raised {confirmations = confirmations} {link = link} {ports = ports} last new rise numbered nowhere room some attended = record {
  few = omega (arith, length-push new confirmations, room);
  askers = λ job one found. by_asker (new.job == job) job one (sym (pushed job) ∙ found);
  confirmers = λ job number one found at. attended.confirmers job number one (was (new.job == job) job number one (sym (pushed job) ∙ found) at) at;
  apart = λ a b number one other this that first second.
      attended.apart a b number one other (was (new.job == a) a number one (sym (pushed a) ∙ this) first) (was (new.job == b) b number other (sym (pushed b) ∙ that) second) first second;
  helper = λ job number one found at. attended.helper job number one (was (new.job == job) job number one (sym (pushed job) ∙ found) at) at;
}
  where
    pushed : (job : ℕ)
        → find_job job (confirmations ++ new ∷ []) ≡ cond (new.job == job) (Some new) (find_job job confirmations)
    pushed job = find_job-push job 0 new confirmations last rise (omega (arith, numbered))

    by_asker : (same : Bool) (job : ℕ) (one : Confirmation)
        → cond same (Some new) (find_job job confirmations) ≡ Some one
        → IsSome (find_port one.asker ports)
    by_asker true job one is = let equal : new ≡ one = cc in subst (λ (c : Confirmation). IsSome (find_port c.asker ports)) equal some
    by_asker false job one is = attended.askers job one is

    was : (same : Bool) (job number : ℕ) (one : Confirmation)
        → cond same (Some new) (find_job job confirmations) ≡ Some one → one.port ≡ Some number
        → find_job job confirmations ≡ Some one
    was true job number one is at =
        let equal : new ≡ one = cc in
        let no : None ≡ Some number = sym nowhere ∙ ap (λ (c : Confirmation). c.port) equal ∙ at in
        absurd (cc)
    was false job number one is at = is

-- one less, where the others are open after
pub attended-over : {confirmations : List Confirmation} {link : LinkState} {old new : List Port} (job last : ℕ)
    → JobsRise 0 confirmations last → AreAttended confirmations link old
    → ((other : ℕ) (one : Confirmation) → find_job other confirmations ≡ Some one → job ≢ other → IsSome (find_port one.asker new) × ((number : ℕ) → one.port ≡ Some number → IsSome (find_port number new)))
    → AreAttended (remove_job job confirmations) link new
attended-over {confirmations = confirmations} job last rise attended others = record {
  few = omega (arith, length-remove (has_key job_of job) confirmations, attended.few);
  askers =
      λ other one found. let left = left_of other one found in (others other one left.1 left.0).0;
  confirmers = λ other number one found at. let left = left_of other one found in (others other one left.1 left.0).1 number at;
  apart = λ a b number one other this that first second.
      attended.apart a b number one other (left_of a one this).1 (left_of b other that).1 first second;
  helper =
      λ other number one found at. attended.helper other number one (left_of other one found).1 at;
}
  where
    left_of : (other : ℕ) (one : Confirmation)
        → find_job other (remove_job job confirmations) ≡ Some one
        → (job ≢ other) × (find_job other confirmations ≡ Some one)
    left_of other one found = by_test (job == other) refl (sym (find_job-remove other job 0 confirmations last rise) ∙ found)
      where
        by_test : (same : Bool) → (job == other) ≡ same
            → cond same None (find_job other confirmations) ≡ Some one
            → (job ≢ other) × (find_job other confirmations ≡ Some one)
        by_test true is some = absurd (cc)
        by_test false is some = (λ equal. grind (arith, nat_tests), some)
