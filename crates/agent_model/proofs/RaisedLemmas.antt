-- Who waits for the user's consent, where ports change and confirmations come and go.
use Rattle.std.proofs.Common.{◌≡◌, ◌≢◌, ℕ, suc, ◌+◌, ◌≤◌, List, [], ◌∷◌, ◌++◌, refl, ap, arith, sym, subst, ◌∙◌, ◌==◌, ◌⊎◌, Option, Some, None, Bool, true, false, cond, inl, inr}
use Rattle.std.proofs.lemmas.Bool.Decides.{nat_tests}
use Rattle.world_ports.specs.declared.Door.{Door}
use Rattle.world_ports.specs.declared.Door.TheVariants.{Clients, Children}
use Rattle.confirm_desk.specs.Confirmations.{Confirmation, change_job, find_job, linked_at, remove_job}
use Rattle.helper_link.specs.Answered.{LeadTo}
use Rattle.helper_link.specs.HelperLink.{askers}
use Rattle.helper_link.specs.Settling.{find_ask, remove_ask}
use Rattle.helper_link.specs.Sound.{RiseTo}
use Rattle.helper_link.specs.declared.answer.Settled.{Settled}
use Rattle.helper_link.specs.declared.ask.Ask.{Ask}
use Rattle.lists.proofs.KeyedLemmas.{differ}
use Rattle.helper_link.proofs.OrderLemmas.{remove_rises}
use Rattle.agent_model.specs.Answers.{Answering, answer_all, answer_by, tell_each}
use Rattle.agent_model.specs.Asking.{AreRaised, IsAsking}
use Rattle.agent_model.specs.Consents.{close_confirmer}
use Rattle.agent_model.specs.Sound.{AreTied, IsRising}
use Rattle.agent_model.specs.State.{Nothing, OnAsk, OnConfirmation, Port, change_port, find_port, new_port, remove_port}
use Rattle.agent_model.specs.Verdicts.{HelperLost, Refuses, tell}
use Rattle.agent_model.proofs.FateLemmas.{answers_as, one_answer, one_lost}
use Rattle.agent_model.proofs.JobLemmas.{changed_back, changed_forth, find_job-push, find_job-remove, job_within, jobs-change, jobs-higher, jobs-push, jobs-remove}
use Rattle.agent_model.proofs.MakeLemmas.{IsMild, Kept, altered, unchanged}
use Rattle.agent_model.proofs.PortsLemmas.{find_port-left}
use Rattle.agent_model.proofs.TieLemmas.{IsOf, apart, found_after, found_joined, found_known, here}

-- ---- ports that go on waiting for what they waited for

-- each port that is open was, and waits for what it waited for
abbrev pub Fewer : List Port → List Port → Type 0
Fewer old new = (number : ℕ) (port : Port) → find_port number new ≡ Some port → (was : Port) × (find_port number old ≡ Some was) × (port.waits ≡ was.waits) × (was.owed ≡ [] → port.owed ≡ []) × (port.door ≡ was.door)

pub fewer-changed : (at : ℕ) (f : Port → Port) (ports : List Port) → IsMild f
    → Fewer ports (change_port at f ports)
fewer-changed at f ports mild number port found = by_port (found_after number at f ports port mild.number found)
  where
    by_port : IsOf number at f ports port
        → (was : Port) × (find_port number ports ≡ Some was) × (port.waits ≡ was.waits) × (was.owed ≡ [] → port.owed ≡ []) × (port.door ≡ was.door)
    by_port (here old equal was is) = (old, was, ap (λ (p : Port). p.waits) is ∙ mild.waits old, λ none. ap (λ (p : Port). p.owed) is ∙ mild.owed old none, ap (λ (p : Port). p.door) is ∙ mild.door old)
    by_port (apart other was) = (port, was, refl, λ none. none, refl)

pub fewer-removed : (at low high : ℕ) (ports : List Port) → IsRising low high ports
    → Fewer ports (remove_port at ports)
fewer-removed at low high ports rising number port found =
    (port, find_port-left number at low high ports port rising found, refl, λ none. none, refl)

pub fewer-closed : (at : Option ℕ) (low high : ℕ) (ports : List Port) → IsRising low high ports
    → Fewer ports (close_confirmer at ports)
fewer-closed None low high ports rising number port found = (port, found, refl, λ none. none, refl)
fewer-closed (Some at) low high ports rising number port found =
    fewer-removed at low high ports rising number port found

-- ---- where the list of confirmations stays

pub raised-fewer : {confirmations : List Confirmation} {last_job last_port : ℕ} (old new : List Port)
    → Fewer old new → AreRaised confirmations last_job old last_port
    → AreRaised confirmations last_job new last_port
raised-fewer old new fewer raised = record {
  order = raised.order;
  asking = record {
    waits = λ number job port found is.
        let was = fewer number port found in
        let asks = raised.asking.waits number job was.0 was.1 (sym was.2 ∙ is) in
        record { confirmation = asks.confirmation; found = asks.found; asker = asks.asker; owed = was.3 asks.owed; door = was.4 ∙ asks.door };
    asks = λ job one port there found.
        let was = fewer one.asker port found in
        was.2 ∙ raised.asking.asks job one was.0 there was.1;
  };
  askers = raised.askers;
  confirmers = λ job number one port there at found.
      let was = fewer number port found in
      was.4 ∙ raised.confirmers job number one was.0 there at was.1;
  known = raised.known;
}

-- more jobs and ports may come
pub raised-later : {confirmations : List Confirmation} {ports : List Port} (last_job more_jobs last_port more_ports : ℕ)
    → last_job ≤ more_jobs → last_port ≤ more_ports
    → AreRaised confirmations last_job ports last_port
    → AreRaised confirmations more_jobs ports more_ports
raised-later {confirmations = confirmations} last_job more_jobs last_port more_ports jobs numbers raised = record {
  order = jobs-higher 0 confirmations last_job more_jobs jobs raised.order;
  asking = raised.asking;
  askers = λ job one found. omega (arith, numbers, raised.askers job one found);
  confirmers = raised.confirmers;
  known = λ job number one found at. omega (arith, numbers, raised.known job number one found at);
}

-- a port that joins waits for nothing
pub raised-joined : {confirmations : List Confirmation} {last_job : ℕ} (last : ℕ) (door : Door) (ports : List Port)
    → AreRaised confirmations last_job ports last
    → AreRaised confirmations last_job (ports ++ new_port (suc last) door ∷ []) (suc last)
raised-joined {confirmations = confirmations} last door ports raised = record {
  order = raised.order;
  asking = record {
    waits = λ number job port found is. by_port number job port (found_joined number (suc last) door ports port found) is;
    asks = λ job one port there found. raised.asking.asks job one port there (found_known one.asker last door ports port (raised.askers job one there) found);
  };
  askers = λ job one found. omega (arith, raised.askers job one found);
  confirmers = λ job number one port there at found. raised.confirmers job number one port there at (found_known number last door ports port (raised.known job number one there at) found);
  known = λ job number one found at. omega (arith, raised.known job number one found at);
}
  where
    by_port : (number job : ℕ) (port : Port)
        → (find_port number ports ≡ Some port) ⊎ (port ≡ new_port (suc last) door)
        → port.waits ≡ OnConfirmation job → IsAsking number job port confirmations
    by_port number job port (inl was) is = raised.asking.waits number job port was is
    by_port number job port (inr new) is = let waits : Nothing ≡ OnConfirmation job = sym (ap (λ (p : Port). p.waits) new) ∙ is in absurd (cc)

module _ {confirmations : List Confirmation} {last_job last_port : ℕ} (ports : List Port) (raised : AreRaised confirmations last_job ports last_port) where
  -- a client that doesn't wait for consent is told something else
  pub raised-silent : (number : ℕ) (f : Port → Port)
      → ((port : Port) → find_port number ports ≡ Some port → (job : ℕ) → port.waits ≢ OnConfirmation job)
      → ((p : Port) → (f p).number ≡ p.number) → ((p : Port) → (f p).door ≡ p.door)
      → ((p : Port) (job : ℕ) → (f p).waits ≢ OnConfirmation job)
      → AreRaised confirmations last_job (change_port number f ports) last_port
  raised-silent number f before keeps doors silent = record {
    order = raised.order;
    asking = record {
      waits = λ n job p found is. by_port n job p (found_after n number f ports p keeps found) is;
      asks = λ job one p was found. by_asker job one p was (found_after one.asker number f ports p keeps found);
    };
    askers = raised.askers;
    confirmers = λ job n one p there at found. by_confirmer job n one p there at (found_after n number f ports p keeps found);
    known = raised.known;
  }
    where
      by_port : (n job : ℕ) (p : Port) → IsOf n number f ports p → p.waits ≡ OnConfirmation job
          → IsAsking n job p confirmations
      by_port n job p (here old same was is) waits =
          absurd (silent old job (ap (λ (q : Port). q.waits) (sym is) ∙ waits))
      by_port n job p (apart other was) waits = raised.asking.waits n job p was waits

      by_asker : (job : ℕ) (one : Confirmation) (p : Port) → find_job job confirmations ≡ Some one
          → IsOf one.asker number f ports p → p.waits ≡ OnConfirmation job
      by_asker job one p was (here old same found is) =
          absurd (before old (ap (λ n. find_port n ports) (sym same) ∙ found) job (raised.asking.asks job one old was found))
      by_asker job one p was (apart other found) = raised.asking.asks job one p was found

      by_confirmer : (job n : ℕ) (one : Confirmation) (p : Port)
          → find_job job confirmations ≡ Some one → one.port ≡ Some n → IsOf n number f ports p
          → p.door ≡ Children
      by_confirmer job n one p there at (here old same was is) =
          ap (λ (q : Port). q.door) is ∙ doors old ∙ raised.confirmers job n one old there at was
      by_confirmer job n one p there at (apart other was) =
          raised.confirmers job n one p there at was

  -- a confirmation is changed, and perhaps linked to a port of a child process
  pub raised-change : (at : ℕ) (f : Confirmation → Confirmation)
      → ((c : Confirmation) → (f c).job ≡ c.job) → ((c : Confirmation) → (f c).asker ≡ c.asker)
      → ((c : Confirmation) (n : ℕ) → (f c).port ≡ Some n → (c.port ≡ Some n) ⊎ (((port : Port) → find_port n ports ≡ Some port → port.door ≡ Children) × (n ≤ last_port)))
      → AreRaised (change_job at f confirmations) last_job ports last_port
  raised-change at f jobs whose places = record {
    order = jobs-change at 0 f confirmations last_job jobs raised.order;
    asking = record {
      waits = λ number job port found is.
          let asks = raised.asking.waits number job port found is in
          let forth = changed_forth job at f confirmations asks.confirmation jobs asks.found in
          record { confirmation = forth.0; found = forth.1; asker = same_asker forth.0 asks.confirmation forth.2 ∙ asks.asker; owed = asks.owed; door = asks.door };
      asks = λ job one port there found.
          let back = changed_back job at f confirmations one jobs there in
          raised.asking.asks job back.0 port back.1 (ap (λ n. find_port n ports) (sym (same_asker one back.0 back.2)) ∙ found);
    };
    askers = λ job one there.
        let back = changed_back job at f confirmations one jobs there in
        rw (same_asker one back.0 back.2) (raised.askers job back.0 back.1);
    confirmers = λ job number one port there is found.
        let back = changed_back job at f confirmations one jobs there in
        by_place job number back.0 port back.1 found (place one back.0 number back.2 is);
    known = λ job number one there is.
        let back = changed_back job at f confirmations one jobs there in
        by_known job number back.0 back.1 (place one back.0 number back.2 is);
  }
    where
      same_asker : (one was : Confirmation) → (one ≡ was) ⊎ (one ≡ f was) → one.asker ≡ was.asker
      same_asker one was (inl same) = ap (λ (c : Confirmation). c.asker) same
      same_asker one was (inr changed) = ap (λ (c : Confirmation). c.asker) changed ∙ whose was

      place : (one was : Confirmation) (number : ℕ) → (one ≡ was) ⊎ (one ≡ f was)
          → one.port ≡ Some number
          → (was.port ≡ Some number) ⊎ (((port : Port) → find_port number ports ≡ Some port → port.door ≡ Children) × (number ≤ last_port))
      place one was number (inl same) is = inl (ap (λ (c : Confirmation). c.port) (sym same) ∙ is)
      place one was number (inr changed) is =
          places was number (ap (λ (c : Confirmation). c.port) (sym changed) ∙ is)

      by_place : (job number : ℕ) (was : Confirmation) (port : Port)
          → find_job job confirmations ≡ Some was → find_port number ports ≡ Some port
          → (was.port ≡ Some number) ⊎ (((port : Port) → find_port number ports ≡ Some port → port.door ≡ Children) × (number ≤ last_port))
          → port.door ≡ Children
      by_place job number was port there found (inl at_it) =
          raised.confirmers job number was port there at_it found
      by_place job number was port there found (inr new) = new.0 port found

      by_known : (job number : ℕ) (was : Confirmation) → find_job job confirmations ≡ Some was
          → (was.port ≡ Some number) ⊎ (((port : Port) → find_port number ports ≡ Some port → port.door ≡ Children) × (number ≤ last_port))
          → number ≤ last_port
      by_known job number was there (inl at_it) = raised.known job number was there at_it
      by_known job number was there (inr new) = new.1

  -- the asker is told that its confirmation is over, or that its ask is put
  pub raised-over : (confirmation : Confirmation) (f : Port → Port)
      → find_job confirmation.job confirmations ≡ Some confirmation
      → ((p : Port) → (f p).number ≡ p.number) → ((p : Port) → (f p).door ≡ p.door)
      → ((p : Port) (job : ℕ) → (f p).waits ≢ OnConfirmation job)
      → AreRaised (remove_job confirmation.job confirmations) last_job (change_port confirmation.asker f ports) last_port
  raised-over confirmation f is_there keeps doors silent = record {
    order = jobs-remove confirmation.job 0 confirmations last_job raised.order;
    asking = record {
      waits = λ n job p found is. by_port n job p (found_after n confirmation.asker f ports p keeps found) is;
      asks = λ job one p left found. by_asker job one p (left_of job one left) (found_after one.asker confirmation.asker f ports p keeps found);
    };
    askers = λ job one left. raised.askers job one (left_of job one left).1;
    confirmers = λ job n one p left at found. by_confirmer job n one p (left_of job one left).1 at (found_after n confirmation.asker f ports p keeps found);
    known = λ job n one left at. raised.known job n one (left_of job one left).1 at;
  }
    where
      removed : (job : ℕ)
          → find_job job (remove_job confirmation.job confirmations) ≡ cond (confirmation.job == job) None (find_job job confirmations)
      removed job = find_job-remove job confirmation.job 0 confirmations last_job raised.order

      left_of : (job : ℕ) (one : Confirmation)
          → find_job job (remove_job confirmation.job confirmations) ≡ Some one
          → (confirmation.job ≢ job) × (find_job job confirmations ≡ Some one)
      left_of job one left = by_test (confirmation.job == job) refl (sym (removed job) ∙ left)
        where
          by_test : (same : Bool) → (confirmation.job == job) ≡ same
              → cond same None (find_job job confirmations) ≡ Some one
              → (confirmation.job ≢ job) × (find_job job confirmations ≡ Some one)
          by_test true is some = absurd (cc)
          by_test false is some = (λ equal. grind (arith, nat_tests), some)

      by_port : (n job : ℕ) (p : Port) → IsOf n confirmation.asker f ports p
          → p.waits ≡ OnConfirmation job
          → IsAsking n job p (remove_job confirmation.job confirmations)
      by_port n job p (here old same was is) waits =
          absurd (silent old job (ap (λ (q : Port). q.waits) (sym is) ∙ waits))
      by_port n job p (apart other was) waits =
          let asks = raised.asking.waits n job p was waits in
          let differs : confirmation.job ≢ job = λ same.
          let is : Some confirmation ≡ Some asks.confirmation = sym is_there ∙ ap (λ m. find_job m confirmations) same ∙ asks.found in
          let equal : confirmation ≡ asks.confirmation = cc in
          other (sym asks.asker ∙ sym (ap (λ (c : Confirmation). c.asker) equal)) in
          record {
            confirmation = asks.confirmation;
            found = removed job ∙ ap (λ b. cond b None (find_job job confirmations)) (differ confirmation.job job differs) ∙ asks.found;
            asker = asks.asker;
            owed = asks.owed;
            door = asks.door;
          }

      by_asker : (job : ℕ) (one : Confirmation) (p : Port)
          → (confirmation.job ≢ job) × (find_job job confirmations ≡ Some one)
          → IsOf one.asker confirmation.asker f ports p → p.waits ≡ OnConfirmation job
      by_asker job one p left (here old same was is) =
          let first : old.waits ≡ OnConfirmation job = raised.asking.asks job one old left.1 was in
          let second : old.waits ≡ OnConfirmation confirmation.job = raised.asking.asks confirmation.job confirmation old is_there (ap (λ n. find_port n ports) (sym same) ∙ was) in
          let waits : OnConfirmation confirmation.job ≡ OnConfirmation job = sym second ∙ first in
          let equal : confirmation.job ≡ job = cc in
          absurd (left.0 equal)
      by_asker job one p left (apart other was) = raised.asking.asks job one p left.1 was

      by_confirmer : (job n : ℕ) (one : Confirmation) (p : Port)
          → find_job job confirmations ≡ Some one → one.port ≡ Some n
          → IsOf n confirmation.asker f ports p → p.door ≡ Children
      by_confirmer job n one p there at (here old same was is) =
          ap (λ (q : Port). q.door) is ∙ doors old ∙ raised.confirmers job n one old there at was
      by_confirmer job n one p there at (apart other was) =
          raised.confirmers job n one p there at was

  -- a client that waits for nothing and is owed nothing is to be confirmed something
  pub raised-raised : (number : ℕ) (new : Confirmation) (port : Port) (f : Port → Port)
      → new.job ≡ last_job + 1 → new.asker ≡ number → new.port ≡ None → number ≤ last_port
      → find_port number ports ≡ Some port → port.waits ≡ Nothing → port.owed ≡ []
      → port.door ≡ Clients → ((p : Port) → (f p).number ≡ p.number)
      → ((p : Port) → (f p).door ≡ p.door)
      → ((p : Port) → (f p).waits ≡ OnConfirmation (last_job + 1))
      → ((p : Port) → p.owed ≡ [] → (f p).owed ≡ [])
      → AreRaised (confirmations ++ new ∷ []) (last_job + 1) (change_port number f ports) last_port
  raised-raised number new port f numbered for_it nowhere within there nothing owed door keeps doors waits owes = record {
    order = jobs-push 0 new confirmations last_job numbered raised.order;
    asking = record {
      waits = λ n job p found is. by_port n job p (found_after n number f ports p keeps found) is;
      asks = λ job one p found at. by_asker (new.job == job) job one p refl (sym (pushed job) ∙ found) (found_after one.asker number f ports p keeps at);
    };
    askers = λ job one found. by_known (new.job == job) job one (sym (pushed job) ∙ found);
    confirmers = λ job n one p found at opened. by_confirmer job n one p (linked (new.job == job) job n one (sym (pushed job) ∙ found) at) at (found_after n number f ports p keeps opened);
    known = λ job n one found at. raised.known job n one (linked (new.job == job) job n one (sym (pushed job) ∙ found) at) at;
  }
    where
      pushed : (job : ℕ)
          → find_job job (confirmations ++ new ∷ []) ≡ cond (new.job == job) (Some new) (find_job job confirmations)
      pushed job =
          find_job-push job 0 new confirmations last_job raised.order (omega (arith, numbered))

      is_port : (n : ℕ) (old : Port) → n ≡ number → find_port n ports ≡ Some old → old ≡ port
      is_port n old same was =
          let is : Some old ≡ Some port = sym was ∙ ap (λ m. find_port m ports) same ∙ there in cc

      by_port : (n job : ℕ) (p : Port) → IsOf n number f ports p → p.waits ≡ OnConfirmation job
          → IsAsking n job p (confirmations ++ new ∷ [])
      by_port n job p (here old same was is) waiting =
          let number_is : OnConfirmation (last_job + 1) ≡ OnConfirmation job = sym (waits old) ∙ ap (λ (q : Port). q.waits) (sym is) ∙ waiting in
          let equal : last_job + 1 ≡ job = cc in
          let test : (new.job == job) ≡ true = grind (arith, nat_tests) in
          let old_is : old ≡ port = is_port n old same was in
          record {
            confirmation = new;
            found = pushed job ∙ ap (λ b. cond b (Some new) (find_job job confirmations)) test;
            asker = for_it ∙ sym same;
            owed =
                ap (λ (q : Port). q.owed) is ∙ owes old (ap (λ (q : Port). q.owed) old_is ∙ owed);
            door =
                ap (λ (q : Port). q.door) is ∙ doors old ∙ ap (λ (q : Port). q.door) old_is ∙ door;
          }
      by_port n job p (apart other was) waiting =
          let asks = raised.asking.waits n job p was waiting in
          let within = job_within job 0 confirmations last_job asks.confirmation raised.order asks.found in
          record {
            confirmation = asks.confirmation;
            found = pushed job ∙ ap (λ b. cond b (Some new) (find_job job confirmations)) (differ new.job job (λ same. omega (arith, same, numbered, within.1))) ∙ asks.found;
            asker = asks.asker;
            owed = asks.owed;
            door = asks.door;
          }

      by_asker : (same : Bool) (job : ℕ) (one : Confirmation) (p : Port) → (new.job == job) ≡ same
          → cond same (Some new) (find_job job confirmations) ≡ Some one
          → IsOf one.asker number f ports p → p.waits ≡ OnConfirmation job
      by_asker true job one p equal some (here old same was at) =
          let number_is : last_job + 1 ≡ job = grind (arith, nat_tests) in
          ap (λ (q : Port). q.waits) at ∙ waits old ∙ ap OnConfirmation number_is
      by_asker true job one p equal some (apart other was) = let is_new : new ≡ one = cc in absurd (other (sym (ap (λ (c : Confirmation). c.asker) is_new) ∙ for_it))
      by_asker false job one p equal some (here old same was at) =
          let put : old.waits ≡ OnConfirmation job = raised.asking.asks job one old some was in
          let old_is : old ≡ port = is_port one.asker old same was in
          let no : OnConfirmation job ≡ Nothing = sym put ∙ ap (λ (q : Port). q.waits) old_is ∙ nothing in
          absurd (cc)
      by_asker false job one p equal some (apart other was) = raised.asking.asks job one p some was

      by_known : (same : Bool) (job : ℕ) (one : Confirmation)
          → cond same (Some new) (find_job job confirmations) ≡ Some one → one.asker ≤ last_port
      by_known true job one some = let is_new : new ≡ one = cc in omega (arith, within, for_it, ap (λ (c : Confirmation). c.asker) is_new)
      by_known false job one some = raised.askers job one some

      -- it isn't the new one that is at a port
      linked : (same : Bool) (job n : ℕ) (one : Confirmation)
          → cond same (Some new) (find_job job confirmations) ≡ Some one → one.port ≡ Some n
          → find_job job confirmations ≡ Some one
      linked true job n one some at =
          let is_new : new ≡ one = cc in
          let no : None ≡ Some n = sym nowhere ∙ ap (λ (c : Confirmation). c.port) is_new ∙ at in
          absurd (cc)
      linked false job n one some at = some

      by_confirmer : (job n : ℕ) (one : Confirmation) (p : Port)
          → find_job job confirmations ≡ Some one → one.port ≡ Some n → IsOf n number f ports p
          → p.door ≡ Children
      by_confirmer job n one p was at (here old same found is) =
          ap (λ (q : Port). q.door) is ∙ doors old ∙ raised.confirmers job n one old was at found
      by_confirmer job n one p was at (apart other found) =
          raised.confirmers job n one p was at found

pub raised-kept : {old new : List Confirmation} {last_job last_port : ℕ} (ports : List Port)
    → Kept old new → AreRaised old last_job ports last_port → AreRaised new last_job ports last_port
raised-kept ports unchanged raised = raised
raised-kept ports (altered job f faint) raised =
    raised-change ports raised job f faint.job faint.asker (λ c n is. inl (sym (faint.port c) ∙ is))

pub raised-linked : {confirmations : List Confirmation} {last_job last_port : ℕ} (ports : List Port) (job number : ℕ)
    → ((port : Port) → find_port number ports ≡ Some port → port.door ≡ Children)
    → number ≤ last_port → AreRaised confirmations last_job ports last_port
    → AreRaised (change_job job (linked_at number) confirmations) last_job ports last_port
raised-linked {last_port = last_port} ports job number child within raised =
    raised-change ports raised job (linked_at number) (λ c. refl) (λ c. refl) (λ c n is.
    let same : number ≡ n = cc in
    inr (subst (λ m. ((port : Port) → find_port m ports ≡ Some port → port.door ≡ Children) × (m ≤ last_port)) same (child, within)))

-- ---- the helper's answers, and its loss

module _ {confirmations : List Confirmation} {last_job last_port : ℕ} (low last : ℕ) where
  -- who is answered waits for an ask
  pub raised-answers : (settled : List Settled) (before : Answering) (asks left : List Ask)
      → LeadTo settled asks left → RiseTo low asks last → AreTied before.ports asks
      → AreRaised confirmations last_job before.ports last_port
      → AreRaised confirmations last_job (answer_all settled before).ports last_port
  raised-answers [] before asks left leads rise tied raised = raised
  raised-answers (one ∷ later) before asks left leads rise tied raised =
      let told = answers_as one.answer one before in
      raised-answers later (answer_by one.answer one before) (remove_ask one.ask asks) left leads.1 (remove_rises one.ask low asks last rise) (one_answer low last one before asks leads.0 rise tied)
      (subst (λ ports. AreRaised confirmations last_job ports last_port) (sym told.ports)
      (raised-silent before.ports raised one.asker told.change
      (λ port opened job is. let no : OnAsk one.ask ≡ OnConfirmation job = sym (tied.asks one.ask _ port leads.0.found opened) ∙ is in absurd (cc))
      told.number told.door (λ p job is. let no : Nothing ≡ OnConfirmation job = sym (told.waits p) ∙ is in absurd (cc))))

pub raised-lost : {confirmations : List Confirmation} {last_job last_port : ℕ} (low last : ℕ) (asks : List Ask) (ports : List Port)
    → RiseTo low asks last → AreTied ports asks → AreRaised confirmations last_job ports last_port
    → AreRaised confirmations last_job (tell_each (Refuses HelperLost) (askers asks) ports) last_port
raised-lost low last [] ports rise tied raised = raised
raised-lost low last (one ∷ asks) ports rise tied raised =
    let first : find_ask one.number (one ∷ asks) ≡ Some one = grind (arith, nat_tests) in
    raised-lost one.number last asks _ rise.1 (one_lost low last one asks ports rise tied)
    (raised-silent ports raised one.asker (tell (Refuses HelperLost))
    (λ port opened job is. let no : OnAsk one.number ≡ OnConfirmation job = sym (tied.asks one.number one port first opened) ∙ is in absurd (cc))
    (λ p. refl) (λ p. refl) (λ p job is. absurd (cc)))
