-- What follows a tied state is tied, and so is what a quiet change leaves.
use Rattle.std.proofs.Common.{◌≡◌, ℕ, ◌≤◌, List, refl, ap, sym, ◌∙◌, Some}
use Rattle.world_ports.specs.declared.Door.TheVariants.{Children}
use Rattle.helper_link.specs.HelperLink.{askers}
use Rattle.helper_link.specs.Settling.{find_ask}
use Rattle.helper_link.specs.Sound.{RiseTo}
use Rattle.helper_link.specs.declared.ask.Ask.{Ask}
use Rattle.helper_link.specs.declared.state.LinkState.TheVariants as states
use Rattle.agent_model.specs.Asking.{AreRaised}
use Rattle.agent_model.specs.Children.{unheard}
use Rattle.agent_model.specs.Events.{Happening}
use Rattle.agent_model.specs.Sound.{AreNoted, AreTied, IsTied}
use Rattle.agent_model.specs.State.{Port, State, change_port, find_port}
use Rattle.agent_model.proofs.LeadLemmas.{Follows, follows-quiet, same}
use Rattle.agent_model.proofs.MakeLemmas.{Quiet, alters, closes, goes_on, links, mild-unheard, mild_of, names, same_asks}
use Rattle.agent_model.proofs.PortsLemmas.{found_within}
use Rattle.agent_model.proofs.RaisedLemmas.{Fewer, fewer-changed, fewer-removed, raised-fewer, raised-kept, raised-linked}
use Rattle.agent_model.proofs.RunLemmas.{leads-found, leads-rising, rising_behind}

-- what follows a tied state is tied, by its asks
pub assemble : (old new : State) → Follows old new → IsTied old
    → RiseTo 0 new.under_way.link.asks new.under_way.link.last
    → AreTied new.ports new.under_way.link.asks
    → AreNoted new.under_way.verifications new.under_way.link.asks
    → ((ask : ℕ) (one : Ask) → find_ask ask new.under_way.link.asks ≡ Some one → one.asker ≤ old.last_port)
    → ((number : ℕ) → new.under_way.link.state ≡ states.Linked number → old.under_way.link.state ≡ states.Linked number)
    → AreRaised new.under_way.confirmations new.under_way.last_job new.ports old.last_port
    → IsTied new
assemble old new follows tied order ties noted askers linked consents = record {
  rising = rising_behind old new follows tied.rising;
  order = order;
  tied = ties;
  noted = noted;
  askers = λ ask one found. rw follows.last (askers ask one found);
  helper = λ number port is found.
      let before = leads-found number 0 old.last_port old.ports port follows.ports tied.rising found in
      before.2 ∙ tied.helper number before.0 (linked number is) before.1;
  known = λ number is. rw follows.last (tied.known number (linked number is));
  raised = rw follows.last consents;
}

-- ---- quiet changes

pub tied-fewer : (old new : List Port) (asks : List Ask) → Fewer old new → AreTied old asks
    → AreTied new asks
tied-fewer old new asks fewer tied = record {
  waits = λ number ask port found is.
      let was = fewer number port found in
      let waiting = tied.waits number ask was.0 was.1 (sym was.2 ∙ is) in
      record { kind = waiting.kind; blob = waiting.blob; put_at = waiting.put_at; size = waiting.size; unanswered = waiting.unanswered; owed = was.3 waiting.owed; door = was.4 ∙ waiting.door };
  asks = λ ask one port there found.
      let was = fewer one.asker port found in
      was.2 ∙ tied.asks ask one was.0 there was.1;
}

linked_number : (a b : ℕ) → states.Linked a ≡ states.Linked b → a ≡ b
linked_number a b is = cc

pub tied-quiet : {event : Happening} {old new : State} → Quiet event old new → IsTied old
    → IsTied new
tied-quiet {event = event} {old = old} (alters number f change) tied =
    assemble old _ (follows-quiet event old (alters number f change) record { last = refl; ports = same }) tied tied.order (tied-fewer old.ports _ _ (fewer-changed number f old.ports (mild_of change)) tied.tied) tied.noted tied.askers (λ n is. is) (raised-fewer old.ports _ (fewer-changed number f old.ports (mild_of change)) tied.raised)
tied-quiet {event = event} {old = old} (closes number may) tied =
    assemble old _ (follows-quiet event old (closes number may) record { last = refl; ports = same }) tied tied.order (tied-fewer old.ports _ _ (fewer-removed number 0 old.last_port old.ports tied.rising) tied.tied) tied.noted tied.askers (λ n is. is) (raised-fewer old.ports _ (fewer-removed number 0 old.last_port old.ports tied.rising) tied.raised)
tied-quiet {event = event} {old = old} (goes_on new goes) tied =
    assemble old _ (follows-quiet event old (goes_on new goes) record { last = refl; ports = same }) tied (rw ((same_asks goes).asks, (same_asks goes).last) tied.order) (rw (same_asks goes).asks tied.tied) (rw ((same_asks goes).asks, (same_asks goes).verifications) tied.noted) (λ ask one found. tied.askers ask one (ap (find_ask ask) (sym (same_asks goes).asks) ∙ found)) (λ n is. sym (same_asks goes).state ∙ is) (rw (same_asks goes).jobs (raised-kept old.ports (same_asks goes).kept tied.raised))
tied-quiet {event = event} {old = old} (names job number new) tied =
    let follows = follows-quiet event old {old = old} (names job number new) record { last = refl; ports = same } in
    record {
      rising = leads-rising 0 old.last_port old.ports follows.ports tied.rising;
      order = tied.order;
      tied = tied-fewer old.ports _ _ (fewer-changed number unheard old.ports record { number = λ p. refl; door = λ p. refl; waits = λ p. refl; owed = λ p none. none; chain = λ p. refl }) tied.tied;
      noted = tied.noted;
      askers = tied.askers;
      helper = λ n q linked there.
          let before = leads-found n 0 old.last_port old.ports q follows.ports tied.rising there in
          let same_port : number ≡ n = linked_number number n linked in
          let is : Some before.0 ≡ Some new.port = sym before.1 ∙ ap (λ m. find_port m old.ports) (sym same_port) ∙ new.found in
          let equal : before.0 ≡ new.port = cc in
          before.2 ∙ ap (λ (p : Port). p.door) equal ∙ new.door;
      known = λ n linked. rw (← linked_number number n linked) (found_within number 0 old.last_port old.ports new.port tied.rising new.found);
      raised = raised-fewer old.ports _ (fewer-changed number unheard old.ports mild-unheard) tied.raised;
    }
tied-quiet {event = event} {old = old} (links job number new) tied =
    let fewer = fewer-changed number unheard old.ports mild-unheard in
    let child : (q : Port) → find_port number (change_port number unheard old.ports) ≡ Some q → q.door ≡ Children = λ q there.
    let was = fewer number q there in
    let is : Some was.0 ≡ Some new.port = sym was.1 ∙ new.found in
    let equal : was.0 ≡ new.port = cc in
    was.4 ∙ ap (λ (p : Port). p.door) equal ∙ new.door in
    assemble old _ (follows-quiet event old {old = old} (links job number new) record { last = refl; ports = same }) tied tied.order (tied-fewer old.ports _ _ fewer tied.tied) tied.noted tied.askers (λ n is. is)
    (raised-linked _ job number child (found_within number 0 old.last_port old.ports new.port tied.rising new.found) (raised-fewer old.ports _ fewer tied.raised))
