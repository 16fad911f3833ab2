-- The next child process that is owed bytes: as the next port, where no client is owed any. And with it the next port.
use Rattle.std.proofs.Common.{◌≡◌, ℕ, List, [], ◌∷◌, refl, ap, sym, subst, ◌∙◌, Option, Some, None, IsSome, option_map, Bool, true, false, not, nat_lt, ◌&&◌, if◌then◌else◌, arith, min, map}
use Rattle.lists.specs.Keyed.{has_key}
use Rattle.lists.proofs.FirstLemmas.{find-map}
use Rattle.world_ports.specs.declared.Door.{Door}
use Rattle.world_ports.specs.declared.Door.TheVariants.{Clients, Children}
use Rattle.helper_link.specs.declared.state.LinkState.{LinkState}
use Rattle.helper_link.specs.declared.state.LinkState.TheVariants as states
use Rattle.confirm_desk.specs.Calls.{lesser, next_owed}
use Rattle.confirm_desk.specs.Confirmations.{Confirmation, find_linked}
use Rattle.agent_model.specs.Asking.{AreAttended, AreRaised}
use Rattle.agent_model.specs.Sound.{IsRising}
use Rattle.agent_model.specs.State.{Port, UnderWay, find_port, is_client, is_linked_to, is_some_bytes, next_owed_in, owed_as, owed_by_port, role_by_helper, role_by_link, role_of, number_of}
use Rattle.agent_core.specs.Owing.{next_child_owed_in}
use Rattle.agent_core.specs.Roles.{door_by, helper_owed, next_of, owed_helper, owed_helper_by}
use Rattle.agent_core.specs.Slots.{first_above, is_owing, owing_of}
use Rattle.agent_core.proofs.NextConfirmerLemmas.{alone, next-confirmed}
use Rattle.agent_core.proofs.NextLemmas.{next-is}

-- ---- ports that owe their clients nothing

-- the same port, whose client is owed nothing
abbrev pub hush : Port → Port
hush port = record port { owed = [] }

abbrev pub hushed : List Port → List Port
hushed ports = map hush ports

rising-hushed : (low high : ℕ) (ports : List Port) → IsRising low high ports → IsRising low high (hushed ports)
rising-hushed low high [] rising = rising
rising-hushed low high (port ∷ ports) rising = (rising.0, rising-hushed port.number high ports rising.1)

find_port-hushed : (number : ℕ) (ports : List Port) → find_port number (hushed ports) ≡ option_map hush (find_port number ports)
find_port-hushed number ports = find-map hush (has_key number_of number) (has_key number_of number) (λ _. refl) ports

-- one that is found was there
was_there : (number : ℕ) (ports : List Port) (one : Port) → find_port number (hushed ports) ≡ Some one
    → (port : Port) × (find_port number ports ≡ Some port) × (hush port ≡ one)
was_there number ports one found = by_found (find_port number ports) refl
  where
    by_found : (old : Option Port) → find_port number ports ≡ old → (port : Port) × (find_port number ports ≡ Some port) × (hush port ≡ one)
    by_found None is = let no : None ≡ Some one = sym (find_port-hushed number ports ∙ ap (option_map hush) is) ∙ found in absurd (cc)
    by_found (Some port) is =
        let both : Some (hush port) ≡ Some one = sym (find_port-hushed number ports ∙ ap (option_map hush) is) ∙ found in
        let same : hush port ≡ one = cc in
        (port, is, same)

some-hushed : (number : ℕ) (ports : List Port) → IsSome (find_port number ports) → IsSome (find_port number (hushed ports))
some-hushed number ports some =
    let P : Option Port → Type 0 = λ found. IsSome found in
    subst P (sym (find_port-hushed number ports)) (by_found (find_port number ports) some)
  where
    by_found : (found : Option Port) → IsSome found → IsSome (option_map hush found)
    by_found None some = some
    by_found (Some port) some = some

-- the confirmations stay tied to them
raised-hushed : (confirmations : List Confirmation) (last_job : ℕ) (ports : List Port) (last_port : ℕ)
    → AreRaised confirmations last_job ports last_port → AreRaised confirmations last_job (hushed ports) last_port
raised-hushed confirmations last_job ports last_port raised = record {
  order = raised.order;
  asking = record {
    waits = λ number job port found waits.
        let was = was_there number ports port found in
        let asks = raised.asking.waits number job was.0 was.1 (ap (λ (p : Port). p.waits) was.2 ∙ waits) in
        record {
          confirmation = asks.confirmation;
          found = asks.found;
          asker = asks.asker;
          owed = sym (ap (λ (p : Port). p.owed) was.2);
          door = sym (ap (λ (p : Port). p.door) was.2) ∙ asks.door;
        };
    asks = λ job one port found there.
        let was = was_there one.asker ports port there in
        sym (ap (λ (p : Port). p.waits) was.2) ∙ raised.asking.asks job one was.0 found was.1;
  };
  askers = raised.askers;
  confirmers = λ job number one port found at there.
      let was = was_there number ports port there in
      sym (ap (λ (p : Port). p.door) was.2) ∙ raised.confirmers job number one was.0 found at was.1;
  known = raised.known;
}

attended-hushed : (confirmations : List Confirmation) (state : LinkState) (ports : List Port)
    → AreAttended confirmations state ports → AreAttended confirmations state (hushed ports)
attended-hushed confirmations state ports attended = record {
  few = attended.few;
  askers = λ job one found. some-hushed one.asker ports (attended.askers job one found);
  confirmers = λ job number one found at. some-hushed number ports (attended.confirmers job number one found at);
  apart = attended.apart;
  helper = attended.helper;
}

-- ---- what is owed there

-- what a child process is owed
owed-hushed : (port : Port) (going : UnderWay)
    → is_some_bytes (owed_by_port (hush port) going) ≡ (not (is_client port.door) && is_some_bytes (owed_by_port port going))
owed-hushed port going = by_door port.door
  where
    by_link : (found : Option Confirmation) → owed_as (role_by_link found) (hush port) going ≡ owed_as (role_by_link found) port going
    by_link None = refl
    by_link (Some one) = refl

    by_linked : (linked : Bool) → owed_as (role_by_helper linked port.number going.confirmations) (hush port) going
        ≡ owed_as (role_by_helper linked port.number going.confirmations) port going
    by_linked true = refl
    by_linked false = by_link (find_linked port.number going.confirmations)

    by_door : (door : Door) → is_some_bytes (owed_as (role_of door port.number going) (hush port) going)
        ≡ (not (is_client door) && is_some_bytes (owed_as (role_of door port.number going) port going))
    by_door Clients = refl
    by_door Children = ap is_some_bytes (by_linked (is_linked_to port.number going.link.state))

next-hushed : (after : ℕ) (ports : List Port) (going : UnderWay) → next_child_owed_in after ports going ≡ next_owed_in after (hushed ports) going
next-hushed after [] going = refl
next-hushed after (port ∷ ports) going =
    ap (λ (o : Bool). if nat_lt after port.number && o then Some port.number else next_child_owed_in after ports going) (sym (owed-hushed port going))
    ∙ ap (λ n. if nat_lt after port.number && is_some_bytes (owed_by_port (hush port) going) then Some port.number else n) (next-hushed after ports going)

-- no client is owed bytes
none_owed : (door : Door) → (is_client door && is_some_bytes []) ≡ false
none_owed Clients = refl
none_owed Children = refl

hush_owes : (port : Port) → is_owing (hush port) ≡ false
unfolding is_owing
hush_owes port = none_owed port.door

none_owing : (ports : List Port) → owing_of (hushed ports) ≡ []
none_owing [] = refl
none_owing (port ∷ ports) =
    ap (λ (b : Bool). if b then port.number ∷ owing_of (hushed ports) else owing_of (hushed ports)) (hush_owes port) ∙ none_owing ports

-- the helper is owed what it was
helper-hushed : (going : UnderWay) (ports : List Port) → owed_helper (alone going) (hushed ports) ≡ owed_helper going ports
helper-hushed going ports = by_state going.link.state
  where
    by_found : (number : ℕ) (found : Option Port)
        → helper_owed (door_by (option_map hush found)) number going.link.owed ≡ helper_owed (door_by found) number going.link.owed
    by_found number None = refl
    by_found number (Some port) = refl

    by_state : (state : LinkState) → owed_helper_by state going.link.owed (hushed ports) ≡ owed_helper_by state going.link.owed ports
    by_state states.None = refl
    by_state (states.Starting job) = refl
    by_state (states.Linked number) =
        ap (λ found. helper_owed (door_by found) number going.link.owed) (find_port-hushed number ports) ∙ by_found number (find_port number ports)

-- ---- the next

-- the next child process is the helper, or one of those who ask
pub next-child : (ports : List Port) (going : UnderWay) (last_port : ℕ) → AreRaised going.confirmations going.last_job ports last_port
    → AreAttended going.confirmations going.link.state ports → (after : ℕ) → IsRising 0 last_port ports
    → next_child_owed_in after ports going ≡ lesser (next_of after None (owed_helper going ports)) (next_owed after going.confirmations)
next-child ports going last_port raised attended after rising =
    let rising_too = rising-hushed 0 last_port ports rising in
    next-hushed after ports going
    ∙ next-confirmed (hushed ports) going last_port (raised-hushed going.confirmations going.last_job ports last_port raised)
    (attended-hushed going.confirmations going.link.state ports attended) after last_port rising_too
    ∙ ap (λ n. lesser n (next_owed after going.confirmations)) (next-is after 0 last_port (hushed ports) (alone going) refl rising_too
    ∙ ap (λ ns. next_of after (first_above after ns) (owed_helper (alone going) (hushed ports))) (none_owing ports)
    ∙ ap (next_of after None) (helper-hushed going ports))

-- the client and the helper that come first are the lesser of both
next_of-lesser : (after : ℕ) (client helper : Option ℕ) → next_of after client helper ≡ lesser client (next_of after None helper)
next_of-lesser after None None = refl
next_of-lesser after None (Some helper) = refl
next_of-lesser after (Some client) None = refl
next_of-lesser after (Some client) (Some helper) = by_test (nat_lt after helper)
  where
    by_test : (above : Bool) → (if above then Some (min client helper) else Some client) ≡ lesser (Some client) (if above then Some helper else None)
    by_test true = refl
    by_test false = refl

lesser-assoc : (a b c : Option ℕ) → lesser (lesser a b) c ≡ lesser a (lesser b c)
lesser-assoc None b c = refl
lesser-assoc (Some a) None c = refl
lesser-assoc (Some a) (Some b) None = refl
lesser-assoc (Some a) (Some b) (Some c) =
    let same : min (min a b) c ≡ min a (min b c) = omega arith in
    ap Some same

-- the next port is a client, or the next child process
pub next-client-child : (ports : List Port) (going : UnderWay) (last_port : ℕ) → AreRaised going.confirmations going.last_job ports last_port
    → AreAttended going.confirmations going.link.state ports → (after : ℕ) → IsRising 0 last_port ports
    → next_owed_in after ports going ≡ lesser (first_above after (owing_of ports)) (next_child_owed_in after ports going)
next-client-child ports going last_port raised attended after rising =
    let client = first_above after (owing_of ports) in
    let helper = owed_helper going ports in
    let asked = next_owed after going.confirmations in
    next-confirmed ports going last_port raised attended after last_port rising
    ∙ ap (λ n. lesser n asked) (next-is after 0 last_port ports (alone going) refl rising ∙ next_of-lesser after client helper)
    ∙ lesser-assoc client (next_of after None helper) asked
    ∙ ap (lesser client) (sym (next-child ports going last_port raised attended after rising))
