-- What a port is owed is no less as time passes, while it is open.
use Rattle.std.proofs.Common.{◌≡◌, ◌≢◌, ℕ, ◌≤◌, List, [], ◌∷◌, length, refl, sym, ap, subst, ◌∙◌, arith, Bool, true, false, Option, Some, None}
use Rattle.std.proofs.lemmas.List.{length-append}
use Rattle.world_ports.specs.declared.Door.{Door}
use Rattle.world_ports.specs.declared.Door.TheVariants.{Clients, Children}
use Rattle.world_ports.specs.declared.Moment.{Moment}
use Rattle.helper_link.specs.HelperLink.{HelperLink, askers, sendable}
use Rattle.helper_link.specs.declared.state.LinkState.TheVariants as states
use Rattle.confirm_desk.specs.Confirmations.{Confirmation, find_linked}
use Rattle.agent_model.specs.Answers.{close_helper, lose, tell_each}
use Rattle.agent_model.specs.Consents.{close_confirmer, over}
use Rattle.agent_model.specs.Events.{Tick}
use Rattle.agent_model.specs.Sound.{IsRising, IsSteady}
use Rattle.agent_model.specs.State.{Port, State, UnderWay, change_port, find_port, is_linked_to, owed_as, owed_by_port, remove_port, role_by_helper, role_by_link, role_of}
use Rattle.agent_model.specs.Time.{at_moment, taken_in}
use Rattle.agent_model.specs.Verdicts.{HelperLost, NotConfirmed, Refuses, Verdict, tell, verdict_text}
use Rattle.agent_model.proofs.JobLemmas.{IsIn, jobs-remove}
use Rattle.agent_model.proofs.LeadLemmas.{follows-makes, same}
use Rattle.agent_model.proofs.MakeLemmas.{loses, overs}
use Rattle.agent_model.proofs.PortsLemmas.{find_port-left, find_port-remove_port, found_number}
use Rattle.agent_model.proofs.RunLemmas.{rising_behind}
use Rattle.agent_model.proofs.TimeBudgetLemmas.{elsewhere, helper-closed, helper_at, linked-removed, not_helper}
use Rattle.agent_model.proofs.TimeLemmas.{time_passes-brings}
use Rattle.agent_secrecy.proofs.TrackLemmas.{WasAt, another, that, was_at}

-- ---- who is at a port of a child process

-- what is owed to it doesn't stand at its port
role_owed : (found : Option Confirmation) (one other : Port) (old new : UnderWay)
    → owed_as (role_by_link found) one new ≡ owed_as (role_by_link found) other old
role_owed None one other old new = refl
role_owed (Some confirmation) one other old new = refl

helper_owed : (linked : Bool) (number : ℕ) (one other : Port) (old new : UnderWay)
    → (linked ≡ true → new.link ≡ old.link)
    → find_linked number new.confirmations ≡ find_linked number old.confirmations
    → owed_as (role_by_helper linked number new.confirmations) one new
    ≡ owed_as (role_by_helper linked number old.confirmations) other old
helper_owed true number one other old new links linked =
    ap (λ (l : HelperLink). sendable l.state l.owed) (links refl)
helper_owed false number one other old new links linked =
    ap (λ found. owed_as (role_by_link found) one new) linked
    ∙ role_owed (find_linked number old.confirmations) one other old new

-- what stays for a port: whether the helper is there, and who asks the user there
record Stays (number : ℕ) (old new : UnderWay) : Type 0 where
  helper : is_linked_to number new.link.state ≡ is_linked_to number old.link.state
  link : is_linked_to number old.link.state ≡ true → new.link ≡ old.link
  confirmer : find_linked number new.confirmations ≡ find_linked number old.confirmations

-- a port that was told something, or nothing
record IsTold (was port : Port) : Type 0 where
  number : port.number ≡ was.number
  door : port.door ≡ was.door
  owed : length was.owed ≤ length port.owed

door_owed : (door : Door) (number : ℕ) (was port : Port) (old new : UnderWay)
    → length was.owed ≤ length port.owed
    → Stays number old new
    → length (owed_as (role_of door number old) was old) ≤ length (owed_as (role_of door number new) port new)
door_owed Clients number was port old new owed stays = owed
door_owed Children number was port old new owed stays =
    let linked = is_linked_to number old.link.state in
    let is : owed_as (role_of Children number new) port new ≡ owed_as (role_of Children number old) was old =
    ap (λ b. owed_as (role_by_helper b number new.confirmations) port new) stays.helper
    ∙ helper_owed linked number port was old new stays.link stays.confirmer in
    omega (arith, ap length is)

owed_more : (was port : Port) (old new : UnderWay) → IsTold was port → Stays was.number old new
    → length (owed_by_port was old) ≤ length (owed_by_port port new)
owed_more was port old new told stays =
    subst (λ (door : Door). length (owed_by_port was old) ≤ length (owed_as (role_of door port.number new) port new))
    (sym told.door)
    (subst (λ (number : ℕ). length (owed_by_port was old) ≤ length (owed_as (role_of was.door number new) port new)) (sym told.number)
    (door_owed was.door was.number was port old new told.owed stays))

-- ---- clients that are told

-- where a port was before
record Was (number : ℕ) (ports : List Port) (port : Port) : Type 0 where
  was : Port
  found : find_port number ports ≡ Some was
  told : IsTold was port

tell_more : (verdict : Verdict) (port : Port) → IsTold port (tell verdict port)
tell_more verdict port = record { number = refl; door = refl; owed = omega (arith, length-append port.owed (verdict_text verdict)) }

told_one : (verdict : Verdict) (client number : ℕ) (ports : List Port) (port : Port)
    → find_port number (change_port client (tell verdict) ports) ≡ Some port → Was number ports port
told_one verdict client number ports port found =
    by_was (was_at client number (tell verdict) ports port (λ x. refl) found)
  where
    by_was : WasAt client number (tell verdict) ports port → Was number ports port
    by_was (that was is there new) = record { was = was; found = ap (λ n. find_port n ports) is ∙ there; told = subst (IsTold was) new (tell_more verdict was) }
    by_was (another apart there) = record { was = port; found = there; told = record { number = refl; door = refl; owed = omega arith } }

told_all : (verdict : Verdict) (clients : List ℕ) (number : ℕ) (ports : List Port) (port : Port)
    → find_port number (tell_each verdict clients ports) ≡ Some port → Was number ports port
told_all verdict [] number ports port found = record { was = port; found = found; told = record { number = refl; door = refl; owed = omega arith } }
told_all verdict (client ∷ others) number ports port found =
    let later = told_all verdict others number (change_port client (tell verdict) ports) port found in
    let first = told_one verdict client number ports later.was later.found in
    record {
      was = first.was;
      found = first.found;
      told = record { number = later.told.number ∙ first.told.number; door = later.told.door ∙ first.told.door; owed = omega (arith, first.told.owed, later.told.owed) };
    }

-- ---- ports that are closed

left_apart : (at : Option ℕ) (number last : ℕ) (ports : List Port) (port : Port)
    → IsRising 0 last ports
    → find_port number (close_confirmer at ports) ≡ Some port
    → (find_port number ports ≡ Some port) × (at ≢ Some number)
left_apart None number last ports port rising found = (found, λ is. absurd (cc))
left_apart (Some other) number last ports port rising found = (
  find_port-left number other 0 last ports port rising found,
  λ is.
      let apart : other ≡ number = cc in
      let none : find_port number (remove_port other ports) ≡ None =
      ap (λ n. find_port n (remove_port other ports)) (sym apart) ∙ find_port-remove_port other 0 last ports rising in
      let both : Some port ≡ None = sym found ∙ none in cc,
)

-- ---- as time passes

-- a port that is open yet was open, and is owed as much or more
pub record Grows (number : ℕ) (old new : State) : Type 0 where
  pub steady : IsSteady old → IsSteady new
  pub owed : IsSteady old → (port : Port) → find_port number new.ports ≡ Some port
      → (was : Port) × (find_port number old.ports ≡ Some was)
      × (length (owed_by_port was old.under_way) ≤ length (owed_by_port port new.under_way))

nothing_grows : (number : ℕ) (state : State) → Grows number state state
nothing_grows number state =
    record { steady = λ steady. steady; owed = λ steady port found. (port, found, omega arith) }

grows_then : (number : ℕ) (old mid new : State) → Grows number old mid → Grows number mid new
    → Grows number old new
grows_then number old mid new one two = record {
  steady = λ steady. two.steady (one.steady steady);
  owed = λ steady port found.
      let later = two.owed (one.steady steady) port found in
      let first = one.owed steady later.0 later.1 in
      (first.0, first.1, omega (arith, first.2, later.2));
}

lose_grows : (number : ℕ) (state : State) → Grows number state (lose state).state
lose_grows number state = record {
  steady = λ steady. record {
    rising =
        rising_behind state (lose state).state (follows-makes Tick state (loses state) record { last = refl; ports = same }) steady.rising;
    order = steady.order;
  };
  owed = λ steady port found.
      let was =
      told_all (Refuses HelperLost) (askers old.link.asks) number
      (close_helper old.link.state state.ports) port found in
      let left =
      left_apart (helper_at old.link.state) number state.last_port state.ports was.was steady.rising
      (ap (find_port number) (sym (helper-closed old.link.state state.ports)) ∙ was.found) in
      let own : was.was.number ≡ number = found_number number state.ports was.was left.0 in
      let no_helper : is_linked_to was.was.number old.link.state ≡ false =
      not_helper old.link.state was.was.number (λ is. left.1 (is ∙ ap Some own)) in (
        was.was,
        left.0,
        owed_more was.was port old new was.told record {
          helper = sym no_helper;
          link = λ linked. let no : true ≡ false = sym linked ∙ no_helper in absurd (cc);
          confirmer = refl;
        },
      );
}
  where
    old : UnderWay
    old = state.under_way

    new : UnderWay
    new = (lose state).state.under_way

over_grows : (number : ℕ) (one : Confirmation) (state : State)
    → IsIn one state.under_way.confirmations
    → Grows number state (over one state).state
over_grows number one state there = record {
  steady = λ steady. record {
    rising =
        rising_behind state (over one state).state (follows-makes Tick state (overs one state there) record { last = refl; ports = same }) steady.rising;
    order =
        jobs-remove one.job 0 state.under_way.confirmations state.under_way.last_job steady.order;
  };
  owed = λ steady port found.
      let was = told_one (Refuses NotConfirmed) one.asker number (close_confirmer one.port state.ports) port found in
      let left = left_apart one.port number state.last_port state.ports was.was steady.rising was.found in
      let own : was.was.number ≡ number = found_number number state.ports was.was left.0 in (
        was.was,
        left.0,
        owed_more was.was port old new was.told record {
          helper = refl;
          link = λ linked. refl;
          confirmer =
              linked-removed was.was.number one 0 old.last_job old.confirmations steady.order there (elsewhere one.port was.was.number (λ is. left.1 (is ∙ ap Some own)));
        },
      );
}
  where
    old : UnderWay
    old = state.under_way

    new : UnderWay
    new = (over one state).state.under_way

taken_in_grows : (number : ℕ) (moment : Moment) (state : State)
    → Grows number state (taken_in moment state)
taken_in_grows number moment state = record {
  steady = λ steady. record { rising = steady.rising; order = steady.order };
  owed = λ steady port found.
      (port, found, owed_more port port state.under_way (taken_in moment state).under_way record { number = refl; door = refl; owed = omega arith } record { helper = refl; link = λ linked. refl; confirmer = refl });
}

pub moment_grows : (number : ℕ) (moment : Moment) (state : State)
    → Grows number state (at_moment moment state)
moment_grows number moment state =
    grows_then number state (taken_in moment state) (at_moment moment state) (taken_in_grows number moment state)
    (time_passes-brings (λ s outcome. Grows number s outcome.state) moment state (nothing_grows number) (lose_grows number) (over_grows number)
    (λ s first later. grows_then number s first.state later.state))
