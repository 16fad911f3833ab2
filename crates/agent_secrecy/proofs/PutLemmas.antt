-- Over all events each private string that is put to the helper was read as an addition: what ports sent are bytes.
use Rattle.std.proofs.Common.{◌≡◌, ℕ, ◌+◌, ◌<◌, List, [], ◌∷◌, ◌++◌, drop, sym, subst, Bool, true, false, Option, Some, None}
use Rattle.std.specs.List.{All}
use Rattle.std.proofs.lemmas.List.Elements.{All-append, All-drop, All-nil, All-push, All-take}
use Rattle.world_ports.specs.declared.Door.{Door}
use Rattle.world_ports.specs.declared.Moment.{Moment}
use Rattle.wire_text.specs.Frames.{front_body}
use Rattle.wire_text.specs.Wire.{IsBytes}
use Rattle.helper_link.specs.Telling.{telling}
use Rattle.helper_link.specs.declared.fault.LinkFault.{LinkFault}
use Rattle.lists.specs.Keyed.{has_key}
use Rattle.agent_model.specs.Actions.{Outcome}
use Rattle.agent_model.specs.Answers.{answers_in, lose_if, with_answers}
use Rattle.agent_model.specs.Binds.{agent_request_of}
use Rattle.agent_model.specs.Children.{unheard}
use Rattle.agent_model.specs.Consents.{grant_work}
use Rattle.agent_model.specs.Events.{Happening, Timed}
use Rattle.agent_model.specs.Runs.{outcomes}
use Rattle.agent_model.specs.State.{Port, Settings, State, change_port, find_port, first_state, new_port, number_of as port_number, remove_port}
use Rattle.agent_model.specs.Step.{admitted, asker_at, attempts, handle, has_room, step, take_frame}
use Rattle.agent_model.specs.Time.{at_moment}
use Rattle.agent_model.specs.Verdicts.{Verdict, tell}
use Rattle.agent_model.proofs.GrantLemmas.{grant-ends}
use Rattle.agent_model.proofs.MakeLemmas.{Change, Makes, Quiet, alters, by_event, closes, first, goes_on, grants, hears, links, loses, names, overs, serves, stays, takes, tells}
use Rattle.agent_model.proofs.TimeLemmas.{at_moment-keeps, time_passes-put}
use Rattle.agent_model.proofs.NewsLemmas.{IsNews, Told, gone, news, proves, says, told-grant, told-heard, told-lose, told-moment, told-over, untold}
use Rattle.agent_secrecy.specs.Pieces.{AreOfBytes, IsOfBytes}
use Rattle.agent_secrecy.proofs.EachLemmas.{each_changed, each_found, each_left}
use Rattle.agent_secrecy.proofs.AdditionLemmas.{AreHeld, ArePut, IsAddition, adds_read, alive, granted, none, serves as adds_served, used}

-- ---- ports

-- what the port sent are bytes
abbrev pub SentBytes : Port → Type 0
SentBytes port = IsBytes port.heard

abbrev HaveSent : List Port → Type 0
HaveSent ports = All SentBytes ports

no_bytes : IsBytes []
no_bytes = All-nil (λ byte. byte < 256)

changed-sent : (number : ℕ) (f : Port → Port) (ports : List Port)
    → ((port : Port) → SentBytes port → SentBytes (f port)) → HaveSent ports
    → HaveSent (change_port number f ports)
changed-sent number f ports keeps sent =
    each_changed SentBytes (has_key port_number number) f ports keeps sent

removed-sent : (number : ℕ) (ports : List Port) → HaveSent ports
    → HaveSent (remove_port number ports)
removed-sent number ports sent = each_left SentBytes (has_key port_number number) ports sent

found-sent : (number : ℕ) (ports : List Port) (port : Port) → find_port number ports ≡ Some port
    → HaveSent ports → SentBytes port
found-sent number ports port found sent =
    each_found SentBytes (has_key port_number number) ports port found sent

told-sent : (verdict : Verdict) (number : ℕ) (ports : List Port) → HaveSent ports
    → HaveSent (change_port number (tell verdict) ports)
told-sent verdict number ports sent = changed-sent number (tell verdict) ports (λ port is. is) sent

-- what clients are told, and who is closed, leaves what the others sent
news-sent : {old new : List Port} → Told old new → HaveSent old → HaveSent new
news-sent untold sent = sent
news-sent (news number f ports is told) sent = changed-sent number f ports (each is) (news-sent told sent)
  where
    each : {g : Port → Port} → IsNews g → (port : Port) → SentBytes port → SentBytes (g port)
    each (says verdict answer) port sent = sent
    each (proves verification) port sent = sent
news-sent (gone number ports told) sent = removed-sent number ports (news-sent told sent)

-- ---- events

-- each key that is held was read as an addition, and each port sent bytes
record Keeps (state : State) : Type 0 where
  keys : AreHeld state.held.table.identities
  sent : HaveSent state.ports

record KeepsAfter (outcome : Outcome) : Type 0 where
  state : Keeps outcome.state
  put : ArePut outcome.put

lost-put : (fault : Option LinkFault) (state : State) → ArePut (lose_if fault state).put
lost-put None state = none
lost-put (Some fault) state = none

lost-held : (fault : Option LinkFault) (state : State) → AreHeld state.held.table.identities
    → AreHeld (lose_if fault state).state.held.table.identities
lost-held None state keys = keys
lost-held (Some fault) state keys = keys

taken-sent : (body_len : ℕ) (is_attempt : Bool) (port : Port) → SentBytes port
    → SentBytes (take_frame body_len is_attempt port)
taken-sent body_len is_attempt port sent =
    All-drop (λ byte. byte < 256) (4 + body_len) port.heard sent

admitted-sent : (room : Bool) (number : ℕ) (door : Door) (ports : List Port) → HaveSent ports
    → HaveSent (admitted room number door ports)
admitted-sent true number door ports sent =
    All-push SentBytes ports (new_port number door) sent no_bytes
admitted-sent false number door ports sent = sent

-- what an event changes quietly
change-sent : {event : Happening} {number : ℕ} {f : Port → Port} → IsOfBytes event
    → Change event number f → (port : Port) → SentBytes port → SentBytes (f port)
change-sent bytes (hears piece is) port sent =
    All-append (λ byte. byte < 256) port.heard piece sent (subst IsOfBytes is bytes)
change-sent bytes (takes count is) port sent = sent

quiet-keeps : {event : Happening} {old new : State} → IsOfBytes event → Quiet event old new
    → Keeps old → Keeps new
quiet-keeps {old = old} bytes (alters number f change) keeps = record { keys = keeps.keys; sent = changed-sent number f old.ports (change-sent bytes change) keeps.sent }
quiet-keeps {old = old} bytes (closes number may) keeps =
    record { keys = keeps.keys; sent = removed-sent number old.ports keeps.sent }
quiet-keeps bytes (goes_on new goes) keeps = record { keys = keeps.keys; sent = keeps.sent }
quiet-keeps {old = old} bytes (names job number new) keeps = record { keys = keeps.keys; sent = changed-sent number unheard old.ports (λ port is. no_bytes) keeps.sent }
quiet-keeps {old = old} bytes (links job number new) keeps = record { keys = keeps.keys; sent = changed-sent number unheard old.ports (λ port is. no_bytes) keeps.sent }

-- what it makes
makes-keeps : {event : Happening} {old : State} {outcome : Outcome} → IsOfBytes event
    → Makes event old outcome → Keeps old → KeepsAfter outcome
makes-keeps bytes (stays state) keeps = record { state = keeps; put = none }
makes-keeps bytes (first quiet rest) keeps =
    let later = makes-keeps bytes rest (quiet-keeps bytes quiet keeps) in
    record { state = later.state; put = later.put }
makes-keeps bytes (serves body_len port state found door nothing owed own) keeps =
    let body = front_body body_len port.heard in
    let sent = found-sent port.number state.ports port found keeps.sent in
    let small : IsBytes body = All-take (λ byte. byte < 256) body_len (drop 4 port.heard) (All-drop (λ byte. byte < 256) 4 port.heard sent) in
    let kept = adds_served (agent_request_of body) (asker_at state.moment port) state.held state.under_way (adds_read body small) keeps.keys in
    record {
      state = record {
        keys = kept.keys;
        sent = told-sent _ port.number _ (changed-sent port.number (take_frame body_len (attempts state.held.lock body)) state.ports (taken-sent body_len (attempts state.held.lock body)) keeps.sent);
      };
      put = kept.put;
    }
makes-keeps bytes (tells piece state) keeps =
    let told = telling piece state.under_way.link in
    let answered = with_answers told.link (answers_in told.settled state) state in
    record {
      state = record { keys = lost-held told.fault answered keeps.keys; sent = news-sent (told-heard state.ports piece state untold) keeps.sent };
      put = lost-put told.fault answered;
    }
makes-keeps bytes (loses state) keeps = record { state = record { keys = keeps.keys; sent = news-sent (told-lose state.ports state untold) keeps.sent }; put = none }
makes-keeps bytes (overs confirmation state there) keeps =
    record { state = record { keys = keeps.keys; sent = news-sent (told-over state.ports confirmation state untold) keeps.sent }; put = none }
makes-keeps bytes (grants confirmation port state there opened) keeps = record {
  state = record {
    keys = used (grant_work port.chain confirmation state).used state.held keeps.keys;
    sent = news-sent (told-grant state.ports state (grant-ends port.chain confirmation state) untold) keeps.sent;
  };
  put = granted (grant-ends port.chain confirmation state) keeps.keys;
}

happens : (event : Happening) (state : State) → IsOfBytes event → Keeps state
    → KeepsAfter (handle event state)
happens event state bytes keeps =
    by_event KeepsAfter event state
    (λ door. record {
      state = record { keys = keeps.keys; sent = admitted-sent (has_room door state.ports state.under_way) _ door state.ports keeps.sent };
      put = none;
    })
    (λ outcome makes. makes-keeps bytes makes keeps)

at_this_moment : (moment : Moment) (state : State) → Keeps state → Keeps (at_moment moment state)
at_this_moment moment state keeps = record {
  keys = at_moment-keeps (λ s. AreHeld s.held.table.identities) moment state (λ s keys. keys) (λ one s there keys. keys) (alive _ state.held.table.identities keeps.keys);
  sent = news-sent (told-moment moment state) keeps.sent;
}

steps : (state : State) (moment : Moment) (event : Happening) → IsOfBytes event → Keeps state
    → KeepsAfter (step state moment event)
steps state moment event bytes keeps =
    let one = happens event (at_moment moment state) bytes (at_this_moment moment state keeps) in
    record {
      state = record { keys = one.state.keys; sent = one.state.sent };
      put = subst (λ put. ArePut (put ++ (handle event (at_moment moment state)).put)) (sym (time_passes-put moment state)) one.put;
    }

-- ---- runs

-- after each event
abbrev pub EachPut : List Outcome → Type 0
EachPut [] = Unit {0}
EachPut (one ∷ later) = ArePut one.put × EachPut later

puts_from : (state : State) (events : List Timed) → AreOfBytes events → Keeps state
    → EachPut (outcomes state events)
puts_from state [] bytes keeps = tt
puts_from state (timed ∷ later) bytes keeps =
    let one = steps state timed.moment timed.event bytes.0 keeps in
    (one.put, puts_from (step state timed.moment timed.event).state later bytes.1 one.state)

pub puts : (settings : Settings) (events : List Timed) → AreOfBytes events
    → EachPut (outcomes (first_state settings) events)
puts settings events bytes = puts_from (first_state settings) events bytes (record { keys = All-nil IsAddition; sent = All-nil SentBytes })
