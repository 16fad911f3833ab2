-- One step of the abstract agent: a function of state, moment and event to a state, a list of
-- actions and the messages that were put to the helper (ours). The file is read from its end.
use Rattle.std.specs.Prelude.{ℕ, suc, List, [], ◌∷◌, ◌++◌, drop, Option, Some, None, Bool, true, false, nat_lt, ◌||◌, if◌then◌else◌}
use Rattle.world_ports.specs.declared.Moment.{Moment}
use Rattle.world_ports.specs.declared.Door.{Door}
use Rattle.world_ports.specs.declared.Door.TheVariants.{Clients, Children}
use Rattle.wire_text.specs.Frames.{Front, front, front_body, after_front, Whole, Bad, More}
use Rattle.helper_link.specs.HelperLink.{sent}
use Rattle.agent_model.specs.Events.{Happening, Joined, Heard, Ended, Took, Started, StartFailed, Tick}
use Rattle.wire_text.specs.Bounds.{longest_body}
use Rattle.agent_model.specs.Limits.{most_clients, most_unnamed}
use Rattle.agent_model.specs.NumberLists.{put_all}
use Rattle.agent_model.specs.Actions.{Outcome, Requested, and_then, stay}
use Rattle.agent_model.specs.Answers.{helper_heard, lose}
use Rattle.agent_msg.specs.Requests.{names_bind}
use Rattle.agent_model.specs.Binds.{agent_request_of}
use Rattle.agent_model.specs.Children.{changed, heard_more, job_started, shut, shut_then, unnamed_heard, start_failed}
use Rattle.confirm_desk.specs.Confirmations.{find_asker, took}
use Rattle.agent_model.specs.Consents.{confirmer_heard, over, over_if}
use Rattle.agent_model.specs.Dispatch.{Asker, Served, serve}
use Rattle.agent_model.specs.State.{Client, Confirmer, Helper, Nothing, Port, Role, State, UnderWay, Unnamed, Waits, change_port, client_count, find_port, new_port, role_of, unnamed_count, find_to_start}
use Rattle.agent_model.specs.Time.{time_passes}
use Rattle.agent_model.specs.Verdicts.{tell}

-- ---- a client is looked at

-- whether a body makes the connection count as one that tried to bind itself, also where it then
-- fails: a locked agent doesn't look
abbrev pub attempts : Option (List ℕ) → List ℕ → Bool
attempts None body = names_bind body
attempts (Some passphrase) body = false

-- the first frame, with a body of this length, leaves what was heard
abbrev pub take_frame : ℕ → Bool → Port → Port
take_frame body_len is_attempt port =
    record port {
      heard = after_front body_len port.heard;
      attempted = port.attempted
          || is_attempt;
    }

-- the client of this port, at this moment
abbrev pub asker_at : Moment → Port → Asker
asker_at moment port = record {
  port = port.number;
  chain = port.chain;
  attempted = port.attempted;
  mono = moment.mono;
  wall = moment.wall;
}

-- the client gets what came of its request
abbrev pub concluded : ℕ → List ℕ → Served → State → Outcome
concluded number body served state = record {
  state = record state {
    held = served.held;
    under_way = served.work.under_way;
    ports = change_port number (tell served.work.verdict) state.ports;
  };
  actions = Requested (record { port = number; body = body; verdict = served.work.verdict })
      ∷ served.work.actions;
  put = served.work.put;
  closes = [];
}

-- a request's body is taken from the client's bytes, and served
abbrev pub taken : ℕ → List ℕ → Port → State → Outcome
taken body_len body port state = concluded port.number body
    (serve (agent_request_of body) (asker_at state.moment port) state.held state.under_way)
    (changed port.number (take_frame body_len (attempts state.held.lock body)) state)

-- a request that stands whole at the front of a client's bytes is taken, and a bad length closes the port
abbrev pub look_front : Front → Port → State → Outcome
look_front (Whole body_len) port state = taken body_len (front_body body_len port.heard) port state
look_front (Bad announced) port state = shut port.number state
look_front More port state = stay state

-- a client's bytes are looked at, unless it waits or is owed bytes
abbrev pub look_waits : Waits → (owed : List ℕ) → Port → State → Outcome
look_waits Nothing [] port state = look_front (front longest_body port.heard) port state
look_waits waits owed port state = stay state

-- a client's bytes are looked at, where its port is open
abbrev pub look_port : Option Port → State → Outcome
look_port None state = stay state
look_port (Some port) state = look_waits port.waits port.owed port state

-- a client that waits for nothing and is owed nothing has its first request taken where that is
-- whole, and is closed where its length is bad
abbrev pub looked : ℕ → State → Outcome
looked number state = look_port (find_port number state.ports) state

-- ---- bytes that came

-- a piece came at an open port, by who is there
abbrev pub heard_by_role : Role → Port → List ℕ → State → Outcome
heard_by_role Client port piece state =
    looked port.number (changed port.number (heard_more piece) state)
heard_by_role Unnamed port piece state = unnamed_heard port.heard piece port.number state
heard_by_role Helper port piece state = helper_heard piece state
heard_by_role (Confirmer confirmation) port piece state = confirmer_heard confirmation piece state

-- a piece came at a port; one that isn't open brings nothing
abbrev pub heard_at : Option Port → List ℕ → State → Outcome
heard_at None piece state = stay state
heard_at (Some port) piece state =
    heard_by_role (role_of port.door port.number state.under_way) port piece state

-- ---- bytes that went

-- the first bytes that a client was owed are sent
abbrev pub took_some : ℕ → Port → Port
took_some count port = record port { owed = drop count port.owed }

-- the first bytes that the helper was owed are sent
abbrev pub helper_took : ℕ → State → State
helper_took count state = record state {
  under_way = record state.under_way { link = sent count state.under_way.link };
}

-- the first bytes that a confirmer was owed are sent
abbrev pub confirmer_took : ℕ → ℕ → State → State
confirmer_took job count state = record state {
  under_way =
      record state.under_way { confirmations = took job count state.under_way.confirmations };
}

-- bytes were taken at an open port, by who is there: a child process that hasn't named itself is owed none
abbrev pub took_by_role : Role → ℕ → ℕ → State → Outcome
took_by_role Client number count state = looked number (changed number (took_some count) state)
took_by_role Unnamed number count state = stay state
took_by_role Helper number count state = stay (helper_took count state)
took_by_role (Confirmer confirmation) number count state =
    stay (confirmer_took confirmation.job count state)

-- bytes were taken at a port; one that isn't open brings nothing
abbrev pub took_at : Option Port → ℕ → State → Outcome
took_at None count state = stay state
took_at (Some port) count state =
    took_by_role (role_of port.door port.number state.under_way) port.number count state

-- ---- ports that join and end

-- whether one more may be open
abbrev pub has_room : Door → List Port → UnderWay → Bool
has_room Clients ports under_way = nat_lt (client_count ports) most_clients
has_room Children ports under_way = nat_lt (unnamed_count under_way ports) most_unnamed

-- the ports with one more, where there is room for it
abbrev pub admitted : Bool → ℕ → Door → List Port → List Port
admitted true number door ports = ports ++ new_port number door ∷ []
admitted false number door ports = ports

-- a port joined: it has the next number
abbrev pub joined : Door → State → State
joined door state = record state {
  ports =
      admitted (has_room door state.ports state.under_way) (suc state.last_port) door state.ports;
  last_port = suc state.last_port;
}

-- a port joins, and where too many are open it is closed at once
abbrev pub join : Door → State → Outcome
join door state = record (stay (joined door state)) {
  closes = if has_room door state.ports state.under_way then [] else suc state.last_port ∷ [];
}

-- an open port ended, by who was there: a client's confirmation ends with it
abbrev pub ended_by_role : Role → ℕ → State → Outcome
ended_by_role Client number state =
    shut_then number (over_if (find_asker number state.under_way.confirmations)) state
ended_by_role Unnamed number state = shut number state
ended_by_role Helper number state = shut_then number lose state
ended_by_role (Confirmer confirmation) number state = shut_then number (over confirmation) state

-- a port ended; one that isn't open brings nothing
abbrev pub ended_at : Option Port → State → Outcome
ended_at None state = stay state
ended_at (Some port) state =
    ended_by_role (role_of port.door port.number state.under_way) port.number state

-- ---- a step

-- what an event brings, behind what its moment brings; it brings nothing where the port that it
-- names isn't open, be it that the moment closed it
abbrev pub handle : Happening → State → Outcome
handle (Joined door) state = join door state
handle (Heard port piece) state = heard_at (find_port port state.ports) piece state
handle (Took port count) state = took_at (find_port port state.ports) count state
handle (Ended port) state = ended_at (find_port port state.ports) state
handle (Started job ticket) state = stay (job_started job ticket state)
handle (StartFailed job) state = start_failed (find_to_start job state.under_way.to_start) state
handle Tick state = stay state

-- an outcome with the ports that it closed in rising order
abbrev pub in_order : Outcome → Outcome
in_order outcome = record outcome { closes = put_all [] outcome.closes }

-- one event at a moment
abbrev pub step : State → Moment → Happening → Outcome
step state moment event = in_order (and_then (time_passes moment state) (handle event))
