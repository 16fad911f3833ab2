-- What is told of the bytes of a client, and runs of it beside the run that it tells of (ours).
use Rattle.std.specs.Prelude.{◌≡◌, ℕ, ◌≤◌, List, [], ◌∷◌, ◌++◌, length, map, Some}
use Rattle.world_ports.specs.declared.Door.TheVariants.{Children}
use Rattle.wire_text.specs.Bounds.{longest_body}
use Rattle.wire_text.specs.Frames.{Split, frames, front, split}
use Rattle.record_world.specs.Frames.{rest_bytes}
use Rattle.agent_model.specs.Actions.{Outcome}
use Rattle.agent_model.specs.Events.{Happening, Joined, Heard, Ended, Took, Started, StartFailed, Tick}
use Rattle.agent_model.specs.State.{Port, State, find_port}
use Rattle.replay_laws.specs.Redacting.{blanked_seen, blanked_state, redacted_seen, redacted_state, renamed}

-- ---- bytes

-- the frames of the bodies without their secrets, and of a bad rest its first four bytes
abbrev pub told_split : (List ℕ → List ℕ) → Split → List ℕ
told_split rename cut = frames (map (renamed rename) cut.bodies) ++ rest_bytes (front longest_body cut.rest) cut.rest

-- what is told of the bytes of a stream: each whole frame renamed, and zeros for a frame that has begun
abbrev pub told_bytes : (List ℕ → List ℕ) → List ℕ → List ℕ
told_bytes rename bytes = told_split rename (split longest_body bytes)

-- without its secrets each of these bodies is as short as a reader takes one
abbrev pub AreShort : (List ℕ → List ℕ) → List (List ℕ) → Type 0
AreShort rename [] = Unit {0}
AreShort rename (body ∷ bodies) = (length (renamed rename body) ≤ longest_body) × AreShort rename bodies

-- what is told of these bytes, frame by frame, is at most as long as they are
abbrev pub IsShort : (List ℕ → List ℕ) → List ℕ → Type 0
IsShort rename bytes = AreShort rename (split longest_body bytes).bodies

-- ---- states and outcomes

-- the second state is that of the run of what is told of the first one's: the same but for private
-- fields, the names of passphrases, and of clients' bytes what isn't told; of what the helper is owed
-- the length is the same
abbrev pub AreToldAlike : (List ℕ → List ℕ) → State → State → Type 0
AreToldAlike rename one other = redacted_state rename (told_bytes rename) one ≡ blanked_state other

-- the states that both events lead to are those of the run and of the run of what is told of it; both
-- close the same ports, and put the same to the helper but for private fields
abbrev pub BringsAlike : (List ℕ → List ℕ) → Outcome → Outcome → Type 0
BringsAlike rename one other = redacted_seen rename (told_bytes rename) one ≡ blanked_seen other

-- ---- events

-- the port of this number is a child process's, if it is open
abbrev pub IsOfChild : ℕ → State → Type 0
IsOfChild number state = (port : Port) → find_port number state.ports ≡ Some port → port.door ≡ Children

-- no client sends or takes anything, and no port joins
abbrev pub IsOfNoClient : Happening → State → Type 0
IsOfNoClient (Joined door) state = ⊥
IsOfNoClient (Heard port piece) state = IsOfChild port state
IsOfNoClient (Ended port) state = Unit {0}
IsOfNoClient (Took port count) state = IsOfChild port state
IsOfNoClient (Started job ticket) state = Unit {0}
IsOfNoClient (StartFailed job) state = Unit {0}
IsOfNoClient Tick state = Unit {0}
