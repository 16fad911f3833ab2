-- What a question's child process takes, over any list of events (ours).
use Rattle.std.specs.Prelude.{◌≡◌, ◌==◌, ℕ, List, [], ◌∷◌, ◌++◌, take, Option, Some, None, if◌then◌else◌}
use Rattle.wire_text.specs.Wire.{string}
use Rattle.child_msg.specs.ChildFrames.{to_child_body}
use Rattle.child_msg.specs.Messages.{Confirm}
use Rattle.confirm_desk.specs.Prompt.{prompt_for}
use Rattle.dest_rule.specs.Hosts.{login_host}
use Rattle.dest_rule.specs.declared.binding.Binding.{Binding}
use Rattle.identity_table.specs.Identities.{HeldKey, find_identity}
use Rattle.agent_model.specs.Actions.{Raised, Raising}
use Rattle.agent_model.specs.Events.{Happening, Timed, Took}
use Rattle.agent_model.specs.Grants.{IsAmong}
use Rattle.agent_model.specs.Runs.{run}
use Rattle.agent_model.specs.State.{Confirmer, Port, Role, Settings, State, UnderWay, find_port, first_state, role_of}
use Rattle.agent_model.specs.Step.{step}
use Rattle.agent_model.specs.Time.{at_moment}
use Rattle.agent_laws.specs.Dues.{proved_of}
use Rattle.agent_laws.specs.Past.{PastAddition}
use Rattle.list_laws.specs.Lists.{after, past_of, standing}

-- ---- the question

-- the frame that asks for a raising with this key: its comment, fingerprint and purposes, the host of a login over these
-- bindings at this second of the wall clock, and what the message is for
abbrev pub question_for : Raising → HeldKey → List Binding → (wall : ℕ) → List ℕ
question_for raising key chain wall = string (to_child_body (Confirm raising.job
    (prompt_for key.comment key.blob key.purposes
    (login_host key.rules key.blob chain raising.signing.message wall) raising.signing.message)))

-- the bytes are the question for a raising in this state: the key of the blob that is to sign is held there, under the
-- addition that the raising names, and the asker's port is open
pub record IsQuestion (state : State) (raising : Raising) (question : List ℕ) : Type 0 where
  pub key : HeldKey
  pub found : find_identity raising.signing.blob state.held.table.identities ≡ Some key
  pub addition : raising.addition ≡ key.number
  pub port : Port
  pub asker : find_port raising.port state.ports ≡ Some port
  pub is : question ≡ question_for raising key port.chain state.moment.wall

-- ---- what is taken

-- the first bytes of what is owed to the child process of this job, where it is the one that takes them
abbrev pub taken_from : (job count : ℕ) → Role → List ℕ
taken_from job count (Confirmer one) = if one.job == job then take count one.owed else []
taken_from job count other = []

-- by the port at which they are taken
abbrev pub taken_at : (job count : ℕ) → Option Port → UnderWay → List ℕ
taken_at job count None under_way = []
taken_at job count (Some port) under_way = taken_from job count (role_of port.door port.number under_way)

-- the bytes that the child process of this job takes in an event, in the state that the event finds
abbrev pub taken_in : ℕ → Happening → State → List ℕ
taken_in job (Took number count) state = taken_at job count (find_port number state.ports) state.under_way
taken_in job other state = []

-- all that it takes in these events, one after another
abbrev pub taken_of : ℕ → State → List Timed → List ℕ
taken_of job state [] = []
taken_of job state (timed ∷ later) =
    taken_in job timed.event (at_moment timed.moment state)
    ++ taken_of job (step state timed.moment timed.event).state later

-- ---- the law

-- these bytes, and then perhaps more, are the whole
abbrev pub IsFront : List ℕ → List ℕ → Type 0
IsFront bytes whole = (rest : List ℕ) × (bytes ++ rest ≡ whole)

-- what a raising's child process takes behind the event that raised it is a front of its question
pub record IsAsked (state : State) (one : Timed) (later : List Timed) (raising : Raising) : Type 0 where
  pub question : List ℕ
  pub about : IsQuestion (at_moment one.moment state) raising question
  pub taken : IsFront (taken_of raising.job (step state one.moment one.event).state later) question

-- ---- by what was added

-- the same frame by an addition: its comment, fingerprint and purposes, and the host by its destination constraints
abbrev pub question_by : Raising → PastAddition → List Binding → (wall : ℕ) → List ℕ
question_by raising added chain wall = string (to_child_body (Confirm raising.job
    (prompt_for added.addition.comment added.addition.key.blob added.addition.terms.purposes
    (login_host added.addition.terms.rules added.addition.key.blob chain raising.signing.message wall)
    raising.signing.message)))

-- by what was done before the event and without a state: the last addition of the blob that is to sign stands at the
-- event's second, it is the one that the raising names, and what the child process takes is a front of the question about
-- it, over the bindings that were proved of the asker
pub record IsAskedByThePast (settings : Settings) (before : List Timed) (one : Timed) (later : List Timed)
    (raising : Raising) : Type 0 where
  pub added : PastAddition
  pub stands : standing settings.life (after settings before one).moment.mono (past_of settings before)
      raising.signing.blob ≡ Some added
  pub addition : raising.addition ≡ added.number
  pub taken : IsFront (taken_of raising.job (after settings before one) later)
      (question_by raising added (proved_of raising.port (past_of settings before)) one.moment.wall)

-- wherever in the run of these events a confirmation is raised, what its child process takes behind that is a front of the
-- question about the addition that the past names
abbrev pub AreAskedSo : Settings → List Timed → Type 0
AreAskedSo settings events = (before later : List Timed) (one : Timed) (raising : Raising) → events ≡ before ++ one ∷ later
    → IsAmong (Raised raising) (step (run (first_state settings) before) one.moment one.event).actions
    → IsAskedByThePast settings before one later raising
