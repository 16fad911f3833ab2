-- What a list of identities has, by the actions so far and without a state: searches in the past, the
-- newest action first (ours). That identities are listed in order of first addition is as in OpenSSH's
-- ssh-agent, and that a locked agent lists none too.
use Rattle.std.specs.Prelude.{◌≡◌, ◌==◌, ℕ, Bool, false, List, [], ◌∷◌, ◌++◌, map, filter, Option, is_some, not, ◌&&◌, ◌||◌, if◌then◌else◌}
use Rattle.std.specs.List.{filter_map}
use Rattle.std.specs.Str.{bytes_eq}
use Rattle.world_ports.specs.declared.Moment.{Moment}
use Rattle.agent_msg.specs.Replies.{identities_answer}
use Rattle.agent_msg.specs.Requests.{names_bind}
use Rattle.dest_rule.specs.Rules.{visible}
use Rattle.agent_model.specs.Actions.{Action, Requested, Requesting}
use Rattle.agent_model.specs.Events.{Timed}
use Rattle.agent_model.specs.Runs.{Stamped, history, run}
use Rattle.agent_model.specs.State.{Settings, State, first_state, owed_of}
use Rattle.agent_model.specs.Step.{step}
use Rattle.agent_model.specs.Verdicts.{Identities, Replies}
use Rattle.agent_laws.specs.Dues.{proved_of}
use Rattle.agent_laws.specs.History.{onto}
use Rattle.agent_laws.specs.Past.{DidAdd, Done, PastAddition, done_of, held_by, last_addition, was_locked}

-- ---- which additions stand

-- the last addition of this blob, where it stands at this second: nothing removed it, its lifetime has
-- not run out, and it was used less often than it may be; additions without a lifetime live for so long
abbrev pub standing : (life : Option ℕ) → (now : ℕ) → List Stamped → List ℕ → Option PastAddition
standing life now past blob = held_by (last_addition blob past) life now

-- ---- in which order

-- the blobs with this one at the end, and nowhere else
abbrev pub at_end : List ℕ → List (List ℕ) → List (List ℕ)
at_end blob blobs = filter (λ other. not (bytes_eq other blob)) blobs ++ blob ∷ []

-- behind something done, by which blobs stood: one that is added while it doesn't stand comes, to the end
abbrev pub come_by : Done → (stood : List ℕ → Bool) → List (List ℕ) → List (List ℕ)
come_by (DidAdd addition) stood blobs =
    if stood addition.key.blob then blobs else at_end addition.key.blob blobs
come_by done stood blobs = blobs

-- the blobs that were ever added, in the order in which each came for the last time
abbrev pub in_order : (life : Option ℕ) → List Stamped → List (List ℕ)
in_order life [] = []
in_order life (one ∷ before) =
    come_by (done_of one.action) (λ blob. is_some (standing life one.moment.mono before blob))
    (in_order life before)

-- the additions that stand at this second, in that order
abbrev pub all_standing : (life : Option ℕ) → (now : ℕ) → List Stamped → List PastAddition
all_standing life now past = filter_map (standing life now past) (in_order life past)

-- ---- who sees them

-- the client of this port tries to bind its connection by the action, where the agent isn't locked
abbrev pub tries : ℕ → Action → (locked : Bool) → Bool
tries port (Requested requesting) locked =
    requesting.port == port && (names_bind requesting.body && not locked)
tries port other locked = false

-- it tried to
abbrev pub tried : ℕ → List Stamped → Bool
tried port [] = false
tried port (one ∷ before) = tried port before || tries port one.action (was_locked before)

-- the client of this port sees what was added so, at this second of the wall clock
abbrev pub is_shown : ℕ → (wall : ℕ) → List Stamped → PastAddition → Bool
is_shown port wall past added =
    visible added.addition.terms.rules (proved_of port past) (tried port past) wall

-- ---- the list

-- as a list shows it: its blob and its comment
abbrev pub entry_of : PastAddition → List ℕ × List ℕ
entry_of added = (added.addition.key.blob, added.addition.comment)

-- what a client is listed where the agent isn't locked
abbrev pub shown_to : (life : Option ℕ) → ℕ → Moment → List Stamped → List (List ℕ × List ℕ)
shown_to life port moment past =
    map entry_of (filter (is_shown port moment.wall past) (all_standing life moment.mono past))

-- what the client of this port is listed at this moment
abbrev pub listed_to : (life : Option ℕ) → ℕ → Moment → List Stamped → List (List ℕ × List ℕ)
listed_to life port moment past =
    if was_locked past then [] else shown_to life port moment past

-- ---- the law

-- the actions of these events, the newest first
abbrev pub past_of : Settings → List Timed → List Stamped
past_of settings events = onto [] (history (first_state settings) events)

-- the state after this event, behind these
abbrev pub after : Settings → List Timed → Timed → State
after settings before one = (step (run (first_state settings) before) one.moment one.event).state

-- what its client is listed, by what was done before the event, at its moment
abbrev pub due_list : Settings → List Timed → Timed → Requesting → List (List ℕ × List ℕ)
due_list settings before one requesting =
    listed_to settings.life requesting.port (after settings before one).moment
    (past_of settings before)

-- the request that the event serves behind those before is replied exactly that list, and its client is
-- owed that reply and nothing else
pub record IsListed (settings : Settings) (before : List Timed) (one : Timed)
    (requesting : Requesting) : Type 0 where
  pub verdict :
      requesting.verdict ≡ Replies (Identities (due_list settings before one requesting))
  pub owed : owed_of requesting.port (after settings before one)
      ≡ identities_answer (due_list settings before one requesting)
