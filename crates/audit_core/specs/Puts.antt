-- The signing requests that the run of a schedule puts to a helper (ours). The file is read from its end.
use Rattle.std.specs.Prelude.{ℕ, true, List, [], Option, None, Some}
use Rattle.std.specs.List.{filter_map, flat_map}
use Rattle.agent_model.specs.State.{Settings}
use Rattle.agent_model.specs.Actions.{Action, Answered, Asked, ForBinding, ForSignature, Granted, Lost, Over, Proved, Purpose, Raised, Requested}
use Rattle.agent_model.specs.Runs.{Stamped}
use Rattle.agent_model.specs.Step.{step}
use Rattle.audit_core.specs.declared.put.Put.{Put}
use Rattle.replay_run.specs.Replay.{Run, course, parts_of, start_run}
use Rattle.replay_run.specs.Told.{Told, Barred, Came}

-- an ask for a signature, at a line of the schedule; one for a binding is none
abbrev pub put_for : ℕ → ℕ → ℕ → Purpose → Option Put
put_for line ask port (ForSignature signing) =
    Some (record { line = line; ask = ask; port = port; blob = signing.blob })
put_for line ask port (ForBinding binding) = None

-- what an action puts at a line
abbrev pub put_by : ℕ → Action → Option Put
put_by line (Requested requesting) = None
put_by line (Asked asking) = put_for line asking.ask asking.port asking.purpose
put_by line (Answered settled) = None
put_by line (Proved proving) = None
put_by line (Raised raising) = None
put_by line (Granted job) = None
put_by line (Over job) = None
put_by line Lost = None

-- what actions put at a line, in their order
abbrev pub puts_by : ℕ → List Action → List Put
puts_by line actions = filter_map (put_by line) actions

-- what is put of what is told of a run
abbrev pub puts_in : Told → List Put
puts_in (Came line state timed) = puts_by line (step state timed.moment timed.event).actions
puts_in (Barred line fault) = []

-- what the parts of a schedule put, from this run on
unfoldable pub puts_from : Run → List (List ℕ) → List Put
puts_from run parts = flat_map puts_in (course true run parts).told

-- all that a schedule puts, where identities that come without a lifetime live for so many seconds
abbrev pub puts : Settings → List ℕ → List Put
puts settings text = puts_from (start_run settings) (parts_of text)

-- ---- the same without lines

-- a signing request: the number of its ask, the port of who asked, and the blob of the key
pub record Signed : Type 0 where
  pub ask : ℕ
  pub port : ℕ
  pub blob : List ℕ

-- the one that an ask of this number, port and purpose is, where it is for a signature
abbrev pub signed_for : ℕ → ℕ → Purpose → Option Signed
signed_for ask port (ForSignature signing) =
    Some (record { ask = ask; port = port; blob = signing.blob })
signed_for ask port (ForBinding binding) = None

-- the one that an action is
abbrev pub signed_by : Action → Option Signed
signed_by (Requested requesting) = None
signed_by (Asked asking) = signed_for asking.ask asking.port asking.purpose
signed_by (Answered settled) = None
signed_by (Proved proving) = None
signed_by (Raised raising) = None
signed_by (Granted job) = None
signed_by (Over job) = None
signed_by Lost = None

-- those of a history, in its order
abbrev pub signed_in : List Stamped → List Signed
signed_in past = filter_map (λ one. signed_by one.action) past

-- a request that was put, without its line
abbrev pub without_line : Put → Signed
without_line put = record { ask = put.ask; port = put.port; blob = put.blob }
