-- What is to be taken of a port (ours).
use Rattle.std.specs.Prelude.{List, [], ◌∷◌, ℕ, Option, Some, None}
use Rattle.wire_text.specs.Frames.{Front, More, front}
use Rattle.wire_text.specs.Bounds.{longest_body}
use Rattle.agent_model.specs.State.{Nothing, OnAsk, OnConfirmation, Port, Waits}

-- nothing while the client waits or is owed bytes, else what stands at the front of its bytes
abbrev pub due_front : Waits → List ℕ → List ℕ → Front
due_front Nothing [] heard = front longest_body heard
due_front Nothing (byte ∷ bytes) heard = More
due_front (OnAsk ask) owed heard = More
due_front (OnConfirmation job) owed heard = More

-- what is to be taken of a client's port: nothing while it waits or is owed bytes
abbrev pub due : Port → Front
due port = due_front port.waits port.owed port.heard

-- what is to be taken of a port: nothing where it isn't open
abbrev pub due_by : Option Port → Front
due_by None = More
due_by (Some port) = due port
