-- What a client can tell from what comes of its request (ours).
use Rattle.std.specs.Prelude.{◌≡◌, List}
use Rattle.identity_table.specs.Identities.{HeldKey}
use Rattle.agent_model.specs.Actions.{Outcome, Work}
use Rattle.agent_model.specs.Dispatch.{with_identities}
use Rattle.agent_model.specs.State.{State}
use Rattle.agent_model.specs.Verdicts.{verdict_text, verdict_waits}

-- the client is owed the same and waits for the same, and the same is under way and put to the
-- helper: the causes of two failures may differ
pub record IsSameReply (one two : Work) : Type 0 where
  pub text : verdict_text one.verdict ≡ verdict_text two.verdict
  pub waits : verdict_waits one.verdict ≡ verdict_waits two.verdict
  pub under_way : one.under_way ≡ two.under_way
  pub put : one.put ≡ two.put

-- every port is owed and waits for the same after two events, and the same is under way and put to the helper
pub record IsSameFor (one two : Outcome) : Type 0 where
  pub ports : one.state.ports ≡ two.state.ports
  pub under_way : one.state.under_way ≡ two.state.under_way
  pub put : one.put ≡ two.put

-- the agent holds these identities
abbrev pub holding : List HeldKey → State → State
holding identities state = record state { held = with_identities identities state.held }
