-- What is tested again when the user consents, and what comes of a confirmation (ours).
use Rattle.std.specs.Prelude.{◌≡◌, ℕ, ◌+◌, ◌≤◌, List, [], Option, Some, None, IsSome, length}
use Rattle.dest_rule.specs.declared.binding.Binding.{Binding}
use Rattle.confirm_desk.specs.Confirmations.{Confirmation, find_job}
use Rattle.identity_table.specs.Identities.{HeldKey, find_number}
use Rattle.agent_model.specs.Actions.{Stepped, Work}
use Rattle.agent_model.specs.Consents.{grant_by}
use Rattle.agent_model.specs.KeyStates.{KeyState, after_use}
use Rattle.agent_model.specs.Objections.{objection}
use Rattle.agent_model.specs.Verdicts.{Cause}
use Rattle.agent_model.specs.State.{Port, State, UnderWay, find_port}
use Rattle.under_way.specs.Parts.{TellsOf}

-- ---- the second test

-- the key of a consent, by what its purposes and its destination constraints say by now
abbrev pub granted_unless : Option Cause → HeldKey → Option HeldKey
granted_unless (Some cause) key = None
granted_unless None key = Some key

-- the key of a consent, by whether its addition is still held
abbrev pub granted_with : Option HeldKey → List Binding → List ℕ → (flags wall : ℕ) → Option HeldKey
granted_with None chain message flags wall = None
granted_with (Some key) chain message flags wall =
    granted_unless (objection key key.blob chain message flags wall) key

-- the key of a consent, by whether the agent is locked by now
abbrev pub granted_by : Option (List ℕ) → ℕ → List HeldKey → List Binding → List ℕ → (flags wall : ℕ) → Option HeldKey
granted_by (Some passphrase) addition keys chain message flags wall = None
granted_by None addition keys chain message flags wall = granted_with (find_number addition keys) chain message flags wall

-- the key of an addition, where it may sign the message with these flags now, for a connection with this chain
abbrev pub granted_key : ℕ → List Binding → List ℕ → (flags wall : ℕ) → KeyState → Option HeldKey
granted_key addition chain message flags wall held =
    granted_by held.lock addition held.table.identities chain message flags wall

-- a key that fits a message to the helper, with what a client may send
abbrev pub IsShortKey : HeldKey → Type 0
IsShortKey key = length key.private + length key.blob ≤ 524288

-- ---- what comes of it

-- what comes of the consent for what was held, for a client with this chain
abbrev pub grant_of : List Binding → Confirmation → ℕ → KeyState → UnderWay → Work
grant_of chain confirmation wall held under_way =
    grant_by held.lock (find_number confirmation.addition held.table.identities) chain confirmation wall under_way

-- the same in a state where the confirmation isn't under way any more
abbrev pub grant_in : List Binding → Confirmation → State → Work
grant_in chain confirmation state = grant_of chain confirmation state.moment.wall state.held state.under_way

-- it changes what is under way so, and so much is told of it
pub record IsGrant (asked : Option ℕ) (new : UnderWay) (work : Work) : Type 0 where
  pub under_way : new ≡ work.under_way
  pub told : TellsOf work.verdict asked

-- it changes the agent's parts so, and so much is told of it
pub record IsGrantedTo (asked : Option ℕ) (new : Stepped) (work : Work) (old : Stepped) : Type 0 where
  pub parts : new ≡ record old {
    state = record old.state { held = after_use work.used old.state.held; under_way = work.under_way };
  }
  pub told : TellsOf work.verdict asked

-- ---- who waits

-- whoever a confirmation is for is owed nothing, where its port is open
abbrev pub AreQuiet : List Confirmation → List Port → Type 0
AreQuiet confirmations ports = (job : ℕ) (one : Confirmation) (port : Port) → find_job job confirmations ≡ Some one
    → find_port one.asker ports ≡ Some port → port.owed ≡ []

-- the client that this confirmation is for is open, and owed nothing
pub record IsHeldFor (one : Confirmation) (ports : List Port) : Type 0 where
  pub is_open : IsSome (find_port one.asker ports)
  pub silent : (port : Port) → find_port one.asker ports ≡ Some port → port.owed ≡ []
