-- What holds of every state that events lead to: the ports' numbers rise and not too many are open,
-- who waits is tied to the asks, and bindings that are verified are judged yet as they were.
use Rattle.std.specs.Prelude.{◌≡◌, ℕ, ◌≤◌, Bool, true, false, List, [], ◌∷◌, Some, None, IsSome, IsOk}
use Rattle.lists.specs.Keyed.{RiseBy}
use Rattle.world_ports.specs.declared.Door.TheVariants.{Clients, Children}
use Rattle.helper_link.specs.HelperLink.{ask_of}
use Rattle.helper_link.specs.Settling.{find_ask}
use Rattle.helper_link.specs.Sound.{RiseTo}
use Rattle.helper_link.specs.declared.ask.Ask.{Ask}
use Rattle.helper_link.specs.declared.ask.AskKind.{AskKind}
use Rattle.helper_link.specs.declared.ask.AskKind.TheVariants as kinds
use Rattle.helper_link.specs.declared.state.LinkState.TheVariants as states
use Rattle.dest_rule.specs.declared.fault.Next.{Next as Judgement}
use Rattle.dest_rule.specs.declared.fault.Next.TheVariants.{New, Same}
use Rattle.dest_rule.specs.declared.binding.Binding.{Binding}
use Rattle.dest_rule.specs.Chains.{IsChain, find_session, judge}
use Rattle.key_blob.specs.PublicKeys.{public_key_of}
use Rattle.agent_model.specs.Answers.{find_verification}
use Rattle.agent_model.specs.Asking.{AreRaised, JobsRise}
use Rattle.agent_model.specs.State.{OnAsk, Port, State, Verification, client_count, find_port, number_of}

-- the numbers rise, each above `low` and none above `high`; so they are distinct, and the last one
-- bounds them
abbrev pub IsRising : ℕ → ℕ → List Port → Type 0
IsRising low high ports = RiseBy number_of low ports high

-- the numbers of the open ports rise up to the last one, and no more than 128 clients are open
pub record IsSound (state : State) : Type 0 where
  pub rising : IsRising 0 state.last_port state.ports
  pub few : client_count state.ports ≤ 128

-- the numbers of the open ports and the jobs of the confirmations rise up to the last ones
pub record IsSteady (state : State) : Type 0 where
  pub rising : IsRising 0 state.last_port state.ports
  pub order : JobsRise 0 state.under_way.confirmations state.under_way.last_job

-- ---- bindings that are verified

-- what was judged of a binding as its ask was put
abbrev pub judged : Bool → Judgement
judged true = New
judged false = Same

-- a binding that is verified has a host key that is read, and this chain judges it as it was judged
-- then
pub record IsRight (one : Verification) (chain : List Binding) : Type 0 where
  pub as_noted : judge one.binding.host_key one.binding.session chain ≡ judged one.is_new
  pub key : IsOk (public_key_of one.binding.host_key)

-- each binding whose ask is unanswered is so judged by its asker's chain, where the asker is open
abbrev pub AreJudged : List Port → List Verification → List Ask → Type 0
AreJudged ports verifications asks = (ask : ℕ) (what : Ask) (one : Verification) (port : Port)
    → find_verification ask verifications ≡ Some one → find_ask ask asks ≡ Some what
    → find_port what.asker ports ≡ Some port → IsRight one port.chain

-- each ask to verify has its binding
abbrev pub AreNoted : List Verification → List Ask → Type 0
AreNoted verifications asks =
    (ask asker : ℕ) (blob : List ℕ) (put_at size : ℕ)
    → find_ask ask asks ≡ Some (ask_of ask asker kinds.Verifying blob put_at size)
    → IsSome (find_verification ask verifications)

-- each binding's session is its own
abbrev pub AreApart : List Binding → Type 0
AreApart [] = Unit {0}
AreApart (binding ∷ later) = (find_session binding.session later ≡ None) × AreApart later

-- the bindings of every connection are few, of host keys that are read and of sessions of their own
abbrev pub AreChains : List Port → Type 0
AreChains ports = (number : ℕ) (port : Port) → find_port number ports ≡ Some port
    → IsChain port.chain × AreApart port.chain

-- what was judged of bindings that are verified stands yet, and their asks were put
pub record IsJudged (state : State) : Type 0 where
  pub verified : AreJudged state.ports state.under_way.verifications state.under_way.link.asks
  pub given : (ask : ℕ) (one : Verification) → find_verification ask state.under_way.verifications
      ≡ Some one → ask ≤ state.under_way.link.last
  pub chains : AreChains state.ports

-- ---- who waits for the helper

-- the client of this port put this ask, which is unanswered, and is owed nothing
pub record IsWaiting (number ask : ℕ) (port : Port) (asks : List Ask) : Type 0 where
  pub kind : AskKind
  pub blob : List ℕ
  pub put_at : ℕ
  pub size : ℕ
  pub unanswered : find_ask ask asks ≡ Some (ask_of ask number kind blob put_at size)
  pub owed : port.owed ≡ []
  pub door : port.door ≡ Clients

-- whoever waits for an ask put it, and it is unanswered; and whoever an unanswered ask is for waits
-- for it, where its port is open
pub record AreTied (ports : List Port) (pending : List Ask) : Type 0 where
  pub waits : (number ask : ℕ) (port : Port) → find_port number ports ≡ Some port
      → port.waits ≡ OnAsk ask → IsWaiting number ask port pending
  pub asks : (ask : ℕ) (one : Ask) (port : Port) → find_ask ask pending ≡ Some one
      → find_port one.asker ports ≡ Some port → port.waits ≡ OnAsk ask

-- the numbers of the open ports and of the unanswered asks rise up to the last ones, and who waits
-- is tied to the asks; each ask to verify has its binding; no ask is for a port that hasn't joined, the
-- helper joined through the door of child processes, and what is to be confirmed was raised for who waits
-- for it
pub record IsTied (state : State) : Type 0 where
  pub rising : IsRising 0 state.last_port state.ports
  pub order : RiseTo 0 state.under_way.link.asks state.under_way.link.last
  pub tied : AreTied state.ports state.under_way.link.asks
  pub noted : AreNoted state.under_way.verifications state.under_way.link.asks
  pub askers : (ask : ℕ) (one : Ask) → find_ask ask state.under_way.link.asks ≡ Some one
      → one.asker ≤ state.last_port
  pub helper : (number : ℕ) (port : Port) → state.under_way.link.state ≡ states.Linked number
      → find_port number state.ports ≡ Some port → port.door ≡ Children
  pub known : (number : ℕ) → state.under_way.link.state ≡ states.Linked number
      → number ≤ state.last_port
  pub raised : AreRaised state.under_way.confirmations state.under_way.last_job state.ports
      state.last_port
