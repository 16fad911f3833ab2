-- What alike lists of events give.
use Rattle.std.specs.Prelude.{◌≡◌, ◌≢◌, ℕ, List, [], ◌∷◌, length, map, Some}
use Rattle.world_ports.specs.declared.Door.TheVariants.{Clients, Children}
use Rattle.helper_link.specs.declared.state.LinkState.TheVariants as states
use Rattle.agent_model.specs.Actions.{Outcome}
use Rattle.agent_model.specs.State.{Port, client_count, find_port, next_due, numbers, owed_of, starts, wants}
use Rattle.agent_secrecy.specs.Secrets.{hidden}
use Rattle.agent_secrecy.specs.Hiding.{hide_message}

-- what is seen of two outcomes is alike: what clients are owed, what is closed, put and due, and how much is held; and what
-- the user is asked: the confirmations that wait are the same, with what is to be signed, for whom, of which addition and
-- since when, and each child process that isn't the helper is owed the same, which is what is left of its prompt
pub record IsAlikeSeen (one other : Outcome) : Type 0 where
  pub owed : (number : ℕ) (port : Port) → find_port number one.state.ports ≡ Some port → port.door ≡ Clients
      → owed_of number one.state ≡ owed_of number other.state
  pub closes : one.closes ≡ other.closes
  pub starts : starts one.state ≡ starts other.state
  pub ports : numbers one.state.ports ≡ numbers other.state.ports
  pub held : length one.state.held.table.identities ≡ length other.state.held.table.identities
  pub faults : one.state.under_way.link.faults ≡ other.state.under_way.link.faults
  pub last : one.state.last_port ≡ other.state.last_port
  pub clients : client_count one.state.ports ≡ client_count other.state.ports
  pub due : next_due one.state ≡ next_due other.state
  pub wants : (number : ℕ) → wants number one.state ≡ wants number other.state
  pub helper : length one.state.under_way.link.owed ≡ length other.state.under_way.link.owed
  pub confirmations : one.state.under_way.confirmations ≡ other.state.under_way.confirmations
  pub confirmers : (number : ℕ) (port : Port) → find_port number one.state.ports ≡ Some port → port.door ≡ Children
      → one.state.under_way.link.state ≢ states.Linked number
      → owed_of number one.state ≡ owed_of number other.state
  pub put : map (hide_message hidden) one.put ≡ map (hide_message hidden) other.put

-- event by event, what is seen of two runs is alike
abbrev pub AreAlikeSeen : List Outcome → List Outcome → Type 0
AreAlikeSeen [] [] = Unit {0}
AreAlikeSeen [] (other ∷ others) = ⊥
AreAlikeSeen (one ∷ ones) [] = ⊥
AreAlikeSeen (one ∷ ones) (other ∷ others) = IsAlikeSeen one other × AreAlikeSeen ones others
