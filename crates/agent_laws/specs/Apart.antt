-- Two runs that differ in keys that some clients never see, and in who adds and removes these
-- (ours). `Insiders` are the clients that do so; the others are outsiders. The file is read from
-- its end.
use Rattle.std.specs.Prelude.{◌≡◌, ◌≢◌, ℕ, Bool, true, false, List, [], ◌∷◌, Some, Ok, ◌==◌}
use Rattle.world_ports.specs.declared.Door.TheVariants.{Clients}
use Rattle.wire_text.specs.Frames.{Bad, Whole, front_body}
use Rattle.agent_msg.specs.Requests.{Addition, ClientRequest, ListIdentities, Sign, Add, Remove, RemoveAll, Lock, Unlock, Bind, OtherExtension, Unsupported}
use Rattle.identity_table.specs.Identities.{HeldKey, TableState, identities_with, is_full}
use Rattle.dest_rule.specs.Rules.{visible}
use Rattle.agent_model.specs.Actions.{Outcome}
use Rattle.agent_model.specs.Binds.{agent_request_of}
use Rattle.agent_model.specs.Children.{heard_more}
use Rattle.agent_model.specs.Events.{Happening, Timed, Joined, Heard, Ended, Took, Started, StartFailed, Tick}
use Rattle.agent_model.specs.KeyStates.{KeyState}
use Rattle.agent_model.specs.Limits.{last_number}
use Rattle.agent_model.specs.Looks.{due}
use Rattle.agent_model.specs.State.{Port, State, find_port}
use Rattle.agent_model.specs.Step.{step, took_some}
use Rattle.agent_model.specs.Time.{at_moment}
use Rattle.agent_laws.specs.Grants.{HaveOwnParts}

-- whose additions and removals the runs differ in, by port, and of which keys, by blob
pub record Insiders : Type 0 where
  pub is_insider : ℕ → Bool
  pub is_hidden : List ℕ → Bool

-- ---- states

-- the port is the same, but for what an insider sent and is owed
pub record IsAlikePort (who : Insiders) (one two : Port) : Type 0 where
  pub number : one.number ≡ two.number
  pub door : one.door ≡ two.door
  pub outsider : who.is_insider one.number ≡ false → one ≡ two

-- the ports are, one by one
abbrev pub AreAlikePorts : Insiders → List Port → List Port → Type 0
AreAlikePorts who [] [] = Unit {0}
AreAlikePorts who [] (two ∷ twos) = ⊥
AreAlikePorts who (one ∷ ones) [] = ⊥
AreAlikePorts who (one ∷ ones) (two ∷ twos) = IsAlikePort who one two × AreAlikePorts who ones twos

-- the identities are the same in the same order, but for hidden ones, and for the numbers of
-- additions. None of those that both hold asks for confirmation
pub data AreAlikeKeys (who : Insiders) : List HeldKey → List HeldKey → Type 0 where
  none : AreAlikeKeys who [] []
  both : {ones twos : List HeldKey} (key : HeldKey) (number : ℕ) → who.is_hidden key.blob ≡ false
      → key.confirm ≡ false → AreAlikeKeys who ones twos
      → AreAlikeKeys who (key ∷ ones) ((record key { number = number }) ∷ twos)
  first_has : {ones twos : List HeldKey} (key : HeldKey) → who.is_hidden key.blob ≡ true
      → AreAlikeKeys who ones twos → AreAlikeKeys who (key ∷ ones) twos
  second_has : {ones twos : List HeldKey} (key : HeldKey) → who.is_hidden key.blob ≡ true
      → AreAlikeKeys who ones twos → AreAlikeKeys who ones (key ∷ twos)

-- the lock is the same, and so are the identities; and in neither have two one blob or one number
pub record IsAlikeHeld (who : Insiders) (one two : KeyState) : Type 0 where
  pub lock : two.lock ≡ one.lock
  pub first_own : HaveOwnParts one.table
  pub second_own : HaveOwnParts two.table
  pub life : two.table.life ≡ one.table.life
  pub greatest : two.table.greatest ≡ one.table.greatest
  pub keys : AreAlikeKeys who one.table.identities two.table.identities

-- the states are the same but for that, and nothing is to be confirmed
pub record AreAlike (who : Insiders) (one two : State) : Type 0 where
  pub ports : AreAlikePorts who one.ports two.ports
  pub held : IsAlikeHeld who one.held two.held
  pub rest : two ≡ record one { ports = two.ports; held = two.held }
  pub calm : one.under_way.confirmations ≡ []

-- two outcomes: the states are so, and the helper is sent the same
pub record AreAlikeOutcomes (who : Insiders) (one two : Outcome) : Type 0 where
  pub state : AreAlike who one.state two.state
  pub put : one.put ≡ two.put

-- ---- what an outsider's request may say

-- the hidden ones among the identities aren't seen by who is at a port at this second of the wall
-- clock
abbrev pub AreUnseen : Insiders → Port → ℕ → List HeldKey → Type 0
AreUnseen who port wall [] = Unit {0}
AreUnseen who port wall (key ∷ keys) =
    (who.is_hidden key.blob ≡ true → visible key.rules port.chain port.attempted wall ≡ false)
    × AreUnseen who port wall keys

-- the addition is of no hidden key, asks for no confirmation, and is refused for room or since all
-- numbers were given by both tables or by none
pub record SaysNoMore (who : Insiders) (addition : Addition) (now : ℕ) (one two : TableState)
    : Type 0 where
  pub shown : who.is_hidden addition.key.blob ≡ false
  pub plain : addition.terms.confirm ≡ false
  pub room : is_full (identities_with one addition.key addition.terms addition.comment now)
      ≡ is_full (identities_with two addition.key addition.terms addition.comment now)
  pub numbers : (one.last == last_number) ≡ (two.last == last_number)

-- an outsider at this port sees no hidden key, and an addition that is taken of it behind a change
-- of the port says no more
pub record IsBlind (who : Insiders) (port after : Port) (one two : State) : Type 0 where
  pub first : AreUnseen who port one.moment.wall one.held.table.identities
  pub second : AreUnseen who port two.moment.wall two.held.table.identities
  pub additions : (body_len : ℕ) (addition : Addition) → due after ≡ Whole body_len
      → agent_request_of (front_body body_len after.heard) ≡ Ok (Add addition)
      → SaysNoMore who addition one.moment.mono one.held.table two.held.table

-- a port of this number is an outsider's: a client's is blind, as it is after this change
pub record IsOutside (who : Insiders) (number : ℕ) (change : Port → Port) (one two : State)
    : Type 0 where
  pub outsider : who.is_insider number ≡ false
  pub blind : (port : Port) → find_port number one.ports ≡ Some port → port.door ≡ Clients
      → IsBlind who port (change port) one two

-- an event that comes in both states, as it begins, tells no outsider more in one of them than in
-- the other
abbrev pub IsShared : Insiders → Happening → State → State → Type 0
IsShared who (Joined door) one two = Unit {0}
IsShared who (Heard port piece) one two = IsOutside who port (heard_more piece) one two
IsShared who (Took port count) one two = IsOutside who port (took_some count) one two
IsShared who (Ended port) one two = Unit {0}
IsShared who (Started job ticket) one two = Unit {0}
IsShared who (StartFailed job) one two = Unit {0}
IsShared who Tick one two = Unit {0}

-- ---- what an insider may ask

-- a listing, or an addition or a removal of a hidden key
abbrev pub IsOwnMatter : Insiders → ClientRequest → Type 0
IsOwnMatter who ListIdentities = Unit {0}
IsOwnMatter who (Sign signing) = ⊥
IsOwnMatter who (Add addition) = who.is_hidden addition.key.blob ≡ true
IsOwnMatter who (Remove blob) = who.is_hidden blob ≡ true
IsOwnMatter who RemoveAll = ⊥
IsOwnMatter who (Lock passphrase) = ⊥
IsOwnMatter who (Unlock passphrase) = ⊥
IsOwnMatter who (Bind bind) = ⊥
IsOwnMatter who (OtherExtension name) = ⊥
IsOwnMatter who (Unsupported number) = ⊥

-- an insider at this port, behind a change of the port: no bad length stands at the front of its
-- bytes, and a request that is taken of them, if it reads, is such
pub record IsInside (who : Insiders) (port after : Port) : Type 0 where
  pub insider : who.is_insider port.number ≡ true
  pub well : (announced : ℕ) → due after ≢ Bad announced
  pub own : (body_len : ℕ) (request : ClientRequest) → due after ≡ Whole body_len
      → agent_request_of (front_body body_len after.heard) ≡ Ok request → IsOwnMatter who request

-- ---- runs

-- from these states on, the first list of events and the second differ in such alone as leave a
-- state alike: an insider's additions and removals of hidden keys, and what it sends and takes
-- besides
pub data AreAlikeRuns (who : Insiders) : State → List Timed → State → List Timed → Type 0 where
  over : (one two : State) → AreAlikeRuns who one [] two []
  shared : {ones twos : List Timed} (one two : State) (timed : Timed)
      → IsShared who timed.event (at_moment timed.moment one) (at_moment timed.moment two)
      → AreAlikeRuns who (step one timed.moment timed.event).state ones
      (step two timed.moment timed.event).state twos
      → AreAlikeRuns who one (timed ∷ ones) two (timed ∷ twos)
  aside_first : {ones twos : List Timed} (one two : State) (timed : Timed)
      → AreAlike who one (step one timed.moment timed.event).state
      → AreAlikeRuns who (step one timed.moment timed.event).state ones two twos
      → AreAlikeRuns who one (timed ∷ ones) two twos
  aside_second : {ones twos : List Timed} (one two : State) (timed : Timed)
      → AreAlike who two (step two timed.moment timed.event).state
      → AreAlikeRuns who one ones (step two timed.moment timed.event).state twos
      → AreAlikeRuns who one ones two (timed ∷ twos)
