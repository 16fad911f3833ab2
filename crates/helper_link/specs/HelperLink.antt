-- The link to the helper process, as plain values (ours).
use Rattle.std.specs.Prelude.{◌≡◌, ℕ, ◌+◌, ◌-◌, ◌^◌, ◌==◌, ◌||◌, nat_lt, nat_le, Bool, true, false, List, [], ◌∷◌, ◌++◌, Option, Some, None, drop, length, map, min, slice_get}
use Rattle.std.specs.List.{sum_by}
use Rattle.lists.specs.Keyed.{AreUpToBy}
use Rattle.wire_text.specs.Wire.{string}
use Rattle.child_msg.specs.ChildFrames.{to_child_body}
use Rattle.child_msg.specs.Messages.{ToChildMessage, Sign, Verify}
use Rattle.helper_link.specs.declared.ask.Ask.{Ask}
use Rattle.helper_link.specs.declared.ask.AskKind.{AskKind}
use Rattle.helper_link.specs.declared.fault.AskFault.{AskFault}
use Rattle.helper_link.specs.declared.fault.AskFault.TheVariants.{Full, NumbersSpent, Memory}
use Rattle.helper_link.specs.declared.state.LinkState.{LinkState}
use Rattle.helper_link.specs.declared.state.LinkState.TheVariants as states

-- what the agent knows of its helper
pub record HelperLink : Type 0 where
  -- whether a helper is there, is being started, or neither
  pub state : LinkState
  -- the unanswered asks, in the order of their numbers
  pub asks : List Ask
  -- the number of the ask that was put last, 0 before the first
  pub last : ℕ
  -- the bytes to be sent, once the helper is there
  pub owed : List ℕ
  -- the bytes of the helper's stream behind its last whole frame
  pub heard : List ℕ
  -- how often the link was lost
  pub faults : ℕ

-- before the first helper is started
abbrev pub no_link : HelperLink
no_link = record {
  state = states.None;
  asks = [];
  last = 0;
  owed = [];
  heard = [];
  faults = 0;
}

-- a helper is being started
abbrev pub IsStarting : LinkState → Type 0
IsStarting states.None = ⊥
IsStarting (states.Starting job) = Unit {0}
IsStarting (states.Linked port) = ⊥

-- the helper is there
abbrev pub IsLinked : LinkState → Type 0
IsLinked states.None = ⊥
IsLinked (states.Starting job) = ⊥
IsLinked (states.Linked port) = Unit {0}

-- a helper is started by this job where none is there or being started
abbrev pub begun_by : ℕ → LinkState → LinkState
begun_by job states.None = states.Starting job
begun_by job (states.Starting earlier) = states.Starting earlier
begun_by job (states.Linked port) = states.Linked port

-- the link for which this job is to start a helper
abbrev pub begun : ℕ → HelperLink → HelperLink
begun job link = record link { state = begun_by job link.state }

-- the helper came to this port
abbrev pub linked_to : ℕ → HelperLink → HelperLink
linked_to port link = record link { state = states.Linked port }

-- the request for a signature, with an ask's number
abbrev pub sign_request : List ℕ → List ℕ → List ℕ → ℕ → ℕ → ToChildMessage
sign_request private blob message flags number =
    Sign record { ask = number; private = private; blob = blob; message = message; flags = flags }

-- the request for a verification, with an ask's number
abbrev pub verify_request : List ℕ → List ℕ → List ℕ → ℕ → ToChildMessage
verify_request host_key signature session number =
    Verify record { ask = number; host_key = host_key; signature = signature; session = session }

-- the most asks that are unanswered at once (ours)
abbrev pub most_asks : ℕ
most_asks = 256

-- with so many bytes in the bodies of the unanswered asks together, 8 MiB, no ask is put (ours)
abbrev pub most_asked : ℕ
most_asked = 8388608

-- how many bytes the bodies of these asks have together
abbrev pub asked_len : List Ask → ℕ
asked_len asks = sum_by (λ (ask : Ask). ask.size) asks

-- there is no place for one more
abbrev pub is_full : List Ask → Bool
is_full asks = nat_lt (most_asks - 1) (length asks) || nat_le most_asked (asked_len asks)

-- by whether the places are full, and whether each number was used
abbrev pub ask_fault_by : Bool → Bool → Option AskFault
ask_fault_by true spent = Some Full
ask_fault_by false true = Some NumbersSpent
ask_fault_by false false = None

-- why no ask can be put
abbrev pub ask_fault : HelperLink → Option AskFault
ask_fault link = ask_fault_by (is_full link.asks) (link.last == 2 ^ 64 - 1)

-- an ask is refused with this fault: memory is wanting only where nothing else stands against it
abbrev pub IsRefusedWith : Option AskFault → AskFault → Type 0
IsRefusedWith why Full = why ≡ Some Full
IsRefusedWith why NumbersSpent = why ≡ Some NumbersSpent
IsRefusedWith why Memory = why ≡ None

-- an ask of this number, for the key of this blob, put at this second by a body of so many bytes
abbrev pub ask_of : ℕ → ℕ → AskKind → List ℕ → ℕ → ℕ → Ask
ask_of number asker kind blob now size =
    record { number = number; asker = asker; kind = kind; blob = blob; put_at = now; size = size }

-- the earlier of two seconds, where there is a second one
abbrev pub earlier : ℕ → Option ℕ → ℕ
earlier second None = second
earlier second (Some other) = min second other

-- the second at which the oldest of these asks was put
abbrev pub oldest : List Ask → Option ℕ
oldest [] = None
oldest (ask ∷ asks) = Some (earlier ask.put_at (oldest asks))

-- the second at which an ask was put
abbrev pub second_of : Ask → ℕ
second_of ask = ask.put_at

-- each of these asks was put at this second or before
abbrev pub ArePutBy : ℕ → List Ask → Type 0
ArePutBy now asks = AreUpToBy second_of now asks

-- the ask of these that was put last
abbrev pub newest : List Ask → Option Ask
newest asks = slice_get asks (length asks - 1)

-- an ask for the key of this blob is put at this second: it has the next number and its request's size, and the frame
-- of that is to be sent
abbrev pub submitted : AskKind → ℕ → List ℕ → (ℕ → ToChildMessage) → ℕ → HelperLink → HelperLink
submitted kind asker blob request now link = record link {
  asks = link.asks ++ (ask_of (link.last + 1) asker kind blob now (length (to_child_body (request (link.last + 1)))) ∷ []);
  last = link.last + 1;
  owed = link.owed ++ string (to_child_body (request (link.last + 1)));
}

-- what may be sent: nothing before the helper is there
abbrev pub sendable : LinkState → List ℕ → List ℕ
sendable states.None owed = []
sendable (states.Starting job) owed = []
sendable (states.Linked port) owed = owed

-- so many bytes were sent
abbrev pub sent : ℕ → HelperLink → HelperLink
sent count link = record link { owed = drop count link.owed }

-- the askers of asks, in their order
abbrev pub askers : List Ask → List ℕ
askers asks = map (λ (ask : Ask). ask.asker) asks

-- the helper is gone: what was unanswered failed, nothing is to be sent or was heard, and the count
-- of losses stays at its last value
abbrev pub lost : HelperLink → HelperLink
lost link = record link {
  state = states.None;
  asks = [];
  owed = [];
  heard = [];
  faults = min (link.faults + 1) (2 ^ 64 - 1);
}
