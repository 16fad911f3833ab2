-- What calls do to a link, one after another (ours).
use Rattle.std.specs.Prelude.{ℕ, ◌+◌, List, [], ◌∷◌}
use Rattle.lists.specs.Rising.{IsRisingNumbers}
use Rattle.child_msg.specs.Messages.{ToChildMessage}
use Rattle.helper_link.specs.HelperLink.{HelperLink, begun, linked_to, lost, sent, submitted}
use Rattle.helper_link.specs.Telling.{telling}
use Rattle.helper_link.specs.declared.ask.AskKind.{AskKind}

-- a call that changes a link
pub data Call : Type 0 where
  Begin : (job : ℕ) → Call
  Come : (port : ℕ) → Call
  Submit : (kind : AskKind) (asker : ℕ) (blob : List ℕ) (request : ℕ → ToChildMessage) (now : ℕ) → Call
  Send : (count : ℕ) → Call
  Tell : (piece : List ℕ) → Call
  Lose : Call

-- the link after it
abbrev pub after_call : Call → HelperLink → HelperLink
after_call (Begin job) link = begun job link
after_call (Come port) link = linked_to port link
after_call (Submit kind asker blob request now) link = submitted kind asker blob request now link
after_call (Send count) link = sent count link
after_call (Tell piece) link = (telling piece link).link
after_call Lose link = lost link

-- the number of the ask that it puts, if it puts one, before these
abbrev pub numbered : Call → HelperLink → List ℕ → List ℕ
numbered (Begin job) link later = later
numbered (Come port) link later = later
numbered (Submit kind asker blob request now) link later = (link.last + 1) ∷ later
numbered (Send count) link later = later
numbered (Tell piece) link later = later
numbered Lose link later = later

-- the numbers of all asks that these calls put, in their order
abbrev pub numbers_of : List Call → HelperLink → List ℕ
numbers_of [] link = []
numbers_of (call ∷ calls) link = numbered call link (numbers_of calls (after_call call link))

-- each number is above the one before it, and the first is above `below`
abbrev pub RiseFrom : ℕ → List ℕ → Type 0
RiseFrom = IsRisingNumbers
