-- What a helper sends and hands on, and how it ends: a function of its words, of all that the agent says, of what becomes
-- of each body, and of what the helper behind replies (ours). `transcript_of` is the last definition.
use Rattle.std.specs.Prelude.{ℕ, List, [], ◌∷◌, ◌++◌, map, Option, Some, None}
use Rattle.child_msg.specs.ChildFrames.{from_child_body}
use Rattle.child_msg.specs.Messages.{Hello}
use Rattle.child_peer.specs.Words.{ChildWords, words_of}
use Rattle.helper_core.specs.declared.behind.Exchange.{Exchange}
use Rattle.helper_core.specs.declared.status.HelperStatus.{HelperStatus}
use Rattle.helper_core.specs.declared.status.HelperStatus.TheVariants.{Done, BadFrame, Usage, TornEnd}
use Rattle.helper_core.specs.Routes.{Route, Answered, HandedOn, NoRequest, counted}
use Rattle.wire_text.specs.Bounds.{longest_to_child}
use Rattle.wire_text.specs.Frames.{Front, Whole, Bad, More, Split, front, split}
use Rattle.wire_text.specs.Wire.{string}

-- the bytes that are sent, the requests that are handed on with the replies, and how the helper ends; it hasn't ended
-- where it waits for a reply
pub record Transcript : Type 0 where
  pub sent : List ℕ
  pub handed : List Exchange
  pub end : Option HelperStatus

-- a transcript with these bytes sent and these requests handed on before it
abbrev pub after : List ℕ → List Exchange → Transcript → Transcript
after sent handed later = record { sent = sent ++ later.sent; handed = handed ++ later.handed; end = later.end }

-- the transcript of a helper that sends nothing more and ends so
abbrev pub ended : HelperStatus → Transcript
ended status = record { sent = []; handed = []; end = Some status }

-- the transcript of a helper that waits for a reply
abbrev pub waiting : Transcript
waiting = record { sent = []; handed = []; end = None }

-- the bodies of replies, none where there was no reply
abbrev pub Replies : Type 0
Replies = List (Option (List ℕ))

-- the replies of requests that were handed on
abbrev pub replies_of : List Exchange → Replies
replies_of handed = map (λ exchange. exchange.reply) handed

-- ---- the agent's stream

-- what a body brings by its route, and then what the bodies behind it bring; each that is handed on takes a reply
unfoldable pub then_served : Route → List ℕ → Replies → (Replies → Transcript) → Transcript
then_served (Answered answer) body replies later = after (string (from_child_body answer)) [] (later replies)
then_served (HandedOn asked) body (reply ∷ replies) later =
    after (string (from_child_body (counted asked reply))) (record { request = body; reply = reply } ∷ []) (later replies)
then_served (HandedOn asked) body [] later = waiting
then_served NoRequest body replies later = ended BadFrame

-- what bodies bring, one after another, and the end behind them
unfoldable pub served_bodies : (List ℕ → Route) → HelperStatus → List (List ℕ) → Replies → Transcript
served_bodies route end [] replies = ended end
served_bodies route end (body ∷ bodies) replies = then_served (route body) body replies (served_bodies route end bodies)

-- how the helper ends at what is left of a stream: within a frame or not
abbrev pub torn_or_done : List ℕ → HelperStatus
torn_or_done [] = Done
torn_or_done (byte ∷ rest) = TornEnd

-- how the helper ends at what is left of a stream, by what stands in front of it
abbrev pub status_at : Front → List ℕ → HelperStatus
status_at (Whole body_len) rest = BadFrame
status_at (Bad announced) rest = BadFrame
status_at More rest = torn_or_done rest

-- what the frames of a stream bring, and then the end at what is left
abbrev pub served_split : (List ℕ → Route) → Split → Replies → Transcript
served_split route parts replies =
    served_bodies route (status_at (front longest_to_child parts.rest) parts.rest) parts.bodies replies

-- what a stream of frames of at most 1048576 bytes of body brings
unfoldable pub served : (List ℕ → Route) → Replies → List ℕ → Transcript
served route replies stream = served_split route (split longest_to_child stream) replies

-- ---- the words

-- HELLO first, and then the answers
abbrev pub greeted : (List ℕ → Route) → ChildWords → Replies → List ℕ → Transcript
greeted route words replies stream =
    after (string (from_child_body (Hello words.job words.ticket))) [] (served route replies stream)

-- nothing is said where the words are none of a helper's
abbrev pub transcript_with : (List ℕ → Route) → Option ChildWords → Replies → List ℕ → Transcript
transcript_with route (Some words) replies stream = greeted route words replies stream
transcript_with route None replies stream = ended Usage

-- what is sent and handed on, and the end: by what becomes of each body, by the words, by the replies of the helper
-- behind, and by all that the agent says
unfoldable pub transcript_of : (List ℕ → Route) → List (List ℕ) → Replies → List ℕ → Transcript
transcript_of route words replies stream = transcript_with route (words_of words) replies stream
