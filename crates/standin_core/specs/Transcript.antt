-- What a stand-in helper sends, and how it ends: a function of its words, of what files hold, and of all that the
-- agent says (ours). `transcript_of` is the last definition.
use Rattle.std.specs.Prelude.{ℕ, Bool, true, ◌&&◌, nat_lt, if◌then◌else◌, List, [], ◌∷◌, ◌++◌, length, map, Option, Some, None, is_some, Result, Ok, Err, ok_or}
use Rattle.child_msg.specs.ChildFrames.{from_child_body}
use Rattle.child_msg.specs.Messages.{FromChildMessage, Hello}
use Rattle.child_peer.specs.Words.{ChildWords, words_of}
use Rattle.standin_core.specs.Answers.{answer_of}
use Rattle.standin_core.specs.Hosts.{Host, hosts_of}
use Rattle.standin_core.specs.declared.status.HelperStatus.{HelperStatus}
use Rattle.standin_core.specs.declared.status.HelperStatus.TheVariants.{Done, BadFrame, Usage, FileFault, FileTooLong, BadFile, TornEnd}
use Rattle.wire_text.specs.Bounds.{longest_to_child}
use Rattle.wire_text.specs.Frames.{Front, Whole, Bad, More, Split, front, frames, split}
use Rattle.wire_text.specs.Wire.{string}

-- the bytes that are sent, and how the helper ends
pub record Transcript : Type 0 where
  pub sent : List ℕ
  pub status : HelperStatus

-- a transcript with these bytes sent before it
abbrev pub after : List ℕ → Transcript → Transcript
after sent later = record { sent = sent ++ later.sent; status = later.status }

-- the transcript of a helper that sends nothing and ends so
abbrev pub ended : HelperStatus → Transcript
ended status = record { sent = []; status = status }

-- ---- the agent's stream

-- the answer to a body and the answers to the bodies behind it; none where there is no answer
abbrev pub then_answers : Option FromChildMessage → List FromChildMessage → List FromChildMessage
then_answers (Some answer) answers = answer ∷ answers
then_answers None answers = []

-- the answers to bodies in order, up to the first that is no request to a helper
unfoldable pub answers_to : List Host → List (List ℕ) → List FromChildMessage
answers_to hosts [] = []
answers_to hosts (body ∷ bodies) = then_answers (answer_of hosts body) (answers_to hosts bodies)

-- each body is a request to a helper
unfoldable pub are_requests : List Host → List (List ℕ) → Bool
are_requests hosts [] = true
are_requests hosts (body ∷ bodies) = is_some (answer_of hosts body) && are_requests hosts bodies

-- how the helper ends at what is left of a stream: within a frame or not
abbrev pub torn_or_done : List ℕ → HelperStatus
torn_or_done [] = Done
torn_or_done (byte ∷ rest) = TornEnd

-- how the helper ends at what is left of a stream, by what stands in front of it
abbrev pub status_at : Front → List ℕ → HelperStatus
status_at (Whole body_len) rest = BadFrame
status_at (Bad announced) rest = BadFrame
status_at More rest = torn_or_done rest

-- the frames of these answers, and the end
abbrev pub served_split : List Host → Split → Transcript
served_split hosts parts = record {
  sent = frames (map from_child_body (answers_to hosts parts.bodies));
  status = if are_requests hosts parts.bodies then status_at (front longest_to_child parts.rest) parts.rest else BadFrame;
}

-- what is sent for a stream of frames of at most 1048576 bytes of body, and the end
unfoldable pub served : List Host → List ℕ → Transcript
served hosts stream = served_split hosts (split longest_to_child stream)

-- ---- the words and the data file

-- the text of the data file, which has at most 1048576 bytes
abbrev pub text_held : Option (List ℕ) → Result (List ℕ) HelperStatus
text_held None = Err FileFault
text_held (Some text) = if nat_lt 1048576 (length text) then Err FileTooLong else Ok text

-- the hosts of a text
abbrev pub hosts_or_fault : Result (List ℕ) HelperStatus → Result (List Host) HelperStatus
hosts_or_fault (Ok text) = ok_or (hosts_of text) BadFile
hosts_or_fault (Err fault) = Err fault

-- the hosts of the file at this path, or no hosts without one
unfoldable pub hosts_at : Option (List ℕ) → (List ℕ → Option (List ℕ)) → Result (List Host) HelperStatus
hosts_at None held = Ok []
hosts_at (Some path) held = hosts_or_fault (text_held (held path))

-- HELLO first, and then the answers
abbrev pub greeted : ChildWords → Result (List Host) HelperStatus → List ℕ → Transcript
greeted words (Ok hosts) stream = after (string (from_child_body (Hello words.job words.ticket))) (served hosts stream)
greeted words (Err fault) stream = ended fault

-- the data file is read before HELLO is sent
abbrev pub transcript_with : Option ChildWords → (List ℕ → Option (List ℕ)) → List ℕ → Transcript
transcript_with (Some words) held stream = greeted words (hosts_at words.last held) stream
transcript_with None held stream = ended Usage

-- what is sent, and the end: by the words, by what each path holds, and by all that the agent says
unfoldable pub transcript_of : List (List ℕ) → (List ℕ → Option (List ℕ)) → List ℕ → Transcript
transcript_of words held stream = transcript_with (words_of words) held stream
