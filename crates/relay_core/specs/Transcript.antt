-- What a relay sends, which program it runs, and how it ends: a function of its words, of all that the agent says, and
-- of how the run ended (ours). `transcript_of` is the last definition.
use Rattle.std.specs.Prelude.{ℕ, Bool, true, false, List, [], ◌++◌, Option, Some, None, Result, Ok, Err}
use Rattle.child_msg.specs.ChildFrames.{from_child_body}
use Rattle.child_msg.specs.Messages.{FromChildMessage, Hello, Granted, Denied}
use Rattle.child_peer.specs.Words.{ChildWords, words_of}
use Rattle.relay_core.specs.Prompts.{prompt_of}
use Rattle.relay_core.specs.Verdicts.{verdict_of}
use Rattle.relay_core.specs.declared.status.RelayStatus.{RelayStatus}
use Rattle.relay_core.specs.declared.status.RelayStatus.TheVariants.{Done, BadFrame, Usage, TornEnd}
use Rattle.wire_text.specs.Bounds.{longest_to_child}
use Rattle.wire_text.specs.Frames.{Front, Whole, Bad, More, front, front_body}
use Rattle.wire_text.specs.Wire.{string}
use Rattle.world_ports.specs.declared.spawner.Ran.{Ran}
use Rattle.world_ports.specs.declared.spawner.SpawnFault.{SpawnFault}

-- a run of a program with one word
pub record Asking : Type 0 where
  pub program : List ℕ
  pub word : List ℕ

-- the bytes that are sent, the one run that is made, and how the relay ends
pub record Transcript : Type 0 where
  pub sent : List ℕ
  pub asked : Option Asking
  pub status : RelayStatus

-- how a run ended
abbrev pub RunAnswer : Type 0
RunAnswer = Result Ran SpawnFault

-- the run says that the user consents; one that didn't come to its end doesn't
abbrev pub is_granted : RunAnswer → Bool
is_granted (Ok ran) = verdict_of ran.status ran.output
is_granted (Err fault) = false

-- the message that tells the agent whether the user consents
abbrev pub verdict_message : ℕ → Bool → FromChildMessage
verdict_message job true = Granted job
verdict_message job false = Denied job

-- the frame of HELLO, with the job and the ticket of the words
abbrev pub hello_frame : ChildWords → List ℕ
hello_frame words = string (from_child_body (Hello words.job words.ticket))

-- the frame that tells the agent how the run ended
abbrev pub verdict_frame : ChildWords → RunAnswer → List ℕ
verdict_frame words answer = string (from_child_body (verdict_message words.job (is_granted answer)))

-- the transcript of a relay that sends HELLO alone and ends so
abbrev pub only_greeted : ChildWords → RelayStatus → Transcript
only_greeted words status = record { sent = hello_frame words; asked = None; status = status }

-- the transcript where the program is run with the prompt and the agent told, or where there is no prompt
abbrev pub asked_with : ChildWords → List ℕ → Option (List ℕ) → RunAnswer → Transcript
asked_with words program (Some prompt) answer = record {
  sent = hello_frame words ++ verdict_frame words answer;
  asked = Some record { program = program; word = prompt };
  status = Done;
}
asked_with words program None answer = only_greeted words BadFrame

-- the transcript for what stands in front of the agent's stream, whose bodies have at most 1048576 bytes
abbrev pub heard_from : ChildWords → List ℕ → Front → List ℕ → RunAnswer → Transcript
heard_from words program (Whole body_len) stream answer = asked_with words program (prompt_of words.job (front_body body_len stream)) answer
heard_from words program (Bad announced) stream answer = only_greeted words BadFrame
heard_from words program More stream answer = only_greeted words TornEnd

-- the transcript of a relay with these words, over the agent's stream and how the run ended
unfoldable pub heard_of : ChildWords → List ℕ → List ℕ → RunAnswer → Transcript
heard_of words program stream answer = heard_from words program (front longest_to_child stream) stream answer

-- the transcript of words that aren't a relay's: nothing is sent
abbrev pub refused : Transcript
refused = record { sent = []; asked = None; status = Usage }

-- the transcript of a relay whose last word, where it is there, is the program that asks the user
abbrev pub heard_with : ChildWords → Option (List ℕ) → List ℕ → RunAnswer → Transcript
heard_with words (Some program) stream answer = heard_of words program stream answer
heard_with words None stream answer = refused

-- the words of a child process
abbrev pub transcript_with : Option ChildWords → List ℕ → RunAnswer → Transcript
transcript_with (Some words) stream answer = heard_with words words.last stream answer
transcript_with None stream answer = refused

-- what is sent, which run is made, and the end: by the words, all that the agent says, and how the run ended
unfoldable pub transcript_of : List (List ℕ) → List ℕ → RunAnswer → Transcript
transcript_of words stream answer = transcript_with (words_of words) stream answer

-- the program that asks the user
abbrev pub program_in : Option ChildWords → Option (List ℕ)
program_in (Some words) = words.last
program_in None = None

-- the program that asks the user, where these are the words of a relay
abbrev pub program_of : List (List ℕ) → Option (List ℕ)
program_of words = program_in (words_of words)
