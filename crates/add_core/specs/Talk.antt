-- The tool as a whole: one function of the words, of whether there is an agent, of what the files hold,
-- of the input and of the agent's bytes (ssh-add(1); the texts and the last line on the errors are ours).
use Rattle.std.specs.Prelude.{◌≡◌, ◌⊎◌, ℕ, Bool, true, false, List, [], ◌++◌, codes, Option, None, Some, Result, Ok, Err}
use Rattle.std.specs.Io.KnownBytes.{Appends}
use Rattle.world_ports.specs.Causes.{Rose}
use Rattle.world_ports.specs.Streams.{StreamView, WritesPart, reading_view}
use Rattle.add_words.specs.declared.command.Command.{Command}
use Rattle.add_words.specs.declared.command.Command.TheVariants as does
use Rattle.add_words.specs.Words.{PlainWords, words_of}
use Rattle.add_core.specs.declared.fault.AddFault.{AddFault}
use Rattle.add_core.specs.declared.fault.AddFault.TheVariants as why
use Rattle.add_core.specs.declared.fault.AddStatus.{AddStatus}
use Rattle.add_core.specs.declared.fault.AddStatus.TheVariants.{Done, Failed, NoAgent, Memory}
use Rattle.add_core.specs.declared.fault.Stop.{Stop}
use Rattle.add_core.specs.declared.fault.Stop.TheVariants as of_stop
use Rattle.add_core.specs.declared.listing.Listing.TheVariants.{Fingerprints, Keys}
use Rattle.add_core.specs.declared.sending.FileTask.TheVariants.{Add, Remove}
use Rattle.add_core.specs.Exchanges.{stepped}
use Rattle.add_core.specs.Listings.{list_step}
use Rattle.add_core.specs.Locks.{lock_step, remove_all_step}
use Rattle.add_core.specs.Restrictions.{terms_for}
use Rattle.add_core.specs.Sendings.{each_file}
use Rattle.add_core.specs.Steps.{Step, Follows}

-- ---- steps

-- the files of known hosts and the destinations, and then the files of keys
abbrev pub add_step : PlainWords → (List ℕ → Option (List ℕ)) → List ℕ → Step
add_step words held replies =
    stepped (terms_for words held) (λ terms. each_file (Add terms) held 0 words.files replies)

-- what is done for a command
abbrev pub step_for : Command → PlainWords → (List ℕ → Option (List ℕ)) → List ℕ → List ℕ → Step
step_for does.Add words held input replies = add_step words held replies
step_for does.Remove words held input replies = each_file Remove held 0 words.files replies
step_for does.RemoveAll words held input replies = remove_all_step replies
step_for does.List words held input replies = list_step Fingerprints replies
step_for does.ListKeys words held input replies = list_step Keys replies
step_for does.Lock words held input replies = lock_step true input replies
step_for does.Unlock words held input replies = lock_step false input replies

-- what is done for the command of the words
abbrev pub run_step : PlainWords → (List ℕ → Option (List ℕ)) → List ℕ → List ℕ → Step
run_step words held input replies = step_for words.command words held input replies

-- the command writes a list, which goes to the output; what others tell goes to the errors
abbrev pub is_list : Command → Bool
is_list does.List = true
is_list does.ListKeys = true
is_list does.Add = false
is_list does.Remove = false
is_list does.RemoveAll = false
is_list does.Lock = false
is_list does.Unlock = false

-- ---- the whole

-- what the tool does: the bytes that it sends and writes, and how it ends
pub record Transcript : Type 0 where
  pub sent : List ℕ
  pub output : List ℕ
  -- the errors without the last line
  pub lines : List ℕ
  pub status : AddStatus

-- the word of a fault in the last line on the errors
abbrev pub word_of : AddFault → List ℕ
word_of why.Usage = codes "usage"
word_of (why.File place) = codes "file"
word_of (why.FileTooLong place) = codes "filetoolong"
word_of (why.Body fault) = codes "body"
word_of (why.Public fault) = codes "public"
word_of (why.Destination fault) = codes "destination"
word_of (why.Purpose fault) = codes "purpose"
word_of why.EmptyPassphrase = codes "emptypassphrase"
word_of why.LongPassphrase = codes "longpassphrase"
word_of why.TooLong = codes "toolong"
word_of why.Refused = codes "refused"
word_of why.BadReply = codes "badreply"
word_of why.NoIdentities = codes "noidentities"
word_of why.PeerFault = codes "peerfault"
word_of why.InputFault = codes "inputfault"
word_of why.OutputFault = codes "outputfault"

-- the last line on the errors: of each fault but that there are no identities
abbrev pub last_line : AddStatus → List ℕ
last_line Done = []
last_line NoAgent = []
last_line Memory = []
last_line (Failed why.NoIdentities) = []
last_line (Failed fault) = codes "ssh-add: " ++ (word_of fault ++ codes "\n")

-- how the tool ends after the last step
abbrev pub status_of : Option AddFault → AddStatus
status_of None = Done
status_of (Some fault) = Failed fault

-- how the tool ends after the code's answer
abbrev pub ended : {T : Type 0} → Result T Stop → AddStatus
ended (Ok value) = Done
ended (Err of_stop.Memory) = Memory
ended (Err (of_stop.Fault fault)) = Failed fault

-- the transcript of a tool that sends nothing and writes the last line alone
abbrev pub only_ends : AddStatus → Transcript
only_ends status = record { sent = []; output = []; lines = []; status = status }

-- the transcript of a step, by whether what it tells goes to the output or to the errors
abbrev pub told_by : Bool → Step → Transcript
told_by true step =
    record { sent = step.sent; output = step.told; lines = []; status = status_of step.fault }
told_by false step =
    record { sent = step.sent; output = []; lines = step.told; status = status_of step.fault }

-- the transcript of words of the tool's form, by whether there is an agent
abbrev pub talk_with : Bool → PlainWords → (List ℕ → Option (List ℕ)) → List ℕ → List ℕ → Transcript
talk_with true words held input replies = told_by (is_list words.command) (run_step words held input replies)
talk_with false words held input replies = only_ends NoAgent

-- the transcript of words, where they are of the tool's form
abbrev pub talk_for : Option PlainWords → Bool → (List ℕ → Option (List ℕ)) → List ℕ → List ℕ → Transcript
talk_for None has_agent held input replies = only_ends (Failed why.Usage)
talk_for (Some words) has_agent held input replies = talk_with has_agent words held input replies

-- the transcript for words, whether there is an agent, the files, the input and the agent's bytes
abbrev pub talk : List (List ℕ) → Bool → (List ℕ → Option (List ℕ)) → List ℕ → List ℕ → Transcript
talk words has_agent held input replies = talk_for (words_of words) has_agent held input replies

-- ---- what the code does

-- a step that is told to the output or to the errors
abbrev pub Runs : {T : Type 0} → Bool → Result T Stop → Step → StreamView → StreamView → StreamView
    → StreamView → StreamView → StreamView → Type 0
Runs true result step peer0 peer1 output0 output1 errors0 errors1 =
    Follows result step peer0 peer1 output0 output1 × (errors1 ≡ errors0)
Runs false result step peer0 peer1 output0 output1 errors0 errors1 =
    Follows result step peer0 peer1 errors0 errors1 × (output1 ≡ output0)

-- a front of the text was written, and all of it unless a write failed
pub record WritesAllOrFails (text : List ℕ) (before now : StreamView) : Type 0 where
  pub part : WritesPart text before now
  pub all : Rose before.write_faults now.write_faults ⊎ Appends before.written now.written text

-- all of it was done; of the last line a front where a write of it failed
pub record IsDone (t : Transcript) (peer0 peer1 output0 output1 errors0 errors1 : StreamView) : Type 0
  where
    pub sent : Appends peer0.written peer1.written t.sent
    pub output : Appends output0.written output1.written t.output
    pub errors : WritesAllOrFails (t.lines ++ last_line t.status) errors0 errors1

-- a front of it was done, and then at most the last line was written
pub record IsCutOff (t : Transcript) (last : List ℕ)
    (peer0 peer1 output0 output1 errors0 errors1 : StreamView) : Type 0 where
  pub sent : WritesPart t.sent peer0 peer1
  pub output : WritesPart t.output output0 output1
  pub lines : List ℕ
  pub rest : List ℕ
  pub front : lines ++ rest ≡ t.lines
  pub errors : WritesPart (lines ++ last) errors0 errors1

-- the end is the transcript's, and all of it was done
pub record IsEnd (status : AddStatus) (t : Transcript)
    (peer0 peer1 output0 output1 errors0 errors1 : StreamView) : Type 0 where
  pub status_is : status ≡ t.status
  pub done : IsDone t peer0 peer1 output0 output1 errors0 errors1

-- what an answer says of the transcript: where a file, the connection, the input or an output failed,
-- or memory ran out, a front of it was done
abbrev pub Ends : AddStatus → Transcript → StreamView → StreamView → StreamView → StreamView
    → StreamView → StreamView → Type 0
Ends Memory t p0 p1 o0 o1 e0 e1 = IsCutOff t [] p0 p1 o0 o1 e0 e1
Ends (Failed (why.File place)) t p0 p1 o0 o1 e0 e1 =
    IsCutOff t (last_line (Failed (why.File place))) p0 p1 o0 o1 e0 e1
Ends (Failed why.PeerFault) t p0 p1 o0 o1 e0 e1 =
    IsCutOff t (last_line (Failed why.PeerFault)) p0 p1 o0 o1 e0 e1
Ends (Failed why.InputFault) t p0 p1 o0 o1 e0 e1 =
    IsCutOff t (last_line (Failed why.InputFault)) p0 p1 o0 o1 e0 e1
Ends (Failed why.OutputFault) t p0 p1 o0 o1 e0 e1 =
    IsCutOff t (last_line (Failed why.OutputFault)) p0 p1 o0 o1 e0 e1
Ends status t p0 p1 o0 o1 e0 e1 = IsEnd status t p0 p1 o0 o1 e0 e1

-- what an agent tells, where there is one
abbrev pub agent_seen : Option StreamView → StreamView
agent_seen (Some seen) = seen
agent_seen None = reading_view None 0
