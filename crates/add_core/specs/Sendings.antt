-- What is made of files: a request to add or to remove each key, one after another.
use Rattle.std.specs.Prelude.{ℕ, ◌+◌, ◌^◌, ◌-◌, min, nat_lt, List, [], ◌∷◌, ◌++◌, length, codes, Option, None, Some, Result, Ok, Err, if◌then◌else◌}
use Rattle.wire_text.specs.Wire.{string}
use Rattle.key_file.specs.declared.fault.KeyFileFault.{KeyFileFault}
use Rattle.key_file.specs.declared.fault.KeyFileFault.TheVariants as of_body
use Rattle.key_file.specs.declared.fault.PubFault.{PubFault}
use Rattle.key_file.specs.declared.fault.PubFault.TheVariants as of_line
use Rattle.key_file.specs.declared.private_part.KeyFile.{KeyFile}
use Rattle.key_file.specs.BodyReading.{file_of}
use Rattle.key_file.specs.PublicLines.{line_key}
use Rattle.agent_msg.specs.Requests.{Add as AddRequest}
use Rattle.agent_msg.specs.Writing.{request_body}
use Rattle.constraint_rec.specs.declared.terms.Terms.{Terms}
use Rattle.constraint_rec.specs.Writing.{MeetsRules}
use Rattle.add_core.specs.declared.fault.AddFault.{AddFault}
use Rattle.add_core.specs.declared.fault.AddFault.TheVariants.{File, FileTooLong, Body, Public}
use Rattle.add_core.specs.declared.fault.Stop.{Stop}
use Rattle.add_core.specs.declared.fault.Stop.TheVariants.{Fault, Memory}
use Rattle.add_core.specs.declared.sending.FileTask.{FileTask}
use Rattle.add_core.specs.declared.sending.FileTask.TheVariants.{Add, Remove}
use Rattle.add_core.specs.declared.sending.Sending.{Sending}
use Rattle.add_core.specs.Exchanges.{sized, stepped, requested}
use Rattle.add_core.specs.Steps.{Step, nothing, followed}

-- ---- files

-- the number of a place, as faults carry it
abbrev pub place_of : ℕ → ℕ
place_of place = min place (2 ^ 32 - 1)

-- the text of a file, which has at most so many bytes
abbrev pub text_held : ℕ → ℕ → Option (List ℕ) → Result (List ℕ) AddFault
text_held place most None = Err (File place)
text_held place most (Some text) =
    if nat_lt most (length text) then Err (FileTooLong place) else Ok text

-- ---- requests

-- the frame and the line of the code
abbrev pub sending_of : Sending → List ℕ × List ℕ
sending_of sending = (sending.frame.live, sending.line.items)

-- what is written of a key that was added
abbrev pub added_line : List ℕ → List ℕ → List ℕ
added_line path comment =
    codes "Identity added: " ++ (path ++ (codes " (" ++ (comment ++ codes ")\n")))

-- what is written of a key that was removed
abbrev pub removed_line : List ℕ → List ℕ
removed_line path = codes "Identity removed: " ++ (path ++ codes "\n")

-- the addition of a private key's file, under these constraints
abbrev pub addition_of : Terms → List ℕ → Result KeyFile KeyFileFault
    → Result (List ℕ × List ℕ) AddFault
addition_of terms path (Ok file) =
    sized (request_body (AddRequest record { key = file.key; comment = file.comment; terms = terms }))
    (added_line path file.comment)
addition_of terms path (Err fault) = Err (Body fault)

-- the removal of a public key
abbrev pub removal_of : List ℕ → Result (List ℕ) PubFault → Result (List ℕ × List ℕ) AddFault
removal_of path (Ok blob) = sized (18 ∷ string blob) (removed_line path)
removal_of path (Err fault) = Err (Public fault)

-- what is sent for a file of this text, and what is written where that is done
abbrev pub sent_for : FileTask → List ℕ → List ℕ → Result (List ℕ × List ℕ) AddFault
sent_for (Add terms) path text = addition_of terms path (file_of text)
sent_for Remove path text = removal_of path (line_key text)

-- the constraints are such as can be written
abbrev pub IsDoable : FileTask → Type 0
IsDoable (Add terms) = MeetsRules terms
IsDoable Remove = Unit {0}

-- ---- one file after another

-- a file, at this place
abbrev pub file_step : FileTask → (List ℕ → Option (List ℕ)) → ℕ → List ℕ → List ℕ → Step
file_step task held place path replies =
    stepped (text_held (place_of place) 1048576 (held path)) (λ text.
    stepped (sent_for task path text) (λ made. requested made.0 made.1 replies))

-- the files from this place on
abbrev pub each_file : FileTask → (List ℕ → Option (List ℕ)) → ℕ → List (List ℕ) → List ℕ → Step
each_file task held place [] replies = nothing replies
each_file task held place (path ∷ paths) replies =
    followed (file_step task held place path replies) (each_file task held (place + 1) paths)

-- ---- faults

-- the fault of a private key's file; want of memory is the tool's
abbrev pub body_stop : KeyFileFault → Stop
body_stop of_body.Memory = Memory
body_stop fault = Fault (Body fault)

-- the fault of a public key's file; want of memory is the tool's
abbrev pub line_stop : PubFault → Stop
line_stop of_line.Memory = Memory
line_stop fault = Fault (Public fault)
