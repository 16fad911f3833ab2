-- What an audit of a record finds, and its report (ours: docs/PROTOCOL.md, "An audit"). The file is read from its end.
use Rattle.std.specs.Prelude.{ℕ, suc, List, [], ◌∷◌, ◌++◌, length, codes, decimal, Option, None, Some, if◌then◌else◌}
use Rattle.std.specs.List.{flat_map}
use Rattle.std.specs.Str.{bytes_eq}
use Rattle.agent_model.specs.State.{Settings}
use Rattle.hex.specs.Hex.{encode_lower}
use Rattle.schedule_text.specs.declared.fault.LineFault.{LineFault}
use Rattle.audit_core.specs.Puts.{puts}
use Rattle.audit_core.specs.declared.put.Put.{Put}
use Rattle.replay_run.specs.Replay.{output_of, parts_of, run_of}

-- ---- differences of texts

-- the first line at which the parts differ, the first of them being of this number: each but the last has its LF
abbrev pub difference_from : ℕ → List (List ℕ) → List (List ℕ) → Option ℕ
difference_from line [] [] = None
difference_from line [] (part ∷ parts) = Some line
difference_from line (part ∷ parts) [] = Some line
difference_from line (part ∷ []) (other ∷ []) = if bytes_eq part other then None else Some line
difference_from line (part ∷ []) (other ∷ next ∷ others) = Some line
difference_from line (part ∷ next ∷ parts) (other ∷ []) = Some line
difference_from line (part ∷ next ∷ parts) (other ∷ later ∷ others) =
    if bytes_eq part other then difference_from (suc line) (next ∷ parts) (later ∷ others)
    else Some line

-- the first line, from 1, at which two texts differ: a line with its LF differs from the same one without, and a missing
-- line differs
abbrev pub first_difference : List ℕ → List ℕ → Option ℕ
first_difference text other = difference_from 1 (parts_of text) (parts_of other)

-- ---- verdicts

-- the record is run to its end and prints these deeds, and this is all that was put in it; or the deeds differ from what
-- it prints, first at this line; or this line of the record is refused
pub data Verdict : Type 0 where
  Agrees : (puts : List Put) → Verdict
  Differs : (line : ℕ) → Verdict
  IsBad : (line : ℕ) → Verdict

-- by the run of the record, and where the deeds differ from what it prints
abbrev pub verdict_by : Option LineFault → Option ℕ → ℕ → List Put → Verdict
verdict_by (Some fault) difference line puts = IsBad line
verdict_by None (Some difference) line puts = Differs difference
verdict_by None None line puts = Agrees puts

-- what an audit of a record and of deeds finds, where identities that come without a lifetime live for so many seconds
abbrev pub verdict_of : Settings → List ℕ → List ℕ → Verdict
verdict_of settings text deeds =
    verdict_by (run_of settings text).refused (first_difference (output_of settings text) deeds)
    (run_of settings text).line (puts settings text)

-- ---- reports

-- the line of a signing request: the words and what stands behind each, from its end
abbrev pub key_part : Put → List ℕ
key_part put = codes " key " ++ (encode_lower put.blob ++ codes "\n")

-- the line from the word of its port on
abbrev pub port_part : Put → List ℕ
port_part put = codes " port " ++ (decimal put.port ++ key_part put)

-- the line from the word of its ask on
abbrev pub ask_part : Put → List ℕ
ask_part put = codes " ask " ++ (decimal put.ask ++ port_part put)

-- the line of a signing request, whole
unfoldable pub put_line : Put → List ℕ
put_line put = codes "sign " ++ (decimal put.line ++ ask_part put)

-- a line of a word with a space behind it, and a number
unfoldable pub number_line : List ℕ → ℕ → List ℕ
number_line word number = word ++ (decimal number ++ codes "\n")

-- the report
abbrev pub report : Verdict → List ℕ
report (Agrees puts) = flat_map put_line puts ++ number_line (codes "yes ") (length puts)
report (Differs line) = number_line (codes "no ") line
report (IsBad line) = number_line (codes "bad ") line
