-- The list of keys (ours): a public key's line each, and empty lines.
use Rattle.std.specs.Prelude.{◌≡◌, ℕ, suc, List, [], ◌∷◌, Option, Some, None, Result, Ok, Err}
use Rattle.std.specs.BTreeSet.{insert_key}
use Rattle.std.specs.Cmp.Lexicographic.{slice_cmp}
use Rattle.std.specs.Ordering.{nat_cmp}
use Rattle.key_file.specs.PublicLines.{line_key, parts}
use Rattle.key_file.specs.declared.fault.PubFault.{PubFault}
use Rattle.filter_top.specs.declared.list.ListFault.{ListFault}
use Rattle.filter_top.specs.declared.list.ListFault.TheVariants as faults
use denote.Ref.{Bor}

-- the lines of what is left of a text, where something is
abbrev pub lines_left : Option (Bor (List ℕ)) → List (List ℕ)
lines_left None = []
lines_left (Some rest) = parts 10 rest.now

-- by what a line of this number is
abbrev pub blobs_by : (List ℕ → Result (List (List ℕ)) (ℕ × PubFault)) → ℕ → Result (List ℕ) PubFault → Result (List (List ℕ)) (ℕ × PubFault)
blobs_by next number (Ok blob) = next blob
blobs_by next number (Err fault) = Err (number, fault)

-- the blobs in order, with one more, unless it is there
abbrev pub with_blob : List (List ℕ) → List ℕ → List (List ℕ)
with_blob blobs blob = insert_key (slice_cmp nat_cmp) blobs blob

-- the blobs so far, with those of these lines, the first of which has this number; or the number of the first line that
-- is no public key's, and why. An empty line is passed over
abbrev pub blobs_onto : List (List ℕ) → ℕ → List (List ℕ) → Result (List (List ℕ)) (ℕ × PubFault)
blobs_onto blobs number [] = Ok blobs
blobs_onto blobs number ([] ∷ lines) = blobs_onto blobs (suc number) lines
blobs_onto blobs number ((byte ∷ bytes) ∷ lines) =
    blobs_by (λ blob. blobs_onto (with_blob blobs blob) (suc number) lines) number (line_key (byte ∷ bytes))

-- the blobs that a list has, each once and in order, its lines counted from 1
abbrev pub blobs_in : List ℕ → Result (List (List ℕ)) (ℕ × PubFault)
blobs_in text = blobs_onto [] 1 (parts 10 text)

-- the most bytes of a list
abbrev pub longest_list : ℕ
longest_list = 1048576

-- memory ran out, or this is the first line that is refused, and why
abbrev pub IsRefusal : ListFault → Result (List (List ℕ)) (ℕ × PubFault) → Type 0
IsRefusal (faults.Line line fault) read = read ≡ Err (line, fault)
IsRefusal faults.Memory read = Unit {0}

-- a line was read: what is left gives the same, or it is refused
abbrev pub Puts : {T : Type 0} → Result T ListFault → Result (List (List ℕ)) (ℕ × PubFault) → Result (List (List ℕ)) (ℕ × PubFault) → Type 0
Puts (Ok done) all left = left ≡ all
Puts (Err fault) all left = IsRefusal fault all
