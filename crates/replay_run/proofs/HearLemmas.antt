-- What a line lets be heard are bytes.
use Rattle.std.proofs.Common.{◌≡◌, ◌<◌, ℕ, Bool, true, false, if◌then◌else◌, List, [], ◌∷◌, length, Option, None, Some, ok_or, Result, Ok, Err, refl, subst, codes, bytes_eq, ◌==◌, nat_lt}
use Rattle.std.specs.Result.{result_ok}
use Rattle.std.proofs.lemmas.List.Elements.{All-from_get_or}
use Rattle.hex.specs.Hex.{decode_of}
use Rattle.hex.specs.declared.error.FromHexError.{FromHexError}
use Rattle.hex.proofs.HexLemmas.{decode_of-ok}
use Rattle.wire_text.specs.Wire.{IsBytes}
use Rattle.schedule_text.specs.declared.fault.LineFault.{LineFault}
use Rattle.schedule_text.specs.declared.fault.LineFault.TheVariants.{Hex, Number, TooLong}
use Rattle.schedule_text.specs.declared.step.Step.{Step}
use Rattle.schedule_text.specs.declared.step.Step.TheVariants.{Skip, Format2, At, Join, Hear, End, Hold, Free, Take, Started, Failed}
use Rattle.schedule_text.specs.Fields.{fields_of}
use Rattle.schedule_text.specs.Lines.{◌>>=◌, at_step, format_step, hear_step, join_step, number_step, started_step, step_of, step_of_fields, step_of_short, take_step}
use Rattle.schedule_text.specs.Numbers.{bytes_of, number_of}

-- ---- a field

-- the result that an option was made from
result_of : (result : Result (List ℕ) FromHexError) (bytes : List ℕ) → result_ok result ≡ Some bytes
    → result ≡ Ok bytes
result_of (Ok read) bytes same = cc
result_of (Err fault) bytes same = cc same

field-bytes : (field bytes : List ℕ) → bytes_of field ≡ Some bytes → IsBytes bytes
field-bytes [] bytes read = cc read
field-bytes (digit ∷ digits) bytes read =
    let small = (decode_of-ok (digit ∷ digits) bytes (result_of (decode_of (digit ∷ digits)) bytes read)).3 in
    All-from_get_or (λ byte. byte < 256) bytes 0 (λ i within. small i)

-- ---- a line

-- what the step hears are bytes
abbrev pub HearsBytes : Step → Type 0
HearsBytes (Hear port bytes) = IsBytes bytes
HearsBytes _ = Unit {0}

-- so where a line is read
abbrev IsFine : Result Step LineFault → Type 0
IsFine (Ok step) = HearsBytes step
IsFine (Err fault) = Unit {0}

fine-if : (test : Bool) (first second : Result Step LineFault) → IsFine first → IsFine second
    → IsFine (if test then first else second)
fine-if true first second is also = is
fine-if false first second is also = also

-- what follows a field is so
fine-field : {A : Type 0} (read : Option A) (fault : LineFault) (next : A → Result Step LineFault)
    → ((value : A) → read ≡ Some value → IsFine (next value)) → IsFine (ok_or read fault >>= next)
fine-field None fault next fine = tt
fine-field (Some value) fault next fine = fine value refl

-- a step that hears nothing
fine-then : {A : Type 0} (read : Result A LineFault) (next : A → Step) → ((value : A) → HearsBytes (next value))
    → IsFine (read >>= (λ value. Ok (next value)))
fine-then (Ok value) next fine = fine value
fine-then (Err fault) next fine = tt

fine-at : (fields : List (List ℕ)) → IsFine (at_step fields)
fine-at [] = tt
fine-at (mono ∷ []) = tt
fine-at (mono ∷ wall ∷ []) = fine-field (number_of mono) Number _ (λ m _. fine-field (number_of wall) Number _ (λ w _. tt))
fine-at (mono ∷ wall ∷ next ∷ fields) = tt

fine-format : (fields : List (List ℕ)) → IsFine (format_step fields)
fine-format [] = tt
fine-format (format ∷ []) = fine-if (bytes_eq format (codes "2")) _ _ tt tt
fine-format (format ∷ next ∷ fields) = tt

fine-join : (fields : List (List ℕ)) → IsFine (join_step fields)
fine-join [] = tt
fine-join (name ∷ []) =
    fine-if (bytes_eq name (codes "client")) _ _ tt (fine-if (bytes_eq name (codes "child")) _ _ tt tt)
fine-join (name ∷ next ∷ fields) = tt

fine-hear : (fields : List (List ℕ)) → IsFine (hear_step fields)
fine-hear [] = tt
fine-hear (port ∷ []) = tt
fine-hear (port ∷ bytes ∷ []) =
    fine-field (number_of port) Number _ (λ n _. fine-field (bytes_of bytes) Hex _ (λ heard read. field-bytes bytes heard read))
fine-hear (port ∷ bytes ∷ next ∷ fields) = tt

fine-number : (step : ℕ → Step) → ((n : ℕ) → HearsBytes (step n)) → (fields : List (List ℕ)) → IsFine (number_step step fields)
fine-number step fine [] = tt
fine-number step fine (field ∷ []) = fine-field (number_of field) Number _ (λ n _. fine n)
fine-number step fine (field ∷ next ∷ fields) = tt

fine-take : (fields : List (List ℕ)) → IsFine (take_step fields)
fine-take [] = tt
fine-take (port ∷ []) = tt
fine-take (port ∷ count ∷ []) =
    fine-field (number_of port) Number _ (λ n _. fine-then _ (λ (c : ℕ). Take n c) (λ c. tt))
fine-take (port ∷ count ∷ next ∷ fields) = tt

fine-started : (fields : List (List ℕ)) → IsFine (started_step fields)
fine-started [] = tt
fine-started (job ∷ []) = tt
fine-started (job ∷ ticket ∷ []) =
    fine-field (number_of job) Number _ (λ j _. fine-then _ (λ (t : List ℕ). Started j t) (λ t. tt))
fine-started (job ∷ ticket ∷ next ∷ fields) = tt

fine-fields : (fields : List (List ℕ)) → IsFine (step_of_fields fields)
fine-fields [] = tt
fine-fields (word ∷ fields) =
    fine-if (bytes_eq word (codes "at")) _ _ (fine-at fields) (
    fine-if (bytes_eq word (codes "join")) _ _ (fine-join fields) (
    fine-if (bytes_eq word (codes "hear")) _ _ (fine-hear fields) (
    fine-if (bytes_eq word (codes "end")) _ _ (fine-number End (λ n. tt) fields) (
    fine-if (bytes_eq word (codes "hold")) _ _ (fine-number Hold (λ n. tt) fields) (
    fine-if (bytes_eq word (codes "free")) _ _ (fine-number Free (λ n. tt) fields) (
    fine-if (bytes_eq word (codes "take")) _ _ (fine-take fields) (
    fine-if (bytes_eq word (codes "started")) _ _ (fine-started fields) (
    fine-if (bytes_eq word (codes "failed")) _ _ (fine-number Failed (λ n. tt) fields) (
    fine-if (bytes_eq word (codes "schedule")) _ _ (fine-format fields) tt)))))))))

fine-short : (line : List ℕ) → IsFine (step_of_short line)
fine-short [] = tt
fine-short (first ∷ rest) = fine-if (first == 35) _ _ tt (fine-fields (fields_of (first ∷ rest)))

fine-line : (line : List ℕ) → IsFine (step_of line)
unfolding step_of
fine-line line = fine-if (nat_lt 65536 (length line)) _ _ tt (fine-short line)

pub line-bytes : (line : List ℕ) (step : Step) → step_of line ≡ Ok step → HearsBytes step
line-bytes line step read = subst IsFine read (fine-line line)
