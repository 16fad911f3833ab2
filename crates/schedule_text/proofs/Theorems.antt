-- What the run of a schedule cites of lines and their fields.
use Rattle.std.proofs.Common.{◌≡◌, ◌<◌, ℕ, Bool, true, false, if◌then◌else◌, List, [], ◌∷◌, length, Option, None, Some, ok_or, Result, Ok, Err, refl, subst, arith, codes, bytes_eq, ◌==◌, nat_lt}
use Rattle.std.proofs.lemmas.Bool.Decides.{nat_tests}
use Rattle.schedule_text.specs.declared.fault.LineFault.{LineFault}
use Rattle.schedule_text.specs.declared.fault.LineFault.TheVariants.{Hex, Memory, Number, TooLong}
use Rattle.schedule_text.specs.declared.step.Step.{Step}
use Rattle.schedule_text.specs.declared.step.Step.TheVariants.{End, Failed, Free, Hold, Skip, Started, Take}
use Rattle.schedule_text.specs.Fields.{fields_of}
use Rattle.schedule_text.specs.Lines.{◌>>=◌, at_step, format_step, hear_step, join_step, number_step, started_step, step_of, step_of_fields, step_of_short, take_step}
use Rattle.schedule_text.specs.Numbers.{bytes_of, number_of}
use Rattle.schedule_text.specs.Steps.{SaysSome}
use Rattle.schedule_text.proofs.NumberLemmas.{length-bytes_of}

-- an empty line is skipped
pub step_of-empty : step_of [] ≡ Ok Skip
unfolding step_of
step_of-empty = refl

-- a line of more than 65536 bytes is refused as too long, whatever it says
pub step_of-long : (line : List ℕ) → 65536 < length line → step_of line ≡ Err TooLong
unfolding step_of
step_of-long line long = grind (arith, nat_tests)

-- a step says something, and a refusal isn't for want of memory
abbrev IsSound : Result Step LineFault → Type 0
IsSound (Ok step) = SaysSome step
IsSound (Err Memory) = ⊥
IsSound (Err _) = Unit {0}

-- both sides of a choice are sound
IsSound-if : (test : Bool) (first second : Result Step LineFault) → IsSound first → IsSound second
    → IsSound (if test then first else second)
IsSound-if true first second sound_first sound_second = sound_first
IsSound-if false first second sound_first sound_second = sound_second

-- what follows a field is sound, and so is the fault of that field
IsSound-field : {A : Type 0} (read : Option A) (fault : LineFault) (next : A → Result Step LineFault)
    → IsSound (Err fault) → ((value : A) → read ≡ Some value → IsSound (next value)) → IsSound (ok_or read fault >>= next)
IsSound-field None fault next refusal sound = refusal
IsSound-field (Some value) fault next refusal sound = sound value refl

IsSound-at : (fields : List (List ℕ)) → IsSound (at_step fields)
IsSound-at [] = tt
IsSound-at (mono ∷ []) = tt
IsSound-at (mono ∷ wall ∷ []) =
    IsSound-field (number_of mono) Number _ tt (λ m _. IsSound-field (number_of wall) Number _ tt (λ w _. tt))
IsSound-at (mono ∷ wall ∷ next ∷ fields) = tt

IsSound-format : (fields : List (List ℕ)) → IsSound (format_step fields)
IsSound-format [] = tt
IsSound-format (format ∷ []) = IsSound-if (bytes_eq format (codes "2")) _ _ tt tt
IsSound-format (format ∷ next ∷ fields) = tt

IsSound-join : (fields : List (List ℕ)) → IsSound (join_step fields)
IsSound-join [] = tt
IsSound-join (name ∷ []) =
    IsSound-if (bytes_eq name (codes "client")) _ _ tt (IsSound-if (bytes_eq name (codes "child")) _ _ tt tt)
IsSound-join (name ∷ next ∷ fields) = tt

IsSound-hear : (fields : List (List ℕ)) → IsSound (hear_step fields)
IsSound-hear [] = tt
IsSound-hear (port ∷ []) = tt
IsSound-hear (port ∷ bytes ∷ []) =
    IsSound-field (number_of port) Number _ tt (λ n _. IsSound-field (bytes_of bytes) Hex _ tt (λ heard read. length-bytes_of bytes heard read))
IsSound-hear (port ∷ bytes ∷ next ∷ fields) = tt

IsSound-number : (step : ℕ → Step) → ((n : ℕ) → SaysSome (step n)) → (fields : List (List ℕ)) → IsSound (number_step step fields)
IsSound-number step says [] = tt
IsSound-number step says (field ∷ []) = IsSound-field (number_of field) Number _ tt (λ n _. says n)
IsSound-number step says (field ∷ next ∷ fields) = tt

-- by whether the count is 0
IsSound-count_by : (port count : ℕ) (test : Bool) → (count == 0) ≡ test
    → IsSound ((if test then Err Number else Ok count) >>= (λ n. Ok (Take port n)))
IsSound-count_by port count true is = tt
IsSound-count_by port count false is = grind (arith, nat_tests)

IsSound-count : (port : ℕ) (read : Option ℕ) → IsSound ((ok_or read Number >>= (λ n. if n == 0 then Err Number else Ok n)) >>= (λ n. Ok (Take port n)))
IsSound-count port None = tt
IsSound-count port (Some count) = IsSound-count_by port count (count == 0) refl

IsSound-take : (fields : List (List ℕ)) → IsSound (take_step fields)
IsSound-take [] = tt
IsSound-take (port ∷ []) = tt
IsSound-take (port ∷ count ∷ []) = IsSound-field (number_of port) Number _ tt (λ n _. IsSound-count n (number_of count))
IsSound-take (port ∷ count ∷ next ∷ fields) = tt

-- by whether the bytes are 16
IsSound-sixteen : (job : ℕ) (bytes : List ℕ) (test : Bool) → IsSound ((if test then Ok bytes else Err Hex) >>= (λ t. Ok (Started job t)))
IsSound-sixteen job bytes true = tt
IsSound-sixteen job bytes false = tt

IsSound-ticket : (job : ℕ) (read : Option (List ℕ)) → IsSound ((ok_or read Hex >>= (λ b. if length b == 16 then Ok b else Err Hex)) >>= (λ t. Ok (Started job t)))
IsSound-ticket job None = tt
IsSound-ticket job (Some bytes) = IsSound-sixteen job bytes (length bytes == 16)

IsSound-started : (fields : List (List ℕ)) → IsSound (started_step fields)
IsSound-started [] = tt
IsSound-started (job ∷ []) = tt
IsSound-started (job ∷ ticket ∷ []) = IsSound-field (number_of job) Number _ tt (λ j _. IsSound-ticket j (bytes_of ticket))
IsSound-started (job ∷ ticket ∷ next ∷ fields) = tt

IsSound-fields : (fields : List (List ℕ)) → IsSound (step_of_fields fields)
IsSound-fields [] = tt
IsSound-fields (word ∷ fields) =
    IsSound-if (bytes_eq word (codes "at")) _ _ (IsSound-at fields) (
    IsSound-if (bytes_eq word (codes "join")) _ _ (IsSound-join fields) (
    IsSound-if (bytes_eq word (codes "hear")) _ _ (IsSound-hear fields) (
    IsSound-if (bytes_eq word (codes "end")) _ _ (IsSound-number End (λ n. tt) fields) (
    IsSound-if (bytes_eq word (codes "hold")) _ _ (IsSound-number Hold (λ n. tt) fields) (
    IsSound-if (bytes_eq word (codes "free")) _ _ (IsSound-number Free (λ n. tt) fields) (
    IsSound-if (bytes_eq word (codes "take")) _ _ (IsSound-take fields) (
    IsSound-if (bytes_eq word (codes "started")) _ _ (IsSound-started fields) (
    IsSound-if (bytes_eq word (codes "failed")) _ _ (IsSound-number Failed (λ n. tt) fields) (
    IsSound-if (bytes_eq word (codes "schedule")) _ _ (IsSound-format fields) tt)))))))))

IsSound-short : (line : List ℕ) → IsSound (step_of_short line)
IsSound-short [] = tt
IsSound-short (first ∷ more) = IsSound-if (first == 35) _ _ tt (IsSound-fields (fields_of (first ∷ more)))

-- whatever a line says
IsSound-step_of : (line : List ℕ) → IsSound (step_of line)
unfolding step_of
IsSound-step_of line = IsSound-if (nat_lt 65536 (length line)) _ _ tt (IsSound-short line)

-- what a line says is heard or taken is one byte at least
pub step_says_some : (line : List ℕ) (step : Step) → step_of line ≡ Ok step → SaysSome step
step_says_some line step read = subst IsSound read (IsSound-step_of line)
