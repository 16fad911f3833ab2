-- Lemmas on a run that is fed with pieces.
use Rattle.std.proofs.Common.{◌≡◌, ℕ, ◌+◌, ◌<◌, ◌⊎◌, List, [], ◌∷◌, ◌++◌, length, ap, sym, ◌∙◌, arith, None, true, ◌==◌, OnOk, Result, Ok, Err, append_assoc, length-append}
use Rattle.std.proofs.lemmas.List.{nil_from_length}
use Rattle.std.proofs.lemmas.Bool.Decides.{nat_tests}
use Rattle.std.specs.declared.alloc.AllocError.{AllocError}
use Rattle.schedule_text.specs.declared.fault.LineFault.TheVariants.{TooLong}
use Rattle.replay_run.specs.Replay.{Run, output, refuse, turned, longest_line, longest_schedule}
use Rattle.replay_run.specs.Counts.{IsCounted}
use Rattle.replay_run.specs.GoesOn.{HasNoLf, GoesOn}
use Rattle.replay_run.specs.Feeding.{IsReady}
use Rattle.replay_run.proofs.RunCounts.{turned-next}
use Rattle.replay_run.proofs.GoesOnLemmas.{no_lf-append, goes_on-line, goes_on-too_long}

-- the line that waits, ended by these bytes, is run
pub line_goes : (out pending line whole : List ℕ) (run : Run) (size : ℕ) (new_out : List ℕ) (new_run : Run) (left : List ℕ)
    → HasNoLf pending → HasNoLf line → whole ≡ pending ++ line → size ≡ length whole + 1
    → new_run ≡ (turned whole size run).run → new_out ≡ out ++ output (turned whole size run)
    → left ≡ [] → GoesOn out run (pending ++ (line ++ 10 ∷ [])) new_out new_run left
line_goes out pending line whole run size new_out new_run left waits part whole_is size_is run_is out_is left_is =
    let runs = goes_on-line out run (pending ++ line) [] (no_lf-append pending line waits part) in
    let size_of : size ≡ length (pending ++ line) + 1 = size_is ∙ ap (λ (w : List ℕ). length w + 1) whole_is in
    rw (run_is, out_is, left_is, size_of, whole_is, ← (append_assoc pending line (10 ∷ []))) runs

-- the run that follows is ready for more
pub line_ready : (whole : List ℕ) (size : ℕ) (run : Run) (out left : List ℕ) (new_run : Run)
    → IsCounted run → 0 < size → new_run ≡ (turned whole size run).run → left ≡ []
    → new_run.refused ≡ None → IsReady (record { run = new_run; pending = left; out = out })
line_ready whole size run out left new_run counted some run_is left_is accepted =
    let next : IsCounted new_run = rw run_is (turned-next whole size run some counted (rw (← run_is) accepted)).counted in
    record {
      counted = next;
      begun = rw left_is (record { part = tt; short = omega arith; within = omega (arith, next.within) });
    }

-- a line goes on through the answer of a call, where that one is Ok
pub line_goes_ok : (result : Result (Unit {0}) AllocError) (out pending line whole : List ℕ) (run : Run) (size : ℕ) (new_out : List ℕ) (new_run : Run) (left : List ℕ)
    → HasNoLf pending → HasNoLf line → whole ≡ pending ++ line → size ≡ length whole + 1
    → OnOk result (new_run ≡ (turned whole size run).run)
    → OnOk result (new_out ≡ out ++ output (turned whole size run)) → left ≡ []
    → OnOk result (GoesOn out run (pending ++ (line ++ 10 ∷ [])) new_out new_run left)
line_goes_ok (Ok done) out pending line whole run size new_out new_run left waits part whole_is size_is run_is out_is left_is =
    line_goes out pending line whole run size new_out new_run left waits part whole_is size_is run_is out_is left_is
line_goes_ok (Err memory) out pending line whole run size new_out new_run left waits part whole_is size_is run_is out_is left_is = tt

pub line_ready_ok : (result : Result (Unit {0}) AllocError) (whole : List ℕ) (size : ℕ) (run : Run) (out left : List ℕ) (new_run : Run)
    → IsCounted run → 0 < size → OnOk result (new_run ≡ (turned whole size run).run) → left ≡ []
    → OnOk result (new_run.refused ≡ None → IsReady (record { run = new_run; pending = left; out = out }))
line_ready_ok (Ok done) whole size run out left new_run counted some run_is left_is =
    λ accepted. line_ready whole size run out left new_run counted some run_is left_is accepted
line_ready_ok (Err memory) whole size run out left new_run counted some run_is left_is = tt

-- a line that waits and is too long by now is refused
pub late_goes_ok : (result : Result (Unit {0}) AllocError) (out bytes : List ℕ) (run : Run) (new_out : List ℕ) (new_run : Run) (left : List ℕ)
    → HasNoLf bytes → IsCounted run
    → (longest_line < length bytes) ⊎ (longest_schedule < run.read + length bytes)
    → OnOk result (new_run ≡ (refuse TooLong run).run)
    → OnOk result (new_out ≡ out ++ output (refuse TooLong run))
    → OnOk result (GoesOn out run bytes new_out new_run left)
late_goes_ok (Ok done) out bytes run new_out new_run left part counted long run_is out_is =
    rw (run_is, out_is) (goes_on-too_long out run bytes left part counted.accepted counted.within long)
late_goes_ok (Err memory) out bytes run new_out new_run left part counted long run_is out_is = tt

-- bytes of no length are none
pub is_nothing : (xs ys : List ℕ) → true ≡ (length xs == 0) → xs ≡ ys → ys ≡ []
is_nothing xs ys empty same =
    let none : length xs ≡ 0 = grind (arith, nat_tests) in
    sym same ∙ nil_from_length xs none

-- and its bytes are counted
pub line_size : (pending line whole : List ℕ) (size : ℕ) (run : Run) (left : List ℕ) (new_run : Run)
    → IsCounted run → whole ≡ pending ++ line → size ≡ length whole + 1
    → new_run ≡ (turned whole size run).run → left ≡ [] → new_run.refused ≡ None
    → new_run.read + length left ≡ (run.read + length pending) + length (line ++ 10 ∷ [])
line_size pending line whole size run left new_run counted whole_is size_is run_is left_is accepted =
    let next : new_run.read ≡ run.read + size = rw run_is (turned-next whole size run (omega arith) counted (rw (← run_is) accepted)).read in
    let length_is : length whole ≡ length (pending ++ line) = ap (λ (w : List ℕ). length w) whole_is in
    rw left_is (omega (arith, length-append pending line, length-append line (10 ∷ [])))

pub line_size_ok : (result : Result (Unit {0}) AllocError) (pending line whole : List ℕ) (size : ℕ) (run : Run) (left : List ℕ) (new_run : Run)
    → IsCounted run → whole ≡ pending ++ line → size ≡ length whole + 1
    → OnOk result (new_run ≡ (turned whole size run).run) → left ≡ []
    → OnOk result (new_run.refused ≡ None → new_run.read + length left ≡ (run.read + length pending) + length (line ++ 10 ∷ []))
line_size_ok (Ok done) pending line whole size run left new_run counted whole_is size_is run_is left_is = λ accepted. line_size pending line whole size run left new_run counted whole_is size_is run_is left_is accepted
line_size_ok (Err memory) pending line whole size run left new_run counted whole_is size_is run_is left_is = tt
