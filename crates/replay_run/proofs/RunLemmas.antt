-- Lemmas on the run of a schedule: a line at the front, and runs that were refused.
use Rattle.std.proofs.Common.{◌≡◌, ℕ, ◌+◌, ◌<◌, ◌≤◌, ◌⊎◌, inl, inr, List, [], ◌∷◌, ◌++◌, length, refl, ap, sym, ◌∙◌, arith, Some, None, Bool, true, false, nat_lt, ◌==◌, cond, if◌then◌else◌, Ok, Err, append_assoc}
use Rattle.std.proofs.lemmas.Grind.{flat_map-append}
use Rattle.std.proofs.lemmas.List.{append-nil}
use Rattle.std.proofs.lemmas.Bool.Decides.{nat_tests}
use Rattle.std.specs.List.{onto_first}
use Rattle.schedule_text.specs.declared.fault.LineFault.{LineFault}
use Rattle.schedule_text.specs.declared.fault.LineFault.TheVariants.{TooLong}
use Rattle.schedule_text.specs.declared.step.Step.{Step}
use Rattle.schedule_text.specs.Lines.{step_of}
use Rattle.schedule_text.proofs.Theorems.{step_of-long}
use Rattle.replay_run.specs.Replay.{Run, Turned, unturned, refuse, brought_turned, line_brings, step_brings, turned, turned_by, step_at, whole_turned, then_turned, course, output, last_turned, is_too_long, part_turned, ending, parts_of, printed, ran, longest_line, longest_schedule}
use Rattle.replay_run.specs.Told.{text_of}
use Rattle.replay_run.specs.GoesOn.{HasNoLf}

-- ---- parts

-- by whether a line ends at the first byte
cons_by_test : (byte : ℕ) (text : List ℕ) (test : Bool)
    → (first : List ℕ) × (others : List (List ℕ)) × (parts_of text ≡ first ∷ others)
    → (first : List ℕ) × (others : List (List ℕ)) × (cond test ([] ∷ parts_of text) (onto_first byte (parts_of text)) ≡ first ∷ others)
cons_by_test byte text true rest = ([], parts_of text, refl)
cons_by_test byte text false rest = (byte ∷ rest.0, rest.1, ap (onto_first byte) rest.2)

-- a text has a first part
pub parts_of-cons : (text : List ℕ)
    → (first : List ℕ) × (others : List (List ℕ)) × (parts_of text ≡ first ∷ others)
parts_of-cons [] = ([], [], refl)
parts_of-cons (byte ∷ text) = cons_by_test byte text (byte == 10) (parts_of-cons text)

-- bytes without LF go to the front of the first part
pub parts_of-append : (bytes more first : List ℕ) (others : List (List ℕ)) → HasNoLf bytes
    → parts_of more ≡ first ∷ others → parts_of (bytes ++ more) ≡ (bytes ++ first) ∷ others
parts_of-append [] more first others part is = is
parts_of-append (byte ∷ bytes) more first others part is =
    rw (part.0, parts_of-append bytes more first others part.1 is) refl

-- a line and its LF at the front are the first part
pub parts_of-line : (line rest : List ℕ) → HasNoLf line
    → parts_of (line ++ 10 ∷ rest) ≡ line ∷ parts_of rest
parts_of-line line rest part =
    parts_of-append line (10 ∷ rest) [] (parts_of rest) part refl ∙ ap (λ l. l ∷ parts_of rest) (append-nil line)

-- bytes without LF are one part
pub parts_of-part : (bytes : List ℕ) → HasNoLf bytes → parts_of bytes ≡ bytes ∷ []
parts_of-part bytes part =
    ap parts_of (sym (append-nil bytes)) ∙ parts_of-append bytes [] [] [] part refl ∙ ap (λ b. b ∷ []) (append-nil bytes)

-- ---- runs that were refused

-- a line changes nothing
pub turned-refused : (line : List ℕ) (size : ℕ) (run : Run) (fault : LineFault)
    → run.refused ≡ Some fault → turned line size run ≡ unturned run
unfolding turned
turned-refused line size run fault refused = ap (λ r. turned_by r line size run) refused

-- by whether the line is too long already
begun_by-refused : (line : List ℕ) (size : ℕ) (run : Run) (fault : LineFault) (test : Bool)
    → run.refused ≡ Some fault
    → (if test then turned line size run else unturned run) ≡ unturned run
begun_by-refused line size run fault true refused = turned-refused line size run fault refused
begun_by-refused line size run fault false refused = refl

-- the last part changes nothing
pub part_turned-refused : (ended : Bool) (part : List ℕ) (run : Run) (fault : LineFault)
    → run.refused ≡ Some fault → part_turned ended part run ≡ unturned run
part_turned-refused true [] run fault refused = refl
part_turned-refused true (byte ∷ bytes) run fault refused =
    turned-refused (byte ∷ bytes) (length (byte ∷ bytes)) run fault refused
part_turned-refused false part run fault refused =
    begun_by-refused part (length part) run fault (is_too_long (run.read + length part) part) refused

ending-refused : (ended : Bool) (fault : LineFault) → ending ended (Some fault) ≡ []
ending-refused true fault = refl
ending-refused false fault = refl

-- nothing comes of the parts of a text
pub course-refused : (ended : Bool) (run : Run) (fault : LineFault) (parts : List (List ℕ))
    → run.refused ≡ Some fault → course ended run parts ≡ unturned run
unfolding course
course-refused ended run fault [] refused = refl
course-refused ended run fault (part ∷ []) refused =
    part_turned-refused ended part run fault refused
course-refused ended run fault (line ∷ next ∷ parts) refused =
    ap (λ t. then_turned t (course ended t.run (next ∷ parts))) (turned-refused line (length line + 1) run fault refused)
    ∙ course-refused ended run fault (next ∷ parts) refused

-- nothing more is printed
pub printed-refused : (ended : Bool) (run : Run) (fault : LineFault) (parts : List (List ℕ))
    → run.refused ≡ Some fault → printed ended run parts ≡ []
unfolding printed
printed-refused ended run fault parts refused =
    ap (λ (t : Turned). output t ++ ending ended t.run.refused) (course-refused ended run fault parts refused)
    ∙ ap (ending ended) refused ∙ ending-refused ended fault

-- the run stays as it is
pub ran-refused : (ended : Bool) (run : Run) (fault : LineFault) (parts : List (List ℕ))
    → run.refused ≡ Some fault → ran ended run parts ≡ run
ran-refused ended run fault parts refused =
    ap (λ (t : Turned). t.run) (course-refused ended run fault parts refused)

-- ---- a line at the front

-- by what stands behind the line
course_by-line : (ended : Bool) (run : Run) (line : List ℕ) (rest : List (List ℕ)) (first : List ℕ) (others : List (List ℕ))
    → rest ≡ first ∷ others
    → course ended run (line ∷ rest) ≡ then_turned (whole_turned line run) (course ended (whole_turned line run).run rest)
unfolding course
course_by-line ended run line rest first others is = rw is refl

pub course-line : (ended : Bool) (run : Run) (line rest : List ℕ) → HasNoLf line
    → course ended run (parts_of (line ++ 10 ∷ rest)) ≡ then_turned (whole_turned line run) (course ended (whole_turned line run).run (parts_of rest))
course-line ended run line rest part =
    let cut = parts_of-cons rest in
    ap (course ended run) (parts_of-line line rest part) ∙ course_by-line ended run line (parts_of rest) cut.0 cut.1 cut.2

-- what is printed of lines and then others, and behind them
pub output-then : (first later : Turned) (end : List ℕ)
    → output (then_turned first later) ++ end ≡ output first ++ (output later ++ end)
output-then first later end =
    ap (λ text. text ++ end) (flat_map-append text_of first.told later.told) ∙ append_assoc (output first) (output later) end

pub printed-line : (ended : Bool) (run : Run) (line rest : List ℕ) → HasNoLf line
    → printed ended run (parts_of (line ++ 10 ∷ rest)) ≡ output (whole_turned line run) ++ printed ended (whole_turned line run).run (parts_of rest)
unfolding printed
printed-line ended run line rest part =
    let later = course ended (whole_turned line run).run (parts_of rest) in
    ap (λ (t : Turned). output t ++ ending ended t.run.refused) (course-line ended run line rest part)
    ∙ output-then (whole_turned line run) later (ending ended later.run.refused)

pub ran-line : (ended : Bool) (run : Run) (line rest : List ℕ) → HasNoLf line
    → ran ended run (parts_of (line ++ 10 ∷ rest)) ≡ ran ended (whole_turned line run).run (parts_of rest)
ran-line ended run line rest part =
    ap (λ (t : Turned). t.run) (course-line ended run line rest part)

-- the last part
pub course-last : (ended : Bool) (run : Run) (bytes : List ℕ) → HasNoLf bytes
    → course ended run (parts_of bytes) ≡ part_turned ended bytes run
unfolding course
course-last ended run bytes part = ap (course ended run) (parts_of-part bytes part)

-- ---- a line that is too long

-- a test that holds
lt-true : (a b : ℕ) → a < b → nat_lt a b ≡ true
lt-true a b less = grind (arith, nat_tests)

-- and one that doesn't
lt-false : (a b : ℕ) → b ≤ a → nat_lt a b ≡ false
lt-false a b most = grind (arith, nat_tests)

-- by whether the schedule is too long at its end
step_by_test : (line : List ℕ) (test : Bool) → longest_line < length line
    → (if test then Err TooLong else step_of line) ≡ Err TooLong
step_by_test line true long = refl
step_by_test line false long = step_of-long line long

-- what such a line asks for
step_at-too_long : (end : ℕ) (line : List ℕ)
    → (longest_line < length line) ⊎ (longest_schedule < end) → step_at end line ≡ Err TooLong
step_at-too_long end line (inl long) = step_by_test line (nat_lt longest_schedule end) long
step_at-too_long end line (inr late) =
    ap (λ t. if t then Err TooLong else step_of line) (lt-true longest_schedule end late)

-- it is refused
pub turned-too_long : (line : List ℕ) (size : ℕ) (run : Run) → run.refused ≡ None
    → (longest_line < length line) ⊎ (longest_schedule < run.read + size)
    → turned line size run ≡ refuse TooLong run
unfolding turned
turned-too_long line size run accepted long =
    ap (λ r. turned_by r line size run) accepted
    ∙ ap (λ s. brought_turned (line_brings s run) size run) (step_at-too_long (run.read + size) line long)

-- what the test of a begun line says
pub too_long-true : (end : ℕ) (bytes : List ℕ)
    → (longest_line < length bytes) ⊎ (longest_schedule < end) → is_too_long end bytes ≡ true
too_long-true end bytes long =
    elim long [ inl h ↦ grind (arith, nat_tests) | inr h ↦ grind (arith, nat_tests) ]

pub too_long-false : (end : ℕ) (bytes : List ℕ) → length bytes ≤ longest_line
    → end ≤ longest_schedule → is_too_long end bytes ≡ false
too_long-false end bytes short within = grind (arith, nat_tests)

-- a last part that isn't empty is run
pub last_turned-some : (bytes : List ℕ) (run : Run) → 0 < length bytes
    → last_turned bytes run ≡ turned bytes (length bytes) run
last_turned-some [] run some = absurd (omega arith)
last_turned-some (byte ∷ bytes) run some = refl

-- ---- a line by what it asks for

-- where the schedule isn't too long, the line decides
turned-asked : (line : List ℕ) (size : ℕ) (run : Run) → run.refused ≡ None
    → run.read + size ≤ longest_schedule
    → turned line size run ≡ brought_turned (line_brings (step_of line) run) size run
unfolding turned
turned-asked line size run accepted within =
    ap (λ r. turned_by r line size run) accepted
    ∙ ap (λ t. brought_turned (line_brings (if t then Err TooLong else step_of line) run) size run) (lt-false longest_schedule (run.read + size) within)

-- it brings the step that it asks for
pub turned-step : (line : List ℕ) (size : ℕ) (run : Run) (step : Step) → run.refused ≡ None
    → run.read + size ≤ longest_schedule → step_of line ≡ Ok step
    → turned line size run ≡ brought_turned (step_brings step run) size run
turned-step line size run step accepted within asked =
    turned-asked line size run accepted within ∙ ap (λ s. brought_turned (line_brings s run) size run) asked

-- it is refused for its fault
pub turned-fault : (line : List ℕ) (size : ℕ) (run : Run) (fault : LineFault) → run.refused ≡ None
    → run.read + size ≤ longest_schedule → step_of line ≡ Err fault
    → turned line size run ≡ refuse fault run
turned-fault line size run fault accepted within asked =
    turned-asked line size run accepted within ∙ ap (λ s. brought_turned (line_brings s run) size run) asked
