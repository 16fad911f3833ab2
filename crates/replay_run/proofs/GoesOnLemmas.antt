-- Lemmas on runs that go on: whatever follows, what was printed and what is to come stay the same together.
use Rattle.std.proofs.Common.{◌≡◌, ℕ, ◌+◌, ◌<◌, ◌≤◌, ◌⊎◌, inl, inr, List, [], ◌∷◌, ◌++◌, length, refl, ap, sym, ◌∙◌, arith, Some, None, Bool, true, false, if◌then◌else◌, append_assoc, length-append}
use Rattle.std.proofs.lemmas.List.{append-nil}
use Rattle.schedule_text.specs.declared.fault.LineFault.{LineFault}
use Rattle.schedule_text.specs.declared.fault.LineFault.TheVariants.{TooLong}
use Rattle.replay_run.specs.Replay.{Run, Turned, unturned, refuse, turned, whole_turned, then_turned, course, output, last_turned, part_turned, ending, parts_of, printed, ran, longest_line, longest_schedule}
use Rattle.replay_run.specs.GoesOn.{HasNoLf, IsBegun, GoesOn}
use Rattle.replay_run.proofs.RunLemmas.{parts_of-cons, parts_of-append, course-last, course-refused, printed-refused, ran-refused, printed-line, ran-line, turned-too_long, too_long-true, too_long-false, last_turned-some}

-- ---- pieces, one after another

-- nothing was run yet
pub goes_on-same : (out : List ℕ) (run : Run) (bytes : List ℕ) → GoesOn out run bytes out run bytes
goes_on-same out run bytes =
    record { printed_same = λ ended more. refl; ran_same = λ ended more. refl }

-- one run goes on where the other stopped
pub goes_on-then : {out mid_out new_out : List ℕ} {run mid_run new_run : Run} {bytes mid left : List ℕ}
    → GoesOn out run bytes mid_out mid_run mid → GoesOn mid_out mid_run mid new_out new_run left
    → GoesOn out run bytes new_out new_run left
goes_on-then a b = record {
  printed_same = λ ended more. a.printed_same ended more ∙ b.printed_same ended more;
  ran_same = λ ended more. a.ran_same ended more ∙ b.ran_same ended more;
}

-- one run goes on where the other stopped, with more bytes to come
pub goes_on-more : {out new_out : List ℕ} {run new_run : Run} {bytes left : List ℕ} (next : List ℕ)
    → GoesOn out run bytes new_out new_run left
    → GoesOn out run (bytes ++ next) new_out new_run (left ++ next)
goes_on-more {out} {new_out} {run} {new_run} {bytes} {left} next a = record {
  printed_same = λ ended more.
      ap (λ b. out ++ printed ended run (parts_of b)) (append_assoc bytes next more)
      ∙ a.printed_same ended (next ++ more)
      ∙ sym (ap (λ b. new_out ++ printed ended new_run (parts_of b)) (append_assoc left next more));
  ran_same = λ ended more.
      ap (λ b. ran ended run (parts_of b)) (append_assoc bytes next more)
      ∙ a.ran_same ended (next ++ more)
      ∙ sym (ap (λ b. ran ended new_run (parts_of b)) (append_assoc left next more));
}

-- one run goes on where the other stopped, with an output before both
pub goes_on-front : {out new_out : List ℕ} {run new_run : Run} {bytes left : List ℕ} (front : List ℕ)
    → GoesOn out run bytes new_out new_run left
    → GoesOn (front ++ out) run bytes (front ++ new_out) new_run left
goes_on-front {out} {new_out} {run} {new_run} {bytes} {left} front a = record {
  printed_same = λ ended more.
      append_assoc front out (printed ended run (parts_of (bytes ++ more)))
      ∙ ap (λ o. front ++ o) (a.printed_same ended more)
      ∙ sym (append_assoc front new_out (printed ended new_run (parts_of (left ++ more))));
  ran_same = a.ran_same;
}

-- ---- lines

-- a whole line is run
pub goes_on-line : (out : List ℕ) (run : Run) (line rest : List ℕ) → HasNoLf line
    → GoesOn out run (line ++ 10 ∷ rest) (out ++ output (whole_turned line run)) (whole_turned line run).run rest
goes_on-line out run line rest part = record {
  printed_same = λ ended more.
      ap (λ b. out ++ printed ended run (parts_of b)) (append_assoc line (10 ∷ rest) more)
      ∙ ap (λ o. out ++ o) (printed-line ended run line (rest ++ more) part)
      ∙ sym (append_assoc out (output (whole_turned line run)) (printed ended (whole_turned line run).run (parts_of (rest ++ more))));
  ran_same = λ ended more.
      ap (λ b. ran ended run (parts_of b)) (append_assoc line (10 ∷ rest) more)
      ∙ ran-line ended run line (rest ++ more) part;
}

-- a run that was refused needs nothing of what is to come
pub goes_on-refused : (out : List ℕ) (run : Run) (bytes left : List ℕ) (fault : LineFault)
    → run.refused ≡ Some fault → GoesOn out run bytes out run left
goes_on-refused out run bytes left fault refused = record {
  printed_same = λ ended more. ap (λ o. out ++ o)
      (printed-refused ended run fault (parts_of (bytes ++ more)) refused ∙ sym (printed-refused ended run fault (parts_of (left ++ more)) refused));
  ran_same = λ ended more.
      ran-refused ended run fault (parts_of (bytes ++ more)) refused ∙ sym (ran-refused ended run fault (parts_of (left ++ more)) refused);
}

-- ---- a begun line that is too long

-- the bytes of it are too many, or one of them stands too far in the schedule
abbrev pub IsTooLong : Run → List ℕ → Type 0
IsTooLong run bytes = (longest_line < length bytes) ⊎ (longest_schedule < run.read + length bytes)

-- it stays too long as it goes on
too_long-append : (run : Run) (bytes more : List ℕ) → IsTooLong run bytes
    → IsTooLong run (bytes ++ more)
too_long-append run bytes more (inl long) = inl (omega (arith, length-append bytes more))
too_long-append run bytes more (inr late) = inr (omega (arith, length-append bytes more))

too_long-line : (run : Run) (bytes : List ℕ) → IsTooLong run bytes
    → (longest_line < length bytes) ⊎ (longest_schedule < run.read + (length bytes + 1))
too_long-line run bytes (inl long) = inl long
too_long-line run bytes (inr late) = inr (omega arith)

too_long-some : (run : Run) (bytes : List ℕ) → run.read ≤ longest_schedule → IsTooLong run bytes
    → 0 < length bytes
too_long-some run bytes within (inl long) = omega arith
too_long-some run bytes within (inr late) = omega arith

-- it is refused as a last part
part_turned-too_long : (ended : Bool) (run : Run) (bytes : List ℕ) → run.refused ≡ None
    → run.read ≤ longest_schedule → IsTooLong run bytes
    → part_turned ended bytes run ≡ refuse TooLong run
part_turned-too_long true run bytes accepted within long =
    last_turned-some bytes run (too_long-some run bytes within long) ∙ turned-too_long bytes (length bytes) run accepted long
part_turned-too_long false run bytes accepted within long =
    ap (λ t. if t then turned bytes (length bytes) run else unturned run) (too_long-true (run.read + length bytes) bytes long)
    ∙ turned-too_long bytes (length bytes) run accepted long

ending-some : (ended : Bool) (fault : LineFault) → ending ended (Some fault) ≡ []
ending-some true fault = refl
ending-some false fault = refl

-- by what stands behind it
course-too_long : (ended : Bool) (run : Run) (line : List ℕ) (others : List (List ℕ))
    → run.refused ≡ None → run.read ≤ longest_schedule → IsTooLong run line
    → course ended run (line ∷ others) ≡ refuse TooLong run
unfolding course
course-too_long ended run line [] accepted within long =
    part_turned-too_long ended run line accepted within long
course-too_long ended run line (next ∷ others) accepted within long =
    ap (λ t. then_turned t (course ended t.run (next ∷ others))) (turned-too_long line (length line + 1) run accepted (too_long-line run line long))
    ∙ ap (then_turned (refuse TooLong run)) (course-refused ended (refuse TooLong run).run TooLong (next ∷ others) refl)

printed-too_long : (ended : Bool) (run : Run) (line : List ℕ) (others : List (List ℕ))
    → run.refused ≡ None → run.read ≤ longest_schedule → IsTooLong run line
    → printed ended run (line ∷ others) ≡ output (refuse TooLong run)
unfolding printed
printed-too_long ended run line others accepted within long =
    ap (λ (t : Turned). output t ++ ending ended t.run.refused) (course-too_long ended run line others accepted within long)
    ∙ ap (λ o. output (refuse TooLong run) ++ o) (ending-some ended TooLong)
    ∙ append-nil (output (refuse TooLong run))

ran-too_long : (ended : Bool) (run : Run) (line : List ℕ) (others : List (List ℕ))
    → run.refused ≡ None → run.read ≤ longest_schedule → IsTooLong run line
    → ran ended run (line ∷ others) ≡ (refuse TooLong run).run
ran-too_long ended run line others accepted within long =
    ap (λ (t : Turned). t.run) (course-too_long ended run line others accepted within long)

-- a line that is too long already is refused, whatever follows
pub goes_on-too_long : (out : List ℕ) (run : Run) (bytes left : List ℕ) → HasNoLf bytes
    → run.refused ≡ None → run.read ≤ longest_schedule → IsTooLong run bytes
    → GoesOn out run bytes (out ++ output (refuse TooLong run)) (refuse TooLong run).run left
goes_on-too_long out run bytes left part accepted within long = record {
  printed_same = λ ended more.
      let cut = parts_of-cons more in
      ap (λ p. out ++ printed ended run p) (parts_of-append bytes more cut.0 cut.1 part cut.2)
      ∙ ap (λ o. out ++ o) (printed-too_long ended run (bytes ++ cut.0) cut.1 accepted within (too_long-append run bytes cut.0 long))
      ∙ sym (ap (λ o. (out ++ output (refuse TooLong run)) ++ o) (printed-refused ended (refuse TooLong run).run TooLong (parts_of (left ++ more)) refl)
      ∙ append-nil (out ++ output (refuse TooLong run)));
  ran_same = λ ended more.
      let cut = parts_of-cons more in
      ap (ran ended run) (parts_of-append bytes more cut.0 cut.1 part cut.2)
      ∙ ran-too_long ended run (bytes ++ cut.0) cut.1 accepted within (too_long-append run bytes cut.0 long)
      ∙ sym (ran-refused ended (refuse TooLong run).run TooLong (parts_of (left ++ more)) refl);
}

-- ---- the end of what was read

-- the front of a line brings nothing yet
course-begun : (run : Run) (bytes : List ℕ) → IsBegun run bytes
    → course false run (parts_of bytes) ≡ unturned run
course-begun run bytes begun =
    course-last false run bytes begun.part
    ∙ ap (λ t. if t then turned bytes (length bytes) run else unturned run) (too_long-false (run.read + length bytes) bytes begun.short begun.within)

pub begun-nothing : (run : Run) (bytes : List ℕ) → IsBegun run bytes
    → printed false run (parts_of bytes) ≡ []
unfolding printed
begun-nothing run bytes begun =
    ap (λ (t : Turned). output t ++ ending false t.run.refused) (course-begun run bytes begun)

-- and the run stays as it is
pub begun-same : (run : Run) (bytes : List ℕ) → IsBegun run bytes
    → ran false run (parts_of bytes) ≡ run
begun-same run bytes begun = ap (λ (t : Turned). t.run) (course-begun run bytes begun)

-- what a last part prints, and then `end`
abbrev pub last_output : List ℕ → Run → List ℕ
last_output bytes run =
    output (last_turned bytes run) ++ ending true (last_turned bytes run).run.refused

-- the schedule ends with it
pub printed-last : (run : Run) (bytes : List ℕ) → HasNoLf bytes
    → printed true run (parts_of bytes) ≡ last_output bytes run
unfolding printed
printed-last run bytes part =
    ap (λ (t : Turned). output t ++ ending true t.run.refused) (course-last true run bytes part)

pub ran-last : (run : Run) (bytes : List ℕ) → HasNoLf bytes
    → ran true run (parts_of bytes) ≡ (last_turned bytes run).run
ran-last run bytes part = ap (λ (t : Turned). t.run) (course-last true run bytes part)

-- ---- bytes without LF

-- one after the other
pub no_lf-append : (xs ys : List ℕ) → HasNoLf xs → HasNoLf ys → HasNoLf (xs ++ ys)
no_lf-append [] ys here there = there
no_lf-append (x ∷ xs) ys here there = (here.0, no_lf-append xs ys here.1 there)
