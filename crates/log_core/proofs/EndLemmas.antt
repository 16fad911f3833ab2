-- How a log ends, and what that says of its record.
use Rattle.std.proofs.Common.{◌≡◌, ◌==◌, ◌+◌, ◌<◌, ◌≤◌, ◌⊎◌, inl, inr, ℕ, suc, Bool, false, true, if◌then◌else◌, List, [], ◌∷◌, ◌++◌, length, length-append, refl, ap, sym, subst, ◌∙◌, arith, append_assoc, Option, None, Some, MatchOption, Result, Ok, Err}
use Rattle.std.proofs.KnownBytes.{Appends-trans}
use Rattle.std.proofs.lemmas.List.{append-nil}
use Rattle.audit_core.specs.Writing.{Stops, Writes}
use Rattle.audit_core.specs.declared.writing.Stop.{Stop}
use Rattle.audit_core.specs.declared.writing.Stop.TheVariants as stops
use Rattle.log_book.specs.Books.{open_in, see_all}
use Rattle.log_core.specs.Lines.{whole_lines}
use Rattle.log_core.specs.Logging.{end_of, EndsWith, Exactly, Following, Halts, IsLogging, Logging}
use Rattle.log_core.specs.Logs.{lines_of, log_of, logged, sights_from, sights_in}
use Rattle.log_core.specs.Program.{IsLogged, Says, SaysAll, SaysFront, ended_by, ended_in, ended_of, status_at, status_by}
use Rattle.log_core.specs.declared.status.LogStatus.{LogStatus}
use Rattle.log_core.specs.declared.status.LogStatus.TheVariants as status
use Rattle.log_core.proofs.LineLemmas.{all-whole, behind, some-waits, whole-front, whole-none}
use Rattle.log_core.proofs.LogLemmas.{logged-append}
use Rattle.log_core.proofs.LoggingLemmas.{later, log-last, log-led, none-refused, ran-led, whole-led}
use Rattle.replay_run.specs.Claims.{IsFront}
use Rattle.replay_run.specs.Counts.{IsCounted}
use Rattle.replay_run.specs.Feeding.{Wrote}
use Rattle.replay_run.specs.GoesOn.{HasNoLf, IsBegun}
use Rattle.replay_run.specs.Replay.{Run, Turned, course, longest_line, longest_schedule, parts_of, part_turned, ran, refuse, start_run, then_turned, turned, unturned}
use Rattle.replay_run.proofs.FeedsLemmas.{Wrote-then}
use Rattle.replay_run.proofs.GoesOnLemmas.{IsTooLong, begun-same}
use Rattle.replay_run.proofs.RunLemmas.{course-refused, last_turned-some, parts_of-append, parts_of-cons, ran-refused, too_long-true, turned-too_long}
use Rattle.schedule_text.specs.declared.fault.LineFault.{LineFault}
use Rattle.schedule_text.specs.declared.fault.LineFault.TheVariants.{TooLong}
use Rattle.std.specs.List.{flat_map}
use Rattle.world_ports.specs.Causes.{Rose}
use Rattle.world_ports.specs.Streams.{StreamView, WritesPart}
use Rattle.agent_model.specs.State.{Settings}

-- ---- of which records it is said

-- what is said of some records is said of those among them
pub says-map : (Of To : (List ℕ → Type 0) → Type 0) → ((P : List ℕ → Type 0) → Of P → To P) → (ended : LogStatus) (settings : Settings) (before after : StreamView)
    → Says Of ended settings before after → Says To ended settings before after
says-map Of To map status.Whole settings before after says = record { log = says.log; wrote = says.wrote; is = map (IsLogged status.Whole settings says.log) says.is }
says-map Of To map status.Waits settings before after says = record { log = says.log; wrote = says.wrote; is = map (IsLogged status.Waits settings says.log) says.is }
says-map Of To map status.Usage settings before after says = says
says-map Of To map status.ReadFault settings before after says = says
says-map Of To map (status.BadRecord line) settings before after says =
    record { log = says.log; wrote = says.wrote; is = map (IsLogged (status.BadRecord line) settings says.log) says.is }
says-map Of To map status.Memory settings before after says =
    record { log = says.log; wrote = says.wrote; is = map (λ text. IsFront says.log (log_of settings text)) says.is }
says-map Of To map status.WriteFault settings before after says = record {
  front = record { log = says.front.log; wrote = says.front.wrote; is = map (λ text. IsFront says.front.log (log_of settings text)) says.front.is };
  cause = says.cause;
}

-- what holds whatever follows holds whatever follows more
following-later : (bytes more : List ℕ) (P : List ℕ → Type 0) → Following bytes P → Following (bytes ++ more) P
following-later bytes more P holds = λ rest. subst P (sym (append_assoc bytes more rest)) (holds (more ++ rest))

-- the log ended before more was read
pub halts-later : (ended : LogStatus) (settings : Settings) (bytes more : List ℕ) (start now : StreamView) → Halts ended settings bytes start now → Halts ended settings (bytes ++ more) start now
halts-later status.Whole settings bytes more start now halts = halts
halts-later status.Waits settings bytes more start now halts = halts
halts-later status.Usage settings bytes more start now halts = halts
halts-later status.ReadFault settings bytes more start now halts = halts
halts-later (status.BadRecord line) settings bytes more start now halts =
    says-map (Following bytes) (Following (bytes ++ more)) (following-later bytes more) (status.BadRecord line) settings start now halts
halts-later status.Memory settings bytes more start now halts =
    says-map (Following bytes) (Following (bytes ++ more)) (following-later bytes more) status.Memory settings start now halts
halts-later status.WriteFault settings bytes more start now halts =
    says-map (Following bytes) (Following (bytes ++ more)) (following-later bytes more) status.WriteFault settings start now halts

-- ---- an end with the requests that wait

module _ (Of : (List ℕ → Type 0) → Type 0) (ended : LogStatus) (settings : Settings) (first last : List ℕ) (start mid now : StreamView)
    (wrote : Wrote start mid first)
    (hold : (P : List ℕ → Type 0) → ((text : List ℕ) → ended_of settings text ≡ ended → log_of settings text ≡ first ++ last → P text) → Of P)
    (all : SaysAll Of ended settings start now → Says Of ended settings start now) where
  says-part : WritesPart last mid now → SaysFront Of settings start now
  says-part part = record {
    log = first ++ part.1.front;
    wrote = Appends-trans start.written mid.written now.written first part.1.front wrote.written part.1.written;
    is = hold (λ text. IsFront (first ++ part.1.front) (log_of settings text)) (λ text ended_is log_is. record {
      more = part.0;
      is = append_assoc first part.1.front part.0 ∙ ap (λ (t : List ℕ). first ++ t) part.1.whole ∙ sym log_is;
    });
  }

  says-done : (done : Result (Unit {0}) Stop) → Writes done last mid now → Says Of (status_by ended done) settings start now
  says-done (Ok unit) writes = all (record {
    log = first ++ last;
    wrote = Wrote-then wrote writes;
    is = hold (IsLogged ended settings (first ++ last)) (λ text ended_is log_is. record { ended_is = ended_is; log_is = log_is });
  })
  says-done (Err stops.Memory) part = says-part part
  says-done (Err stops.Write) stopped = record {
    front = says-part stopped.front;
    cause = subst (λ (n : ℕ). Rose n now.write_faults) wrote.kept stopped.cause;
  }

  pub says-with : (result : LogStatus) → EndsWith ended result last mid now → Says Of result settings start now
  says-with result ends = subst (λ (s : LogStatus). Says Of s settings start now) (sym ends.is) (says-done ends.done ends.writes)

-- the ends of a refused line
halts-done : (line : ℕ) (done : Result (Unit {0}) Stop) (settings : Settings) (bytes : List ℕ) (start now : StreamView)
    → Says (Following bytes) (status_by (status.BadRecord line) done) settings start now → Halts (status_by (status.BadRecord line) done) settings bytes start now
halts-done line (Ok unit) settings bytes start now says = says
halts-done line (Err stops.Memory) settings bytes start now says = says
halts-done line (Err stops.Write) settings bytes start now says = says

-- ---- what is still to be seen

-- behind no line nothing is
none-behind : (run : Run) → sights_from run (parts_of []) ≡ []
unfolding sights_from course
none-behind run = refl

none-empty : (run : Run) (lines : List ℕ) → lines ≡ [] → sights_from run (parts_of lines) ≡ []
none-empty run lines empty = ap (λ (l : List ℕ). sights_from run (parts_of l)) empty ∙ none-behind run

-- a line that is too long stays so as it goes on
long-append : (run : Run) (bytes more : List ℕ) → IsTooLong run bytes → IsTooLong run (bytes ++ more)
long-append run bytes more (inl long) = inl (omega (arith, length-append bytes more))
long-append run bytes more (inr late) = inr (omega (arith, length-append bytes more))

long-line : (run : Run) (bytes : List ℕ) → IsTooLong run bytes → (longest_line < length bytes) ⊎ (longest_schedule < run.read + (length bytes + 1))
long-line run bytes (inl long) = inl long
long-line run bytes (inr late) = inr (omega arith)

long-some : (run : Run) (bytes : List ℕ) → run.read ≤ longest_schedule → IsTooLong run bytes → 0 < length bytes
long-some run bytes within (inl long) = omega arith
long-some run bytes within (inr late) = omega arith

-- it is refused as a last part
long-last : (ended : Bool) (run : Run) (bytes : List ℕ) → IsCounted run → IsTooLong run bytes → part_turned ended bytes run ≡ refuse TooLong run
long-last true run bytes counted long =
    last_turned-some bytes run (long-some run bytes counted.within long) ∙ turned-too_long bytes (length bytes) run counted.accepted long
long-last false run bytes counted long =
    ap (λ t. if t then turned bytes (length bytes) run else unturned run) (too_long-true (run.read + length bytes) bytes long)
    ∙ turned-too_long bytes (length bytes) run counted.accepted long

-- or as a whole line
long-first : (ended : Bool) (run : Run) (line : List ℕ) (others : List (List ℕ)) → IsCounted run → IsTooLong run line → course ended run (line ∷ others) ≡ refuse TooLong run
unfolding course
long-first ended run line [] counted long = long-last ended run line counted long
long-first ended run line (next ∷ others) counted long =
    ap (λ t. then_turned t (course ended t.run (next ∷ others))) (turned-too_long line (length line + 1) run counted.accepted (long-line run line long))
    ∙ ap (then_turned (refuse TooLong run)) (course-refused ended (refuse TooLong run).run TooLong (next ∷ others) refl)

module _ (run : Run) (front : List ℕ) (part : HasNoLf front) (counted : IsCounted run) (long : IsTooLong run front) where
  -- a line that is too long is refused, whatever follows
  course-long : (ended : Bool) (more : List ℕ) → course ended run (parts_of (front ++ more)) ≡ refuse TooLong run
  course-long ended more =
      let cut = parts_of-cons more in
      ap (course ended run) (parts_of-append front more cut.0 cut.1 part cut.2)
      ∙ long-first ended run (front ++ cut.0) cut.1 counted (long-append run front cut.0 long)

  none-long-behind : (whole : List ℕ) → sights_from run (parts_of (behind front whole)) ≡ []
  unfolding sights_from
  none-long-behind [] = none-behind run
  none-long-behind (byte ∷ whole) = ap (λ (t : Turned). flat_map sights_in t.told) (course-long true (byte ∷ whole))

  -- and nothing is seen of it
  none-long : (more : List ℕ) → sights_from run (parts_of (whole_lines (front ++ more))) ≡ []
  none-long more = ap (λ (l : List ℕ). sights_from run (parts_of l)) (whole-front front more part) ∙ none-long-behind (whole_lines more)

-- ---- ends

module _ (settings : Settings) (bytes : List ℕ) (start mid : StreamView) (log : Logging) (is : IsLogging settings bytes start mid log) where
  -- a front of the log is written
  pub halts-memory : Halts status.Memory settings bytes start mid
  halts-memory = record {
    log = lines_of is.requests;
    wrote = is.wrote.written;
    is = λ more. record { more = logged (log.sights ++ later settings bytes start mid log is more) log.book; is = sym (log-led settings bytes start mid log is more) };
  }

  module _ (now : StreamView) where
    -- ---- not all that was seen was told
    abbrev tells : List ℕ
    tells = lines_of (see_all log.sights log.book).told

    halts-part : WritesPart tells mid now → SaysFront (Following bytes) settings start now
    halts-part part =
        let first = lines_of is.requests in
        record {
          log = first ++ part.1.front;
          wrote = Appends-trans start.written mid.written now.written first part.1.front is.wrote.written part.1.written;
          is = λ more.
              let rest = logged (later settings bytes start mid log is more) (see_all log.sights log.book).book in
              record {
                more = part.0 ++ rest;
                is =
                    append_assoc first part.1.front (part.0 ++ rest)
                    ∙ ap (λ (t : List ℕ). first ++ t) (sym (append_assoc part.1.front part.0 rest) ∙ ap (λ (t : List ℕ). t ++ rest) part.1.whole)
                    ∙ sym (log-led settings bytes start mid log is more ∙ ap (λ (t : List ℕ). first ++ t) (logged-append log.sights (later settings bytes start mid log is more) log.book));
              };
        }

    pub halts-telling : (stop : Stop) → Stops stop tells mid now → Halts (status_at stop) settings bytes start now
    halts-telling stops.Memory part = halts-part part
    halts-telling stops.Write stopped = record {
      front = halts-part stopped.front;
      cause = subst (λ (n : ℕ). Rose n now.write_faults) is.wrote.kept stopped.cause;
    }

    -- ---- all was, and a line is refused
    abbrev waits : List ℕ
    waits = lines_of (open_in log.book)

    module _ (told : log.sights ≡ []) where
      halts-bad : (line : ℕ) → ((more : List ℕ) → ended_of settings (bytes ++ more) ≡ status.BadRecord line) → ((more : List ℕ) → later settings bytes start mid log is more ≡ [])
          → (result : LogStatus) → EndsWith (status.BadRecord line) result waits mid now → Halts result settings bytes start now
      halts-bad line ended none result ends =
          let says = says-done (Following bytes) (status.BadRecord line) settings (lines_of is.requests) waits start mid now is.wrote
          (λ P f. λ more. f (bytes ++ more) (ended more) (log-last settings bytes start mid log is more told (none more)))
          (λ all. all) ends.done ends.writes in
          subst (λ (s : LogStatus). Halts s settings bytes start now) (sym ends.is) (halts-done line ends.done settings bytes start now says)

      -- the last one
      pub halts-refused : (fault : LineFault) → log.run.refused ≡ Some fault → (result : LogStatus) → EndsWith (status.BadRecord log.run.line) result waits mid now → Halts result settings bytes start now
      halts-refused fault refused result ends =
          halts-bad log.run.line
          (λ more.
          let run_is : ran false (start_run settings) (parts_of (bytes ++ more)) ≡ log.run =
          ran-led settings bytes start mid log is false more ∙ ran-refused false log.run fault (parts_of (log.pending ++ more)) refused in
          ap (λ (r : Run). ended_in r (bytes ++ more)) run_is
          ∙ ap (λ (f : Option LineFault). ended_by f log.run.line (length (whole_lines (bytes ++ more)) == length (bytes ++ more))) refused)
          (λ more. none-refused log.run fault (parts_of (whole_lines (log.pending ++ more))) refused)
          result ends

      -- the one that waits, which is too long
      pub halts-long : HasNoLf log.pending → IsCounted log.run → IsTooLong log.run log.pending → (result : LogStatus) → EndsWith (status.BadRecord (log.run.line + 1)) result waits mid now
          → Halts result settings bytes start now
      halts-long part counted long result ends =
          halts-bad (log.run.line + 1)
          (λ more.
          let run_is : ran false (start_run settings) (parts_of (bytes ++ more)) ≡ (refuse TooLong log.run).run =
          ran-led settings bytes start mid log is false more ∙ ap (λ (t : Turned). t.run) (course-long log.run log.pending part counted long false more) in
          let line_is : suc log.run.line ≡ log.run.line + 1 = omega arith in
          ap (λ (r : Run). ended_in r (bytes ++ more)) run_is ∙ ap (λ (l : ℕ). status.BadRecord l) line_is)
          (λ more. none-long log.run log.pending part counted long more)
          result ends

      -- ---- the record ended
      lines-are : HasNoLf log.pending → whole_lines bytes ≡ is.lines
      lines-are part =
          ap whole_lines (sym (append-nil bytes))
          ∙ whole-led settings bytes start mid log is []
          ∙ ap (λ (p : List ℕ). is.lines ++ whole_lines p) (append-nil log.pending)
          ∙ ap (λ (w : List ℕ). is.lines ++ w) (whole-none log.pending part)
          ∙ append-nil is.lines

      ended-at : IsCounted log.run → IsBegun log.run log.pending → (whole : Bool) → (length is.lines == length (is.lines ++ log.pending)) ≡ whole → ended_of settings bytes ≡ ended_by None log.run.line whole
      ended-at counted begun whole whole_is =
          let run_is : ran false (start_run settings) (parts_of bytes) ≡ log.run =
          ap (λ (b : List ℕ). ran false (start_run settings) (parts_of b)) (sym (append-nil bytes))
          ∙ ran-led settings bytes start mid log is false []
          ∙ ap (λ (p : List ℕ). ran false log.run (parts_of p)) (append-nil log.pending)
          ∙ begun-same log.run log.pending begun in
          ap (λ (r : Run). ended_in r bytes) run_is
          ∙ ap (λ (f : Option LineFault). ended_by f log.run.line (length (whole_lines bytes) == length bytes)) counted.accepted
          ∙ ap (λ (w : List ℕ). ended_by None log.run.line (length w == length bytes)) (lines-are begun.part)
          ∙ ap (λ (b : List ℕ). ended_by None log.run.line (length is.lines == length b)) (sym is.is)
          ∙ ap (λ (w : Bool). ended_by None log.run.line w) whole_is

      log-at : HasNoLf log.pending → log_of settings bytes ≡ lines_of is.requests ++ waits
      log-at part =
          ap (log_of settings) (sym (append-nil bytes))
          ∙ log-last settings bytes start mid log is [] told
          (none-empty log.run (whole_lines (log.pending ++ [])) (ap whole_lines (append-nil log.pending) ∙ whole-none log.pending part))

      pub says-finished : (ended : LogStatus) → IsBegun log.run log.pending → ended_of settings bytes ≡ ended → (SaysAll (Exactly bytes) ended settings start now → Says (Exactly bytes) ended settings start now)
          → (result : LogStatus) → EndsWith ended result waits mid now → Says (Exactly bytes) result settings start now
      says-finished ended begun ended_is all result ends =
          says-with (Exactly bytes) ended settings (lines_of is.requests) waits start mid now is.wrote
          (λ P f. f bytes ended_is (log-at begun.part)) all result ends

      -- by the line that isn't whole
      pub finished : (pending : List ℕ) → log.pending ≡ pending → IsCounted log.run → IsBegun log.run log.pending → (result : LogStatus) → EndsWith (end_of pending) result waits mid now
          → Says (Exactly bytes) result settings start now
      finished [] pending_is counted begun result ends =
          says-finished status.Whole begun (ended-at counted begun true (all-whole is.lines log.pending pending_is)) (λ all. all) result ends
      finished (byte ∷ rest) pending_is counted begun result ends =
          let some : 0 < length log.pending = omega (arith, ap (λ (p : List ℕ). length p) pending_is) in
          says-finished status.Waits begun (ended-at counted begun false (some-waits is.lines log.pending some)) (λ all. all) result ends

    -- ---- a line was run

    -- the answer of the look at it
    pub line-answer : (told : log.sights ≡ []) (result : Option LogStatus)
        → MatchOption result ((log.run.refused ≡ None) × (now ≡ mid)) (λ ended. (fault : LineFault) × (log.run.refused ≡ Some fault) × EndsWith (status.BadRecord log.run.line) ended waits mid now)
        → MatchOption result (IsLogging settings bytes start now log) (λ ended. Halts ended settings bytes start now)
    line-answer told None answer = subst (λ (w : StreamView). IsLogging settings bytes start w log) (sym answer.1) is
    line-answer told (Some ended) answer = halts-refused told answer.0 answer.1 ended answer.2
