-- A log that is written as its record is read: where it stands behind some bytes, and how it goes on from there.
use Rattle.std.proofs.Common.{◌≡◌, ℕ, Bool, true, Option, List, [], ◌∷◌, ◌++◌, refl, ap, sym, subst, ◌∙◌, append_assoc, Some}
use Rattle.std.proofs.lemmas.Grind.{flat_map-append}
use Rattle.std.proofs.lemmas.List.{append-nil}
use Rattle.std.specs.List.{flat_map}
use Rattle.log_book.specs.Books.{Book, Seen, new_book, open_in, see_all, then_seen}
use Rattle.log_book.specs.declared.sight.Sight.{Sight}
use Rattle.log_core.specs.Lines.{whole_lines}
use Rattle.log_core.specs.Logging.{EndsLine, IsLogging, Logging, start_logging}
use Rattle.log_core.specs.Logs.{lines_of, log_of, log_so_far, logged, sights_from, sights_in, sights_of}
use Rattle.log_core.proofs.LineLemmas.{whole-line, whole-none}
use Rattle.log_core.proofs.LogLemmas.{lines_of-append, logged-all, logged-append, logged-nil, see_all-append}
use Rattle.replay_run.specs.Feeding.{Wrote}
use Rattle.replay_run.specs.GoesOn.{HasNoLf}
use Rattle.replay_run.specs.Replay.{Run, Turned, course, parts_of, ran, start_run, then_turned, turned, whole_turned}
use Rattle.replay_run.specs.Told.{Told}
use Rattle.replay_run.proofs.FeedsLemmas.{Wrote-nil, Wrote-then}
use Rattle.replay_run.proofs.GoesOnLemmas.{no_lf-append}
use Rattle.replay_run.proofs.RunLemmas.{course-line, course-refused}
use Rattle.schedule_text.specs.declared.fault.LineFault.{LineFault}
use Rattle.world_ports.specs.Streams.{StreamView}
use Rattle.agent_model.specs.State.{Settings}

-- ---- before the first read

then-nothing : (run : Run) (turned : Turned) → turned ≡ then_turned (record { run = run; told = [] }) turned
then-nothing run turned = refl

pub log-start : (settings : Settings) (seen : StreamView) → IsLogging settings [] seen seen (start_logging settings)
unfolding see_all
log-start settings seen = record {
  lines = [];
  is = refl;
  whole = λ more. refl;
  told = [];
  goes = λ ended more. then-nothing (start_run settings) (course ended (start_run settings) (parts_of more));
  seen = [];
  sights = refl;
  requests = [];
  booked = refl;
  wrote = Wrote-nil seen;
}

-- ---- the log of the record

-- what is seen of whole lines, and what is still to be seen behind them
module _ (settings : Settings) (bytes : List ℕ) (start now : StreamView) (log : Logging) (is : IsLogging settings bytes start now log) where
  abbrev pub later : List ℕ → List Sight
  later more = sights_from log.run (parts_of (whole_lines (log.pending ++ more)))

  pub whole-led : (more : List ℕ) → whole_lines (bytes ++ more) ≡ is.lines ++ whole_lines (log.pending ++ more)
  whole-led more =
      ap (λ (b : List ℕ). whole_lines (b ++ more)) (sym is.is)
      ∙ ap whole_lines (append_assoc is.lines log.pending more)
      ∙ is.whole (log.pending ++ more)

  sights-led : (more : List ℕ) → sights_of settings (is.lines ++ more) ≡ is.seen ++ (log.sights ++ sights_from log.run (parts_of more))
  unfolding sights_from
  sights-led more =
      let behind = (course true log.run (parts_of more)).told in
      ap (λ (t : Turned). flat_map sights_in t.told) (is.goes true more)
      ∙ flat_map-append sights_in is.told behind
      ∙ ap (λ (s : List Sight). s ++ flat_map sights_in behind) is.sights
      ∙ append_assoc is.seen log.sights (flat_map sights_in behind)

  -- whatever follows
  pub log-led : (more : List ℕ) → log_of settings (bytes ++ more) ≡ lines_of is.requests ++ logged (log.sights ++ later more) log.book
  log-led more =
      sym (logged-all settings (bytes ++ more))
      ∙ ap (λ (w : List ℕ). logged (sights_of settings w) new_book) (whole-led more)
      ∙ ap (λ (s : List Sight). logged s new_book) (sights-led (whole_lines (log.pending ++ more)))
      ∙ logged-append is.seen (log.sights ++ later more) new_book
      ∙ ap (λ (s : Seen). lines_of s.told ++ logged (log.sights ++ later more) s.book) is.booked

  -- where nothing more is seen
  pub log-last : (more : List ℕ) → log.sights ≡ [] → later more ≡ [] → log_of settings (bytes ++ more) ≡ lines_of is.requests ++ lines_of (open_in log.book)
  log-last more told none =
      log-led more
      ∙ ap (λ (s : List Sight). lines_of is.requests ++ logged (s ++ later more) log.book) told
      ∙ ap (λ (s : List Sight). lines_of is.requests ++ logged s log.book) none
      ∙ ap (λ (l : List ℕ). lines_of is.requests ++ l) (logged-nil log.book)

  -- so far
  pub log-so_far : HasNoLf log.pending → log.sights ≡ [] → log_so_far settings bytes ≡ lines_of is.requests
  unfolding sights_from course
  log-so_far part told =
      let lines_are : whole_lines bytes ≡ is.lines ++ [] =
      ap whole_lines (sym (append-nil bytes)) ∙ whole-led [] ∙ ap (λ (p : List ℕ). is.lines ++ whole_lines p) (append-nil log.pending) ∙ ap (λ (w : List ℕ). is.lines ++ w) (whole-none log.pending part) in
      ap (λ (w : List ℕ). lines_of (see_all (sights_of settings w) new_book).told) lines_are
      ∙ ap (λ (s : List Sight). lines_of (see_all s new_book).told) (sights-led [] ∙ ap (λ (s : List Sight). is.seen ++ (s ++ [])) told ∙ append-nil is.seen)
      ∙ ap (λ (s : Seen). lines_of s.told) is.booked

  -- ---- the run

  pub ran-led : (ended : Bool) (more : List ℕ) → ran ended (start_run settings) (parts_of (bytes ++ more)) ≡ ran ended log.run (parts_of (log.pending ++ more))
  ran-led ended more =
      ap (λ (b : List ℕ). ran ended (start_run settings) (parts_of (b ++ more))) (sym is.is)
      ∙ ap (λ (b : List ℕ). ran ended (start_run settings) (parts_of b)) (append_assoc is.lines log.pending more)
      ∙ ap (λ (t : Turned). t.run) (is.goes ended (log.pending ++ more))

-- ---- steps

-- two lists and more behind them
text-line : (first pending line : List ℕ) → first ++ ((pending ++ line) ++ 10 ∷ []) ≡ (first ++ pending) ++ (line ++ 10 ∷ [])
text-line first pending line =
    ap (λ (t : List ℕ). first ++ t) (append_assoc pending line (10 ∷ [])) ∙ sym (append_assoc first pending (line ++ 10 ∷ []))

text-behind : (first line more : List ℕ) → (first ++ (line ++ 10 ∷ [])) ++ more ≡ first ++ (line ++ 10 ∷ more)
text-behind first line more =
    append_assoc first (line ++ 10 ∷ []) more ∙ ap (λ (t : List ℕ). first ++ t) (append_assoc line (10 ∷ []) more)

then-then : (run : Run) (told : List Told) (line later : Turned) → then_turned (record { run = run; told = told }) (then_turned line later) ≡ then_turned (record { run = line.run; told = told ++ line.told }) later
then-then run told line later =
    ap (λ (t : List Told). record { run = later.run; told = t }) (sym (append_assoc told line.told later.told))

module _ (settings : Settings) (bytes : List ℕ) (start now : StreamView) (old new : Logging) (is : IsLogging settings bytes start now old) where
  -- a line was run
  pub log-line : (line : List ℕ) → HasNoLf old.pending → HasNoLf line → old.sights ≡ [] → EndsLine old line new → IsLogging settings (bytes ++ (line ++ 10 ∷ [])) start now new
  log-line line waits part told ends =
      let whole = old.pending ++ line in
      let next = whole_turned whole old.run in
      let lines = is.lines ++ (whole ++ 10 ∷ []) in
      record {
        lines = lines;
        is =
            ap (λ (p : List ℕ). lines ++ p) ends.pending
            ∙ append-nil lines
            ∙ text-line is.lines old.pending line
            ∙ ap (λ (b : List ℕ). b ++ (line ++ 10 ∷ [])) is.is;
        whole = λ more.
            ap whole_lines (text-behind is.lines whole more)
            ∙ is.whole (whole ++ 10 ∷ more)
            ∙ ap (λ (w : List ℕ). is.lines ++ w) (whole-line whole more)
            ∙ sym (text-behind is.lines whole (whole_lines more));
        told = is.told ++ next.told;
        goes = λ ended more.
            ap (λ (b : List ℕ). course ended (start_run settings) (parts_of b)) (text-behind is.lines whole more)
            ∙ is.goes ended (whole ++ 10 ∷ more)
            ∙ ap (then_turned (record { run = old.run; told = is.told })) (course-line ended old.run whole more (no_lf-append old.pending line waits part))
            ∙ then-then old.run is.told next (course ended next.run (parts_of more))
            ∙ ap (λ (r : Run). then_turned (record { run = r; told = is.told ++ next.told }) (course ended r (parts_of more))) (sym ends.run);
        seen = is.seen;
        sights =
            flat_map-append sights_in is.told next.told
            ∙ ap (λ (s : List Sight). s ++ flat_map sights_in next.told) (is.sights ∙ ap (λ (s : List Sight). is.seen ++ s) told ∙ append-nil is.seen)
            ∙ ap (λ (s : List Sight). is.seen ++ s) (sym ends.sights);
        requests = is.requests;
        booked = is.booked ∙ ap (λ (b : Book). record { book = b; told = is.requests }) (sym ends.book);
        wrote = is.wrote;
      }

  -- what was seen is told
  pub log-told : (after : StreamView) → new ≡ record old { sights = []; book = (see_all old.sights old.book).book } → Wrote now after (lines_of (see_all old.sights old.book).told) → IsLogging settings bytes start after new
  log-told after new_is wrote =
      let more = see_all old.sights old.book in
      subst (IsLogging settings bytes start after) (sym new_is) (record {
        lines = is.lines;
        is = is.is;
        whole = is.whole;
        told = is.told;
        goes = is.goes;
        seen = is.seen ++ old.sights;
        sights = is.sights ∙ sym (append-nil (is.seen ++ old.sights));
        requests = is.requests ++ more.told;
        booked =
            see_all-append is.seen old.sights new_book
            ∙ ap (λ (s : Seen). then_seen s.told (see_all old.sights s.book)) is.booked;
        wrote = subst (Wrote start after) (sym (lines_of-append is.requests more.told)) (Wrote-then is.wrote wrote);
      })

  -- the front of a line was read
  pub log-front : (front : List ℕ) → new ≡ record old { pending = old.pending ++ front } → IsLogging settings (bytes ++ front) start now new
  log-front front new_is =
      subst (IsLogging settings (bytes ++ front) start now) (sym new_is) (record {
        lines = is.lines;
        is = sym (append_assoc is.lines old.pending front) ∙ ap (λ (b : List ℕ). b ++ front) is.is;
        whole = is.whole;
        told = is.told;
        goes = is.goes;
        seen = is.seen;
        sights = is.sights;
        requests = is.requests;
        booked = is.booked;
        wrote = is.wrote;
      })

-- ---- runs of which nothing more is seen

-- a refused one
pub none-refused : (run : Run) (fault : LineFault) (parts : List (List ℕ)) → run.refused ≡ Some fault → sights_from run parts ≡ []
unfolding sights_from
none-refused run fault parts refused = ap (λ (t : Turned). flat_map sights_in t.told) (course-refused true run fault parts refused)
