-- What is seen of a record line by line, and what is told of that.
use Rattle.std.proofs.Common.{◌≡◌, ℕ, List, [], ◌∷◌, ◌++◌, refl, ap, sym, ◌∙◌, append_assoc, Option, true}
use Rattle.std.proofs.lemmas.Grind.{flat_map-append}
use Rattle.std.specs.List.{flat_map}
use Rattle.agent_model.specs.State.{Settings, State, first_state}
use Rattle.agent_model.specs.Step.{step}
use Rattle.log_book.specs.Books.{Book, Seen, new_book, open_in, see, see_all, then_seen, told_of}
use Rattle.log_book.specs.Lines.{told_line}
use Rattle.log_book.specs.declared.sight.Sight.{Sight}
use Rattle.log_book.specs.declared.told.Told.{Told as Request}
use Rattle.log_core.specs.Lines.{whole_lines}
use Rattle.log_core.specs.Logs.{lines_of, log_of, logged, requests_of, sights_from, sights_in, sights_of}
use Rattle.log_laws.specs.Sights.{event_sights, run_sights, told_in}
use Rattle.replay_run.specs.Replay.{course, events_of, parts_of, run_of, settings_of, start_run}
use Rattle.replay_run.specs.Told.{Told, Barred, Came, events_in}
use Rattle.replay_run.proofs.BroughtLemmas.{IsCourse, schedule-course}

-- ---- what is told

-- of more that is seen
pub see_all-append : (sights later : List Sight) (book : Book)
    → see_all (sights ++ later) book ≡ then_seen (see_all sights book).told (see_all later (see_all sights book).book)
unfolding see_all
see_all-append [] later book = refl
see_all-append (sight ∷ sights) later book =
    ap (then_seen (see sight book).told) (see_all-append sights later (see sight book).book)
    ∙ ap (λ (told : List Request). record { book = (see_all later (see_all sights (see sight book).book).book).book; told = told })
    (sym (append_assoc (see sight book).told (see_all sights (see sight book).book).told (see_all later (see_all sights (see sight book).book).book).told))

pub lines_of-append : (requests more : List Request) → lines_of (requests ++ more) ≡ lines_of requests ++ lines_of more
lines_of-append requests more = flat_map-append told_line requests more

-- the lines of what is seen first, and of what is seen later
pub logged-append : (sights later : List Sight) (book : Book)
    → logged (sights ++ later) book ≡ lines_of (see_all sights book).told ++ logged later (see_all sights book).book
unfolding logged
logged-append sights later book =
    let now = see_all sights book in
    let then = see_all later now.book in
    ap (λ (seen : Seen). lines_of seen.told ++ lines_of (open_in seen.book)) (see_all-append sights later book)
    ∙ ap (λ (lines : List ℕ). lines ++ lines_of (open_in then.book)) (lines_of-append now.told then.told)
    ∙ append_assoc (lines_of now.told) (lines_of then.told) (lines_of (open_in then.book))

-- nothing more is seen
pub logged-nil : (book : Book) → logged [] book ≡ lines_of (open_in book)
unfolding logged see_all
logged-nil book = refl

-- all of them are the log
pub logged-all : (settings : Settings) (text : List ℕ) → logged (sights_of settings (whole_lines text)) new_book ≡ log_of settings text
unfolding logged
logged-all settings text =
    let all = see_all (sights_of settings (whole_lines text)) new_book in
    sym (lines_of-append all.told (open_in all.book))

-- ---- the run that is seen

sights-told : (state : State) (told : List Told) (end : State) → IsCourse state told end → flat_map sights_in told ≡ run_sights state (events_in told)
sights-told state [] end is = refl
sights-told state (Came line before timed ∷ later) end is =
    let next = (step before timed.moment timed.event).state in
    ap (λ (rest : List Sight). event_sights before timed ++ rest) (sights-told next later end is.1)
    ∙ ap (λ (s : State). run_sights s (timed ∷ events_in later)) (sym is.0)
sights-told state (Barred line fault ∷ later) end is = sights-told state later end is

pub all_seen : (settings : Settings) (text : List ℕ) → sights_of settings text ≡ run_sights (first_state (settings_of settings text)) (events_of settings text)
unfolding sights_from
all_seen settings text =
    sights-told (first_state (settings_of settings text)) (course true (start_run settings) (parts_of text)).told (run_of settings text).agent (schedule-course settings text)

pub all_told : (settings : Settings) (text : List ℕ) → requests_of settings text ≡ told_in (first_state (settings_of settings (whole_lines text))) (events_of settings (whole_lines text))
all_told settings text = ap told_of (all_seen settings (whole_lines text))
