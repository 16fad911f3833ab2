-- The log of a record: a line for each signing request of the run of its whole lines (ours: docs/PROTOCOL.md, "A log").
-- The file is read from its end; what is seen of an event is in specs/Sights.antt of log_laws, and what is told of it in
-- specs/Books.antt of log_book.
use Rattle.std.specs.Prelude.{ℕ, true, List, [], ◌++◌, Option}
use Rattle.std.specs.List.{flat_map}
use Rattle.agent_model.specs.State.{Settings}
use Rattle.log_book.specs.Books.{Book, new_book, open_in, see_all, told_of}
use Rattle.log_book.specs.Lines.{told_line}
use Rattle.log_book.specs.declared.sight.Sight.{Sight}
use Rattle.log_book.specs.declared.told.Told.{Told as Request}
use Rattle.log_laws.specs.Sights.{event_sights}
use Rattle.log_core.specs.Lines.{whole_lines}
use Rattle.replay_run.specs.Replay.{Run, course, parts_of, start_run}
use Rattle.replay_run.specs.Told.{Told, Barred, Came}

-- what is seen of what is told of a run: of an event what log_laws says, of a refused line nothing
abbrev pub sights_in : Told → List Sight
sights_in (Came line state timed) = event_sights state timed
sights_in (Barred line fault) = []

-- what is seen of the parts of a schedule, from this run on
unfoldable pub sights_from : Run → List (List ℕ) → List Sight
sights_from run parts = flat_map sights_in (course true run parts).told

-- all that is seen of a schedule, with the settings that were chosen for it
abbrev pub sights_of : Settings → List ℕ → List Sight
sights_of settings text = sights_from (start_run settings) (parts_of text)

-- the signing requests that were read in the run of a record's whole lines: those with a fate in the order of their
-- fates, and behind them those without
abbrev pub requests_of : Settings → List ℕ → List Request
requests_of settings text = told_of (sights_of settings (whole_lines text))

-- the lines of requests
abbrev pub lines_of : List Request → List ℕ
lines_of requests = flat_map told_line requests

-- a line for each of a record's, and no other
abbrev pub log_of : Settings → List ℕ → List ℕ
log_of settings text = lines_of (requests_of settings text)

-- the lines of those alone whose fate the whole lines of the front of a record tell
abbrev pub log_so_far : Settings → List ℕ → List ℕ
log_so_far settings text = lines_of (see_all (sights_of settings (whole_lines text)) new_book).told

-- the lines of what is still to be seen, and of what is open behind it
unfoldable pub logged : List Sight → Book → List ℕ
logged sights book = lines_of (see_all sights book).told ++ lines_of (open_in (see_all sights book).book)
