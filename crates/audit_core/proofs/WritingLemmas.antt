-- Lemmas on a report that is written in parts, and on what its end says.
use Rattle.std.proofs.Common.{◌≡◌, ℕ, List, [], ◌++◌, length, drop, codes, refl, ap, sym, subst, ◌∙◌, arith, append_assoc, length-append, Result, Ok, Err}
use Rattle.std.proofs.lemmas.Grind.{flat_map-append}
use Rattle.std.proofs.KnownBytes.{Appends-nil, Appends-trans}
use Rattle.std.specs.List.{flat_map}
use Rattle.std.specs.Result.{IsErrAnd}
use Rattle.world_ports.specs.Causes.{Rose}
use Rattle.world_ports.specs.Streams.{StreamView, WritesPart}
use Rattle.replay_run.specs.Feeding.{Wrote}
use Rattle.replay_run.specs.Replay.{Run, parts_of}
use Rattle.replay_run.proofs.FeedsLemmas.{Wrote-then}
use Rattle.audit_core.specs.declared.put.Put.{Put}
use Rattle.audit_core.specs.declared.writing.Stop.{Stop}
use Rattle.audit_core.specs.declared.writing.Stop.TheVariants as stops
use Rattle.audit_core.proofs.AdvanceLemmas.{NotesOn}
use Rattle.audit_core.specs.Puts.{puts_from}
use Rattle.audit_core.specs.Reports.{number_line, put_line}
use Rattle.audit_core.specs.Writing.{IsListing, Lists, ListsAll, Stops, Writes, yes_report}

-- ---- a front of a text

-- nothing was written
pub nothing_written : (text : List ℕ) (seen : StreamView) → WritesPart text seen seen
nothing_written text seen = (text, record { front = []; whole = refl; written = Appends-nil seen.written })

-- a front of the first of two texts is a front of both
part_before : (text more : List ℕ) (before after : StreamView) → WritesPart text before after
    → WritesPart (text ++ more) before after
part_before text more before after part = (
  part.0 ++ more,
  record {
    front = part.1.front;
    whole = sym (append_assoc part.1.front part.0 more) ∙ ap (λ (t : List ℕ). t ++ more) part.1.whole;
    written = part.1.written;
  },
)

-- the first of two texts and a front of the second
part_behind : (text more : List ℕ) (before mid after : StreamView) → Wrote before mid text
    → WritesPart more mid after → WritesPart (text ++ more) before after
part_behind text more before mid after wrote part = (
  part.0,
  record {
    front = text ++ part.1.front;
    whole = append_assoc text part.1.front part.0 ∙ ap (λ (t : List ℕ). text ++ t) part.1.whole;
    written = Appends-trans before.written mid.written after.written text part.1.front wrote.written part.1.written;
  },
)

pub stops_before : (stop : Stop) (text more : List ℕ) (before after : StreamView)
    → Stops stop text before after → Stops stop (text ++ more) before after
stops_before stops.Memory text more before after stopped = part_before text more before after stopped
stops_before stops.Write text more before after stopped = record {
  front = part_before text more before after stopped.front;
  cause = stopped.cause;
}

pub stops_behind : (stop : Stop) (text more : List ℕ) (before mid after : StreamView)
    → Wrote before mid text → Stops stop more mid after → Stops stop (text ++ more) before after
stops_behind stops.Memory text more before mid after wrote stopped = part_behind text more before mid after wrote stopped
stops_behind stops.Write text more before mid after wrote stopped = record {
  front = part_behind text more before mid after wrote stopped.front;
  cause = subst (λ n. Rose n after.write_faults) wrote.kept stopped.cause;
}

-- memory ran out behind a text
pub memory_behind : (text more : List ℕ) (before after : StreamView) → Wrote before after text
    → WritesPart (text ++ more) before after
memory_behind text more before after wrote = part_behind text more before after after wrote (nothing_written more after)

-- ---- requests

-- the lines of one more part of them
lines_two : (puts more : List Put)
    → flat_map put_line (puts ++ more) ≡ flat_map put_line puts ++ flat_map put_line more
lines_two puts more = flat_map-append put_line puts more

lists_then : (done puts : List Put) (count next : ℕ) (before mid after : StreamView)
    → ListsAll 0 count done before mid → ListsAll count next puts mid after
    → ListsAll 0 next (done ++ puts) before after
lists_then done puts count next before mid after first second = record {
  count_is = omega (arith, first.count_is, second.count_is, length-append done puts);
  wrote = subst (Wrote before after) (sym (lines_two done puts)) (Wrote-then first.wrote second.wrote);
}

-- a line of the record was run, which put these
pub listing_next : (all from left puts : List Put) (count next : ℕ) (before mid after : StreamView)
    → from ≡ puts ++ left → IsListing all from count before mid
    → ListsAll count next puts mid after → IsListing all left next before after
listing_next all from left puts count next before mid after is listing more = record {
  done = listing.done ++ puts;
  whole = append_assoc listing.done puts left ∙ ap (λ (l : List Put). listing.done ++ l) (sym is) ∙ listing.whole;
  listed = lists_then listing.done puts count next before mid after listing.listed more;
}

-- all lines are those of the requests so far and of the others
lines_all : (all from : List Put) (count : ℕ) (before mid : StreamView) (listing : IsListing all from count before mid)
    → flat_map put_line listing.done ++ flat_map put_line from ≡ flat_map put_line all
lines_all all from count before mid listing = sym (lines_two listing.done from) ∙ ap (flat_map put_line) listing.whole

-- memory ran out
pub listing_memory : (all from : List Put) (count : ℕ) (before mid : StreamView)
    → IsListing all from count before mid → WritesPart (flat_map put_line all) before mid
listing_memory all from count before mid listing =
    subst (λ (t : List ℕ). WritesPart t before mid) (lines_all all from count before mid listing)
    (memory_behind (flat_map put_line listing.done) (flat_map put_line from) before mid listing.listed.wrote)

-- the last of them were
pub listing_last : (result : Result ℕ Stop) (all from logged : List Put) (count : ℕ)
    (before mid after : StreamView) → from ≡ logged → IsListing all from count before mid
    → Lists result count logged mid after → Lists result 0 all before after
listing_last (Ok next) all from logged count before mid after is listing more =
    subst (λ (l : List Put). ListsAll 0 next l before after) (ap (λ (l : List Put). listing.done ++ l) (sym is) ∙ listing.whole)
    (lists_then listing.done logged count next before mid after listing.listed more)
listing_last (Err stop) all from logged count before mid after is listing stopped =
    subst (λ (t : List ℕ). Stops stop t before after)
    (ap (λ (l : List Put). flat_map put_line listing.done ++ flat_map put_line l) (sym is) ∙ lines_all all from count before mid listing)
    (stops_behind stop (flat_map put_line listing.done) (flat_map put_line logged) before mid after listing.listed.wrote stopped)

-- some of them weren't
pub listing_stops : (result : Result ℕ Stop) (stop : Stop) (all from logged later : List Put) (count : ℕ)
    (before mid after : StreamView) → IsErrAnd result (λ own. own ≡ stop) → from ≡ logged ++ later
    → IsListing all from count before mid → Stops stop (flat_map put_line logged) mid after
    → Lists result 0 all before after
listing_stops (Ok next) stop all from logged later count before mid after own_is is listing stopped = absurd own_is
listing_stops (Err own) stop all from logged later count before mid after own_is is listing stopped =
    subst (λ (t : List ℕ). Stops own t before after)
    (ap (λ (t : List ℕ). flat_map put_line listing.done ++ t) (sym (lines_two logged later))
    ∙ ap (λ (l : List Put). flat_map put_line listing.done ++ flat_map put_line l) (sym is)
    ∙ lines_all all from count before mid listing)
    (stops_behind own (flat_map put_line listing.done) (flat_map put_line logged ++ flat_map put_line later) before mid after listing.listed.wrote
    (stops_before own (flat_map put_line logged) (flat_map put_line later) mid after
    (subst (λ (s : Stop). Stops s (flat_map put_line logged) mid after) (sym own_is) stopped)))

-- ---- the record

-- a line of the record was run, and what it put was listed
pub listing_goes : (all logged puts : List Put) (run after : Run) (left rest : List ℕ) (size count next : ℕ)
    (before mid now : StreamView) → NotesOn run left after size puts → rest ≡ drop size left → logged ≡ puts
    → IsListing all (puts_from run (parts_of left)) count before mid → ListsAll count next logged mid now
    → IsListing all (puts_from after (parts_of rest)) next before now
listing_goes all logged puts run after left rest size count next before mid now goes is same listing more =
    subst (λ (r : List ℕ). IsListing all (puts_from after (parts_of r)) next before now) (sym is)
    (listing_next all (puts_from run (parts_of left)) (puts_from after (parts_of (drop size left))) puts count next before mid now goes.puts_are listing
    (subst (λ (l : List Put). ListsAll count next l mid now) same more))

-- ---- the line of the total behind them

total_line : (word : List ℕ) (puts : List Put) (count : ℕ) {before mid : StreamView}
    → word ≡ codes "yes " → ListsAll 0 count puts before mid
    → number_line word count ≡ number_line (codes "yes ") (length puts)
total_line word puts count is listed =
    let many : count ≡ length puts = omega (arith, listed.count_is) in
    ap (λ (w : List ℕ). number_line w count) is ∙ ap (number_line (codes "yes ")) many

-- the report of a record that agrees
pub yes_written : {T : Type 0} (result : Result T Stop) (word : List ℕ) (puts : List Put) (count : ℕ) (before mid after : StreamView)
    → word ≡ codes "yes " → ListsAll 0 count puts before mid
    → Writes result (number_line word count) mid after
    → Writes result (yes_report puts) before after
yes_written (Ok done) word puts count before mid after is listed wrote =
    Wrote-then listed.wrote (subst (Wrote mid after) (total_line word puts count is listed) wrote)
yes_written (Err stop) word puts count before mid after is listed stopped =
    stops_behind stop (flat_map put_line puts) (number_line (codes "yes ") (length puts)) before mid after listed.wrote
    (subst (λ (t : List ℕ). Stops stop t mid after) (total_line word puts count is listed) stopped)
