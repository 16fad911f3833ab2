-- The end of a loop whose calls are recorded.
use Rattle.std.proofs.Common.{◌≡◌, ◌≤◌, ◌∙◌, ◌⊎◌, inl, inr, [], ◌∷◌, ◌++◌, ℕ, Bool, true, false, ◌||◌, if◌then◌else◌, List, length, Option, Some, None, append-nil, append_assoc, arith, refl, subst, sym, ap}
use Rattle.std.proofs.KnownBytes.{Appends-nil}
use Rattle.std.proofs.lemmas.List.{append_cancel_left}
use Rattle.world_ports.specs.Causes.{Rose}
use Rattle.world_ports.specs.Journal.{Grows}
use Rattle.world_ports.specs.Streams.{OnlyWrites, StreamView}
use Rattle.world_ports.specs.declared.entry.Entry.{Entry}
use Rattle.record_world.specs.Leads.{BreaksFor, EndsCalls, FailsToWrite, IsFront, IsWritten, LacksRoom, Leads, Says, Taped, no_room_line, taped}
use Rattle.record_world.specs.Orders.{only-none}
use Rattle.record_world.specs.Recording.{Recording, after, first_recording, is_full, record_from, record_of, recording_after, text_of}
use Rattle.ready_loop.specs.declared.outcome.ServeEnd.{ServeEnd}
use Rattle.ready_loop.specs.declared.outcome.ServeEnd.TheVariants as ends
use Rattle.agent_top.specs.RecordProgram.{Breaks, HaveNoRoom, HoldsOfAdded, IsUnbroken, Records}
use Rattle.agent_top.specs.ServeProgram.{status_of_recorded}
use Rattle.agent_top.specs.declared.status.Status.{Status}
use Rattle.agent_top.specs.declared.status.Status.TheVariants as status

-- the calls are those that the journal has more
same_calls : (before : List Entry) (journal : Option (List Entry)) (one other : List Entry)
    → Grows (Some before) journal one → Grows (Some before) journal other → one ≡ other
same_calls before None one other first second = absurd first
same_calls before (Some now) one other first second =
    append_cancel_left before one other (sym first ∙ second)

tells_done : Status → Bool
tells_done status.Done = true
tells_done (status.ScheduleRefused line fault) = false
tells_done status.Usage = false
tells_done status.BindFault = false
tells_done status.PollFault = false
tells_done status.Memory = false
tells_done status.ReadFault = false
tells_done status.WriteFault = false
tells_done status.RecordFault = false

-- the status tells an end without a fault only where no write failed
pub whole_by : (short failed : Bool) (end : ServeEnd) → status_of_recorded short failed end ≡ status.Done → failed ≡ false
unfolding tells_done
whole_by short false end is = refl
whole_by true true end is = sym (ap tells_done is)
whole_by false true ends.Over is = sym (ap tells_done is)
whole_by false true ends.Idle is = sym (ap tells_done is)
whole_by false true ends.BindFault is = sym (ap tells_done is)
whole_by false true ends.PollFault is = sym (ap tells_done is)
whole_by false true ends.Memory is = sym (ap tells_done is)

-- the calls end with the record, by whether memory ran out in one, the agent is to end with it, and it broke
abbrev ended : Bool → Bool → Bool → Bool
ended short or_stop failed = if failed then or_stop else short

-- what a recorder wrote of them, by how it stands at the end
records_as : (or_stop short failed : Bool) (end : ServeEnd) (left : Recording) (calls : List Entry) (old new errors said : StreamView) (text : List ℕ)
    → BreaksFor false false failed old.write_faults new.write_faults (is_full (recording_after first_recording calls)) errors said
    → IsWritten false (failed || short) first_recording left calls text
    → IsFront text (record_of calls)
    × (¬ (Rose old.write_faults new.write_faults) → ¬ (HaveNoRoom calls)
    → ¬ (status_of_recorded (ended short or_stop failed) failed end ≡ status.RecordFault) → text ≡ record_of calls)
    × (¬ (Rose old.write_faults new.write_faults) → HaveNoRoom calls
    → ¬ (status_of_recorded (ended short or_stop failed) failed end ≡ status.RecordFault) → Says no_room_line errors said)
    × (status_of_recorded (ended short or_stop failed) failed end ≡ status.Done → ¬ (HaveNoRoom calls))
unfolding tells_done
records_as or_stop short true end left calls old new errors said text cause front = (
  front,
  λ none fine told. elim cause [ inl fails ↦ absurd (none fails.rose) | inr lacks ↦ absurd (fine lacks.over) ],
  λ none full told. elim cause [ inl fails ↦ absurd (none fails.rose) | inr lacks ↦ lacks.says ],
  λ finished full. (let both : true ≡ false = whole_by (ended short or_stop true) true end finished in absurd cc),
)
records_as or_stop true false end left calls old new errors said text cause front = (
  front,
  λ none fine told. absurd (told refl),
  λ none full told. absurd (told refl),
  λ finished full. (let both : false ≡ true = ap tells_done finished in absurd cc),
)
records_as or_stop false false end left calls old new errors said text cause whole = (
  record { more = []; is = append-nil text ∙ whole.lines },
  λ none fine told. whole.lines,
  λ none full told.
      (let both : true ≡ false = sym full ∙ sym (ap is_full whole.left) ∙ whole.fits refl in absurd cc),
  λ finished full.
      (let both : true ≡ false = sym full ∙ sym (ap is_full whole.left) ∙ whole.fits refl in absurd cc),
)

-- ---- where the calls end with the record

-- lists of at least two
no_more : (before later : List Entry) (first next : Entry) → length (first ∷ (before ++ next ∷ later)) ≤ 1 → ⊥
no_more [] later first next one = omega arith
no_more (second ∷ before) later first next one = omega arith

-- what stands before some of them stands among all but the last
told_before : (told last before later : List Entry) (next : Entry) → told ++ last ≡ before ++ next ∷ later → length last ≤ 1
    → (more : List Entry) × (told ≡ before ++ more)
told_before told last [] later next same one = (told, refl)
told_before [] last (first ∷ before) later next same one =
    absurd (no_more before later first next (subst (λ (l : List Entry). length l ≤ 1) same one))
told_before (entry ∷ told) last (first ∷ before) later next same one =
    let head : entry ≡ first = cc in
    let tail : told ++ last ≡ before ++ next ∷ later = cc in
    let rest = told_before told last before later next tail one in
    (rest.0, ap (λ (e : Entry). e ∷ told) head ∙ ap (λ (l : List Entry). first ∷ l) rest.1)

record_behind : (start : Recording) (a b : List Entry)
    → record_from start (a ++ b) ≡ record_from start a ++ record_from (recording_after start a) b
record_behind start [] b = refl
record_behind start (one ∷ a) b =
    ap (λ l. text_of one start ++ l) (record_behind (after one start) a b)
    ∙ sym (append_assoc (text_of one start) (record_from (after one start) a) (record_from (recording_after (after one start) a) b))

-- a call is behind the record of those before it
seen_by : (calls before later : List Entry) (next : Entry) (text : List ℕ) → EndsCalls false first_recording calls text
    → calls ≡ before ++ next ∷ later → IsFront (record_of before) text
seen_by calls before later next text ends same =
    let rest = told_before ends.told ends.last before later next (sym ends.split ∙ same) ends.one in
    let behind = record_from (recording_after first_recording before) rest.0 in
    record {
      more = behind ++ ends.front.more;
      is = sym (append_assoc (record_of before) behind ends.front.more)
          ∙ ap (λ (l : List ℕ). l ++ ends.front.more) (sym (record_behind first_recording before rest.0))
          ∙ ap (λ (l : List Entry). record_from first_recording l ++ ends.front.more) (sym rest.1)
          ∙ ends.front.is;
    }

-- a recorder's end says what the status says
records_by : (or_stop short failed : Bool) (end : ServeEnd) (left : Recording) (journal later : Option (List Entry)) (old new errors said : StreamView)
    → Leads or_stop journal later (taped old errors false false first_recording) (taped new said failed short left)
    → HoldsOfAdded journal later (Records or_stop (status_of_recorded (ended short or_stop failed) failed end) old new errors said)
records_by or_stop short failed end left None later old new errors said leads = tt
records_by or_stop short failed end left (Some before) later old new errors said leads = λ calls grows.
    let same : leads.entries ≡ calls = same_calls before later leads.entries calls leads.grows grows in
    let parts = records_as or_stop short failed end left calls old new errors said leads.writes.text
    (subst (λ (c : List Entry). BreaksFor false false failed old.write_faults new.write_faults (is_full (recording_after first_recording c)) errors said) same leads.writes.cause)
    (subst (λ (c : List Entry). IsWritten false (failed || short) first_recording left c leads.writes.text) same leads.writes.lines) in
    record {
      text = leads.writes.text;
      written = leads.writes.written;
      front = parts.0;
      whole = parts.1;
      told = parts.2;
      room = parts.3;
      seen = λ is early late next split. seen_by leads.entries early late next leads.writes.text (leads.ends is) (same ∙ split);
    }

no_call_behind : (early late : List Entry) (next : Entry) → early ++ next ∷ late ≡ [] → ⊥
no_call_behind [] late next is = cc
no_call_behind (one ∷ early) late next is = cc

-- where no call was made there is nothing to be recorded
pub unwritten : (or_stop : Bool) (journal : Option (List Entry)) (sink errors : StreamView)
    → HoldsOfAdded journal journal (Records or_stop status.Memory sink sink errors errors)
unfolding tells_done
unwritten or_stop None sink errors = tt
unwritten or_stop (Some before) sink errors = λ calls grows.
    let none : calls ≡ [] = append_cancel_left before calls [] (sym grows ∙ sym (append-nil before)) in
    record {
      text = [];
      written = Appends-nil sink.written;
      front = record { more = record_of calls; is = refl };
      whole = λ kept fine told. sym (ap record_of none);
      told = λ kept full told. (let both : true ≡ false = sym full ∙ ap (λ (c : List Entry). is_full (recording_after first_recording c)) none in absurd cc);
      room = λ finished. (let both : false ≡ true = ap tells_done finished in absurd cc);
      seen = λ is early late next split. absurd (no_call_behind early late next (sym split ∙ none));
    }

-- what a recorder wrote since it was made
since_made : (or_stop : Bool) (journal begun later : Option (List Entry)) (old errors : StreamView) (first last : Taped)
    → begun ≡ journal → first ≡ taped old errors false false first_recording
    → Leads or_stop begun later first last → Leads or_stop journal later (taped old errors false false first_recording) last
since_made or_stop journal begun later old errors first last same made led =
    subst (λ (tape : Taped). Leads or_stop journal later tape last) made
    (subst (λ (calls : Option (List Entry)). Leads or_stop calls later first last) same led)

tells_record : Status → Bool
tells_record status.Done = false
tells_record (status.ScheduleRefused line fault) = false
tells_record status.Usage = false
tells_record status.BindFault = false
tells_record status.PollFault = false
tells_record status.Memory = false
tells_record status.ReadFault = false
tells_record status.WriteFault = false
tells_record status.RecordFault = true

-- the status tells that the calls ended with the record only where they did
ended_by : (ends failed : Bool) (end : ServeEnd) → status_of_recorded ends failed end ≡ status.RecordFault → ends ≡ true
unfolding tells_record
ended_by true failed end is = refl
ended_by false true ends.Over is = ap tells_record is
ended_by false true ends.Idle is = ap tells_record is
ended_by false false ends.Over is = ap tells_record is
ended_by false false ends.Idle is = ap tells_record is
ended_by false failed ends.BindFault is = ap tells_record is
ended_by false failed ends.PollFault is = ap tells_record is
ended_by false failed ends.Memory is = ap tells_record is

-- where the agent isn't to end with the record, that is so only where no write failed
goes_on_by : (or_stop short failed : Bool) (end : ServeEnd) (old new : ℕ) (full : Bool) (errors said : StreamView)
    → BreaksFor false false failed old new full errors said
    → status_of_recorded (ended short or_stop failed) failed end ≡ status.RecordFault → or_stop ≡ false
    → (new ≡ old) × (said ≡ errors)
goes_on_by or_stop short true end old new full errors said cause is none =
    (let both : true ≡ false = sym (ended_by or_stop true end is) ∙ none in absurd cc)
goes_on_by or_stop short false end old new full errors said cause is none = cause

tells_write : Status → Bool
tells_write status.Done = false
tells_write (status.ScheduleRefused line fault) = false
tells_write status.Usage = false
tells_write status.BindFault = false
tells_write status.PollFault = false
tells_write status.Memory = false
tells_write status.ReadFault = false
tells_write status.WriteFault = true
tells_write status.RecordFault = false

-- the status tells a failed write only where one failed
pub failed_by : (short failed : Bool) (end : ServeEnd)
    → status_of_recorded short failed end ≡ status.WriteFault → failed ≡ true
unfolding tells_write
failed_by short true end is = refl
failed_by true false end is = ap tells_write is
failed_by false false ends.Over is = ap tells_write is
failed_by false false ends.Idle is = ap tells_write is
failed_by false false ends.BindFault is = ap tells_write is
failed_by false false ends.PollFault is = ap tells_write is
failed_by false false ends.Memory is = ap tells_write is

-- a record broke where a write failed or the passphrases of the calls that were added have no room
full_by : (journal later : Option (List Entry)) (entries : List Entry) → Grows journal later entries → HaveNoRoom entries
    → HoldsOfAdded journal later HaveNoRoom
full_by None later entries grows full = tt
full_by (Some before) later entries grows full =
    λ calls added. subst HaveNoRoom (same_calls before later entries calls grows added) full

broken_by : (journal later : Option (List Entry)) (old new errors said : StreamView) (entries : List Entry) → Grows journal later entries
    → FailsToWrite old.write_faults new.write_faults errors said
    ⊎ LacksRoom (is_full (recording_after first_recording entries)) old.write_faults new.write_faults errors said
    → Breaks journal later old new errors said
broken_by journal later old new errors said entries grows (inl fails) = inl fails
broken_by journal later old new errors said entries grows (inr lacks) =
    inr (full_by journal later entries grows lacks.over, lacks.kept, lacks.says)

-- and else nothing was said
says_by : (failed : Bool) (journal later : Option (List Entry)) (old new errors said : StreamView) (entries : List Entry)
    → Grows journal later entries
    → BreaksFor false false failed old.write_faults new.write_faults (is_full (recording_after first_recording entries)) errors said
    → IsUnbroken old new errors said ⊎ Breaks journal later old new errors said
says_by true journal later old new errors said entries grows cause = inr (broken_by journal later old new errors said entries grows cause)
says_by false journal later old new errors said entries grows cause = inl cause

-- what says it is only written
errors_by : (failed : Bool) (old new : ℕ) (full : Bool) (errors said : StreamView) → BreaksFor false false failed old new full errors said
    → OnlyWrites errors said
errors_by true old new full errors said (inl fails) = fails.says.puts.only
errors_by true old new full errors said (inr lacks) = lacks.says.puts.only
errors_by false old new full errors said cause = subst (λ (s : StreamView). OnlyWrites errors s) (sym cause.1) (only-none errors)

-- all that a recorder says to its caller at the end
pub record Told (or_stop : Bool) (result : Status) (journal later : Option (List Entry)) (old new errors said : StreamView) : Type 0 where
  pub records : HoldsOfAdded journal later (Records or_stop result old new errors said)
  pub write : result ≡ status.WriteFault → Breaks journal later old new errors said
  pub says : IsUnbroken old new errors said ⊎ Breaks journal later old new errors said
  pub done : result ≡ status.Done → IsUnbroken old new errors said
  pub goes_on : result ≡ status.RecordFault → or_stop ≡ false → IsUnbroken old new errors said
  pub only : OnlyWrites old new
  pub errors_only : OnlyWrites errors said

pub told_by : (or_stop begun_stop seen_stop : Bool) (result : Status) (seen_ended seen_failed short failed : Bool) (end : ServeEnd) (journal begun later : Option (List Entry)) (old new errors said : StreamView) (first : Taped) (left : Recording)
    → result ≡ status_of_recorded seen_ended seen_failed end → seen_ended ≡ ended short seen_stop failed → seen_failed ≡ failed
    → seen_stop ≡ begun_stop → begun_stop ≡ or_stop → begun ≡ journal → first ≡ taped old errors false false first_recording
    → Leads begun_stop begun later first (taped new said failed short left)
    → Told or_stop result journal later old new errors said
told_by or_stop begun_stop seen_stop result seen_ended seen_failed short failed end journal begun later old new errors said first left is same_ended same_failed kept_stop same_stop same made began =
    let led : Leads or_stop journal later (taped old errors false false first_recording) (taped new said failed short left) =
    since_made or_stop journal begun later old errors first (taped new said failed short left) same made
    (subst (λ (s : Bool). Leads s begun later first (taped new said failed short left)) same_stop began) in
    let is_ended : seen_ended ≡ ended short or_stop failed = same_ended ∙ ap (λ (s : Bool). ended short s failed) (kept_stop ∙ same_stop) in
    let ends : result ≡ status_of_recorded (ended short or_stop failed) failed end = is ∙ ap (λ (s : Bool). status_of_recorded s seen_failed end) is_ended
    ∙ ap (λ (f : Bool). status_of_recorded (ended short or_stop failed) f end) same_failed in
    let full = is_full (recording_after first_recording led.entries) in
    record {
      records = subst (λ (r : Status). HoldsOfAdded journal later (Records or_stop r old new errors said)) (sym ends) (records_by or_stop short failed end left journal later old new errors said led);
      write = λ wrote. broken_by journal later old new errors said led.entries led.grows
          (subst (λ (broken : Bool). BreaksFor false false broken old.write_faults new.write_faults full errors said) (failed_by (ended short or_stop failed) failed end (sym ends ∙ wrote)) led.writes.cause);
      says = says_by failed journal later old new errors said led.entries led.grows led.writes.cause;
      done = λ finished. subst (λ (broken : Bool). BreaksFor false false broken old.write_faults new.write_faults full errors said) (whole_by (ended short or_stop failed) failed end (sym ends ∙ finished)) led.writes.cause;
      goes_on = λ told. goes_on_by or_stop short failed end old.write_faults new.write_faults full errors said led.writes.cause (sym ends ∙ told);
      only = led.writes.only;
      errors_only = errors_by failed old.write_faults new.write_faults full errors said led.writes.cause;
    }
