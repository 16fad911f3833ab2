-- What a recorder wrote of one list of entries and then of another, as ghost members of its impl cite it.
use Rattle.std.proofs.Common.{◌≡◌, ◌≤◌, ◌<◌, ◌^◌, ◌-◌, ◌⊎◌, inl, inr, ◌++◌, ◌||◌, Bool, true, false, ℕ, List, [], ◌∷◌, Option, Some, None, Result, Ok, Err, refl, sym, ap, subst, ◌∙◌, arith, le_refl, le_trans, append_assoc, append-nil}
use Rattle.std.proofs.KnownBytes.{Appends-nil, Appends-trans}
use Rattle.world_ports.specs.Causes.{Rose}
use Rattle.world_ports.specs.Journal.{Grows}
use Rattle.world_ports.specs.Streams.{OnlyWrites, StreamView}
use Rattle.world_ports.specs.declared.Door.{Door}
use Rattle.world_ports.specs.declared.Door.TheVariants.{Clients, Children}
use Rattle.world_ports.specs.declared.Job.{Job}
use Rattle.world_ports.specs.declared.answers.Accepted.{Accepted}
use Rattle.world_ports.specs.declared.answers.Accepted.TheVariants as accepted
use Rattle.world_ports.specs.declared.answers.Got.{Got}
use Rattle.world_ports.specs.declared.answers.Got.TheVariants as got
use Rattle.world_ports.specs.declared.answers.WorldFault.{WorldFault}
use Rattle.world_ports.specs.declared.answers.WorldFault.TheVariants.{Failed, Memory}
use Rattle.world_ports.specs.declared.answers.Wrote.{Wrote}
use Rattle.world_ports.specs.declared.answers.Wrote.TheVariants as wrote
use Rattle.world_ports.specs.declared.entry.Entry.{Entry}
use Rattle.world_ports.specs.declared.entry.Entry.TheVariants as entry
use Rattle.wire_text.specs.Bounds.{longest_body}
use Rattle.wire_text.specs.Frames.{Bad, Front, More, Whole, front, split}
use Rattle.redact_core.specs.Places.{kept_len}
use Rattle.redact_core.specs.Redaction.{Redacted, redacted_all}
use Rattle.redact_core.proofs.GrowLemmas.{all_more, over_more}
use Rattle.record_world.specs.Recording.{Port, Recording, after, client_taken, find_port, heard, is_full, left, record_from, recording_after, rest_taken, taken_by, text_of}
use Rattle.record_world.specs.Leads.{BreaksFor, EndsCalls, FailsToWrite, IsFront, IsWritten, LacksRoom, Leads, Says, Stays, Taped, Writes, is_stopped, no_room_line, unwritten_line}

-- inhabited by false alone
abbrev Only : Bool → Type 0
Only false = Unit {0}
Only true = ⊥

no : false ≡ true → ⊥
no e = subst Only e tt

-- ---- journals and texts

-- no entries leave a journal as it is
pub grows-none : {A : Type 0} (told : Option (List A)) → Grows told told []
grows-none None = tt
grows-none (Some items) = sym (append-nil items)

grows-twice : {A : Type 0} (x y z : Option (List A)) (a b : List A) → Grows x y a → Grows y z b → Grows x z (a ++ b)
grows-twice None y z a b first later = tt
grows-twice (Some x) None z a b first later = absurd first
grows-twice (Some x) (Some y) None a b first later = absurd later
grows-twice (Some x) (Some y) (Some z) a b first later = later ∙ ap (λ l. l ++ b) first ∙ append_assoc x a b

record-append : (start : Recording) (a b : List Entry) → record_from start (a ++ b) ≡ record_from start a ++ record_from (recording_after start a) b
record-append start [] b = refl
record-append start (one ∷ a) b = ap (λ l. text_of one start ++ l) (record-append (after one start) a b) ∙ sym (append_assoc (text_of one start) (record_from (after one start) a) (record_from (recording_after (after one start) a) b))

after-append : (start : Recording) (a b : List Entry) → recording_after start (a ++ b) ≡ recording_after (recording_after start a) b
after-append start [] b = refl
after-append start (one ∷ a) b = after-append (after one start) a b

-- ---- what was written

written-none : (stopped : Bool) (recording : Recording) → IsWritten stopped stopped recording recording [] []
written-none true recording = refl
written-none false recording = record { lines = refl; left = refl; fits = λ fine. fine }

-- a front of a front, and of what is longer
front-longer : (text all more : List ℕ) → IsFront text all → IsFront text (all ++ more)
front-longer text all more front = record { more = front.more ++ more; is = sym (append_assoc text front.more more) ∙ ap (λ l. l ++ more) front.is }

written-twice : (s t u : Bool) (x y z : Recording) (a b : List Entry) (p q : List ℕ) → Stays s t → Stays t u → IsWritten s t x y a p → IsWritten t u y z b q
    → IsWritten s u x z (a ++ b) (p ++ q)
written-twice true false u x y z a b p q st tu first later = absurd (no st)
written-twice true true u x y z a b p q st tu first later = ap (λ l. l ++ q) first ∙ later
written-twice false true false x y z a b p q st tu first later = absurd (no tu)
written-twice false true true x y z a b p q st tu first later =
    subst (λ l. IsFront l (record_from x (a ++ b))) (sym (ap (λ l. p ++ l) later ∙ append-nil p))
    (subst (IsFront p) (sym (record-append x a b)) (front-longer p (record_from x a) (record_from (recording_after x a) b) first))
written-twice false false true x y z a b p q st tu first later = record {
  more = later.more;
  is = append_assoc p q later.more ∙ ap (λ l. p ++ l) later.is ∙ ap (λ l. l ++ record_from y b) first.lines
      ∙ ap (λ r. record_from x a ++ record_from r b) first.left ∙ sym (record-append x a b);
}
written-twice false false false x y z a b p q st tu first later = record {
  lines = ap (λ l. p ++ l) later.lines ∙ ap (λ l. l ++ record_from y b) first.lines ∙ ap (λ r. record_from x a ++ record_from r b) first.left ∙ sym (record-append x a b);
  left = later.left ∙ ap (λ r. recording_after r b) first.left ∙ sym (after-append x a b);
  fits = λ fine. later.fits (first.fits fine);
}

-- ---- stopping

-- what doesn't change stays
pub stays-same : (b : Bool) → Stays b b
stays-same true = refl
stays-same false = tt

stays-twice : (x y z : Bool) → Stays x y → Stays y z → Stays x z
stays-twice false y z first later = tt
stays-twice true false z first later = absurd (no first)
stays-twice true true z first later = later

stays-or : (a b c d : Bool) → Stays a c → Stays b d → Stays (a || b) (c || d)
stays-or true b false d ac bd = absurd (no ac)
stays-or true b true d ac bd = refl
stays-or false true c false ac bd = absurd (no bd)
stays-or false true true true ac bd = refl
stays-or false true false true ac bd = refl
stays-or false false c d ac bd = tt

-- ---- what passphrases take

rest-same : (at : Front) (port : Port) (frames : Redacted) (rest : List ℕ)
    → (rest_taken at port frames rest).passphrases ≡ frames.passphrases
rest-same (Bad announced) port frames rest = refl
rest-same (Whole body_len) port frames rest = refl
rest-same More port frames rest = refl

client-more : (is_bad : Bool) (port : Port) (piece : List ℕ) (early : List (List ℕ))
    → kept_len early ≤ kept_len (client_taken is_bad port piece early).passphrases
client-more true port piece early = le_refl (kept_len early)
client-more false port piece early =
    let cut = split longest_body (port.unrecorded ++ piece) in
    subst (λ (l : List (List ℕ)). kept_len early ≤ kept_len l)
    (sym (rest-same (front longest_body cut.rest) port (redacted_all cut.bodies early) cut.rest)) (all_more cut.bodies early)

taken_more : (door : Door) (port : Port) (piece : List ℕ) (early : List (List ℕ))
    → kept_len early ≤ kept_len (taken_by door port piece early).passphrases
taken_more Clients port piece early = client-more port.is_bad port piece early
taken_more Children port piece early = le_refl (kept_len early)

by_read : (found : Option Port) (piece : List ℕ) (recording : Recording)
    → kept_len recording.passphrases ≤ kept_len (heard found piece recording).kept.passphrases
by_read None piece recording = le_refl (kept_len recording.passphrases)
by_read (Some port) piece recording = taken_more port.door port piece recording.passphrases

read-more : (port room : ℕ) (bytes : List ℕ) (answer : Result Got WorldFault) (recording : Recording)
    → kept_len recording.passphrases ≤ kept_len (left (entry.Read port room bytes answer) recording).kept.passphrases
read-more port room bytes (Ok (got.Bytes count)) recording = by_read (find_port port recording.ports) bytes recording
read-more port room bytes (Ok got.End) recording = le_refl (kept_len recording.passphrases)
read-more port room bytes (Ok got.NotNow) recording = le_refl (kept_len recording.passphrases)
read-more port room bytes (Err Failed) recording = le_refl (kept_len recording.passphrases)
read-more port room bytes (Err Memory) recording = le_refl (kept_len recording.passphrases)

-- a call that reads nothing leaves the passphrases
accept-same : (door : Door) (answer : Result Accepted WorldFault) (recording : Recording)
    → (left (entry.Accept door answer) recording).kept.passphrases ≡ recording.passphrases
accept-same door (Ok (accepted.Port number)) recording = refl
accept-same door (Ok accepted.NotNow) recording = refl
accept-same door (Err fault) recording = refl

write-same : (port : ℕ) (offered : List ℕ) (answer : Result Wrote WorldFault) (recording : Recording)
    → (left (entry.Write port offered answer) recording).kept.passphrases ≡ recording.passphrases
write-same port offered (Ok (wrote.Took count)) recording = refl
write-same port offered (Ok wrote.NotNow) recording = refl
write-same port offered (Err Failed) recording = refl
write-same port offered (Err Memory) recording = refl

start-same : (job : Job) (answer : Result (List ℕ) WorldFault) (recording : Recording)
    → (left (entry.Start job answer) recording).kept.passphrases ≡ recording.passphrases
start-same job (Ok ticket) recording = refl
start-same job (Err Failed) recording = refl
start-same job (Err Memory) recording = refl

same-most : (a b : List (List ℕ)) → b ≡ a → kept_len a ≤ kept_len b
same-most a b is = subst (λ (c : List (List ℕ)). kept_len a ≤ kept_len c) (sym is) (le_refl (kept_len a))

one-more : (one : Entry) (recording : Recording)
    → kept_len recording.passphrases ≤ kept_len (after one recording).passphrases
one-more (entry.Bind door path answer) recording = le_refl (kept_len recording.passphrases)
one-more (entry.Poll wait items answer) recording = le_refl (kept_len recording.passphrases)
one-more (entry.Accept door answer) recording = same-most recording.passphrases (left (entry.Accept door answer) recording).kept.passphrases (accept-same door answer recording)
one-more (entry.Read port room bytes answer) recording = read-more port room bytes answer recording
one-more (entry.Write port offered answer) recording = same-most recording.passphrases (left (entry.Write port offered answer) recording).kept.passphrases (write-same port offered answer recording)
one-more (entry.Close port answer) recording = le_refl (kept_len recording.passphrases)
one-more (entry.Start job answer) recording = same-most recording.passphrases (left (entry.Start job answer) recording).kept.passphrases (start-same job answer recording)
one-more (entry.Now answer) recording = le_refl (kept_len recording.passphrases)

-- they take no less behind entries than before them
all-more : (recording : Recording) (entries : List Entry)
    → kept_len recording.passphrases ≤ kept_len (recording_after recording entries).passphrases
all-more recording [] = le_refl (kept_len recording.passphrases)
all-more recording (one ∷ later) = le_trans (one-more one recording) (all-more (after one recording) later)

-- where they took too much they still do
full-more : (recording : Recording) (entries : List Entry) → is_full recording ≡ true
    → is_full (recording_after recording entries) ≡ true
full-more recording entries full =
    over_more recording.passphrases (recording_after recording entries).passphrases (all-more recording entries) full

full-append : (start : Recording) (a b : List Entry) → is_full (recording_after start a) ≡ true
    → is_full (recording_after start (a ++ b)) ≡ true
full-append start a b full = ap is_full (after-append start a b) ∙ full-more (recording_after start a) b full

-- ---- breaking

pub cause-none : (broken short : Bool) (n : ℕ) (full : Bool) (errors : StreamView)
    → BreaksFor (broken || short) broken broken n n full errors errors
cause-none true short n full errors = (refl, refl, refl)
cause-none false true n full errors = (refl, refl, refl)
cause-none false false n full errors = (refl, refl)

broke-later : (a b c : ℕ) (d e f : StreamView) (first full : Bool) → c ≡ b → f ≡ e → (first ≡ true → full ≡ true)
    → FailsToWrite a b d e ⊎ LacksRoom first a b d e → FailsToWrite a c d f ⊎ LacksRoom full a c d f
broke-later a b c d e f first full same silent later (inl fails) = inl (record {
  rose = subst (λ (n : ℕ). Rose a n) (sym same) fails.rose;
  says = subst (λ (s : StreamView). Says unwritten_line d s) (sym silent) fails.says;
})
broke-later a b c d e f first full same silent later (inr lacks) = inr (record {
  over = later lacks.over;
  kept = same ∙ lacks.kept;
  says = subst (λ (s : StreamView). Says no_room_line d s) (sym silent) lacks.says;
})

broke-then : (a b c : ℕ) (d e f : StreamView) (second full : Bool) → b ≡ a → e ≡ d → full ≡ second
    → FailsToWrite b c e f ⊎ LacksRoom second b c e f → FailsToWrite a c d f ⊎ LacksRoom full a c d f
broke-then a b c d e f second full same silent is (inl fails) = inl (record {
  rose = subst (λ (n : ℕ). Rose n c) same fails.rose;
  says = subst (λ (s : StreamView). Says unwritten_line s f) silent fails.says;
})
broke-then a b c d e f second full same silent is (inr lacks) = inr (record {
  over = is ∙ lacks.over;
  kept = lacks.kept ∙ same;
  says = subst (λ (s : StreamView). Says no_room_line s f) silent lacks.says;
})

cause-twice : (s t x y z : Bool) (a b c : ℕ) (d e f : StreamView) (first second full : Bool) → Stays s t → (y ≡ true → t ≡ true)
    → (first ≡ true → full ≡ true) → (s ≡ false → t ≡ false → full ≡ second)
    → BreaksFor s x y a b first d e → BreaksFor t y z b c second e f → BreaksFor s x z a c full d f
cause-twice true true x y z a b c d e f first second full stays broken later same early late =
    (late.0 ∙ early.0, late.1 ∙ early.1, late.2 ∙ early.2)
cause-twice true false x y z a b c d e f first second full stays broken later same early late = absurd (no stays)
cause-twice false true x true z a b c d e f first second full stays broken later same early late =
    subst (λ (now : Bool). BreaksFor false x now a c full d f) (sym late.0) (broke-later a b c d e f first full late.1 late.2 later early)
cause-twice false true x false z a b c d e f first second full stays broken later same early late =
    subst (λ (now : Bool). BreaksFor false x now a c full d f) (sym late.0) (late.1 ∙ early.0, late.2 ∙ early.1)
cause-twice false false x true z a b c d e f first second full stays broken later same early late = absurd (no (broken refl))
cause-twice false false x false true a b c d e f first second full stays broken later same early late =
    broke-then a b c d e f second full early.0 early.1 (same refl refl) late
cause-twice false false x false false a b c d e f first second full stays broken later same early late =
    (late.0 ∙ early.0, late.1 ∙ early.1)

-- one that is broken is stopped
broken-stops : (broken short : Bool) → broken ≡ true → broken || short ≡ true
broken-stops true short is = refl
broken-stops false short is = absurd (no is)

-- what one that isn't stopped keeps
left-whole : (s t : Bool) (x y : Recording) (a : List Entry) (p : List ℕ) → IsWritten s t x y a p → s ≡ false → t ≡ false
    → y ≡ recording_after x a
left-whole true t x y a p written goes on = absurd (no (sym goes))
left-whole false true x y a p written goes on = absurd (no (sym on))
left-whole false false x y a p written goes on = written.left

-- ---- the sink

-- a sink that stands as it was is only written
pub only-none : (sink : StreamView) → OnlyWrites sink sink
only-none sink = record { taken = refl; left = refl; read_faults = refl; later = le_refl sink.write_faults }

only-twice : (x y z : StreamView) → OnlyWrites x y → OnlyWrites y z → OnlyWrites x z
only-twice x y z first later = record {
  taken = later.taken ∙ first.taken;
  left = later.left ∙ first.left;
  read_faults = later.read_faults ∙ first.read_faults;
  later = le_trans first.later later.later;
}

-- ---- the order

-- of no entries nothing is written
pub writes-none : (tape : Taped) → Writes [] tape tape
writes-none x = record {
  text = [];
  written = Appends-nil x.sink.written;
  only = only-none x.sink;
  broken = stays-same x.is_broken;
  short = stays-same x.is_short;
  cause = cause-none x.is_broken x.is_short x.sink.write_faults (is_full x.recording) x.errors;
  lines = written-none (is_stopped x) x.recording;
}

-- what was written of one list and then of another was written of both
pub writes-twice : (x y z : Taped) (a b : List Entry) → Writes a x y → Writes b y z → Writes (a ++ b) x z
writes-twice x y z a b first later = record {
  text = first.text ++ later.text;
  written = Appends-trans x.sink.written y.sink.written z.sink.written first.text later.text first.written later.written;
  only = only-twice x.sink y.sink z.sink first.only later.only;
  broken = stays-twice x.is_broken y.is_broken z.is_broken first.broken later.broken;
  short = stays-twice x.is_short y.is_short z.is_short first.short later.short;
  cause = cause-twice (is_stopped x) (is_stopped y) x.is_broken y.is_broken z.is_broken x.sink.write_faults y.sink.write_faults
      z.sink.write_faults x.errors y.errors z.errors (is_full (recording_after x.recording a)) (is_full (recording_after y.recording b))
      (is_full (recording_after x.recording (a ++ b)))
      (stays-or x.is_broken x.is_short y.is_broken y.is_short first.broken first.short)
      (broken-stops y.is_broken y.is_short) (full-append x.recording a b)
      (λ goes on. ap is_full (after-append x.recording a b)
      ∙ sym (ap (λ r. is_full (recording_after r b)) (left-whole (is_stopped x) (is_stopped y) x.recording y.recording a first.text first.lines goes on)))
      first.cause later.cause;
  lines = written-twice (is_stopped x) (is_stopped y) (is_stopped z) x.recording y.recording z.recording a b first.text later.text
      (stays-or x.is_broken x.is_short y.is_broken y.is_short first.broken first.short) (stays-or y.is_broken y.is_short z.is_broken z.is_short later.broken later.short) first.lines later.lines;
}

-- no entries end with what is written
pub ends-none : (was_stopped : Bool) (before : Recording) (text : List ℕ) → EndsCalls was_stopped before [] text
ends-none was_stopped before text = record {
  told = [];
  last = [];
  split = refl;
  one = omega arith;
  front = record { more = text; is = refl };
  none = λ was. refl;
}

-- and so do those of one stretch and then of another
ends-twice : (s t : Bool) (x y : Recording) (a b : List Entry) (p q : List ℕ) → Stays s t → IsWritten s t x y a p
    → EndsCalls s x a p → EndsCalls t y b q → EndsCalls s x (a ++ b) (p ++ q)
ends-twice s true x y a b p q stays written first later = record {
  told = first.told;
  last = first.last;
  split = ap (λ l. a ++ l) (later.none refl) ∙ append-nil a ∙ first.split;
  one = first.one;
  front = front-longer (record_from x first.told) p q first.front;
  none = λ was. ap (λ l. l ++ b) (first.none was) ∙ later.none refl;
}
ends-twice true false x y a b p q stays written first later = absurd (no stays)
ends-twice false false x y a b p q stays written first later = record {
  told = a ++ later.told;
  last = later.last;
  split = ap (λ l. a ++ l) later.split ∙ sym (append_assoc a later.told later.last);
  one = later.one;
  front = record {
    more = later.front.more;
    is = ap (λ l. l ++ later.front.more) (record-append x a later.told)
        ∙ append_assoc (record_from x a) (record_from (recording_after x a) later.told) later.front.more
        ∙ ap (λ l. l ++ (record_from (recording_after x a) later.told ++ later.front.more)) (sym written.lines)
        ∙ ap (λ r. p ++ (record_from r later.told ++ later.front.more)) (sym written.left)
        ∙ ap (λ l. p ++ l) later.front.is;
  };
  none = λ was. absurd (no was);
}

-- no entries lead from a journal and a tape to themselves
pub leads-same : (or_stop : Bool) (journal : Option (List Entry)) (tape : Taped) → Leads or_stop journal journal tape tape
unfolding writes-none
leads-same or_stop journal tape = record {
  entries = [];
  grows = grows-none journal;
  writes = writes-none tape;
  ends = λ is. ends-none (is_stopped tape) tape.recording [];
}

-- the entries of one stretch and then of another are those of both
pub leads-twice : (early late : Bool) (i j k : Option (List Entry)) (x y z : Taped) → late ≡ early → Leads early i j x y
    → Leads late j k y z → Leads early i k x z
unfolding writes-twice
leads-twice early late i j k x y z same first later = record {
  entries = first.entries ++ later.entries;
  grows = grows-twice i j k first.entries later.entries first.grows later.grows;
  writes = writes-twice x y z first.entries later.entries first.writes later.writes;
  ends = λ is. ends-twice (is_stopped x) (is_stopped y) x.recording y.recording first.entries later.entries first.writes.text
      later.writes.text
      (stays-or x.is_broken x.is_short y.is_broken y.is_short first.writes.broken first.writes.short) first.writes.lines
      (first.ends is) (later.ends (same ∙ is));
}
