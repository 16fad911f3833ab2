-- What a recorder wrote of one call.
use Rattle.std.proofs.Common.{codes, ◌≡◌, ◌++◌, ◌||◌, ◌&&◌, Bool, true, false, if◌then◌else◌, not, ℕ, List, [], ◌∷◌, Option, refl, sym, ap, subst, ◌∙◌, append_assoc, append-nil, Result, Ok, Err, OnErr, ◌⊎◌, inl, inr, arith}
use Rattle.std.specs.Io.KnownBytes.{Appends}
use Rattle.std.proofs.KnownBytes.{Appends-nil, Appends-trans}
use Rattle.world_ports.specs.Journal.{Tells}
use Rattle.world_ports.specs.Streams.{StreamView, WritesPart}
use Rattle.world_ports.specs.declared.Door.{Door}
use Rattle.world_ports.specs.declared.answers.WorldFault.{WorldFault}
use Rattle.world_ports.specs.declared.entry.Entry.{Entry}
use Rattle.world_ports.specs.declared.entry.Entry.TheVariants as entry
use Rattle.record_world.specs.Recording.{Recording, after, is_full, record_from, recording_after, text_of}
use Rattle.record_world.specs.Leads.{EndsCalls, IsOrder, IsWritten, Leads, Puts, Says, SaysIf, Stays, Taped, Writes, WritesOf, is_stopped, no_room_line, taped}
use Rattle.record_world.specs.Orders.{cause-none, grows-none, only-none, stays-same, writes-none, writes-twice, ends-none}

pub is_order : IsOrder
is_order = record { stays = writes-none; goes_on = writes-twice }

-- a call on a recorder whose calls end with what is written: that wasn't stopped before
goes-on : (or_stop stopped : Bool) → (or_stop && stopped) ≡ false → or_stop ≡ true → stopped ≡ true → ⊥
goes-on true true goes is was = cc
goes-on true false goes is was = cc
goes-on false stopped goes is was = cc

ends-one : (or_stop was_stopped : Bool) (one : Entry) (before : Recording) (text : List ℕ) → (or_stop && was_stopped) ≡ false
    → or_stop ≡ true → EndsCalls was_stopped before (one ∷ []) text
ends-one or_stop was_stopped one before text goes is = record {
  told = [];
  last = one ∷ [];
  split = refl;
  one = omega arith;
  front = record { more = text; is = refl };
  none = λ was. absurd (goes-on or_stop was_stopped goes is was);
}

-- one that was let through isn't to end: it wasn't owed that memory ran out, either
pub let_through : (answer owes ends : Bool) → answer ≡ (owes || ends) → answer ≡ false → ends ≡ false
let_through answer true ends is none = absurd cc
let_through answer false ends is none = cc

-- what a call told the journal, and what was written of its entry
pub leads-call : (or_stop is_short : Bool) (one : Entry) (i j : Option (List Entry)) (x y : Taped) → (or_stop && is_stopped x) ≡ false
    → Tells i j is_short one → WritesOf is_short one x y → Leads or_stop i j x y
leads-call or_stop false one i j x y goes told wrote =
    record { entries = one ∷ []; grows = told; writes = wrote; ends = ends-one or_stop (is_stopped x) one x.recording wrote.text goes }
leads-call or_stop true one i j x y goes (inl told) wrote =
    record { entries = one ∷ []; grows = told; writes = wrote (one ∷ []); ends = ends-one or_stop (is_stopped x) one x.recording (wrote (one ∷ [])).text goes }
leads-call or_stop true one i j x y goes (inr told) wrote =
    record { entries = []; grows = told; writes = wrote []; ends = λ is. ends-none (is_stopped x) x.recording (wrote []).text }

-- ---- nothing is written

-- a recorder that is stopped afterwards, of any entries
stopped-lines : (before after : Bool) (kept left : Recording) (entries : List Entry) → after ≡ true → IsWritten before after kept left entries []
stopped-lines true after kept left entries is = refl
stopped-lines false true kept left entries is = record { more = record_from kept entries; is = refl }
stopped-lines false false kept left entries is = absurd cc

stays-or : (short more : Bool) → Stays short (short || more)
stays-or true more = refl
stays-or false more = tt

pub writes-stopped : (entries : List Entry) (sink errors : StreamView) (broken short more : Bool) (kept left : Recording) → broken || (short || more) ≡ true
    → Writes entries (taped sink errors broken short kept) (taped sink errors broken (short || more) left)
writes-stopped entries sink errors broken short more kept left is = record {
  text = [];
  written = Appends-nil sink.written;
  only = only-none sink;
  broken = stays-same broken;
  short = stays-or short more;
  cause = cause-none broken short sink.write_faults (is_full (recording_after kept entries)) errors;
  lines = stopped-lines (broken || short) (broken || (short || more)) kept left entries is;
}

not_false : (b : Bool) → not b ≡ false → b ≡ true
not_false true is = refl
not_false false is = absurd cc

not_true : (b : Bool) → not b ≡ true → b ≡ false
not_true true is = absurd cc
not_true false is = refl

-- it was stopped before, or this call wanted memory
pub passed_by : (is_short : Bool) (one : Entry) (sink errors : StreamView) (broken short : Bool) (kept : Recording) → not (broken || (short || is_short)) ≡ false
    → WritesOf is_short one (taped sink errors broken short kept) (taped sink errors broken (short || is_short) kept)
passed_by true one sink errors broken short kept stopped = λ entries. writes-stopped entries sink errors broken short true kept kept (not_false _ stopped)
passed_by false one sink errors broken short kept stopped = writes-stopped (one ∷ []) sink errors broken short false kept kept (not_false _ stopped)

-- ---- its lines are written

-- the lines of one entry
of_one : (one : Entry) (kept : Recording) (text : List ℕ) → text ≡ text_of one kept → text ≡ record_from kept (one ∷ [])
of_one one kept text is = is ∙ sym (append-nil (text_of one kept))

-- a call without lines
pub silent : (is_short : Bool) (one : Entry) (sink errors : StreamView) (broken short : Bool) (kept : Recording) → not (broken || (short || is_short)) ≡ true → text_of one kept ≡ []
    → (is_full kept ≡ false → is_full (after one kept) ≡ false)
    → WritesOf is_short one (taped sink errors broken short kept) (taped sink errors broken (short || is_short) (after one kept))
silent is_short one sink errors true short kept goes none fits = absurd cc
silent is_short one sink errors false true kept goes none fits = absurd cc
silent true one sink errors false false kept goes none fits = absurd cc
silent false one sink errors false false kept goes none fits = record {
  text = [];
  written = Appends-nil sink.written;
  only = only-none sink;
  broken = tt;
  short = tt;
  cause = (refl, refl);
  lines = record { lines = of_one one kept [] (sym none); left = refl; fits = fits };
}

-- its text is put
put_one : (failed : Bool) (one : Entry) (sink later errors said : StreamView) (kept : Recording) (text : List ℕ) → Puts text sink later failed → SaysIf failed errors said → text ≡ text_of one kept
    → (is_full kept ≡ false → is_full (after one kept) ≡ false)
    → Writes (one ∷ []) (taped sink errors false false kept) (taped later said failed false (after one kept))
put_one false one sink later errors said kept text puts says is fits = record {
  text = text;
  written = puts.written;
  only = puts.only;
  broken = tt;
  short = tt;
  cause = (puts.cause, says);
  lines = record { lines = of_one one kept text is; left = refl; fits = fits };
}
put_one true one sink later errors said kept text puts says is fits = record {
  text = puts.written.1.front;
  written = puts.written.1.written;
  only = puts.only;
  broken = tt;
  short = tt;
  cause = inl (record { rose = puts.cause; says = says });
  lines = record { more = puts.written.0; is = puts.written.1.whole ∙ of_one one kept text is };
}

pub written_by : (is_short : Bool) (one : Entry) (sink later errors said : StreamView) (broken short failed : Bool) (kept : Recording) (text : List ℕ) → not (broken || (short || is_short)) ≡ true
    → Puts text sink later failed → SaysIf failed errors said → text ≡ text_of one kept → (is_full kept ≡ false → is_full (after one kept) ≡ false)
    → WritesOf is_short one (taped sink errors broken short kept) (taped later said failed (short || is_short) (after one kept))
written_by is_short one sink later errors said true short failed kept text goes puts says is fits = absurd cc
written_by is_short one sink later errors said false true failed kept text goes puts says is fits = absurd cc
written_by true one sink later errors said false false failed kept text goes puts says is fits = absurd cc
written_by false one sink later errors said false false failed kept text goes puts says is fits = put_one failed one sink later errors said kept text puts says is fits

-- a read that brought more passphrases than there is room for
pub overflows : (one : Entry) (sink errors said : StreamView) (broken short : Bool) (kept left : Recording)
    → not (broken || (short || false)) ≡ true → is_full (after one kept) ≡ true → Says no_room_line errors said
    → Writes (one ∷ []) (taped sink errors broken short kept) (taped sink said true (short || false) left)
overflows one sink errors said true short kept left goes full says = absurd cc
overflows one sink errors said false true kept left goes full says = absurd cc
overflows one sink errors said false false kept left goes full says = record {
  text = [];
  written = Appends-nil sink.written;
  only = only-none sink;
  broken = tt;
  short = tt;
  cause = inr (record { over = full; kept = refl; says = says });
  lines = record { more = record_from kept (one ∷ []); is = refl };
}

-- ---- no call on the inner world, since memory was wanted for it

pub leads-lacking : (or_stop lacks : Bool) (journal : Option (List Entry)) (sink errors : StreamView) (broken short : Bool) (kept : Recording) → lacks ≡ true
    → Leads or_stop journal journal (taped sink errors broken short kept) (taped sink errors broken (short || lacks) kept)
unfolding writes-stopped
leads-lacking or_stop false journal sink errors broken short kept is = absurd cc
leads-lacking or_stop true journal sink errors broken short kept is = record {
  entries = [];
  grows = grows-none journal;
  writes = writes-stopped [] sink errors broken short true kept kept (stopped broken short);
  ends = λ is. ends-none (broken || short) kept [];
}
  where
    stopped : (a b : Bool) → a || (b || true) ≡ true
    stopped true b = refl
    stopped false true = refl
    stopped false false = refl

-- ---- what is said

-- a line of its own was put
pub said_once : (line : List ℕ) (errors said : StreamView) (failed : Bool) → Puts (line ++ []) errors said failed → Says line errors said
said_once line errors said failed puts =
    record { failed = failed; puts = subst (λ (text : List ℕ). Puts text errors said failed) (append-nil line) puts }

-- ---- two texts, one after the other

-- a part of the first is a part of both
pub part_longer : (first second : List ℕ) (x y : StreamView) → WritesPart first x y → WritesPart (first ++ second) x y
part_longer first second x y part = (
  part.0 ++ second,
  record {
    front = part.1.front;
    whole = sym (append_assoc part.1.front part.0 second) ∙ ap (λ (l : List ℕ). l ++ second) part.1.whole;
    written = part.1.written;
  },
)

-- and so is the first with a part of the second
part-behind : (first second : List ℕ) (x y z : StreamView) → Appends x.written y.written first → WritesPart second y z → WritesPart (first ++ second) x z
part-behind first second x y z early part = (
  part.0,
  record {
    front = first ++ part.1.front;
    whole = append_assoc first part.1.front part.0 ∙ ap (λ (l : List ℕ). first ++ l) part.1.whole;
    written = Appends-trans x.written y.written z.written first part.1.front early part.1.written;
  },
)

pub part_behind_err : {T E : Type 0} (result : Result T E) (first second : List ℕ) (x y z : StreamView) → Appends x.written y.written first
    → OnErr result (WritesPart second y z) → OnErr result (WritesPart (first ++ second) x z)
part_behind_err (Ok value) first second x y z early part = tt
part_behind_err (Err fault) first second x y z early part = part-behind first second x y z early part

-- what an error leaves
pub on_err : {T E : Type 0} (result : Result T E) (fact : Type 0) → fact → OnErr result fact
on_err (Ok value) fact holds = tt
on_err (Err fault) fact holds = holds

-- ---- the first bind

pub bind_wrote : (is_short : Bool) (door : Door) (path : List ℕ) (answer : Result (Unit {0}) WorldFault) (sink later errors said : StreamView) (broken short failed goes_on first shortened : Bool) (kept left : Recording)
    → shortened ≡ (short || is_short) → goes_on ≡ not (broken || (short || is_short)) → goes_on ≡ true → first ≡ not kept.is_bound → first ≡ true
    → left ≡ after (entry.Bind door path answer) kept → Puts (codes "schedule 2\n" ++ []) sink later failed → SaysIf failed errors said
    → WritesOf is_short (entry.Bind door path answer) (taped sink errors broken short kept) (taped later said failed shortened left)
bind_wrote is_short door path answer sink later errors said broken short failed goes_on first shortened kept left is_shortened is_on goes is_first is_one is_left puts says =
    subst (λ (b : Bool). WritesOf is_short (entry.Bind door path answer) (taped sink errors broken short kept) (taped later said failed b left)) (sym is_shortened)
    (subst (λ (r : Recording). WritesOf is_short (entry.Bind door path answer) (taped sink errors broken short kept) (taped later said failed (short || is_short) r)) (sym is_left)
    (written_by is_short (entry.Bind door path answer) sink later errors said broken short failed kept (codes "schedule 2\n" ++ []) (sym is_on ∙ goes) puts says
    (sym (ap (λ (bound : Bool). if bound then [] else codes "schedule 2\n") (not_true kept.is_bound (sym is_first ∙ is_one)))) (λ fine. fine)))

-- ---- no memory was wanted before

pub not_lacking : (lacks is_short : Bool) (one : Entry) (sink errors : StreamView) (broken short : Bool) (kept : Recording) (later : Taped) → lacks ≡ false
    → WritesOf is_short one (taped sink errors broken (short || lacks) kept) later → WritesOf is_short one (taped sink errors broken short kept) later
not_lacking true is_short one sink errors broken short kept later is wrote = absurd cc
not_lacking false is_short one sink errors broken true kept later is wrote = wrote
not_lacking false is_short one sink errors broken false kept later is wrote = wrote
