-- Lemmas on what was written while a run was fed: piece after piece.
use Rattle.std.proofs.Common.{◌≡◌, ℕ, ◌≤◌, List, [], ◌∷◌, ◌++◌, length, refl, ap, sym, ◌∙◌, subst, arith, Option, Some, None, MatchOption, append_assoc, ◌+◌, ◌-◌, take, drop, length-drop, length-append}
use Rattle.std.proofs.lemmas.List.{append-nil, take_all}
use Rattle.std.proofs.KnownBytes.{Appends-nil, Appends-trans}
use Rattle.world_ports.specs.Causes.{Rose}
use Rattle.schedule_text.specs.declared.fault.LineFault.{LineFault}
use Rattle.replay_run.specs.declared.run_end.RunEnd.{RunEnd}
use Rattle.replay_run.specs.declared.run_end.RunEnd.TheVariants.{Done, Refused, Memory, ReadFault, WriteFault}
use Rattle.replay_run.specs.Replay.{Run, parts_of, printed}
use Rattle.replay_run.specs.GoesOn.{GoesOn, IsLineEnd}
use Rattle.replay_run.specs.Feeding.{Feeding, Wrote, Feeds, GoesOnFed, FedSoFar, fed_so_far, WritesFront, WritesRefusal, Halts}
use Rattle.world_ports.specs.Streams.{StreamView, WritesPart}
use Rattle.replay_run.proofs.GoesOnLemmas.{goes_on-same, goes_on-then, goes_on-more, goes_on-front, goes_on-refused}

-- ---- one after the other

pub Wrote-nil : (seen : StreamView) → Wrote seen seen []
Wrote-nil seen = record { written = Appends-nil seen.written; kept = refl }

pub Wrote-then : {w0 w1 w2 : StreamView} {a b : List ℕ} → Wrote w0 w1 a → Wrote w1 w2 b
    → Wrote w0 w2 (a ++ b)
Wrote-then {w0} {w1} {w2} {a} {b} first second = record {
  written = Appends-trans w0.written w1.written w2.written a b first.written second.written;
  kept = second.kept ∙ first.kept;
}

-- what was printed and isn't written yet
pub feeds_by : {old new : Feeding} {bytes : List ℕ} (seen : StreamView)
    → GoesOn old.out old.run (old.pending ++ bytes) new.out new.run new.pending
    → Feeds old bytes new seen seen
feeds_by seen goes = record { text = []; wrote = Wrote-nil seen; goes = goes }

-- two pieces
pub feeds_then : {old mid new : Feeding} {a b : List ℕ} {w0 w1 w2 : StreamView}
    → Feeds old a mid w0 w1 → Feeds mid b new w1 w2 → Feeds old (a ++ b) new w0 w2
feeds_then {old} {mid} {new} {a} {b} {w0} {w1} {w2} first second = record {
  text = first.text ++ second.text;
  wrote = Wrote-then first.wrote second.wrote;
  goes = rw (← (append_assoc old.pending a b), append_assoc first.text second.text new.out)
      (goes_on-then (goes_on-more b first.goes) (goes_on-front first.text second.goes));
}

-- a piece, and then a front
feeds_front : {old mid : Feeding} {a b : List ℕ} {w0 w1 w2 : StreamView} → Feeds old a mid w0 w1
    → WritesFront mid b w1 w2 → WritesFront old (a ++ b) w0 w2
feeds_front {old} {mid} {a} {b} {w0} {w1} {w2} first second = record {
  text = first.text ++ second.text;
  wrote = Appends-trans w0.written w1.written w2.written first.text second.text first.wrote.written second.wrote;
  front = λ ended more.
      let all = second.front ended more in
      let texts : (old.pending ++ (a ++ b)) ++ more ≡ (old.pending ++ a) ++ (b ++ more) = simp append_assoc in
      record {
        more = all.more;
        is =
            append_assoc first.text second.text all.more
            ∙ ap (λ (t : List ℕ). first.text ++ t) all.is
            ∙ sym (append_assoc first.text mid.out (printed ended mid.run (parts_of ((mid.pending ++ b) ++ more))))
            ∙ ap (λ (t : List ℕ). (first.text ++ mid.out) ++ printed ended mid.run (parts_of t)) (append_assoc mid.pending b more)
            ∙ sym (first.goes.printed_same ended (b ++ more))
            ∙ sym (ap (λ (t : List ℕ). old.out ++ printed ended old.run (parts_of t)) texts);
      };
}

-- a piece, and then a refusal
feeds_refusal : {old mid : Feeding} {a b : List ℕ} {line : ℕ} {fault : LineFault} {run : Run} {w0 w1 w2 : StreamView}
    → Feeds old a mid w0 w1 → WritesRefusal mid b line fault run w1 w2
    → WritesRefusal old (a ++ b) line fault run w0 w2
feeds_refusal {old} {mid} {a} {b} {line} {fault} {run} {w0} {w1} {w2} first second = record {
  text = first.text ++ second.text;
  wrote = Wrote-then first.wrote second.wrote;
  goes = rw (← (append_assoc old.pending a b)) (goes_on-then (goes_on-more b first.goes) (goes_on-front first.text second.goes));
  refused = second.refused;
  number = second.number;
}

-- a piece, and then the end of the run
pub feeds_halts : (end : RunEnd) (old mid : Feeding) (a b : List ℕ) (run : Run) (w0 w1 w2 : StreamView)
    → Feeds old a mid w0 w1 → Halts end mid b run w1 w2 → Halts end old (a ++ b) run w0 w2
feeds_halts Done old mid a b run w0 w1 w2 first halts = halts
feeds_halts (Refused line fault) old mid a b run w0 w1 w2 first halts = feeds_refusal first halts
feeds_halts Memory old mid a b run w0 w1 w2 first halts = feeds_front first halts
feeds_halts ReadFault old mid a b run w0 w1 w2 first halts = halts
feeds_halts WriteFault old mid a b run w0 w1 w2 first halts = record { front = feeds_front first halts.front; cause = subst (λ (n : ℕ). Rose n w2.write_faults) first.wrote.kept halts.cause }

-- the end of the run before all was fed
front_more : {old : Feeding} {a : List ℕ} {w0 w1 : StreamView} (b : List ℕ)
    → WritesFront old a w0 w1 → WritesFront old (a ++ b) w0 w1
front_more {old} {a} {w0} {w1} b writes = record {
  text = writes.text;
  wrote = writes.wrote;
  front = λ ended more.
      let texts : (old.pending ++ (a ++ b)) ++ more ≡ (old.pending ++ a) ++ (b ++ more) = simp append_assoc in
      let all = writes.front ended (b ++ more) in
      record { more = all.more; is = all.is ∙ sym (ap (λ (t : List ℕ). old.out ++ printed ended old.run (parts_of t)) texts) };
}

refusal_more : {old : Feeding} {a : List ℕ} {line : ℕ} {fault : LineFault} {run : Run} {w0 w1 : StreamView} (b : List ℕ)
    → WritesRefusal old a line fault run w0 w1 → WritesRefusal old (a ++ b) line fault run w0 w1
refusal_more {old} {a} {line} {fault} {run} {w0} {w1} b writes = record {
  text = writes.text;
  wrote = writes.wrote;
  goes = rw (← (append_assoc old.pending a b)) (goes_on-then (goes_on-more b writes.goes) (goes_on-refused writes.text run b [] fault writes.refused));
  refused = writes.refused;
  number = writes.number;
}

pub halts_more : (end : RunEnd) (old : Feeding) (a b : List ℕ) (run : Run) (w0 w1 : StreamView)
    → Halts end old a run w0 w1 → Halts end old (a ++ b) run w0 w1
halts_more Done old a b run w0 w1 halts = halts
halts_more (Refused line fault) old a b run w0 w1 halts = refusal_more b halts
halts_more Memory old a b run w0 w1 halts = front_more b halts
halts_more ReadFault old a b run w0 w1 halts = halts
halts_more WriteFault old a b run w0 w1 halts =
    record { front = front_more b halts.front; cause = halts.cause }

-- ---- at one place

-- nothing had to be written
pub feeds_same : (feeding : Feeding) (seen : StreamView) → Feeds feeding [] feeding seen seen
feeds_same feeding seen = feeds_by seen (rw (append-nil feeding.pending) (goes_on-same feeding.out feeding.run feeding.pending))

-- some of it is written
pub front_written : (feeding : Feeding) (bytes : List ℕ) (before after : StreamView)
    → WritesPart feeding.out before after → WritesFront feeding bytes before after
front_written feeding bytes before after some = record {
  text = some.1.front;
  wrote = some.1.written;
  front = λ ended more.
      let rest = printed ended feeding.run (parts_of ((feeding.pending ++ bytes) ++ more)) in
      record { more = some.0 ++ rest; is = sym (append_assoc some.1.front some.0 rest) ∙ ap (λ (t : List ℕ). t ++ rest) some.1.whole };
}

-- a run that was refused, with all of it written
pub refusal_written : (feeding : Feeding) (fault : LineFault) (before after : StreamView)
    → Some fault ≡ feeding.run.refused → Wrote before after feeding.out
    → WritesRefusal feeding [] feeding.run.line fault feeding.run before after
refusal_written feeding fault before after refused wrote = record {
  text = feeding.out;
  wrote = wrote;
  goes = goes_on-refused feeding.out feeding.run (feeding.pending ++ []) [] fault (sym refused);
  refused = sym refused;
  number = refl;
}

-- ---- through an answer

-- what an answer says of bytes that were fed
abbrev pub Answers : Option RunEnd → Feeding → List ℕ → Feeding → ℕ → StreamView → StreamView
    → Type 0
Answers result old bytes new most w0 w1 =
    MatchOption result (GoesOnFed old bytes new w0 w1 × (length new.out ≤ most)) (λ end. Halts end old bytes new.run w0 w1)

-- after a line, or the front of one
pub fed_then : (result : Option RunEnd) (old mid new : Feeding) (bytes : List ℕ) (most : ℕ) (w0 w1 : StreamView)
    → old.run.refused ≡ None
    → GoesOn old.out old.run (old.pending ++ bytes) mid.out mid.run mid.pending
    → (mid.run.refused ≡ None → fed_so_far mid ≡ fed_so_far old + length bytes)
    → Answers result mid [] new most w0 w1 → Answers result old bytes new most w0 w1
fed_then None old mid new bytes most w0 w1 accepted goes size answer = (
  record {
    accepted = accepted;
    feeds = subst (λ (b : List ℕ). Feeds old b new w0 w1) (append-nil bytes) (feeds_then (feeds_by w0 goes) answer.0.feeds);
    ready = answer.0.ready;
    size = omega (arith, size answer.0.accepted, answer.0.size);
  },
  answer.1,
)
fed_then (Some end) old mid new bytes most w0 w1 accepted goes size answer =
    subst (λ (b : List ℕ). Halts end old b new.run w0 w1) (append-nil bytes) (feeds_halts end old mid bytes [] new.run w0 w0 w1 (feeds_by w0 goes) answer)

-- ---- the lines of a piece

-- a line at the front of what is left of a piece
line_of_piece : (front line tail rest piece : List ℕ) → front ++ rest ≡ piece
    → line ++ 10 ∷ tail ≡ rest → (front ++ (line ++ 10 ∷ [])) ++ tail ≡ piece
line_of_piece front line tail rest piece is cut =
    let texts : (front ++ (line ++ 10 ∷ [])) ++ tail ≡ front ++ (line ++ 10 ∷ tail) = simp append_assoc in
    texts ∙ ap (λ (r : List ℕ). front ++ r) cut ∙ is

-- the end of the run at that line
pub piece_halts : (end : RunEnd) (old mid : Feeding) (front line tail rest piece : List ℕ) (run : Run) (w0 w1 w2 : StreamView)
    → GoesOnFed old front mid w0 w1 → front ++ rest ≡ piece → line ++ 10 ∷ tail ≡ rest
    → Halts end mid (line ++ 10 ∷ []) run w1 w2 → Halts end old piece run w0 w2
piece_halts end old mid front line tail rest piece run w0 w1 w2 fed is cut halts =
    subst (λ (b : List ℕ). Halts end old b run w0 w2) (line_of_piece front line tail rest piece is cut)
    (halts_more end old (front ++ (line ++ 10 ∷ [])) tail run w0 w2
    (feeds_halts end old mid front (line ++ 10 ∷ []) run w0 w1 w2 fed.feeds halts))

-- the run goes on behind that line
pub piece_fed : (old mid new : Feeding) (front line tail rest piece : List ℕ) (w0 w1 w2 : StreamView)
    → GoesOnFed old front mid w0 w1 → front ++ rest ≡ piece → line ++ 10 ∷ tail ≡ rest
    → GoesOnFed mid (line ++ 10 ∷ []) new w1 w2 → FedSoFar old piece tail new w0 w2
piece_fed old mid new front line tail rest piece w0 w1 w2 fed is cut next = record {
  front = front ++ (line ++ 10 ∷ []);
  is = line_of_piece front line tail rest piece is cut;
  fed = record {
    accepted = fed.accepted;
    feeds = feeds_then fed.feeds next.feeds;
    ready = next.ready;
    size = omega (arith, fed.size, next.size, length-append front (line ++ 10 ∷ []));
  };
}

-- what stands behind the last line of a piece
pub last_fed : (result : Option RunEnd) (old mid new : Feeding) (front rest piece : List ℕ) (most : ℕ) (w0 w1 w2 : StreamView)
    → GoesOnFed old front mid w0 w1 → front ++ rest ≡ piece → Answers result mid rest new most w1 w2
    → Answers result old piece new most w0 w2
last_fed None old mid new front rest piece most w0 w1 w2 fed is answer = (
  record {
    accepted = fed.accepted;
    feeds = subst (λ (b : List ℕ). Feeds old b new w0 w2) is (feeds_then fed.feeds answer.0.feeds);
    ready = answer.0.ready;
    size = rw (← is) (omega (arith, fed.size, answer.0.size, length-append front rest));
  },
  answer.1,
)
last_fed (Some end) old mid new front rest piece most w0 w1 w2 fed is answer =
    subst (λ (b : List ℕ). Halts end old b new.run w0 w2) is (feeds_halts end old mid front rest new.run w0 w1 w2 fed.feeds answer)

-- a line and what stands behind it, as slices
pub line_cut : (rest : List ℕ) (place : ℕ) → IsLineEnd rest place
    → take place rest ++ 10 ∷ take (length rest - (place + 1)) (drop (place + 1) rest) ≡ rest
line_cut rest place end =
    let all : take (length rest - (place + 1)) (drop (place + 1) rest) ≡ drop (place + 1) rest = take_all (length rest - (place + 1)) (drop (place + 1) rest) (omega (arith, length-drop (place + 1) rest)) in
    rw all end.split
