-- A log whose record is read piece by piece: what each read and each line leave.
use Rattle.std.proofs.Common.{◌≡◌, ◌+◌, ◌<◌, ℕ, List, [], ◌∷◌, ◌++◌, length, length-append, refl, ap, sym, subst, ◌∙◌, arith, append_assoc, Option, None, Some, IfSome, MatchOption}
use Rattle.std.proofs.KnownBytes.{Appends-kept, Appends-nil, Appends-trans, Consumes-kept, Consumes-nil, Consumes-trans}
use Rattle.std.proofs.lemmas.List.{append-nil}
use Rattle.std.specs.Io.KnownBytes.{Appends, Consumes, IsAtEnd, Keeps}
use Rattle.log_book.specs.Books.{see_all}
use Rattle.log_core.specs.Logging.{EndsLine, Exactly, Following, Halts, IsLogging, IsLonger, IsReady, IsUnderWay, LoggedSoFar, Logging, read_so_far, start_logging}
use Rattle.log_core.specs.Logs.{log_of, log_so_far}
use Rattle.log_core.specs.Program.{HasLogged, Logs, Says}
use Rattle.log_core.specs.declared.status.LogStatus.{LogStatus}
use Rattle.log_core.specs.declared.status.LogStatus.TheVariants as status
use Rattle.log_core.proofs.EndLemmas.{halts-later, says-map}
use Rattle.log_core.proofs.LoggingLemmas.{log-so_far, log-start}
use Rattle.replay_run.specs.Claims.{HasRead, HoldsOfInput, IsFront, Seen}
use Rattle.replay_run.specs.Counts.{IsCounted, IsNext}
use Rattle.replay_run.specs.Feeding.{Wrote}
use Rattle.replay_run.specs.GoesOn.{IsBegun}
use Rattle.replay_run.specs.Replay.{Run, whole_turned}
use Rattle.replay_run.proofs.RoundLemmas.{some_of}
use Rattle.replay_run.proofs.RunCounts.{turned-next}
use Rattle.world_ports.specs.Causes.{Rose}
use Rattle.world_ports.specs.Streams.{StreamView}
use Rattle.agent_model.specs.State.{Settings}

-- ---- a line

-- what is told leaves the run as it is
abbrev pub tell_of : Logging → Logging
tell_of log = record log { sights = []; book = (see_all log.sights log.book).book }

module _ (old mid new : Logging) (line : List ℕ) (ready : IsReady old) (ends : EndsLine old line mid) (new_is : new ≡ tell_of mid) where
  next : new.run.refused ≡ None → IsNext old.run (length (old.pending ++ line) + 1) (whole_turned (old.pending ++ line) old.run).run
  next accepted =
      turned-next (old.pending ++ line) (length (old.pending ++ line) + 1) old.run (omega arith) ready.counted
      (ap (λ (r : Run). r.refused) (sym ends.run) ∙ ap (λ (l : Logging). l.run.refused) (sym new_is) ∙ accepted)

  run-is : new.run ≡ (whole_turned (old.pending ++ line) old.run).run
  run-is = ap (λ (l : Logging). l.run) new_is ∙ ends.run

  pending-is : new.pending ≡ []
  pending-is = ap (λ (l : Logging). l.pending) new_is ∙ ends.pending

  line-ready : new.run.refused ≡ None → IsReady new
  line-ready accepted =
      let counted : IsCounted new.run = subst IsCounted (sym run-is) (next accepted).counted in
      record {
        counted = counted;
        begun = subst (IsBegun new.run) (sym pending-is) (record { part = tt; short = omega arith; within = omega (arith, counted.within) });
        told = ap (λ (l : Logging). l.sights) new_is;
      }

  line-size : new.run.refused ≡ None → read_so_far new ≡ read_so_far old + length (line ++ 10 ∷ [])
  line-size accepted =
      let read : new.run.read ≡ old.run.read + (length (old.pending ++ line) + 1) = ap (λ (r : Run). r.read) run-is ∙ (next accepted).read in
      let none : length new.pending ≡ 0 = ap (λ (p : List ℕ). length p) pending-is in
      omega (arith, read, none, length-append old.pending line, length-append line (10 ∷ []))

-- where the look at it found no fault
none-then : (Ended : LogStatus → Type 0) (P Q : Type 0) (result : Option LogStatus) → MatchOption result (P × Q) Ended → result ≡ None → P
none-then Ended P Q None answer is = answer.0
none-then Ended P Q (Some ended) answer is = absurd cc

module _ (Ended : LogStatus → Type 0) (Q : Type 0) (result : Option LogStatus) (old mid new : Logging) (line : List ℕ) (ready : IsReady old) (ends : EndsLine old line mid) (new_is : new ≡ tell_of mid)
    (answer : MatchOption result ((new.run.refused ≡ None) × Q) Ended) where
  pub answer-ready : result ≡ None → IsReady new
  answer-ready is = line-ready old mid new line ready ends new_is (none-then Ended (new.run.refused ≡ None) Q result answer is)

  pub answer-size : result ≡ None → read_so_far new ≡ read_so_far old + length (line ++ 10 ∷ [])
  answer-size is = line-size old mid new line ready ends new_is (none-then Ended (new.run.refused ≡ None) Q result answer is)

-- ---- a piece

pub piece-starts : (log : Logging) (piece : List ℕ) (seen : StreamView) → LoggedSoFar log piece piece log seen seen
piece-starts log piece seen = record {
  front = [];
  is = refl;
  goes = λ settings bytes start is. subst (λ (b : List ℕ). IsLogging settings b start seen log) (sym (append-nil bytes)) is;
  size = omega arith;
}

-- what stands in front, a line and the rest
piece-text : (bytes front line rest left piece : List ℕ) → front ++ left ≡ piece → line ++ 10 ∷ rest ≡ left → ((bytes ++ front) ++ (line ++ 10 ∷ [])) ++ rest ≡ bytes ++ piece
piece-text bytes front line rest left piece is cut =
    append_assoc (bytes ++ front) (line ++ 10 ∷ []) rest
    ∙ append_assoc bytes front ((line ++ 10 ∷ []) ++ rest)
    ∙ ap (λ (t : List ℕ). bytes ++ (front ++ t)) (append_assoc line (10 ∷ []) rest ∙ cut)
    ∙ ap (λ (t : List ℕ). bytes ++ t) is

module _ (old log : Logging) (piece left : List ℕ) (before mid : StreamView) (so_far : LoggedSoFar old piece left log before mid) where
  module _ (line rest : List ℕ) (cut : line ++ 10 ∷ rest ≡ left) (after : StreamView) where
    -- one more line was run
    pub piece-goes : (new : Logging)
        → ((settings : Settings) (bytes : List ℕ) (start : StreamView) → IsLogging settings bytes start mid log → IsLogging settings (bytes ++ (line ++ 10 ∷ [])) start after new)
        → read_so_far new ≡ read_so_far log + length (line ++ 10 ∷ []) → LoggedSoFar old piece rest new before after
    piece-goes new goes size = record {
      front = so_far.front ++ (line ++ 10 ∷ []);
      is =
          append_assoc so_far.front (line ++ 10 ∷ []) rest
          ∙ ap (λ (t : List ℕ). so_far.front ++ t) (append_assoc line (10 ∷ []) rest ∙ cut)
          ∙ so_far.is;
      goes = λ settings bytes start is.
          subst (λ (b : List ℕ). IsLogging settings b start after new) (append_assoc bytes so_far.front (line ++ 10 ∷ []))
          (goes settings (bytes ++ so_far.front) start (so_far.goes settings bytes start is));
      size = omega (arith, size, so_far.size, length-append so_far.front (line ++ 10 ∷ []));
    }

    -- or the log ended with it
    pub piece-halts : (ended : LogStatus)
        → ((settings : Settings) (bytes : List ℕ) (start : StreamView) → IsLogging settings bytes start mid log → Halts ended settings (bytes ++ (line ++ 10 ∷ [])) start after)
        → (settings : Settings) (bytes : List ℕ) (start : StreamView) → IsLogging settings bytes start before old → Halts ended settings (bytes ++ piece) start after
    piece-halts ended halts settings bytes start is =
        subst (λ (b : List ℕ). Halts ended settings b start after) (piece-text bytes so_far.front line rest left piece so_far.is cut)
        (halts-later ended settings ((bytes ++ so_far.front) ++ (line ++ 10 ∷ [])) rest start after
        (halts settings (bytes ++ so_far.front) start (so_far.goes settings bytes start is)))

  -- the front of a line is the last of it
  pub piece-ends : (result : Option LogStatus) (new : Logging) (after : StreamView)
      → ((settings : Settings) (bytes : List ℕ) (start : StreamView) → IsLogging settings bytes start mid log
      → MatchOption result (IsLogging settings (bytes ++ left) start after new) (λ ended. Halts ended settings (bytes ++ left) start after))
      → (settings : Settings) (bytes : List ℕ) (start : StreamView) → IsLogging settings bytes start before old
      → MatchOption result (IsLogging settings (bytes ++ piece) start after new) (λ ended. Halts ended settings (bytes ++ piece) start after)
  piece-ends result new after answer settings bytes start is =
      subst (λ (b : List ℕ). MatchOption result (IsLogging settings b start after new) (λ ended. Halts ended settings b start after))
      (append_assoc bytes so_far.front left ∙ ap (λ (t : List ℕ). bytes ++ t) so_far.is)
      (answer settings (bytes ++ so_far.front) start (so_far.goes settings bytes start is))

  pub piece-size : (new : Logging) → read_so_far new ≡ read_so_far log + length left → read_so_far new ≡ read_so_far old + length piece
  piece-size new size =
      let all : length (so_far.front ++ left) ≡ length piece = ap (λ (t : List ℕ). length t) so_far.is in
      omega (arith, size, so_far.size, all, length-append so_far.front left)

-- ---- reads

pub start-ready : (settings : Settings) → IsReady (start_logging settings)
start-ready settings = record {
  counted = record { accepted = refl; ports = omega arith; lines = omega arith; within = omega arith };
  begun = record { part = tt; short = omega arith; within = omega arith };
  told = refl;
}

pub round-start : (settings : Settings) (seen : Seen) → IsReady (start_logging settings) → IsUnderWay settings seen seen (start_logging settings)
round-start settings seen ready = record {
  bytes = [];
  read = record { taken = Appends-nil seen.input.taken; left = Consumes-nil seen.input.left };
  logging = log-start settings seen.output;
  ready = ready;
  reads = refl;
}

-- what holds whatever follows holds of the input
following-input : (left : Option (List ℕ)) (bytes : List ℕ) (P : List ℕ → Type 0) → Following bytes P → HoldsOfInput left bytes P
following-input left bytes P holds = record {
  read = subst P (append-nil bytes) (holds []);
  whole = some_of left (λ rest. P (bytes ++ rest)) holds;
}

-- and what holds of bytes behind which nothing follows
end_of_input : (left : Option (List ℕ)) (bytes : List ℕ) (P : List ℕ → Type 0) → IsAtEnd left → P bytes → IfSome left (λ rest. P (bytes ++ rest))
end_of_input None bytes P end holds = tt
end_of_input (Some rest) bytes P end holds = subst (λ (r : List ℕ). P (bytes ++ r)) (sym end) (subst P (sym (append-nil bytes)) holds)

exactly-input : (left : Option (List ℕ)) (bytes : List ℕ) → IsAtEnd left → (P : List ℕ → Type 0) → Exactly bytes P → HoldsOfInput left bytes P
exactly-input left bytes end P holds = record { read = holds; whole = end_of_input left bytes P end holds }

module _ (settings : Settings) (start mid new : Seen) (log : Logging) (under : IsUnderWay settings start mid log) where
  module _ (bytes : List ℕ) (taken : Appends mid.input.taken new.input.taken bytes) (left : Consumes mid.input.left new.input.left bytes) (reads : new.input.read_faults ≡ mid.input.read_faults) where
    read-more : HasRead start new (under.bytes ++ bytes)
    read-more = record {
      taken = Appends-trans start.input.taken mid.input.taken new.input.taken under.bytes bytes under.read.taken taken;
      left = Consumes-trans start.input.left mid.input.left new.input.left under.bytes bytes under.read.left left;
    }

    has-logged : (ended : LogStatus) → Says (Following (under.bytes ++ bytes)) ended settings start.output new.output → HasLogged settings ended start new
    has-logged ended says = record {
      bytes = under.bytes ++ bytes;
      read = read-more;
      reads = reads ∙ under.reads;
      says = says-map (Following (under.bytes ++ bytes)) (HoldsOfInput new.input.left (under.bytes ++ bytes)) (following-input new.input.left (under.bytes ++ bytes)) ended settings start.output new.output says;
    }

    -- the log ended in a piece
    round-halts : (ended : LogStatus) → Halts ended settings (under.bytes ++ bytes) start.output new.output → Logs settings ended start new
    round-halts status.Whole halts = absurd halts
    round-halts status.Waits halts = absurd halts
    round-halts status.Usage halts = absurd halts
    round-halts status.ReadFault halts = absurd halts
    round-halts (status.BadRecord line) halts = has-logged (status.BadRecord line) halts
    round-halts status.Memory halts = has-logged status.Memory halts
    round-halts status.WriteFault halts = has-logged status.WriteFault halts

    -- the answer of a piece
    pub round-answer : (result : Option LogStatus) (next : Logging)
        → ((settings : Settings) (bytes' : List ℕ) (start : StreamView) → IsLogging settings bytes' start mid.output log
        → MatchOption result (IsLogging settings (bytes' ++ bytes) start new.output next) (λ ended. Halts ended settings (bytes' ++ bytes) start new.output))
        → (result ≡ None → IsReady next) → (result ≡ None → read_so_far next ≡ read_so_far log + length bytes) → 0 < length bytes
        → MatchOption result (IsUnderWay settings start new next × IsLonger log next) (λ ended. Logs settings ended start new)
    round-answer None next answer ready size some =
        let is_ready = ready refl in (
          record {
            bytes = under.bytes ++ bytes;
            read = read-more;
            logging = answer settings under.bytes start.output under.logging;
            ready = is_ready;
            reads = reads ∙ under.reads;
          },
          record { more = omega (arith, size refl); within = is_ready.begun.within },
        )
    round-answer (Some ended) next answer ready size some = round-halts ended (answer settings under.bytes start.output under.logging)

  module _ (taken : Keeps mid.input.taken new.input.taken) (left : Keeps mid.input.left new.input.left) where
    read-kept : HasRead start new under.bytes
    read-kept = record {
      taken = Appends-kept start.input.taken mid.input.taken new.input.taken under.bytes under.read.taken taken;
      left = Consumes-kept start.input.left mid.input.left new.input.left under.bytes under.read.left left;
    }

    module _ (end : IsAtEnd new.input.left) (reads : new.input.read_faults ≡ mid.input.read_faults) where
      has-finished : (ended : LogStatus) → Says (Exactly under.bytes) ended settings start.output new.output → HasLogged settings ended start new
      has-finished ended says = record {
        bytes = under.bytes;
        read = read-kept;
        reads = reads ∙ under.reads;
        says = says-map (Exactly under.bytes) (HoldsOfInput new.input.left under.bytes) (exactly-input new.input.left under.bytes end) ended settings start.output new.output says;
      }

      -- the record ended
      pub round-finishes : (ended : LogStatus) → Says (Exactly under.bytes) ended settings start.output new.output → Logs settings ended start new
      round-finishes status.Whole says = record { logged = has-finished status.Whole says; end = end }
      round-finishes status.Waits says = record { logged = has-finished status.Waits says; end = end }
      round-finishes status.Usage says = absurd says
      round-finishes status.ReadFault says = absurd says
      round-finishes (status.BadRecord line) says = has-finished (status.BadRecord line) says
      round-finishes status.Memory says = has-finished status.Memory says
      round-finishes status.WriteFault says = has-finished status.WriteFault says

    -- a read failed
    pub round-read_fault : new.output ≡ mid.output → Rose mid.input.read_faults new.input.read_faults → Logs settings status.ReadFault start new
    round-read_fault output cause = record {
      bytes = under.bytes;
      read = read-kept;
      wrote =
          subst (λ (w : StreamView). Wrote start.output w (log_so_far settings under.bytes)) (sym output)
          (subst (Wrote start.output mid.output) (sym (log-so_far settings under.bytes start.output mid.output log under.logging under.ready.begun.part under.ready.told)) under.logging.wrote);
      cause = subst (λ (n : ℕ). Rose n new.input.read_faults) under.reads cause;
    }

-- memory ran out before the first read
pub log-memory : (settings : Settings) (seen : Seen) → Logs settings status.Memory seen seen
log-memory settings seen = record {
  bytes = [];
  read = record { taken = Appends-nil seen.input.taken; left = Consumes-nil seen.input.left };
  reads = refl;
  says = record {
    log = [];
    wrote = Appends-nil seen.output.written;
    is = following-input seen.input.left [] (λ text. IsFront [] (log_of settings text)) (λ more. record { more = log_of settings more; is = refl });
  };
}
