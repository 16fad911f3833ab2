-- Lemmas on the reads of a run, one after another.
use Rattle.std.proofs.Common.{◌≡◌, ℕ, ◌<◌, ◌≤◌, List, [], ◌++◌, length, refl, ap, sym, ◌∙◌, subst, arith, Option, Some, None, IfSome, MatchOption, true, false, append_assoc, take}
use Rattle.std.proofs.lemmas.Grind.{common_steps}
use Rattle.std.proofs.lemmas.List.{append-nil, nil_from_length}
use Rattle.std.proofs.KnownBytes.{Appends-nil, Appends-trans, Appends-kept, Consumes-nil, Consumes-trans, Consumes-kept}
use Rattle.std.specs.Io.KnownBytes.{Appends, Consumes, Keeps, IsAtEnd}
use Rattle.world_ports.specs.Causes.{Rose}
use Rattle.agent_model.specs.State.{Settings}
use Rattle.replay_run.specs.declared.run_end.RunEnd.{RunEnd}
use Rattle.replay_run.specs.declared.run_end.RunEnd.TheVariants.{Done, Refused, Memory, ReadFault, WriteFault}
use Rattle.replay_run.specs.Replay.{Run, start_run, parts_of, printed, ran, output_of, run_of, output_so_far}
use Rattle.replay_run.specs.Feeding.{Feeding, start_feeding, Feeds, GoesOnFed, Halts}
use Rattle.world_ports.specs.Streams.{StreamView, WritesPart}
use Rattle.replay_run.specs.Claims.{Seen, HasRead, HoldsOfInput, IsAgentOf, IsRefused, IsFront, EndsEarly, Ends, HandsBack}
use Rattle.replay_run.specs.Finishing.{Finishes, agent_at, ending_run, ending_text}
use Rattle.replay_run.specs.Rounds.{IsLonger, IsUnderWay}
use Rattle.replay_run.proofs.RunLemmas.{printed-refused, ran-refused}
use Rattle.replay_run.proofs.GoesOnLemmas.{begun-nothing, begun-same}
use Rattle.replay_run.proofs.FeedsLemmas.{feeds_then, feeds_halts}

-- ---- claims of the input

-- what holds of all bytes holds of those that are left
pub some_of : (left : Option (List ℕ)) (P : List ℕ → Type 0) → ((rest : List ℕ) → P rest)
    → IfSome left P
some_of None P holds = tt
some_of (Some rest) P holds = holds rest

-- what holds whatever follows
holds_of : (left : Option (List ℕ)) (bytes : List ℕ) (P : List ℕ → Type 0)
    → ((more : List ℕ) → P (bytes ++ more)) → HoldsOfInput left bytes P
holds_of left bytes P holds = record {
  read = subst P (append-nil bytes) (holds []);
  whole = some_of left (λ rest. P (bytes ++ rest)) holds;
}

end_of_input : (left : Option (List ℕ)) (bytes : List ℕ) (P : List ℕ → Type 0) → IsAtEnd left
    → P bytes → IfSome left (λ rest. P (bytes ++ rest))
end_of_input None bytes P end holds = tt
end_of_input (Some rest) bytes P end holds =
    subst (λ (r : List ℕ). P (bytes ++ r)) (sym end) (subst P (sym (append-nil bytes)) holds)

-- what holds of bytes behind which nothing follows
holds_at_end : (left : Option (List ℕ)) (bytes : List ℕ) (P : List ℕ → Type 0) → IsAtEnd left
    → P bytes → HoldsOfInput left bytes P
holds_at_end left bytes P end holds =
    record { read = holds; whole = end_of_input left bytes P end holds }

-- ---- before the first read

-- memory ran out before it
pub ends-start : (settings : Settings) (seen : Seen) → Ends settings Memory seen seen
unfolding Ends
ends-start settings seen = record {
  bytes = [];
  read = record { taken = Appends-nil seen.input.taken; left = Consumes-nil seen.input.left };
  text = [];
  wrote = Appends-nil seen.output.written;
  front = holds_of seen.input.left [] (λ schedule. IsFront [] (output_of settings schedule)) (λ more. record { more = output_of settings more; is = refl });
}

-- and then no agent is handed back
pub hands-start : (settings : Settings) (seen : Seen) → HandsBack settings Memory None seen seen
unfolding HandsBack
hands-start settings seen = refl

-- ---- a read that brought bytes

pub round_fed : (settings : Settings) (start mid new : Seen) (old feeding : Feeding) (bytes : List ℕ)
    → IsUnderWay settings start mid old → GoesOnFed old bytes feeding mid.output new.output
    → length feeding.out ≤ 0 → Appends mid.input.taken new.input.taken bytes
    → Consumes mid.input.left new.input.left bytes → new.input.read_faults ≡ mid.input.read_faults
    → 0 < length bytes → IsUnderWay settings start new feeding × IsLonger old feeding
round_fed settings start mid new old feeding bytes under fed empty taken left reads some = (
  record {
    bytes = under.bytes ++ bytes;
    read = record {
      taken = Appends-trans start.input.taken mid.input.taken new.input.taken under.bytes bytes under.read.taken taken;
      left = Consumes-trans start.input.left mid.input.left new.input.left under.bytes bytes under.read.left left;
    };
    feeds = feeds_then under.feeds fed.feeds;
    ready = fed.ready;
    empty = nil_from_length feeding.out (omega arith);
    reads = reads ∙ under.reads;
  },
  record { more = omega (arith, fed.size); within = fed.ready.begun.within },
)

-- the run ended, and all that was read was fed
ends_by : (settings : Settings) (end : RunEnd) (start new : Seen) (bytes : List ℕ) (run : Run)
    → HasRead start new bytes → new.input.read_faults ≡ start.input.read_faults
    → Halts end (start_feeding settings) bytes run start.output new.output → Ends settings end start new
unfolding Ends
ends_by settings Done start new bytes run read reads halts = absurd halts
ends_by settings (Refused line fault) start new bytes run read reads halts = record {
  bytes = bytes;
  read = read;
  text = halts.text;
  wrote = halts.wrote.written;
  reads = reads;
  writes = halts.wrote.kept;
  refused = holds_of new.input.left bytes (IsRefused settings line fault halts.text) (λ more.
      let same = halts.goes.ran_same true more ∙ ran-refused true run fault (parts_of more) halts.refused in
      record {
        output =
            halts.goes.printed_same true more
            ∙ ap (λ (o : List ℕ). halts.text ++ o) (printed-refused true run fault (parts_of more) halts.refused)
            ∙ append-nil halts.text;
        refused = ap (λ (r : Run). r.refused) same ∙ halts.refused;
        number = ap (λ (r : Run). r.line) same ∙ halts.number;
      });
}
ends_by settings Memory start new bytes run read reads halts = record {
  bytes = bytes;
  read = read;
  text = halts.text;
  wrote = halts.wrote;
  front = holds_of new.input.left bytes (λ schedule. IsFront halts.text (output_of settings schedule)) (λ more. halts.front true more);
}
ends_by settings ReadFault start new bytes run read reads halts = absurd halts
ends_by settings WriteFault start new bytes run read reads halts = record {
  early = record {
    bytes = bytes;
    read = read;
    text = halts.front.text;
    wrote = halts.front.wrote;
    front = holds_of new.input.left bytes (λ schedule. IsFront halts.front.text (output_of settings schedule)) (λ more. halts.front.front true more);
  };
  cause = halts.cause;
  reads = reads;
}

-- the agent of a run that stopped at a refused line
agent_of_halt : (settings : Settings) (end : RunEnd) (start new : Seen) (bytes : List ℕ) (run : Run)
    → HasRead start new bytes → Halts end (start_feeding settings) bytes run start.output new.output
    → HandsBack settings end (agent_at end run) start new
unfolding HandsBack
agent_of_halt settings Done start new bytes run read halts = absurd halts
agent_of_halt settings (Refused line fault) start new bytes run read halts = record {
  bytes = bytes;
  read = read;
  is = holds_of new.input.left bytes (λ schedule. Some run.agent ≡ Some (run_of settings schedule).agent) (λ more.
      ap (λ (r : Run). Some r.agent) (sym (halts.goes.ran_same true more ∙ ran-refused true run fault (parts_of more) halts.refused)));
}
agent_of_halt settings Memory start new bytes run read halts = refl
agent_of_halt settings ReadFault start new bytes run read halts = refl
agent_of_halt settings WriteFault start new bytes run read halts = refl

pub round_halts : (settings : Settings) (end : RunEnd) (start mid new : Seen) (old : Feeding) (bytes : List ℕ) (run : Run)
    → IsUnderWay settings start mid old → Halts end old bytes run mid.output new.output
    → Appends mid.input.taken new.input.taken bytes → Consumes mid.input.left new.input.left bytes
    → new.input.read_faults ≡ mid.input.read_faults
    → Ends settings end start new × HandsBack settings end (agent_at end run) start new
round_halts settings end start mid new old bytes run under halts taken left reads =
    let read : HasRead start new (under.bytes ++ bytes) = record {
      taken = Appends-trans start.input.taken mid.input.taken new.input.taken under.bytes bytes under.read.taken taken;
      left = Consumes-trans start.input.left mid.input.left new.input.left under.bytes bytes under.read.left left;
    } in
    let all = feeds_halts end (start_feeding settings) old under.bytes bytes run start.output mid.output new.output under.feeds halts in (
      ends_by settings end start new (under.bytes ++ bytes) run read (reads ∙ under.reads) all,
      agent_of_halt settings end start new (under.bytes ++ bytes) run read all,
    )

-- the answer of a piece
pub round_answer : (settings : Settings) (result : Option RunEnd) (start mid new : Seen) (old feeding : Feeding) (bytes : List ℕ)
    → IsUnderWay settings start mid old
    → MatchOption result (GoesOnFed old bytes feeding mid.output new.output × (length feeding.out ≤ 0)) (λ end. Halts end old bytes feeding.run mid.output new.output)
    → Appends mid.input.taken new.input.taken bytes → Consumes mid.input.left new.input.left bytes
    → new.input.read_faults ≡ mid.input.read_faults → 0 < length bytes
    → MatchOption result (IsUnderWay settings start new feeding × IsLonger old feeding) (λ end. Ends settings end start new × HandsBack settings end (agent_at end feeding.run) start new)
round_answer settings None start mid new old feeding bytes under answer taken left reads some =
    round_fed settings start mid new old feeding bytes under answer.0 answer.1 taken left reads some
round_answer settings (Some end) start mid new old feeding bytes under answer taken left reads some =
    round_halts settings end start mid new old bytes feeding.run under answer taken left reads

-- ---- a read that found the end

-- nothing more was read
read_kept : (settings : Settings) (start mid new : Seen) (old : Feeding) (under : IsUnderWay settings start mid old)
    → Keeps mid.input.taken new.input.taken → Keeps mid.input.left new.input.left
    → HasRead start new under.bytes
read_kept settings start mid new old under taken left = record {
  taken = Appends-kept start.input.taken mid.input.taken new.input.taken under.bytes under.read.taken taken;
  left =
      Consumes-kept start.input.left mid.input.left new.input.left under.bytes under.read.left left;
}

-- all that the schedule prints
all_text : (settings : Settings) (bytes : List ℕ) (old : Feeding) (w0 w1 : StreamView) (feeds : Feeds (start_feeding settings) bytes old w0 w1)
    → output_of settings bytes ≡ feeds.text ++ ending_text old
all_text settings bytes old w0 w1 feeds =
    sym (ap (output_of settings) (append-nil bytes))
    ∙ feeds.goes.printed_same true []
    ∙ ap (λ (p : List ℕ). (feeds.text ++ old.out) ++ printed true old.run (parts_of p)) (append-nil old.pending)
    ∙ append_assoc feeds.text old.out (printed true old.run (parts_of old.pending))

all_run : (settings : Settings) (bytes : List ℕ) (old : Feeding) (w0 w1 : StreamView) (feeds : Feeds (start_feeding settings) bytes old w0 w1)
    → run_of settings bytes ≡ ending_run old
all_run settings bytes old w0 w1 feeds =
    sym (ap (run_of settings) (append-nil bytes)) ∙ feeds.goes.ran_same true [] ∙ ap (λ (p : List ℕ). ran true old.run (parts_of p)) (append-nil old.pending)

-- a front of it was written
early_at_end : (settings : Settings) (start mid new : Seen) (old : Feeding) (under : IsUnderWay settings start mid old)
    → HasRead start new under.bytes → IsAtEnd new.input.left
    → WritesPart (ending_text old) mid.output new.output → EndsEarly settings start new
early_at_end settings start mid new old under read end some = record {
  bytes = under.bytes;
  read = read;
  text = under.feeds.text ++ some.1.front;
  wrote = Appends-trans start.output.written mid.output.written new.output.written under.feeds.text some.1.front under.feeds.wrote.written some.1.written;
  front = holds_at_end new.input.left under.bytes (λ schedule. IsFront (under.feeds.text ++ some.1.front) (output_of settings schedule)) end (record {
    more = some.0;
    is =
        append_assoc under.feeds.text some.1.front some.0
        ∙ ap (λ (t : List ℕ). under.feeds.text ++ t) some.1.whole
        ∙ sym (all_text settings under.bytes old start.output mid.output under.feeds);
  });
}

-- all of it was written
all_wrote : (settings : Settings) (start mid new : Seen) (old : Feeding) (under : IsUnderWay settings start mid old)
    → Appends mid.output.written new.output.written (ending_text old)
    → Appends start.output.written new.output.written (output_of settings under.bytes)
all_wrote settings start mid new old under wrote =
    subst (λ (t : List ℕ). Appends start.output.written new.output.written t) (sym (all_text settings under.bytes old start.output mid.output under.feeds))
    (Appends-trans start.output.written mid.output.written new.output.written under.feeds.text (ending_text old) under.feeds.wrote.written wrote)

ends_at_end : (settings : Settings) (end : RunEnd) (start mid new : Seen) (old : Feeding) (run : Run)
    → IsUnderWay settings start mid old → Finishes end old run mid.output new.output
    → Keeps mid.input.taken new.input.taken → Keeps mid.input.left new.input.left
    → IsAtEnd new.input.left → new.input.read_faults ≡ mid.input.read_faults
    → Ends settings end start new
unfolding Ends
ends_at_end settings Done start mid new old run under finishes taken left end reads =
    record {
      bytes = under.bytes;
      read = read_kept settings start mid new old under taken left;
      end = end;
      wrote = all_wrote settings start mid new old under finishes.wrote.written;
      accepted = ap (λ (r : Run). r.refused) (all_run settings under.bytes old start.output mid.output under.feeds) ∙ finishes.accepted;
      reads = reads ∙ under.reads;
      writes = finishes.wrote.kept ∙ under.feeds.wrote.kept;
    }
ends_at_end settings (Refused line fault) start mid new old run under finishes taken left end reads =
    let same = all_run settings under.bytes old start.output mid.output under.feeds in
    record {
      bytes = under.bytes;
      read = read_kept settings start mid new old under taken left;
      text = output_of settings under.bytes;
      wrote = all_wrote settings start mid new old under finishes.wrote.written;
      refused = holds_at_end new.input.left under.bytes (IsRefused settings line fault (output_of settings under.bytes)) end (record {
        output = refl;
        refused = ap (λ (r : Run). r.refused) same ∙ finishes.refused;
        number = ap (λ (r : Run). r.line) same ∙ finishes.number;
      });
      reads = reads ∙ under.reads;
      writes = finishes.wrote.kept ∙ under.feeds.wrote.kept;
    }
ends_at_end settings Memory start mid new old run under finishes taken left end reads =
    early_at_end settings start mid new old under (read_kept settings start mid new old under taken left) end finishes
ends_at_end settings ReadFault start mid new old run under finishes taken left end reads =
    absurd finishes
ends_at_end settings WriteFault start mid new old run under finishes taken left end reads = record {
  early = early_at_end settings start mid new old under (read_kept settings start mid new old under taken left) end finishes.front;
  cause = subst (λ (n : ℕ). Rose n new.output.write_faults) under.feeds.wrote.kept finishes.cause;
  reads = reads ∙ under.reads;
}

-- the agent after the last line
agent_of_end : (settings : Settings) (start mid new : Seen) (old : Feeding) (run : Run) (under : IsUnderWay settings start mid old)
    → run ≡ ending_run old → Keeps mid.input.taken new.input.taken
    → Keeps mid.input.left new.input.left → IsAtEnd new.input.left
    → IsAgentOf settings (Some run.agent) start new
agent_of_end settings start mid new old run under run_is taken left end = record {
  bytes = under.bytes;
  read = read_kept settings start mid new old under taken left;
  is = holds_at_end new.input.left under.bytes (λ schedule. Some run.agent ≡ Some (run_of settings schedule).agent) end
      (ap (λ (r : Run). Some r.agent) (run_is ∙ sym (all_run settings under.bytes old start.output mid.output under.feeds)));
}

agent_at_end : (settings : Settings) (end : RunEnd) (start mid new : Seen) (old : Feeding) (run : Run)
    → IsUnderWay settings start mid old → Finishes end old run mid.output new.output
    → Keeps mid.input.taken new.input.taken → Keeps mid.input.left new.input.left
    → IsAtEnd new.input.left → HandsBack settings end (agent_at end run) start new
unfolding HandsBack
agent_at_end settings Done start mid new old run under finishes taken left end =
    agent_of_end settings start mid new old run under finishes.run_is taken left end
agent_at_end settings (Refused line fault) start mid new old run under finishes taken left end =
    agent_of_end settings start mid new old run under finishes.run_is taken left end
agent_at_end settings Memory start mid new old run under finishes taken left end = refl
agent_at_end settings ReadFault start mid new old run under finishes taken left end = refl
agent_at_end settings WriteFault start mid new old run under finishes taken left end = refl

pub round_finishes : (settings : Settings) (end : RunEnd) (start mid new : Seen) (old : Feeding) (run : Run)
    → IsUnderWay settings start mid old → Finishes end old run mid.output new.output
    → Keeps mid.input.taken new.input.taken → Keeps mid.input.left new.input.left
    → IsAtEnd new.input.left → new.input.read_faults ≡ mid.input.read_faults
    → Ends settings end start new × HandsBack settings end (agent_at end run) start new
round_finishes settings end start mid new old run under finishes taken left at_end reads = (
  ends_at_end settings end start mid new old run under finishes taken left at_end reads,
  agent_at_end settings end start mid new old run under finishes taken left at_end,
)

-- ---- a read that failed

ends_at_read_fault : (settings : Settings) (start mid new : Seen) (old : Feeding)
    → IsUnderWay settings start mid old → Keeps mid.input.taken new.input.taken
    → Keeps mid.input.left new.input.left → new.output ≡ mid.output
    → Rose mid.input.read_faults new.input.read_faults → Ends settings ReadFault start new
unfolding Ends
ends_at_read_fault settings start mid new old under taken left output cause =
    let goes = under.feeds.goes in
    let text_is : output_so_far settings under.bytes ≡ under.feeds.text =
    sym (ap (output_so_far settings) (append-nil under.bytes))
    ∙ goes.printed_same false []
    ∙ ap (λ (p : List ℕ). (under.feeds.text ++ old.out) ++ printed false old.run (parts_of p)) (append-nil old.pending)
    ∙ ap (λ (o : List ℕ). (under.feeds.text ++ old.out) ++ o) (begun-nothing old.run old.pending under.ready.begun)
    ∙ append-nil (under.feeds.text ++ old.out)
    ∙ ap (λ (o : List ℕ). under.feeds.text ++ o) under.empty
    ∙ append-nil under.feeds.text in
    let run_is : ran false (start_run settings) (parts_of under.bytes) ≡ old.run =
    sym (ap (λ (b : List ℕ). ran false (start_run settings) (parts_of b)) (append-nil under.bytes))
    ∙ goes.ran_same false []
    ∙ ap (λ (p : List ℕ). ran false old.run (parts_of p)) (append-nil old.pending)
    ∙ begun-same old.run old.pending under.ready.begun in
    record {
      bytes = under.bytes;
      read = read_kept settings start mid new old under taken left;
      wrote = rw (text_is, output) under.feeds.wrote.written;
      accepted = ap (λ (r : Run). r.refused) run_is ∙ under.ready.counted.accepted;
      cause = subst (λ (n : ℕ). Rose n new.input.read_faults) under.reads cause;
      writes = rw output under.feeds.wrote.kept;
    }

no_agent_at_read_fault : (settings : Settings) (run : Run) (start new : Seen)
    → HandsBack settings ReadFault (agent_at ReadFault run) start new
unfolding HandsBack
no_agent_at_read_fault settings run start new = refl

pub round_at_read_fault : (settings : Settings) (start mid new : Seen) (old : Feeding) (run : Run)
    → IsUnderWay settings start mid old → Keeps mid.input.taken new.input.taken
    → Keeps mid.input.left new.input.left → new.output ≡ mid.output
    → Rose mid.input.read_faults new.input.read_faults
    → Ends settings ReadFault start new × HandsBack settings ReadFault (agent_at ReadFault run) start new
round_at_read_fault settings start mid new old run under taken left output cause =
    (ends_at_read_fault settings start mid new old under taken left output cause, no_agent_at_read_fault settings run start new)

-- ---- what was read

-- bytes at the front of the room
pub take_some : (n : ℕ) (room : List ℕ) → 0 < n → n ≤ length room → 0 < length (take n room)
take_some n room some within = grind (arith, common_steps)
