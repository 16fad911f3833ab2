-- The end of the tool: its last step, and then the last line.
use Rattle.std.proofs.Common.{◌≡◌, ◌⊎◌, inl, inr, ◌≤◌, ℕ, Bool, true, false, List, [], ◌++◌, Option, None, Some, Result, Ok, Err, refl, sym, ap, subst, arith}
use Rattle.std.specs.Io.KnownBytes.{Appends}
use Rattle.std.proofs.KnownBytes.{Appends-nil, Appends-trans}
use Rattle.world_ports.specs.Causes.{Rose}
use Rattle.world_ports.specs.Streams.{StreamView, WritesPart}
use Rattle.add_core.specs.declared.fault.AddFault.{AddFault}
use Rattle.add_core.specs.declared.fault.AddFault.TheVariants as why
use Rattle.add_core.specs.declared.fault.AddStatus.{AddStatus}
use Rattle.add_core.specs.declared.fault.AddStatus.TheVariants.{Done, Failed, Memory as OutOfMemory}
use Rattle.add_core.specs.declared.fault.Stop.{Stop}
use Rattle.add_core.specs.declared.fault.Stop.TheVariants.{Fault, Memory}
use Rattle.add_words.specs.Words.{words_of}
use Rattle.add_core.specs.Steps.{Step, IsMade, IsCut}
use Rattle.add_core.specs.Talk.{Transcript, told_by, talk, talk_for, only_ends, status_of, last_line, ended, Runs, WritesAllOrFails, IsCutOff, IsEnd, Ends}
use Rattle.add_core.proofs.StepLemmas.{later_front, no_front}

-- ---- counts

pub rose_earlier : (before mid now : ℕ) → before ≤ mid → Rose mid now → Rose before now
rose_earlier before mid now low (inl more) = inl (omega arith)
rose_earlier before mid now low (inr full) = inr full

-- ---- the last line

-- a status that the code reads off an answer
pub fault_is : (answer : Result (Unit {0}) Stop) (fault : AddFault) → ended answer ≡ Failed fault
    → answer ≡ Err (Fault fault)
fault_is (Ok value) fault is = absurd cc
fault_is (Err Memory) fault is = absurd cc
fault_is (Err (Fault other)) fault is = let same : other ≡ fault = cc in ap (λ (f : AddFault). Err (Fault f)) same

-- lines that were written, and then the last one
both_written : (lines last : List ℕ) (e0 m e1 : StreamView) → Appends e0.written m.written lines
    → e0.write_faults ≤ m.write_faults
    → WritesAllOrFails last m e1 → WritesAllOrFails (lines ++ last) e0 e1
both_written lines last e0 m e1 written later ends = record {
  part = later_front lines last e0 m e1 written ends.part;
  all =
      elim ends.all [
        | inl rose ↦ inl (rose_earlier e0.write_faults m.write_faults e1.write_faults later rose)
        | inr all ↦ inr (Appends-trans e0.written m.written e1.written lines last written all)
      ];
}

list_done : (status : AddStatus) (step : Step) (p0 p1 o0 o1 e0 m e1 : StreamView)
    → status ≡ status_of step.fault → IsMade step p0 p1 o0 o1 → m ≡ e0
    → WritesAllOrFails (last_line status) m e1 → IsEnd status (told_by true step) p0 p1 o0 o1 e0 e1
list_done status step p0 p1 o0 o1 e0 m e1 is made same ends = record {
  status_is = is;
  done = record {
    sent = made.sent;
    output = made.told;
    errors = subst (λ (s : AddStatus). WritesAllOrFails (last_line s) e0 e1) is (subst (λ (e : StreamView). WritesAllOrFails (last_line status) e e1) same ends);
  };
}

lines_done : (status : AddStatus) (step : Step) (p0 p1 o0 o1 e0 m e1 : StreamView)
    → status ≡ status_of step.fault → IsMade step p0 p1 e0 m → o1 ≡ o0
    → e0.write_faults ≤ m.write_faults → WritesAllOrFails (last_line status) m e1 → IsEnd status (told_by false step) p0 p1 o0 o1 e0 e1
lines_done status step p0 p1 o0 o1 e0 m e1 is made same later ends = record {
  status_is = is;
  done = record {
    sent = made.sent;
    output = subst (λ (o : StreamView). Appends o0.written o.written []) (sym same) (Appends-nil o0.written);
    errors = both_written step.told (last_line (status_of step.fault)) e0 m e1 made.told later (subst (λ (s : AddStatus). WritesAllOrFails (last_line s) m e1) is ends);
  };
}

list_cut : (last : List ℕ) (step : Step) (p0 p1 o0 o1 e0 m e1 : StreamView)
    → IsCut step p0 p1 o0 o1 → m ≡ e0 → WritesAllOrFails last m e1
    → IsCutOff (told_by true step) last p0 p1 o0 o1 e0 e1
list_cut last step p0 p1 o0 o1 e0 m e1 cut same ends = record {
  sent = cut.sent;
  output = cut.told;
  lines = [];
  rest = [];
  front = refl;
  errors = subst (λ (e : StreamView). WritesPart last e e1) same ends.part;
}

lines_cut : (last : List ℕ) (step : Step) (p0 p1 o0 o1 e0 m e1 : StreamView)
    → IsCut step p0 p1 e0 m → o1 ≡ o0 → WritesAllOrFails last m e1
    → IsCutOff (told_by false step) last p0 p1 o0 o1 e0 e1
lines_cut last step p0 p1 o0 o1 e0 m e1 cut same ends = record {
  sent = cut.sent;
  output = subst (λ (o : StreamView). WritesPart [] o0 o) (sym same) (no_front [] o0);
  lines = cut.told.1.front;
  rest = cut.told.0;
  front = cut.told.1.whole;
  errors = later_front cut.told.1.front last e0 m e1 cut.told.1.written ends.part;
}

-- ---- all of it

fault_status : (fault : AddFault) (step : Step) → step.fault ≡ Some fault
    → Failed fault ≡ status_of step.fault
fault_status fault step is = ap status_of (sym is)

list_ends : (answer : Result (Unit {0}) Stop) (step : Step) (p0 p1 o0 o1 e0 m e1 : StreamView)
    → Runs true answer step p0 p1 o0 o1 e0 m
    → WritesAllOrFails (last_line (ended answer)) m e1 → Ends (ended answer) (told_by true step) p0 p1 o0 o1 e0 e1
list_ends (Ok value) step p0 p1 o0 o1 e0 m e1 runs ends =
    list_done Done step p0 p1 o0 o1 e0 m e1 (ap status_of (sym runs.0.goes_on)) runs.0.made runs.1 ends
list_ends (Err Memory) step p0 p1 o0 o1 e0 m e1 runs ends = list_cut [] step p0 p1 o0 o1 e0 m e1 runs.0 runs.1 ends
list_ends (Err (Fault (why.File place))) step p0 p1 o0 o1 e0 m e1 runs ends =
    list_cut (last_line (Failed (why.File place))) step p0 p1 o0 o1 e0 m e1 runs.0 runs.1 ends
list_ends (Err (Fault why.PeerFault)) step p0 p1 o0 o1 e0 m e1 runs ends =
    list_cut (last_line (Failed why.PeerFault)) step p0 p1 o0 o1 e0 m e1 runs.0 runs.1 ends
list_ends (Err (Fault why.InputFault)) step p0 p1 o0 o1 e0 m e1 runs ends =
    list_cut (last_line (Failed why.InputFault)) step p0 p1 o0 o1 e0 m e1 runs.0 runs.1 ends
list_ends (Err (Fault why.OutputFault)) step p0 p1 o0 o1 e0 m e1 runs ends =
    list_cut (last_line (Failed why.OutputFault)) step p0 p1 o0 o1 e0 m e1 runs.0 runs.1 ends
list_ends (Err (Fault why.Usage)) step p0 p1 o0 o1 e0 m e1 runs ends =
    list_done (Failed why.Usage) step p0 p1 o0 o1 e0 m e1 (fault_status why.Usage step runs.0.fault_is) runs.0.made runs.1 ends
list_ends (Err (Fault (why.FileTooLong place))) step p0 p1 o0 o1 e0 m e1 runs ends =
    list_done (Failed (why.FileTooLong place)) step p0 p1 o0 o1 e0 m e1 (fault_status (why.FileTooLong place) step runs.0.fault_is) runs.0.made runs.1 ends
list_ends (Err (Fault (why.Body fault))) step p0 p1 o0 o1 e0 m e1 runs ends =
    list_done (Failed (why.Body fault)) step p0 p1 o0 o1 e0 m e1 (fault_status (why.Body fault) step runs.0.fault_is) runs.0.made runs.1 ends
list_ends (Err (Fault (why.Public fault))) step p0 p1 o0 o1 e0 m e1 runs ends =
    list_done (Failed (why.Public fault)) step p0 p1 o0 o1 e0 m e1 (fault_status (why.Public fault) step runs.0.fault_is) runs.0.made runs.1 ends
list_ends (Err (Fault (why.Destination fault))) step p0 p1 o0 o1 e0 m e1 runs ends =
    list_done (Failed (why.Destination fault)) step p0 p1 o0 o1 e0 m e1 (fault_status (why.Destination fault) step runs.0.fault_is) runs.0.made runs.1 ends
list_ends (Err (Fault (why.Purpose fault))) step p0 p1 o0 o1 e0 m e1 runs ends =
    list_done (Failed (why.Purpose fault)) step p0 p1 o0 o1 e0 m e1 (fault_status (why.Purpose fault) step runs.0.fault_is) runs.0.made runs.1 ends
list_ends (Err (Fault why.EmptyPassphrase)) step p0 p1 o0 o1 e0 m e1 runs ends =
    list_done (Failed why.EmptyPassphrase) step p0 p1 o0 o1 e0 m e1 (fault_status why.EmptyPassphrase step runs.0.fault_is) runs.0.made runs.1 ends
list_ends (Err (Fault why.LongPassphrase)) step p0 p1 o0 o1 e0 m e1 runs ends =
    list_done (Failed why.LongPassphrase) step p0 p1 o0 o1 e0 m e1 (fault_status why.LongPassphrase step runs.0.fault_is) runs.0.made runs.1 ends
list_ends (Err (Fault why.TooLong)) step p0 p1 o0 o1 e0 m e1 runs ends =
    list_done (Failed why.TooLong) step p0 p1 o0 o1 e0 m e1 (fault_status why.TooLong step runs.0.fault_is) runs.0.made runs.1 ends
list_ends (Err (Fault why.Refused)) step p0 p1 o0 o1 e0 m e1 runs ends =
    list_done (Failed why.Refused) step p0 p1 o0 o1 e0 m e1 (fault_status why.Refused step runs.0.fault_is) runs.0.made runs.1 ends
list_ends (Err (Fault why.BadReply)) step p0 p1 o0 o1 e0 m e1 runs ends =
    list_done (Failed why.BadReply) step p0 p1 o0 o1 e0 m e1 (fault_status why.BadReply step runs.0.fault_is) runs.0.made runs.1 ends
list_ends (Err (Fault why.NoIdentities)) step p0 p1 o0 o1 e0 m e1 runs ends =
    list_done (Failed why.NoIdentities) step p0 p1 o0 o1 e0 m e1 (fault_status why.NoIdentities step runs.0.fault_is) runs.0.made runs.1 ends

lines_ends : (answer : Result (Unit {0}) Stop) (step : Step) (p0 p1 o0 o1 e0 m e1 : StreamView)
    → Runs false answer step p0 p1 o0 o1 e0 m
    → e0.write_faults ≤ m.write_faults → WritesAllOrFails (last_line (ended answer)) m e1
    → Ends (ended answer) (told_by false step) p0 p1 o0 o1 e0 e1
lines_ends (Ok value) step p0 p1 o0 o1 e0 m e1 runs later ends =
    lines_done Done step p0 p1 o0 o1 e0 m e1 (ap status_of (sym runs.0.goes_on)) runs.0.made runs.1 later ends
lines_ends (Err Memory) step p0 p1 o0 o1 e0 m e1 runs later ends = lines_cut [] step p0 p1 o0 o1 e0 m e1 runs.0 runs.1 ends
lines_ends (Err (Fault (why.File place))) step p0 p1 o0 o1 e0 m e1 runs later ends =
    lines_cut (last_line (Failed (why.File place))) step p0 p1 o0 o1 e0 m e1 runs.0 runs.1 ends
lines_ends (Err (Fault why.PeerFault)) step p0 p1 o0 o1 e0 m e1 runs later ends =
    lines_cut (last_line (Failed why.PeerFault)) step p0 p1 o0 o1 e0 m e1 runs.0 runs.1 ends
lines_ends (Err (Fault why.InputFault)) step p0 p1 o0 o1 e0 m e1 runs later ends =
    lines_cut (last_line (Failed why.InputFault)) step p0 p1 o0 o1 e0 m e1 runs.0 runs.1 ends
lines_ends (Err (Fault why.OutputFault)) step p0 p1 o0 o1 e0 m e1 runs later ends =
    lines_cut (last_line (Failed why.OutputFault)) step p0 p1 o0 o1 e0 m e1 runs.0 runs.1 ends
lines_ends (Err (Fault why.Usage)) step p0 p1 o0 o1 e0 m e1 runs later ends =
    lines_done (Failed why.Usage) step p0 p1 o0 o1 e0 m e1 (fault_status why.Usage step runs.0.fault_is) runs.0.made runs.1 later ends
lines_ends (Err (Fault (why.FileTooLong place))) step p0 p1 o0 o1 e0 m e1 runs later ends =
    lines_done (Failed (why.FileTooLong place)) step p0 p1 o0 o1 e0 m e1 (fault_status (why.FileTooLong place) step runs.0.fault_is) runs.0.made runs.1 later ends
lines_ends (Err (Fault (why.Body fault))) step p0 p1 o0 o1 e0 m e1 runs later ends =
    lines_done (Failed (why.Body fault)) step p0 p1 o0 o1 e0 m e1 (fault_status (why.Body fault) step runs.0.fault_is) runs.0.made runs.1 later ends
lines_ends (Err (Fault (why.Public fault))) step p0 p1 o0 o1 e0 m e1 runs later ends =
    lines_done (Failed (why.Public fault)) step p0 p1 o0 o1 e0 m e1 (fault_status (why.Public fault) step runs.0.fault_is) runs.0.made runs.1 later ends
lines_ends (Err (Fault (why.Destination fault))) step p0 p1 o0 o1 e0 m e1 runs later ends =
    lines_done (Failed (why.Destination fault)) step p0 p1 o0 o1 e0 m e1 (fault_status (why.Destination fault) step runs.0.fault_is) runs.0.made runs.1 later ends
lines_ends (Err (Fault (why.Purpose fault))) step p0 p1 o0 o1 e0 m e1 runs later ends =
    lines_done (Failed (why.Purpose fault)) step p0 p1 o0 o1 e0 m e1 (fault_status (why.Purpose fault) step runs.0.fault_is) runs.0.made runs.1 later ends
lines_ends (Err (Fault why.EmptyPassphrase)) step p0 p1 o0 o1 e0 m e1 runs later ends =
    lines_done (Failed why.EmptyPassphrase) step p0 p1 o0 o1 e0 m e1 (fault_status why.EmptyPassphrase step runs.0.fault_is) runs.0.made runs.1 later ends
lines_ends (Err (Fault why.LongPassphrase)) step p0 p1 o0 o1 e0 m e1 runs later ends =
    lines_done (Failed why.LongPassphrase) step p0 p1 o0 o1 e0 m e1 (fault_status why.LongPassphrase step runs.0.fault_is) runs.0.made runs.1 later ends
lines_ends (Err (Fault why.TooLong)) step p0 p1 o0 o1 e0 m e1 runs later ends =
    lines_done (Failed why.TooLong) step p0 p1 o0 o1 e0 m e1 (fault_status why.TooLong step runs.0.fault_is) runs.0.made runs.1 later ends
lines_ends (Err (Fault why.Refused)) step p0 p1 o0 o1 e0 m e1 runs later ends =
    lines_done (Failed why.Refused) step p0 p1 o0 o1 e0 m e1 (fault_status why.Refused step runs.0.fault_is) runs.0.made runs.1 later ends
lines_ends (Err (Fault why.BadReply)) step p0 p1 o0 o1 e0 m e1 runs later ends =
    lines_done (Failed why.BadReply) step p0 p1 o0 o1 e0 m e1 (fault_status why.BadReply step runs.0.fault_is) runs.0.made runs.1 later ends
lines_ends (Err (Fault why.NoIdentities)) step p0 p1 o0 o1 e0 m e1 runs later ends =
    lines_done (Failed why.NoIdentities) step p0 p1 o0 o1 e0 m e1 (fault_status why.NoIdentities step runs.0.fault_is) runs.0.made runs.1 later ends

-- the last step, and then the last line
pub run_ends : (listing : Bool) (answer : Result (Unit {0}) Stop) (step : Step) (p0 p1 o0 o1 e0 m e1 : StreamView)
    → Runs listing answer step p0 p1 o0 o1 e0 m → e0.write_faults ≤ m.write_faults → WritesAllOrFails (last_line (ended answer)) m e1
    → Ends (ended answer) (told_by listing step) p0 p1 o0 o1 e0 e1
run_ends true answer step p0 p1 o0 o1 e0 m e1 runs later ends = list_ends answer step p0 p1 o0 o1 e0 m e1 runs ends
run_ends false answer step p0 p1 o0 o1 e0 m e1 runs later ends = lines_ends answer step p0 p1 o0 o1 e0 m e1 runs later ends

-- words that are none of the tool's forms, or memory that ran out before
pub refused_ends : (status : AddStatus) (words : List (List ℕ)) (has_agent : Bool) (held : List ℕ → Option (List ℕ)) (left replies : List ℕ)
    (p o e0 e1 : StreamView) → (status ≡ OutOfMemory) ⊎ ((status ≡ Failed why.Usage) × (words_of words ≡ None))
    → WritesAllOrFails (last_line status) e0 e1 → Ends status (talk words has_agent held left replies) p p o o e0 e1
refused_ends status words has_agent held left replies p o e0 e1 (inl memory) ends =
    let t = talk words has_agent held left replies in
    let part = (subst (λ (s : AddStatus). WritesAllOrFails (last_line s) e0 e1) memory ends).part in
    subst (λ (s : AddStatus). Ends s t p p o o e0 e1) (sym memory) record {
      sent = no_front t.sent p;
      output = no_front t.output o;
      lines = [];
      rest = t.lines;
      front = refl;
      errors = part;
    }
refused_ends status words has_agent held left replies p o e0 e1 (inr usage) ends =
    let only : talk words has_agent held left replies ≡ only_ends (Failed why.Usage) =
    ap (λ form. talk_for form has_agent held left replies) usage.1 in
    let last = subst (λ (s : AddStatus). WritesAllOrFails (last_line s) e0 e1) usage.0 ends in
    subst (λ (s : AddStatus). Ends s (talk words has_agent held left replies) p p o o e0 e1) (sym usage.0)
    (subst (λ (t : Transcript). Ends (Failed why.Usage) t p p o o e0 e1) (sym only) record {
      status_is = refl;
      done = record { sent = Appends-nil p.written; output = Appends-nil o.written; errors = last };
    })
