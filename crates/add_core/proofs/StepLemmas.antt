-- Steps, one after another.
use Rattle.std.proofs.Common.{◌≡◌, ℕ, List, [], ◌++◌, Option, None, Some, Result, Ok, Err, refl, sym, ap, subst, ◌∙◌, append_assoc}
use Rattle.std.proofs.KnownBytes.{Appends-nil, Appends-trans}
use Rattle.std.proofs.lemmas.List.{append-nil}
use Rattle.std.specs.Io.KnownBytes.{Appends}
use Rattle.world_ports.specs.Streams.{StreamView, OnlyReads, WritesPart}
use Rattle.add_core.specs.declared.fault.AddFault.{AddFault}
use Rattle.add_core.specs.declared.fault.AddFault.TheVariants as why
use Rattle.add_core.specs.declared.fault.Stop.{Stop}
use Rattle.add_core.specs.declared.fault.Stop.TheVariants.{Fault, Memory}
use Rattle.add_core.specs.Steps.{Step, nothing, telling, followed_by, followed, IsMade, IsCut, IsStopped, Stops, IsWhole, Follows}
use Rattle.agent_msg.specs.ReplyReading.{reply_of}
use Rattle.agent_msg.specs.declared.agent_reply.ReplyFault.{ReplyFault}
use Rattle.agent_msg.specs.ReplyReading.{AgentReply}
use Rattle.add_core.specs.Hearing.{TakesReply}
use Rattle.add_core.specs.Exchanges.{answered, asked, judged, reply_in, reply_at, verdict_of, stepped, Refuses, Judges}

-- ---- fronts

-- nothing is a front
pub no_front : (bytes : List ℕ) (seen : StreamView) → WritesPart bytes seen seen
no_front bytes seen = (bytes, record { front = []; whole = refl; written = Appends-nil seen.written })

-- a front of what begins a text is one of the text
longer : (bytes more : List ℕ) (old new : StreamView) → WritesPart bytes old new
    → WritesPart (bytes ++ more) old new
longer bytes more old new part = (
  part.0 ++ more,
  record {
    front = part.1.front;
    whole = sym (append_assoc part.1.front part.0 more) ∙ ap (λ (l : List ℕ). l ++ more) part.1.whole;
    written = part.1.written;
  },
)

-- a front of what follows a text, and the text before it
pub later_front : (bytes more : List ℕ) (old mid new : StreamView)
    → Appends old.written mid.written bytes → WritesPart more mid new
    → WritesPart (bytes ++ more) old new
later_front bytes more old mid new before part = (
  part.0,
  record {
    front = bytes ++ part.1.front;
    whole = append_assoc bytes part.1.front part.0 ∙ ap (λ (l : List ℕ). bytes ++ l) part.1.whole;
    written = Appends-trans old.written mid.written new.written bytes part.1.front before part.1.written;
  },
)

-- ---- steps

-- nothing was done
pub none_is_cut : (step : Step) (p s : StreamView) → IsCut step p p s s
none_is_cut step p s = record { sent = no_front step.sent p; told = no_front step.told s }

-- by the fault of a step
by_fault : (step : Step) (later : List ℕ → Step) (fault : Option AddFault) → step.fault ≡ fault
    → followed step later ≡ followed_by fault step (later step.left)
by_fault step later fault is = ap (λ (f : Option AddFault). followed_by f step (later step.left)) is

-- what is cut in a step is cut in it and what follows
cut_in_front : (step : Step) (later : List ℕ → Step) (p0 p1 s0 s1 : StreamView) (fault : Option AddFault)
    → step.fault ≡ fault
    → IsCut step p0 p1 s0 s1 → IsCut (followed step later) p0 p1 s0 s1
cut_in_front step later p0 p1 s0 s1 None is cut =
    subst (λ (x : Step). IsCut x p0 p1 s0 s1) (sym (by_fault step later None is)) record {
      sent = longer step.sent (later step.left).sent p0 p1 cut.sent;
      told = longer step.told (later step.left).told s0 s1 cut.told;
    }
cut_in_front step later p0 p1 s0 s1 (Some fault) is cut =
    subst (λ (x : Step). IsCut x p0 p1 s0 s1) (sym (by_fault step later (Some fault) is)) cut

-- a step that stops is the last
stopped_in_front : (why_it : AddFault) (step : Step) (later : List ℕ → Step) (p0 p1 s0 s1 : StreamView)
    → IsStopped why_it step p0 p1 s0 s1 → IsStopped why_it (followed step later) p0 p1 s0 s1
stopped_in_front why_it step later p0 p1 s0 s1 stopped =
    subst (λ (x : Step). IsStopped why_it x p0 p1 s0 s1) (sym (by_fault step later (Some why_it) stopped.fault_is)) stopped

-- nothing follows a step that stops
pub stops_in_front : (stop : Stop) (step : Step) (later : List ℕ → Step) (p0 p1 s0 s1 : StreamView)
    → Stops stop step p0 p1 s0 s1 → Stops stop (followed step later) p0 p1 s0 s1
stops_in_front Memory step later p0 p1 s0 s1 h = cut_in_front step later p0 p1 s0 s1 step.fault refl h
stops_in_front (Fault (why.File place)) step later p0 p1 s0 s1 h = cut_in_front step later p0 p1 s0 s1 step.fault refl h
stops_in_front (Fault why.PeerFault) step later p0 p1 s0 s1 h = cut_in_front step later p0 p1 s0 s1 step.fault refl h
stops_in_front (Fault why.InputFault) step later p0 p1 s0 s1 h = cut_in_front step later p0 p1 s0 s1 step.fault refl h
stops_in_front (Fault why.OutputFault) step later p0 p1 s0 s1 h = cut_in_front step later p0 p1 s0 s1 step.fault refl h
stops_in_front (Fault why.Usage) step later p0 p1 s0 s1 h = stopped_in_front why.Usage step later p0 p1 s0 s1 h
stops_in_front (Fault (why.FileTooLong place)) step later p0 p1 s0 s1 h = stopped_in_front (why.FileTooLong place) step later p0 p1 s0 s1 h
stops_in_front (Fault (why.Body fault)) step later p0 p1 s0 s1 h = stopped_in_front (why.Body fault) step later p0 p1 s0 s1 h
stops_in_front (Fault (why.Public fault)) step later p0 p1 s0 s1 h = stopped_in_front (why.Public fault) step later p0 p1 s0 s1 h
stops_in_front (Fault (why.Destination fault)) step later p0 p1 s0 s1 h = stopped_in_front (why.Destination fault) step later p0 p1 s0 s1 h
stops_in_front (Fault (why.Purpose fault)) step later p0 p1 s0 s1 h = stopped_in_front (why.Purpose fault) step later p0 p1 s0 s1 h
stops_in_front (Fault why.EmptyPassphrase) step later p0 p1 s0 s1 h = stopped_in_front why.EmptyPassphrase step later p0 p1 s0 s1 h
stops_in_front (Fault why.LongPassphrase) step later p0 p1 s0 s1 h = stopped_in_front why.LongPassphrase step later p0 p1 s0 s1 h
stops_in_front (Fault why.TooLong) step later p0 p1 s0 s1 h = stopped_in_front why.TooLong step later p0 p1 s0 s1 h
stops_in_front (Fault why.Refused) step later p0 p1 s0 s1 h = stopped_in_front why.Refused step later p0 p1 s0 s1 h
stops_in_front (Fault why.BadReply) step later p0 p1 s0 s1 h = stopped_in_front why.BadReply step later p0 p1 s0 s1 h
stops_in_front (Fault why.NoIdentities) step later p0 p1 s0 s1 h = stopped_in_front why.NoIdentities step later p0 p1 s0 s1 h

-- two steps that are made are one
made_after : (step after : Step) (p0 p1 p2 s0 s1 s2 : StreamView) → IsMade step p0 p1 s0 s1
    → IsMade after p1 p2 s1 s2
    → IsMade (followed_by None step after) p0 p2 s0 s2
made_after step after p0 p1 p2 s0 s1 s2 first second = record {
  sent = Appends-trans p0.written p1.written p2.written step.sent after.sent first.sent second.sent;
  told = Appends-trans s0.written s1.written s2.written step.told after.told first.told second.told;
}

cut_after : (step after : Step) (p0 p1 p2 s0 s1 s2 : StreamView) → IsMade step p0 p1 s0 s1
    → IsCut after p1 p2 s1 s2
    → IsCut (followed_by None step after) p0 p2 s0 s2
cut_after step after p0 p1 p2 s0 s1 s2 first second = record {
  sent = later_front step.sent after.sent p0 p1 p2 first.sent second.sent;
  told = later_front step.told after.told s0 s1 s2 first.told second.told;
}

stopped_after : (why_it : AddFault) (step after : Step) (p0 p1 p2 s0 s1 s2 : StreamView)
    → IsMade step p0 p1 s0 s1
    → IsStopped why_it after p1 p2 s1 s2 → IsStopped why_it (followed_by None step after) p0 p2 s0 s2
stopped_after why_it step after p0 p1 p2 s0 s1 s2 first second = record {
  fault_is = second.fault_is;
  made = made_after step after p0 p1 p2 s0 s1 s2 first second.made;
}

stops_after : (stop : Stop) (step after : Step) (p0 p1 p2 s0 s1 s2 : StreamView)
    → IsMade step p0 p1 s0 s1
    → Stops stop after p1 p2 s1 s2 → Stops stop (followed_by None step after) p0 p2 s0 s2
stops_after Memory step after p0 p1 p2 s0 s1 s2 m h = cut_after step after p0 p1 p2 s0 s1 s2 m h
stops_after (Fault (why.File place)) step after p0 p1 p2 s0 s1 s2 m h = cut_after step after p0 p1 p2 s0 s1 s2 m h
stops_after (Fault why.PeerFault) step after p0 p1 p2 s0 s1 s2 m h = cut_after step after p0 p1 p2 s0 s1 s2 m h
stops_after (Fault why.InputFault) step after p0 p1 p2 s0 s1 s2 m h = cut_after step after p0 p1 p2 s0 s1 s2 m h
stops_after (Fault why.OutputFault) step after p0 p1 p2 s0 s1 s2 m h = cut_after step after p0 p1 p2 s0 s1 s2 m h
stops_after (Fault why.Usage) step after p0 p1 p2 s0 s1 s2 m h = stopped_after why.Usage step after p0 p1 p2 s0 s1 s2 m h
stops_after (Fault (why.FileTooLong place)) step after p0 p1 p2 s0 s1 s2 m h = stopped_after (why.FileTooLong place) step after p0 p1 p2 s0 s1 s2 m h
stops_after (Fault (why.Body fault)) step after p0 p1 p2 s0 s1 s2 m h = stopped_after (why.Body fault) step after p0 p1 p2 s0 s1 s2 m h
stops_after (Fault (why.Public fault)) step after p0 p1 p2 s0 s1 s2 m h = stopped_after (why.Public fault) step after p0 p1 p2 s0 s1 s2 m h
stops_after (Fault (why.Destination fault)) step after p0 p1 p2 s0 s1 s2 m h = stopped_after (why.Destination fault) step after p0 p1 p2 s0 s1 s2 m h
stops_after (Fault (why.Purpose fault)) step after p0 p1 p2 s0 s1 s2 m h = stopped_after (why.Purpose fault) step after p0 p1 p2 s0 s1 s2 m h
stops_after (Fault why.EmptyPassphrase) step after p0 p1 p2 s0 s1 s2 m h = stopped_after why.EmptyPassphrase step after p0 p1 p2 s0 s1 s2 m h
stops_after (Fault why.LongPassphrase) step after p0 p1 p2 s0 s1 s2 m h = stopped_after why.LongPassphrase step after p0 p1 p2 s0 s1 s2 m h
stops_after (Fault why.TooLong) step after p0 p1 p2 s0 s1 s2 m h = stopped_after why.TooLong step after p0 p1 p2 s0 s1 s2 m h
stops_after (Fault why.Refused) step after p0 p1 p2 s0 s1 s2 m h = stopped_after why.Refused step after p0 p1 p2 s0 s1 s2 m h
stops_after (Fault why.BadReply) step after p0 p1 p2 s0 s1 s2 m h = stopped_after why.BadReply step after p0 p1 p2 s0 s1 s2 m h
stops_after (Fault why.NoIdentities) step after p0 p1 p2 s0 s1 s2 m h = stopped_after why.NoIdentities step after p0 p1 p2 s0 s1 s2 m h

by_result : {T : Type 0} (result : Result T Stop) (step after : Step) (p0 p1 p2 s0 s1 s2 : StreamView)
    → IsMade step p0 p1 s0 s1
    → Follows result after p1 p2 s1 s2 → Follows result (followed_by None step after) p0 p2 s0 s2
by_result (Ok value) step after p0 p1 p2 s0 s1 s2 m h = record {
  goes_on = h.goes_on;
  made = made_after step after p0 p1 p2 s0 s1 s2 m h.made;
  left = h.left;
}
by_result (Err stop) step after p0 p1 p2 s0 s1 s2 m h = stops_after stop step after p0 p1 p2 s0 s1 s2 m h

-- a step that is made whole, and what follows it
pub goes_on : {T : Type 0} (result : Result T Stop) (step : Step) (later : List ℕ → Step) (p0 p1 p2 s0 s1 s2 : StreamView)
    → IsWhole step p0 p1 s0 s1 → Follows result (later step.left) p1 p2 s1 s2 → Follows result (followed step later) p0 p2 s0 s2
goes_on result step later p0 p1 p2 s0 s1 s2 whole next =
    subst (λ (x : Step). Follows result x p0 p2 s0 s2) (sym (by_fault step later None whole.goes_on))
    (by_result result step (later step.left) p0 p1 p2 s0 s1 s2 whole.made next)

-- ---- first steps

-- what the code makes of a reply
pub judges_follows : {T : Type 0} (result : Result T Stop) (verdict : Option AddFault) (left : List ℕ) (p s : StreamView)
    → p.left ≡ Some left → Judges result verdict → Follows result (judged verdict left) p p s s
judges_follows (Ok value) verdict left p s known is =
    subst (λ (v : Option AddFault). IsWhole (judged v left) p p s s) (sym is) record {
      goes_on = refl;
      made = record { sent = Appends-nil p.written; told = Appends-nil s.written };
      left = known;
    }
judges_follows (Err Memory) verdict left p s known is = none_is_cut (judged verdict left) p s
judges_follows (Err (Fault why.Refused)) verdict left p s known is =
    subst (λ (v : Option AddFault). IsStopped why.Refused (judged v left) p p s s) (sym is) record {
      fault_is = refl;
      made = record { sent = Appends-nil p.written; told = Appends-nil s.written };
    }
judges_follows (Err (Fault why.BadReply)) verdict left p s known is =
    subst (λ (v : Option AddFault). IsStopped why.BadReply (judged v left) p p s s) (sym is) record {
      fault_is = refl;
      made = record { sent = Appends-nil p.written; told = Appends-nil s.written };
    }
judges_follows (Err (Fault (why.File place))) verdict left p s known is = absurd is
judges_follows (Err (Fault why.PeerFault)) verdict left p s known is = absurd is
judges_follows (Err (Fault why.InputFault)) verdict left p s known is = absurd is
judges_follows (Err (Fault why.OutputFault)) verdict left p s known is = absurd is
judges_follows (Err (Fault why.Usage)) verdict left p s known is = absurd is
judges_follows (Err (Fault (why.FileTooLong place))) verdict left p s known is = absurd is
judges_follows (Err (Fault (why.Body fault))) verdict left p s known is = absurd is
judges_follows (Err (Fault (why.Public fault))) verdict left p s known is = absurd is
judges_follows (Err (Fault (why.Destination fault))) verdict left p s known is = absurd is
judges_follows (Err (Fault (why.Purpose fault))) verdict left p s known is = absurd is
judges_follows (Err (Fault why.EmptyPassphrase)) verdict left p s known is = absurd is
judges_follows (Err (Fault why.LongPassphrase)) verdict left p s known is = absurd is
judges_follows (Err (Fault why.TooLong)) verdict left p s known is = absurd is
judges_follows (Err (Fault why.NoIdentities)) verdict left p s known is = absurd is

-- ---- a request

-- a frame that is sent, and the reply that was read
pub asked_whole : (frame replies body : List ℕ) (p0 p1 p2 s : StreamView)
    → Appends p0.written p1.written frame → OnlyReads p1 p2
    → TakesReply replies body p2 → IsWhole (asked frame replies) p0 p2 s s
asked_whole frame replies body p0 p1 p2 s sent only takes =
    subst (λ (answer : Option (List ℕ × List ℕ)). IsWhole (answered frame answer) p0 p2 s s) (sym takes.answer) record {
      goes_on = refl;
      made = record {
        sent = subst (λ (w : Option (List ℕ)). Appends p0.written w frame) (sym only.written) sent;
        told = Appends-nil s.written;
      };
      left = takes.left;
    }

-- the reply that was read is the agent's next
pub reply_is : (replies body : List ℕ) (now : StreamView) → TakesReply replies body now
    → reply_at replies ≡ reply_of body
reply_is replies body now takes = ap reply_in takes.answer

-- what is made of the reply to a frame that was sent
pub asked_judged : {T : Type 0} (result : Result T Stop) (frame replies body : List ℕ) (p0 p1 s : StreamView)
    → IsWhole (asked frame replies) p0 p1 s s → reply_at replies ≡ reply_of body → Judges result (verdict_of (reply_of body))
    → Follows result (followed (asked frame replies) (judged (verdict_of (reply_at replies)))) p0 p1 s s
asked_judged result frame replies body p0 p1 s whole is judges =
    goes_on result (asked frame replies) (judged (verdict_of (reply_at replies))) p0 p1 p1 s s s whole
    (judges_follows result (verdict_of (reply_at replies)) (asked frame replies).left p1 s whole.left
    (subst (λ (r : Result AgentReply ReplyFault). Judges result (verdict_of r)) (sym is) judges))

-- a text that is written
pub told_whole : (text left : List ℕ) (p s0 s1 : StreamView) → p.left ≡ Some left
    → Appends s0.written s1.written text
    → IsWhole (telling text left) p p s0 s1
told_whole text left p s0 s1 known written = record {
  goes_on = refl;
  made = record { sent = Appends-nil p.written; told = written };
  left = known;
}

-- a front of a text that is written
pub told_cut : (text left : List ℕ) (p s0 s1 : StreamView) → WritesPart text s0 s1
    → IsCut (telling text left) p p s0 s1
told_cut text left p s0 s1 part = record { sent = no_front [] p; told = part }

-- ---- readings

-- a fault that a reading ends with
failed : {A : Type 0} (fault : AddFault) (defined : Result A AddFault) (step : A → Step) (p s : StreamView)
    → defined ≡ Err fault
    → IsStopped fault (stepped defined step) p p s s
failed fault defined step p s is =
    subst (λ (x : Step). IsStopped fault x p p s s) (ap (λ d. stepped d step) (sym is)) record {
      fault_is = refl;
      made = record { sent = Appends-nil p.written; told = Appends-nil s.written };
    }

-- a reading that stops is the last
pub tells_stops : {A : Type 0} (stop : Stop) (defined : Result A AddFault) (step : A → Step) (p s : StreamView)
    → Refuses stop defined → Stops stop (stepped defined step) p p s s
tells_stops Memory defined step p s h = none_is_cut (stepped defined step) p s
tells_stops (Fault (why.File place)) defined step p s h = none_is_cut (stepped defined step) p s
tells_stops (Fault why.PeerFault) defined step p s h = none_is_cut (stepped defined step) p s
tells_stops (Fault why.InputFault) defined step p s h = none_is_cut (stepped defined step) p s
tells_stops (Fault why.OutputFault) defined step p s h = none_is_cut (stepped defined step) p s
tells_stops (Fault why.Usage) defined step p s h = failed why.Usage defined step p s h
tells_stops (Fault (why.FileTooLong place)) defined step p s h = failed (why.FileTooLong place) defined step p s h
tells_stops (Fault (why.Body fault)) defined step p s h = failed (why.Body fault) defined step p s h
tells_stops (Fault (why.Public fault)) defined step p s h = failed (why.Public fault) defined step p s h
tells_stops (Fault (why.Destination fault)) defined step p s h = failed (why.Destination fault) defined step p s h
tells_stops (Fault (why.Purpose fault)) defined step p s h = failed (why.Purpose fault) defined step p s h
tells_stops (Fault why.EmptyPassphrase) defined step p s h = failed why.EmptyPassphrase defined step p s h
tells_stops (Fault why.LongPassphrase) defined step p s h = failed why.LongPassphrase defined step p s h
tells_stops (Fault why.TooLong) defined step p s h = failed why.TooLong defined step p s h
tells_stops (Fault why.Refused) defined step p s h = failed why.Refused defined step p s h
tells_stops (Fault why.BadReply) defined step p s h = failed why.BadReply defined step p s h
tells_stops (Fault why.NoIdentities) defined step p s h = failed why.NoIdentities defined step p s h

-- after a reading its step follows
pub tells_ok : {A T : Type 0} (result : Result T Stop) (value : A) (defined : Result A AddFault) (step : A → Step) (p0 p1 s0 s1 : StreamView)
    → defined ≡ Ok value → Follows result (step value) p0 p1 s0 s1 → Follows result (stepped defined step) p0 p1 s0 s1
tells_ok result value defined step p0 p1 s0 s1 is h =
    subst (λ (x : Step). Follows result x p0 p1 s0 s1) (ap (λ d. stepped d step) (sym is)) h

-- ---- one after another

-- a step that goes on and another one are one
abbrev joined : Step → Step → Step
joined a b = followed_by None a b

joined-assoc : (a b c : Step) → joined (joined a b) c ≡ joined a (joined b c)
joined-assoc a b c =
    ap (λ (l : List ℕ). record { sent = l; told = (a.told ++ b.told) ++ c.told; left = c.left; fault = c.fault }) (append_assoc a.sent b.sent c.sent)
    ∙ ap (λ (l : List ℕ). record { sent = a.sent ++ (b.sent ++ c.sent); told = l; left = c.left; fault = c.fault }) (append_assoc a.told b.told c.told)

assoc_by : (a : Step) (f g : List ℕ → Step) (first second : Option AddFault) → a.fault ≡ first
    → (f a.left).fault ≡ second
    → followed (followed a f) g ≡ followed a (λ left. followed (f left) g)
assoc_by a f g (Some fault) second is is2 =
    ap (λ (x : Step). followed x g) (by_fault a f (Some fault) is) ∙ by_fault a g (Some fault) is
    ∙ sym (by_fault a (λ left. followed (f left) g) (Some fault) is)
assoc_by a f g None (Some fault) is is2 =
    ap (λ (x : Step). followed x g) (by_fault a f None is) ∙ by_fault (joined a (f a.left)) g (Some fault) is2
    ∙ ap (joined a) (sym (by_fault (f a.left) g (Some fault) is2)) ∙ sym (by_fault a (λ left. followed (f left) g) None is)
assoc_by a f g None None is is2 =
    ap (λ (x : Step). followed x g) (by_fault a f None is) ∙ by_fault (joined a (f a.left)) g None is2
    ∙ joined-assoc a (f a.left) (g (f a.left).left)
    ∙ ap (joined a) (sym (by_fault (f a.left) g None is2)) ∙ sym (by_fault a (λ left. followed (f left) g) None is)

-- three in a row
pub followed-assoc : (a : Step) (f g : List ℕ → Step)
    → followed (followed a f) g ≡ followed a (λ left. followed (f left) g)
followed-assoc a f g = assoc_by a f g a.fault (f a.left).fault refl refl

-- nothing follows
pub followed-nothing : (a : Step) → a.fault ≡ None → followed a nothing ≡ a
followed-nothing a is =
    by_fault a nothing None is
    ∙ ap (λ (l : List ℕ). record { sent = l; told = a.told ++ []; left = a.left; fault = None }) (append-nil a.sent)
    ∙ ap (λ (l : List ℕ). record { sent = a.sent; told = l; left = a.left; fault = None }) (append-nil a.told)
    ∙ ap (λ (f : Option AddFault). record { sent = a.sent; told = a.told; left = a.left; fault = f }) (sym is)

-- before the first step
pub nothing_made : (left : List ℕ) (p s : StreamView) → p.left ≡ Some left
    → IsWhole (nothing left) p p s s
nothing_made left p s known = record {
  goes_on = refl;
  made = record { sent = Appends-nil p.written; told = Appends-nil s.written };
  left = known;
}
