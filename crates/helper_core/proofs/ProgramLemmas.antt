-- Lemmas on specs/Claims.antt: the program before the talk, and what its status says.
use Rattle.std.proofs.Common.{◌≡◌, ℕ, List, [], Option, Some, None, refl, ap, ◌∙◌, subst}
use Rattle.std.proofs.KnownBytes.{Appends-nil}
use Rattle.std.specs.Io.KnownBytes.{Appends}
use Rattle.child_peer.specs.Words.{ChildWords, words_of}
use Rattle.child_peer.proofs.TalkLemmas.{holds_of, HasRead-nil, HasRead-same}
use Rattle.helper_core.specs.Claims.{Answers, Begins, Ends, Seen, Talk}
use Rattle.helper_core.specs.declared.behind.Exchange.{Exchange}
use Rattle.helper_core.specs.declared.status.HelperStatus.{HelperStatus}
use Rattle.helper_core.specs.declared.status.HelperStatus.TheVariants.{Done, BadFrame, Usage, Memory, ReadFault, WriteFault, TornEnd}
use Rattle.helper_core.specs.Routes.{Route}
use Rattle.helper_core.specs.Serving.{IsUnderWay}
use Rattle.helper_core.specs.Transcript.{Replies, after, ended, greeted, replies_of, served, transcript_of, transcript_with}
use Rattle.helper_core.proofs.EndLemmas.{at}
use Rattle.helper_core.proofs.StepLemmas.{after-parts, grows_none}
use Rattle.world_ports.specs.Causes.{Rose}
use Rattle.world_ports.specs.Streams.{OnlyWrites, StreamView, WritesPart}

-- ---- transcripts

pub transcript-usage : (route : List ℕ → Route) (words : List (List ℕ)) → words_of words ≡ None
    → (replies : Replies) (stream : List ℕ)
    → transcript_of route words replies stream ≡ ended Usage
unfolding transcript_of
transcript-usage route words none replies stream = ap (λ (w : Option ChildWords). transcript_with route w replies stream) none

pub transcript-talk : (route : List ℕ → Route) (words : List (List ℕ)) (read : ChildWords)
    → words_of words ≡ Some read → (replies : Replies) (stream : List ℕ)
    → transcript_of route words replies stream ≡ greeted route read replies stream
unfolding transcript_of
transcript-talk route words read of_words replies stream = ap (λ (w : Option ChildWords). transcript_with route w replies stream) of_words

-- ---- HELLO

-- HELLO is this frame, and then the stream is served
abbrev pub Greets : (List ℕ → Route) → Talk → List ℕ → Type 0
Greets route talk frame = (replies : Replies) (stream : List ℕ) → talk replies stream ≡ after frame [] (served route replies stream)

-- memory ran out
pub ends_ungreeted : (talk : Talk) (behind : Option (List Exchange)) (start : StreamView)
    → Ends Memory talk (at behind start) (at behind start)
unfolding Ends
ends_ungreeted talk behind start = record {
  bytes = [];
  handed = [];
  sent = [];
  done = record { read = HasRead-nil start; grew = grows_none behind; wrote = Appends-nil start.written };
  begins = holds_of start.left [] (λ stream. Begins [] [] (talk (replies_of []) stream)) (λ more. record { later = talk [] more; is = refl });
}

-- the write failed
pub ends_half_greeted : (route : List ℕ → Route) (talk : Talk) (behind : Option (List Exchange)) (start new : StreamView) (frame out : List ℕ)
    → Greets route talk frame → out ≡ frame
    → WritesPart out start new → Rose start.write_faults new.write_faults → OnlyWrites start new → Ends WriteFault talk (at behind start) (at behind new)
unfolding Ends
ends_half_greeted route talk behind start new frame out greets is part rose only = record {
  early = record {
    bytes = [];
    handed = [];
    sent = part.1.front;
    done = record {
      read = HasRead-same start start new [] (HasRead-nil start) only.taken only.left;
      grew = grows_none behind;
      wrote = part.1.written;
    };
    begins = holds_of new.left [] (λ stream. Begins part.1.front [] (talk (replies_of []) stream)) (λ more. record {
      later = after part.0 [] (served route [] more);
      is = greets [] more ∙ after-parts [] part.1.front part.0 frame [] (served route [] more) (part.1.whole ∙ is);
    });
  };
  cause = rose;
  reads = only.read_faults;
}

-- it is sent
pub under_way-greeted : (route : List ℕ → Route) (talk : Talk) (behind : Option (List Exchange)) (start new : StreamView) (frame out : List ℕ)
    → Greets route talk frame → out ≡ frame
    → Appends start.written new.written out → new.write_faults ≡ start.write_faults → OnlyWrites start new → IsUnderWay route talk (at behind start) (at behind new) []
under_way-greeted route talk behind start new frame out greets is wrote same only = record {
  bytes = [];
  handed = [];
  sent = frame;
  done = record {
    read = HasRead-same start start new [] (HasRead-nil start) only.taken only.left;
    grew = grows_none behind;
    wrote = subst (Appends start.written new.written) is wrote;
  };
  goes = greets;
  reads = only.read_faults;
  writes = same;
}

-- ---- statuses

-- a talk says what its status says
pub answers_by : (status : HelperStatus) (route : List ℕ → Route) (words : List (List ℕ)) (old new : Seen)
    → Ends status (transcript_of route words) old new → Answers status route words old new
unfolding Ends
answers_by Done route words old new talk = talk
answers_by BadFrame route words old new talk = talk
answers_by Usage route words old new talk = absurd talk
answers_by Memory route words old new talk = talk
answers_by ReadFault route words old new talk = talk
answers_by WriteFault route words old new talk = talk
answers_by TornEnd route words old new talk = talk

-- a talk ends for no reason that comes before it
pub no_usage : (status : HelperStatus) (talk : Talk) (old new : Seen) → Ends status talk old new
    → status ≡ Usage → ⊥
unfolding Ends
no_usage status talk old new ends is = subst (λ (s : HelperStatus). Ends s talk old new) is ends
