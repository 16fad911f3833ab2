-- Lemmas on specs/Claims.antt: the program before the talk, and what its status says.
use Rattle.std.proofs.Common.{◌≡◌, ◌⊎◌, ℕ, List, [], ◌++◌, Option, Some, None, Result, Ok, Err, inl, inr, refl, ap, sym, ◌∙◌, subst, append_assoc}
use Rattle.std.proofs.KnownBytes.{Appends-nil}
use Rattle.std.specs.Io.KnownBytes.{Appends}
use Rattle.child_peer.specs.Talk.{IsFront}
use Rattle.child_peer.specs.Words.{ChildWords, words_of}
use Rattle.child_peer.proofs.TalkLemmas.{holds_of, HasRead-nil, HasRead-same}
use Rattle.standin_core.specs.Claims.{Answers, Ends, EndsTalk, Seen}
use Rattle.standin_core.specs.Hosts.{Host}
use Rattle.standin_core.specs.Serving.{IsUnderWay}
use Rattle.standin_core.specs.Transcript.{Transcript, after, ended, greeted, hosts_at, served, transcript_of, transcript_with}
use Rattle.standin_core.specs.declared.status.HelperStatus.{HelperStatus}
use Rattle.standin_core.specs.declared.status.HelperStatus.TheVariants.{Done, BadFrame, Usage, FileFault, FileTooLong, BadFile, Memory, ReadFault, WriteFault, TornEnd}
use Rattle.world_ports.specs.Causes.{Rose}
use Rattle.world_ports.specs.Streams.{OnlyWrites, StreamView, WritesPart}

-- ---- transcripts

pub transcript-usage : (words : List (List ℕ)) (held : List ℕ → Option (List ℕ))
    → words_of words ≡ None → (stream : List ℕ) → transcript_of words held stream ≡ ended Usage
unfolding transcript_of
transcript-usage words held none stream =
    ap (λ (w : Option ChildWords). transcript_with w held stream) none

-- by the hosts, or why there are none
transcript-hosts : (words : List (List ℕ)) (held : List ℕ → Option (List ℕ)) (read : ChildWords) (hosts : Result (List Host) HelperStatus)
    → words_of words ≡ Some read
    → hosts_at read.last held ≡ hosts → (stream : List ℕ) → transcript_of words held stream ≡ greeted read hosts stream
unfolding transcript_of
transcript-hosts words held read hosts of_words is stream =
    ap (λ (w : Option ChildWords). transcript_with w held stream) of_words ∙ ap (λ (h : Result (List Host) HelperStatus). greeted read h stream) is

pub transcript-talk : (words : List (List ℕ)) (held : List ℕ → Option (List ℕ)) (read : ChildWords) (hosts : List Host)
    → words_of words ≡ Some read
    → hosts_at read.last held ≡ Ok hosts → (stream : List ℕ) → transcript_of words held stream ≡ greeted read (Ok hosts) stream
transcript-talk words held read hosts of_words is =
    transcript-hosts words held read (Ok hosts) of_words is

pub transcript-fault : (words : List (List ℕ)) (held : List ℕ → Option (List ℕ)) (read : ChildWords) (why : HelperStatus)
    → words_of words ≡ Some read
    → hosts_at read.last held ≡ Err why → (stream : List ℕ) → transcript_of words held stream ≡ ended why
transcript-fault words held read why of_words is =
    transcript-hosts words held read (Err why) of_words is

-- ---- HELLO

-- HELLO is this frame, and then the stream is served
abbrev pub Greets : List Host → (List ℕ → Transcript) → List ℕ → Type 0
Greets hosts whole frame = (stream : List ℕ) → whole stream ≡ after frame (served hosts stream)

-- memory ran out
pub ends_ungreeted : (whole : List ℕ → Transcript) (start : StreamView)
    → Ends Memory whole start start
unfolding Ends
ends_ungreeted whole start = record {
  bytes = [];
  read = HasRead-nil start;
  sent = [];
  wrote = Appends-nil start.written;
  front = holds_of start.left [] (λ stream. IsFront [] (whole stream).sent) (λ more. record { more = (whole more).sent; is = refl });
}

-- the write failed
pub ends_half_greeted : (hosts : List Host) (whole : List ℕ → Transcript) (start new : StreamView) (frame out : List ℕ)
    → Greets hosts whole frame → out ≡ frame
    → WritesPart out start new → Rose start.write_faults new.write_faults → OnlyWrites start new → Ends WriteFault whole start new
unfolding Ends
ends_half_greeted hosts whole start new frame out greets is part rose only = record {
  early = record {
    bytes = [];
    read = HasRead-same start start new [] (HasRead-nil start) only.taken only.left;
    sent = part.1.front;
    wrote = part.1.written;
    front = holds_of new.left [] (λ stream. IsFront part.1.front (whole stream).sent) (λ more. record {
      more = part.0 ++ (served hosts more).sent;
      is =
          sym (append_assoc part.1.front part.0 (served hosts more).sent)
          ∙ ap (λ (f : List ℕ). f ++ (served hosts more).sent) (part.1.whole ∙ is) ∙ sym (ap (λ (t : Transcript). t.sent) (greets more));
    });
  };
  cause = rose;
  reads = only.read_faults;
}

-- it is sent
pub under_way-greeted : (hosts : List Host) (whole : List ℕ → Transcript) (start new : StreamView) (frame out : List ℕ)
    → Greets hosts whole frame → out ≡ frame
    → Appends start.written new.written out → new.write_faults ≡ start.write_faults → OnlyWrites start new → IsUnderWay hosts whole start new []
under_way-greeted hosts whole start new frame out greets is wrote same only = record {
  bytes = [];
  read = HasRead-same start start new [] (HasRead-nil start) only.taken only.left;
  sent = frame;
  wrote = subst (Appends start.written new.written) is wrote;
  goes = greets;
  reads = only.read_faults;
  writes = same;
}

-- ---- statuses

-- a talk says what its status says
pub answers_by : (status : HelperStatus) (words : List (List ℕ)) (old new : Seen)
    → EndsTalk status words old new → Answers status words old new
unfolding Ends
answers_by Done words old new talk = talk
answers_by BadFrame words old new talk = talk
answers_by Usage words old new talk = absurd talk.ends
answers_by FileFault words old new talk = absurd talk.ends
answers_by FileTooLong words old new talk = absurd talk.ends
answers_by BadFile words old new talk = absurd talk.ends
answers_by Memory words old new talk = inl talk
answers_by ReadFault words old new talk = talk
answers_by WriteFault words old new talk = talk
answers_by TornEnd words old new talk = talk

-- a talk ends for no reason that comes before it
pub no_usage : (status : HelperStatus) (whole : List ℕ → Transcript) (old new : StreamView)
    → Ends status whole old new → status ≡ Usage → ⊥
unfolding Ends
no_usage status whole old new ends is = subst (λ (s : HelperStatus). Ends s whole old new) is ends

pub no_file_fault : (status : HelperStatus) (whole : List ℕ → Transcript) (old new : StreamView)
    → Ends status whole old new → (status ≡ FileFault) ⊎ ((status ≡ FileTooLong) ⊎ (status ≡ BadFile)) → ⊥
unfolding Ends
no_file_fault status whole old new ends (inl is) =
    subst (λ (s : HelperStatus). Ends s whole old new) is ends
no_file_fault status whole old new ends (inr (inl is)) =
    subst (λ (s : HelperStatus). Ends s whole old new) is ends
no_file_fault status whole old new ends (inr (inr is)) =
    subst (λ (s : HelperStatus). Ends s whole old new) is ends
