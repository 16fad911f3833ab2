-- Lemmas on specs/Claims.antt and specs/Steps.antt: HELLO, and waiting for the agent's request.
use Rattle.std.proofs.Common.{◌≡◌, inl, ℕ, List, [], ◌++◌, Option, Some, None, Err, refl, ap, sym, ◌∙◌, subst, append_assoc}
use Rattle.std.proofs.lemmas.List.{append-nil}
use Rattle.std.proofs.KnownBytes.{Appends-nil}
use Rattle.std.specs.Io.KnownBytes.{Appends, Consumes}
use Rattle.child_peer.specs.Talk.{HasRead, IsFront}
use Rattle.child_peer.specs.Words.{ChildWords, words_of}
use Rattle.wire_text.specs.Bounds.{longest_to_child}
use Rattle.wire_text.proofs.SplitLemmas.{front_body-append}
use Rattle.child_peer.proofs.TalkLemmas.{holds_of, holds_at_end, Appends-same, HasRead-nil, HasRead-same}
use Rattle.relay_core.specs.Claims.{Answers, Ends, EndsBeforeRun, EndsUnasked, Relaying, Seen}
use Rattle.relay_core.specs.Prompts.{prompt_of}
use Rattle.relay_core.specs.Steps.{Asks, HearsFrame, HearsFront, IsGreeted, IsRelay}
use Rattle.relay_core.specs.Transcript.{RunAnswer, Transcript, asked_with, heard_from, heard_of, heard_with, hello_frame, only_greeted, program_in, program_of, refused, transcript_of, transcript_with, verdict_frame}
use Rattle.relay_core.specs.declared.status.RelayStatus.{RelayStatus}
use Rattle.relay_core.specs.declared.status.RelayStatus.TheVariants.{Done, BadFrame, Usage, Memory, ReadFault, WriteFault, TornEnd}
use Rattle.relay_core.proofs.AskLemmas.{seen}
use Rattle.wire_text.specs.Frames.{Front, Whole, Bad, More, front, front_body}
use Rattle.wire_text.proofs.FrontLemmas.{front-append_whole, front-append_bad}
use Rattle.world_ports.specs.Causes.{Rose}
use Rattle.world_ports.specs.Runs.{SpawnerView}
use Rattle.world_ports.specs.Streams.{OnlyReads, OnlyWrites, StreamView, WritesPart}

-- ---- what is sent begins with HELLO

begins_with_prompt : (words : ChildWords) (program : List ℕ) (prompt : Option (List ℕ)) (answer : RunAnswer)
    → IsFront (hello_frame words) (asked_with words program prompt answer).sent
begins_with_prompt words program (Some prompt) answer = record { more = verdict_frame words answer; is = refl }
begins_with_prompt words program None answer = record { more = []; is = append-nil (hello_frame words) }

begins_with : (words : ChildWords) (program : List ℕ) (found : Front) (stream : List ℕ) (answer : RunAnswer)
    → IsFront (hello_frame words) (heard_from words program found stream answer).sent
begins_with words program (Whole body_len) stream answer = begins_with_prompt words program (prompt_of words.job (front_body body_len stream)) answer
begins_with words program (Bad announced) stream answer = record { more = []; is = append-nil (hello_frame words) }
begins_with words program More stream answer = record { more = []; is = append-nil (hello_frame words) }

begins : (words : ChildWords) (program : List ℕ) (whole : Relaying) → IsRelay words program whole
    → (stream : List ℕ) (answer : RunAnswer)
    → IsFront (hello_frame words) (whole stream answer).sent
unfolding heard_of
begins words program whole is stream answer =
    subst (λ (t : Transcript). IsFront (hello_frame words) t.sent) (sym (is stream answer)) (begins_with words program (front longest_to_child stream) stream answer)

-- ---- HELLO

-- memory ran out
pub ends_ungreeted : (whole : Relaying) (spawner : SpawnerView) (start new : StreamView)
    → new ≡ start → Ends Memory whole (seen spawner start) (seen spawner new)
unfolding Ends
ends_ungreeted whole spawner start new same =
    subst (λ (peer : StreamView). Ends Memory whole (seen spawner start) (seen spawner peer)) (sym same)
    (inl (record {
      bytes = [];
      read = HasRead-nil start;
      sent = [];
      wrote = Appends-nil start.written;
      front = holds_of start.left [] (λ stream. (answer : RunAnswer) → IsFront [] (whole stream answer).sent) (λ more answer. record { more = (whole more answer).sent; is = refl });
      spawner = refl;
    }))

-- a part of a front is a front
part_of : (hello front rest all : List ℕ) → front ++ rest ≡ hello → IsFront hello all
    → IsFront front all
part_of hello front rest all is begins_so = record {
  more = rest ++ begins_so.more;
  is = sym (append_assoc front rest begins_so.more) ∙ ap (λ (h : List ℕ). h ++ begins_so.more) is ∙ begins_so.is;
}

-- the write failed
pub ends_half_greeted : (words : ChildWords) (program : List ℕ) (whole : Relaying) (spawner : SpawnerView) (start new : StreamView)
    → IsRelay words program whole
    → WritesPart (hello_frame words) start new → Rose start.write_faults new.write_faults → OnlyWrites start new → Ends WriteFault whole (seen spawner start) (seen spawner new)
unfolding Ends
ends_half_greeted words program whole spawner start new is part rose only = record {
  early = inl (record {
    bytes = [];
    read = HasRead-same start start new [] (HasRead-nil start) only.taken only.left;
    sent = part.1.front;
    wrote = part.1.written;
    front = holds_of new.left [] (λ stream. (answer : RunAnswer) → IsFront part.1.front (whole stream answer).sent) (λ more answer.
        part_of (hello_frame words) part.1.front part.0 (whole more answer).sent part.1.whole (begins words program whole is more answer));
    spawner = refl;
  });
  cause = rose;
  reads = only.read_faults;
}

-- ---- the agent's stream

-- HELLO was sent at `mid`, and what was read since
read_behind : (start mid new : StreamView) (bytes : List ℕ) → OnlyWrites start mid
    → HasRead mid new bytes → HasRead start new bytes
read_behind start mid new bytes only read = record {
  taken = subst (λ (t : Option (List ℕ)). Appends t new.taken bytes) only.taken read.taken;
  left = subst (λ (l : Option (List ℕ)). Consumes l new.left bytes) only.left read.left;
}

-- so far HELLO was sent, and no run made
before_run : (words : ChildWords) (program : List ℕ) (whole : Relaying) (spawner : SpawnerView) (start mid new : StreamView) (heard : List ℕ)
    → IsRelay words program whole
    → Appends start.written mid.written (hello_frame words) → OnlyWrites start mid → HasRead mid new heard → OnlyReads mid new → EndsBeforeRun whole (seen spawner start) (seen spawner new)
before_run words program whole spawner start mid new heard is wrote sent_only read read_only = record {
  bytes = heard;
  read = read_behind start mid new heard sent_only read;
  sent = hello_frame words;
  wrote = Appends-same start.written mid.written new.written (hello_frame words) wrote read_only.written;
  front = holds_of new.left heard (λ stream. (answer : RunAnswer) → IsFront (hello_frame words) (whole stream answer).sent) (λ more answer.
      begins words program whole is (heard ++ more) answer);
  spawner = refl;
}

-- the end without a run, where these bytes, whatever follows, are no request
unasked : (status : RelayStatus) (words : ChildWords) (program : List ℕ) (whole : Relaying) (spawner : SpawnerView) (start mid new : StreamView) (heard : List ℕ)
    → IsRelay words program whole
    → Appends start.written mid.written (hello_frame words) → mid.write_faults ≡ start.write_faults → OnlyWrites start mid → HasRead mid new heard → new.read_faults ≡ mid.read_faults → OnlyReads mid new
    → ((more : List ℕ) (answer : RunAnswer) → heard_of words program (heard ++ more) answer ≡ only_greeted words status)
    → EndsUnasked status whole (seen spawner start) (seen spawner new)
unasked status words program whole spawner start mid new heard is wrote writes sent_only read reads read_only none = record {
  bytes = heard;
  read = read_behind start mid new heard sent_only read;
  sent = hello_frame words;
  wrote = Appends-same start.written mid.written new.written (hello_frame words) wrote read_only.written;
  is = holds_of new.left heard (λ stream. (answer : RunAnswer) → whole stream answer ≡ only_greeted words status) (λ more answer.
      is (heard ++ more) answer ∙ none more answer);
  reads = reads ∙ sent_only.read_faults;
  writes = read_only.write_faults ∙ writes;
  spawner = refl;
}

heard-bad : (words : ChildWords) (program heard more : List ℕ) (announced : ℕ) (answer : RunAnswer)
    → front longest_to_child heard ≡ Bad announced
    → heard_of words program (heard ++ more) answer ≡ only_greeted words BadFrame
unfolding heard_of
heard-bad words program heard more announced answer found =
    ap (λ (f : Front). heard_from words program f (heard ++ more) answer) (front-append_bad longest_to_child heard more announced found)

heard-whole : (words : ChildWords) (program heard more : List ℕ) (body_len : ℕ) (answer : RunAnswer)
    → front longest_to_child heard ≡ Whole body_len
    → heard_of words program (heard ++ more) answer ≡ asked_with words program (prompt_of words.job (front_body body_len heard)) answer
unfolding heard_of
heard-whole words program heard more body_len answer found =
    ap (λ (f : Front). heard_from words program f (heard ++ more) answer) (front-append_whole longest_to_child heard more body_len found)
    ∙ ap (λ (b : List ℕ). asked_with words program (prompt_of words.job b) answer) (front_body-append longest_to_child heard more body_len found)

heard-more : (words : ChildWords) (program heard : List ℕ) (answer : RunAnswer)
    → front longest_to_child heard ≡ More
    → heard_of words program heard answer ≡ only_greeted words TornEnd
unfolding heard_of
heard-more words program heard answer found = ap (λ (f : Front). heard_from words program f heard answer) found

-- no whole frame came
pub ends_unheard : (status : RelayStatus) (words : ChildWords) (program : List ℕ) (whole : Relaying) (spawner : SpawnerView) (start mid new : StreamView) (heard : List ℕ)
    → IsRelay words program whole
    → Appends start.written mid.written (hello_frame words) → mid.write_faults ≡ start.write_faults → OnlyWrites start mid → HearsFrame (Err status) heard mid new → OnlyReads mid new
    → Ends status whole (seen spawner start) (seen spawner new)
unfolding Ends
ends_unheard Done words program whole spawner start mid new heard is wrote writes sent_only hears read_only = absurd hears
ends_unheard BadFrame words program whole spawner start mid new heard is wrote writes sent_only hears read_only =
    unasked BadFrame words program whole spawner start mid new heard is wrote writes sent_only hears.hears.read hears.hears.reads read_only
    (λ more answer. heard-bad words program heard more hears.announced answer hears.hears.is)
ends_unheard Usage words program whole spawner start mid new heard is wrote writes sent_only hears read_only = absurd hears
ends_unheard Memory words program whole spawner start mid new heard is wrote writes sent_only hears read_only =
    inl (before_run words program whole spawner start mid new heard is wrote sent_only hears read_only)
ends_unheard ReadFault words program whole spawner start mid new heard is wrote writes sent_only hears read_only = record {
  early = before_run words program whole spawner start mid new heard is wrote sent_only hears.read read_only;
  cause = subst (λ (n : ℕ). Rose n new.read_faults) sent_only.read_faults hears.cause;
  writes = read_only.write_faults ∙ writes;
}
ends_unheard WriteFault words program whole spawner start mid new heard is wrote writes sent_only hears read_only = absurd hears
ends_unheard TornEnd words program whole spawner start mid new heard is wrote writes sent_only hears read_only = record {
  bytes = heard;
  read = read_behind start mid new heard sent_only hears.hears.read;
  sent = hello_frame words;
  wrote = Appends-same start.written mid.written new.written (hello_frame words) wrote read_only.written;
  is = holds_at_end new.left heard (λ stream. (answer : RunAnswer) → whole stream answer ≡ only_greeted words TornEnd) hears.end (λ answer.
      is heard answer ∙ heard-more words program heard answer hears.hears.is);
  reads = hears.hears.reads ∙ sent_only.read_faults;
  writes = read_only.write_faults ∙ writes;
  spawner = refl;
}

-- a frame came that asks for nothing
pub ends_unprompted : (words : ChildWords) (program : List ℕ) (whole : Relaying) (spawner : SpawnerView) (start mid new : StreamView) (heard : List ℕ) (body_len : ℕ)
    → IsRelay words program whole
    → Appends start.written mid.written (hello_frame words) → mid.write_faults ≡ start.write_faults → OnlyWrites start mid → HearsFront (Whole body_len) heard mid new → OnlyReads mid new
    → prompt_of words.job (front_body body_len heard) ≡ None → Ends BadFrame whole (seen spawner start) (seen spawner new)
unfolding Ends
ends_unprompted words program whole spawner start mid new heard body_len is wrote writes sent_only hears read_only none =
    unasked BadFrame words program whole spawner start mid new heard is wrote writes sent_only hears.read hears.reads read_only (λ more answer.
    heard-whole words program heard more body_len answer hears.is ∙ ap (λ (p : Option (List ℕ)). asked_with words program p answer) none)

-- a request came
pub greeted : (words : ChildWords) (start mid new : StreamView) (heard : List ℕ) (body_len : ℕ)
    → Appends start.written mid.written (hello_frame words) → mid.write_faults ≡ start.write_faults
    → OnlyWrites start mid → HearsFront (Whole body_len) heard mid new → OnlyReads mid new → IsGreeted words heard start new
greeted words start mid new heard body_len wrote writes sent_only hears read_only = record {
  read = read_behind start mid new heard sent_only hears.read;
  wrote = Appends-same start.written mid.written new.written (hello_frame words) wrote read_only.written;
  reads = hears.reads ∙ sent_only.read_faults;
  writes = read_only.write_faults ∙ writes;
}

pub asks : (words : ChildWords) (program prompt : List ℕ) (whole : Relaying) (mid new : StreamView) (heard : List ℕ) (body_len : ℕ)
    → IsRelay words program whole
    → HearsFront (Whole body_len) heard mid new → prompt_of words.job (front_body body_len heard) ≡ Some prompt
    → Asks whole words heard (record { program = program; word = prompt })
asks words program prompt whole mid new heard body_len is hears some = record {
  goes = λ more answer.
      is (heard ++ more) answer ∙ heard-whole words program heard more body_len answer hears.is
      ∙ ap (λ (p : Option (List ℕ)). asked_with words program p answer) some;
}

-- ---- the words

pub transcript-refused : (words : List (List ℕ)) → program_of words ≡ None
    → (stream : List ℕ) (answer : RunAnswer) → transcript_of words stream answer ≡ refused
unfolding transcript_of
transcript-refused words none stream answer = by_words (words_of words) none
  where
    by_program : (read : ChildWords) (program : Option (List ℕ)) → program ≡ None
        → heard_with read program stream answer ≡ refused
    by_program read program is = ap (λ (p : Option (List ℕ)). heard_with read p stream answer) is

    by_words : (read : Option ChildWords) → program_in read ≡ None
        → transcript_with read stream answer ≡ refused
    by_words None is = refl
    by_words (Some read) is = by_program read read.last is

pub transcript-relay : (words : List (List ℕ)) (read : ChildWords) (program : List ℕ)
    → words_of words ≡ Some read → read.last ≡ Some program
    → IsRelay read program (transcript_of words)
unfolding transcript_of
transcript-relay words read program of_words named stream answer =
    ap (λ (w : Option ChildWords). transcript_with w stream answer) of_words ∙ ap (λ (p : Option (List ℕ)). heard_with read p stream answer) named

-- a talk says what its status says
pub answers_by : (status : RelayStatus) (words : List (List ℕ)) (old new : Seen)
    → Ends status (transcript_of words) old new → Answers status words old new
unfolding Ends
answers_by Done words old new ends = ends
answers_by BadFrame words old new ends = ends
answers_by Usage words old new ends = absurd ends
answers_by Memory words old new ends = ends
answers_by ReadFault words old new ends = ends
answers_by WriteFault words old new ends = ends
answers_by TornEnd words old new ends = ends

-- a talk ends for no reason that comes before it
pub no_usage : (status : RelayStatus) (whole : Relaying) (old new : Seen)
    → Ends status whole old new → status ≡ Usage → ⊥
unfolding Ends
no_usage status whole old new ends is = subst (λ (s : RelayStatus). Ends s whole old new) is ends
