-- Lemmas on specs/Claims.antt: the run, and what the agent is told of it.
use Rattle.std.proofs.Common.{◌≡◌, inr, ℕ, Bool, List, ◌++◌, Some, None, refl, ap, sym, ◌∙◌, subst, append_assoc}
use Rattle.std.proofs.KnownBytes.{Appends-trans}
use Rattle.std.specs.Io.KnownBytes.{Appends}
use Rattle.child_msg.specs.ChildFrames.{from_child_body}
use Rattle.child_peer.specs.Words.{ChildWords}
use Rattle.child_peer.proofs.TalkLemmas.{holds_of, HasRead-same}
use Rattle.relay_core.specs.Claims.{Ends, EndsAfterRun, HasRun, GoesSoFar, Relaying, Seen}
use Rattle.relay_core.specs.Steps.{Asks, Consults, IsGreeted}
use Rattle.relay_core.specs.Transcript.{Asking, RunAnswer, Transcript, hello_frame, is_granted, verdict_frame, verdict_message}
use Rattle.relay_core.specs.declared.status.RelayStatus.TheVariants.{Done, Memory, WriteFault}
use Rattle.wire_text.specs.Wire.{string}
use Rattle.world_ports.specs.Causes.{Rose}
use Rattle.world_ports.specs.Runs.{SpawnerView}
use Rattle.world_ports.specs.Streams.{OnlyWrites, StreamView, WritesPart}

-- what was told at one time
abbrev pub seen : SpawnerView → StreamView → Seen
seen spawner peer = record { spawner = spawner; peer = peer }

-- this much of what is sent was sent
goes_so_far : (whole : Relaying) (words : ChildWords) (heard : List ℕ) (asked : Asking) (sent rest : List ℕ) (answer : RunAnswer)
    → Asks whole words heard asked
    → sent ++ rest ≡ hello_frame words ++ verdict_frame words answer → (more : List ℕ) → GoesSoFar asked sent (whole (heard ++ more) answer)
goes_so_far whole words heard asked sent rest answer asks is more = record {
  run = ap (λ (t : Transcript). t.asked) (asks.goes more answer);
  front = record { more = rest; is = is ∙ sym (ap (λ (t : Transcript). t.sent) (asks.goes more answer)) };
}

-- a run was made, and HELLO was sent
after_run : (whole : Relaying) (words : ChildWords) (heard : List ℕ) (asked : Asking) (answer : RunAnswer) (old new : SpawnerView) (start now : StreamView)
    → IsGreeted words heard start now → Asks whole words heard asked → HasRun asked answer old new → EndsAfterRun whole (seen old start) (seen new now)
after_run whole words heard asked answer old new start now greeted asks run = record {
  asked = asked;
  answer = answer;
  run = run;
  bytes = heard;
  read = greeted.read;
  sent = hello_frame words;
  wrote = greeted.wrote;
  so_far = holds_of now.left heard (λ stream. GoesSoFar asked (hello_frame words) (whole stream answer))
      (goes_so_far whole words heard asked (hello_frame words) (verdict_frame words answer) answer asks refl);
}

-- memory ran out in the run
pub ends_in_run : (whole : Relaying) (words : ChildWords) (heard : List ℕ) (asked : Asking) (old new : SpawnerView) (start now : StreamView)
    → IsGreeted words heard start now → Asks whole words heard asked → Consults None asked old new → Ends Memory whole (seen old start) (seen new now)
unfolding Ends
ends_in_run whole words heard asked old new start now greeted asks consults =
    inr (after_run whole words heard asked consults.answer old new start now greeted asks consults.run)

-- memory ran out behind it
pub ends_behind_run : (whole : Relaying) (words : ChildWords) (heard : List ℕ) (asked : Asking) (granted : Bool) (old new : SpawnerView) (start now later : StreamView)
    → IsGreeted words heard start now → Asks whole words heard asked → Consults (Some granted) asked old new → later ≡ now → Ends Memory whole (seen old start) (seen new later)
unfolding Ends
ends_behind_run whole words heard asked granted old new start now later greeted asks consults same =
    subst (λ (peer : StreamView). Ends Memory whole (seen old start) (seen new peer)) (sym same)
    (inr (after_run whole words heard asked consults.answer old new start now greeted asks consults.run))

-- the frame that tells the agent
told_frame : (words : ChildWords) (answer : RunAnswer) (granted : Bool)
    → granted ≡ is_granted answer
    → string (from_child_body (verdict_message words.job granted)) ≡ verdict_frame words answer
told_frame words answer granted is = ap (λ (g : Bool). string (from_child_body (verdict_message words.job g))) is

-- the agent was told
pub ends_told : (whole : Relaying) (words : ChildWords) (heard : List ℕ) (asked : Asking) (granted : Bool) (old new : SpawnerView) (start now later : StreamView)
    → IsGreeted words heard start now → Asks whole words heard asked → Consults (Some granted) asked old new
    → Appends now.written later.written (string (from_child_body (verdict_message words.job granted))) → later.write_faults ≡ now.write_faults → OnlyWrites now later
    → Ends Done whole (seen old start) (seen new later)
unfolding Ends
ends_told whole words heard asked granted old new start now later greeted asks consults wrote same only = record {
  asked = asked;
  answer = consults.answer;
  run = consults.run;
  ended = consults.says.0;
  bytes = heard;
  read = HasRead-same start now later heard greeted.read only.taken only.left;
  sent = hello_frame words ++ verdict_frame words consults.answer;
  wrote = Appends-trans start.written now.written later.written (hello_frame words) (verdict_frame words consults.answer) greeted.wrote
      (subst (Appends now.written later.written) (told_frame words consults.answer granted consults.says.1) wrote);
  is = holds_of later.left heard (λ stream. whole stream consults.answer ≡ record {
    sent = hello_frame words ++ verdict_frame words consults.answer;
    asked = Some asked;
    status = Done;
  }) (λ more. asks.goes more consults.answer);
  reads = only.read_faults ∙ greeted.reads;
  writes = same ∙ greeted.writes;
}

-- the agent was told in part
pub ends_half_told : (whole : Relaying) (words : ChildWords) (heard : List ℕ) (asked : Asking) (granted : Bool) (old new : SpawnerView) (start now later : StreamView)
    → IsGreeted words heard start now → Asks whole words heard asked → Consults (Some granted) asked old new
    → WritesPart (string (from_child_body (verdict_message words.job granted))) now later → Rose now.write_faults later.write_faults → OnlyWrites now later
    → Ends WriteFault whole (seen old start) (seen new later)
unfolding Ends
ends_half_told whole words heard asked granted old new start now later greeted asks consults part rose only =
    let hello = hello_frame words in
    record {
      early = inr (record {
        asked = asked;
        answer = consults.answer;
        run = consults.run;
        bytes = heard;
        read = HasRead-same start now later heard greeted.read only.taken only.left;
        sent = hello ++ part.1.front;
        wrote = Appends-trans start.written now.written later.written hello part.1.front greeted.wrote part.1.written;
        so_far = holds_of later.left heard (λ stream. GoesSoFar asked (hello ++ part.1.front) (whole stream consults.answer))
            (goes_so_far whole words heard asked (hello ++ part.1.front) part.0 consults.answer asks
            (append_assoc hello part.1.front part.0 ∙ ap (λ (f : List ℕ). hello ++ f) (part.1.whole ∙ told_frame words consults.answer granted consults.says.1)));
      });
      cause = subst (λ (n : ℕ). Rose n later.write_faults) greeted.writes rose;
      reads = only.read_faults ∙ greeted.reads;
    }
