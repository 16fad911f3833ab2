-- The run of a record, from the first event to the last.
use Rattle.std.proofs.Common.{◌≡◌, ℕ, ◌<◌, ◌^◌, List, [], ◌∷◌, ◌++◌, length, refl, sym, subst, arith, Bool, true, false, Option, Some, None}
use Rattle.world_ports.specs.declared.Door.{Door}
use Rattle.world_ports.specs.declared.Door.TheVariants.{Clients, Children}
use Rattle.wire_text.specs.Bounds.{longest_body}
use Rattle.wire_text.specs.Frames.{split}
use Rattle.record_world.specs.Recording.{Port as Kept, Recording, client_taken, find_port as find_kept, heard as kept_heard, taken_by}
use Rattle.agent_model.specs.Events.{Happening, Timed, Joined, Heard, Ended, Took, Started, StartFailed, Tick}
use Rattle.agent_model.specs.Runs.{AllFit}
use Rattle.agent_model.specs.State.{Settings, State, first_state}
use Rattle.agent_model.specs.Step.{step}
use Rattle.agent_model.specs.Time.{GiveTime}
use Rattle.agent_model.proofs.RunLemmas.{first_is_sound}
use Rattle.agent_secrecy.specs.Pieces.{AreOfBytes}
use Rattle.replay_laws.specs.Lines.{lines_of}
use Rattle.replay_laws.specs.Naming.{IsFrontOf, name_in}
use Rattle.replay_laws.specs.Redacting.{IsRenaming}
use Rattle.replay_laws.specs.Replaying.{AreRead, EachReplays, Replay, Replays, first_replay, recording_of, replayed, told_of}
use Rattle.replay_laws.specs.Telling.{told_bytes}
use Rattle.replay_laws.proofs.EventLemmas.{moment-told}
use Rattle.replay_laws.proofs.FollowLemmas.{Follow}
use Rattle.replay_laws.proofs.KeepLemmas.{all_grow, front_same, front_then, passphrases_of}
use Rattle.replay_laws.proofs.NameLemmas.{names_rename}
use Rattle.replay_laws.proofs.HeardLemmas.{event_comes}

-- ---- passphrases are noted one behind the other

client_grows : (is_bad : Bool) (port : Kept) (piece : List ℕ) (early : List (List ℕ))
    → IsFrontOf early (client_taken is_bad port piece early).passphrases
client_grows true port piece early = front_same early
client_grows false port piece early =
    let cut = split longest_body (port.unrecorded ++ piece) in
    subst (IsFrontOf early) (sym (passphrases_of [] cut port early)) (all_grow cut.bodies early)

taken_grows : (door : Door) (port : Kept) (piece : List ℕ) (early : List (List ℕ))
    → IsFrontOf early (taken_by door port piece early).passphrases
taken_grows Clients port piece early = client_grows port.is_bad port piece early
taken_grows Children port piece early = front_same early

heard_grows : (found : Option Kept) (piece : List ℕ) (recording : Recording)
    → IsFrontOf recording.passphrases (kept_heard found piece recording).kept.passphrases
heard_grows None piece recording = front_same recording.passphrases
heard_grows (Some port) piece recording = taken_grows port.door port piece recording.passphrases

lines_grow : (event : Happening) (last : ℕ) (recording : Recording)
    → IsFrontOf recording.passphrases (lines_of event last recording).kept.passphrases
lines_grow (Joined door) last recording = front_same recording.passphrases
lines_grow (Heard number piece) last recording =
    heard_grows (find_kept number recording.ports) piece recording
lines_grow (Ended number) last recording = front_same recording.passphrases
lines_grow (Took number count) last recording = front_same recording.passphrases
lines_grow (Started job ticket) last recording = front_same recording.passphrases
lines_grow (StartFailed job) last recording = front_same recording.passphrases
lines_grow Tick last recording = front_same recording.passphrases

recording_grows : (replay : Replay) (events : List Timed)
    → IsFrontOf replay.recording.passphrases (recording_of replay events).passphrases
recording_grows replay [] = front_same replay.recording.passphrases
recording_grows replay (timed ∷ later) =
    front_then replay.recording.passphrases (told_of timed replay).kept.passphrases
    (recording_of replay (timed ∷ later)).passphrases
    (lines_grow timed.event replay.last_port replay.recording) (recording_grows (replayed timed replay) later)

-- ---- all events

module _ (all : List (List ℕ)) (few : length all < 2 ^ 64) (renaming : IsRenaming (name_in all)) where
  run_replays : (events : List Timed) (state : State) (replay : Replay) → Follow all state replay
      → AllFit state events → AreOfBytes events → AreRead events → (recording_of replay events).passphrases ≡ all
      → Replays state replay events
  run_replays [] state replay follow fit bytes read is = tt
  run_replays (timed ∷ later) state replay follow fit bytes read is =
      let grown =
      subst (IsFrontOf (told_of timed replay).kept.passphrases) is (recording_grows (replayed timed replay) later) in
      let comes =
      event_comes all few renaming timed.moment state replay follow timed.event fit.0 bytes.0 read.0 grown in
      (comes.fit, comes.looks, run_replays later (step state timed.moment timed.event).state (replayed timed replay) comes.follows fit.1 bytes.1 read.1 is)

  -- nothing came yet
  first_follow : (settings : Settings) → GiveTime settings.limits
      → Follow all (first_state settings) (first_replay settings)
  first_follow settings time = record {
    alike =
        λ moment. moment-told (name_in all) renaming (told_bytes (name_in all)) moment (first_state settings) (first_state settings) refl;
    ports = refl;
    steady = record { rising = omega arith; order = omega arith };
    other_steady = record { rising = omega arith; order = omega arith };
    sound = first_is_sound settings;
    other_sound = first_is_sound settings;
    time = time;
    none_due = λ number port found client. absurd (cc);
    last = refl;
    grown = record { later = all; whole = refl };
    tracked = λ number port found. absurd (cc);
    none = λ number above. refl;
  }

pub each_replays : EachReplays
each_replays settings events recorded =
    let all = (recording_of (first_replay settings) events).passphrases in
    let renaming = names_rename all recorded.passphrases in
    run_replays all recorded.passphrases renaming events (first_state settings) (first_replay settings)
    (first_follow all recorded.passphrases renaming settings recorded.limits) recorded.fit recorded.bytes recorded.read refl
