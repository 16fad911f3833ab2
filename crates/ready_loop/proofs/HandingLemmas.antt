-- What is served stands first, and is taken in hand.
use Rattle.std.proofs.Common.{◌≡◌, ◌∙◌, ℕ, false, [], Option, Some, None, Ok, is_some, refl, sym, not, ◌||◌}
use Rattle.world_ports.specs.declared.answers.Accepted.TheVariants as accepted
use Rattle.world_ports.specs.declared.entry.Entry.TheVariants as entry
use Rattle.world_ports.specs.declared.events.Door.{Door}
use Rattle.agent_model.specs.State.{Port, State, UnderWay, find_port, is_client, is_some_bytes, owed_by, starts, wants_by}
use Rattle.loop_model.specs.Dues.{Free}
use Rattle.loop_model.specs.LegalJournal.{after_entry, in_state}
use Rattle.loop_model.specs.Lines.{IsOrdered, Line, hot_of, in_hand, queued_port}
use Rattle.loop_model.specs.Queues.{first_servable}
use Rattle.loop_model.specs.Things.{same_thing, set_of}
use Rattle.loop_model.specs.declared.thing.Thing.{Thing}
use Rattle.loop_model.specs.declared.thing.Thing.TheVariants.{Accept, Read, Write}
use Rattle.loop_model.proofs.AddingLemmas.{Adds, adds-queued_port}
use Rattle.loop_model.proofs.AsideLemmas.{set_of-filter}
use Rattle.loop_model.proofs.QuietLemmas.{ordered_taken}
use Rattle.loop_model.proofs.TestLemmas.{and_both}
use Rattle.ready_loop.specs.Standing.{IsAt, IsFront}
use Rattle.ready_loop.proofs.CallLemmas.{accept-any}
use Rattle.ready_loop.proofs.HandLemmas.{cold-queued_port}
use Rattle.ready_loop.proofs.LineLemmas.{first-front}

pub front-next : (state : State) (line : Line) (thing : Thing) → IsOrdered state line
    → first_servable state line.queue ≡ Some thing → IsFront thing line.queue
front-next state line thing ordered found = first-front state line.queue thing ordered.listed found

pub ordered-in_hand : (state : State) (line : Line) (thing : Thing) → IsOrdered state line
    → IsOrdered state (in_hand thing line)
ordered-in_hand state line thing ordered = record {
  listed = λ other there.
      ordered.listed other
      (and_both (set_of line.queue other) (not (same_thing thing other))
      (sym (set_of-filter (λ third. not (same_thing thing third)) line.queue other) ∙ there)).0;
  quiet = ordered.quiet;
}

-- what is at a port can't be served once it is closed
none_wants : (found : Option Port) → is_some found ≡ false → wants_by found ≡ false
none_wants None closed = refl
none_wants (Some at) closed = absurd (cc)

none_owed : (found : Option Port) (u : UnderWay) → is_some found ≡ false
    → is_some_bytes (owed_by found u) ≡ false
none_owed None u closed = refl
none_owed (Some at) u closed = absurd (cc)

pub read-at : (port : ℕ) → IsAt port (Read port)
read-at port state closed = none_wants (find_port port state.ports) closed

pub write-at : (port : ℕ) → IsAt port (Write port)
write-at port state closed = none_owed (find_port port state.ports) state.under_way closed

-- ---- a connection was accepted

-- both its directions are ready, and the listener isn't
abbrev pub joined_line : State → Door → ℕ → Line → Line
joined_line state door number line =
    record (queued_port state number line) { joined = is_client door || line.joined }

pub adds-joined : (state : State) (door : Door) (number : ℕ) (line : Line)
    → Adds line (joined_line state door number line)
adds-joined state door number line =
    let adds = adds-queued_port state number line in
    record { news = adds.news; queue = adds.queue }

pub cold-joined : (state : State) (door : Door) (number : ℕ) (line : Line)
    → hot_of line (Accept door) ≡ false
    → hot_of (joined_line state door number line) (Accept door) ≡ false
cold-joined state door number line cold = cold-queued_port state number door line cold

pub ordered-joined : (state : State) (door : Door) (number : ℕ) (line : Line) → IsOrdered state line
    → starts state ≡ [] → first_servable state line.queue ≡ Some (Accept door)
    → IsOrdered state (joined_line state door number (in_hand (Accept door) line))
ordered-joined state door number line ordered none found =
    let next = entry.Accept door (Ok (accepted.Port number)) in
    let from = in_state state line Free in
    let both : IsOrdered (after_entry from next).state (after_entry from next).line =
    ordered_taken from (after_entry from next) next (accept-any state line door (Ok (accepted.Port number)) none found) ordered in
    both
