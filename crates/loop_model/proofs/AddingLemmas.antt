-- What becomes ready goes behind the queue, or is set aside.
use Rattle.std.proofs.Common.{◌≡◌, ◌∙◌, ℕ, Bool, true, false, List, [], ◌∷◌, ◌++◌, Option, Some, None, refl, sym, ap, append_assoc, ◌&&◌, if◌then◌else◌}
use Rattle.std.proofs.lemmas.List.{append-nil}
use Rattle.world_ports.specs.declared.answers.Ready.{Ready}
use Rattle.world_ports.specs.declared.answers.Spot.{Spot}
use Rattle.world_ports.specs.declared.answers.Spot.TheVariants as spot
use Rattle.agent_model.specs.State.{State, is_open}
use Rattle.loop_model.specs.Aside.{put_aside}
use Rattle.loop_model.specs.Elsewhere.{stands}
use Rattle.loop_model.specs.Servable.{is_servable}
use Rattle.loop_model.specs.declared.thing.Thing.{Thing}
use Rattle.loop_model.specs.declared.thing.Thing.TheVariants.{Accept, Read, Write}
use Rattle.loop_model.specs.Lines.{Line, hot_of, placed, queued, queued_all, queued_by, queued_if, queued_port, returned}

-- the queue has more behind it
pub record Adds (before after : Line) : Type 0 where
  pub news : List Thing
  pub queue : after.queue ≡ before.queue ++ news

pub adds-none : (line : Line) → Adds line line
adds-none line = record { news = []; queue = sym (append-nil line.queue) }

adds_both : (first second third : Line) → Adds first second → Adds second third → Adds first third
adds_both first second third one other = record {
  news = one.news ++ other.news;
  queue = other.queue ∙ ap (λ (ts : List Thing). ts ++ other.news) one.queue
      ∙ append_assoc first.queue one.news other.news;
}

placed_by : (able : Bool) (thing : Thing) (line : Line)
    → Adds line (if able then record line { queue = line.queue ++ thing ∷ [] } else record line { aside = put_aside thing line.aside })
placed_by true thing line = record { news = thing ∷ []; queue = refl }
placed_by false thing line = record { news = []; queue = sym (append-nil line.queue) }

pub adds-placed : (state : State) (thing : Thing) (line : Line)
    → Adds line (placed state thing line)
adds-placed state thing line = placed_by (is_servable state thing) thing line

queued_by_hot : (there : Bool) (state : State) (thing : Thing) (line : Line)
    → Adds line (if there then line else placed state thing line)
queued_by_hot true state thing line = adds-none line
queued_by_hot false state thing line = adds-placed state thing line

pub adds-queued : (state : State) (thing : Thing) (line : Line)
    → Adds line (queued state thing line)
adds-queued state thing line = queued_by_hot (hot_of line thing) state thing line

adds-queued_if : (test : Bool) (state : State) (thing : Thing) (line : Line)
    → Adds line (queued_if test state thing line)
adds-queued_if true state thing line = adds-queued state thing line
adds-queued_if false state thing line = adds-none line

-- both directions of a connection
pub adds-queued_port : (state : State) (port : ℕ) (line : Line)
    → Adds line (queued_port state port line)
adds-queued_port state port line =
    adds_both line (queued state (Read port) line) (queued_port state port line)
    (adds-queued state (Read port) line) (adds-queued state (Write port) (queued state (Read port) line))

adds-queued_by : (state : State) (at : Spot) (readable writable : Bool) (line : Line)
    → Adds line (queued_by state at readable writable line)
adds-queued_by state (spot.Door door) readable writable line =
    adds-queued_if readable state (Accept door) line
adds-queued_by state (spot.Port port) readable writable line =
    let mid = queued_if (readable && is_open port state) state (Read port) line in
    adds_both line mid (queued_if (writable && is_open port state) state (Write port) mid)
    (adds-queued_if (readable && is_open port state) state (Read port) line)
    (adds-queued_if (writable && is_open port state) state (Write port) mid)

-- what a poll tells of
pub adds-queued_all : (state : State) (items : List Ready) (line : Line)
    → Adds line (queued_all state items line)
adds-queued_all state [] line = adds-none line
adds-queued_all state (item ∷ items) line =
    let mid = queued_by state item.spot item.readable item.writable line in
    adds_both line mid (queued_all state items mid)
    (adds-queued_by state item.spot item.readable item.writable line) (adds-queued_all state items mid)

-- what was served
returned_by : (there : Bool) (state : State) (thing : Thing) (line : Line)
    → Adds line (if there then placed state thing line else line)
returned_by true state thing line = adds-placed state thing line
returned_by false state thing line = adds-none line

pub adds-returned : (state : State) (hand : Option Thing) (line : Line)
    → Adds line (returned state hand line)
adds-returned state None line = adds-none line
adds-returned state (Some thing) line = returned_by (stands thing state) state thing line
