use Rattle.std.proofs.Common.{◌≡◌, ◌∙◌, ◌||◌, ◌∷◌, ◌++◌, [], ℕ, Bool, true, false, if◌then◌else◌, ap, refl, sym}
use Rattle.agent_model.specs.State.{State, is_client}
use Rattle.loop_model.specs.Aside.{put_aside}
use Rattle.loop_model.specs.Lines.{Line, hot_of, queued, queued_port}
use Rattle.loop_model.specs.Servable.{is_servable}
use Rattle.loop_model.specs.declared.thing.Thing.{Thing}
use Rattle.loop_model.specs.declared.thing.Thing.TheVariants.{Read, Write}
use Rattle.ready_loop.specs.contracts.queue.Queue.{the_view}
use Rattle.ready_loop.proofs.queue.Queue.accept.Goals as goal
use Rattle.ready_loop.proofs.queue.Queue.accept.Goals.{then-is_client_door, else-is_client_door}

-- what is queued leaves whether a client has connected
placed-joined : (hot can : Bool) (thing : Thing) (line : Line)
    → (if hot then line else (if can then record line { queue = line.queue ++ thing ∷ [] }
    else record line { aside = put_aside thing line.aside })).joined ≡ line.joined
placed-joined true can thing line = refl
placed-joined false true thing line = refl
placed-joined false false thing line = refl

queued-joined : (state : State) (thing : Thing) (line : Line) → (queued state thing line).joined ≡ line.joined
queued-joined state thing line = placed-joined (hot_of line thing) (is_servable state thing) thing line

port-joined : (state : State) (port : ℕ) (line : Line) → (queued_port state port line).joined ≡ line.joined
port-joined state port line =
    queued-joined state (Write port) (queued state (Read port) line) ∙ queued-joined state (Read port) line

pub returns : goal.returns
returns g c =
    let state = g.A.Core.state c.args.agent.now in
    let line : the_view c.self.inside ≡ queued_port state c.args.port c.args.self.now =
    c.self.view_is ∙ c.in_ok-add-2.ensures ∙ ap (queued state (Write c.args.port)) c.in_ok-add.ensures in
    let was : c.self.inside.joined ≡ c.args.self.now.joined =
    ap (λ (one : Line). one.joined) line ∙ port-joined state c.args.port c.args.self.now in
    let joined : c.if-is_client_door.self ≡ (is_client c.args.door || c.args.self.now.joined) =
    elim c.if-is_client_door.branch [
      | then-is_client_door w ↦ w.self-is ∙ w.if-is_client_door.true
          ∙ ap (λ (one : Bool). one || c.args.self.now.joined) (sym w.if-is_client_door.true ∙ c.is_client_door.ensures)
      | else-is_client_door w ↦ w.self-is ∙ was
          ∙ ap (λ (one : Bool). one || c.args.self.now.joined) (sym w.if-is_client_door.false ∙ c.is_client_door.ensures)
    ] in
    ap (λ (one : Line). record one { joined = c.if-is_client_door.self }) line
    ∙ ap (λ (one : Bool). record (queued_port state c.args.port c.args.self.now) { joined = one }) joined
