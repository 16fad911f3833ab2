use Rattle.std.proofs.Common.{◌≡◌, ◌++◌, List, ℕ, length, ap, sym, ◌∙◌, append_assoc, arith}
use Rattle.std.proofs.lemmas.List.{append-nil}
use Rattle.std.specs.List.{flat_map}
use Rattle.agent_model.specs.Events.{Timed, Took}
use Rattle.agent_model.specs.Runs.{run}
use Rattle.agent_model.specs.State.{State, owed_of}
use Rattle.replay_run.specs.Settling.{after_event, at_moment, delivered, settled, takings}
use Rattle.replay_run.specs.Told.{Came, told_from}
use Rattle.replay_run.proofs.SettlingLemmas.{delivered_lowers, owed_some, takings_none, takings_some}
use Rattle.replay_run.proofs.settle.settle.Goals as goal

pub step-requires : goal.step-requires
step-requires g c =
    let some = owed_some c.args.held.now c.in-Some.port c.takings.agent.state c.in-Some.ensures.steady (sym c.in-Some.ensures.next) in
    let all = ap (λ (b : List ℕ). length b) c.owed-count.ensures in
    (omega (arith, some, all), omega (arith, all))

pub takings-smaller : goal.takings-smaller
takings-smaller g c =
    let moment = c.args.moment in
    let port = c.in-Some.port in
    let state = c.takings.agent.state in
    let agent_is : c.step.new.agent.state ≡ delivered moment port state =
    c.in_ok-step.ensures.agent ∙ ap (λ (b : List ℕ). after_event moment state (Took port (length b))) c.owed-count.ensures in
    rw agent_is (delivered_lowers moment c.args.held.now port state c.in-Some.ensures.steady (sym c.in-Some.ensures.next))

pub takings-preserved : goal.takings-preserved
takings-preserved g c =
    let moment = c.args.moment in
    let line = c.args.line in
    let held = c.args.held.now in
    let port = c.in-Some.port in
    let state = c.takings.agent.state in
    let noted = g.W.Watch.notes c.takings.watch in
    let notes_of = g.W.Watch.notes_of in
    let after = delivered moment port state in
    let next = takings_some moment held port state c.in-Some.ensures.steady (sym c.in-Some.ensures.next) in
    let agent_is : c.step.new.agent.state ≡ after =
    c.in_ok-step.ensures.agent ∙ ap (λ (b : List ℕ). after_event moment state (Took port (length b))) c.owed-count.ensures in
    let first = notes_of (Came line state (at_moment moment (Took port (length (owed_of port state))))) in
    let notes_is : g.W.Watch.notes c.step.new.self ≡ noted ++ first =
    c.in_ok-step.ensures.notes ∙ ap (λ (b : List ℕ). noted ++ notes_of (Came line state (at_moment moment (Took port (length b))))) c.owed-count.ensures in
    let later = flat_map notes_of (told_from line after (takings moment held after)) in
    record {
      agent =
          ap (λ (s : State). settled moment held s) agent_is
          ∙ sym (ap (run state) next)
          ∙ c.takings.invariant.agent;
      notes =
          ap (λ (s : State). g.W.Watch.notes c.step.new.self ++ flat_map notes_of (told_from line s (takings moment held s))) agent_is
          ∙ ap (λ n. n ++ later) notes_is
          ∙ append_assoc noted first later
          ∙ sym (ap (λ (events : List Timed). noted ++ flat_map notes_of (told_from line state events)) next)
          ∙ c.takings.invariant.notes;
    }

pub returns-clause-agent : goal.returns-clause-agent
returns-clause-agent g c =
    let state = c.takings.agent.state in
    sym (ap (run state) (takings_none c.args.moment c.args.held.now state (sym c.in_default.ensures.next)))
    ∙ c.takings.invariant.agent

pub returns-clause-notes : goal.returns-clause-notes
returns-clause-notes g c =
    let state = c.takings.agent.state in
    let noted = g.W.Watch.notes c.takings.watch in
    sym (append-nil noted)
    ∙ sym (ap (λ (events : List Timed). noted ++ flat_map g.W.Watch.notes_of (told_from c.args.line state events))
    (takings_none c.args.moment c.args.held.now state (sym c.in_default.ensures.next)))
    ∙ c.takings.invariant.notes
