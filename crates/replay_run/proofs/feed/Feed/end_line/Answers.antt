use Rattle.std.proofs.Common.{◌≡◌, ◌+◌, ◌++◌, ℕ, List, [], length, refl, ap, sym, ◌∙◌, subst, arith}
use Rattle.replay_run.specs.Counts.{IsCounted}
use Rattle.replay_run.specs.Feeding.{Feeding}
use Rattle.replay_run.specs.GoesOn.{HasNoLf}
use Rattle.replay_run.proofs.FeedLemmas.{is_nothing, line_goes, line_goes_ok, line_ready, line_ready_ok, line_size, line_size_ok}
use Rattle.replay_run.proofs.feed.Feed.end_line.Goals as goal

pub returns-then-is_empty-clause-goes : goal.returns-then-is_empty-clause-goes
returns-then-is_empty-clause-goes c =
    let old = c.self.inside in
    let line = c.args.line.now in
    let none : old.pending.items ≡ [] = is_nothing c.as_slice.result.now old.pending.items c.if-is_empty.ensures c.as_slice.ensures.value in
    rw (← c.self.view_is) (line_goes_ok c.turn.result old.out.items old.pending.items line line old.run (length line + 1)
    c.turn.new.watch.items c.turn.new.self old.pending.items
    (rw none tt) c.requires.part (sym (ap (λ (p : List ℕ). p ++ line) none)) refl c.turn.ensures.run c.turn.ensures.notes none)

pub returns-then-is_empty-clause-ready : goal.returns-then-is_empty-clause-ready
returns-then-is_empty-clause-ready c =
    let old = c.self.inside in
    let line = c.args.line.now in
    let none : old.pending.items ≡ [] = is_nothing c.as_slice.result.now old.pending.items c.if-is_empty.ensures c.as_slice.ensures.value in
    let counted : IsCounted old.run = subst (λ (f : Feeding). IsCounted f.run) (sym c.self.view_is) c.requires.ready.counted in
    line_ready_ok c.turn.result line (length line + 1) old.run c.turn.new.watch.items old.pending.items c.turn.new.self
    counted (omega arith) c.turn.ensures.run none

pub returns-clause-goes : goal.returns-clause-goes
returns-clause-goes c =
    let old = c.self.inside in
    let line = c.args.line.now in
    let waits : HasNoLf old.pending.items = subst (λ (f : Feeding). HasNoLf f.pending) (sym c.self.view_is) c.requires.ready.begun.part in
    rw (← c.self.view_is) (line_goes old.out.items old.pending.items line c.deref.result.now old.run (length c.as_slice-2.result.now + 1)
    c.turn-2.new.watch.items c.turn-2.new.self c.clear.new.self.items
    waits c.requires.part (c.deref.ensures.value ∙ c.in_ok-extend_from_slice.ensures.items)
    (ap (λ (w : List ℕ). length w + 1) (c.as_slice-2.ensures.value ∙ sym c.deref.ensures.value))
    c.in_ok-turn.ensures.run c.in_ok-turn.ensures.notes c.clear.ensures.items)

pub returns-clause-ready : goal.returns-clause-ready
returns-clause-ready c =
    let old = c.self.inside in
    let counted : IsCounted old.run = subst (λ (f : Feeding). IsCounted f.run) (sym c.self.view_is) c.requires.ready.counted in
    line_ready c.deref.result.now (length c.as_slice-2.result.now + 1) old.run c.turn-2.new.watch.items c.clear.new.self.items c.turn-2.new.self
    counted (omega arith) c.in_ok-turn.ensures.run c.clear.ensures.items

pub returns-then-is_empty-clause-size : goal.returns-then-is_empty-clause-size
returns-then-is_empty-clause-size c =
    let old = c.self.inside in
    let line = c.args.line.now in
    let none : old.pending.items ≡ [] = is_nothing c.as_slice.result.now old.pending.items c.if-is_empty.ensures c.as_slice.ensures.value in
    let counted : IsCounted old.run = subst (λ (f : Feeding). IsCounted f.run) (sym c.self.view_is) c.requires.ready.counted in
    rw (← c.self.view_is) (line_size_ok c.turn.result old.pending.items line line (length line + 1) old.run old.pending.items c.turn.new.self
    counted (sym (ap (λ (p : List ℕ). p ++ line) none)) refl c.turn.ensures.run none)

pub returns-clause-size : goal.returns-clause-size
returns-clause-size c =
    let old = c.self.inside in
    let line = c.args.line.now in
    let counted : IsCounted old.run = subst (λ (f : Feeding). IsCounted f.run) (sym c.self.view_is) c.requires.ready.counted in
    rw (← c.self.view_is) (line_size old.pending.items line c.deref.result.now (length c.as_slice-2.result.now + 1) old.run c.clear.new.self.items c.turn-2.new.self
    counted (c.deref.ensures.value ∙ c.in_ok-extend_from_slice.ensures.items)
    (ap (λ (w : List ℕ). length w + 1) (c.as_slice-2.ensures.value ∙ sym c.deref.ensures.value))
    c.in_ok-turn.ensures.run c.clear.ensures.items)
