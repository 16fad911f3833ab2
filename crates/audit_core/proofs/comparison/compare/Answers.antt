use Rattle.std.proofs.Common.{◌≡◌, ◌≤◌, ◌+◌, ◌-◌, ◌++◌, ◌∙◌, List, ℕ, true, ap, sym, subst, arith, drop, length, length-drop, take}
use Rattle.std.proofs.lemmas.List.{take_all}
use Rattle.agent_core.specs.Parts.{settings_of}
use Rattle.audit_core.specs.Passes.{difference}
use Rattle.audit_core.specs.Reports.{first_difference}
use Rattle.audit_core.specs.declared.comparison.Matching.{Matching}
use Rattle.audit_core.proofs.CompareLemmas.{counted_start, found_last, same_next, same_start}
use Rattle.audit_core.proofs.comparison.compare.Goals as goal
use Rattle.replay_run.specs.Counts.{IsCounted}
use Rattle.replay_run.specs.Replay.{Run, Turned, output_of, parts_of, printed, ran, run_of}

pub lines-init : goal.lines-init
lines-init c = record {
  counted = subst IsCounted (sym c.new-run.ensures) (counted_start (settings_of c.args.settings));
  out = c.new-out.ensures.items;
  line = subst (λ (m : Matching). m.line ≤ m.at + 1) (sym c.new-matching.ensures) (omega arith);
  same = same_start (settings_of c.args.settings) c.args.text.now c.args.deeds.now c.new-run.result c.new-matching.result c.new-run.ensures c.new-matching.ensures;
  run = ap (λ (r : Run). ran true r (parts_of c.args.text.now)) c.new-run.ensures;
}

pub lines-preserved : goal.lines-preserved
lines-preserved c =
    let deeds = c.args.deeds.now in
    let rest = c.lines.rest.now in
    let matching = c.take_all-matching.result in
    let notes = rw c.in-Some.is at c.in_ok-size.ensures in
    let size = c.in-Some.size in
    let left : take (length rest - size) (drop size rest) ≡ drop size rest = take_all _ _ (omega (arith, length-drop size rest)) in
    let same : (more : List ℕ) → difference matching more deeds ≡ difference c.lines.matching (c.run_next.new.watch.items ++ more) deeds =
    λ more. c.take_all-matching.ensures.same more ∙ ap (λ (text : List ℕ). difference c.lines.matching (text ++ more) deeds) c.deref.ensures.value in
    record {
      counted = notes.turns.counted;
      out = c.clear.ensures.items;
      line = c.take_all-matching.ensures.line;
      same = subst
          (λ (l : List ℕ). difference matching (printed true c.run_next.new.run (parts_of l)) deeds ≡ first_difference (output_of (settings_of c.args.settings) c.args.text.now) deeds)
          (sym left)
          (same_next c.lines.run rest c.run_next.new.run size c.lines.out.items c.run_next.new.watch.items deeds
          c.lines.matching matching _ notes c.lines.invariant.out same c.lines.invariant.same);
      run = subst (λ (l : List ℕ). ran true c.run_next.new.run (parts_of l) ≡ run_of (settings_of c.args.settings) c.args.text.now) (sym left)
          (sym (ap (λ (t : Turned). t.run) notes.turns.turned) ∙ c.lines.invariant.run);
    }

pub returns : goal.returns
returns c =
    let deeds = c.args.deeds.now in
    let matching = c.take_all-matching-2.result in
    let text = c.put_end.new.out.items in
    let same : (more : List ℕ) → difference matching more deeds ≡ difference c.lines.matching (text ++ more) deeds =
    λ more. c.take_all-matching-2.ensures.same more ∙ ap (λ (t : List ℕ). difference c.lines.matching (t ++ more) deeds) c.deref-2.ensures.value in
    found_last (settings_of c.args.settings) c.args.text.now deeds c.lines.rest.now c.lines.out.items c.run_next.new.watch.items text
    c.lines.matching matching c.lines.run c.run_next.new.run c.in_ok-size.field-0 c.end.result c.found.result
    c.in_default.is c.in_ok-size.ensures c.lines.invariant.out c.in_ok-put_end.ensures same c.lines.invariant.same c.lines.invariant.run c.end.ensures c.found.ensures
