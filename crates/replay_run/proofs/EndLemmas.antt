-- Lemmas on the end of a schedule.
use Rattle.std.proofs.Common.{◌≡◌, ℕ, List, [], ◌++◌, refl, ap, sym, ◌∙◌, subst, Option, Some, None, true, append_assoc}
use Rattle.std.proofs.KnownBytes.{Appends-nil}
use Rattle.world_ports.specs.Causes.{Rose}
use Rattle.schedule_text.specs.declared.fault.LineFault.{LineFault}
use Rattle.replay_run.specs.Replay.{Run, last_turned, ending, output}
use Rattle.replay_run.specs.Feeding.{Feeding, Wrote, IsReady}
use Rattle.world_ports.specs.Streams.{StreamView, WritesPart}
use Rattle.replay_run.specs.Finishing.{end_by, end_of, ending_text, ending_run, Finishes, FinishesAtWriteFault}
use Rattle.replay_run.proofs.GoesOnLemmas.{printed-last, ran-last}

-- nothing was written of a text
pub nothing_left : (all : List ℕ) (seen : StreamView) → WritesPart all seen seen
nothing_left all seen =
    (all, record { front = []; whole = refl; written = Appends-nil seen.written })

-- the last line and `end` were printed
pub ends_text : (old mid new : Feeding) → IsReady old
    → mid.run ≡ (last_turned old.pending old.run).run
    → mid.out ≡ old.out ++ output (last_turned old.pending old.run) → new.run ≡ mid.run
    → new.out ≡ mid.out ++ ending true mid.run.refused
    → (new.run ≡ ending_run old) × (new.out ≡ ending_text old)
ends_text old mid new ready mid_run mid_out new_run new_out =
    let last = last_turned old.pending old.run in (
      new_run ∙ mid_run ∙ sym (ran-last old.run old.pending ready.begun.part),
      new_out
          ∙ ap (λ (o : List ℕ). o ++ ending true mid.run.refused) mid_out
          ∙ ap (λ (r : Run). (old.out ++ output last) ++ ending true r.refused) mid_run
          ∙ append_assoc old.out (output last) (ending true last.run.refused)
          ∙ sym (ap (λ (o : List ℕ). old.out ++ o) (printed-last old.run old.pending ready.begun.part)),
    )

-- by whether the last line was refused
finished_by : (refused : Option LineFault) (old new : Feeding) (before after : StreamView)
    → new.run.refused ≡ refused → new.run ≡ ending_run old → Wrote before after (ending_text old)
    → Finishes (end_by new.run.line refused) old new.run before after
finished_by None old new before after is run_is wrote = record {
  run_is = run_is;
  wrote = wrote;
  accepted = sym (ap (λ (r : Run). r.refused) run_is) ∙ is;
}
finished_by (Some fault) old new before after is run_is wrote = record {
  run_is = run_is;
  wrote = wrote;
  refused = sym (ap (λ (r : Run). r.refused) run_is) ∙ is;
  number = sym (ap (λ (r : Run). r.line) run_is);
}

-- all of it was written
pub finished : (old new : Feeding) (before after : StreamView) → new.run ≡ ending_run old
    → new.out ≡ ending_text old → Wrote before after new.out
    → Finishes (end_of new.run) old new.run before after
finished old new before after run_is out_is wrote =
    finished_by new.run.refused old new before after refl run_is (subst (λ (o : List ℕ). Wrote before after o) out_is wrote)

-- some of it was written
pub finishes_at_write_fault : (old new : Feeding) (before after : StreamView)
    → new.out ≡ ending_text old → WritesPart new.out before after
    → Rose before.write_faults after.write_faults → FinishesAtWriteFault old before after
finishes_at_write_fault old new before after out_is some cause = record {
  front = subst (λ (o : List ℕ). WritesPart o before after) out_is some;
  cause = cause;
}
