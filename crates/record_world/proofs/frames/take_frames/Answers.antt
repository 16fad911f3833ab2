use Rattle.std.proofs.Common.{Err, ℕ, List, ◌++◌, ◌∙◌, ap, take}
use Rattle.redact_core.specs.declared.fault.RedactFault.TheVariants.{Full}
use Rattle.record_world.proofs.FrameLemmas.{bad_text, frame_full, frame_next, more_text, same_fault}
use Rattle.record_world.proofs.frames.take_frames.Goals as goal

pub frames-preserved : goal.frames-preserved
frames-preserved c =
    let took = c.in_ok-take_frame-in-Whole.ensures in
    frame_next _ _ _ _ _ _ _ _ _ _ _ c.live.ensures c.in-Whole.ensures.exact took.rest took.passphrases took.leaving took.fits c.frames.invariant

pub returns-in_err-take_frame-in-Whole-clause-full : goal.returns-in_err-take_frame-in-Whole-clause-full
returns-in_err-take_frame-in-Whole-clause-full c is =
    frame_full _ _ _ _ _ _ _ _ c.live.ensures c.in-Whole.ensures.exact c.frames.invariant (c.in_err-take_frame-in-Whole.ensures.full
    (ap Err (same_fault c.from_residual.result c.in_err-take_frame-in-Whole.field-0.0 Full c.from_residual.ensures.1 is)))

pub returns-in-Bad-clause-leaving : goal.returns-in-Bad-clause-leaving
returns-in-Bad-clause-leaving c =
    bad_text _ _ _ _ _ _ _ c.live.ensures c.frames.invariant _ c.in-Bad.ensures.exact _
    (c.in_ok-extend_from_slice-in-Bad.ensures.items ∙ ap (λ (l : List ℕ). c.frames.leaving.items ++ take 4 l) c.live-in-Bad.ensures)

pub returns-in-More-clause-leaving : goal.returns-in-More-clause-leaving
returns-in-More-clause-leaving c =
    more_text _ _ _ _ _ _ _ c.live.ensures c.frames.invariant c.in-More.ensures.exact
