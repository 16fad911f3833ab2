use Rattle.std.proofs.Common.{List, ℕ, length, sym, ap, refl, ◌∙◌, arith, Some}
use Rattle.helper_link.specs.Settling.{verdict}
use Rattle.helper_link.specs.declared.fault.LinkFault.{LinkFault}
use Rattle.helper_link.specs.declared.settle.Settlement.{Settlement}
use Rattle.helper_link.proofs.StreamLemmas.{given, next_frame, faulty_frame, faulty_length, no_frame, frame_within}
use Rattle.helper_link.proofs.settle.settle_stream.Goals as goal

pub frames-preserved : goal.frames-preserved
frames-preserved c = record {
  within = frame_within c.args.stream.now c.behind.result.now c.frames.at (length c.in-Whole.body.now) c.behind.ensures c.frames.invariant.within c.in-Whole.ensures.exact;
  fewer = omega (arith, c.settle_frame.ensures.fewer);
  sum = c.settle_frame.ensures.sum;
  whole = next_frame c.args.stream.now c.behind.result.now c.frames.at _ (length c.in-Whole.body.now) c.frames.asks.items c.settle_frame.new.asks.items c.frames.settled.items c.push.new.self.items c.in-Ok.one _ c.behind.ensures (omega arith) c.in-Whole.ensures.exact (ap (λ (body : List ℕ). verdict body c.frames.asks.items) (sym c.in-Whole.ensures.cut.0) ∙ c.in-Ok.ensures.settled) c.in_ok-push-in-Ok.ensures.items c.frames.invariant.whole;
}

pub frames-smaller : goal.frames-smaller
frames-smaller c =
    let ends = frame_within c.args.stream.now c.behind.result.now c.frames.at (length c.in-Whole.body.now) c.behind.ensures c.frames.invariant.within c.in-Whole.ensures.exact in
    omega (arith, ends)

pub returns-in-More-clause-settled : goal.returns-in-More-clause-settled
returns-in-More-clause-settled c =
    no_frame c.args.stream.now c.behind.result.now c.frames.at c.frames.asks.items c.frames.settled.items _ c.behind.ensures c.in-More.ensures.exact c.frames.invariant.whole

pub returns-in-Bad-clause-settled : goal.returns-in-Bad-clause-settled
returns-in-Bad-clause-settled c =
    given c.args.stream.now c.faulty-in-Bad.result c.frames.settled.items c.frames.asks.items c.frames.asks.items _ _
    (faulty_length c.args.stream.now c.behind.result.now c.frames.at c.in-Bad.announced c.frames.asks.items c.frames.settled.items _ c.behind.ensures c.in-Bad.ensures.exact c.frames.invariant.whole)
    (ap (λ (end : Settlement). end.settled.items) c.faulty-in-Bad.ensures)
    (ap (λ (end : Settlement). end.read) c.faulty-in-Bad.ensures)
    (ap (λ (end : Settlement). end.fault) c.faulty-in-Bad.ensures)
    refl

pub returns-in-Err-Fault-clause-settled : goal.returns-in-Err-Fault-clause-settled
returns-in-Err-Fault-clause-settled c =
    let stop = rw c.in-Err-Fault.field-0-is at c.in-Err-Fault.ensures.stops in
    given c.args.stream.now c.faulty.result c.frames.settled.items c.frames.asks.items c.settle_frame.new.asks.items c.in-Err-Fault.fault _
    (faulty_frame c.args.stream.now c.behind.result.now c.frames.at (length c.in-Whole.body.now) c.frames.asks.items c.frames.settled.items c.in-Err-Fault.fault _ c.behind.ensures c.in-Whole.ensures.exact (ap (λ (body : List ℕ). verdict body c.frames.asks.items) (sym c.in-Whole.ensures.cut.0) ∙ stop.0) c.frames.invariant.whole)
    (ap (λ (end : Settlement). end.settled.items) c.faulty.ensures)
    (ap (λ (end : Settlement). end.read) c.faulty.ensures)
    (ap (λ (end : Settlement). end.fault) c.faulty.ensures ∙ ap (λ (fault : LinkFault). Some fault) c.in-Err-Fault.fault-is)
    stop.1
