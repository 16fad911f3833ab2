use Rattle.std.proofs.Common.{◌≡◌, ◌∙◌, Some, subst, sym}
use Rattle.pair_ports.specs.declared.side.Side.{Side}
use Rattle.filter_model.specs.declared.thing.Thing.TheVariants.{Write}
use Rattle.filter_model.specs.Lines.{first_servable}
use Rattle.filter_top.proofs.CallLemmas.{unreached_upstream}
use Rattle.filter_top.proofs.turn.send.Goals as goal

pub connect-requires-clause-next : goal.connect-requires-clause-next
connect-requires-clause-next g c =
    let upstream = unreached_upstream c.args.filter.now c.args.line.now c.args.pair c.args.side c.requires.next (sym c.is_reached.ensures ∙ c.if-is_reached.false) in
    subst (λ (side : Side). first_servable c.args.filter.now c.args.line.now ≡ Some (Write c.args.pair side)) upstream c.requires.next
