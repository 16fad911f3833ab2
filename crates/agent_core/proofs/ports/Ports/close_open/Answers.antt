use Rattle.std.proofs.Common.{◌∙◌, [], ap, sym}
use Rattle.agent_model.specs.NumberLists.{put_all}
use Rattle.agent_model.specs.State.{find_port, remove_port}
use Rattle.agent_core.specs.Slots.{OpenPorts, open_of}
use Rattle.agent_core.proofs.HelperLemmas.{closing-absent, closing-open, is_absent, remove_port-absent}
use Rattle.agent_core.proofs.ports.Ports.close_open.Goals as goal

pub returns-then-has-clause-ports : goal.returns-then-has-clause-ports
returns-then-has-clause-ports c =
    let old = open_of c.args.self.now in
    c.close.ensures.ports
    ∙ ap (λ ns. let v : OpenPorts = record old { ports = remove_port c.args.number old.ports; closed = put_all old.closed ns } in v)
    (sym (closing-open c.args.number old.ports [] (c.has.ensures.value.0 c.if-has.true)))

pub returns-else-has-clause-ports : goal.returns-else-has-clause-ports
returns-else-has-clause-ports c =
    let old = open_of c.args.self.now in
    let absent = is_absent (find_port c.args.number old.ports) c.has.result c.has.ensures.value c.if-has.false in
    ap (λ ps. let v : OpenPorts = record old { ports = ps } in v) (sym (remove_port-absent c.args.number old.ports absent))
    ∙ ap (λ ns. let v : OpenPorts = record old { ports = remove_port c.args.number old.ports; closed = put_all old.closed ns } in v)
    (sym (closing-absent c.args.number old.ports [] absent))
