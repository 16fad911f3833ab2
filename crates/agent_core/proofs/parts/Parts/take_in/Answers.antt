use Rattle.std.proofs.Common.{◌∙◌, ◌≡◌, max, ap, arith}
use Rattle.agent_core.proofs.AgentLemmas.{agent_begins}
use Rattle.agent_core.specs.Slots.{open_of}
use Rattle.agent_core.specs.Parts.{Moved}
use Rattle.agent_core.proofs.OwingNewsLemmas.{spared-begun}
use Rattle.agent_core.proofs.parts.Parts.take_in.Goals as goal

pub pass-requires : goal.pass-requires
pass-requires c =
    let second = ap (λ (s : Moved). s.state.under_way.second) c.self.view_is in
    let mono = ap (λ (s : Moved). s.state.moment.mono) c.self.view_is in
    omega (arith, c.max-now.ensures, c.second.ensures, c.requires, second, mono)

pub returns-clause-parts : goal.returns-clause-parts
returns-clause-parts c =
    let parts = c.self.inside in
    let now : c.max-now.result ≡ max parts.keys.table.greatest c.args.moment.mono = c.max-now.ensures ∙ ap (λ n. max n c.args.moment.mono) c.second.ensures in
    rw (← c.self.view_is) (agent_begins c.args.moment parts.wall c.max-now.result parts.keys c.expire.new.self parts.under_way c.pass.new.self (open_of parts.ports) (open_of c.begin.new.self) now c.expire.ensures c.pass.ensures (ap open_of c.begin.ensures))

pub returns-clause-spared : goal.returns-clause-spared
returns-clause-spared c =
    let parts = c.self.inside in
    rw (← c.self.view_is)
    (spared-begun parts.wall parts.keys parts.under_way c.pass.new.self c.max-now.result parts.ports c.begin.new.self c.pass.ensures c.begin.ensures)
