use Rattle.std.proofs.Common.{◌∙◌, ap, sym}
use Rattle.frame_core.specs.Looks.{front_of}
use Rattle.agent_model.specs.State.{State, find_port}
use Rattle.agent_core.proofs.AgentLemmas.{agent_closed, agent_served, agent_waits, bad_port, none_asked, whole_port}
use Rattle.agent_core.specs.Slots.{open_of}
use Rattle.agent_core.specs.Parts.{state_of, parts_of}
use Rattle.agent_core.proofs.AlikeLemmas.{spared-still}
use Rattle.agent_core.proofs.OwingNewsLemmas.{spared-served}
use Rattle.agent_core.proofs.parts.Parts.look.Goals as goal

pub returns-in_ok-serve-in-Whole-clause-looked : goal.returns-in_ok-serve-in-Whole-clause-looked
returns-in_ok-serve-in-Whole-clause-looked c =
    let front = rw (← c.self.view_is) at c.requires.front in
    let there = whole_port (find_port c.args.port c.self.inside.ports.ports) c.in-Whole.body (sym front ∙ ap front_of c.in-Whole.is) in
    let parts = c.self.inside in
    rw (← c.self.view_is) (
    ap (parts_of parts.wall c.serve.new.keys c.serve.new.under_way) c.touch_asked.ensures.ports
    ∙ agent_served parts.wall parts.keys c.serve.new.keys parts.under_way c.serve.new.under_way (open_of parts.ports) (open_of c.serve.new.self) c.args.port c.in-Whole.body there.0 there.1 there.2
    (c.in_ok-serve-in-Whole.ensures.keys there.0 there.1)
    (c.in_ok-serve-in-Whole.ensures.under_way there.0 there.1)
    (c.in_ok-serve-in-Whole.ensures.ports there.0 there.1))

pub returns-in-Bad-clause-looked : goal.returns-in-Bad-clause-looked
returns-in-Bad-clause-looked c =
    let front = rw (← c.self.view_is) at c.requires.front in
    let there = bad_port (find_port c.args.port c.self.inside.ports.ports) c.in-Bad.announced (sym front ∙ ap front_of c.in-Bad.is) in
    let parts = c.self.inside in
    rw (← c.self.view_is) (
    agent_closed parts.wall parts.keys parts.under_way (open_of parts.ports) (open_of c.close.new.self) c.args.port c.in-Bad.announced there.0 there.1 there.2 c.close.ensures.ports)

pub returns-in-More-clause-looked : goal.returns-in-More-clause-looked
returns-in-More-clause-looked c =
    let front = rw (← c.self.view_is) at c.requires.front in
    let parts = c.self.inside in
    rw (← c.self.view_is) (agent_waits parts.wall parts.keys parts.under_way (open_of parts.ports) c.args.port (sym front ∙ ap front_of c.in-More.is))

pub serve-requires-clause-alone : goal.serve-requires-clause-alone
serve-requires-clause-alone c =
    let front = rw (← c.self.view_is) at c.requires.front in
    let there = whole_port (find_port c.args.port c.self.inside.ports.ports) c.in-Whole.body (sym front ∙ ap front_of c.in-Whole.is) in
    let state : State = state_of c.self.inside.wall c.self.inside.keys c.self.inside.under_way (open_of c.self.inside.ports) in
    none_asked c.args.port c.in-Whole.body there.0 state (rw (← c.self.view_is) at c.requires.tied) there.1 there.2

pub returns-in_ok-serve-in-Whole-clause-spared : goal.returns-in_ok-serve-in-Whole-clause-spared
returns-in_ok-serve-in-Whole-clause-spared c =
    let front = rw (← c.self.view_is) at c.requires.front in
    let there = whole_port (find_port c.args.port c.self.inside.ports.ports) c.in-Whole.body (sym front ∙ ap front_of c.in-Whole.is) in
    let parts = c.self.inside in
    rw (← c.self.view_is)
    (spared-served c.in-Whole.body parts.wall c.asks-asks.result there.0 parts.keys parts.under_way c.serve.new.under_way
    parts.ports c.serve.new.self c.touch_asked.new.ports
    (c.in_ok-serve-in-Whole.ensures.under_way there.0 there.1) c.asks-asks.ensures c.in_ok-serve-in-Whole.ensures.spared c.touch_asked.ensures.spared
    c.touch_asked.ensures.touched)

pub returns-in-Bad-clause-spared : goal.returns-in-Bad-clause-spared
returns-in-Bad-clause-spared c = rw (← c.self.view_is) (spared-still c.self.inside.ports c.close.new.self c.self.inside.under_way c.close.ensures.spared)
