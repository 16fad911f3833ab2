use Rattle.std.proofs.Common.{◌≡◌, ◌∙◌, ℕ, Option, Some, ap, subst, sym, refl}
use Rattle.confirm_desk.specs.Confirmations.{Confirmation}
use Rattle.confirm_desk.specs.declared.held.Held.{Held as CodeHeld}
use Rattle.agent_model.specs.KeyStates.{after_use}
use Rattle.agent_model.specs.State.{Port}
use Rattle.agent_model.proofs.GrantLemmas.{granted-ends}
use Rattle.under_way.specs.Parts.{TellsOf}
use Rattle.agent_core.specs.Confirmers.{grant_of}
use Rattle.agent_core.proofs.ConfirmerLemmas.{put_parts, unused_granted, used_granted}
use Rattle.agent_core.specs.Slots.{open_of, OpenPorts}
use Rattle.agent_core.specs.Parts.{Moved, parts_of}
use Rattle.agent_core.proofs.OwingNewsLemmas.{confirmation_by, spared-granted}
use Rattle.agent_model.proofs.OpenLemmas.{some_port}
use Rattle.agent_core.proofs.parts.Parts.put_granted.Goals as goal

pub returns-in-Some-clause-put : goal.returns-in-Some-clause-put
returns-in-Some-clause-put c = rw (← c.self.view_is) (λ (port : Port) (one : Confirmation) found given.
    let parts = c.self.inside in
    let work = grant_of port.chain one parts.wall parts.keys parts.under_way in
    let is = c.in_ok-asked.ensures.put port one found given in
    let told = subst (λ asked. TellsOf work.verdict asked) c.in-Some.is is.told in
    let ends = granted-ends port.chain one parts.wall parts.keys parts.under_way in
    let own = ap (λ (h : CodeHeld). Some h.addition) given in
    let keys_is : c.spend.new.self ≡ after_use work.used parts.keys = c.spend.ensures ∙ ap (λ (u : Option ℕ). after_use u parts.keys) (sym ((used_granted c.in-Some.ask ends told).0 ∙ own)) in
    record {
      parts = ap (parts_of parts.wall c.spend.new.self c.ask_granted.new.under_way) c.touch_asked.ensures.ports
          ∙ put_parts parts.wall parts.keys c.spend.new.self parts.under_way c.ask_granted.new.under_way (open_of parts.ports) work keys_is is.under_way;
      told = told;
    })

pub returns-in-None-clause-put : goal.returns-in-None-clause-put
returns-in-None-clause-put c = rw (← c.self.view_is) (λ (port : Port) (one : Confirmation) found given.
    let parts = c.self.inside in
    let work = grant_of port.chain one parts.wall parts.keys parts.under_way in
    let is = c.in_ok-asked.ensures.put port one found given in
    let told = subst (λ asked. TellsOf work.verdict asked) c.in-None.is is.told in
    let ends = granted-ends port.chain one parts.wall parts.keys parts.under_way in
    let keys_is : parts.keys ≡ after_use work.used parts.keys = ap (λ (u : Option ℕ). after_use u parts.keys) (sym (unused_granted ends told.1)) in
    record {
      parts = ap (parts_of parts.wall parts.keys c.ask_granted.new.under_way) c.touch_asked.ensures.ports
          ∙ put_parts parts.wall parts.keys parts.keys parts.under_way c.ask_granted.new.under_way (open_of parts.ports) work keys_is is.under_way;
      told = told;
    })

pub returns-in-Some-clause-ports : goal.returns-in-Some-clause-ports
returns-in-Some-clause-ports c =
    ap (λ (v : OpenPorts). v.ports) c.touch_asked.ensures.ports ∙ ap (λ (s : Moved). s.state.ports) c.self.view_is

pub returns-in-None-clause-ports : goal.returns-in-None-clause-ports
returns-in-None-clause-ports c =
    ap (λ (v : OpenPorts). v.ports) c.touch_asked.ensures.ports ∙ ap (λ (s : Moved). s.state.ports) c.self.view_is

pub returns-in-Some-clause-spared : goal.returns-in-Some-clause-spared
returns-in-Some-clause-spared c =
    let is_open = rw (← c.self.view_is) at c.requires.is_open in
    let parts = c.self.inside in
    let client = some_port c.args.held.now.asker parts.ports.ports is_open in
    let one = confirmation_by c.args.held.now in
    let is = c.in_ok-asked.ensures.put client.0 one client.1 refl in
    rw (← c.self.view_is)
    (spared-granted parts.wall c.asks-asks.result client.0.chain one parts.keys parts.under_way c.ask_granted.new.under_way parts.ports c.touch_asked.new.ports is.under_way
    c.asks-asks.ensures c.touch_asked.ensures.spared c.touch_asked.ensures.touched)

pub returns-in-None-clause-spared : goal.returns-in-None-clause-spared
returns-in-None-clause-spared c =
    let is_open = rw (← c.self.view_is) at c.requires.is_open in
    let parts = c.self.inside in
    let client = some_port c.args.held.now.asker parts.ports.ports is_open in
    let one = confirmation_by c.args.held.now in
    let is = c.in_ok-asked.ensures.put client.0 one client.1 refl in
    rw (← c.self.view_is)
    (spared-granted parts.wall c.asks-asks.result client.0.chain one parts.keys parts.under_way c.ask_granted.new.under_way parts.ports c.touch_asked.new.ports is.under_way
    c.asks-asks.ensures c.touch_asked.ensures.spared c.touch_asked.ensures.touched)
