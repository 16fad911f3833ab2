use Rattle.std.proofs.Common.{◌∙◌, List, ℕ, ap, subst, sym, ◌≡◌, None, true}
use Rattle.helper_link.specs.HelperLink.{askers}
use Rattle.helper_link.specs.declared.ask.Ask.{Ask}
use Rattle.helper_link.specs.declared.state.LinkState.{LinkState}
use Rattle.agent_model.specs.Answers.{close_helper, helper_closes, tell_each}
use Rattle.agent_model.specs.KeyStates.{KeyState}
use Rattle.agent_model.specs.NumberLists.{put_all}
use Rattle.agent_model.specs.Verdicts.{HelperLost, Refuses}
use Rattle.agent_core.specs.Bound.{AreSilent}
use Rattle.agent_core.specs.Slots.{OpenPorts, open_of}
use Rattle.agent_core.proofs.BoundLemmas.{silent-asks}
use Rattle.agent_core.proofs.HelperLemmas.{lost_parts}
use Rattle.agent_model.specs.State.{State, find_port, is_linked_to}
use Rattle.agent_core.proofs.AlikeLemmas.{IsAsOwed, open-false, spared-by, spares-on}
use Rattle.agent_core.proofs.OwingNewsLemmas.{as_owed-lost}
use Rattle.agent_core.proofs.helper.lose_helper.Goals as goal

pub refuse_all-requires : goal.refuse_all-requires
refuse_all-requires c =
    let link = c.args.under_way.now.link in
    let ports = c.close_helper.new.ports.ports in
    subst (λ (asks : List Ask). AreSilent (askers asks) ports) (sym (c.as_slice.ensures.value ∙ c.lose-failed.ensures.failed))
    (silent-asks 0 link.last link.asks ports c.requires.bound.order (c.close_helper.ensures.tied link.asks c.requires.bound.tied))

pub returns-clause-parts : goal.returns-clause-parts
returns-clause-parts c = λ (wall : ℕ) (keys : KeyState).
    let old = open_of c.args.ports.now in
    let to : LinkState → OpenPorts = λ state. record old { ports = close_helper state old.ports; closed = put_all old.closed (helper_closes state old.ports) } in
    let mid = c.close_helper.ensures.ports ∙ ap to c.link_state.ensures.value in
    let told : List Ask → OpenPorts = λ asks. record (open_of c.close_helper.new.ports) { ports = tell_each (Refuses HelperLost) (askers asks) c.close_helper.new.ports.ports } in
    let new = c.refuse_all.ensures.ports ∙ ap told (c.as_slice.ensures.value ∙ c.lose-failed.ensures.failed) in
    lost_parts wall keys c.args.under_way.now c.lose-failed.new.self old (open_of c.close_helper.new.ports) (open_of c.refuse_all.new.ports) mid c.lose-failed.ensures.left new

pub returns-clause-spared : goal.returns-clause-spared
returns-clause-spared c = λ (was : State).
    let going = c.args.under_way.now in
    let new = c.refuse_all.new.ports in
    spared-by c.args.ports.now new going c.lose-failed.new.self (spares-on c.args.ports.now c.close_helper.new.ports new c.close_helper.ensures.spared c.refuse_all.ensures.spared)
    (λ port at untouched there.
    let gone : is_linked_to port going.link.state ≡ true → find_port port new.ports ≡ None =
    λ is. (c.refuse_all.ensures.spared port untouched).1 ∙ c.close_helper.ensures.gone port (ap (is_linked_to port) c.link_state.ensures.value ∙ is) in
    subst (IsAsOwed port going) (sym c.lose-failed.ensures.left)
    (as_owed-lost port going _ _ (open-false (is_linked_to port going.link.state) port new.ports at gone there))) was
