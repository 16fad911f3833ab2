-- Where bytes are cut doesn't matter, whoever sends them.
use Rattle.std.proofs.Common.{◌≡◌, ℕ, List, ◌++◌, refl, ap, sym, subst, ◌∙◌, Option, Some, None, IfSome}
use Rattle.world_ports.specs.declared.Moment.{Moment}
use Rattle.world_ports.specs.declared.Door.TheVariants.{Clients}
use Rattle.helper_link.specs.declared.state.LinkState.TheVariants as states
use Rattle.agent_model.specs.Events.{Heard}
use Rattle.agent_model.specs.Pieces.{Agree, MayBeCut, MayBeCutBy}
use Rattle.agent_model.specs.State.{Client, Confirmer, Helper, Port, Role, State, Unnamed, find_port, role_of}
use Rattle.agent_model.specs.Step.{step}
use Rattle.agent_model.specs.Time.{GiveTime, at_moment}
use Rattle.agent_model.proofs.ConsentCutLemmas.{confirmer_parts_agree}
use Rattle.agent_model.proofs.CutLemmas.{helper_parts_agree}
use Rattle.agent_model.proofs.MakeLemmas.{role-client, role-door, role-helper}
use Rattle.agent_model.proofs.PartsLemmas.{parts_agree}
use Rattle.agent_model.proofs.PortsLemmas.{found_number}

module _ (state : State) (moment : Moment) (number : ℕ) (a b : List ℕ) (time : GiveTime state.under_way.limits) where
  -- as the moment leaves it
  abbrev start : State
  start = at_moment moment state

  abbrev AgreeInParts : Type 0
  AgreeInParts =
      Agree moment (step state moment (Heard number (a ++ b))) (step state moment (Heard number a))
      (step (step state moment (Heard number a)).state moment (Heard number b))

  by_role : (role : Role) (port : Port) → find_port number start.ports ≡ Some port
      → role_of port.door port.number start.under_way ≡ role → MayBeCutBy role start → AgreeInParts
  by_role Client port found is sound =
      parts_agree state moment number a b time sound
      (subst (λ f. IfSome f (λ p. p.door ≡ Clients)) (sym found) (role-client port.door port.number start.under_way is))
  by_role Unnamed port found is never = absurd never
  by_role Helper port found is sound =
      helper_parts_agree state moment number a b port time sound found
      (role-door port.door port.number start.under_way Helper is (λ no. absurd (cc)))
      (role-helper port.door port.number start.under_way is ∙ ap states.Linked (found_number number start.ports port found))
  by_role (Confirmer confirmation) port found is both =
      confirmer_parts_agree state moment number a b port confirmation time both.0 both.1 found is

  by_found : (there : Option Port) → find_port number start.ports ≡ there → MayBeCut there start
      → AgreeInParts
  by_found None found sound =
      parts_agree state moment number a b time sound (subst (λ f. IfSome f (λ p. p.door ≡ Clients)) (sym found) tt)
  by_found (Some port) found may =
      by_role (role_of port.door port.number start.under_way) port found refl may

  pub piece_agrees : MayBeCut (find_port number start.ports) start → AgreeInParts
  piece_agrees may = by_found (find_port number start.ports) refl may
