use Rattle.std.proofs.Common.{◌≡◌, ℕ, List, [], ◌∷◌, length, ap, arith, refl, sym, Bool, true, false, not, ◌&&◌, ◌||◌}
use Rattle.world_ports.specs.declared.events.Door.{Door}
use Rattle.world_ports.specs.declared.events.Door.TheVariants.{Clients, Children}
use Rattle.helper_link.proofs.SoundLemmas.{nothing_is_part}
use Rattle.wire_text.specs.Frames.{Front}
use Rattle.agent_model.specs.State.{is_more, is_settled, is_some_bytes, wants_more}
use Rattle.agent_core.specs.Slots.{waits_of}
use Rattle.agent_core.proofs.slot.wants.Goals as goal

-- who has sent nothing more is read
unheard : (door : Door) (settled : Bool) (heard : List ℕ) → length heard ≡ 0
    → true ≡ wants_more door settled heard
unheard Children settled heard none = refl
unheard Clients true [] none = sym (ap (λ (f : Front). is_more f && (true || not (is_some_bytes []))) nothing_is_part)
unheard Clients false [] none = sym (ap (λ (f : Front). is_more f && (false || not (is_some_bytes []))) nothing_is_part)
unheard Clients settled (byte ∷ bytes) none = absurd (omega (arith, none))

pub returns-then-is_empty : goal.returns-then-is_empty
returns-then-is_empty c =
    unheard c.args.slot.now.door (is_settled (waits_of c.args.slot.now.waits) c.args.slot.now.owed) c.args.slot.now.heard.live
    (grind (arith, c.if-is_empty.true, c.is_empty.ensures, c.live-heard.ensures))
