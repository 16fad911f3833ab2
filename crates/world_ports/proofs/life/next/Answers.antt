use Rattle.std.proofs.Common.{◌≡◌, ◌+◌, ◌-◌, ◌*◌, None, unwrap_or, sym, ◌∙◌}
use Rattle.world_ports.proofs.LifeLemmas.{sum_from-digit_out}
use Rattle.world_ports.specs.Life.{in_range}
use Rattle.world_ports.proofs.life.next.Goals as goal

pub returns-in_default : goal.returns-in_default
returns-in_default c =
    let none : in_range (unwrap_or c.args.number 0 * 10 + (c.args.byte - 48)) ≡ None =
    rw (← c.unwrap_or.ensures, ← c.from.ensures, ← c.from-then-is_ascii_digit.ensures) (sym c.short.ensures ∙ c.in_default.is) in
    λ text. sum_from-digit_out c.args.total c.args.number c.args.byte text (sym c.is_ascii_digit.ensures.value ∙ c.if-is_ascii_digit.true) none
