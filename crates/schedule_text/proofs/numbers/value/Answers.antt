use Rattle.std.proofs.Common.{◌≤◌, ◌+◌, ◌-◌, ◌*◌, ◌^◌, sym, suc, ap, get_or, drop, arith, ◌∙◌}
use Rattle.std.proofs.Math.Seq.{drop-cons}
use Rattle.std.proofs.lemmas.Bool.Decides.{nat_tests}
use Rattle.std.proofs.lemmas.List.{drop_all}
use Rattle.schedule_text.specs.Numbers.{number_after}
use Rattle.schedule_text.proofs.NumberLemmas.{value_of-too_great}
use Rattle.schedule_text.proofs.numbers.value.Goals as goal

pub returns-in_err-value : goal.returns-in_err-value
returns-in_err-value c =
    let digits = c.args.digits.now in
    let i = c.digits.digit-index in
    let next = drop-cons digits i 0 c.digits-test.true in
    let great : 2 ^ 64 ≤ c.digits.value * 10 + (get_or digits i 0 - 48) = grind (arith, nat_tests, c.in_err-value.ensures) in
    c.from_residual.ensures ∙ sym (value_of-too_great digits (drop (suc i) digits) _ (c.digits.invariant.1 ∙ ap (number_after c.digits.value) next) great)

pub returns : goal.returns
returns c =
    let none = drop_all c.digits.digit-index c.args.digits.now c.digits-test.false in
    grind (arith, nat_tests, none, c.digits.invariant.0, c.digits.invariant.1)
