use Rattle.std.proofs.Common.{◌∙◌, ap, sym, nat_eq, ◌%◌}
use Rattle.field25519.specs.Field.{prime}
use Rattle.curve25519.proofs.DecodingLemmas.{decoded-point, decoded-refused, high-part, point_of-none, point_of-some}
use Rattle.curve25519.proofs.decoding.decode.Goals as goal

pub returns-then-not-equals : goal.returns-then-not-equals
returns-then-not-equals c =
    decoded-refused c.args.number.now _ c.from_words-y.result c.without_sign.ensures
    (c.from_words-y.ensures ∙ ap (λ n. n % prime) (sym c.without_sign.ensures))
    (ap (λ n. nat_eq n c.without_sign.result) (sym c.to_words.ensures) ∙ sym c.if-not-equals.ensures)

pub returns-in-Some : goal.returns-in-Some
returns-in-Some c =
    let fit = c.number.invariant in
    decoded-point c.args.number.now _ c.from_words-y.result _ c.x_of.result _ c.without_sign.ensures
    (high-part _ _ _ _ _ fit.0 fit.1 fit.2 c.number.view_is)
    (c.from_words-y.ensures ∙ ap (λ n. n % prime) (sym c.without_sign.ensures))
    (ap (λ n. nat_eq n c.without_sign.result) (sym c.to_words.ensures) ∙ sym c.if-not-equals.ensures)
    c.x_of.ensures (point_of-some c.in-Some.x c.from_words-y.result _ _ c.in-Some.is c.at.ensures)

pub returns-in-None : goal.returns-in-None
returns-in-None c =
    let fit = c.number.invariant in
    decoded-point c.args.number.now _ c.from_words-y.result _ c.x_of.result _ c.without_sign.ensures
    (high-part _ _ _ _ _ fit.0 fit.1 fit.2 c.number.view_is)
    (c.from_words-y.ensures ∙ ap (λ n. n % prime) (sym c.without_sign.ensures))
    (ap (λ n. nat_eq n c.without_sign.result) (sym c.to_words.ensures) ∙ sym c.if-not-equals.ensures)
    c.x_of.ensures (point_of-none c.from_words-y.result _ c.in-None.is)
