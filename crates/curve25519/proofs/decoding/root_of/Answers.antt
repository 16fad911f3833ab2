use Rattle.std.proofs.Common.{◌∙◌, ap, sym, nat_eq}
use Rattle.field25519.specs.Field.{field_mul}
use Rattle.curve25519.proofs.DecodingLemmas.{square_root-first, square_root-none, square_root-second}
use Rattle.curve25519.proofs.decoding.root_of.Goals as goal

pub returns-then-equals : goal.returns-then-equals
returns-then-equals c =
    let u = c.args.u.now in
    let v = c.args.v.now in
    square_root-first u v _ _ c.candidate-x.ensures (c.mul-w.ensures ∙ ap (λ n. field_mul v n) c.square.ensures)
    (sym c.if-equals.ensures)

pub returns-then-equals-2 : goal.returns-then-equals-2
returns-then-equals-2 c =
    let u = c.args.u.now in
    let v = c.args.v.now in
    square_root-second u v _ _ _ c.candidate-x.ensures (c.mul-w.ensures ∙ ap (λ n. field_mul v n) c.square.ensures)
    (sym c.if-equals.ensures)
    (sym (c.if-equals-2.ensures ∙ ap (λ n. nat_eq c.mul-w.result n) c.negated.ensures))
    (c.mul.ensures ∙ ap (λ n. field_mul c.candidate-x.result n) c.root_of_minus_1.ensures)

pub returns-else-equals-2 : goal.returns-else-equals-2
returns-else-equals-2 c =
    let u = c.args.u.now in
    let v = c.args.v.now in
    square_root-none u v _ _ c.candidate-x.ensures (c.mul-w.ensures ∙ ap (λ n. field_mul v n) c.square.ensures)
    (sym c.if-equals.ensures)
    (sym (c.if-equals-2.ensures ∙ ap (λ n. nat_eq c.mul-w.result n) c.negated.ensures))
