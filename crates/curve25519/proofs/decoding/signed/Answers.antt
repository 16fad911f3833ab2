use Rattle.std.proofs.Common.{◌∙◌, ap, sym, nat_eq}
use Rattle.curve25519.proofs.DecodingLemmas.{with_sign-other, with_sign-same, with_sign-zero}
use Rattle.curve25519.proofs.decoding.signed.Goals as goal

pub returns-then-parity-sign : goal.returns-then-parity-sign
returns-then-parity-sign c = with_sign-same c.args.sign c.args.x _ c.parity.ensures c.if-parity-sign.true

pub returns-then-equals : goal.returns-then-equals
returns-then-equals c =
    with_sign-zero c.args.sign c.args.x _ c.requires c.parity.ensures c.if-parity-sign.false
    (sym (c.if-equals.ensures ∙ ap (λ n. nat_eq c.args.x n) c.zero.ensures))

pub returns-else-equals : goal.returns-else-equals
returns-else-equals c =
    with_sign-other c.args.sign c.args.x _ _ c.parity.ensures c.if-parity-sign.false
    (sym (c.if-equals.ensures ∙ ap (λ n. nat_eq c.args.x n) c.zero.ensures)) c.negated.ensures
