use Rattle.curve25519.proofs.DecodingLemmas.{recovered_x-root, signed_root-none, signed_root-some}
use Rattle.curve25519.proofs.decoding.x_of.Goals as goal

pub returns-in-Some : goal.returns-in-Some
returns-in-Some c =
    recovered_x-root c.args.sign c.args.y.now _ _ _ _ _ _ _ _ _ c.root_of.result _
    c.square-yy.ensures c.one.ensures c.sub.ensures c.tightened-u.ensures
    c.curve_constant.ensures c.mul.ensures c.one-2.ensures c.add.ensures c.tightened-v.ensures c.root_of.ensures
    (signed_root-some _ _ _ _ c.in-Some.is c.signed.ensures)

pub returns-in-None : goal.returns-in-None
returns-in-None c =
    recovered_x-root c.args.sign c.args.y.now _ _ _ _ _ _ _ _ _ c.root_of.result _
    c.square-yy.ensures c.one.ensures c.sub.ensures c.tightened-u.ensures
    c.curve_constant.ensures c.mul.ensures c.one-2.ensures c.add.ensures c.tightened-v.ensures c.root_of.ensures
    (signed_root-none _ _ c.in-None.is)
