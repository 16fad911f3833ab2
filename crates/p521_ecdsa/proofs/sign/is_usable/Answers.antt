use Rattle.std.proofs.Common.{◌∙◌, ap, sym, not}
use Rattle.p521_ecdsa.proofs.SigningLemmas.{is_usable-r, is_usable-s}
use Rattle.p521_ecdsa.proofs.sign.is_usable.Goals as goal

pub returns-then-equals : goal.returns-then-equals
returns-then-equals c = is_usable-r c.args.pair.now _ c.zero-zero.ensures (sym c.if-equals.ensures)

pub returns : goal.returns
returns c = ap not c.equals-2.ensures ∙ is_usable-s c.args.pair.now _ c.zero-zero.ensures (sym c.if-equals.ensures)
