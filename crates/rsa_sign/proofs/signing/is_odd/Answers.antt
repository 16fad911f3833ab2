use Rattle.std.proofs.Common.{ap, sym, nat_eq}
use Rattle.rsa_verify.proofs.VerifyingLemmas.{odd-first}
use Rattle.rsa_sign.proofs.signing.is_odd.Goals as goal

pub returns : goal.returns
returns c = ap (λ k. nat_eq k 1) (sym (odd-first c.args.words.now c.requires))
