use Rattle.std.proofs.Common.{inl, inr, lit<, refl}
use Rattle.std.specs.Prelude.{codes}
use Rattle.key_purposes.proofs.OtherLemmas.{no_method, no_service}
use Rattle.key_purposes.proofs.laws.other_is_no_login.Goals as goal

pub returns : goal.returns
returns c = record {
  service = λ message blob session user method rest is.
      no_service message blob session user (codes "ssh-connection") _ is (lit< tt) (inl refl);
  old_service = λ message blob session user rest is.
      no_service message blob session user (codes "ssh-userauth") rest is (lit< tt) (inr refl);
  publickey = λ message blob session user service method flag algorithm named rest is begins short.
      no_method message blob session user service method _ is short (inl begins);
  hostbased = λ message blob session user service method rest is begins short.
      no_method message blob session user service method rest is short (inr begins);
}
