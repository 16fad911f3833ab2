use Rattle.std.proofs.Common.{arith, ◌≡◌, ◌<◌, ◌∙◌, ◌-◌, ap, length}
use Rattle.rsa_numbers.specs.Numbers.{value}
use Rattle.rsa_powers.proofs.FormLemmas.{more-than-one}
use Rattle.rsa_octets.specs.Octets.{i2osp, os2ip}
use Rattle.rsa_sign.specs.Signing.{part}
use Rattle.rsa_sign.proofs.PartLemmas.{part-below, power-is}
use Rattle.rsa_sign.proofs.signing.candidate.Goals as goal

pub joined_of-requires-clause-m1_below : goal.joined_of-requires-clause-m1_below
joined_of-requires-clause-m1_below c =
    let p = value c.args.p.now in
    omega (
      arith,
      ap value c.deref-3.ensures.value ∙ c.in_ok-m1.ensures.ok,
      part-below p (value c.args.d.now) (value c.deref.result.now)
          (omega (arith, more-than-one (length c.args.p.now - 1) _ c.requires.p_top)),
    )

pub returns : goal.returns
returns c =
    let p = value c.args.p.now in
    let q = value c.args.q.now in
    let d = value c.args.d.now in
    let m = os2ip c.args.message.now in
    c.in_ok-signature.ensures
    ∙ ap (λ k. i2osp k (length c.args.message.now))
    (ap value c.deref_mut.ensures.value
    ∙ power-is p q d (value c.args.iqmp.now) m _ _ _
    (ap value c.deref-3.ensures.value ∙ c.in_ok-m1.ensures.ok
    ∙ ap (part p d) (ap value c.deref.ensures.value ∙ c.in_ok-m.ensures.ok))
    (ap value c.deref-4.ensures.value ∙ c.in_ok-m2.ensures.ok
    ∙ ap (part q d) (ap value c.deref-2.ensures.value ∙ c.in_ok-m.ensures.ok))
    c.in_ok-s.ensures.ok)
