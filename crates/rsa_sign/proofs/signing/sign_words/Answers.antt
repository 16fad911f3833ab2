use Rattle.std.proofs.Common.{arith, ◌≡◌, ◌∙◌, ap, sym, length, ◌%◌}
use Rattle.std.proofs.lemmas.Bool.{eqb-true}
use Rattle.rsa_numbers.specs.Numbers.{value}
use Rattle.rsa_verify.specs.Verification.{accepts}
use Rattle.rsa_verify.proofs.EncodingLemmas.{length-encoded}
use Rattle.rsa_verify.proofs.VerifyingLemmas.{odd-first}
use Rattle.rsa_sign.proofs.KeyLemmas.{odd-above, signature-is, signed-even_p, signed-even_q, signed-none, signed-some}
use Rattle.rsa_sign.proofs.signing.sign_words.Goals as goal

pub returns-then-not-is_odd : goal.returns-then-not-is_odd
returns-then-not-is_odd c = λ x x_is.
    x_is
    ∙ signed-even_p c.args.modulus.now c.args.e (value c.args.d.now) (value c.args.p.now) (value c.args.q.now)
    (value c.args.iqmp.now) c.args.info.now (sym c.if-not-is_odd.ensures)

pub returns-then-not-is_odd-2 : goal.returns-then-not-is_odd-2
returns-then-not-is_odd-2 c = λ x x_is.
    x_is
    ∙ signed-even_q c.args.modulus.now c.args.e (value c.args.d.now) (value c.args.p.now) (value c.args.q.now)
    (value c.args.iqmp.now) c.args.info.now (sym c.if-not-is_odd.ensures) (sym c.if-not-is_odd-2.ensures)

pub candidate-requires-clause-message_fits : goal.candidate-requires-clause-message_fits
candidate-requires-clause-message_fits c =
    omega (
      arith,
      ap length (c.deref.ensures.value ∙ c.in_ok-message.ensures),
      length-encoded (length c.args.modulus.now) c.args.info.now (omega (arith, c.requires.long, c.requires.room)),
      c.requires.bounded,
    )

pub candidate-requires-clause-p_odd : goal.candidate-requires-clause-p_odd
candidate-requires-clause-p_odd c =
    sym (odd-first c.args.p.now (omega (arith, c.requires.p_long)))
    ∙ eqb-true (value c.args.p.now % 2) 1 (sym c.if-not-is_odd.ensures)

pub candidate-requires-clause-p_top : goal.candidate-requires-clause-p_top
candidate-requires-clause-p_top c =
    odd-above c.args.p.now c.requires.p_long c.requires.p_leads
    (eqb-true (value c.args.p.now % 2) 1 (sym c.if-not-is_odd.ensures))

pub candidate-requires-clause-q_odd : goal.candidate-requires-clause-q_odd
candidate-requires-clause-q_odd c =
    sym (odd-first c.args.q.now (omega (arith, c.requires.q_long)))
    ∙ eqb-true (value c.args.q.now % 2) 1 (sym c.if-not-is_odd-2.ensures)

pub candidate-requires-clause-q_top : goal.candidate-requires-clause-q_top
candidate-requires-clause-q_top c =
    odd-above c.args.q.now c.requires.q_long c.requires.q_leads
    (eqb-true (value c.args.q.now % 2) 1 (sym c.if-not-is_odd-2.ensures))

pub returns-then-branch : goal.returns-then-branch
returns-then-branch c = λ x x_is.
    (let m = c.args.modulus.now in
    let message_is = c.deref.ensures.value ∙ c.in_ok-message.ensures in
    let size =
    ap length message_is ∙ length-encoded (length m) c.args.info.now (omega (arith, c.requires.long, c.requires.room)) in
    x_is
    ∙ signed-some m c.args.e (value c.args.d.now) (value c.args.p.now) (value c.args.q.now) (value c.args.iqmp.now)
    c.args.info.now c.in_ok-signature.signature.items (sym c.if-not-is_odd.ensures) (sym c.if-not-is_odd-2.ensures)
    (signature-is m (value c.args.d.now) (value c.args.p.now) (value c.args.q.now) (value c.args.iqmp.now)
    c.args.info.now c.deref.result.now c.in_ok-signature.signature.items message_is size c.in_ok-signature.ensures)
    (ap (accepts m c.args.e c.args.info.now) (sym c.deref-2.ensures.value) ∙ sym c.in_ok-verify_info.ensures
    ∙ c.if-branch.true))

pub returns : goal.returns
returns c = λ x x_is.
    (let m = c.args.modulus.now in
    let message_is = c.deref.ensures.value ∙ c.in_ok-message.ensures in
    let size =
    ap length message_is ∙ length-encoded (length m) c.args.info.now (omega (arith, c.requires.long, c.requires.room)) in
    x_is
    ∙ signed-none m c.args.e (value c.args.d.now) (value c.args.p.now) (value c.args.q.now) (value c.args.iqmp.now)
    c.args.info.now c.in_ok-signature.signature.items (sym c.if-not-is_odd.ensures) (sym c.if-not-is_odd-2.ensures)
    (signature-is m (value c.args.d.now) (value c.args.p.now) (value c.args.q.now) (value c.args.iqmp.now)
    c.args.info.now c.deref.result.now c.in_ok-signature.signature.items message_is size c.in_ok-signature.ensures)
    (ap (accepts m c.args.e c.args.info.now) (sym c.deref-2.ensures.value) ∙ sym c.in_ok-verify_info.ensures
    ∙ c.if-branch.false))
