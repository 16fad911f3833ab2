use Rattle.std.proofs.Common.{arith, ◌≡◌, ◌≢◌, ◌∙◌, ap, sym, ◌%◌, get_or}
use Rattle.rsa_numbers.specs.Numbers.{value}
use Rattle.rsa_octets.specs.Octets.{os2ip}
use Rattle.rsa_verify.proofs.VerifyingLemmas.{odd-first, opens-even, opens-is, top-of}
use Rattle.rsa_verify.proofs.verification.opens.Goals as goal

pub returns-then-n-ne1 : goal.returns-then-n-ne1
returns-then-n-ne1 c =
    let same : os2ip c.args.modulus.now % 2 ≡ get_or c.from_octets.new.words 0 0 % 2 =
    ap (λ k. k % 2) (sym c.from_octets.ensures) ∙ odd-first c.from_octets.new.words (omega arith) in
    let even : os2ip c.args.modulus.now % 2 ≢ 1 = λ e. omega (arith, e, same, c.if-n-ne1.true) in
    opens-even (os2ip c.args.modulus.now) (os2ip c.args.signature.now) c.args.e (os2ip c.args.message.now) even

pub pow-requires-clause-top : goal.pow-requires-clause-top
pow-requires-clause-top c =
    top-of c.from_octets.new.words c.args.modulus.now (omega arith) (omega arith) c.requires.leading
    c.from_octets.ensures (omega arith)

pub returns : goal.returns
returns c =
    let odd : os2ip c.args.modulus.now % 2 ≡ 1 =
    ap (λ k. k % 2) (sym c.from_octets.ensures) ∙ odd-first c.from_octets.new.words (omega arith)
    ∙ omega (arith, c.if-n-ne1.false) in
    opens-is (os2ip c.args.modulus.now) (os2ip c.args.signature.now) c.args.e (os2ip c.args.message.now) _ _ _ _ _
    c.from_octets.ensures c.from_octets-2.ensures odd
    (c.at_least.ensures.none (omega (arith, c.at_least.ensures.flag, c.if-at_least-eq1.false))) c.pow.ensures
    c.from_octets-3.ensures c.same.ensures
