use Rattle.std.proofs.Common.{◌∙◌, ap, sym, refl, ◌%◌, take}
use Rattle.words64.specs.Numbers.{little_endian}
use Rattle.scalar25519.specs.Scalars.{order}
use Rattle.curve25519.specs.Encoding.{decoded}
use Rattle.ed25519.specs.Signatures.{challenge}
use Rattle.edwards_laws.proofs.DecodedLemmas.{decoded-stands}
use Rattle.ed25519.proofs.VerifyingLemmas.{accepts-meets, accepts-refused, meets-none, meets-some}
use Rattle.ed25519.proofs.verification.verify.Goals as goal

pub returns-then-not-is_below_order : goal.returns-then-not-is_below_order
returns-then-not-is_below_order c =
    accepts-refused c.args.public.now c.args.message.now c.args.signature.now _
    c.from_bytes-s.ensures (sym c.if-not-is_below_order.ensures)

pub returns-in-Some : goal.returns-in-Some
unfolding challenge
returns-in-Some c =
    accepts-meets c.args.public.now c.args.message.now c.args.signature.now _ c.from_bytes-r.result c.as_words.result.now
    c.decode.result _ c.from_bytes-s.ensures (sym c.if-not-is_below_order.ensures) c.from_bytes-r.ensures
    (c.as_words.ensures ∙ c.from_bytes-k.ensures ∙ ap (λ l. little_endian l % order) c.hash_of_three.ensures)
    (c.decode.ensures ∙ ap decoded c.from_bytes.ensures)
    (meets-some _ _ _ _ _ _ c.in-Some.is c.holds.ensures)

pub returns-in-None : goal.returns-in-None
returns-in-None c =
    accepts-meets c.args.public.now c.args.message.now c.args.signature.now _ c.from_bytes-r.result
    (challenge (take 32 c.args.signature.now) c.args.public.now c.args.message.now)
    c.decode.result _ c.from_bytes-s.ensures (sym c.if-not-is_below_order.ensures) c.from_bytes-r.ensures refl
    (c.decode.ensures ∙ ap decoded c.from_bytes.ensures)
    (meets-none _ _ _ _ c.in-None.is)

pub holds-requires : goal.holds-requires
holds-requires c = decoded-stands _ _ (sym c.decode.ensures ∙ c.in-Some.is)
