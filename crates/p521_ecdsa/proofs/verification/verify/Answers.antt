use Rattle.std.proofs.Common.{sym, ◌∙◌}
use Rattle.p521_ecdsa.proofs.VerifyingLemmas.{accepts-key, accepts-no_key, accepts-r, accepts-s}
use Rattle.curve_laws.proofs.P521SameLemmas.{decoded-stands}
use Rattle.p521_ecdsa.proofs.verification.verify.Goals as goal

pub returns-then-not-is_in_range : goal.returns-then-not-is_in_range
returns-then-not-is_in_range c = accepts-r _ _ _ _ c.from_bytes-r.ensures (sym c.if-not-is_in_range.ensures)

pub returns-then-not-is_in_range-2 : goal.returns-then-not-is_in_range-2
returns-then-not-is_in_range-2 c =
    accepts-s _ _ _ _ _ c.from_bytes-r.ensures (sym c.if-not-is_in_range.ensures) c.from_bytes-s.ensures (sym c.if-not-is_in_range-2.ensures)

pub returns-in-Some : goal.returns-in-Some
returns-in-Some c =
    accepts-key _ _ _ _ _ _ _ c.in-Some.q _ _ c.from_bytes-r.ensures (sym c.if-not-is_in_range.ensures) c.from_bytes-s.ensures
    (sym c.if-not-is_in_range-2.ensures) c.decode.ensures c.in-Some.is c.hash_of.ensures c.leftmost_bits-e.ensures c.holds.ensures

pub returns-in-None : goal.returns-in-None
returns-in-None c =
    accepts-no_key _ _ _ _ _ _ c.from_bytes-r.ensures (sym c.if-not-is_in_range.ensures) c.from_bytes-s.ensures
    (sym c.if-not-is_in_range-2.ensures) c.decode.ensures c.in-None.is

pub holds-requires-clause-q : goal.holds-requires-clause-q
holds-requires-clause-q c = decoded-stands _ _ (sym c.decode.ensures ∙ c.in-Some.is)
