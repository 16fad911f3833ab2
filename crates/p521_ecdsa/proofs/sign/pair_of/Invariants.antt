use Rattle.std.proofs.Common.{◌≡◌, ◌-◌, ◌%◌}
use Rattle.wide_words.specs.Numbers.{bits_to_int}
use Rattle.p521_order.specs.Scalars.{order}
use Rattle.p521_ecdsa.specs.Signatures.{first_usable, signed_from}
use Rattle.p521_ecdsa.proofs.sign.pair_of.Given as goal

abbrev pub invariant-loop-turn : goal.invariant-loop-turn
invariant-loop-turn l = record {
  hash : l.e ≡ bits_to_int 521 l.hash % order;
  left : signed_from (64 - l._turn) l.d (bits_to_int 521 l.hash) l.key l.value ≡ first_usable l.d l.hash;
}
