use Rattle.std.proofs.Common.{◌∙◌, ◌%◌, ap, sym}
use Rattle.p521_order.specs.Scalars.{order}
use Rattle.p521_ecdsa.proofs.SigningLemmas.{first_usable-start, signed_from-end, signed_from-found, signed_from-out, signed_from-unusable}
use Rattle.p521_ecdsa.proofs.sign.pair_of.Goals.{then-is_in_range+else-is_usable, else-is_in_range}
use Rattle.p521_ecdsa.proofs.sign.pair_of.Goals as goal

pub loop-turn-init : goal.loop-turn-init
loop-turn-init c = record {
  hash = c.from_words-e.ensures ∙ ap (λ n. n % order) c.leftmost_bits.ensures;
  left =
      first_usable-start _ _ c.seeded-state.result
      (c.seeded-state.ensures _ (c.from_words-e.ensures ∙ ap (λ n. n % order) c.leftmost_bits.ensures));
}

pub returns-then-is_usable : goal.returns-then-is_usable
returns-then-is_usable c =
    signed_from-found _ _ _ _ _ _ _ _ _ _ c.loop-turn-test.true c.mac-first.ensures c.mac-next.ensures c.leftmost_of_both-k.ensures (sym c.if-is_in_range.ensures)
    (c.signed_with-pair.ensures _ c.loop-turn.invariant.hash) (sym c.if-is_usable.ensures) c.loop-turn.invariant.left

pub loop-turn-preserved : goal.loop-turn-preserved
loop-turn-preserved c = record {
  hash = c.loop-turn.invariant.hash;
  left = elim c.if-is_in_range.branch [
    | then-is_in_range+else-is_usable w ↦
        signed_from-unusable _ _ _ _ _ _ _ _ _ _ _ _ _ c.loop-turn-test.true c.mac-first.ensures c.mac-next.ensures c.leftmost_of_both-k.ensures (sym w.if-is_in_range.ensures)
        (w.signed_with-pair.ensures _ c.loop-turn.invariant.hash) (sym w.if-is_usable.ensures)
        c.tagged.ensures c.mac-key.ensures c.mac-value.ensures c.loop-turn.invariant.left
    | else-is_in_range w ↦
        signed_from-out _ _ _ _ _ _ _ _ _ _ _ _ c.loop-turn-test.true c.mac-first.ensures c.mac-next.ensures c.leftmost_of_both-k.ensures (sym w.if-is_in_range.ensures)
        c.tagged.ensures c.mac-key.ensures c.mac-value.ensures c.loop-turn.invariant.left
  ];
}

pub returns : goal.returns
returns c = signed_from-end _ _ _ _ _ _ c.loop-turn-test.false c.loop-turn.invariant.left
