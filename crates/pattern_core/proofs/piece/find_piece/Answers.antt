use Rattle.std.proofs.Common.{◌≡◌, ◌+◌, ◌-◌, ◌≤◌, length, ap, ◌∙◌, arith, inl, inr}
use Rattle.std.proofs.lemmas.Bool.Decides.{leb_tells}
use Rattle.pattern_core.proofs.LetterLemmas.{length-read_text}
use Rattle.pattern_core.proofs.PieceLemmas.{IsBlock-behind, IsBlock-place, IsBlock-nothing}
use Rattle.pattern_core.specs.Pieces.{has_place}
use Rattle.pattern_core.proofs.piece.find_piece.Goals as goal

pub returns-then-places-ne0 : goal.returns-then-places-ne0
returns-then-places-ne0 c =
    let case = c.args.case in
    let text = c.args.text.now in
    let piece = c.args.piece.now in
    let start = c.blocks-2.start in
    let low = c.lowest.result in
    let is = IsBlock-behind case text piece c.behind-rest.result.now start c.fitting_places-places.result
    c.behind-rest.ensures.rest c.blocks-2.invariant.within c.fitting_places-places.ensures.exact in
    let there = c.fitting_places-places.ensures.within low c.lowest.ensures.within c.lowest.ensures.there in
    let within : start + low + length piece ≤ length text = omega (arith, there, c.behind-rest.ensures.shorter) in
    let place : start + low - start ≡ low = omega arith in
    record {
      within = omega (arith, within, length-read_text case text, length-read_text case piece);
      here = IsBlock-place _ _ _ _ _ is (start + low) (omega arith) (omega (arith, c.lowest.ensures.within)) within
          ∙ ap (has_place c.fitting_places-places.result) place ∙ c.lowest.ensures.there;
      before = λ k before. elim (leb_tells start k) [
        | inl h ↦ IsBlock-place _ _ _ _ _ is k h.1 (omega (arith, c.lowest.ensures.within)) (omega (arith, within))
            ∙ c.lowest.ensures.below (k - start) (omega (arith, h.1))
        | inr h ↦ c.blocks-2.invariant.none k h.1 (omega (arith, within))
      ];
    }

pub returns-then-text-start-lt-PLACES : goal.returns-then-text-start-lt-PLACES
returns-then-text-start-lt-PLACES c =
    let case = c.args.case in
    let text = c.args.text.now in
    let piece = c.args.piece.now in
    let is = IsBlock-behind case text piece c.behind-rest.result.now c.blocks-2.start c.fitting_places-places.result
    c.behind-rest.ensures.rest c.blocks-2.invariant.within c.fitting_places-places.ensures.exact in
    let text_len = length-read_text case text in
    let piece_len = length-read_text case piece in
    record {
      nowhere = λ k within.
          IsBlock-nothing _ _ _ _ _ is c.if-places-ne0.false c.blocks-2.invariant.none k
          (omega (arith, text_len, piece_len)) (omega (arith, text_len, piece_len));
    }

pub blocks-2-preserved : goal.blocks-2-preserved
blocks-2-preserved c =
    let is = IsBlock-behind c.args.case c.args.text.now c.args.piece.now c.behind-rest.result.now c.blocks-2.start
    c.fitting_places-places.result c.behind-rest.ensures.rest c.blocks-2.invariant.within c.fitting_places-places.ensures.exact in
    record {
      within = omega arith;
      none = λ k below within. IsBlock-nothing _ _ _ _ _ is c.if-places-ne0.false c.blocks-2.invariant.none k below within;
    }
