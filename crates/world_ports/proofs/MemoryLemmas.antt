-- Lemmas on specs/Memory.antt.
use Rattle.std.proofs.Common.{◌≡◌, ℕ, zero, suc, ◌+◌, List, [], ◌++◌, Some, length, take, drop, refl, sym, ap, ◌∙◌, arith}
use Rattle.std.proofs.lemmas.List.{take-append-drop, drop-drop, take_at}
use Rattle.std.proofs.lemmas.Grind.{common_steps}
use Rattle.std.proofs.Math.Seq.{take-add}
use Rattle.world_ports.specs.Memory.{pulled_of}
use Rattle.world_ports.specs.Streams.{StreamView, Gives}

-- a piece from the front of what is left, put at the front of the room, is what a read gives
pub gives-front : (n at : ℕ) (bytes piece rest : List ℕ) → piece ≡ take n (drop at bytes) → length piece ≡ n
    → (n ≡ 0 → drop at bytes ≡ [])
    → (old new : StreamView) → old.taken ≡ Some (take at bytes) → new.taken ≡ Some (take (at + n) bytes) → old.left ≡ Some (drop at bytes) → new.left ≡ Some (drop (at + n) bytes)
    → Gives (pulled_of n) (piece ++ rest) old new
gives-front zero at bytes piece rest same long end old new t0 t1 l0 l1 = record {
  taken = rw (t0, t1) (grind (arith, common_steps));
  left = rw (l0, l1) (grind (arith, common_steps));
  end = rw l1 (grind (arith, common_steps, end refl));
}
gives-front (suc n) at bytes piece rest same long end old new t0 t1 l0 l1 =
    let front : take (suc n) (piece ++ rest) ≡ take (suc n) (drop at bytes) = take_at piece rest (suc n) long ∙ same in
    record {
      some = omega arith;
      within = grind (arith, common_steps, long);
      taken = rw (t0, t1) (take-add at (suc n) bytes ∙ ap (λ l. take at bytes ++ l) (sym front));
      left = rw (l0, l1) (sym (take-append-drop (suc n) (drop at bytes)) ∙ ap (λ l. l ++ drop (suc n) (drop at bytes)) (sym front)
          ∙ ap (λ l. take (suc n) (piece ++ rest) ++ l) (drop-drop (suc n) at bytes));
    }
