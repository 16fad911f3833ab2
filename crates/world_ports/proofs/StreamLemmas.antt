-- Lemmas on specs/Streams.antt: what several writes did.
use Rattle.std.proofs.Common.{ℕ, ◌-◌, List, ◌++◌, length, take, drop, ap, ◌∙◌, append_assoc, take-append-drop, arith}
use Rattle.std.proofs.KnownBytes.{Appends-trans}
use Rattle.std.proofs.lemmas.List.{take_rest}
use Rattle.world_ports.specs.Streams.{StreamView, OnlyWrites, TakesFront, WritesFront}

-- one write more, from the front of what was left
pub WritesFront-next : (n : ℕ) (bytes rest : List ℕ) (old mid new : StreamView)
    → WritesFront bytes rest old mid → TakesFront n rest mid new
    → WritesFront bytes (take (length rest - n) (drop n rest)) old new
WritesFront-next n bytes rest old mid new before write = record {
  front = before.front ++ take n rest;
  whole = append_assoc before.front (take n rest) (take (length rest - n) (drop n rest))
      ∙ ap (λ l. before.front ++ (take n rest ++ l)) (take_rest rest n)
      ∙ ap (λ l. before.front ++ l) (take-append-drop n rest) ∙ before.whole;
  written = Appends-trans old.written mid.written new.written before.front (take n rest) before.written write.written;
}

-- one write after another
pub OnlyWrites-trans : (old mid new : StreamView) → OnlyWrites old mid → OnlyWrites mid new → OnlyWrites old new
OnlyWrites-trans old mid new first second = record {
  taken = second.taken ∙ first.taken;
  left = second.left ∙ first.left;
  read_faults = second.read_faults ∙ first.read_faults;
  later = omega (arith, first.later, second.later);
}
