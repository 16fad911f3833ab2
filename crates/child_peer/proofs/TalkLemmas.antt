-- Lemmas on specs/Talk.antt.
use Rattle.std.proofs.Common.{◌≡◌, ℕ, List, [], ◌++◌, Option, Some, None, IfSome, sym, subst}
use Rattle.std.proofs.lemmas.List.{append-nil}
use Rattle.std.proofs.KnownBytes.{Appends-nil, Appends-trans, Appends-kept, Consumes-nil, Consumes-trans, Consumes-kept}
use Rattle.std.specs.Io.KnownBytes.{Appends, Consumes, Keeps, IsAtEnd}
use Rattle.world_ports.specs.Streams.{StreamView}
use Rattle.child_peer.specs.Talk.{HasRead, HoldsOfInput}

some_of : (left : Option (List ℕ)) (P : List ℕ → Type 0) → ((rest : List ℕ) → P rest) → IfSome left P
some_of None P holds = tt
some_of (Some rest) P holds = holds rest

-- what holds whatever follows
pub holds_of : (left : Option (List ℕ)) (bytes : List ℕ) (P : List ℕ → Type 0) → ((more : List ℕ) → P (bytes ++ more)) → HoldsOfInput left bytes P
holds_of left bytes P holds = record {
  read = subst P (append-nil bytes) (holds []);
  whole = some_of left (λ rest. P (bytes ++ rest)) holds;
}

end_of_input : (left : Option (List ℕ)) (bytes : List ℕ) (P : List ℕ → Type 0) → IsAtEnd left → P bytes → IfSome left (λ rest. P (bytes ++ rest))
end_of_input None bytes P end holds = tt
end_of_input (Some rest) bytes P end holds = subst (λ (r : List ℕ). P (bytes ++ r)) (sym end) (subst P (sym (append-nil bytes)) holds)

-- what holds of bytes behind which nothing follows
pub holds_at_end : (left : Option (List ℕ)) (bytes : List ℕ) (P : List ℕ → Type 0) → IsAtEnd left → P bytes → HoldsOfInput left bytes P
holds_at_end left bytes P end holds = record { read = holds; whole = end_of_input left bytes P end holds }

-- before the first read
pub HasRead-nil : (seen : StreamView) → HasRead seen seen []
HasRead-nil seen = record { taken = Appends-nil seen.taken; left = Consumes-nil seen.left }

-- one piece more
pub HasRead-piece : (old mid new : StreamView) (bytes piece : List ℕ) → HasRead old mid bytes → Appends mid.taken new.taken piece
    → Consumes mid.left new.left piece → HasRead old new (bytes ++ piece)
HasRead-piece old mid new bytes piece read taken left = record {
  taken = Appends-trans old.taken mid.taken new.taken bytes piece read.taken taken;
  left = Consumes-trans old.left mid.left new.left bytes piece read.left left;
}

-- nothing more
pub HasRead-kept : (old mid new : StreamView) (bytes : List ℕ) → HasRead old mid bytes → Keeps mid.taken new.taken → Keeps mid.left new.left
    → HasRead old new bytes
HasRead-kept old mid new bytes read taken left = record {
  taken = Appends-kept old.taken mid.taken new.taken bytes read.taken taken;
  left = Consumes-kept old.left mid.left new.left bytes read.left left;
}

-- no read between
pub HasRead-same : (old mid new : StreamView) (bytes : List ℕ) → HasRead old mid bytes → new.taken ≡ mid.taken → new.left ≡ mid.left
    → HasRead old new bytes
HasRead-same old mid new bytes read taken left = record {
  taken = subst (λ (t : Option (List ℕ)). Appends old.taken t bytes) (sym taken) read.taken;
  left = subst (λ (l : Option (List ℕ)). Consumes old.left l bytes) (sym left) read.left;
}

-- no write between
pub Appends-same : (old mid new : Option (List ℕ)) (bytes : List ℕ) → Appends old mid bytes → new ≡ mid → Appends old new bytes
Appends-same old mid new bytes wrote same = subst (λ (w : Option (List ℕ)). Appends old w bytes) (sym same) wrote
