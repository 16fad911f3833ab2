-- Lemmas on specs/Hearing.antt.
use Rattle.std.proofs.Common.{◌≡◌, ℕ, List, [], ◌++◌, refl, sym, ap, ◌∙◌, append_assoc}
use Rattle.std.proofs.lemmas.List.{append-nil}
use Rattle.child_peer.specs.Hearing.{HearsNothing, HearsPiece}
use Rattle.child_peer.proofs.TalkLemmas.{HasRead-nil, HasRead-piece, HasRead-kept}
use Rattle.terms_core.specs.Hearing.{HearsMore, HearsOn}
use Rattle.world_ports.specs.Streams.{StreamView}

-- before the first read
pub HearsOn-nil : (heard : List ℕ) (seen : StreamView) → HearsOn heard heard seen seen
HearsOn-nil heard seen = record {
  more = record { bytes = []; heard = sym (append-nil heard); read = HasRead-nil seen };
  reads = refl;
}

-- one piece more
pub HearsOn-piece : (before mid now : List ℕ) (old between new : StreamView)
    → HearsOn before mid old between → HearsPiece mid now between new → HearsOn before now old new
HearsOn-piece before mid now old between new on piece = record {
  more = record {
    bytes = on.more.bytes ++ piece.piece;
    heard = piece.heard ∙ ap (λ (h : List ℕ). h ++ piece.piece) on.more.heard ∙ append_assoc before on.more.bytes piece.piece;
    read = HasRead-piece old between new on.more.bytes piece.piece on.more.read piece.taken piece.left;
  };
  reads = piece.faults ∙ on.reads;
}

-- nothing more
pub HearsMore-kept : (before mid now : List ℕ) (old between new : StreamView)
    → HearsOn before mid old between → HearsNothing mid now between new → HearsMore before now old new
HearsMore-kept before mid now old between new on nothing = record {
  bytes = on.more.bytes;
  heard = nothing.heard ∙ on.more.heard;
  read = HasRead-kept old between new on.more.bytes on.more.read nothing.taken nothing.left;
}

-- nothing more, and no read failed
pub HearsOn-kept : (before mid now : List ℕ) (old between new : StreamView)
    → HearsOn before mid old between → HearsNothing mid now between new → new.read_faults ≡ between.read_faults → HearsOn before now old new
HearsOn-kept before mid now old between new on nothing reads = record {
  more = HearsMore-kept before mid now old between new on nothing;
  reads = reads ∙ on.reads;
}
