-- What is told by pieces of the helper's stream (ours).
use Rattle.std.specs.Prelude.{ℕ, List, [], ◌∷◌, ◌++◌, Option, Some, None}
use Rattle.helper_link.specs.HelperLink.{HelperLink}
use Rattle.helper_link.specs.Settling.{Settling, settling}
use Rattle.helper_link.specs.declared.answer.Settled.{Settled}
use Rattle.helper_link.specs.declared.fault.LinkFault.{LinkFault}

-- what was told, and the link afterwards
pub record Telling : Type 0 where
  pub link : HelperLink
  pub settled : List Settled
  pub fault : Option LinkFault

-- what a settling tells of this link
abbrev pub telling_of : Settling → HelperLink → Telling
telling_of settling link = record {
  link = record link { asks = settling.asks; heard = settling.heard };
  settled = settling.settled;
  fault = settling.fault;
}

-- what a piece tells, behind what was heard before
abbrev pub telling : List ℕ → HelperLink → Telling
telling piece link = telling_of (settling (link.heard ++ piece) link.asks) link

-- this was settled before
abbrev pub settled_before : List Settled → Telling → Telling
settled_before done later = record later { settled = done ++ later.settled }

-- what is told later, unless a fault was told
abbrev pub unless_faulty : Option LinkFault → Telling → (HelperLink → Telling) → Telling
unless_faulty None first later = settled_before first.settled (later first.link)
unless_faulty (Some fault) first later = first

-- pieces told one after another, up to the first fault
abbrev pub told_in_turn : List ℕ → List (List ℕ) → HelperLink → Telling
told_in_turn piece [] link = telling piece link
told_in_turn piece (next ∷ pieces) link =
    unless_faulty (telling piece link).fault (telling piece link) (told_in_turn next pieces)

-- the pieces as one
abbrev pub joined : List ℕ → List (List ℕ) → List ℕ
joined piece [] = piece
joined piece (next ∷ pieces) = piece ++ joined next pieces
