-- The rows of alike journals.
use Rattle.std.proofs.Common.{◌≡◌, ◌∙◌, ℕ, ◌^◌, ◌<◌, List, [], ◌∷◌, ◌++◌, length, Some, refl, ap, subst, inl, inr, arith, false}
use Rattle.world_ports.specs.declared.Door.TheVariants.{Clients}
use Rattle.wire_text.specs.Bounds.{longest_body}
use Rattle.wire_text.specs.Frames.{front, split, split_up_to}
use Rattle.wire_text.specs.Wire.{announced_len, string, uint32}
use Rattle.agent_msg.specs.Requests.{IsText}
use Rattle.record_world.specs.Recording.{Port, new_port}
use Rattle.replay_laws.specs.AlikeJournals.{AreAlikeJournals, AreAlikeSplits, AreRelocked, ComesAlike}
use Rattle.replay_laws.specs.AlikeRows.{doubled, lock_a, lock_aa, sending}
use Rattle.replay_laws.specs.Redacting.{IsRenaming}

one_to_one : (a b : List ℕ) → doubled a ≡ doubled b → a ≡ b
one_to_one [] [] same = refl
one_to_one [] (byte ∷ bytes) same = absurd (cc)
one_to_one (byte ∷ bytes) [] same = absurd (cc)
one_to_one (byte ∷ bytes) (other ∷ others) same =
    let first : byte ≡ other = cc in
    let rest : doubled bytes ≡ doubled others = cc in
    ap (λ (b : ℕ). b ∷ bytes) first ∙ ap (λ (bs : List ℕ). other ∷ bs) (one_to_one bytes others rest)

pub doubled-renames : IsRenaming doubled
doubled-renames = record { one_to_one = one_to_one; empty = refl }

-- the locks of both
locks_alike : AreRelocked doubled (22 ∷ 0 ∷ 0 ∷ 0 ∷ 1 ∷ 97 ∷ []) (22 ∷ 0 ∷ 0 ∷ 0 ∷ 2 ∷ 97 ∷ 97 ∷ [])
unfolding string uint32
locks_alike = record {
  number = 22;
  locks = inl refl;
  passphrase = 97 ∷ [];
  left = record { printed = refl; fits = omega arith };
  right = record { printed = refl; fits = omega arith };
}

splits_alike : AreAlikeSplits doubled (split longest_body ([] ++ lock_a)) (split longest_body ([] ++ lock_aa))
unfolding split split_up_to front announced_len uint32 string
splits_alike = record { bodies = (inr (inr locks_alike), tt); fronts = refl; heads = refl }

comes_alike : (found other : Port) → new_port 1 Clients ≡ found → new_port 1 Clients ≡ other
    → ComesAlike doubled found.door found other lock_a lock_aa
comes_alike found other is other_is =
    subst (λ (p : Port). ComesAlike doubled p.door p other lock_a lock_aa) is
    (subst (λ (p : Port). ComesAlike doubled Clients (new_port 1 Clients) p lock_a lock_aa) other_is (λ good. splits_alike))

some_port : {one other : Port} → Some one ≡ Some other → one ≡ other
some_port same = cc

pub locks_are_alike : AreAlikeJournals doubled (sending lock_a) (sending lock_aa)
locks_are_alike = (
  refl,
  (
    record { port = refl; bytes = λ found other is other_is. comes_alike found other (some_port is) (some_port other_is) },
    tt,
  ),
)
