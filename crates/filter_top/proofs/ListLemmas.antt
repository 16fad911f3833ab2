-- A set of blobs, with one more.
use Rattle.std.proofs.Common.{◌≡◌, ◌∷◌, ℕ, List, [], ap, map, refl}
use Rattle.std.specs.Prelude.{Vec}
use Rattle.std.specs.BTreeSet.{insert_key}
use Rattle.std.specs.Cmp.Lexicographic.{slice_cmp}
use Rattle.std.specs.Ordering.{match_ordering, nat_cmp}
use Rattle.std.specs.declared.alloc.Global.{Global}
use Rattle.std.specs.declared.cmp.Ordering.{Ordering}
use Rattle.std.specs.declared.cmp.Ordering.TheVariants.{Less, Equal, Greater}
use Rattle.filter_top.specs.Lists.{with_blob}

-- the blobs of some texts
abbrev plain : List (Vec ℕ Global) → List (List ℕ)
plain blobs = map (λ (blob : Vec ℕ Global). blob.items) blobs

put_by : (order : Ordering) (first blob : Vec ℕ Global) (others put : List (Vec ℕ Global)) (after : List (List ℕ)) → plain put ≡ after
    → plain (match_ordering order (blob ∷ first ∷ others) (first ∷ others) (first ∷ put))
    ≡ match_ordering order (blob.items ∷ first.items ∷ plain others) (first.items ∷ plain others) (first.items ∷ after)
put_by Less first blob others put after same = refl
put_by Equal first blob others put after same = refl
put_by Greater first blob others put after same = ap (λ (l : List (List ℕ)). first.items ∷ l) same

pub put_blob : (blobs : List (Vec ℕ Global)) (blob : Vec ℕ Global)
    → plain (insert_key (λ (one other : Vec ℕ Global). slice_cmp nat_cmp one.items other.items) blobs blob) ≡ with_blob (plain blobs) blob.items
put_blob [] blob = refl
put_blob (first ∷ others) blob =
    put_by (slice_cmp nat_cmp blob.items first.items) first blob others
    (insert_key (λ (one other : Vec ℕ Global). slice_cmp nat_cmp one.items other.items) others blob) (with_blob (plain others) blob.items)
    (put_blob others blob)
