-- The index of blobs finds those that stand among them, and no other.
use Rattle.std.proofs.Common.{◌≡◌, ◌∙◌, ℕ, zero, suc, ◌<◌, ◌≤◌, ◌⊎◌, inl, inr, Bool, true, false, ◌||◌, List, [], ◌∷◌, ◌++◌, length, get_or, set, refl, ap, arith, sym, subst, ◌==◌}
use Rattle.std.specs.List.{list_any}
use Rattle.std.specs.Str.{bytes_eq}
use Rattle.std.proofs.Math.Bool.{or-true}
use Rattle.std.proofs.lemmas.Bool.{cases_lt, false≢true}
use Rattle.std.proofs.lemmas.Bool.Decides.{Decides-eqb}
use Rattle.std.specs.Prelude.{Vec}
use Rattle.std.specs.declared.alloc.Global.{Global}
use Rattle.std.proofs.lemmas.List.{get_or-map, get_or-set_other, get_or-set_same, get_or_append_left, length-append, length-map, length-set, map-append, map-set}
use Rattle.std.proofs.lemmas.List.Folds.{list_any-append}
use Rattle.std.proofs.lemmas.Option.{slice_get-get_or}
use Rattle.std.proofs.lemmas.Slice.Eq.{bytes_eq-Decides}
use Rattle.std.proofs.Math.Seq.{get_or-append_seam, map-set_same}
use Rattle.filter_model.specs.Filters.{has_number}
use Rattle.filter_model.specs.Looking.{is_listed}
use Rattle.filter_core.specs.Index.{IsIndexed, is_blob, is_blob_at, items_of, mark_of, most_marks}

-- ---- what is looked up

record Found (test : List ℕ → Bool) (blobs : List (List ℕ)) : Type 0 where
  place : ℕ
  within : place < length blobs
  passes : test (get_or blobs place []) ≡ true

found_by : (test : List ℕ → Bool) (blob : List ℕ) (blobs : List (List ℕ)) (b : Bool) → test blob ≡ b → (b || list_any test blobs) ≡ true
    → (list_any test blobs ≡ true → Found test blobs) → Found test (blob ∷ blobs)
found_by test blob blobs true here is later = record { place = 0; within = omega arith; passes = here }
found_by test blob blobs false here is later =
    let rest = later is in record { place = suc rest.place; within = omega (arith, rest.within); passes = rest.passes }

found : (test : List ℕ → Bool) (blobs : List (List ℕ)) → list_any test blobs ≡ true → Found test blobs
found test [] is = absurd (false≢true is)
found test (blob ∷ blobs) is = found_by test blob blobs (test blob) refl is (found test blobs)

passes_by : (place other : ℕ) (test : ℕ → Bool) (others : List ℕ) (b : Bool) → (place == other) ≡ b → test place ≡ true → (b || has_number place others) ≡ true
    → (has_number place others ≡ true → list_any test others ≡ true) → (test other || list_any test others) ≡ true
passes_by place other test others true same passes is later =
    ap (λ (b : Bool). b || list_any test others) (ap test (sym ((Decides-eqb place other).0 same)) ∙ passes)
passes_by place other test others false apart passes is later =
    ap (λ (b : Bool). test other || b) (later is) ∙ or-true (test other)

-- a place that passes is one of these
passes : (place : ℕ) (test : ℕ → Bool) (places : List ℕ) → test place ≡ true → has_number place places ≡ true → list_any test places ≡ true
passes place test [] is here = absurd (false≢true here)
passes place test (other ∷ others) is here =
    passes_by place other test others (place == other) refl is here (passes place test others is)

neither_left : (a b : Bool) → (a || b) ≡ false → a ≡ false
neither_left true b is = is
neither_left false b is = refl

neither_right : (a b : Bool) → (a || b) ≡ false → b ≡ false
neither_right true true is = is
neither_right true false is = refl
neither_right false b is = is

-- a blob that isn't listed stands nowhere
nowhere : (blob : List ℕ) (blobs : List (List ℕ)) (place : ℕ) → is_listed blob blobs ≡ false → is_blob_at blob blobs place ≡ false
nowhere blob [] place none = refl
nowhere blob (other ∷ others) zero none = neither_left (bytes_eq blob other) (is_listed blob others) none
nowhere blob (other ∷ others) (suc place) none =
    nowhere blob others place (neither_right (bytes_eq blob other) (is_listed blob others) none)

at_none : (blob : List ℕ) (blobs : List (List ℕ)) (places : List ℕ) → is_listed blob blobs ≡ false → list_any (is_blob_at blob blobs) places ≡ false
at_none blob blobs [] none = refl
at_none blob blobs (place ∷ places) none =
    ap (λ (b : Bool). b || list_any (is_blob_at blob blobs) places) (nowhere blob blobs place none) ∙ at_none blob blobs places none

pub finds : (blob : List ℕ) (blobs buckets : List (List ℕ)) → IsIndexed blobs buckets
    → list_any (is_blob_at blob blobs) (get_or buckets (mark_of blob) []) ≡ is_listed blob blobs
finds blob blobs buckets indexed = by (is_listed blob blobs) refl
  where
    by : (b : Bool) → is_listed blob blobs ≡ b → list_any (is_blob_at blob blobs) (get_or buckets (mark_of blob) []) ≡ b
    by true is =
        let here = found (bytes_eq blob) blobs is in
        let same : blob ≡ get_or blobs here.place [] = (bytes_eq-Decides blob (get_or blobs here.place [])).0 here.passes in
        passes here.place (is_blob_at blob blobs) (get_or buckets (mark_of blob) [])
        (ap (is_blob blob) (slice_get-get_or blobs here.place [] here.within) ∙ here.passes)
        (ap (λ (one : List ℕ). has_number here.place (get_or buckets (mark_of one) [])) same ∙ indexed.each here.place here.within)
    by false is = at_none blob blobs (get_or buckets (mark_of blob) []) is

-- ---- what is put

has-append : (place : ℕ) (places more : List ℕ) → has_number place places ≡ true → has_number place (places ++ more) ≡ true
has-append place places more is =
    list_any-append (λ (other : ℕ). place == other) places more ∙ ap (λ (b : Bool). b || has_number place more) is

has-last : (place : ℕ) (places : List ℕ) → has_number place (places ++ place ∷ []) ≡ true
has-last place places =
    list_any-append (λ (other : ℕ). place == other) places (place ∷ [])
    ∙ ap (λ (b : Bool). has_number place places || (b || false)) ((Decides-eqb place place).1 refl)
    ∙ or-true (has_number place places)

put_by : (place mark other new : ℕ) (buckets : List (List ℕ)) (b : Bool) → (other == mark) ≡ b → mark < length buckets → has_number place (get_or buckets other []) ≡ true
    → has_number place (get_or (set buckets mark (get_or buckets mark [] ++ new ∷ [])) other []) ≡ true
put_by place mark other new buckets true same within is =
    let one : other ≡ mark = (Decides-eqb other mark).0 same in
    ap (λ (m : ℕ). has_number place (get_or (set buckets mark (get_or buckets mark [] ++ new ∷ [])) m [])) one
    ∙ ap (has_number place) (get_or-set_same buckets mark (get_or buckets mark [] ++ new ∷ []) [] within)
    ∙ has-append place (get_or buckets mark []) (new ∷ []) (ap (λ (m : ℕ). has_number place (get_or buckets m [])) (sym one) ∙ is)
put_by place mark other new buckets false apart within is =
    ap (has_number place) (get_or-set_other buckets mark other (get_or buckets mark [] ++ new ∷ []) [] (λ same. false≢true (sym apart ∙ (Decides-eqb other mark).1 same)))
    ∙ is

-- one more place in a bucket
pub put_place : (blobs buckets : List (List ℕ)) (mark new : ℕ) → mark < most_marks → IsIndexed blobs buckets
    → IsIndexed blobs (set buckets mark (get_or buckets mark [] ++ new ∷ []))
put_place blobs buckets mark new within indexed = record {
  marks = length-set buckets mark (get_or buckets mark [] ++ new ∷ []) ∙ indexed.marks;
  each = λ place inside. put_by place mark (mark_of (get_or blobs place [])) new buckets (mark_of (get_or blobs place []) == mark) refl
      (omega (arith, within, indexed.marks)) (indexed.each place inside);
}

-- one more blob, whose place stands in its bucket
pub put_blob : (blobs buckets : List (List ℕ)) (blob : List ℕ) → IsIndexed blobs buckets → has_number (length blobs) (get_or buckets (mark_of blob) []) ≡ true
    → IsIndexed (blobs ++ blob ∷ []) buckets
put_blob blobs buckets blob indexed here = record { marks = indexed.marks; each = each }
  where
    at_one : (one : List ℕ) → (place : ℕ) → get_or (blobs ++ blob ∷ []) place [] ≡ one → has_number place (get_or buckets (mark_of one) []) ≡ true
        → has_number place (get_or buckets (mark_of (get_or (blobs ++ blob ∷ []) place [])) []) ≡ true
    at_one one place is has = ap (λ (l : List ℕ). has_number place (get_or buckets (mark_of l) [])) is ∙ has

    by : (place : ℕ) → (place < length blobs) ⊎ (length blobs ≤ place) → place < length (blobs ++ blob ∷ [])
        → has_number place (get_or buckets (mark_of (get_or (blobs ++ blob ∷ []) place [])) []) ≡ true
    by place (inl before) inside = at_one (get_or blobs place []) place (get_or_append_left blobs (blob ∷ []) [] place before) (indexed.each place before)
    by place (inr past) inside =
        let last : place ≡ length blobs = omega (arith, past, inside, length-append blobs (blob ∷ [])) in
        at_one blob place (ap (λ (p : ℕ). get_or (blobs ++ blob ∷ []) p []) last ∙ get_or-append_seam blobs blob [] []) (ap (λ (p : ℕ). has_number p (get_or buckets (mark_of blob) [])) last ∙ here)

    each : (place : ℕ) → place < length (blobs ++ blob ∷ []) → has_number place (get_or buckets (mark_of (get_or (blobs ++ blob ∷ []) place [])) []) ≡ true
    each place inside = by place (cases_lt place (length blobs)) inside

-- its place was put in its bucket
pub put_both : (blobs buckets : List (List ℕ)) (blob : List ℕ) → mark_of blob < most_marks → IsIndexed blobs buckets
    → IsIndexed (blobs ++ blob ∷ []) (set buckets (mark_of blob) (get_or buckets (mark_of blob) [] ++ length blobs ∷ []))
put_both blobs buckets blob within indexed =
    put_blob blobs (set buckets (mark_of blob) (get_or buckets (mark_of blob) [] ++ length blobs ∷ [])) blob (put_place blobs buckets (mark_of blob) (length blobs) within indexed)
    (ap (has_number (length blobs)) (get_or-set_same buckets (mark_of blob) (get_or buckets (mark_of blob) [] ++ length blobs ∷ []) [] (omega (arith, within, indexed.marks)))
    ∙ has-last (length blobs) (get_or buckets (mark_of blob) []))

pub none_indexed : (buckets : List (List ℕ)) → length buckets ≡ most_marks → IsIndexed [] buckets
none_indexed buckets marks = record { marks = marks; each = λ place inside. absurd (omega (arith, inside)) }

-- ---- the storage

bucket_put : (buckets : List (Vec ℕ Global)) (mark place : ℕ) (old new : Vec ℕ Global) → mark < length (items_of buckets) → old ≡ get_or buckets mark old → new.items ≡ old.items ++ place ∷ []
    → items_of (set buckets mark new) ≡ set (items_of buckets) mark (get_or (items_of buckets) mark [] ++ place ∷ [])
bucket_put buckets mark place old new within here is =
    map-set (λ (one : Vec ℕ Global). one.items) buckets mark new
    ∙ ap (set (items_of buckets) mark) (is ∙ ap (λ (l : List ℕ). l ++ place ∷ []) (ap (λ (one : Vec ℕ Global). one.items) here
    ∙ sym (get_or-map (λ (one : Vec ℕ Global). one.items) buckets mark old [] (omega (arith, within, length-map buckets (λ (one : Vec ℕ Global). one.items))))))

-- no place was put
pub pushed_none : (blobs buckets : List (Vec ℕ Global)) (mark : ℕ) (old new : Vec ℕ Global) → IsIndexed (items_of blobs) (items_of buckets) → old ≡ get_or buckets mark old → new.items ≡ old.items
    → IsIndexed (items_of blobs) (items_of (set buckets mark new))
pushed_none blobs buckets mark old new indexed here is =
    subst (λ (l : List (List ℕ)). IsIndexed (items_of blobs) l)
    (sym (map-set_same (λ (one : Vec ℕ Global). one.items) buckets mark new old (is ∙ ap (λ (one : Vec ℕ Global). one.items) here))) indexed

-- a place was put, and no blob
pub pushed_place : (blobs after buckets : List (Vec ℕ Global)) (mark place : ℕ) (old new : Vec ℕ Global) → IsIndexed (items_of blobs) (items_of buckets) → mark < most_marks → old ≡ get_or buckets mark old
    → new.items ≡ old.items ++ place ∷ [] → after ≡ blobs → IsIndexed (items_of after) (items_of (set buckets mark new))
pushed_place blobs after buckets mark place old new indexed within here is same =
    subst (λ (l : List (Vec ℕ Global)). IsIndexed (items_of l) (items_of (set buckets mark new))) (sym same)
    (subst (λ (l : List (List ℕ)). IsIndexed (items_of blobs) l) (sym (bucket_put buckets mark place old new (omega (arith, within, indexed.marks)) here is))
    (put_place (items_of blobs) (items_of buckets) mark place within indexed))

-- a blob was put, and its place
pub pushed_both : (blobs after buckets : List (Vec ℕ Global)) (blob : Vec ℕ Global) (mark place : ℕ) (old new : Vec ℕ Global) → IsIndexed (items_of blobs) (items_of buckets) → mark < most_marks → mark ≡ mark_of blob.items
    → place ≡ length blobs → old ≡ get_or buckets mark old → new.items ≡ old.items ++ place ∷ [] → after ≡ blobs ++ blob ∷ [] → IsIndexed (items_of after) (items_of (set buckets mark new))
pushed_both blobs after buckets blob mark place old new indexed within marked placed here is more =
    let count : place ≡ length (items_of blobs) = placed ∙ sym (length-map blobs (λ (one : Vec ℕ Global). one.items)) in
    subst (λ (l : List (Vec ℕ Global)). IsIndexed (items_of l) (items_of (set buckets mark new))) (sym more)
    (subst (λ (l : List (List ℕ)). IsIndexed l (items_of (set buckets mark new))) (sym (map-append (λ (one : Vec ℕ Global). one.items) blobs (blob ∷ [])))
    (subst (λ (l : List (List ℕ)). IsIndexed (items_of blobs ++ blob.items ∷ []) l) (sym (bucket_put buckets mark place old new (omega (arith, within, indexed.marks)) here is))
    (subst (λ (p : ℕ). IsIndexed (items_of blobs ++ blob.items ∷ []) (set (items_of buckets) mark (get_or (items_of buckets) mark [] ++ p ∷ []))) (sym count)
    (subst (λ (m : ℕ). IsIndexed (items_of blobs ++ blob.items ∷ []) (set (items_of buckets) m (get_or (items_of buckets) m [] ++ length (items_of blobs) ∷ []))) (sym marked)
    (put_both (items_of blobs) (items_of buckets) blob.items (omega (arith, within, marked)) indexed)))))

-- the bucket of a blob's mark has its place
pub looked_up : (blobs buckets : List (Vec ℕ Global)) (blob : List ℕ) (mark : ℕ) (bucket : Vec ℕ Global) → IsIndexed (items_of blobs) (items_of buckets) → mark < most_marks → mark ≡ mark_of blob
    → bucket ≡ get_or buckets mark bucket → list_any (is_blob_at blob (items_of blobs)) bucket.items ≡ is_listed blob (items_of blobs)
looked_up blobs buckets blob mark bucket indexed within marked here =
    ap (list_any (is_blob_at blob (items_of blobs))) (ap (λ (one : Vec ℕ Global). one.items) here
    ∙ sym (get_or-map (λ (one : Vec ℕ Global). one.items) buckets mark bucket [] (omega (arith, within, indexed.marks, length-map buckets (λ (one : Vec ℕ Global). one.items))))
    ∙ ap (λ (m : ℕ). get_or (items_of buckets) m []) marked)
    ∙ finds blob (items_of blobs) (items_of buckets) indexed
