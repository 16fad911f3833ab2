-- Lines, by their entries and by the grammar.
use Rattle.std.proofs.Common.{◌≡◌, ◌≢◌, ℕ, ◌<◌, nat_eq, Bool, true, false, cond, List, [], ◌∷◌, ◌++◌, drop, length, Some, None, refl, sym, ap, subst, ◌∙◌, arith}
use Rattle.std.specs.Prelude.{All, codes}
use Rattle.std.specs.List.{slice_split, onto_first, starts_with}
use Rattle.std.specs.Str.{bytes_eq}
use Rattle.std.proofs.lemmas.Bool.Decides.{Decides-eqb}
use Rattle.std.proofs.lemmas.List.Elements.{All-cons, All-tail, All-filter}
use Rattle.std.proofs.lemmas.Slice.Eq.{starts_is, bytes_eq-Decides}
use Rattle.wire_text.specs.Wire.{IsBytes}
use Rattle.known_hosts.specs.declared.parts.Mark.TheVariants.{Blank}
use Rattle.known_hosts.specs.Parts.{ends, parts, is_some_part, fields_of}
use Rattle.known_hosts.specs.Entries.{Entry, authority_marker, markers, IsUnmarked, IsEntry, entry_with, authority_entry, marked_entry, entry_in}

-- ---- fields are bytes of the line

nothing : (P : List ℕ → Type 0) → All P []
nothing P i d within = absurd (omega arith)

no_bytes : IsBytes []
no_bytes i d within = absurd (omega arith)

onto_bytes : (x : ℕ) (pieces : List (List ℕ)) → x < 256 → All IsBytes pieces
    → All IsBytes (onto_first x pieces)
onto_bytes x [] small each = All-cons IsBytes (x ∷ []) [] (All-cons (λ byte. byte < 256) x [] small no_bytes) (nothing IsBytes)
onto_bytes x (piece ∷ pieces) small each =
    All-cons IsBytes (x ∷ piece) pieces (All-cons (λ byte. byte < 256) x piece small (each 0 [] (omega arith))) (All-tail IsBytes piece pieces each)

piece_bytes : (x : ℕ) (test : Bool) (pieces : List (List ℕ)) → x < 256 → All IsBytes pieces
    → All IsBytes (cond test ([] ∷ pieces) (onto_first x pieces))
piece_bytes x true pieces small each = All-cons IsBytes [] pieces no_bytes each
piece_bytes x false pieces small each = onto_bytes x pieces small each

split_bytes : (p : ℕ → Bool) (text : List ℕ) → IsBytes text → All IsBytes (slice_split p text)
split_bytes p [] small = All-cons IsBytes [] [] no_bytes (nothing IsBytes)
split_bytes p (x ∷ text) small =
    piece_bytes x (p x) (slice_split p text) (small 0 0 (omega arith)) (split_bytes p text (All-tail (λ byte. byte < 256) x text small))

pub field_bytes : (line : List ℕ) → IsBytes line → All IsBytes (fields_of line)
field_bytes line small = All-filter is_some_part IsBytes (parts Blank line) (split_bytes (ends Blank) line small)

-- ---- entries

-- the fields are these, behind their markers
record AreFields (fields : List (List ℕ)) (entry : Entry) : Type 0 where
  more : List (List ℕ)
  whole : fields ≡ markers entry.authority ++ (entry.hosts ∷ entry.type_name ∷ entry.encoded ∷ more)
  unmarked : IsUnmarked entry.authority entry.hosts

-- the fields behind the markers
record AreRest (authority : Bool) (hosts : List ℕ) (rest : List (List ℕ)) (entry : Entry) : Type 0 where
  more : List (List ℕ)
  marked : entry.authority ≡ authority
  first : entry.hosts ≡ hosts
  whole : rest ≡ entry.type_name ∷ entry.encoded ∷ more

rest_of : (authority : Bool) (hosts : List ℕ) (rest : List (List ℕ)) (entry : Entry)
    → entry_with authority hosts rest ≡ Some entry → AreRest authority hosts rest entry
unfolding entry_with
rest_of authority hosts [] entry e = absurd cc
rest_of authority hosts (type ∷ []) entry e = absurd cc
rest_of authority hosts (type ∷ encoded ∷ more) entry e =
    let made : Entry = record { hosts = hosts; type_name = type; encoded = encoded; authority = authority } in
    let same : made ≡ entry = cc in
    subst (AreRest authority hosts (type ∷ encoded ∷ more)) same (record { more = more; marked = refl; first = refl; whole = refl })

-- the markers and the fields behind them
behind : (authority : Bool) (hosts : List ℕ) (rest : List (List ℕ)) (entry : Entry) (r : AreRest authority hosts rest entry)
    →
    markers authority ++ (hosts ∷ rest) ≡ markers entry.authority ++ (entry.hosts ∷ entry.type_name ∷ entry.encoded ∷ r.more)
behind authority hosts rest entry r =
    ap (λ (a : Bool). markers a ++ (hosts ∷ rest)) (sym r.marked)
    ∙ ap (λ (h : List ℕ). markers entry.authority ++ (h ∷ rest)) (sym r.first)
    ∙ ap (λ (l : List (List ℕ)). markers entry.authority ++ (entry.hosts ∷ l)) r.whole

begins : (text mark : List ℕ) (test : Bool) → starts_with nat_eq text mark ≡ test → test ≡ true
    → text ≡ mark ++ drop (length mark) text
begins text mark test is e = (starts_is Decides-eqb text mark test (sym is)).0 e

begins_again : (text mark rest : List ℕ) → text ≡ mark ++ rest → starts_with nat_eq text mark ≡ true
begins_again text mark rest whole = (starts_is Decides-eqb text mark (starts_with nat_eq text mark) refl).1 rest whole

authority_of : (first : List ℕ) (rest : List (List ℕ)) (entry : Entry) → first ≡ authority_marker
    → authority_entry rest ≡ Some entry → AreFields (first ∷ rest) entry
authority_of first [] entry is e = absurd cc
authority_of first (hosts ∷ rest) entry is e =
    let r = rest_of true hosts rest entry e in
    record {
      more = r.more;
      whole = ap (λ (f : List ℕ). f ∷ hosts ∷ rest) is ∙ behind true hosts rest entry r;
      unmarked = subst (λ (a : Bool). IsUnmarked a entry.hosts) (sym r.marked) tt;
    }

plain_of : (first : List ℕ) (rest : List (List ℕ)) (entry : Entry)
    → ((text : List ℕ) → first ≢ 64 ∷ text) → entry_with false first rest ≡ Some entry
    → AreFields (first ∷ rest) entry
plain_of first rest entry free e =
    let r = rest_of false first rest entry e in
    record {
      more = r.more;
      whole = behind false first rest entry r;
      unmarked = subst (λ (a : Bool). IsUnmarked a entry.hosts) (sym r.marked) (subst (λ (h : List ℕ). (text : List ℕ) → h ≢ 64 ∷ text) (sym r.first) free);
    }

marked_is : (fields : List (List ℕ)) (entry : Entry) → marked_entry fields ≡ Some entry
    → AreFields fields entry
unfolding marked_entry
marked_is [] entry e = absurd cc
marked_is (first ∷ rest) entry e = by_mark (starts_with nat_eq first (codes "@")) refl e
  where
    by_word : (test : Bool) → bytes_eq first authority_marker ≡ test
        → cond test (authority_entry rest) None ≡ Some entry → AreFields (first ∷ rest) entry
    by_word true is e = authority_of first rest entry ((bytes_eq-Decides first authority_marker).0 is) e
    by_word false is e = absurd cc

    by_mark : (test : Bool) → starts_with nat_eq first (codes "@") ≡ test →
        cond test (cond (bytes_eq first authority_marker) (authority_entry rest) None) (entry_with false first rest) ≡ Some entry → AreFields (first ∷ rest) entry
    by_mark true is e = by_word (bytes_eq first authority_marker) refl e
    by_mark false is e = plain_of first rest entry (λ text same. let yes = begins_again first (codes "@") text same in cc (is, yes)) e

pub entry_is : (line : List ℕ) (entry : Entry) → entry_in line ≡ Some entry → IsEntry line entry
unfolding entry_in
entry_is line entry e = by_comment (starts_with nat_eq line (codes "#")) refl e
  where
    by_comment : (test : Bool) → starts_with nat_eq line (codes "#") ≡ test
        → cond test None (marked_entry (fields_of line)) ≡ Some entry → IsEntry line entry
    by_comment true is e = absurd cc
    by_comment false is e =
        let fields = marked_is (fields_of line) entry e in
        record {
          no_comment = λ rest same. let yes = begins_again line (codes "#") rest same in cc (is, yes);
          more = fields.more;
          fields = fields.whole;
          unmarked = fields.unmarked;
        }

not_begun : (text mark : List ℕ) (test : Bool) → starts_with nat_eq text mark ≡ test
    → ((rest : List ℕ) → text ≢ mark ++ rest) → test ≡ false
not_begun text mark true is other = absurd (other (drop (length mark) text) (begins text mark true is refl))
not_begun text mark false is other = refl

marked_again : (authority : Bool) (hosts type encoded : List ℕ) (more : List (List ℕ))
    → IsUnmarked authority hosts →
    marked_entry (markers authority ++ (hosts ∷ type ∷ encoded ∷ more)) ≡ Some (record { hosts = hosts; type_name = type; encoded = encoded; authority = authority })
unfolding marked_entry entry_with
marked_again true hosts type encoded more free = refl
marked_again false hosts type encoded more free = rw (not_begun hosts (codes "@") (starts_with nat_eq hosts (codes "@")) refl free) refl

pub entry_again : (line : List ℕ) (entry : Entry) → IsEntry line entry → entry_in line ≡ Some entry
unfolding entry_in
entry_again line entry is =
    rw (not_begun line (codes "#") (starts_with nat_eq line (codes "#")) refl is.no_comment, is.fields)
    (marked_again entry.authority entry.hosts entry.type_name entry.encoded is.more is.unmarked)
