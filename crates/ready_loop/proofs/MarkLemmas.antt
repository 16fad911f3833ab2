-- Marks by their ports, which rise: where one stands, and which ports pass a test once one is put or taken.
use Rattle.std.proofs.Common.{◌≡◌, ◌∙◌, ℕ, zero, suc, ◌<◌, ◌≤◌, Bool, true, false, List, [], ◌∷◌, length, get_or, slice_index_or, slice_set, not, filter, refl, sym, ap, subst, arith, Result, Ok, Err, MatchResult, inl, inr, ◌==◌, nat_lt, if◌then◌else◌}
use Rattle.std.proofs.lemmas.Bool.{cases_eq, cases_lt}
use Rattle.std.proofs.lemmas.Bool.Decides.{nat_tests}
use Rattle.std.proofs.lemmas.Cmp.{ranked}
use Rattle.std.proofs.lemmas.List.Sorted.{IsNonDecreasingBy-from_default}
use Rattle.std.specs.List.{insert}
use Rattle.std.specs.List.Sorted.{IsBinarySearchResult, IsSearchInRange, IsNonDecreasingBy}
use Rattle.std.specs.Ordering.{nat_cmp, ordering_index}
use Rattle.lists.specs.Rising.{IsRisingList, IsRisingNumbers, inserted, is_among, removed}
use Rattle.lists.proofs.RisingLemmas.{inserted-among, inserted_below, is_among-below, removed-filter, removed-not_among, removed_below, rising_list, rising_list-inserted, rising_list-removed, rising_lower}
use Rattle.ready_loop.specs.Marks.{HasPort, IsGap, IsPlace, changed, mark_of, marked, no_mark, ports_at, ports_of, unmarked}
use Rattle.ready_loop.specs.declared.marks.Mark.{Mark}

-- ---- where a mark stands

above-at : (low : ℕ) (marks : List Mark) (i : ℕ) (other : Mark)
    → IsRisingNumbers low (ports_of marks)
    → i < length marks → low < (get_or marks i other).port
above-at low [] i other rise within = absurd (omega arith)
above-at low (mark ∷ marks) zero other rise within = rise.0
above-at low (mark ∷ marks) (suc i) other rise within =
    let rest : mark.port < (get_or marks i other).port = above-at mark.port marks i other rise.1 (omega arith) in
    omega (arith, rise.0)

ordered-at : (marks : List Mark) (i j : ℕ) (other : Mark) → IsRisingList (ports_of marks) → i < j
    → j < length marks
    → (get_or marks i other).port < (get_or marks j other).port
ordered-at [] i j other rise order within = absurd (omega arith)
ordered-at (mark ∷ marks) i zero other rise order within = absurd (omega arith)
ordered-at (mark ∷ marks) zero (suc j) other rise order within =
    above-at mark.port marks j other rise (omega arith)
ordered-at (mark ∷ marks) (suc i) (suc j) other rise order within =
    ordered-at marks i j other (rising_list mark.port (ports_of marks) rise) (omega arith) (omega arith)

-- the comparisons with a port rise, as a binary search asks
comparisons_rise : (port : ℕ) (marks : List Mark) → IsRisingList (ports_of marks)
    → IsNonDecreasingBy (λ (mark : Mark). ordering_index (nat_cmp mark.port port)) marks
comparisons_rise port marks rise =
    IsNonDecreasingBy-from_default (λ (mark : Mark). ordering_index (nat_cmp mark.port port)) marks (no_mark port) (λ i j order within. elim (cases_lt i j) [
      | inl before ↦ (let less = ordered-at marks i j (no_mark port) rise before within in grind (arith, nat_tests, less))
      | inr same ↦ (let is : i ≡ j = omega arith in grind (arith, nat_tests, is))
    ])

-- a mark of the port is the port's
pub place-at : (port : ℕ) (marks : List Mark) (place : ℕ) → IsRisingList (ports_of marks)
    → HasPort port marks place
    → IsPlace port marks place
place-at port [] place rise at = absurd (omega (arith, at.within))
place-at port (mark ∷ marks) zero rise at =
    let here : mark.port ≡ port = at.is mark in
    record {
      within = at.within;
      there = grind (arith, nat_tests);
      is = λ other. grind (arith, nat_tests);
      put = λ new same. grind (arith, nat_tests);
      taken = grind (arith, nat_tests);
    }
place-at port (mark ∷ marks) (suc place) rise at =
    let within : place < length marks = omega (arith, at.within) in
    let rest = place-at port marks place (rising_list mark.port (ports_of marks) rise) (record { within = within; is = at.is }) in
    let same : (get_or marks place mark).port ≡ port = at.is mark in
    let above : mark.port < (get_or marks place mark).port = above-at mark.port marks place mark rise within in
    let behind : mark.port < port = omega arith in
    record {
      within = at.within;
      there = grind (arith, nat_tests, rest.there);
      is = λ other. grind (arith, nat_tests, rest.is other);
      put = λ new same. grind (arith, nat_tests, rest.put new same);
      taken = grind (arith, nat_tests, rest.taken);
    }

-- between lesser and greater ones the port has no mark
gap-at : (port : ℕ) (marks : List Mark) (place : ℕ) → place ≤ length marks
    → ((k : ℕ) (other : Mark) → k < place → (get_or marks k other).port < port)
    → ((k : ℕ) (other : Mark) → place ≤ k → k < length marks → port < (get_or marks k other).port)
    → IsGap port marks place
gap-at port [] zero within less greater =
    record { within = within; absent = refl; none = refl; put = λ new same. refl; taken = refl }
gap-at port [] (suc place) within less greater = absurd (omega arith)
gap-at port (mark ∷ marks) zero within less greater =
    let above : port < mark.port = greater 0 mark (omega arith) (omega arith) in
    let rest = gap-at port marks 0 (omega arith) (λ k other h. absurd (omega arith)) (λ k other h l. greater (suc k) other (omega arith) (omega arith)) in
    record {
      within = within;
      absent = grind (arith, nat_tests, rest.absent);
      none = grind (arith, nat_tests, rest.none);
      put = λ new same. grind (arith, nat_tests);
      taken = grind (arith, nat_tests, rest.taken);
    }
gap-at port (mark ∷ marks) (suc place) within less greater =
    let below : mark.port < port = less 0 mark (omega arith) in
    let rest = gap-at port marks place (omega arith) (λ k other h. less (suc k) other (omega arith)) (λ k other h l. greater (suc k) other (omega arith) (omega arith)) in
    record {
      within = within;
      absent = grind (arith, nat_tests, rest.absent);
      none = grind (arith, nat_tests, rest.none);
      put = λ new same. grind (arith, nat_tests, rest.put new same);
      taken = grind (arith, nat_tests, rest.taken);
    }

-- what a binary search by port answers
pub searched_marks : (port : ℕ) (marks : List Mark) (r : Result ℕ ℕ)
    → IsSearchInRange r (length marks)
    → IsBinarySearchResult (λ (mark : Mark). nat_cmp mark.port port) marks r → IsRisingList (ports_of marks)
    → MatchResult r (IsPlace port marks) (IsGap port marks)
searched_marks port marks (Ok place) within answer rise =
    place-at port marks place rise (record { within = within; is = λ other. ranked _ port _ (sym (answer other)) })
searched_marks port marks (Err place) within answer rise =
    let parted = answer (comparisons_rise port marks rise) in
    gap-at port marks place within
    (λ k other before. ranked _ port _ (sym (parted.0 k other (omega arith) before)))
    (λ k other behind inside. ranked _ port _ (sym (parted.1 k other behind inside)))

-- the port's mark is of the port
pub mark_of-port : (port : ℕ) (marks : List Mark) → (mark_of port marks).port ≡ port
mark_of-port port [] = refl
mark_of-port port (mark ∷ marks) = by_test (port == mark.port) refl (mark_of-port port marks)
  where
    by_test : (same : Bool) → (port == mark.port) ≡ same → (mark_of port marks).port ≡ port
        → (if same then mark else mark_of port marks).port ≡ port
    by_test true here rest = grind (arith, nat_tests)
    by_test false here rest = rest

-- a port without a mark has the mark that says so
pub absent-mark : (port : ℕ) (marks : List Mark) → is_among port (ports_of marks) ≡ false
    → mark_of port marks ≡ no_mark port
absent-mark port [] absent = refl
absent-mark port (mark ∷ marks) absent = elim (cases_eq port mark.port) [
  | inl here ↦ absurd (grind (arith, nat_tests))
  | inr apart ↦
      (let later : is_among port (ports_of marks) ≡ false = grind (arith, nat_tests) in
      let rest : mark_of port marks ≡ no_mark port = absent-mark port marks later in
      grind (arith, nat_tests))
]

-- ---- the ports whose marks pass a test

-- with the port among these, or without it
abbrev pub put_if : Bool → ℕ → List ℕ → List ℕ
put_if true port ports = inserted port ports
put_if false port ports = filter (λ other. not (port == other)) ports

-- with the port among these, or without it, as `lists` says it
abbrev put_in_order : Bool → ℕ → List ℕ → List ℕ
put_in_order true port ports = inserted port ports
put_in_order false port ports = removed port ports

module _ (test : Mark → Bool) where
  -- they rise
  rise-at : (low : ℕ) (marks : List Mark) → IsRisingNumbers low (ports_of marks)
      → IsRisingNumbers low (ports_at test marks)
  rise-at low [] rise = tt
  rise-at low (mark ∷ marks) rise = by_test (test mark) (rise-at mark.port marks rise.1)
    where
      by_test : (b : Bool) → IsRisingNumbers mark.port (ports_at test marks)
          → IsRisingNumbers low (if b then mark.port ∷ ports_at test marks else ports_at test marks)
      by_test true rest = (rise.0, rest)
      by_test false rest =
          rising_lower low mark.port (ports_at test marks) (omega (arith, rise.0)) rest

  pub rise_list-at : (marks : List Mark) → IsRisingList (ports_of marks)
      → IsRisingList (ports_at test marks)
  rise_list-at [] rise = tt
  rise_list-at (mark ∷ marks) rise = by_test (test mark) (rise-at mark.port marks rise)
    where
      by_test : (b : Bool) → IsRisingNumbers mark.port (ports_at test marks)
          → IsRisingList (if b then mark.port ∷ ports_at test marks else ports_at test marks)
      by_test true rest = rest
      by_test false rest = rising_list mark.port (ports_at test marks) rest

  -- one of them has a mark that passes
  pub among-at : (port : ℕ) (marks : List Mark) → IsRisingList (ports_of marks)
      → test (no_mark port) ≡ false
      → is_among port (ports_at test marks) ≡ test (mark_of port marks)
  among-at port [] rise none = sym none
  among-at port (mark ∷ marks) rise none =
      by_test (port == mark.port) (test mark) refl refl (rise-at mark.port marks rise)
      (among-at port marks (rising_list mark.port (ports_of marks) rise) none)
    where
      by_test : (same passes : Bool) → (port == mark.port) ≡ same → test mark ≡ passes
          → IsRisingNumbers mark.port (ports_at test marks)
          → is_among port (ports_at test marks) ≡ test (mark_of port marks)
          → is_among port (if passes then mark.port ∷ ports_at test marks else ports_at test marks)
          ≡ test (if same then mark else mark_of port marks)
      by_test true true here is above rest = rw here (sym is)
      by_test true false here is above rest =
          is_among-below mark.port port (ports_at test marks) (grind (arith, nat_tests)) above ∙ sym is
      by_test false true here is above rest = rw here rest
      by_test false false here is above rest = rest

  -- with a mark put in its port's place
  at-put : (new : Mark) (marks : List Mark) → IsRisingList (ports_of marks)
      → ports_at test (marked new marks) ≡ put_in_order (test new) new.port (ports_at test marks)
  at-put new [] rise = by_test (test new)
    where
      by_test : (b : Bool) → (if b then new.port ∷ [] else []) ≡ put_in_order b new.port []
      by_test true = refl
      by_test false = refl
  at-put new (mark ∷ marks) rise =
      by_order (new.port == mark.port) (nat_lt new.port mark.port) refl refl
      (at-put new marks (rising_list mark.port (ports_of marks) rise))
    where
      rest : List ℕ
      rest = ports_at test marks

      above : IsRisingNumbers mark.port rest
      above = rise-at mark.port marks rise

      -- in the place of one that was there
      here : (n m : Bool) → (new.port == mark.port) ≡ true
          → (if n then new.port ∷ rest else rest) ≡ put_in_order n new.port (if m then mark.port ∷ rest else rest)
      here true true same = grind (arith, nat_tests)
      here true false same =
          sym (inserted_below new.port mark.port rest (grind (arith, nat_tests)) above)
      here false true same = grind (arith, nat_tests)
      here false false same =
          sym (removed_below new.port mark.port rest (grind (arith, nat_tests)) above)

      -- in front
      front : (n : Bool) (ports : List ℕ) → IsRisingNumbers new.port ports
          → (if n then new.port ∷ ports else ports) ≡ put_in_order n new.port ports
      front true ports rises = sym (inserted_below new.port new.port ports (omega arith) rises)
      front false ports rises = sym (removed_below new.port new.port ports (omega arith) rises)

      -- behind
      behind : (n m : Bool) (later : List ℕ) → (new.port == mark.port) ≡ false
          → nat_lt new.port mark.port ≡ false
          → later ≡ put_in_order n new.port rest
          → (if m then mark.port ∷ later else later) ≡ put_in_order n new.port (if m then mark.port ∷ rest else rest)
      behind true true later apart greater is =
          rw (apart, greater) (ap (λ (ports : List ℕ). mark.port ∷ ports) is)
      behind false true later apart greater is =
          rw apart (ap (λ (ports : List ℕ). mark.port ∷ ports) is)
      behind n false later apart greater is = is

      by_order : (same less : Bool) → (new.port == mark.port) ≡ same
          → nat_lt new.port mark.port ≡ less
          → ports_at test (marked new marks) ≡ put_in_order (test new) new.port rest
          → ports_at test (if same then new ∷ marks else (if less then new ∷ mark ∷ marks else mark ∷ marked new marks))
          ≡ put_in_order (test new) new.port (ports_at test (mark ∷ marks))
      by_order true less same order later = here (test new) (test mark) same
      by_order false true same order later =
          front (test new) (ports_at test (mark ∷ marks)) (rise-at new.port (mark ∷ marks) (grind (arith, nat_tests), rise))
      by_order false false same order later =
          behind (test new) (test mark) (ports_at test (marked new marks)) same order later

  pub at-marked : (new : Mark) (marks : List Mark) → IsRisingList (ports_of marks)
      → ports_at test (marked new marks) ≡ put_if (test new) new.port (ports_at test marks)
  at-marked new marks rise = at-put new marks rise ∙ by_test (test new)
    where
      by_test : (b : Bool)
          → put_in_order b new.port (ports_at test marks) ≡ put_if b new.port (ports_at test marks)
      by_test true = refl
      by_test false = removed-filter new.port (ports_at test marks) (rise_list-at marks rise)

  -- where the test tells no difference
  pub at-marked_same : (new : Mark) (marks : List Mark) → IsRisingList (ports_of marks)
      → test (no_mark new.port) ≡ false
      → test new ≡ test (mark_of new.port marks) → ports_at test (marked new marks) ≡ ports_at test marks
  at-marked_same new marks rise none same =
      at-put new marks rise ∙ by_test (test new) (among-at new.port marks rise none ∙ sym same)
    where
      by_test : (b : Bool) → is_among new.port (ports_at test marks) ≡ b
          → put_in_order b new.port (ports_at test marks) ≡ ports_at test marks
      by_test true there =
          inserted-among new.port (ports_at test marks) (rise_list-at marks rise) there
      by_test false there = removed-not_among new.port (ports_at test marks) there

  -- without a port's mark
  at-taken : (port : ℕ) (marks : List Mark) → IsRisingList (ports_of marks)
      → ports_at test (unmarked port marks) ≡ removed port (ports_at test marks)
  at-taken port [] rise = refl
  at-taken port (mark ∷ marks) rise =
      by_port (port == mark.port) refl (at-taken port marks (rising_list mark.port (ports_of marks) rise))
    where
      rest : List ℕ
      rest = ports_at test marks

      here : (b : Bool) → (port == mark.port) ≡ true
          → rest ≡ removed port (if b then mark.port ∷ rest else rest)
      here true same = rw same refl
      here false same = sym (removed_below port mark.port rest (grind (arith, nat_tests)) (rise-at mark.port marks rise))

      behind : (b : Bool) (later : List ℕ) → (port == mark.port) ≡ false → later ≡ removed port rest
          → (if b then mark.port ∷ later else later) ≡ removed port (if b then mark.port ∷ rest else rest)
      behind true later apart is = rw apart (ap (λ (ports : List ℕ). mark.port ∷ ports) is)
      behind false later apart is = is

      by_port : (same : Bool) → (port == mark.port) ≡ same
          → ports_at test (unmarked port marks) ≡ removed port rest
          → ports_at test (if same then marks else mark ∷ unmarked port marks) ≡ removed port (ports_at test (mark ∷ marks))
      by_port true same later = here (test mark) same
      by_port false same later = behind (test mark) (ports_at test (unmarked port marks)) same later

  pub at-unmarked : (port : ℕ) (marks : List Mark) → IsRisingList (ports_of marks)
      → ports_at test (unmarked port marks) ≡ filter (λ other. not (port == other)) (ports_at test marks)
  at-unmarked port marks rise =
      at-taken port marks rise ∙ removed-filter port (ports_at test marks) (rise_list-at marks rise)

-- ---- the ports rise yet

pub rise-marked : (new : Mark) (marks : List Mark) → IsRisingList (ports_of marks)
    → IsRisingList (ports_of (marked new marks))
rise-marked new marks rise =
    subst IsRisingList (sym (at-put (λ mark. true) new marks rise)) (rising_list-inserted new.port (ports_of marks) rise)

pub rise-unmarked : (port : ℕ) (marks : List Mark) → IsRisingList (ports_of marks)
    → IsRisingList (ports_of (unmarked port marks))
rise-unmarked port marks rise =
    subst IsRisingList (sym (at-taken (λ mark. true) port marks rise)) (rising_list-removed port (ports_of marks) rise)

-- ---- a mark is changed where it stands, or put where it goes

module _ (port place : ℕ) (marks seen : List Mark) (found : Mark) (change : Mark → Mark) (same : seen ≡ marks)
    (at : IsPlace port seen place) (value : found ≡ slice_index_or marks place found)
    (keeps : (mark : Mark) → (change mark).port ≡ mark.port) where
  here : IsPlace port marks place
  here = subst (λ (ms : List Mark). IsPlace port ms place) same at

  own : (change (mark_of port marks)).port ≡ port
  own = keeps (mark_of port marks) ∙ mark_of-port port marks

  pub marked-in_place : slice_set marks place (change found) ≡ marked (change (mark_of port marks)) marks
  marked-in_place =
      ap (λ (mark : Mark). slice_set marks place (change mark)) (value ∙ here.is found)
      ∙ sym (here.put (change (mark_of port marks)) own)

  pub changed-in_place : slice_set marks place (change found) ≡ changed (change (mark_of port marks)) marks
  changed-in_place =
      marked-in_place
      ∙ sym (ap (λ (b : Bool). if b then marked (change (mark_of port marks)) marks else marks)
      (ap (λ (p : ℕ). is_among p (ports_of marks)) own ∙ here.there))

  pub rise-in_place : IsRisingList (ports_of marks)
      → IsRisingList (ports_of (slice_set marks place (change found)))
  rise-in_place rise =
      subst (λ (ms : List Mark). IsRisingList (ports_of ms)) (sym marked-in_place)
      (rise-marked (change (mark_of port marks)) marks rise)

pub rise-put : (new : Mark) (place : ℕ) (marks seen : List Mark) → seen ≡ marks
    → IsGap new.port seen place
    → IsRisingList (ports_of marks) → IsRisingList (ports_of (insert marks place new))
rise-put new place marks seen same gap rise =
    let here : IsGap new.port marks place = subst (λ (ms : List Mark). IsGap new.port ms place) same gap in
    subst (λ (ms : List Mark). IsRisingList (ports_of ms)) (here.put new refl) (rise-marked new marks rise)
