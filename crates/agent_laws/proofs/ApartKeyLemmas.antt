-- Lemmas on specs/Apart.antt: identities that are the same but for hidden ones.
use Rattle.std.proofs.Common.{◌≡◌, ℕ, ◌-◌, ◌==◌, List, [], ◌∷◌, map, filter, arith, refl, ap, sym, subst, ◌∙◌, Option, Some, None, Bool, true, false, cond}
use Rattle.std.specs.Option.{IfSome}
use Rattle.std.specs.Str.{bytes_eq}
use Rattle.std.proofs.lemmas.Bool.Decides.{nat_tests}
use Rattle.std.proofs.lemmas.Slice.Eq.{bytes_eq-Decides}
use Rattle.identity_table.specs.Deaths.{lives_at}
use Rattle.identity_table.specs.Identities.{HaveOwnNumbers, HeldKey, alive_at, find_identity, find_number, in_front, put_identity, remove_identity, spend_identity, used_by}
use Rattle.identity_table.proofs.NumberLaws.{number_of_found}
use Rattle.dest_rule.specs.Rules.{visible}
use Rattle.agent_model.specs.KeyStates.{shown}
use Rattle.agent_model.specs.State.{Port}
use Rattle.agent_model.proofs.UnseenLemmas.{find_identity-cons}
use Rattle.agent_laws.specs.Apart.{AreAlikeKeys, AreUnseen, Insiders, both, first_has, none, second_has}

-- an identity under another number
abbrev pub renumbered : ℕ → HeldKey → HeldKey
renumbered number key = record key { number = number }

-- ---- numbers

itself : (one two : ℕ) → one ≡ two → (one == two) ≡ true
itself one two same = grind (arith, nat_tests, same)

-- an identity whose number none of the others has isn't one that is found among them
not_first : (blob : List ℕ) (first : HeldKey) (keys : List HeldKey) (key : HeldKey) (last : ℕ)
    → find_number first.number keys ≡ None → HaveOwnNumbers last keys
    → find_identity blob keys ≡ Some key → (first.number == key.number) ≡ false
not_first blob first keys key last apart own found = by_test (first.number == key.number) refl
  where
    by_test : (same : Bool) → (first.number == key.number) ≡ same
        → (first.number == key.number) ≡ false
    by_test false is = is
    by_test true is =
        let equal : first.number ≡ key.number = grind (arith, nat_tests, is) in
        let clash : None ≡ Some key = sym apart ∙ ap (λ n. find_number n keys) equal ∙ (number_of_found blob last keys key own found).1 in
        absurd (cc)

-- what isn't the first is behind it
passed : (test : Bool) (first : HeldKey) (later : Option HeldKey) (key : HeldKey)
    → (test ≡ true → ⊥) → cond test (Some first) later ≡ Some key → later ≡ Some key
passed true first later key never is = absurd (never refl)
passed false first later key never is = is

module _ (who : Insiders) where
  -- a hidden identity has another blob than one that isn't
  differs : (key : HeldKey) (blob : List ℕ) → who.is_hidden key.blob ≡ true
      → who.is_hidden blob ≡ false → bytes_eq key.blob blob ≡ true → ⊥
  differs key blob hidden open_one same =
      let equal : key.blob ≡ blob = (bytes_eq-Decides key.blob blob).0 same in
      let no : true ≡ false = sym hidden ∙ ap who.is_hidden equal ∙ open_one in
      absurd (cc)

  -- ---- what is found

  pub data FindsAlike : Option HeldKey → Option HeldKey → Type 0 where
    neither : FindsAlike None None
    found : (key : HeldKey) (number : ℕ) → key.confirm ≡ false
        → FindsAlike (Some key) (Some (renumbered number key))

  find_none : (blob : List ℕ) → find_identity blob [] ≡ None
  unfolding find_identity
  find_none blob = refl

  -- by what the first of the first list, of the second or of both finds
  finds_both : (test : Bool) (key : HeldKey) (number : ℕ) (one two : Option HeldKey)
      → key.confirm ≡ false → FindsAlike one two
      → FindsAlike (cond test (Some key) one) (cond test (Some (renumbered number key)) two)
  finds_both true key number one two plain later = found key number plain
  finds_both false key number one two plain later = later

  finds_first : (test : Bool) (key : HeldKey) (one two : Option HeldKey) → (test ≡ true → ⊥)
      → FindsAlike one two → FindsAlike (cond test (Some key) one) two
  finds_first true key one two never later = absurd (never refl)
  finds_first false key one two never later = later

  finds_second : (test : Bool) (key : HeldKey) (one two : Option HeldKey) → (test ≡ true → ⊥)
      → FindsAlike one two → FindsAlike one (cond test (Some key) two)
  finds_second true key one two never later = absurd (never refl)
  finds_second false key one two never later = later

  -- a blob that isn't hidden finds the same
  pub finds-alike : (blob : List ℕ) → who.is_hidden blob ≡ false → {ones twos : List HeldKey}
      → AreAlikeKeys who ones twos → FindsAlike (find_identity blob ones) (find_identity blob twos)
  finds-alike blob open_one none = subst (λ f. FindsAlike f f) (sym (find_none blob)) neither
  finds-alike blob open_one (both {ones = ones} {twos = twos} key number shown_one plain rest) =
      subst (λ f. FindsAlike f (find_identity blob (renumbered number key ∷ twos))) (sym (find_identity-cons blob key ones))
      (subst (FindsAlike (cond (bytes_eq key.blob blob) (Some key) (find_identity blob ones))) (sym (find_identity-cons blob (renumbered number key) twos))
      (finds_both (bytes_eq key.blob blob) key number (find_identity blob ones) (find_identity blob twos) plain (finds-alike blob open_one rest)))
  finds-alike blob open_one (first_has {ones = ones} {twos = twos} key hidden rest) =
      subst (λ f. FindsAlike f (find_identity blob twos)) (sym (find_identity-cons blob key ones))
      (finds_first (bytes_eq key.blob blob) key (find_identity blob ones) (find_identity blob twos) (differs key blob hidden open_one) (finds-alike blob open_one rest))
  finds-alike blob open_one (second_has {ones = ones} {twos = twos} key hidden rest) =
      subst (FindsAlike (find_identity blob ones)) (sym (find_identity-cons blob key twos))
      (finds_second (bytes_eq key.blob blob) key (find_identity blob ones) (find_identity blob twos) (differs key blob hidden open_one) (finds-alike blob open_one rest))

  -- ---- what is seen

  module _ (port : Port) (wall : ℕ) where
    -- this identity isn't seen
    abbrev pub IsUnseen : HeldKey → Type 0
    IsUnseen key = visible key.rules port.chain port.attempted wall ≡ false

    unseen_by : (test : Bool) (key : HeldKey) (later : Option HeldKey)
        → (test ≡ true → IsUnseen key) → IfSome later IsUnseen
        → IfSome (cond test (Some key) later) IsUnseen
    unseen_by true key later here there = here refl
    unseen_by false key later here there = there

    -- what a hidden blob finds isn't seen
    pub unseen-found : (blob : List ℕ) → who.is_hidden blob ≡ true → (keys : List HeldKey)
        → AreUnseen who port wall keys → IfSome (find_identity blob keys) IsUnseen
    unseen-found blob hidden [] all =
        subst (λ (f : Option HeldKey). IfSome f IsUnseen) (sym (find_none blob)) tt
    unseen-found blob hidden (key ∷ keys) all =
        subst (λ (f : Option HeldKey). IfSome f IsUnseen) (sym (find_identity-cons blob key keys))
        (unseen_by (bytes_eq key.blob blob) key (find_identity blob keys)
        (λ same. all.0 (ap who.is_hidden ((bytes_eq-Decides key.blob blob).0 same) ∙ hidden))
        (unseen-found blob hidden keys all.1))

    abbrev is_seen : HeldKey → Bool
    is_seen key = visible key.rules port.chain port.attempted wall

    listed_by : (test : Bool) (key : HeldKey) (number : ℕ) (ones twos : List HeldKey)
        → map shown ones ≡ map shown twos
        → map shown (cond test (key ∷ ones) ones) ≡ map shown (cond test (renumbered number key ∷ twos) twos)
    listed_by true key number ones twos same =
        ap (λ (l : List (List ℕ × List ℕ)). shown key ∷ l) same
    listed_by false key number ones twos same = same

    -- alike keys are listed alike
    pub listed-alike : {ones twos : List HeldKey} → AreAlikeKeys who ones twos
        → AreUnseen who port wall ones → AreUnseen who port wall twos
        → map shown (filter is_seen ones) ≡ map shown (filter is_seen twos)
    listed-alike none unseen unseen_two = refl
    listed-alike (both {ones = ones} {twos = twos} key number shown_one plain rest) unseen unseen_two =
        listed_by (is_seen key) key number (filter is_seen ones) (filter is_seen twos) (listed-alike rest unseen.1 unseen_two.1)
    listed-alike (first_has {ones = ones} {twos = twos} key hidden rest) unseen unseen_two =
        ap (λ (b : Bool). map shown (cond b (key ∷ filter is_seen ones) (filter is_seen ones))) (unseen.0 hidden) ∙ listed-alike rest unseen.1 unseen_two
    listed-alike (second_has {ones = ones} {twos = twos} key hidden rest) unseen unseen_two =
        listed-alike rest unseen unseen_two.1 ∙ sym (ap (λ (b : Bool). map shown (cond b (key ∷ filter is_seen twos) (filter is_seen twos))) (unseen_two.0 hidden))

  -- ---- what is held later

  alive_both : (test : Bool) (key : HeldKey) (number : ℕ) {ones twos : List HeldKey}
      → who.is_hidden key.blob ≡ false → key.confirm ≡ false → AreAlikeKeys who ones twos
      → AreAlikeKeys who (cond test (key ∷ ones) ones) (cond test (renumbered number key ∷ twos) twos)
  alive_both true key number shown_one plain rest = both key number shown_one plain rest
  alive_both false key number shown_one plain rest = rest

  alive_first : (test : Bool) (key : HeldKey) {ones twos : List HeldKey}
      → who.is_hidden key.blob ≡ true → AreAlikeKeys who ones twos
      → AreAlikeKeys who (cond test (key ∷ ones) ones) twos
  alive_first true key hidden rest = first_has key hidden rest
  alive_first false key hidden rest = rest

  alive_second : (test : Bool) (key : HeldKey) {ones twos : List HeldKey}
      → who.is_hidden key.blob ≡ true → AreAlikeKeys who ones twos
      → AreAlikeKeys who ones (cond test (key ∷ twos) twos)
  alive_second true key hidden rest = second_has key hidden rest
  alive_second false key hidden rest = rest

  pub alive-alike : (second : ℕ) {ones twos : List HeldKey} → AreAlikeKeys who ones twos
      → AreAlikeKeys who (alive_at second ones) (alive_at second twos)
  unfolding alive_at
  alive-alike second none = none
  alive-alike second (both key number shown_one plain rest) =
      alive_both (lives_at second key.death) key number shown_one plain (alive-alike second rest)
  alive-alike second (first_has key hidden rest) =
      alive_first (lives_at second key.death) key hidden (alive-alike second rest)
  alive-alike second (second_has key hidden rest) =
      alive_second (lives_at second key.death) key hidden (alive-alike second rest)

  removed_both : (test : Bool) (key : HeldKey) (number : ℕ) {ones twos less fewer : List HeldKey}
      → who.is_hidden key.blob ≡ false → key.confirm ≡ false → AreAlikeKeys who ones twos
      → AreAlikeKeys who less fewer
      → AreAlikeKeys who (cond test ones (key ∷ less)) (cond test twos (renumbered number key ∷ fewer))
  removed_both true key number shown_one plain whole rest = whole
  removed_both false key number shown_one plain whole rest = both key number shown_one plain rest

  removed_first : (test : Bool) (key : HeldKey) (ones : List HeldKey) {less fewer : List HeldKey}
      → who.is_hidden key.blob ≡ true → (test ≡ true → ⊥) → AreAlikeKeys who less fewer
      → AreAlikeKeys who (cond test ones (key ∷ less)) fewer
  removed_first true key ones hidden never rest = absurd (never refl)
  removed_first false key ones hidden never rest = first_has key hidden rest

  removed_second : (test : Bool) (key : HeldKey) (twos : List HeldKey) {less fewer : List HeldKey}
      → who.is_hidden key.blob ≡ true → (test ≡ true → ⊥) → AreAlikeKeys who less fewer
      → AreAlikeKeys who less (cond test twos (key ∷ fewer))
  removed_second true key twos hidden never rest = absurd (never refl)
  removed_second false key twos hidden never rest = second_has key hidden rest

  pub removed-alike : (blob : List ℕ) → who.is_hidden blob ≡ false → {ones twos : List HeldKey}
      → AreAlikeKeys who ones twos
      → AreAlikeKeys who (remove_identity blob ones) (remove_identity blob twos)
  unfolding remove_identity
  removed-alike blob open_one none = none
  removed-alike blob open_one (both key number shown_one plain rest) =
      removed_both (bytes_eq key.blob blob) key number shown_one plain rest (removed-alike blob open_one rest)
  removed-alike blob open_one (first_has {ones = ones} key hidden rest) =
      removed_first (bytes_eq key.blob blob) key ones hidden (differs key blob hidden open_one) (removed-alike blob open_one rest)
  removed-alike blob open_one (second_has {twos = twos} key hidden rest) =
      removed_second (bytes_eq key.blob blob) key twos hidden (differs key blob hidden open_one) (removed-alike blob open_one rest)

  module _ (new : HeldKey) (number : ℕ) (shown_new : who.is_hidden new.blob ≡ false) (plain_new : new.confirm ≡ false) where
    put_both : (test : Bool) (key : HeldKey) (n : ℕ) {ones twos more most : List HeldKey}
        → who.is_hidden key.blob ≡ false → key.confirm ≡ false → AreAlikeKeys who ones twos
        → AreAlikeKeys who more most
        → AreAlikeKeys who (cond test (new ∷ ones) (key ∷ more)) (cond test (renumbered number new ∷ twos) (renumbered n key ∷ most))
    put_both true key n shown_one plain whole rest = both new number shown_new plain_new whole
    put_both false key n shown_one plain whole rest = both key n shown_one plain rest

    pub put-alike : {ones twos : List HeldKey} → AreAlikeKeys who ones twos
        → AreAlikeKeys who (put_identity new ones) (put_identity (renumbered number new) twos)
    unfolding put_identity
    put-alike none = both new number shown_new plain_new none
    put-alike (both key n shown_one plain rest) =
        put_both (bytes_eq key.blob new.blob) key n shown_one plain rest (put-alike rest)
    put-alike (first_has {ones = ones} key hidden rest) =
        removed_first (bytes_eq key.blob new.blob) key (new ∷ ones) hidden (differs key new.blob hidden shown_new) (put-alike rest)
    put-alike (second_has {twos = twos} key hidden rest) =
        removed_second (bytes_eq key.blob new.blob) key (renumbered number new ∷ twos) hidden (differs key new.blob hidden shown_new) (put-alike rest)

  -- ---- uses

  -- in front of others, what is left of one that both hold
  front_both : (uses : Option ℕ) (key : HeldKey) (number : ℕ) {ones twos : List HeldKey}
      → who.is_hidden key.blob ≡ false → key.confirm ≡ false → AreAlikeKeys who ones twos
      → AreAlikeKeys who (in_front (used_by uses key) ones) (in_front (used_by uses (renumbered number key)) twos)
  front_both None key number shown_one plain rest = both key number shown_one plain rest
  front_both (Some uses) key number {ones = ones} {twos = twos} shown_one plain rest = by_zero (uses - 1 == 0)
    where
      by_zero : (gone : Bool)
          → AreAlikeKeys who (in_front (cond gone None (Some (record key { uses = Some (uses - 1) }))) ones) (in_front (cond gone None (Some (record (renumbered number key) { uses = Some (uses - 1) }))) twos)
      by_zero true = rest
      by_zero false = both (record key { uses = Some (uses - 1) }) number shown_one plain rest

  -- one more use of what a blob that isn't hidden finds, under its number in each list
  pub spent-alike : (blob : List ℕ) → who.is_hidden blob ≡ false
      → (one two : HeldKey) (last_one last_two : ℕ) {ones twos : List HeldKey}
      → AreAlikeKeys who ones twos → HaveOwnNumbers last_one ones → HaveOwnNumbers last_two twos
      → find_identity blob ones ≡ Some one → find_identity blob twos ≡ Some two
      → AreAlikeKeys who (spend_identity one.number ones) (spend_identity two.number twos)
  unfolding find_identity find_number spend_identity HaveOwnNumbers
  spent-alike blob open_one one two last_one last_two none own own_two is is_two = none
  spent-alike blob open_one one two last_one last_two (both {ones = ones} {twos = twos} key number shown_one plain rest) own own_two is is_two =
      by_test (bytes_eq key.blob blob) is is_two (λ there there_two. spent-alike blob open_one one two last_one last_two rest own.2 own_two.2 there there_two)
    where
      by_test : (test : Bool) → cond test (Some key) (find_identity blob ones) ≡ Some one
          → cond test (Some (renumbered number key)) (find_identity blob twos) ≡ Some two
          → (find_identity blob ones ≡ Some one → find_identity blob twos ≡ Some two → AreAlikeKeys who (spend_identity one.number ones) (spend_identity two.number twos))
          → AreAlikeKeys who (cond (key.number == one.number) (in_front (used_by key.uses key) ones) (key ∷ spend_identity one.number ones)) (cond (number == two.number) (in_front (used_by (renumbered number key).uses (renumbered number key)) twos) (renumbered number key ∷ spend_identity two.number twos))
      by_test true here here_two later =
          let e : key ≡ one = cc in
          let e_two : renumbered number key ≡ two = cc in
          let same : (key.number == one.number) ≡ true = itself key.number one.number (ap (λ (k : HeldKey). k.number) e) in
          let same_two : (number == two.number) ≡ true = itself number two.number (ap (λ (k : HeldKey). k.number) e_two) in
          rw (same, same_two) (front_both key.uses key number shown_one plain rest)
      by_test false here here_two later =
          let differ : (key.number == one.number) ≡ false = not_first blob key ones one last_one own.1 own.2 here in
          let differ_two : (number == two.number) ≡ false = not_first blob (renumbered number key) twos two last_two own_two.1 own_two.2 here_two in
          rw (differ, differ_two) (both key number shown_one plain (later here here_two))
  spent-alike blob open_one one two last_one last_two (first_has {ones = ones} {twos = twos} key hidden rest) own own_two is is_two =
      let there : find_identity blob ones ≡ Some one = passed (bytes_eq key.blob blob) key (find_identity blob ones) one (differs key blob hidden open_one) is in
      let differ : (key.number == one.number) ≡ false = not_first blob key ones one last_one own.1 own.2 there in
      subst (λ b. AreAlikeKeys who (cond b (in_front (used_by key.uses key) ones) (key ∷ spend_identity one.number ones)) (spend_identity two.number twos)) (sym differ)
      (first_has key hidden (spent-alike blob open_one one two last_one last_two rest own.2 own_two there is_two))
  spent-alike blob open_one one two last_one last_two (second_has {ones = ones} {twos = twos} key hidden rest) own own_two is is_two =
      let there : find_identity blob twos ≡ Some two = passed (bytes_eq key.blob blob) key (find_identity blob twos) two (differs key blob hidden open_one) is_two in
      let differ : (key.number == two.number) ≡ false = not_first blob key twos two last_two own_two.1 own_two.2 there in
      subst (λ b. AreAlikeKeys who (spend_identity one.number ones) (cond b (in_front (used_by key.uses key) twos) (key ∷ spend_identity two.number twos))) (sym differ)
      (second_has key hidden (spent-alike blob open_one one two last_one last_two rest own own_two.2 is there))

  -- ---- one relation behind another

  pub keys-in_turn : {ones twos threes : List HeldKey} → AreAlikeKeys who ones twos
      → AreAlikeKeys who twos threes → AreAlikeKeys who ones threes
  keys-in_turn none none = none
  keys-in_turn none (second_has key hidden rest) = second_has key hidden (keys-in_turn none rest)
  keys-in_turn (both key number shown_one plain rest) (both same n shown_two plain_two later) =
      both key n shown_one plain (keys-in_turn rest later)
  keys-in_turn (both key number shown_one plain rest) (first_has same hidden later) =
      absurd (let no : false ≡ true = sym shown_one ∙ hidden in cc)
  keys-in_turn (both key number shown_one plain rest) (second_has other hidden later) =
      second_has other hidden (keys-in_turn (both key number shown_one plain rest) later)
  keys-in_turn (first_has key hidden rest) later = first_has key hidden (keys-in_turn rest later)
  keys-in_turn (second_has key hidden rest) (both same n shown_two plain_two later) =
      absurd (let no : true ≡ false = sym hidden ∙ shown_two in cc)
  keys-in_turn (second_has key hidden rest) (first_has same hidden_two later) =
      keys-in_turn rest later
  keys-in_turn (second_has key hidden rest) (second_has other hidden_two later) =
      second_has other hidden_two (keys-in_turn (second_has key hidden rest) later)

  pub keys-turned : {ones twos : List HeldKey} → AreAlikeKeys who ones twos
      → AreAlikeKeys who twos ones
  keys-turned none = none
  keys-turned (both key number shown_one plain rest) =
      both (renumbered number key) key.number shown_one plain (keys-turned rest)
  keys-turned (first_has key hidden rest) = second_has key hidden (keys-turned rest)
  keys-turned (second_has key hidden rest) = first_has key hidden (keys-turned rest)
