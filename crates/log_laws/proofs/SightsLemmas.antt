-- What one client's port is in a book, as many things are seen and when all was seen.
use Rattle.std.proofs.Common.{◌≡◌, ◌≢◌, ℕ, ◌==◌, ◌||◌, List, [], ◌∷◌, ◌++◌, map, refl, ap, arith, sym, subst, ◌∙◌, append_assoc, Bool, true, false, cond, Option, Some, None, if◌then◌else◌}
use Rattle.std.proofs.lemmas.Bool.Decides.{nat_tests}
use Rattle.std.proofs.lemmas.List.{append-nil}
use Rattle.std.proofs.lemmas.List.Elements.{filter_map-append}
use Rattle.std.specs.List.{flat_map}
use Rattle.lists.specs.Keyed.{has_key}
use Rattle.lists.specs.Rising.{is_among}
use Rattle.lists.proofs.FirstLemmas.{some_or_later}
use Rattle.log_book.specs.Books.{Book, find_peer, open_in, open_of, port_of, see, see_all, told_by}
use Rattle.log_book.specs.Peers.{Peer}
use Rattle.log_book.specs.declared.list.NamedKey.{NamedKey}
use Rattle.log_book.specs.declared.sight.Sight.{Sight}
use Rattle.log_book.specs.declared.told.Fate.TheVariants.{Open}
use Rattle.log_book.specs.declared.told.Told.{Told}
use Rattle.log_laws.specs.Reads.{Reading, told_by_client}
use Rattle.log_laws.specs.Sights.{closed_sight, put_sight, raised_sight}
use Rattle.log_laws.proofs.BookLemmas.{AreAlike, Brings, IsAlone, alike-itself, alike-then, at_port, both, brings-then, claim-alike, claim_of, neither, sees-closed, sees-closed_apart, sees-put, sees-raised, tells, tells-apart, tells-own}

module _ (number : ℕ) where
  -- ---- lists of things

  none-alike : {one other : Option Peer} → AreAlike one other → one ≡ None → other ≡ None
  none-alike neither is = refl
  none-alike (both one other alike) is = absurd (cc)

  -- what is seen behind all of these
  pub book-append : (xs ys : List Sight) (book : Book)
      → (see_all (xs ++ ys) book).book ≡ (see_all ys (see_all xs book).book).book
  unfolding see_all
  book-append [] ys book = refl
  book-append (x ∷ xs) ys book = book-append xs ys (see x book).book

  pub told-append : (xs ys : List Sight) (book : Book)
      → (see_all (xs ++ ys) book).told ≡ (see_all xs book).told ++ (see_all ys (see_all xs book).book).told
  unfolding see_all
  told-append [] ys book = refl
  told-append (x ∷ xs) ys book =
      ap (λ (l : List Told). (see x book).told ++ l) (told-append xs ys (see x book).book)
      ∙ sym (append_assoc (see x book).told (see_all xs (see x book).book).told (see_all ys (see_all xs (see x book).book).book).told)

  pub brings-append : (one other : List Reading) (first second : Option Peer) (xs ys : List Sight) (book : Book)
      → Brings number one first (see_all xs book) → Brings number other second (see_all ys (see_all xs book).book)
      → Brings number (one ++ other) second (see_all (xs ++ ys) book)
  brings-append one other first second xs ys book now later = record {
    told = ap (tells number) (told-append xs ys book)
        ∙ filter_map-append (told_by_client number) (see_all xs book).told (see_all ys (see_all xs book).book).told
        ∙ ap (λ (l : List Reading). l ++ tells number (see_all ys (see_all xs book).book).told) now.told
        ∙ ap (λ (l : List Reading). one ++ l) later.told;
    found = subst (λ b. AreAlike second (at_port number b)) (sym (book-append xs ys book)) later.found;
    alone = subst (λ b. IsAlone number b.peers) (sym (book-append xs ys book)) later.alone;
  }

  -- nothing is seen
  pub brings-none : (book : Book) → IsAlone number book.peers → Brings number [] (at_port number book) (see_all [] book)
  unfolding see_all
  brings-none book alone = record { told = refl; found = alike-itself (at_port number book); alone = alone }

  -- one thing
  pub brings-one : (told : List Reading) (found : Option Peer) (sight : Sight) (book : Book)
      → Brings number told found (see sight book) → Brings number told found (see_all (sight ∷ []) book)
  brings-one told found sight book brings =
      let all = brings-then number told [] found (at_port number (see sight book).book) sight [] book brings (brings-none (see sight book).book brings.alone) in
      record {
        told = all.told ∙ append-nil told;
        found = alike-then brings.found all.found;
        alone = all.alone;
      }

  -- things of which none tells number of this client
  pub brings-marks : (f : ℕ → Sight) (ports : List ℕ) (book : Book) → IsAlone number book.peers
      → ((port : ℕ) (b : Book) → IsAlone number b.peers → Brings number [] (at_port number b) (see (f port) b))
      → Brings number [] (at_port number book) (see_all (map f ports) book)
  brings-marks f [] book alone each = brings-none book alone
  brings-marks f (port ∷ ports) book alone each =
      let now = each port book alone in
      let next : Book = (see (f port) book).book in
      let later = brings-marks f ports next now.alone each in
      let all = brings-then number [] [] (at_port number book) (at_port number next) (f port) (map f ports) book now later in
      record {
        told = all.told;
        found = alike-then now.found all.found;
        alone = all.alone;
      }

  module _ (wall faults : ℕ) where
    pub brings-raised : (ports : List ℕ) (book : Book) → IsAlone number book.peers
        → Brings number [] (at_port number book) (see_all (map (raised_sight wall faults) ports) book)
    brings-raised ports book alone =
        brings-marks (raised_sight wall faults) ports book alone (λ port b b_alone. sees-raised number wall faults b b_alone port)

    pub brings-put : (ports : List ℕ) (book : Book) → IsAlone number book.peers
        → Brings number [] (at_port number book) (see_all (map (put_sight wall faults) ports) book)
    brings-put ports book alone =
        brings-marks (put_sight wall faults) ports book alone (λ port b b_alone. sees-put number wall faults b b_alone port)

    -- what a book is once a port was closed
    abbrev next_of : ℕ → Book → Book
    next_of port book = (see (closed_sight wall faults port) book).book

    -- ports are closed: not its own
    closed-by : (test : Bool) (port : ℕ) (book : Book) → IsAlone number book.peers → (number == port) ≡ test
        → Brings number (if test then claim_of (at_port number book) else []) (if test then None else at_port number book) (see (closed_sight wall faults port) book)
    closed-by true port book alone is =
        let equal : number ≡ port = grind (arith, nat_tests) in
        subst (λ n. Brings number (claim_of (at_port number book)) None (see (closed_sight wall faults n) book)) equal (sees-closed number wall faults book alone)
    closed-by false port book alone is =
        sees-closed_apart number wall faults book alone port (λ equal. let no : (number == port) ≡ true = grind (arith, nat_tests) in absurd (cc))

    -- once it is closed nothing is told of it
    closed-gone : (ports : List ℕ) (book : Book) → IsAlone number book.peers → at_port number book ≡ None
        → Brings number [] None (see_all (map (closed_sight wall faults) ports) book)
    closed-gone [] book alone gone = subst (λ o. Brings number [] o (see_all [] book)) gone (brings-none book alone)
    closed-gone (port ∷ ports) book alone gone =
        by_test (number == port) (closed-by (number == port) port book alone refl)
        (λ next_alone next_gone. closed-gone ports (see (closed_sight wall faults port) book).book next_alone next_gone)
      where
        by_test : (test : Bool)
            → Brings number (if test then claim_of (at_port number book) else []) (if test then None else at_port number book) (see (closed_sight wall faults port) book)
            → (IsAlone number (next_of port book).peers → at_port number (next_of port book) ≡ None → Brings number [] None (see_all (map (closed_sight wall faults) ports) (next_of port book)))
            → Brings number [] None (see_all (map (closed_sight wall faults) (port ∷ ports)) book)
        by_test true now later =
            subst (λ l. Brings number l None (see_all (map (closed_sight wall faults) (port ∷ ports)) book)) (ap (λ o. claim_of o ++ []) gone)
            (brings-then number (claim_of (at_port number book)) [] None None (closed_sight wall faults port) (map (closed_sight wall faults) ports) book now
            (later now.alone (none-alike now.found refl)))
        by_test false now later =
            brings-then number [] [] (at_port number book) None (closed_sight wall faults port) (map (closed_sight wall faults) ports) book now
            (later now.alone (none-alike now.found gone))

    -- it is told, where its port is among those that are closed, what came of its request
    pub brings-closed : (is : Bool) (ports : List ℕ) (book : Book) → IsAlone number book.peers → is_among number ports ≡ is
        → Brings number (if is then claim_of (at_port number book) else []) (if is then None else at_port number book) (see_all (map (closed_sight wall faults) ports) book)
    brings-closed true [] book alone among = absurd (cc)
    brings-closed false [] book alone among = brings-none book alone
    brings-closed is (port ∷ ports) book alone among =
        by_test (number == port) refl among (closed-by (number == port) port book alone refl)
        (λ next_alone rest. brings-closed is ports (see (closed_sight wall faults port) book).book next_alone rest)
      where
        by_rest : (in_rest : Bool)
            → Brings number [] (at_port number book) (see (closed_sight wall faults port) book)
            → Brings number (if in_rest then claim_of (at_port number (next_of port book)) else []) (if in_rest then None else at_port number (next_of port book)) (see_all (map (closed_sight wall faults) ports) (next_of port book))
            → Brings number (if in_rest then claim_of (at_port number book) else []) (if in_rest then None else at_port number book) (see_all (map (closed_sight wall faults) (port ∷ ports)) book)
        by_rest true now later =
            subst (λ l. Brings number l None (see_all (map (closed_sight wall faults) (port ∷ ports)) book)) (claim-alike now.found)
            (brings-then number [] (claim_of (at_port number (next_of port book))) (at_port number book) None (closed_sight wall faults port) (map (closed_sight wall faults) ports) book now later)
        by_rest false now later =
            let all = brings-then number [] [] (at_port number book) (at_port number (next_of port book)) (closed_sight wall faults port) (map (closed_sight wall faults) ports) book now later in
            record { told = all.told; found = alike-then now.found all.found; alone = all.alone }

        by_test : (test : Bool) → (number == port) ≡ test → (test || is_among number ports) ≡ is
            → Brings number (if test then claim_of (at_port number book) else []) (if test then None else at_port number book) (see (closed_sight wall faults port) book)
            → (IsAlone number (next_of port book).peers → is_among number ports ≡ is
            → Brings number (if is then claim_of (at_port number (next_of port book)) else []) (if is then None else at_port number (next_of port book)) (see_all (map (closed_sight wall faults) ports) (next_of port book)))
            → Brings number (if is then claim_of (at_port number book) else []) (if is then None else at_port number book) (see_all (map (closed_sight wall faults) (port ∷ ports)) book)
        by_test true equal its now later =
            subst (λ b. Brings number (if b then claim_of (at_port number book) else []) (if b then None else at_port number book) (see_all (map (closed_sight wall faults) (port ∷ ports)) book)) its
            (subst (λ l. Brings number l None (see_all (map (closed_sight wall faults) (port ∷ ports)) book)) (append-nil (claim_of (at_port number book)))
            (brings-then number (claim_of (at_port number book)) [] None None (closed_sight wall faults port) (map (closed_sight wall faults) ports) book now
            (closed-gone ports (next_of port book) now.alone (none-alike now.found refl))))
        by_test false apart its now later = by_rest is now (later now.alone its)

  -- ---- the end

  -- nobody of this port is left
  none-left : (keys : List NamedKey) (peers : List Peer) → find_peer number peers ≡ None
      → tells number (flat_map (open_of keys) peers) ≡ []
  none-left keys [] none = refl
  none-left keys (peer ∷ peers) none =
      let both = some_or_later (has_key port_of number peer) peer (find_peer number peers) none in
      let other : peer.port ≢ number = λ same. let no : (peer.port == number) ≡ true = grind (arith, nat_tests) in let fails : (peer.port == number) ≡ false = both.0 in absurd (cc) in
      filter_map-append (told_by_client number) (open_of keys peer) (flat_map (open_of keys) peers)
      ∙ ap (λ (l : List Reading). l ++ tells number (flat_map (open_of keys) peers)) (tells-apart number peer.course.since peer.port peer.asked peer.course Open keys other)
      ∙ none-left keys peers both.1

  open-left : (keys : List NamedKey) (peers : List Peer) → IsAlone number peers
      → tells number (flat_map (open_of keys) peers) ≡ claim_of (find_peer number peers)
  open-left keys [] alone = refl
  open-left keys (peer ∷ peers) alone =
      filter_map-append (told_by_client number) (open_of keys peer) (flat_map (open_of keys) peers)
      ∙ by_test (has_key port_of number peer) refl (open-left keys peers alone.1)
    where
      by_test : (test : Bool) → has_key port_of number peer ≡ test
          → tells number (flat_map (open_of keys) peers) ≡ claim_of (find_peer number peers)
          → tells number (open_of keys peer) ++ tells number (flat_map (open_of keys) peers) ≡ claim_of (cond test (Some peer) (find_peer number peers))
      by_test true is rest =
          let own : peer.port ≡ number = grind (arith, nat_tests) in
          ap (λ (l : List Reading). tells number (open_of keys peer) ++ l) (none-left keys peers (alone.0 is))
          ∙ append-nil (tells number (open_of keys peer))
          ∙ ap (λ n. tells number (told_by peer.course.since n peer.asked peer.course Open keys)) own
          ∙ tells-own number peer.course.since peer.asked peer.course Open keys
      by_test false is rest =
          let other : peer.port ≢ number = λ same. let no : (peer.port == number) ≡ true = grind (arith, nat_tests) in absurd (cc) in
          ap (λ (l : List Reading). l ++ tells number (flat_map (open_of keys) peers)) (tells-apart number peer.course.since peer.port peer.asked peer.course Open keys other)
          ∙ rest

  pub tells-open : (book : Book) → IsAlone number book.peers → tells number (open_in book) ≡ claim_of (at_port number book)
  unfolding open_in
  tells-open book alone = open-left book.keys book.peers alone
