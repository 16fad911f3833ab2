-- What one client's port is in a book, as things are seen one after another.
use Rattle.std.proofs.Common.{◌≡◌, ◌≢◌, ℕ, ◌==◌, List, [], ◌∷◌, ◌++◌, refl, ap, arith, sym, subst, ◌∙◌, Bool, true, false, cond, Option, Some, None, inl, inr, if◌then◌else◌}
use Rattle.std.proofs.lemmas.Bool.{cases_eq}
use Rattle.std.proofs.lemmas.Bool.Decides.{nat_tests}
use Rattle.std.proofs.lemmas.List.Elements.{filter_map-append}
use Rattle.std.proofs.lemmas.List.Folds.{find-append}
use Rattle.std.specs.List.{find}
use Rattle.std.specs.Option.{option_map, option_or}
use Rattle.lists.specs.Firsts.{IsOnly, change_first, remove_first}
use Rattle.lists.specs.Keyed.{has_key}
use Rattle.lists.proofs.FirstLemmas.{find-change_none, find-remove_none, find-removed}
use Rattle.lists.proofs.KeyedLemmas.{find_by-change, find_by-change_apart, find_by-remove_apart, found_key}
use Rattle.log_book.specs.Books.{Book, Seen, change_peer, concludes, ends_at, fate_by, find_peer, port_of, see, see_all, sends_by, told_by, told_leaving}
use Rattle.log_book.specs.Peers.{Peer, answered, answered_by, looked, looked_by, new_peer, put_at, raised_at, read_next, sent_more}
use Rattle.log_book.specs.Requests.{next_in}
use Rattle.log_book.specs.declared.list.NamedKey.{NamedKey}
use Rattle.log_book.specs.declared.peer.Ended.{Ended}
use Rattle.log_book.specs.declared.sight.Sight.{Sight}
use Rattle.log_book.specs.declared.sight.What.{What}
use Rattle.log_book.specs.declared.sight.What.TheVariants as what
use Rattle.log_book.specs.declared.told.Asked.{Asked}
use Rattle.log_book.specs.declared.told.Asked.TheVariants as asked
use Rattle.log_book.specs.declared.told.Course.{Course}
use Rattle.log_book.specs.declared.told.Fate.{Fate}
use Rattle.log_book.specs.declared.told.Fate.TheVariants.{Left}
use Rattle.log_book.specs.declared.told.Told.{Told}
use Rattle.log_laws.specs.Reads.{Reading, told_by_client, told_of_client}
use Rattle.log_laws.specs.Sights.{seen_at}

-- ---- one element alone passes

only-change : {A : Type 0} (test other : A → Bool) (f : A → A) (all : List A)
    → ((one : A) → test (f one) ≡ test one) → IsOnly test all → IsOnly test (change_first other f all)
only-change test other f [] keeps only = tt
only-change test other f (one ∷ all) keeps only =
    by_test (other one) (only-change test other f all keeps only.1)
  where
    by_test : (is : Bool) → IsOnly test (change_first other f all)
        → IsOnly test (if is then f one ∷ all else one ∷ change_first other f all)
    by_test true rest = (λ is. only.0 (sym (keeps one) ∙ is), only.1)
    by_test false rest =
        (λ is. find-change_none test other f all (λ any fails. keeps any ∙ fails) (only.0 is), rest)

only-remove : {A : Type 0} (test other : A → Bool) (all : List A) → IsOnly test all
    → IsOnly test (remove_first other all)
only-remove test other [] only = tt
only-remove test other (one ∷ all) only = by_test (other one) (only-remove test other all only.1)
  where
    by_test : (is : Bool) → IsOnly test (remove_first other all)
        → IsOnly test (if is then all else one ∷ remove_first other all)
    by_test true rest = only.1
    by_test false rest = (λ is. find-remove_none test other all (only.0 is), rest)

only-push : {A : Type 0} (test : A → Bool) (all : List A) (last : A) → IsOnly test all
    → (test last ≡ true → find test all ≡ None) → IsOnly test (all ++ last ∷ [])
only-push test [] last only none = (λ is. refl, tt)
only-push test (one ∷ all) last only none =
    (λ is. behind is (test last) refl, only-push test all last only.1 (λ is. rest is (test one) refl (none is)))
  where
    rest : test last ≡ true → (here : Bool) → test one ≡ here → cond here (Some one) (find test all) ≡ None
        → find test all ≡ None
    rest is true there gone = absurd (cc)
    rest is false there gone = gone

    behind : test one ≡ true → (also : Bool) → test last ≡ also → find test (all ++ last ∷ []) ≡ None
    behind is false last_is =
        find-append test all (last ∷ []) ∙ ap (λ o. option_or o (cond (test last) (Some last) None)) (only.0 is)
        ∙ ap (λ b. cond b (Some last) None) last_is
    behind is true last_is =
        let no : Some one ≡ None = sym (ap (λ b. cond b (Some one) (find test all)) is) ∙ none last_is in
        absurd (cc)

-- ---- a port's client

-- the port of a client stays its own
pub port-looked : (wall : ℕ) (peer : Peer) → (looked wall peer).port ≡ peer.port
unfolding looked
port-looked wall peer = by_asked peer.asked
  where
    by_next : (next : Option (List ℕ × List ℕ)) → (read_next wall next peer).port ≡ peer.port
    by_next None = refl
    by_next (Some next) = refl

    by_asked : (asks : Asked) → (looked_by wall asks peer).port ≡ peer.port
    by_asked asked.Nothing = by_next (next_in peer.sent)
    by_asked (asked.Signing blob message) = refl
    by_asked (asked.Adding blob comment) = refl
    by_asked asked.Other = refl

pub port-answered : (wall : ℕ) (bytes : List ℕ) (peer : Peer) → (answered wall bytes peer).port ≡ peer.port
unfolding answered
port-answered wall bytes peer = by_next (next_in (peer.given ++ bytes))
  where
    by_next : (next : Option (List ℕ × List ℕ))
        → (answered_by wall (peer.given ++ bytes) next peer).port ≡ peer.port
    by_next None = refl
    by_next (Some next) = port-looked wall _

-- what of a client decides what is told of its requests: all but how far the one that it waits for went
pub record IsAlike (one other : Peer) : Type 0 where
  pub sent : other.sent ≡ one.sent
  pub given : other.given ≡ one.given
  pub asked : other.asked ≡ one.asked
  pub since : other.course.since ≡ one.course.since

pub data AreAlike : Option Peer → Option Peer → Type 0 where
  neither : AreAlike None None
  both : (one other : Peer) → IsAlike one other → AreAlike (Some one) (Some other)

pub alike-itself : (found : Option Peer) → AreAlike found found
alike-itself None = neither
alike-itself (Some peer) = both peer peer record { sent = refl; given = refl; asked = refl; since = refl }

pub alike-then : {a b c : Option Peer} → AreAlike a b → AreAlike b c → AreAlike a c
alike-then neither neither = neither
alike-then (both a b first) (both _ c second) = both a c record {
  sent = second.sent ∙ first.sent;
  given = second.given ∙ first.given;
  asked = second.asked ∙ first.asked;
  since = second.since ∙ first.since;
}

-- ---- what is told of one client

-- what will be told of a request
abbrev pub claim_by : Asked → ℕ → List Reading
claim_by asked.Nothing since = []
claim_by (asked.Signing blob message) since = record { since = since; blob = blob; message = message } ∷ []
claim_by (asked.Adding blob comment) since = []
claim_by asked.Other since = []

-- of the one that a client waits for
abbrev pub claim_of : Option Peer → List Reading
claim_of None = []
claim_of (Some peer) = claim_by peer.asked peer.course.since

-- of one that bytes end
abbrev pub ended_claim : Option Ended → List Reading
ended_claim None = []
ended_claim (Some ended) = claim_by ended.asked ended.course.since

pub claim-alike : {a b : Option Peer} → AreAlike a b → claim_of b ≡ claim_of a
claim-alike neither = refl
claim-alike (both one other is) =
    ap (λ a. claim_by a other.course.since) is.asked ∙ ap (claim_by one.asked) is.since

-- a client that was not seen yet has sent nothing
abbrev pub peer_or : ℕ → Option Peer → Peer
peer_or number None = new_peer number
peer_or number (Some peer) = peer

module _ (number : ℕ) where
  abbrev pub at_port : Book → Option Peer
  at_port book = find_peer number book.peers

  abbrev pub IsAlone : List Peer → Type 0
  IsAlone peers = IsOnly (has_key port_of number) peers

  abbrev pub tells : List Told → List Reading
  tells told = told_of_client number told

  its_number : (number == number) ≡ true
  its_number = grind (arith, nat_tests)

  pub tells-own : (wall : ℕ) (asks : Asked) (course : Course) (fate : Fate) (keys : List NamedKey)
      → tells (told_by wall number asks course fate keys) ≡ claim_by asks course.since
  tells-own wall asked.Nothing course fate keys = refl
  tells-own wall (asked.Signing blob message) course fate keys = rw its_number refl
  tells-own wall (asked.Adding blob comment) course fate keys = refl
  tells-own wall asked.Other course fate keys = refl

  pub tells-apart : (wall port : ℕ) (asks : Asked) (course : Course) (fate : Fate) (keys : List NamedKey) → port ≢ number
      → tells (told_by wall port asks course fate keys) ≡ []
  tells-apart wall port asked.Nothing course fate keys other = refl
  tells-apart wall port (asked.Signing blob message) course fate keys other =
      let fails : (port == number) ≡ false = grind (arith, nat_tests) in
      rw fails refl
  tells-apart wall port (asked.Adding blob comment) course fate keys other = refl
  tells-apart wall port asked.Other course fate keys other = refl

  -- what is seen, step by step: what is told of this client, and what its port is in the book then
  pub record Brings (what : List Reading) (who : Option Peer) (seen : Seen) : Type 0 where
    pub told : tells seen.told ≡ what
    pub found : AreAlike who (at_port seen.book)
    pub alone : IsAlone seen.book.peers

  -- ---- one thing

  module _ (wall faults : ℕ) (book : Book) (alone : IsAlone book.peers) where
    abbrev saw : What → Seen
    saw seen = see (seen_at wall faults seen) book

    keeps-port : (f : Peer → Peer) → ((p : Peer) → (f p).port ≡ p.port) → (p : Peer)
        → has_key port_of number (f p) ≡ has_key port_of number p
    keeps-port f keeps p = ap (λ n. n == number) (keeps p)

    -- another client's
    other-changed : (port : ℕ) (f : Peer → Peer) → ((p : Peer) → (f p).port ≡ p.port) → number ≢ port
        → AreAlike (at_port book) (find_peer number (change_peer port f book.peers))
    other-changed port f keeps other =
        subst (AreAlike (at_port book)) (sym (find_by-change_apart port_of number port f book.peers keeps other)) (alike-itself (at_port book))

    only-changed : (port : ℕ) (f : Peer → Peer) → ((p : Peer) → (f p).port ≡ p.port)
        → IsAlone (change_peer port f book.peers)
    only-changed port f keeps =
        only-change (has_key port_of number) (has_key port_of port) f book.peers (keeps-port f keeps) alone

    own-changed : (f : Peer → Peer) → ((p : Peer) → (f p).port ≡ p.port)
        → find_peer number (change_peer number f book.peers) ≡ option_map f (at_port book)
    own-changed f keeps = find_by-change port_of number f book.peers keeps

    -- marks of a request
    mark : (port : ℕ) (f : Peer → Peer) → ((p : Peer) → (f p).port ≡ p.port) → ((p : Peer) → IsAlike p (f p))
        → AreAlike (at_port book) (find_peer number (change_peer port f book.peers))
    mark port f keeps alike = elim (cases_eq number port) [
      | inl same ↦ subst (λ n. AreAlike (at_port book) (find_peer number (change_peer n f book.peers))) same
          (subst (AreAlike (at_port book)) (sym (own-changed f keeps)) (by_found (at_port book)))
      | inr other ↦ other-changed port f keeps other
    ]
      where
        by_found : (found : Option Peer) → AreAlike found (option_map f found)
        by_found None = neither
        by_found (Some peer) = both peer (f peer) (alike peer)

    pub sees-raised : (port : ℕ) → Brings [] (at_port book) (saw (what.Raised port))
    unfolding see
    sees-raised port = record {
      told = refl;
      found = mark port raised_at (λ p. refl) (λ p. record { sent = refl; given = refl; asked = refl; since = refl });
      alone = only-changed port raised_at (λ p. refl);
    }

    pub sees-put : (port : ℕ) → Brings [] (at_port book) (saw (what.Put port))
    unfolding see
    sees-put port = record {
      told = refl;
      found = mark port (put_at faults) (λ p. refl) (λ p. record { sent = refl; given = refl; asked = refl; since = refl });
      alone = only-changed port (put_at faults) (λ p. refl);
    }

    -- a client sends
    abbrev sending : List ℕ → Peer → Peer
    sending piece peer = looked wall (sent_more piece peer)

    port-sending : (piece : List ℕ) (peer : Peer) → (sending piece peer).port ≡ peer.port
    port-sending piece peer = port-looked wall (sent_more piece peer)

    pub sees-sent : (piece : List ℕ)
        → Brings [] (Some (looked wall (sent_more piece (peer_or number (at_port book))))) (saw (what.Sent number piece))
    unfolding see
    sees-sent piece = by_found (at_port book) refl
      where
        f : Peer → Peer
        f = sending piece

        by_found : (found : Option Peer) → at_port book ≡ found
            → Brings [] (Some (f (peer_or number found))) (record { book = record book { peers = sends_by f number (at_port book) book.peers }; told = [] })
        by_found None is = record {
          told = refl;
          found = subst (AreAlike (Some (f (new_peer number)))) (sym (
              ap (λ o. find_peer number (sends_by f number o book.peers)) is
              ∙ find-append (has_key port_of number) book.peers (f (new_peer number) ∷ [])
              ∙ ap (λ o. option_or o (cond (has_key port_of number (f (new_peer number))) (Some (f (new_peer number))) None)) is
              ∙ ap (λ n. cond (n == number) (Some (f (new_peer number))) None) (port-sending piece (new_peer number))
              ∙ ap (λ b. cond b (Some (f (new_peer number))) None) its_number)) (alike-itself (Some (f (new_peer number))));
          alone = subst (λ o. IsAlone (sends_by f number o book.peers)) (sym is)
              (only-push (has_key port_of number) book.peers (f (new_peer number)) alone (λ there. is));
        }
        by_found (Some peer) is = record {
          told = refl;
          found = subst (AreAlike (Some (f peer))) (sym (
              ap (λ o. find_peer number (sends_by f number o book.peers)) is
              ∙ own-changed f (port-sending piece) ∙ ap (option_map f) is)) (alike-itself (Some (f peer)));
          alone = subst (λ o. IsAlone (sends_by f number o book.peers)) (sym is) (only-changed number f (port-sending piece));
        }

    pub sees-sent_apart : (port : ℕ) (piece : List ℕ) → number ≢ port
        → Brings [] (at_port book) (saw (what.Sent port piece))
    unfolding see
    sees-sent_apart port piece other = by_found (find_peer port book.peers)
      where
        f : Peer → Peer
        f = sending piece

        not_it : (has_key port_of number (f (new_peer port))) ≡ false
        not_it =
            let same : (f (new_peer port)).port ≡ port = port-sending piece (new_peer port) in
            let fails : (port == number) ≡ false = grind (arith, nat_tests) in
            ap (λ n. n == number) same ∙ fails

        by_found : (found : Option Peer)
            → Brings [] (at_port book) (record { book = record book { peers = sends_by f port found book.peers }; told = [] })
        by_found None = record {
          told = refl;
          found = subst (AreAlike (at_port book)) (sym (
              find-append (has_key port_of number) book.peers (f (new_peer port) ∷ [])
              ∙ ap (λ b. option_or (at_port book) (cond b (Some (f (new_peer port))) None)) not_it
              ∙ or_none (at_port book))) (alike-itself (at_port book));
          alone = only-push (has_key port_of number) book.peers (f (new_peer port)) alone
              (λ is. let no : false ≡ true = sym not_it ∙ is in absurd (cc));
        }
          where
            or_none : (found : Option Peer) → option_or found None ≡ found
            or_none None = refl
            or_none (Some peer) = refl
        by_found (Some peer) = record {
          told = refl;
          found = other-changed port f (port-sending piece) other;
          alone = only-changed port f (port-sending piece);
        }

    -- a client is given bytes
    abbrev after_gift : ℕ → List ℕ → Book
    after_gift port bytes = record book { peers = change_peer port (answered wall bytes) book.peers }

    concluded-own : (bytes : List ℕ) (ended : Option Ended)
        → Brings (ended_claim ended) (option_map (answered wall bytes) (at_port book)) (concludes wall faults number ended (after_gift number bytes))
    concluded-own bytes None = record {
      told = refl;
      found = subst (AreAlike (option_map (answered wall bytes) (at_port book))) (sym (own-changed (answered wall bytes) (port-answered wall bytes))) (alike-itself _);
      alone = only-changed number (answered wall bytes) (port-answered wall bytes);
    }
    concluded-own bytes (Some ended) = record {
      told = tells-own wall ended.asked ended.course (fate_by ended.reply ended.course faults) book.keys;
      found = subst (AreAlike (option_map (answered wall bytes) (at_port book))) (sym (own-changed (answered wall bytes) (port-answered wall bytes))) (alike-itself _);
      alone = only-changed number (answered wall bytes) (port-answered wall bytes);
    }

    pub sees-given : (bytes : List ℕ)
        → Brings (ended_claim (ends_at bytes (at_port book))) (option_map (answered wall bytes) (at_port book)) (saw (what.Given number bytes))
    unfolding see
    sees-given bytes = concluded-own bytes (ends_at bytes (at_port book))

    concluded-apart : (port : ℕ) (bytes : List ℕ) (ended : Option Ended) → number ≢ port
        → Brings [] (at_port book) (concludes wall faults port ended (after_gift port bytes))
    concluded-apart port bytes None other = record {
      told = refl;
      found = other-changed port (answered wall bytes) (port-answered wall bytes) other;
      alone = only-changed port (answered wall bytes) (port-answered wall bytes);
    }
    concluded-apart port bytes (Some ended) other = record {
      told = tells-apart wall port ended.asked ended.course (fate_by ended.reply ended.course faults) book.keys (λ same. other (sym same));
      found = other-changed port (answered wall bytes) (port-answered wall bytes) other;
      alone = only-changed port (answered wall bytes) (port-answered wall bytes);
    }

    pub sees-given_apart : (port : ℕ) (bytes : List ℕ) → number ≢ port
        → Brings [] (at_port book) (saw (what.Given port bytes))
    unfolding see
    sees-given_apart port bytes other = concluded-apart port bytes (ends_at bytes (find_peer port book.peers)) other

    -- a port is closed
    left-own : (found : Option Peer) → at_port book ≡ found → tells (told_leaving wall book.keys found) ≡ claim_of found
    left-own None is = refl
    left-own (Some peer) is =
        let own : peer.port ≡ number = found_key port_of number book.peers peer is in
        ap (λ n. tells (told_by wall n peer.asked peer.course Left book.keys)) own
        ∙ tells-own wall peer.asked peer.course Left book.keys

    pub sees-closed : Brings (claim_of (at_port book)) None (saw (what.Closed number))
    unfolding see
    sees-closed = record {
      told = left-own (at_port book) refl;
      found = subst (AreAlike None) (sym (find-removed (has_key port_of number) book.peers alone)) neither;
      alone = only-remove (has_key port_of number) (has_key port_of number) book.peers alone;
    }

    left-apart : (port : ℕ) (found : Option Peer) → find_peer port book.peers ≡ found → number ≢ port
        → tells (told_leaving wall book.keys found) ≡ []
    left-apart port None is other = refl
    left-apart port (Some peer) is other =
        let its : peer.port ≡ port = found_key port_of port book.peers peer is in
        tells-apart wall peer.port peer.asked peer.course Left book.keys (λ same. other (sym same ∙ its))

    pub sees-closed_apart : (port : ℕ) → number ≢ port → Brings [] (at_port book) (saw (what.Closed port))
    unfolding see
    sees-closed_apart port other = record {
      told = left-apart port (find_peer port book.peers) refl other;
      found = subst (AreAlike (at_port book)) (sym (find_by-remove_apart port_of number port book.peers other)) (alike-itself (at_port book));
      alone = only-remove (has_key port_of number) (has_key port_of port) book.peers alone;
    }

  -- ---- one thing after another

  -- what is seen first, and what then
  pub brings-then : (one other : List Reading) (first second : Option Peer) (sight : Sight) (sights : List Sight) (book : Book)
      → Brings one first (see sight book) → Brings other second (see_all sights (see sight book).book)
      → Brings (one ++ other) second (see_all (sight ∷ sights) book)
  unfolding see_all
  brings-then one other first second sight sights book now later = record {
    told = filter_map-append (told_by_client number) (see sight book).told (see_all sights (see sight book).book).told
        ∙ ap (λ (l : List Reading). l ++ tells (see_all sights (see sight book).book).told) now.told
        ∙ ap (λ (l : List Reading). one ++ l) later.told;
    found = later.found;
    alone = later.alone;
  }
