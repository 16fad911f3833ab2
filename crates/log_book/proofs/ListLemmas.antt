-- Lemmas on clients by their ports and keys by their blobs.
use Rattle.std.proofs.Common.{◌≡◌, ℕ, List, ap, sym, ◌∙◌, get_or, set, Option, Some, OnOk, Result, Ok, Err}
use Rattle.std.specs.Option.{option_map}
use Rattle.lists.specs.Firsts.{IsFirst}
use Rattle.lists.specs.Keyed.{has_key}
use Rattle.lists.proofs.FirstLemmas.{changed_to, found_there}
use Rattle.log_book.specs.Books.{comment_in, comment_of, ends_at, find_peer, is_key, port_of, sends_by}
use Rattle.log_book.specs.Peers.{Peer, ended_by}
use Rattle.log_book.specs.declared.list.NamedKey.{NamedKey}

-- a client that stands there is changed
pub sent_there : (f : Peer → Peer) (port : ℕ) (peers : List Peer) (place : ℕ) (here new : Peer)
    → IsFirst (has_key port_of port) peers place → here ≡ get_or peers place here → new ≡ f here
    → set peers place new ≡ sends_by f port (find_peer port peers) peers
sent_there f port peers place here new at is changed =
    changed_to (has_key port_of port) f peers place here new at is changed
    ∙ sym (ap (λ (found : Option Peer). sends_by f port found peers) (found_there (has_key port_of port) peers place here at))

-- the comment of a key that stands there
pub comment_there : (blob : List ℕ) (keys : List NamedKey) (place : ℕ) (other : NamedKey)
    → IsFirst (is_key blob) keys place
    → comment_of blob keys ≡ Some (get_or keys place other).comment
unfolding comment_of
comment_there blob keys place other at =
    ap (option_map comment_in) (found_there (is_key blob) keys place other at)

-- the request that bytes end which the client is given that stands there
pub ends_there : (bytes : List ℕ) (port : ℕ) (peers : List Peer) (place : ℕ) (here : Peer)
    → IsFirst (has_key port_of port) peers place → here ≡ get_or peers place here
    → ended_by bytes here ≡ ends_at bytes (find_peer port peers)
ends_there bytes port peers place here at is =
    ap (λ (peer : Peer). ends_at bytes (Some peer)) is
    ∙ sym (ap (ends_at bytes) (found_there (has_key port_of port) peers place here at))

-- ---- results

-- what follows of what stands after Ok
pub on_ok : {T E P Q : Type 0} (result : Result T E) → (P → Q) → OnOk result P → OnOk result Q
on_ok (Ok done) follows holds = follows holds
on_ok (Err fault) follows holds = tt
