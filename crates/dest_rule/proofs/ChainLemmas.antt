-- Chains as lists: the newest binding, and the binding of a session.
use Rattle.std.proofs.Common.{◌≡◌, ℕ, zero, suc, ◌-◌, ◌+◌, ◌<◌, ◌≤◌, Bool, true, false, List, [], ◌∷◌, length, Option, Some, None, refl, sym, ap, ◌∙◌, subst, arith, length-append, cond}
use Rattle.std.specs.Prelude.{All, IsOk, ◌≢◌, ◌↔◌}
use Rattle.std.specs.List.{slice_get, sum_by}
use Rattle.std.specs.Str.{bytes_eq}
use Rattle.std.proofs.lemmas.Bool.{and_parts, leb-true, ltb-true}
use Rattle.std.proofs.lemmas.Slice.Eq.{bytes_eq-Decides}
use Rattle.std.proofs.lemmas.List.Elements.{All-append}
use Rattle.std.proofs.lemmas.List.Sums.{sum_by_push}
use Rattle.key_blob.specs.PublicKeys.{public_key_of}
use Rattle.dest_rule.specs.Chains.{Binding, New, Same, Refuse, ChainFull, OtherKey, SessionLength, newest, newest_after, find_session, has_room, is_open, is_session, judge_known, judge_open, judge, bound, IsChain, most_bindings, most_keys, most_names, names_len}

-- the newest binding stands at the end
pub newest_at : (first : Binding) (later : List Binding)
    → slice_get (first ∷ later) (length later) ≡ Some (newest_after first later)
newest_at first [] = refl
newest_at first (next ∷ later) = newest_at next later

-- the last of the list is the newest
pub newest-last : (chain : List Binding) → slice_get chain (length chain - 1) ≡ newest chain
newest-last [] = refl
newest-last (first ∷ later) =
    let len : suc (length later) - 1 ≡ length later = omega arith in
    ap (slice_get (first ∷ later)) len ∙ newest_at first later

-- what holds of one element holds of each of a list of it
all_one : (P : Binding → Type 0) (binding : Binding) → P binding → All P (binding ∷ [])
all_one P binding holds zero default within = holds
all_one P binding holds (suc place) default within = absurd (omega (arith, within))

-- a known session isn't new
known_is_not_new : (same : Bool) → cond same Same (Refuse OtherKey) ≡ New → ⊥
known_is_not_new true is = absurd cc
known_is_not_new false is = absurd cc

-- what is new has room
room_for_new : (room : Bool) → cond room New (Refuse ChainFull) ≡ New → room ≡ true
room_for_new true is = refl
room_for_new false is = absurd cc

-- the same by the binding that the session has
known_has_room : (host_key : List ℕ) (chain : List Binding) (known : Option Binding)
    → judge_known host_key chain known ≡ New → has_room host_key chain ≡ true
known_has_room host_key chain (Some known) new = absurd (known_is_not_new _ new)
known_has_room host_key chain None new = room_for_new _ new

-- the same by whether more may follow
open_has_room : (open_end : Bool) (host_key session : List ℕ) (chain : List Binding)
    → judge_open open_end host_key session chain ≡ New → has_room host_key chain ≡ true
open_has_room true host_key session chain new =
    known_has_room host_key chain (find_session session chain) new
open_has_room false host_key session chain new = absurd cc

-- the same by whether the session is one
session_has_room : (long : Bool) (host_key session : List ℕ) (chain : List Binding)
    → cond long (judge_open (is_open (newest chain)) host_key session chain) (Refuse SessionLength) ≡ New
    → has_room host_key chain ≡ true
session_has_room true host_key session chain new = open_has_room _ host_key session chain new
session_has_room false host_key session chain new = absurd cc

-- a new binding has room
pub new_has_room : (host_key session : List ℕ) (chain : List Binding)
    → judge host_key session chain ≡ New → has_room host_key chain ≡ true
unfolding judge
new_has_room host_key session chain new = session_has_room _ host_key session chain new

-- with room there are fewer than 16, and the host keys with this one are small and name few
room_is : (host_key : List ℕ) (chain : List Binding) → has_room host_key chain ≡ true
    → (length chain < most_bindings) × (length host_key + sum_by (λ one. length one.host_key) chain ≤ most_keys)
    × (names_len (public_key_of host_key) + sum_by (λ one. names_len (public_key_of one.host_key)) chain ≤ most_names)
room_is host_key chain room =
    let named = and_parts _ _ room in
    let both = and_parts _ _ named.0 in
    (ltb-true _ _ both.0, leb-true _ _ both.1, leb-true _ _ named.1)

-- a chain stays one with a new binding
pub IsChain-bound : (chain : List Binding) (binding : Binding) → IsChain chain
    → judge binding.host_key binding.session chain ≡ New → IsOk (public_key_of binding.host_key)
    → IsChain (bound binding chain)
IsChain-bound chain binding is new key =
    let room = room_is binding.host_key chain (new_has_room binding.host_key binding.session chain new) in
    record {
      few = omega (arith, room.0, length-append chain (binding ∷ []));
      small = omega (arith, room.1, sum_by_push (λ (one : Binding). length one.host_key) chain binding);
      named = omega (arith, room.2, sum_by_push (λ (one : Binding). names_len (public_key_of one.host_key)) chain binding);
      keys = All-append (λ one. IsOk (public_key_of one.host_key)) chain (binding ∷ []) is.keys
          (all_one (λ one. IsOk (public_key_of one.host_key)) binding key);
    }

-- a chain stays one with a new binding, whatever list it is
pub IsChain-pushed : (chain pushed : List Binding) (binding : Binding) (host_key session : List ℕ)
    → pushed ≡ bound binding chain → binding.host_key ≡ host_key → binding.session ≡ session
    → IsChain chain → judge host_key session chain ≡ New → IsOk (public_key_of host_key) → IsChain pushed
IsChain-pushed chain pushed binding host_key session is its_key its_session sound new key =
    let judged : judge binding.host_key binding.session chain ≡ New =
    ap (λ k. judge k binding.session chain) its_key ∙ ap (λ s. judge host_key s chain) its_session ∙ new in
    subst IsChain (sym is) (IsChain-bound chain binding sound judged
    (subst (λ k. IsOk (public_key_of k)) (sym its_key) key))

-- ---- known sessions

-- by the binding that the session has
known_is_never_new : (open_end : Bool) (host_key session : List ℕ) (chain : List Binding) (known : Binding)
    → find_session session chain ≡ Some known → judge_open open_end host_key session chain ≢ New
known_is_never_new true host_key session chain known is new =
    known_is_not_new _ (ap (judge_known host_key chain) (sym is) ∙ new)
known_is_never_new false host_key session chain known is new = absurd cc

-- by whether the session is one
session_is_never_new : (long : Bool) (host_key session : List ℕ) (chain : List Binding) (known : Binding)
    → find_session session chain ≡ Some known
    → cond long (judge_open (is_open (newest chain)) host_key session chain) (Refuse SessionLength) ≢ New
session_is_never_new true host_key session chain known is new =
    known_is_never_new _ host_key session chain known is new
session_is_never_new false host_key session chain known is new = absurd cc

-- a known session is never new
pub known_judged : (host_key session : List ℕ) (chain : List Binding) (known : Binding)
    → find_session session chain ≡ Some known → judge host_key session chain ≢ New
unfolding judge
known_judged host_key session chain known is new =
    session_is_never_new _ host_key session chain known is new

-- it is the same where its host key is
same_from_key : (same : Bool) → (cond same Same (Refuse OtherKey) ≡ Same) ↔ (same ≡ true)
same_from_key true = (λ is. refl, λ is. refl)
same_from_key false = (λ is. absurd cc, λ is. absurd cc)

-- and more may follow
same_where_open : (open_end : Bool) (host_key session : List ℕ) (chain : List Binding) (known : Binding)
    → find_session session chain ≡ Some known
    → (judge_open open_end host_key session chain ≡ Same)
    ↔ ((known.host_key ≡ host_key) × (open_end ≡ true))
same_where_open true host_key session chain known is =
    let at = ap (judge_known host_key chain) is in
    let tested = bytes_eq-Decides known.host_key host_key in
    let by = same_from_key (bytes_eq known.host_key host_key) in
    (λ same. (tested.0 (by.0 (sym at ∙ same)), refl), λ both. at ∙ by.1 (tested.1 both.0))
same_where_open false host_key session chain known is = (λ same. absurd cc, λ both. absurd (let wrong = both.1 in cc))

-- of a session that is one
pub same_judged : (host_key session : List ℕ) (chain : List Binding) (known : Binding)
    → find_session session chain ≡ Some known → is_session session ≡ true
    → (judge host_key session chain ≡ Same)
    ↔ ((known.host_key ≡ host_key) × (is_open (newest chain) ≡ true))
unfolding judge
same_judged host_key session chain known is fits =
    let at = ap (λ b. cond b (judge_open (is_open (newest chain)) host_key session chain) (Refuse SessionLength)) fits in
    let by = same_where_open (is_open (newest chain)) host_key session chain known is in
    (λ same. by.0 (sym at ∙ same), λ both. at ∙ by.1 both)
