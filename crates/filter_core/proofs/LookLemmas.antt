-- What a look leaves of a pair.
use Rattle.std.proofs.Common.{◌≡◌, ◌∙◌, ℕ, Bool, true, false, List, [], ◌∷◌, Option, Some, None, refl, ap, sym, ◌&&◌}
use Rattle.std.specs.Prelude.{is_some}
use Rattle.wire_text.specs.Bounds.{longest_body}
use Rattle.wire_text.specs.Frames.{Bad, Front, More, Whole, after_front, front, front_body}
use Rattle.filter_model.specs.declared.waits.Waits.{Waits}
use Rattle.filter_model.specs.declared.waits.Waits.TheVariants as waiting
use Rattle.filter_model.specs.Lists.{Listed}
use Rattle.filter_model.specs.Pairs.{Pair, freed, is_none, is_quiet, unlinked}
use Rattle.filter_model.specs.Looking.{Looked, and_then, and_then_if, answered, client_front, client_looked, client_owed, client_waits, ends, fate_of, freed_after, lost, lost_if, nothing_left, reply_for, stays, taken_as, upstream_front, upstream_looked, upstream_waits, without_front}
use Rattle.filter_core.specs.Slots.{Leaves, is_free, replied}

-- ---- the client's side

owed_free : (client upstream : List ℕ) (listed : Listed) (pair : Pair)
    → (is_none client && is_none upstream) ≡ true
    → client_owed client upstream listed pair ≡ client_front (front longest_body pair.client.heard) listed pair
owed_free [] [] listed pair free = refl
owed_free [] (byte ∷ bytes) listed pair free = cc
owed_free (byte ∷ bytes) upstream listed pair free = cc

owed_held : (client upstream : List ℕ) (listed : Listed) (pair : Pair)
    → (is_none client && is_none upstream) ≡ false
    → client_owed client upstream listed pair ≡ stays pair
owed_held [] [] listed pair held = cc
owed_held [] (byte ∷ bytes) listed pair held = refl
owed_held (byte ∷ bytes) upstream listed pair held = refl

waits_free : (waits : Waits) (listed : Listed) (pair : Pair)
    → (is_quiet waits && (is_none pair.client.owed && is_none pair.upstream.owed)) ≡ true
    → client_waits waits listed pair ≡ client_front (front longest_body pair.client.heard) listed pair
waits_free waiting.Nothing listed pair free = owed_free pair.client.owed pair.upstream.owed listed pair free
waits_free waiting.OnList listed pair free = cc
waits_free waiting.OnBind listed pair free = cc
waits_free waiting.OnReply listed pair free = cc

waits_held : (waits : Waits) (listed : Listed) (pair : Pair)
    → (is_quiet waits && (is_none pair.client.owed && is_none pair.upstream.owed)) ≡ false
    → client_waits waits listed pair ≡ stays pair
waits_held waiting.Nothing listed pair held = owed_held pair.client.owed pair.upstream.owed listed pair held
waits_held waiting.OnList listed pair held = refl
waits_held waiting.OnBind listed pair held = refl
waits_held waiting.OnReply listed pair held = refl

-- the look is this
leaves_as : (is_open : Bool) (pair : Pair) (after other : Looked) → after ≡ other
    → is_open ≡ other.is_open → pair ≡ other.pair → Leaves is_open pair after
leaves_as is_open pair after other same open_yet left = record {
  stays = open_yet ∙ ap (λ (l : Looked). l.is_open) (sym same);
  left = left ∙ ap (λ (l : Looked). l.pair) (sym same);
}

pub held_leaves : (listed : Listed) (pair : Pair) → is_free pair ≡ false
    → Leaves true pair (client_looked listed pair)
held_leaves listed pair held = leaves_as true pair (client_looked listed pair) (stays pair) (waits_held pair.waits listed pair held) refl refl

front_is : (listed : Listed) (pair : Pair) (answer : Front) → is_free pair ≡ true
    → front longest_body pair.client.heard ≡ answer
    → client_looked listed pair ≡ client_front answer listed pair
front_is listed pair answer free found = waits_free pair.waits listed pair free ∙ ap (λ (f : Front). client_front f listed pair) found

pub more_leaves : (listed : Listed) (pair : Pair) → is_free pair ≡ true
    → front longest_body pair.client.heard ≡ More → Leaves true pair (client_looked listed pair)
more_leaves listed pair free found = leaves_as true pair (client_looked listed pair) (stays pair) (front_is listed pair More free found) refl refl

pub bad_leaves : (listed : Listed) (pair : Pair) (announced : ℕ) → is_free pair ≡ true
    → front longest_body pair.client.heard ≡ Bad announced
    → Leaves false pair (client_looked listed pair)
bad_leaves listed pair announced free found = leaves_as false pair (client_looked listed pair) (ends pair) (front_is listed pair (Bad announced) free found) refl refl

pub taken_leaves : (listed : Listed) (pair left : Pair) (body_len : ℕ) → is_free pair ≡ true
    → front longest_body pair.client.heard ≡ Whole body_len
    → left ≡ taken_as (fate_of listed (front_body body_len pair.client.heard)) (front_body body_len pair.client.heard) (record pair { client = without_front body_len pair.client })
    → Leaves true left (client_looked listed pair)
taken_leaves listed pair left body_len free found is =
    leaves_as true left (client_looked listed pair) (client_front (Whole body_len) listed pair) (front_is listed pair (Whole body_len) free found) refl is

quiet_by : (waits : Waits) (others : Bool) → (is_quiet waits && others) ≡ true → waits ≡ waiting.Nothing
quiet_by waiting.Nothing others free = refl
quiet_by waiting.OnList others free = cc
quiet_by waiting.OnBind others free = cc
quiet_by waiting.OnReply others free = cc

pub free_is_quiet : (pair : Pair) → is_free pair ≡ true → pair.waits ≡ waiting.Nothing
free_is_quiet pair free = quiet_by pair.waits (is_none pair.client.owed && is_none pair.upstream.owed) free

-- ---- the other side

left_by : (heard : List ℕ) (pair : Pair) (is_open : Bool) → is_open ≡ is_none heard
    → Leaves is_open pair (nothing_left heard pair)
left_by [] pair is_open is = record { stays = is; left = refl }
left_by (byte ∷ bytes) pair is_open is = record { stays = is; left = refl }

unasked_by : (waits : Waits) (listed : Listed) (pair : Pair) → is_quiet waits ≡ true
    → upstream_waits waits listed pair ≡ nothing_left pair.upstream.heard pair
unasked_by waiting.Nothing listed pair quiet = refl
unasked_by waiting.OnList listed pair quiet = cc
unasked_by waiting.OnBind listed pair quiet = cc
unasked_by waiting.OnReply listed pair quiet = cc

pub unasked_leaves : (listed : Listed) (pair : Pair) (is_open : Bool) → is_quiet pair.waits ≡ true
    → is_open ≡ is_none pair.upstream.heard → Leaves is_open pair (upstream_looked listed pair)
unasked_leaves listed pair is_open quiet is =
    let left = left_by pair.upstream.heard pair is_open is in
    leaves_as is_open pair (upstream_looked listed pair) (nothing_left pair.upstream.heard pair) (unasked_by pair.waits listed pair quiet) left.stays left.left

asked_by : (waits : Waits) (listed : Listed) (pair : Pair) → is_quiet waits ≡ false
    → upstream_waits waits listed pair ≡ upstream_front (front longest_body pair.upstream.heard) listed pair
asked_by waiting.Nothing listed pair asked = cc
asked_by waiting.OnList listed pair asked = refl
asked_by waiting.OnBind listed pair asked = refl
asked_by waiting.OnReply listed pair asked = refl

upstream_is : (listed : Listed) (pair : Pair) (answer : Front) → is_quiet pair.waits ≡ false
    → front longest_body pair.upstream.heard ≡ answer
    → upstream_looked listed pair ≡ upstream_front answer listed pair
upstream_is listed pair answer asked found = asked_by pair.waits listed pair asked ∙ ap (λ (f : Front). upstream_front f listed pair) found

pub upstream_more : (listed : Listed) (pair : Pair) → is_quiet pair.waits ≡ false
    → front longest_body pair.upstream.heard ≡ More → Leaves true pair (upstream_looked listed pair)
upstream_more listed pair asked found = leaves_as true pair (upstream_looked listed pair) (stays pair) (upstream_is listed pair More asked found) refl refl

pub upstream_bad : (listed : Listed) (pair : Pair) (announced : ℕ) → is_quiet pair.waits ≡ false
    → front longest_body pair.upstream.heard ≡ Bad announced
    → Leaves false pair (upstream_looked listed pair)
upstream_bad listed pair announced asked found = leaves_as false pair (upstream_looked listed pair) (ends pair) (upstream_is listed pair (Bad announced) asked found) refl refl

pub upstream_whole : (listed : Listed) (pair left : Pair) (body_len : ℕ) (is_open : Bool)
    → is_quiet pair.waits ≡ false → front longest_body pair.upstream.heard ≡ Whole body_len
    → Leaves is_open left (answered (reply_for pair.waits listed (front_body body_len pair.upstream.heard)) body_len pair)
    → Leaves is_open left (upstream_looked listed pair)
upstream_whole listed pair left body_len is_open asked found leaves =
    leaves_as is_open left (upstream_looked listed pair) (upstream_front (Whole body_len) listed pair) (upstream_is listed pair (Whole body_len) asked found) leaves.stays leaves.left

-- ---- an answer

pub answered_none : (reply : Option (List ℕ)) (body_len : ℕ) (pair left : Pair)
    → is_some reply ≡ false → left ≡ replied reply body_len pair
    → Leaves false left (answered reply body_len pair)
answered_none None body_len pair left none is = record { stays = refl; left = is }
answered_none (Some reply) body_len pair left none is = absurd (cc)

pub answered_some : (reply : Option (List ℕ)) (body_len : ℕ) (pair left : Pair) (is_open : Bool)
    → is_some reply ≡ true → is_open ≡ is_none (replied reply body_len pair).upstream.heard
    → left ≡ record (replied reply body_len pair) { waits = waiting.Nothing }
    → Leaves is_open left (answered reply body_len pair)
answered_some None body_len pair left is_open some open_yet is = absurd (cc)
answered_some (Some reply) body_len pair left is_open some open_yet is =
    let after : Pair = record (replied (Some reply) body_len pair) { waits = waiting.Nothing } in
    let leaves = left_by (after_front body_len pair.upstream.heard) after is_open open_yet in
    record { stays = leaves.stays; left = is ∙ leaves.left }

-- ---- both sides

pub then_stops : (listed : Listed) (pair left : Pair)
    → Leaves false left (client_looked listed pair)
    → Leaves false left (and_then (client_looked listed pair) (upstream_looked listed))
then_stops listed pair left first =
    leaves_as false left (and_then (client_looked listed pair) (upstream_looked listed)) (ends (client_looked listed pair).pair)
    (ap (λ (b : Bool). and_then_if b (client_looked listed pair).pair (upstream_looked listed)) (sym first.stays)) refl first.left

pub then_goes : (listed : Listed) (pair mid left : Pair) (is_open : Bool)
    → Leaves true mid (client_looked listed pair) → Leaves is_open left (upstream_looked listed mid)
    → Leaves is_open left (and_then (client_looked listed pair) (upstream_looked listed))
then_goes listed pair mid left is_open first next =
    leaves_as is_open left (and_then (client_looked listed pair) (upstream_looked listed)) (upstream_looked listed mid)
    (ap (λ (b : Bool). and_then_if b (client_looked listed pair).pair (upstream_looked listed)) (sym first.stays) ∙ ap (upstream_looked listed) (sym first.left)) next.stays next.left

-- a connection on which nothing is under way is as good as a new one
pub freed_leaves : (pair left : Pair) (is_open : Bool) (after : Looked) → left ≡ freed pair
    → Leaves is_open pair after → Leaves is_open left (freed_after after)
freed_leaves pair left is_open after back leaves = record {
  stays = leaves.stays;
  left = back ∙ ap freed leaves.left;
}

-- ---- a connection that ended

pub lost_used : (pair : Pair) → pair.is_used ≡ true → Leaves false pair (lost pair)
lost_used pair used = leaves_as false pair (lost pair) (ends pair) (ap (λ (b : Bool). lost_if b pair) used) refl refl

pub lost_unused : (pair left : Pair) → pair.is_used ≡ false → left ≡ unlinked pair
    → Leaves true left (lost pair)
lost_unused pair left unused is = leaves_as true left (lost pair) (stays (unlinked pair)) (ap (λ (b : Bool). lost_if b pair) unused) refl is
