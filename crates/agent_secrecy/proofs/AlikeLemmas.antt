-- What is put to the helper in two alike runs is equal, or requests to sign with alike keys.
use Rattle.std.proofs.Common.{◌≡◌, ◌⊎◌, inl, inr, List, [], ◌∷◌, map, refl, sym, ap, subst}
use Rattle.std.proofs.lemmas.List.Elements.{All-head, All-tail}
use Rattle.key_blob.specs.AddedKeys.{IsAddedKey}
use Rattle.child_msg.specs.Messages.{Confirm, Sign, Signing, ToChildMessage, Verify}
use Rattle.agent_model.specs.Actions.{Outcome}
use Rattle.agent_model.specs.Events.{Timed}
use Rattle.agent_model.specs.Runs.{AllFit, outcomes}
use Rattle.agent_model.specs.State.{Settings, first_state}
use Rattle.agent_secrecy.specs.Alike.{AreAlike}
use Rattle.agent_secrecy.specs.Frames.{AreAlikeMessages, AreAlikePut, AreAlikeSignings, key_in}
use Rattle.agent_secrecy.specs.Hiding.{hide_message}
use Rattle.agent_secrecy.specs.Pieces.{AreOfBytes}
use Rattle.agent_secrecy.specs.Secrecy.{AreAlikeSeen}
use Rattle.agent_secrecy.specs.Secrets.{hidden}
use Rattle.agent_secrecy.proofs.AdditionLemmas.{ArePut, IsOfAddition}
use Rattle.agent_secrecy.proofs.PutLemmas.{EachPut, puts}
use Rattle.agent_secrecy.proofs.ExactLemmas.{hidden_alike}
use Rattle.agent_secrecy.proofs.SecrecyLemmas.{every_run}

inside : (one other : Signing) → Sign one ≡ Sign other → one ≡ other
inside one other same = cc

signings : (one other : Signing) → hide_message hidden (Sign one) ≡ hide_message hidden (Sign other)
    → IsOfAddition (Sign one) → IsOfAddition (Sign other)
    → AreAlikeSignings (Sign one) (Sign other)
signings one other same is other_is =
    let one_hidden : Signing = record one { private = hidden one.private } in
    let other_hidden : Signing = record other { private = hidden other.private } in
    let inner : one_hidden ≡ other_hidden = inside one_hidden other_hidden same in
    let again : Signing = record one { private = other.private } in
    let bytes : again ≡ other = ap (λ (s : Signing). let t : Signing = record s { private = other.private } in t) inner in
    let again_is : IsAddedKey (key_in again) = subst (λ (s : Signing). IsAddedKey (key_in s)) (sym bytes) other_is in
    record {
      signing = one;
      private = other.private;
      left = refl;
      right = ap Sign (sym bytes);
      keys = hidden_alike (key_in one) (key_in again) is again_is (ap (λ (s : Signing). s.private) inner);
    }

message : (one other : ToChildMessage) → hide_message hidden one ≡ hide_message hidden other
    → IsOfAddition one → IsOfAddition other
    → (one ≡ other) ⊎ AreAlikeSignings one other
message (Sign one) (Sign other) same is other_is = inr (signings one other same is other_is)
message (Sign one) (Verify other) same is other_is = absurd (cc)
message (Sign one) (Confirm job prompt) same is other_is = absurd (cc)
message (Verify one) (Sign other) same is other_is = absurd (cc)
message (Verify one) (Verify other) same is other_is = inl same
message (Verify one) (Confirm job prompt) same is other_is = absurd (cc)
message (Confirm job prompt) (Sign other) same is other_is = absurd (cc)
message (Confirm job prompt) (Verify other) same is other_is = absurd (cc)
message (Confirm job prompt) (Confirm other_job other_prompt) same is other_is = inl same

messages : (ones others : List ToChildMessage)
    → map (hide_message hidden) ones ≡ map (hide_message hidden) others → ArePut ones
    → ArePut others → AreAlikeMessages ones others
messages [] [] same is other_is = tt
messages [] (other ∷ others) same is other_is = absurd (cc)
messages (one ∷ ones) [] same is other_is = absurd (cc)
messages (one ∷ ones) (other ∷ others) same is other_is =
    let first : hide_message hidden one ≡ hide_message hidden other = cc in
    let rest : map (hide_message hidden) ones ≡ map (hide_message hidden) others = cc in (
      message one other first (All-head IsOfAddition one ones is) (All-head IsOfAddition other others other_is),
      messages ones others rest (All-tail IsOfAddition one ones is) (All-tail IsOfAddition other others other_is),
    )

all_messages : (ones others : List Outcome) → AreAlikeSeen ones others → EachPut ones
    → EachPut others → AreAlikePut ones others
all_messages [] [] seen is other_is = tt
all_messages [] (other ∷ others) seen is other_is = absurd seen
all_messages (one ∷ ones) [] seen is other_is = absurd seen
all_messages (one ∷ ones) (other ∷ others) seen is other_is =
    (messages one.put other.put seen.0.put is.0 other_is.0, all_messages ones others seen.1 is.1 other_is.1)

pub every_put : (settings : Settings) (one other : List Timed) → AreAlike one other
    → AllFit (first_state settings) one → AreOfBytes one → AreOfBytes other
    → AreAlikePut (outcomes (first_state settings) one) (outcomes (first_state settings) other)
every_put settings one other alike fit bytes other_bytes =
    all_messages (outcomes (first_state settings) one) (outcomes (first_state settings) other) (every_run settings one other alike fit) (puts settings one bytes) (puts settings other other_bytes)
