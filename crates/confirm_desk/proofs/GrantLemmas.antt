-- Which bytes are a yes.
use Rattle.std.proofs.Common.{◌≡◌, ◌==◌, ℕ, ◌^◌, ◌<◌, Bool, true, false, cond, List, ◌++◌, length, drop, take, Result, Ok, Err, refl, sym, ap, ◌∙◌, arith}
use Rattle.std.proofs.lemmas.Bool.{eq-eqb, eqb-true}
use Rattle.std.proofs.lemmas.List.{take_at}
use Rattle.std.proofs.lemmas.List.Elements.{All-drop, All-take}
use Rattle.wire_text.specs.Bounds.{longest_body}
use Rattle.wire_text.specs.Frames.{Front, Whole, Bad, More, after_front, front, front_body}
use Rattle.wire_text.specs.Wire.{IsBytes, string}
use Rattle.wire_text.proofs.FrontLemmas.{front-string, front_is_string}
use Rattle.wire_text.proofs.WireLemmas.{drop-string, length-uint64}
use Rattle.child_msg.specs.ChildFrames.{from_child_body}
use Rattle.child_msg.specs.Messages.{FromChildMessage, Hello, Signed, Refused, True, False, Granted, Denied}
use Rattle.child_msg.specs.Reading.{from_child_of}
use Rattle.child_msg.specs.declared.fault.ChildFault.{ChildFault}
use Rattle.child_msg.proofs.FromChildLemmas.{IsFromChild_from_child_of}
use Rattle.child_msg.proofs.Theorems.{from_child_of_from_IsFromChild}
use Rattle.confirm_desk.specs.Confirmations.{Yes, No, consent, consent_at, consent_in}
use Rattle.confirm_desk.specs.Grants.{StartsWithGrant}

-- ---- a yes is a grant

its_own : (job other : ℕ) (here : Bool) → (job == other) ≡ here → cond here Yes No ≡ Yes → other ≡ job
its_own job other true same is = sym (eqb-true job other same)
its_own job other false same is = absurd cc

yes_in : (job : ℕ) (read : Result FromChildMessage ChildFault) → consent_in job read ≡ Yes → read ≡ Ok (Granted job)
yes_in job (Ok (Granted other)) is = ap (λ (n : ℕ). Ok (Granted n)) (its_own job other (job == other) refl is)
yes_in job (Ok (Denied other)) is = absurd cc
yes_in job (Ok (Hello other ticket)) is = absurd cc
yes_in job (Ok (Signed ask signature)) is = absurd cc
yes_in job (Ok (Refused ask)) is = absurd cc
yes_in job (Ok (True ask)) is = absurd cc
yes_in job (Ok (False ask)) is = absurd cc
yes_in job (Err fault) is = absurd cc

yes_at : (job : ℕ) (answer : Front) (heard : List ℕ) → IsBytes heard → front longest_body heard ≡ answer → consent_at job answer heard ≡ Yes → StartsWithGrant job heard
yes_at job (Whole body_len) heard small found is =
    let body : List ℕ = front_body body_len heard in
    let read = yes_in job (from_child_of body) is in
    let bytes : IsBytes body = All-take (λ byte. byte < 256) body_len (drop 4 heard) (All-drop (λ byte. byte < 256) 4 heard small) in
    record {
      rest = after_front body_len heard;
      whole = front_is_string longest_body heard body_len small found
          ∙ ap (λ (b : List ℕ). string b ++ after_front body_len heard) (IsFromChild_from_child_of body (Granted job) bytes read).printed;
    }
yes_at job (Bad announced) heard small found is = absurd cc
yes_at job More heard small found is = absurd cc

pub yes_is_grant : (job : ℕ) (heard : List ℕ) → IsBytes heard → consent job heard ≡ Yes → StartsWithGrant job heard
unfolding consent
yes_is_grant job heard small is = yes_at job (front longest_body heard) heard small refl is

-- ---- a grant is a yes

grant_at : (job : ℕ) (rest : List ℕ) → job < 2 ^ 64 →
    consent_at job (front longest_body (string (from_child_body (Granted job)) ++ rest)) (string (from_child_body (Granted job)) ++ rest) ≡ Yes
grant_at job rest small =
    let body : List ℕ = from_child_body (Granted job) in
    let heard : List ℕ = string body ++ rest in
    let long = length-uint64 job in
    let there : front_body (length body) heard ≡ body = ap (take (length body)) (drop-string body rest) ∙ take_at body rest (length body) refl in
    ap (λ (answer : Front). consent_at job answer heard)
    (front-string longest_body body rest (omega arith) (record { some = omega arith; within = omega (arith, long) }))
    ∙ ap (λ (b : List ℕ). consent_in job (from_child_of b)) there
    ∙ ap (consent_in job) (from_child_of_from_IsFromChild body (Granted job) (record { printed = refl; fits = small }))
    ∙ ap (λ (here : Bool). cond here Yes No) (eq-eqb job job refl)

pub grant_is_yes : (job : ℕ) (heard : List ℕ) → job < 2 ^ 64 → StartsWithGrant job heard → consent job heard ≡ Yes
unfolding consent
grant_is_yes job heard small grant =
    ap (λ (bytes : List ℕ). consent_at job (front longest_body bytes) bytes) grant.whole ∙ grant_at job grant.rest small
