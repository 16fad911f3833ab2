-- Lemmas for the laws of the answers.
use Rattle.std.proofs.Common.{◌≡◌, ℕ, Bool, true, false, List, [], ◌∷◌, length, map, take, Option, Some, None, Result, Ok, Err, if◌then◌else◌, refl, ap, sym, ◌∙◌}
use Rattle.std.specs.Str.{bytes_eq}
use Rattle.std.specs.Result.{result_ok}
use Rattle.std.proofs.lemmas.Slice.Eq.{bytes_eq-Decides}
use Rattle.child_msg.specs.Messages.{FromChildMessage, Signed, Refused, True, False, ToChildMessage, Sign, Verify, Confirm, Signing, Verification}
use Rattle.child_msg.specs.Reading.{to_child_of}
use Rattle.child_msg.specs.declared.fault.ChildFault.{ChildFault}
use Rattle.standin_core.specs.Answers.{answer_of, answer_to, host_secret, is_signed_with, signed_with}
use Rattle.standin_core.specs.Hosts.{Host, secret_for}
use Rattle.standin_core.specs.Keys.{IsBlob, secret_of, signature_of, tag_of}
use Rattle.standin_core.specs.Laws.{IsRefusedFor, IsSignedFor, IsTrueFor}
use Rattle.standin_core.specs.Transcript.{answers_to, then_answers}
use Rattle.standin_core.proofs.AnswerLemmas.{answer_of-message}
use Rattle.standin_core.proofs.KeyLemmas.{secret_of-found, secret_of-only, tag_of-found, tag_of-only}

-- ---- the order

answers-head : (hosts : List Host) (body : List ℕ) (bodies : List (List ℕ)) (given : Option FromChildMessage)
    → answer_of hosts body ≡ given
    → map (answer_of hosts) (take (length (answers_to hosts bodies)) bodies) ≡ map (λ answer. Some answer) (answers_to hosts bodies)
    → map (answer_of hosts) (take (length (then_answers given (answers_to hosts bodies))) (body ∷ bodies)) ≡ map (λ answer. Some answer) (then_answers given (answers_to hosts bodies))
answers-head hosts body bodies (Some answer) is later = cc
answers-head hosts body bodies None is later = refl

pub answers-in_order : (hosts : List Host) (bodies : List (List ℕ))
    → map (answer_of hosts) (take (length (answers_to hosts bodies)) bodies) ≡ map (λ answer. Some answer) (answers_to hosts bodies)
unfolding answers_to
answers-in_order hosts [] = refl
answers-in_order hosts (body ∷ bodies) =
    answers-head hosts body bodies (answer_of hosts body) refl (answers-in_order hosts bodies)

-- ---- what is asked

-- a request for a signature, which was answered
signed-asked : (ask : ℕ) (signature : List ℕ) (request : Signing) (secret : Option (List ℕ))
    → signed_with secret request ≡ Signed ask signature
    → (found : List ℕ) × (secret ≡ Some found) × (request.ask ≡ ask) × (signature ≡ signature_of found request.message)
signed-asked ask signature request (Some found) is = (found, refl, cc is, cc is)
signed-asked ask signature request None is = cc is

-- a request for a signature, which was refused
refused-asked : (ask : ℕ) (request : Signing) (secret : Option (List ℕ))
    → signed_with secret request ≡ Refused ask → (secret ≡ None) × (request.ask ≡ ask)
refused-asked ask request (Some found) is = cc is
refused-asked ask request None is = (refl, cc is)

-- a verification says TRUE or FALSE
verdict-true : (ask number : ℕ) (test : Bool)
    → (if test then True number else False number) ≡ True ask → (test ≡ true) × (number ≡ ask)
verdict-true ask number true is = (refl, cc is)
verdict-true ask number false is = cc is

no_signature : (ask number : ℕ) (signature : List ℕ) (test : Bool)
    → (if test then True number else False number) ≡ Signed ask signature → ⊥
no_signature ask number signature true is = cc is
no_signature ask number signature false is = cc is

no_refusal : (ask number : ℕ) (test : Bool)
    → (if test then True number else False number) ≡ Refused ask → ⊥
no_refusal ask number true is = cc is
no_refusal ask number false is = cc is

no_truth : (ask : ℕ) (request : Signing) (secret : Option (List ℕ))
    → signed_with secret request ≡ True ask → ⊥
no_truth ask request (Some found) is = cc is
no_truth ask request None is = cc is

-- values in an option are the same where the options are
same_some : {A : Type 0} (x y : A) → Some x ≡ Some y → x ≡ y
same_some x y same = cc

-- ---- signatures

signed-message : (hosts : List Host) (body : List ℕ) (ask : ℕ) (signature : List ℕ) (read : Result ToChildMessage ChildFault)
    → to_child_of body ≡ read
    → answer_to hosts (result_ok read) ≡ Some (Signed ask signature) → IsSignedFor body ask signature
signed-message hosts body ask signature (Ok (Sign request)) read is =
    let asked = signed-asked ask signature request (secret_of request.private request.blob) (same_some _ _ is) in
    record {
      request = request;
      asks = record { read = read; number = asked.2 };
      secret = asked.0;
      private = secret_of-only request.private request.blob asked.0 asked.1;
      made = asked.3;
    }
signed-message hosts body ask signature (Ok (Verify request)) read is =
    absurd (no_signature ask request.ask signature _ (same_some _ _ is))
signed-message hosts body ask signature (Ok (Confirm job prompt)) read is = cc is
signed-message hosts body ask signature (Err fault) read is = cc is

pub signed-only : (hosts : List Host) (body : List ℕ) (ask : ℕ) (signature : List ℕ)
    → answer_of hosts body ≡ Some (Signed ask signature) → IsSignedFor body ask signature
unfolding answer_of
signed-only hosts body ask signature is =
    signed-message hosts body ask signature (to_child_of body) refl is

pub signed-found : (hosts : List Host) (body : List ℕ) (ask : ℕ) (signature : List ℕ)
    → IsSignedFor body ask signature → answer_of hosts body ≡ Some (Signed ask signature)
signed-found hosts body ask signature signed =
    answer_of-message hosts body (Sign signed.request) signed.asks.read
    ∙ ap (λ (s : Option (List ℕ)). Some (signed_with s signed.request)) (secret_of-found signed.request.private signed.request.blob signed.secret signed.private)
    ∙ ap (λ (n : ℕ). Some (Signed n (signature_of signed.secret signed.request.message))) signed.asks.number
    ∙ ap (λ (s : List ℕ). Some (Signed ask s)) (sym signed.made)

-- ---- refusals

refused-message : (hosts : List Host) (body : List ℕ) (ask : ℕ) (read : Result ToChildMessage ChildFault)
    → to_child_of body ≡ read
    → answer_to hosts (result_ok read) ≡ Some (Refused ask) → IsRefusedFor body ask
refused-message hosts body ask (Ok (Sign request)) read is =
    let asked = refused-asked ask request (secret_of request.private request.blob) (same_some _ _ is) in
    record {
      request = request;
      asks = record { read = read; number = asked.1 };
      none = λ secret private. let found = secret_of-found request.private request.blob secret private in cc (found, asked.0);
    }
refused-message hosts body ask (Ok (Verify request)) read is =
    absurd (no_refusal ask request.ask _ (same_some _ _ is))
refused-message hosts body ask (Ok (Confirm job prompt)) read is = cc is
refused-message hosts body ask (Err fault) read is = cc is

pub refused-only : (hosts : List Host) (body : List ℕ) (ask : ℕ)
    → answer_of hosts body ≡ Some (Refused ask) → IsRefusedFor body ask
unfolding answer_of
refused-only hosts body ask is = refused-message hosts body ask (to_child_of body) refl is

-- what holds of no value
none_of : {A : Type 0} (o : Option A) → ((x : A) → o ≡ Some x → ⊥) → o ≡ None
none_of None none = refl
none_of (Some x) none = absurd (none x refl)

pub refused-found : (hosts : List Host) (body : List ℕ) (ask : ℕ) → IsRefusedFor body ask
    → answer_of hosts body ≡ Some (Refused ask)
refused-found hosts body ask refused =
    let none = none_of (secret_of refused.request.private refused.request.blob) (λ secret found.
    refused.none secret (secret_of-only refused.request.private refused.request.blob secret found)) in
    answer_of-message hosts body (Sign refused.request) refused.asks.read
    ∙ ap (λ (s : Option (List ℕ)). Some (signed_with s refused.request)) none
    ∙ ap (λ (n : ℕ). Some (Refused n)) refused.asks.number

-- ---- verifications

-- a signature that is right
pub record IsRight (hosts : List Host) (request : Verification) : Type 0 where
  pub tag : List ℕ
  pub blob : IsBlob request.host_key tag
  pub secret : List ℕ
  pub host : secret_for tag hosts ≡ Some secret
  pub made : request.signature ≡ signature_of secret request.session

right-secret : (hosts : List Host) (request : Verification) (tag : List ℕ) (secret : Option (List ℕ))
    → IsBlob request.host_key tag → secret_for tag hosts ≡ secret
    → is_signed_with secret request ≡ true → IsRight hosts request
right-secret hosts request tag (Some secret) blob host is = record {
  tag = tag;
  blob = blob;
  secret = secret;
  host = host;
  made = (bytes_eq-Decides request.signature (signature_of secret request.session)).0 is;
}
right-secret hosts request tag None blob host is = cc is

right-tag : (hosts : List Host) (request : Verification) (tag : Option (List ℕ))
    → tag_of request.host_key ≡ tag → is_signed_with (host_secret hosts tag) request ≡ true
    → IsRight hosts request
right-tag hosts request (Some tag) found is = right-secret hosts request tag (secret_for tag hosts) (tag_of-only request.host_key tag found) refl is
right-tag hosts request None found is = cc is

true-message : (hosts : List Host) (body : List ℕ) (ask : ℕ) (read : Result ToChildMessage ChildFault)
    → to_child_of body ≡ read
    → answer_to hosts (result_ok read) ≡ Some (True ask) → IsTrueFor hosts body ask
true-message hosts body ask (Ok (Sign request)) read is =
    absurd (no_truth ask request _ (same_some _ _ is))
true-message hosts body ask (Ok (Verify request)) read is =
    let verdict = verdict-true ask request.ask _ (same_some _ _ is) in
    let right = right-tag hosts request (tag_of request.host_key) refl verdict.0 in
    record {
      request = request;
      read = read;
      number = verdict.1;
      tag = right.tag;
      blob = right.blob;
      secret = right.secret;
      host = right.host;
      made = right.made;
    }
true-message hosts body ask (Ok (Confirm job prompt)) read is = cc is
true-message hosts body ask (Err fault) read is = cc is

pub true-only : (hosts : List Host) (body : List ℕ) (ask : ℕ)
    → answer_of hosts body ≡ Some (True ask) → IsTrueFor hosts body ask
unfolding answer_of
true-only hosts body ask is = true-message hosts body ask (to_child_of body) refl is

pub true-found : (hosts : List Host) (body : List ℕ) (ask : ℕ) → IsTrueFor hosts body ask
    → answer_of hosts body ≡ Some (True ask)
true-found hosts body ask is =
    let request = is.request in
    let same : bytes_eq request.signature (signature_of is.secret request.session) ≡ true =
    (bytes_eq-Decides request.signature (signature_of is.secret request.session)).1 is.made in
    answer_of-message hosts body (Verify request) is.read
    ∙ ap (λ (t : Option (List ℕ)). Some (if is_signed_with (host_secret hosts t) request then True request.ask else False request.ask)) (tag_of-found request.host_key is.tag is.blob)
    ∙ ap (λ (s : Option (List ℕ)). Some (if is_signed_with s request then True request.ask else False request.ask)) is.host
    ∙ ap (λ (b : Bool). Some (if b then True request.ask else False request.ask)) same
    ∙ ap (λ (n : ℕ). Some (True n)) is.number
