-- What is found by its bytes alone is what the words say.
use Rattle.std.proofs.Common.{◌≡◌, ◌⊎◌, ◌||◌, ◌-◌, ◌+◌, ℕ, suc, get_or, ◌^◌, ◌<◌, Bool, true, false, List, [], ◌∷◌, ◌++◌, length, take, drop, Option, Some, None, inl, inr, refl, sym, ap, subst, ◌∙◌, arith}
use Rattle.std.specs.Prelude.{codes}
use Rattle.std.specs.Str.{bytes_eq}
use Rattle.std.proofs.Math.Seq.{drop-append_seam, drop-cons, take-append_seam, take-length}
use Rattle.std.proofs.lemmas.Bool.{or_cases}
use Rattle.std.proofs.lemmas.List.{length-append, length-drop, take-append-drop}
use Rattle.std.proofs.lemmas.List.Elements.{All-tail}
use Rattle.std.proofs.lemmas.Slice.Eq.{bytes_eq-Decides}
use Rattle.wire_text.specs.Wire.{IsBytes, string}
use Rattle.wire_core.specs.Fields.{string_at, string_len}
use Rattle.wire_core.proofs.Theorems.{string_at-string, string_is_front}
use Rattle.key_purposes.specs.Suspicions.{Begins, BeginsCertificate, HoldsNameOfLogin, IsCertificateEnding, IsMethod, IsNameOfLogin, IsService, begins, begins_certificate, if_certificate, if_named, is_certificate_ending, is_certificate_type, is_name_of_login, may_log_in, names_login}

-- ---- one of two tests

pub here : (one other : Bool) → one ≡ true → (one || other) ≡ true
here true other is = refl
here false other is = absurd cc

pub there : (one other : Bool) → other ≡ true → (one || other) ≡ true
there true other is = refl
there false other is = is

-- ---- names

begins_so : (text bytes : List ℕ) → begins text bytes ≡ true → Begins text bytes
begins_so text bytes is =
    let front = (bytes_eq-Decides (take (length text) bytes) text).0 is in
    (drop (length text) bytes, sym (take-append-drop (length text) bytes) ∙ ap (λ (f : List ℕ). f ++ drop (length text) bytes) front)

begins_again : (text bytes : List ℕ) → Begins text bytes → begins text bytes ≡ true
begins_again text bytes is =
    (bytes_eq-Decides (take (length text) bytes) text).1 (ap (λ (b : List ℕ). take (length text) b) is.1 ∙ take-append_seam text is.0)

name_is : (name : List ℕ) → is_name_of_login name ≡ true → IsNameOfLogin name
unfolding is_name_of_login
name_is name is =
    either (or_cases (bytes_eq name (codes "ssh-connection") || bytes_eq name (codes "ssh-userauth")) (begins (codes "publickey") name || begins (codes "hostbased") name) is)
  where
    service : ((bytes_eq name (codes "ssh-connection") ≡ true) ⊎ (bytes_eq name (codes "ssh-userauth") ≡ true)) → IsService name
    service (inl is) = inl ((bytes_eq-Decides name (codes "ssh-connection")).0 is)
    service (inr is) = inr ((bytes_eq-Decides name (codes "ssh-userauth")).0 is)

    method : ((begins (codes "publickey") name ≡ true) ⊎ (begins (codes "hostbased") name ≡ true)) → IsMethod name
    method (inl is) = inl (begins_so (codes "publickey") name is)
    method (inr is) = inr (begins_so (codes "hostbased") name is)

    either : (((bytes_eq name (codes "ssh-connection") || bytes_eq name (codes "ssh-userauth")) ≡ true) ⊎ ((begins (codes "publickey") name || begins (codes "hostbased") name) ≡ true))
        → IsNameOfLogin name
    either (inl is) = inl (service (or_cases (bytes_eq name (codes "ssh-connection")) (bytes_eq name (codes "ssh-userauth")) is))
    either (inr is) = inr (method (or_cases (begins (codes "publickey") name) (begins (codes "hostbased") name) is))

service_again : (name : List ℕ) → IsService name → (bytes_eq name (codes "ssh-connection") || bytes_eq name (codes "ssh-userauth")) ≡ true
service_again name (inl is) =
    here (bytes_eq name (codes "ssh-connection")) (bytes_eq name (codes "ssh-userauth")) ((bytes_eq-Decides name (codes "ssh-connection")).1 is)
service_again name (inr is) =
    there (bytes_eq name (codes "ssh-connection")) (bytes_eq name (codes "ssh-userauth")) ((bytes_eq-Decides name (codes "ssh-userauth")).1 is)

method_again : (name : List ℕ) → IsMethod name → (begins (codes "publickey") name || begins (codes "hostbased") name) ≡ true
method_again name (inl is) = here (begins (codes "publickey") name) (begins (codes "hostbased") name) (begins_again (codes "publickey") name is)
method_again name (inr is) = there (begins (codes "publickey") name) (begins (codes "hostbased") name) (begins_again (codes "hostbased") name is)

name_again : (name : List ℕ) → IsNameOfLogin name → is_name_of_login name ≡ true
unfolding is_name_of_login
name_again name (inl is) =
    here (bytes_eq name (codes "ssh-connection") || bytes_eq name (codes "ssh-userauth")) (begins (codes "publickey") name || begins (codes "hostbased") name)
    (service_again name is)
name_again name (inr is) =
    there (bytes_eq name (codes "ssh-connection") || bytes_eq name (codes "ssh-userauth")) (begins (codes "publickey") name || begins (codes "hostbased") name)
    (method_again name is)

-- ---- a name anywhere

at_front : (bytes : List ℕ) (read : Option (List ℕ × List ℕ)) → IsBytes bytes → string_at bytes ≡ read → if_named read ≡ true
    → HoldsNameOfLogin bytes
at_front bytes None small at is = absurd cc
at_front bytes (Some text) small at is =
    let front = string_is_front bytes text.0 text.1 small at in
    record { front = []; name = text.0; rest = text.1; text = front.0.parts; short = front.1; names = name_is text.0 is }

pub holds_name : (message : List ℕ) → IsBytes message → may_log_in message ≡ true → HoldsNameOfLogin message
unfolding may_log_in names_login
holds_name [] small is = absurd cc
holds_name (byte ∷ bytes) small is =
    by_place (λ so. holds_name bytes (All-tail (λ b. b < 256) byte bytes small) so) (or_cases (names_login (byte ∷ bytes)) (may_log_in bytes) is)
  where
    by_place : (may_log_in bytes ≡ true → HoldsNameOfLogin bytes) → ((names_login (byte ∷ bytes) ≡ true) ⊎ (may_log_in bytes ≡ true))
        → HoldsNameOfLogin (byte ∷ bytes)
    by_place behind (inl is) = at_front (byte ∷ bytes) (string_at (byte ∷ bytes)) small refl is
    by_place behind (inr is) =
        let later = behind is in
        record {
          front = byte ∷ later.front;
          name = later.name;
          rest = later.rest;
          text = ap (λ (b : List ℕ). byte ∷ b) later.text;
          short = later.short;
          names = later.names;
        }

by_parts : (all : List ℕ) (byte : ℕ) (rest : List ℕ) → all ≡ byte ∷ rest → may_log_in all ≡ (names_login all || may_log_in rest)
unfolding may_log_in
by_parts all byte rest is = rw is refl

-- the name is at this place, or behind it
pub one_more : (message : List ℕ) (at : ℕ) → at < length message
    → may_log_in (drop at message) ≡ (names_login (drop at message) || may_log_in (drop (at + 1) message))
one_more message at within =
    let next : suc at ≡ at + 1 = omega arith in
    by_parts (drop at message) (get_or message at 0) (drop (suc at) message) (drop-cons message at 0 within)
    ∙ ap (λ n. names_login (drop at message) || may_log_in (drop n message)) next

pub none_in_nothing : may_log_in [] ≡ false
unfolding may_log_in
none_in_nothing = refl

-- what is left of a message, as a slice of it
pub left_is : (message : List ℕ) (at : ℕ) → take (length message - at) (drop at message) ≡ drop at message
left_is message at = ap (λ n. take n (drop at message)) (sym (length-drop at message)) ∙ take-length (drop at message)

from_front : (bytes : List ℕ) → names_login bytes ≡ true → may_log_in bytes ≡ true
unfolding may_log_in names_login string_at string_len
from_front [] is = absurd cc
from_front (byte ∷ bytes) is = here (names_login (byte ∷ bytes)) (may_log_in bytes) is

name_found : (name rest : List ℕ) → length name < 2 ^ 32 → IsNameOfLogin name → names_login (string name ++ rest) ≡ true
unfolding names_login
name_found name rest short is = rw (string_at-string name rest short) (name_again name is)

-- a name is found wherever it stands
pub name_stands : (front name rest : List ℕ) → length name < 2 ^ 32 → IsNameOfLogin name
    → may_log_in (front ++ (string name ++ rest)) ≡ true
unfolding may_log_in
name_stands [] name rest short is = from_front (string name ++ rest) (name_found name rest short is)
name_stands (byte ∷ front) name rest short is =
    there (names_login (byte ∷ (front ++ (string name ++ rest)))) (may_log_in (front ++ (string name ++ rest))) (name_stands front name rest short is)

pub name_held : (message : List ℕ) → HoldsNameOfLogin message → may_log_in message ≡ true
name_held message is = ap may_log_in is.text ∙ name_stands is.front is.name is.rest is.short is.names

-- ---- certificates

-- an ending has 21 bytes
ending_len : (ending : List ℕ) → IsCertificateEnding ending → length ending ≡ 21
ending_len ending (inl is) = ap length is
ending_len ending (inr is) = ap length is

ending_is : (ending : List ℕ) → is_certificate_ending ending ≡ true → IsCertificateEnding ending
ending_is ending is =
    either (or_cases (bytes_eq ending (codes "-cert-v01@openssh.com")) (bytes_eq ending (codes "-cert-v00@openssh.com")) is)
  where
    either : ((bytes_eq ending (codes "-cert-v01@openssh.com") ≡ true) ⊎ (bytes_eq ending (codes "-cert-v00@openssh.com") ≡ true))
        → IsCertificateEnding ending
    either (inl is) = inl ((bytes_eq-Decides ending (codes "-cert-v01@openssh.com")).0 is)
    either (inr is) = inr ((bytes_eq-Decides ending (codes "-cert-v00@openssh.com")).0 is)

ending_again : (ending : List ℕ) → IsCertificateEnding ending → is_certificate_ending ending ≡ true
ending_again ending (inl is) =
    here (bytes_eq ending (codes "-cert-v01@openssh.com")) (bytes_eq ending (codes "-cert-v00@openssh.com"))
    ((bytes_eq-Decides ending (codes "-cert-v01@openssh.com")).1 is)
ending_again ending (inr is) =
    there (bytes_eq ending (codes "-cert-v01@openssh.com")) (bytes_eq ending (codes "-cert-v00@openssh.com"))
    ((bytes_eq-Decides ending (codes "-cert-v00@openssh.com")).1 is)

-- a type and its ending
record IsType (name : List ℕ) : Type 0 where
  pub type : List ℕ
  pub ending : List ℕ
  pub parts : name ≡ type ++ ending
  pub ends : IsCertificateEnding ending

type_is : (name : List ℕ) → is_certificate_type name ≡ true → IsType name
unfolding is_certificate_type
type_is name is = record {
  type = take (length name - 21) name;
  ending = drop (length name - 21) name;
  parts = sym (take-append-drop (length name - 21) name);
  ends = ending_is (drop (length name - 21) name) is;
}

type_again : (type ending : List ℕ) → IsCertificateEnding ending → is_certificate_type (type ++ ending) ≡ true
unfolding is_certificate_type
type_again type ending is =
    let size : length (type ++ ending) - 21 ≡ length type = omega (arith, length-append type ending, ending_len ending is) in
    ap (λ n. is_certificate_ending (drop n (type ++ ending))) size
    ∙ ap is_certificate_ending (drop-append_seam type ending) ∙ ending_again ending is

certificate_by : (message : List ℕ) (read : Option (List ℕ × List ℕ)) → IsBytes message → string_at message ≡ read → if_certificate read ≡ true
    → BeginsCertificate message
certificate_by message None small at is = absurd cc
certificate_by message (Some text) small at is =
    let front = string_is_front message text.0 text.1 small at in
    let found = type_is text.0 is in
    record {
      type = found.type;
      ending = found.ending;
      rest = text.1;
      text = front.0.parts ∙ ap (λ (t : List ℕ). string t ++ text.1) found.parts;
      short = subst (λ (t : List ℕ). length t < 2 ^ 32) found.parts front.1;
      ends = found.ends;
    }

pub certificate_is : (message : List ℕ) → IsBytes message → begins_certificate message ≡ true → BeginsCertificate message
unfolding begins_certificate
certificate_is message small is = certificate_by message (string_at message) small refl is

pub certificate_again : (message : List ℕ) → BeginsCertificate message → begins_certificate message ≡ true
unfolding begins_certificate
certificate_again message is =
    rw (is.text, string_at-string (is.type ++ is.ending) is.rest is.short) (type_again is.type is.ending is.ends)
