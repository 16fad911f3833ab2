-- A login by any blob of its key: what is read is signed for it, and what is signed for it is read.
use Rattle.std.proofs.Common.{◌≡◌, ℕ, ◌^◌, ◌<◌, Bool, true, false, cond, List, [], ◌∷◌, ◌++◌, length, Option, Some, None, Result, Ok, Err, refl, sym, ap, subst, ◌∙◌, lit<}
use Rattle.std.specs.Str.{bytes_eq}
use Rattle.std.proofs.lemmas.Bool.{and_parts}
use Rattle.std.proofs.lemmas.List.{append-nil}
use Rattle.std.proofs.lemmas.Slice.Eq.{bytes_eq-Decides}
use Rattle.wire_text.specs.Wire.{IsBytes, string}
use Rattle.wire_core.proofs.ReadingLemmas.{bind_ok, ended_or_is}
use Rattle.key_blob.specs.PublicKeys.{KeyParts, public_key_of}
use Rattle.key_blob.specs.declared.fault.KeyFault.{KeyFault}
use Rattle.key_blob.specs.declared.kind.KeyKind.{KeyKind}
use Rattle.key_blob.specs.declared.kind.KeyKind.TheVariants.{Ed25519, Rsa, Nistp256, Nistp384, Nistp521, StandIn}
use Rattle.key_blob.proofs.PublicLemmas.{public_is_found, public_is_read}
use Rattle.userauth_blob.specs.declared.fault.AuthFault.{AuthFault}
use Rattle.userauth_blob.specs.declared.fault.AuthFault.TheVariants.{Algorithm, NoSignatureFlag, OtherKey, Service, Trailing}
use Rattle.userauth_blob.specs.declared.method.AuthMethod.{AuthMethod}
use Rattle.userauth_blob.specs.declared.method.AuthMethod.TheVariants.{PublicKey, HostBound}
use Rattle.userauth_blob.specs.UserAuths.{Fits, IsHostKey, IsUserAuth, Login, connection, host_field, method_name}
use Rattle.userauth_blob.specs.Reading.{after_byte, fits, method_at, opening_at, text_at}
use Rattle.userauth_blob.specs.Logins.{IsLogin, IsSameKey, IsShortHost, after_same_key, host_at, if_same, is_same_key, is_same_kind, key_signer_at, login_of}
use Rattle.userauth_blob.proofs.FieldLemmas.{fits_again, fits_is}
use Rattle.userauth_blob.proofs.PartLemmas.{IsText, byte_is, method_is, name_of, text_is}
use Rattle.userauth_blob.proofs.FoundLemmas.{host_ends, joined, opening_is, signed}
use Rattle.userauth_blob.proofs.ReadLemmas.{after_text_again, byte_again, method_again, method_of, session_again, text_again}

-- ---- one key

kind_is : (one other : KeyKind) → is_same_kind one other ≡ true → one ≡ other
kind_is Ed25519 Ed25519 holds = refl
kind_is Rsa Rsa holds = refl
kind_is Nistp256 Nistp256 holds = refl
kind_is Nistp384 Nistp384 holds = refl
kind_is Nistp521 Nistp521 holds = refl
kind_is StandIn StandIn holds = refl
kind_is one other holds = absurd cc

kind_again : (kind : KeyKind) → is_same_kind kind kind ≡ true
kind_again Ed25519 = refl
kind_again Rsa = refl
kind_again Nistp256 = refl
kind_again Nistp384 = refl
kind_again Nistp521 = refl
kind_again StandIn = refl

same_by : (blob named : List ℕ) (one two : Result KeyParts KeyFault) → IsBytes blob → IsBytes named
    → public_key_of blob ≡ one → public_key_of named ≡ two → is_same_key one two ≡ true → IsSameKey blob named
same_by blob named (Ok one) (Ok two) bytes named_bytes at_one at_two holds =
    let both = and_parts (is_same_kind one.kind two.kind) (bytes_eq one.fields two.fields) holds in
    record {
      one = one;
      two = two;
      is_one = public_is_found blob one bytes at_one;
      is_two = public_is_found named two named_bytes at_two;
      kind = kind_is one.kind two.kind both.0;
      fields = (bytes_eq-Decides one.fields two.fields).0 both.1;
    }
same_by blob named (Ok one) (Err fault) bytes named_bytes at_one at_two holds = absurd cc
same_by blob named (Err fault) two bytes named_bytes at_one at_two holds = absurd cc

same_again : (blob named : List ℕ) → IsSameKey blob named → is_same_key (public_key_of blob) (public_key_of named) ≡ true
same_again blob named is =
    let kinds : is_same_kind is.one.kind is.two.kind ≡ true = ap (is_same_kind is.one.kind) (sym is.kind) ∙ kind_again is.one.kind in
    let fields : bytes_eq is.one.fields is.two.fields ≡ true = (bytes_eq-Decides is.one.fields is.two.fields).1 is.fields in
    rw (public_is_read blob is.one is.is_one, public_is_read named is.two is.is_two, kinds, fields) refl

-- ---- what is read

-- a blob of the key at the front of bytes
record IsNamed (blob algorithm bytes rest : List ℕ) : Type 0 where
  pub named : List ℕ
  pub text : IsText bytes named rest
  pub same : IsSameKey blob named
  pub fit : Fits named algorithm

named_is : (blob algorithm bytes rest : List ℕ) → IsBytes blob → IsBytes bytes → after_same_key blob algorithm bytes ≡ Ok rest
    → IsNamed blob algorithm bytes rest
unfolding after_same_key
named_is blob algorithm bytes rest blob_bytes small read =
    let a = bind_ok (text_at bytes) (if_same blob algorithm) rest read in
    let inner : Result (List ℕ) AuthFault = cond (fits (public_key_of a.0.0) algorithm) (Ok a.0.1) (Err Algorithm) in
    let text = text_is bytes a.0 small a.1 in
    by_tests (is_same_key (public_key_of blob) (public_key_of a.0.0)) (fits (public_key_of a.0.0) algorithm) a.0 text refl refl a.2
  where
    by_tests : (same fit : Bool) (x : List ℕ × List ℕ) → IsText bytes x.0 x.1
        → is_same_key (public_key_of blob) (public_key_of x.0) ≡ same → fits (public_key_of x.0) algorithm ≡ fit
        → cond same (cond fit (Ok x.1) (Err Algorithm)) (Err OtherKey) ≡ Ok rest → IsNamed blob algorithm bytes rest
    by_tests true true x text same fit is =
        let left : x.1 ≡ rest = cc in
        record {
          named = x.0;
          text = subst (λ (r : List ℕ). IsText bytes x.0 r) left text;
          same = same_by blob x.0 (public_key_of blob) (public_key_of x.0) blob_bytes text.inside refl refl same;
          fit = fits_is x.0 algorithm text.inside fit;
        }
    by_tests true false x text same fit is = absurd cc
    by_tests false fit x text same fits is = absurd cc

-- what stands in the place of a host key, by a method that has it
record IsHost (method : AuthMethod) (bytes : List ℕ) (host_key : Option (List ℕ)) (rest : List ℕ) : Type 0 where
  pub parts : bytes ≡ host_field host_key ++ rest
  pub name : name_of method ≡ method_name host_key
  pub is : IsShortHost host_key

host_is : (method : AuthMethod) (bytes : List ℕ) (x : Option (List ℕ) × List ℕ) → IsBytes bytes → host_at method bytes ≡ Ok x
    → IsHost method bytes x.0 x.1
unfolding host_at
host_is PublicKey bytes x small read =
    let made : Option (List ℕ) × List ℕ = (None, bytes) in
    let same : made ≡ x = cc in
    subst (λ (y : Option (List ℕ) × List ℕ). IsHost PublicKey bytes y.0 y.1) same (record { parts = refl; name = refl; is = tt })
host_is HostBound bytes x small read =
    let a = bind_ok (text_at bytes) (λ text. Ok (Some text.0, text.1)) x read in
    let made : Option (List ℕ) × List ℕ = (Some a.0.0, a.0.1) in
    let same : made ≡ x = cc in
    let text = text_is bytes a.0 small a.1 in
    subst (λ (y : Option (List ℕ) × List ℕ). IsHost HostBound bytes y.0 y.1) same (record { parts = text.parts; name = refl; is = text.small })

-- the method, the algorithm and a blob of the key
record IsSigner (blob bytes : List ℕ) (method : AuthMethod) (rest : List ℕ) : Type 0 where
  pub algorithm : List ℕ
  pub named : List ℕ
  pub parts : bytes ≡ string (name_of method) ++ 1 ∷ (string algorithm ++ (string named ++ rest))
  pub left : IsBytes rest
  pub fits : Fits named algorithm
  pub same : IsSameKey blob named
  pub short_algorithm : length algorithm < 2 ^ 32
  pub short_named : length named < 2 ^ 32

signer_is : (blob bytes : List ℕ) (x : AuthMethod × List ℕ) → IsBytes blob → IsBytes bytes → key_signer_at blob bytes ≡ Ok x
    → IsSigner blob bytes x.0 x.1
signer_is blob bytes x blob_bytes small read =
    let a = bind_ok (method_at bytes) _ x read in
    let b = bind_ok (after_byte 1 NoSignatureFlag a.0.1) _ x a.2 in
    let c = bind_ok (text_at b.0) _ x b.2 in
    let d = bind_ok (after_same_key blob c.0.0 c.0.1) _ x c.2 in
    let method = method_is bytes a.0 small a.1 in
    let flag = byte_is 1 NoSignatureFlag a.0.1 b.0 method.left b.1 in
    let algorithm = text_is b.0 c.0 flag.left c.1 in
    let key = named_is blob c.0.0 c.0.1 d.0 blob_bytes algorithm.left d.1 in
    let made : AuthMethod × List ℕ = (a.0.0, d.0) in
    let same : made ≡ x = cc in
    subst (λ (y : AuthMethod × List ℕ). IsSigner blob bytes y.0 y.1) same (record {
      algorithm = c.0.0;
      named = key.named;
      parts = joined 1 bytes _ _ _ d.0 a.0.1 b.0 c.0.1 method.parts flag.parts algorithm.parts key.text.parts;
      left = key.text.left;
      fits = key.fit;
      same = key.same;
      short_algorithm = algorithm.small;
      short_named = key.text.small;
    })

-- what is read is signed for the login
pub login_is_found : (message blob : List ℕ) (login : Login) → IsBytes message → IsBytes blob → login_of message blob ≡ Ok login
    → IsLogin message blob login
unfolding login_of
login_is_found message blob login small blob_bytes read =
    let a = bind_ok (opening_at message) _ login read in
    let b = bind_ok (key_signer_at blob a.0.1) _ login a.2 in
    let c = bind_ok (host_at b.0.0 b.0.1) _ login b.2 in
    let made : Login = record { session = a.0.0.0; user = a.0.0.1; host_key = c.0.0 } in
    let end = ended_or_is Trailing made login c.0.1 c.2 in
    let opening = opening_is message a.0 small a.1 in
    let signer = signer_is blob a.0.1 b.0 blob_bytes opening.left b.1 in
    let host = host_is b.0.0 b.0.1 c.0 signer.left c.1 in
    subst (λ (made_login : Login). IsLogin message blob made_login) end.1 (record {
      algorithm = signer.algorithm;
      named = signer.named;
      text = signed message signer.named (name_of b.0.0) signer.algorithm a.0.1 b.0.1 made opening.parts signer.parts host.name
          (host_ends b.0.1 c.0.1 c.0.0 host.parts end.0);
      some_session = opening.some_session;
      fits = signer.fits;
      same = signer.same;
      host = host.is;
      short_session = opening.short_session;
      short_user = opening.short_user;
      short_algorithm = signer.short_algorithm;
      short_named = signer.short_named;
    })

-- ---- what is signed

named_again : (blob named algorithm rest : List ℕ) → length named < 2 ^ 32 → IsSameKey blob named → Fits named algorithm
    → after_same_key blob algorithm (string named ++ rest) ≡ Ok rest
unfolding after_same_key
named_again blob named algorithm rest small same fit =
    rw (text_again named rest small, same_again blob named same, fits_again named algorithm fit) refl

host_again : (host_key : Option (List ℕ)) → IsShortHost host_key → host_at (method_of host_key) (host_field host_key) ≡ Ok (host_key, [])
unfolding host_at
host_again None is = refl
host_again (Some host_key) is =
    let alone = ap (λ (bytes : List ℕ). text_at bytes) (sym (append-nil (string host_key))) ∙ text_again host_key [] is in
    rw alone refl

-- what is signed for a login is read
pub login_is_read : (message blob : List ℕ) (login : Login) → IsLogin message blob login → login_of message blob ≡ Ok login
unfolding login_of
login_is_read message blob login is =
    rw (
      is.text,
      session_again login.session _ is.short_session is.some_session,
      byte_again 50 _ _,
      text_again login.user _ is.short_user,
      after_text_again connection Service _ (lit< tt),
      method_again login.host_key _,
      byte_again 1 _ _,
      text_again is.algorithm _ is.short_algorithm,
      named_again blob is.named is.algorithm (host_field login.host_key) is.short_named is.same is.fits,
      host_again login.host_key is.host,
    ) refl

-- ---- by its own blob

abbrev pub short_host : (host_key : Option (List ℕ)) → IsHostKey host_key → IsShortHost host_key
short_host None is = tt
short_host (Some host_key) is = is.0

-- what is signed for a login by the very blob is one, and names that blob
unfoldable pub bound_is_login : (message blob : List ℕ) (auth : Login) → IsUserAuth message blob auth → IsLogin message blob auth
bound_is_login message blob auth is = record {
  algorithm = is.algorithm;
  named = blob;
  text = is.text;
  some_session = is.some_session;
  fits = is.fits;
  same = record {
    one = is.fits.key;
    two = is.fits.key;
    is_one = is.fits.is_key;
    is_two = is.fits.is_key;
    kind = refl;
    fields = refl;
  };
  host = short_host auth.host_key is.host;
  short_session = is.short_session;
  short_user = is.short_user;
  short_algorithm = is.short_algorithm;
  short_named = is.short_blob;
}
