-- What is read is signed for the login.
use Rattle.std.proofs.Common.{◌≡◌, ◌≢◌, ℕ, ◌^◌, ◌<◌, List, [], ◌∷◌, ◌++◌, length, Option, Ok, refl, ap, subst, ◌∙◌}
use Rattle.std.proofs.lemmas.List.{append-nil}
use Rattle.wire_text.specs.Wire.{IsBytes, string}
use Rattle.userauth_blob.specs.declared.fault.AuthFault.TheVariants.{NotRequest, Service, NoSignatureFlag, Trailing}
use Rattle.userauth_blob.specs.declared.method.AuthMethod.{AuthMethod}
use Rattle.userauth_blob.specs.UserAuths.{Login, connection, method_name, host_field, signed_text, Fits, IsUserAuth}
use Rattle.userauth_blob.specs.Reading.{text_at, after_byte, after_text, session_at, method_at, after_key, host_key_at, opening_at, signer_at, auth_of}
use Rattle.wire_core.proofs.ReadingLemmas.{bind_ok, ended_or_is}
use Rattle.userauth_blob.proofs.PartLemmas.{text_is, byte_is, this_text_is, session_is, name_of, method_is, key_blob_is, host_key_is}

-- the field of a host key that nothing follows
pub host_ends : (bytes rest : List ℕ) (host_key : Option (List ℕ)) → bytes ≡ host_field host_key ++ rest → rest ≡ [] → bytes ≡ host_field host_key
host_ends bytes rest host_key parts none = parts ∙ ap (λ (left : List ℕ). host_field host_key ++ left) none ∙ append-nil (host_field host_key)

-- a string, a byte and two more parts, one after another
pub joined : (byte : ℕ) (whole first second third rest a b c : List ℕ) → whole ≡ first ++ a → a ≡ byte ∷ b → b ≡ second ++ c
    → c ≡ third ++ rest → whole ≡ first ++ byte ∷ (second ++ (third ++ rest))
joined byte whole first second third rest a b c at_a at_b at_c at_rest = rw (at_a, at_b, at_c, at_rest) refl

-- the front of a message: session identifier, user, service
pub record IsOpening (bytes session user rest : List ℕ) : Type 0 where
  pub parts : bytes ≡ string session ++ 50 ∷ (string user ++ (string connection ++ rest))
  pub left : IsBytes rest
  pub some_session : session ≢ []
  pub short_session : length session < 2 ^ 32
  pub short_user : length user < 2 ^ 32

pub opening_is : (bytes : List ℕ) (x : (List ℕ × List ℕ) × List ℕ) → IsBytes bytes → opening_at bytes ≡ Ok x →
    IsOpening bytes x.0.0 x.0.1 x.1
opening_is bytes x small read =
    let a = bind_ok (session_at bytes) _ x read in
    let b = bind_ok (after_byte 50 NotRequest a.0.1) _ x a.2 in
    let c = bind_ok (text_at b.0) _ x b.2 in
    let d = bind_ok (after_text connection Service c.0.1) _ x c.2 in
    let session = session_is bytes a.0 small a.1 in
    let number = byte_is 50 NotRequest a.0.1 b.0 session.0.left b.1 in
    let user = text_is b.0 c.0 number.left c.1 in
    let service = this_text_is connection Service c.0.1 d.0 user.left d.1 in
    let made : (List ℕ × List ℕ) × List ℕ = ((a.0.0, c.0.0), d.0) in
    let same : made ≡ x = cc in
    subst (λ (y : (List ℕ × List ℕ) × List ℕ). IsOpening bytes y.0.0 y.0.1 y.1) same (record {
      parts = joined 50 bytes _ _ _ d.0 a.0.1 b.0 c.0.1 session.0.parts number.parts user.parts service.parts;
      left = service.left;
      some_session = session.1;
      short_session = session.0.small;
      short_user = user.small;
    })

-- the method, the algorithm and the key of this blob
record IsSigner (blob bytes : List ℕ) (method : AuthMethod) (rest : List ℕ) : Type 0 where
  pub algorithm : List ℕ
  pub parts : bytes ≡ string (name_of method) ++ 1 ∷ (string algorithm ++ (string blob ++ rest))
  pub left : IsBytes rest
  pub fits : Fits blob algorithm
  pub short_algorithm : length algorithm < 2 ^ 32
  pub short_blob : length blob < 2 ^ 32

signer_is : (blob bytes : List ℕ) (x : AuthMethod × List ℕ) → IsBytes bytes → signer_at blob bytes ≡ Ok x → IsSigner blob bytes x.0 x.1
signer_is blob bytes x small read =
    let a = bind_ok (method_at bytes) _ x read in
    let b = bind_ok (after_byte 1 NoSignatureFlag a.0.1) _ x a.2 in
    let c = bind_ok (text_at b.0) _ x b.2 in
    let d = bind_ok (after_key blob c.0.0 c.0.1) _ x c.2 in
    let method = method_is bytes a.0 small a.1 in
    let flag = byte_is 1 NoSignatureFlag a.0.1 b.0 method.left b.1 in
    let algorithm = text_is b.0 c.0 flag.left c.1 in
    let key = key_blob_is blob c.0.0 c.0.1 d.0 algorithm.left d.1 in
    let made : AuthMethod × List ℕ = (a.0.0, d.0) in
    let same : made ≡ x = cc in
    subst (λ (y : AuthMethod × List ℕ). IsSigner blob bytes y.0 y.1) same (record {
      algorithm = c.0.0;
      parts = joined 1 bytes _ _ _ d.0 a.0.1 b.0 c.0.1 method.parts flag.parts algorithm.parts key.0.parts;
      left = key.0.left;
      fits = key.1;
      short_algorithm = algorithm.small;
      short_blob = key.0.small;
    })

-- the front, the key and the host key are what is signed
pub signed : (message blob name algorithm a b : List ℕ) (auth : Login)
    → message ≡ string auth.session ++ 50 ∷ (string auth.user ++ (string connection ++ a))
    → a ≡ string name ++ 1 ∷ (string algorithm ++ (string blob ++ b)) → name ≡ method_name auth.host_key
    → b ≡ host_field auth.host_key → message ≡ signed_text auth algorithm blob
signed message blob name algorithm a b auth at_a at_b named last = rw (at_a, at_b, named, last) refl

-- what is read is signed for the login
pub auth_is_found : (message blob : List ℕ) (auth : Login) → IsBytes message → auth_of message blob ≡ Ok auth → IsUserAuth message blob auth
unfolding auth_of
auth_is_found message blob auth small read =
    let a = bind_ok (opening_at message) _ auth read in
    let b = bind_ok (signer_at blob a.0.1) _ auth a.2 in
    let c = bind_ok (host_key_at b.0.0 b.0.1) _ auth b.2 in
    let made : Login = record { session = a.0.0.0; user = a.0.0.1; host_key = c.0.0 } in
    let end = ended_or_is Trailing made auth c.0.1 c.2 in
    let opening = opening_is message a.0 small a.1 in
    let signer = signer_is blob a.0.1 b.0 opening.left b.1 in
    let host = host_key_is b.0.0 b.0.1 c.0 signer.left c.1 in
    subst (λ (made_auth : Login). IsUserAuth message blob made_auth) end.1 (record {
      algorithm = signer.algorithm;
      text = signed message blob (name_of b.0.0) signer.algorithm a.0.1 b.0.1 made opening.parts signer.parts host.name
          (host_ends b.0.1 c.0.1 c.0.0 host.parts end.0);
      some_session = opening.some_session;
      fits = signer.fits;
      host = host.is;
      short_session = opening.short_session;
      short_user = opening.short_user;
      short_algorithm = signer.short_algorithm;
      short_blob = signer.short_blob;
    })
