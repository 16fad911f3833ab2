-- Extensions: what is read is in the grammar, what is in the grammar is read, and which bodies bind.
use Rattle.std.proofs.Common.{◌≡◌, ◌^◌, ◌<◌, ℕ, Bool, true, false, List, [], ◌∷◌, ◌++◌, length, drop, IsTrue, ◌↔◌, Some, Ok, refl, subst, sym, ap, ◌∙◌, lit<}
use Rattle.std.specs.Bool.{Decides}
use Rattle.std.specs.Str.{bytes_eq}
use Rattle.std.proofs.lemmas.Bool.{false_from_ne_true}
use Rattle.std.proofs.lemmas.Bool.Decides.{Decides-eqb}
use Rattle.std.proofs.lemmas.Slice.Eq.{bytes_eq-Decides, starts_is}
use Rattle.wire_text.specs.Wire.{IsBytes, boolean_of, string}
use Rattle.wire_text.proofs.WireLemmas.{same_string}
use Rattle.wire_core.specs.Fields.{boolean_at, string_at}
use Rattle.wire_core.proofs.Theorems.{string_at-string, string_is_front}
use Rattle.agent_msg.specs.declared.fault.MsgFault.TheVariants.{Short, Trailing}
use Rattle.agent_msg.specs.Reading.{field_then, ended, bind_at, extension_by, extension_at, request_of, request_of_number}
use Rattle.agent_msg.specs.Requests.{BindRequest, ClientRequest, Bind, OtherExtension, IsBind, IsExtension, IsRequest, NamesBind, bind_front, names_bind, session_bind}
use Rattle.wire_core.proofs.ReadingLemmas.{field_or_is, ended_or_is, behind}

-- the request of the fields of an extension that binds
abbrev binding : List ℕ → List ℕ → List ℕ → Bool → ClientRequest
binding host_key session signature forwarding =
    Bind record { host_key = host_key; session = session; signature = signature; forwarding = forwarding }

-- a boolean that was read is a byte
boolean_is_front : (bytes rest : List ℕ) (value : Bool) → boolean_at bytes ≡ Some (value, rest)
    → (byte : ℕ) × (bytes ≡ byte ∷ rest) × (value ≡ boolean_of byte)
boolean_is_front [] rest value read = absurd cc
boolean_is_front (byte ∷ bytes) rest value read =
    let same : (boolean_of byte, bytes) ≡ (value, rest) = cc in
    (byte, ap (λ (x : Bool × List ℕ). byte ∷ x.1) same, sym (ap (λ (x : Bool × List ℕ). x.0) same))

-- the contents of an extension that binds, which were read
bind_is : (bytes : List ℕ) (request : ClientRequest) → IsBytes bytes → bind_at bytes ≡ Ok request
    → IsRequest (27 ∷ (string session_bind ++ bytes)) request
bind_is bytes request each h =
    let one = field_or_is Short (string_at bytes) (λ host_key after_key.
    field_then (string_at after_key) (λ session after_session.
    field_then (string_at after_session) (λ signature after_signature.
    field_then (boolean_at after_signature) (λ forwarding rest.
    ended (binding host_key session signature forwarding) rest)))) request h in
    let key = string_is_front bytes one.field one.rest each one.there in
    let two = field_or_is Short (string_at one.rest) (λ session after_session.
    field_then (string_at after_session) (λ signature after_signature.
    field_then (boolean_at after_signature) (λ forwarding rest.
    ended (binding one.field session signature forwarding) rest))) request one.read in
    let session = string_is_front one.rest two.field two.rest key.0.left two.there in
    let three = field_or_is Short (string_at two.rest) (λ signature after_signature.
    field_then (boolean_at after_signature) (λ forwarding rest.
    ended (binding one.field two.field signature forwarding) rest)) request two.read in
    let signature = string_is_front two.rest three.field three.rest session.0.left three.there in
    let four = field_or_is Short (boolean_at three.rest) (λ forwarding rest.
    ended (binding one.field two.field three.field forwarding) rest) request three.read in
    let forwarding = boolean_is_front three.rest four.rest four.field four.there in
    let end = ended_or_is Trailing (binding one.field two.field three.field four.field) request four.rest four.read in
    let byte : List ℕ = forwarding.0 ∷ [] in
    let d : three.rest ≡ byte = subst (λ (l : List ℕ). three.rest ≡ forwarding.0 ∷ l) end.0 forwarding.1 in
    let c = behind two.rest (string three.field) three.rest byte signature.0.parts d in
    let b = behind one.rest (string two.field) two.rest (string three.field ++ byte) session.0.parts c in
    let text = string one.field ++ (string two.field ++ (string three.field ++ byte)) in
    let a : bytes ≡ text =
    behind bytes (string one.field) one.rest (string two.field ++ (string three.field ++ byte)) key.0.parts b in
    let front : List ℕ → List ℕ = λ l. 27 ∷ (string session_bind ++ l) in
    subst (IsRequest (front bytes)) {x = binding one.field two.field three.field four.field} end.1 record {
      forwarding = forwarding.0;
      printed = ap front {y = text} a;
      host_key_fits = key.1;
      session_fits = session.1;
      signature_fits = signature.1;
      forwards = forwarding.2;
    }

-- an extension of any name that was read
extension_by_is : (named : Bool) (name contents : List ℕ) (request : ClientRequest)
    → Decides named (name ≡ session_bind) → length name < 2 ^ 32 → IsBytes contents
    → extension_by named name contents ≡ Ok request → IsRequest (27 ∷ (string name ++ contents)) request
extension_by_is true name contents request decides fits each h =
    let P : List ℕ → Type 0 = λ text. IsRequest (27 ∷ (string text ++ contents)) request in
    subst P (sym (decides.0 refl)) (bind_is contents request each h)
extension_by_is false name contents request decides fits each h =
    let same : OtherExtension name ≡ request = cc in
    subst (IsRequest (27 ∷ (string name ++ contents))) {x = OtherExtension name} same record {
      contents = contents;
      printed = refl;
      fits = fits;
      other = λ is. let named = decides.1 is in cc;
    }

-- EXTENSION that was read
pub extension_is : (bytes : List ℕ) (request : ClientRequest) → IsBytes bytes
    → extension_at bytes ≡ Ok request → IsRequest (27 ∷ bytes) request
extension_is bytes request each h =
    let one = field_or_is Short (string_at bytes)
    (λ name contents. extension_by (bytes_eq name session_bind) name contents) request h in
    let name = string_is_front bytes one.field one.rest each one.there in
    let P : List ℕ → Type 0 = λ l. IsRequest (27 ∷ l) request in
    subst P (sym name.0.parts)
    (extension_by_is (bytes_eq one.field session_bind) one.field one.rest request
    (bytes_eq-Decides one.field session_bind) name.1 name.0.left one.read)

-- a request to bind is read
pub bind_is_read : (body : List ℕ) (bind : BindRequest) → length session_bind < 2 ^ 32 → IsBind body bind
    → request_of body ≡ Ok (Bind bind)
unfolding request_of request_of_number
bind_is_read body bind named is =
    rw (
      is.printed,
      string_at-string session_bind
          (string bind.host_key ++ (string bind.session ++ (string bind.signature ++ is.forwarding ∷ []))) named,
      (bytes_eq-Decides session_bind session_bind).1 refl,
      string_at-string bind.host_key
          (string bind.session ++ (string bind.signature ++ is.forwarding ∷ [])) is.host_key_fits,
      string_at-string bind.session (string bind.signature ++ is.forwarding ∷ []) is.session_fits,
      string_at-string bind.signature (is.forwarding ∷ []) is.signature_fits,
      sym is.forwards,
    ) refl

-- another extension is read
pub extension_is_read : (body name : List ℕ) → IsExtension body name
    → request_of body ≡ Ok (OtherExtension name)
unfolding request_of request_of_number
extension_is_read body name is =
    let other : bytes_eq name session_bind ≡ false =
    false_from_ne_true (bytes_eq name session_bind) (λ e. is.other ((bytes_eq-Decides name session_bind).0 e)) in
    rw (is.printed, string_at-string name is.contents is.fits, other) refl

-- the same byte in front
behind_byte : (a b : ℕ) (s t : List ℕ) → a ∷ s ≡ b ∷ t → s ≡ t
behind_byte a b s t same = cc

-- a test of how a body begins
pub names_bind_is : (named : Bool) (body : List ℕ) → named ≡ names_bind body
    → IsTrue named ↔ NamesBind body
unfolding names_bind
names_bind_is named body same =
    let is = starts_is Decides-eqb body bind_front named same in
    (λ h. record { contents = drop (length bind_front) body; begins = is.0 h }, λ h. is.1 h.contents h.begins)

-- a request to bind begins as one
pub bind_is_named : (body : List ℕ) (bind : BindRequest) → IsBind body bind → IsTrue (names_bind body)
unfolding bind_front
bind_is_named body bind is =
    let contents = string bind.host_key ++ (string bind.session ++ (string bind.signature ++ is.forwarding ∷ [])) in
    (names_bind_is (names_bind body) body refl).1 record { contents = contents; begins = is.printed }

-- that of another extension doesn't
pub other_is_not_named : (body name : List ℕ) → IsExtension body name → IsTrue (names_bind body) → ⊥
unfolding bind_front session_bind
other_is_not_named body name is named =
    let begins = (names_bind_is (names_bind body) body refl).0 named in
    let same : string name ++ is.contents ≡ string session_bind ++ begins.contents =
    behind_byte 27 27 _ _ (sym is.printed ∙ begins.begins) in
    is.other (same_string name session_bind is.contents begins.contents is.fits (lit< tt) same).0
