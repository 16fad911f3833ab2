-- A body that is told is read as the body itself, but for its secrets.
use Rattle.std.proofs.Common.{◌≡◌, ℕ, ◌≤◌, List, [], ◌∷◌, ◌++◌, length, drop, map, refl, sym, ap, ◌∙◌, arith, inl, inr, Bool, true, false, Result, Ok, Err}
use Rattle.std.specs.Prelude.{◌⊎◌, ◌==◌, ◌≢◌}
use Rattle.std.proofs.lemmas.Bool.{cases_eq}
use Rattle.std.proofs.lemmas.Bool.Decides.{nat_tests}
use Rattle.std.proofs.lemmas.List.{drop_at, length-replicate}
use Rattle.wire_text.specs.Bounds.{longest_body}
use Rattle.wire_text.specs.Wire.{IsBytes, string}
use Rattle.wire_text.proofs.WireLemmas.{length-string}
use Rattle.wire_core.specs.Fields.{string_at, string_len}
use Rattle.key_blob.specs.AddedKeys.{IsAddedKey, added_key_at}
use Rattle.key_blob.specs.KeyTypes.{type_of}
use Rattle.key_blob.specs.PublicKeys.{KeyParts, public_key_of}
use Rattle.key_blob.specs.Reading.{form_at, strings}
use Rattle.key_blob.specs.declared.added.AddedKey.{AddedKey}
use Rattle.key_blob.specs.declared.fault.KeyFault.{KeyFault}
use Rattle.key_blob.specs.declared.fault.KeyFault.TheVariants as key_faults
use Rattle.agent_msg.specs.declared.fault.MsgFault.{MsgFault}
use Rattle.agent_msg.specs.declared.fault.MsgFault.TheVariants as fault
use Rattle.agent_msg.specs.Reading.{request_of, request_of_number}
use Rattle.agent_msg.specs.Requests.{Addition, BindRequest, ClientRequest, IsConstrainedAddition, IsOfOtherNumber, IsPlainAddition, IsText, ListIdentities, Sign, Add, Remove, RemoveAll, Lock, Unlock, Bind, OtherExtension, Unsupported, bind_front, names_bind}
use Rattle.agent_msg.proofs.FoundLemmas.{request_is_found}
use Rattle.agent_msg.proofs.ReadLemmas.{request_is_read}
use Rattle.redact_core.specs.Blanks.{blanked}
use Rattle.redact_core.specs.Redaction.{holds_secrets, unread, without_secrets}
use Rattle.redact_core.proofs.BlankLemmas.{blanked_text, private_is_free, zeros, zeros_fit}
use Rattle.agent_model.specs.Binds.{agent_request_of, and_host_key, bind_with}
use Rattle.agent_secrecy.specs.Alike.{AreAlikeBodies}
use Rattle.agent_secrecy.specs.Hiding.{hide_read}
use Rattle.agent_secrecy.specs.Secrets.{AreAlikeKeys, AreOfEqualLengths, hidden}
use Rattle.agent_secrecy.proofs.BodyLemmas.{bodies_read}
use Rattle.agent_secrecy.proofs.KeyLemmas.{parts_of}
use Rattle.replay_laws.specs.Redacting.{renamed, renamed_as, renamed_read, renamed_request}

-- ---- zeros for private fields

equal_zeros : (contents : List (List ℕ)) → AreOfEqualLengths contents (map zeros contents)
equal_zeros [] = tt
equal_zeros (content ∷ contents) = (sym (length-replicate (length content) 0), equal_zeros contents)

-- a key and the same with zeros are alike
pub blanked_alike : (key : AddedKey) → IsAddedKey key → AreAlikeKeys key (blanked key)
blanked_alike key is = record {
  is = is;
  private = map zeros is.private;
  private_fit = zeros_fit (type_of is.form).private is.private (private_is_free is.form) is.private_fit;
  lengths = equal_zeros is.private;
  blob = refl;
  text =
      blanked_text key is
      ∙ sym (parts_of (string (type_of is.form).name) is.blob_text (strings is.again) (strings (map zeros is.private)));
}

-- ---- additions

-- an addition, and what is told of it
abbrev blanked_body : ℕ → List ℕ → Addition → List ℕ
blanked_body number bytes addition =
    number ∷ (without_secrets addition.key.private ++ drop (length addition.key.private) bytes)

added_so : (number code : ℕ) (bytes rest : List ℕ) (addition : Addition) → (code ≡ 17) ⊎ (code ≡ 25)
    → IsAddedKey addition.key → number ∷ bytes ≡ code ∷ (addition.key.private ++ rest)
    → AreAlikeBodies (number ∷ bytes) (blanked_body number bytes addition)
added_so number code bytes rest addition adds is printed =
    let key = addition.key.private in
    let same : number ≡ code = cc in
    let behind : bytes ≡ key ++ rest = cc in
    inr (record {
      number = code;
      adds = adds;
      key = addition.key;
      other_key = blanked addition.key;
      keys = blanked_alike addition.key is;
      rest = rest;
      left = printed;
      right = ap (λ (n : ℕ). n ∷ (without_secrets key ++ drop (length key) bytes)) same
          ∙ ap (λ (b : List ℕ). code ∷ (without_secrets key ++ drop (length key) b)) behind
          ∙ ap (λ (b : List ℕ). code ∷ (without_secrets key ++ b)) (drop_at key rest (length key) refl);
    })

added_by : (number : ℕ) (bytes : List ℕ) (addition : Addition)
    → IsPlainAddition (number ∷ bytes) addition ⊎ IsConstrainedAddition (number ∷ bytes) addition
    → AreAlikeBodies (number ∷ bytes) (blanked_body number bytes addition)
added_by number bytes addition (inl plain) =
    added_so number 17 bytes (string addition.comment) addition (inl refl) plain.key plain.printed
added_by number bytes addition (inr bound) =
    added_so number 25 bytes (string addition.comment ++ bound.constraints) addition (inr refl) bound.key bound.printed

-- ---- what isn't read

abbrev IsSecret : ℕ → Type 0
IsSecret number = (number ≡ 17) ⊎ ((number ≡ 22) ⊎ ((number ≡ 23) ⊎ (number ≡ 25)))

secret_is : (number : ℕ) → holds_secrets number ≡ true → IsSecret number
secret_is number is = elim (cases_eq number 17) [
  | inl same ↦ inl same
  | inr a ↦ elim (cases_eq number 22) [
    | inl same ↦ inr (inl same)
    | inr b ↦ elim (cases_eq number 23) [
      | inl same ↦ inr (inr (inl same))
      | inr c ↦ elim (cases_eq number 25) [
        | inl same ↦ inr (inr (inr same))
        | inr d ↦
            absurd
            (let none : holds_secrets number ≡ false = grind (arith, nat_tests) in let both : true ≡ false = sym is ∙ none in cc)
      ]
    ]
  ]
]

short_17 : request_of (17 ∷ []) ≡ Err (fault.Key key_faults.Short)
unfolding request_of request_of_number added_key_at form_at string_at string_len
short_17 = refl

short_22 : request_of (22 ∷ []) ≡ Err fault.Short
unfolding request_of request_of_number string_at string_len
short_22 = refl

short_23 : request_of (23 ∷ []) ≡ Err fault.Short
unfolding request_of request_of_number string_at string_len
short_23 = refl

short_25 : request_of (25 ∷ []) ≡ Err (fault.Key key_faults.Short)
unfolding request_of request_of_number added_key_at form_at string_at string_len
short_25 = refl

-- the number alone isn't read either
secret_unread : (number : ℕ) → IsSecret number
    → (what : MsgFault) × (agent_request_of (number ∷ []) ≡ Err what)
secret_unread number (inl is) =
    (fault.Key key_faults.Short, ap (λ (n : ℕ). agent_request_of (n ∷ [])) is ∙ ap and_host_key short_17)
secret_unread number (inr (inl is)) =
    (fault.Short, ap (λ (n : ℕ). agent_request_of (n ∷ [])) is ∙ ap and_host_key short_22)
secret_unread number (inr (inr (inl is))) =
    (fault.Short, ap (λ (n : ℕ). agent_request_of (n ∷ [])) is ∙ ap and_host_key short_23)
secret_unread number (inr (inr (inr is))) =
    (fault.Key key_faults.Short, ap (λ (n : ℕ). agent_request_of (n ∷ [])) is ∙ ap and_host_key short_25)

-- ---- what isn't served

-- the number alone is read as the same
alone_read : (number other : ℕ) (bytes : List ℕ) → IsOfOtherNumber (number ∷ bytes) other
    → request_of (number ∷ []) ≡ Ok (Unsupported other)
alone_read number other bytes shown =
    let same : number ≡ other = (let printed : number ∷ bytes ≡ other ∷ shown.contents = shown.printed in cc) in
    request_is_read (number ∷ []) (Unsupported other)
    (record { contents = []; printed = ap (λ (n : ℕ). n ∷ []) same; other = shown.other })

-- it is no extension's
no_extension : (number other : ℕ) (bytes : List ℕ) → IsOfOtherNumber (number ∷ bytes) other → (27 == number) ≡ false
no_extension number other bytes shown =
    let same : number ≡ other = (let printed : number ∷ bytes ≡ other ∷ shown.contents = shown.printed in cc) in
    let apart : other ≢ 27 = shown.other 8 27 (omega arith) in
    let beside : number ≢ 27 = λ is. apart (sym same ∙ is) in
    grind (arith, nat_tests)

-- such a body begins no request to bind
names_nothing : (number : ℕ) (bytes : List ℕ) → (27 == number) ≡ false → names_bind (number ∷ bytes) ≡ false
unfolding names_bind bind_front
names_nothing number bytes apart = rw apart refl

-- ---- bodies

module _ (rename : List ℕ → List ℕ) where
  -- a body and what is told of it are the same request but for secrets, or neither is one
  pub data Reads (body told : List ℕ) : Type 0 where
    as_read : hide_read hidden (agent_request_of told) ≡ hide_read hidden (renamed_read rename (agent_request_of body))
        → Reads body told
    unread_both : (one other : MsgFault) → agent_request_of body ≡ Err one
        → agent_request_of told ≡ Err other
        → Reads body told

  abbrev ReadsAs : List ℕ → List ℕ → Type 0
  ReadsAs body told =
      hide_read hidden (agent_request_of told) ≡ hide_read hidden (renamed_read rename (agent_request_of body))

  bind_same : (bind : BindRequest) (key : Result KeyParts KeyFault)
      → renamed_read rename (bind_with bind key) ≡ bind_with bind key
  bind_same bind (Ok key) = refl
  bind_same bind (Err fault) = refl

  -- a request that names no passphrase
  unchanged_read : (body : List ℕ) (request : ClientRequest) → request_of body ≡ Ok request
      → renamed_read rename (and_host_key (Ok request)) ≡ and_host_key (Ok request) → ReadsAs body body
  unchanged_read body request is same =
      ap (hide_read hidden)
      (ap and_host_key is ∙ sym same ∙ sym (ap (λ (r : Result ClientRequest MsgFault). renamed_read rename (and_host_key r)) is))

  added_read : (number : ℕ) (bytes : List ℕ) (addition : Addition) → IsBytes (number ∷ bytes)
      → request_of (number ∷ bytes) ≡ Ok (Add addition)
      → ReadsAs (number ∷ bytes) (blanked_body number bytes addition)
  added_read number bytes addition each is =
      sym
      (bodies_read (number ∷ bytes) (blanked_body number bytes addition) (added_by number bytes addition (request_is_found (number ∷ bytes) (Add addition) each is)))
      ∙ unchanged_read (number ∷ bytes) (Add addition) is refl

  named_read : (number code : ℕ) (bytes passphrase : List ℕ) (request : List ℕ → ClientRequest)
      → IsText code (number ∷ bytes) passphrase → request_of (number ∷ bytes) ≡ Ok (request passphrase)
      → (IsText code (number ∷ string (rename passphrase)) (rename passphrase) → request_of (number ∷ string (rename passphrase)) ≡ Ok (request (rename passphrase)))
      → ((name : List ℕ) → and_host_key (Ok (request name)) ≡ Ok (request name))
      → renamed_request rename (request passphrase) ≡ request (rename passphrase)
      → length (number ∷ string (rename passphrase)) ≤ longest_body
      → ReadsAs (number ∷ bytes) (number ∷ string (rename passphrase))
  named_read number code bytes passphrase request shown is reads keyless named short =
      let same : number ≡ code = (let printed : number ∷ bytes ≡ code ∷ string passphrase = shown.printed in cc) in
      let told : request_of (number ∷ string (rename passphrase)) ≡ Ok (request (rename passphrase)) =
      reads
      (record { printed = ap (λ (n : ℕ). n ∷ string (rename passphrase)) same; fits = omega (arith, short, length-string (rename passphrase)) }) in
      ap (hide_read hidden) (ap and_host_key told ∙ keyless (rename passphrase) ∙ ap Ok (sym named)
      ∙ ap (renamed_read rename) (sym (keyless passphrase) ∙ sym (ap and_host_key is)))

  -- a request of a number that isn't served is told by that number, and read as the same
  unserved_read : (number other : ℕ) (bytes : List ℕ) → IsOfOtherNumber (number ∷ bytes) other
      → request_of (number ∷ bytes) ≡ Ok (Unsupported other) → ReadsAs (number ∷ bytes) (number ∷ [])
  unserved_read number other bytes shown is =
      ap (hide_read hidden)
      (ap and_host_key (alone_read number other bytes shown) ∙ sym (ap (λ (r : Result ClientRequest MsgFault). renamed_read rename (and_host_key r)) is))

  unread_so : (secret : Bool) (number : ℕ) (bytes : List ℕ) (what : MsgFault)
      → holds_secrets number ≡ secret
      → request_of (number ∷ bytes) ≡ Err what → Reads (number ∷ bytes) (unread secret number bytes)
  unread_so true number bytes what holds is =
      let other = secret_unread number (secret_is number holds) in unread_both what other.0 (ap and_host_key is) other.1
  unread_so false number bytes what holds is =
      unread_both what what (ap and_host_key is) (ap and_host_key is)

  by_read : (read : Result ClientRequest MsgFault) (number : ℕ) (bytes : List ℕ)
      → IsBytes (number ∷ bytes)
      → request_of (number ∷ bytes) ≡ read → length (renamed_as rename read number bytes) ≤ longest_body
      → Reads (number ∷ bytes) (renamed_as rename read number bytes)
  by_read (Ok ListIdentities) number bytes each is short =
      as_read (unchanged_read (number ∷ bytes) ListIdentities is refl)
  by_read (Ok (Sign signing)) number bytes each is short =
      as_read (unchanged_read (number ∷ bytes) (Sign signing) is refl)
  by_read (Ok (Add addition)) number bytes each is short =
      as_read (added_read number bytes addition each is)
  by_read (Ok (Remove blob)) number bytes each is short =
      as_read (unchanged_read (number ∷ bytes) (Remove blob) is refl)
  by_read (Ok RemoveAll) number bytes each is short =
      as_read (unchanged_read (number ∷ bytes) RemoveAll is refl)
  by_read (Ok (Lock passphrase)) number bytes each is short =
      as_read
      (named_read number 22 bytes passphrase Lock (request_is_found (number ∷ bytes) (Lock passphrase) each is) is
      (request_is_read (number ∷ string (rename passphrase)) (Lock (rename passphrase))) (λ name. refl) refl short)
  by_read (Ok (Unlock passphrase)) number bytes each is short =
      as_read
      (named_read number 23 bytes passphrase Unlock (request_is_found (number ∷ bytes) (Unlock passphrase) each is) is
      (request_is_read (number ∷ string (rename passphrase)) (Unlock (rename passphrase))) (λ name. refl) refl short)
  by_read (Ok (Bind bind)) number bytes each is short =
      as_read (unchanged_read (number ∷ bytes) (Bind bind) is (bind_same bind (public_key_of bind.host_key)))
  by_read (Ok (OtherExtension name)) number bytes each is short =
      as_read (unchanged_read (number ∷ bytes) (OtherExtension name) is refl)
  by_read (Ok (Unsupported other)) number bytes each is short =
      as_read (unserved_read number other bytes (request_is_found (number ∷ bytes) (Unsupported other) each is) is)
  by_read (Err what) number bytes each is short =
      unread_so (holds_secrets number) number bytes what refl is

  pub renamed_reads : (number : ℕ) (bytes : List ℕ) → IsBytes (number ∷ bytes)
      → length (renamed rename (number ∷ bytes)) ≤ longest_body
      → Reads (number ∷ bytes) (renamed rename (number ∷ bytes))
  renamed_reads number bytes each short =
      by_read (request_of (number ∷ bytes)) number bytes each refl short

  -- ---- neither binds where the other doesn't

  secret_names : (number : ℕ) (one other : List ℕ) → IsSecret number
      → names_bind (number ∷ one) ≡ names_bind (number ∷ other)
  unfolding names_bind bind_front
  secret_names number one other (inl is) = rw is refl
  secret_names number one other (inr (inl is)) = rw is refl
  secret_names number one other (inr (inr (inl is))) = rw is refl
  secret_names number one other (inr (inr (inr is))) = rw is refl

  unread_names : (secret : Bool) (number : ℕ) (bytes : List ℕ) → holds_secrets number ≡ secret
      → names_bind (unread secret number bytes) ≡ names_bind (number ∷ bytes)
  unread_names true number bytes holds = secret_names number [] bytes (secret_is number holds)
  unread_names false number bytes holds = refl

  unserved_names : (number other : ℕ) (bytes : List ℕ) → IsOfOtherNumber (number ∷ bytes) other
      → names_bind (number ∷ []) ≡ names_bind (number ∷ bytes)
  unserved_names number other bytes shown =
      let apart = no_extension number other bytes shown in
      names_nothing number [] apart ∙ sym (names_nothing number bytes apart)

  addition_is : (number : ℕ) (bytes : List ℕ) (addition : Addition)
      → IsPlainAddition (number ∷ bytes) addition ⊎ IsConstrainedAddition (number ∷ bytes) addition → IsSecret number
  addition_is number bytes addition (inl plain) =
      inl (let printed : number ∷ bytes ≡ 17 ∷ (addition.key.private ++ string addition.comment) = plain.printed in cc)
  addition_is number bytes addition (inr bound) =
      inr
      (inr (inr (let printed : number ∷ bytes ≡ 25 ∷ (addition.key.private ++ (string addition.comment ++ bound.constraints)) = bound.printed in cc)))

  text_is : (number code : ℕ) (bytes passphrase : List ℕ) → IsText code (number ∷ bytes) passphrase
      → number ≡ code
  text_is number code bytes passphrase shown =
      (let printed : number ∷ bytes ≡ code ∷ string passphrase = shown.printed in cc)

  names_by : (read : Result ClientRequest MsgFault) (number : ℕ) (bytes : List ℕ)
      → IsBytes (number ∷ bytes)
      → request_of (number ∷ bytes) ≡ read
      → names_bind (renamed_as rename read number bytes) ≡ names_bind (number ∷ bytes)
  names_by (Ok ListIdentities) number bytes each is = refl
  names_by (Ok (Sign signing)) number bytes each is = refl
  names_by (Ok (Add addition)) number bytes each is =
      secret_names number _ bytes
      (addition_is number bytes addition (request_is_found (number ∷ bytes) (Add addition) each is))
  names_by (Ok (Remove blob)) number bytes each is = refl
  names_by (Ok RemoveAll) number bytes each is = refl
  names_by (Ok (Lock passphrase)) number bytes each is =
      secret_names number (string (rename passphrase)) bytes
      (inr (inl (text_is number 22 bytes passphrase (request_is_found (number ∷ bytes) (Lock passphrase) each is))))
  names_by (Ok (Unlock passphrase)) number bytes each is =
      secret_names number (string (rename passphrase)) bytes
      (inr (inr (inl (text_is number 23 bytes passphrase (request_is_found (number ∷ bytes) (Unlock passphrase) each is)))))
  names_by (Ok (Bind bind)) number bytes each is = refl
  names_by (Ok (OtherExtension name)) number bytes each is = refl
  names_by (Ok (Unsupported other)) number bytes each is =
      unserved_names number other bytes (request_is_found (number ∷ bytes) (Unsupported other) each is)
  names_by (Err what) number bytes each is = unread_names (holds_secrets number) number bytes refl

  pub renamed_names : (number : ℕ) (bytes : List ℕ) → IsBytes (number ∷ bytes)
      → names_bind (renamed rename (number ∷ bytes)) ≡ names_bind (number ∷ bytes)
  renamed_names number bytes each = names_by (request_of (number ∷ bytes)) number bytes each refl
