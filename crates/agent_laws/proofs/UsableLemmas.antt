-- An addition that is read has no number of uses, or at least one.
use Rattle.std.proofs.Common.{◌≡◌, ℕ, zero, suc, ◌≤◌, ◌==◌, List, [], ◌∷◌, length, Option, None, Some, IfSome, IfOk, Result, Ok, Err, Bool, true, false, cond, refl, arith}
use Rattle.std.specs.Option.{ok_or}
use Rattle.std.specs.Str.{bytes_eq}
use Rattle.std.proofs.lemmas.Bool.Decides.{nat_tests}
use Rattle.wire_core.specs.Fields.{boolean_at, string_at, uint32_at}
use Rattle.wire_core.specs.Readings.{◌>>=◌}
use Rattle.key_blob.specs.AddedKeys.{added_key_at}
use Rattle.key_blob.specs.PublicKeys.{KeyParts, public_key_of}
use Rattle.key_blob.specs.declared.added.AddedKey.{AddedKey}
use Rattle.key_blob.specs.declared.fault.KeyFault.{KeyFault}
use Rattle.constraint_rec.specs.Constraints.{no_terms}
use Rattle.constraint_rec.specs.HopReading.{field_at, rules_in}
use Rattle.constraint_rec.specs.Reading.{contents_at, has_kind, kind_at, new_contents_at, next_at, some_uses, terms_of, terms_up_to, with_life, with_purposes, with_rules, with_uses}
use Rattle.constraint_rec.specs.PurposeReading.{purposes_in}
use Rattle.key_purposes.specs.declared.purpose.Purpose.{Purpose}
use Rattle.constraint_rec.specs.declared.constraint.Constraint.{Constraint}
use Rattle.constraint_rec.specs.declared.fault.TermFault.{TermFault}
use Rattle.constraint_rec.specs.declared.fault.TermFault.TheVariants.{NoUses, Short, Twice}
use Rattle.constraint_rec.specs.declared.kind.Kind.{Kind}
use Rattle.constraint_rec.specs.declared.kind.Kind.TheVariants.{Lifetime, Confirm, Uses, Destinations, Purposes}
use Rattle.constraint_rec.specs.declared.terms.Terms.{Terms}
use Rattle.agent_msg.specs.declared.fault.MsgFault.{MsgFault}
use Rattle.agent_msg.specs.Reading.{constrained, ended, extension_by, field_then, key_then, request_of, request_of_number, text_at_end, text_then}
use Rattle.agent_msg.specs.Requests.{BindRequest, ClientRequest, ListIdentities, Sign, Add, Remove, RemoveAll, Lock, Unlock, Bind, OtherExtension, Unsupported, session_bind}
use Rattle.agent_model.specs.Binds.{agent_request_of, and_host_key, bind_with}

abbrev pub AreUsable : Terms → Type 0
AreUsable terms = IfSome terms.uses (λ uses. 1 ≤ uses)

-- ---- constraints

abbrev Reads : Result (Terms × List ℕ) TermFault → Type 0
Reads read = IfOk read (λ (x : Terms × List ℕ). AreUsable x.0)

module _ (terms : Terms) (usable : AreUsable terms) where
  life_read : (number : Option (ℕ × List ℕ)) → Reads (ok_or number Short >>= with_life terms)
  life_read None = tt
  life_read (Some number) = usable

  uses_read : (number : Option (ℕ × List ℕ))
      → Reads ((ok_or number Short >>= some_uses) >>= with_uses terms)
  uses_read None = tt
  uses_read (Some number) = by_zero (number.0 == 0) refl
    where
      by_zero : (none : Bool) → (number.0 == 0) ≡ none
          → Reads (cond none (Err NoUses) (Ok number) >>= with_uses terms)
      by_zero true is = tt
      by_zero false is = grind (arith, nat_tests, is)

  rules_read : (text : Result (List ℕ × List ℕ) TermFault) → Reads (text >>= with_rules terms)
  rules_read (Err fault) = tt
  rules_read (Ok text) = by_rules (rules_in text.0)
    where
      by_rules : (rules : Result (List Constraint) TermFault)
          → Reads (rules >>= λ all. Ok (record terms { rules = all }, text.1))
      by_rules (Err fault) = tt
      by_rules (Ok rules) = usable

  purposes_read : (text : Result (List ℕ × List ℕ) TermFault) → Reads (text >>= with_purposes terms)
  purposes_read (Err fault) = tt
  purposes_read (Ok text) = by_purposes (purposes_in text.0)
    where
      by_purposes : (purposes : Result (List Purpose) TermFault)
          → Reads (purposes >>= λ all. Ok (record terms { purposes = all }, text.1))
      by_purposes (Err fault) = tt
      by_purposes (Ok purposes) = usable

  contents_read : (kind : Kind) (bytes : List ℕ) → Reads (contents_at kind terms bytes)
  unfolding contents_at
  contents_read Lifetime bytes = life_read (uint32_at bytes)
  contents_read Confirm bytes = usable
  contents_read Uses bytes = uses_read (uint32_at bytes)
  contents_read Destinations bytes = rules_read (field_at bytes)
  contents_read Purposes bytes = purposes_read (field_at bytes)

  next_read : (kind : Result (Kind × List ℕ) TermFault) → Reads (kind >>= new_contents_at terms)
  next_read (Err fault) = tt
  next_read (Ok kind) = by_test (has_kind terms kind.0)
    where
      by_test : (twice : Bool) → Reads (cond twice (Err Twice) (contents_at kind.0 terms kind.1))
      by_test true = tt
      by_test false = contents_read kind.0 kind.1

-- what one more reads to, if the rest reads well behind it
behind_next : (next : Result (Terms × List ℕ) TermFault) (rest : Terms → List ℕ → Result Terms TermFault)
    → Reads next
    → ((terms : Terms) (bytes : List ℕ) → AreUsable terms → IfOk (rest terms bytes) AreUsable)
    → IfOk (next >>= λ x. rest x.0 x.1) AreUsable
behind_next (Err fault) rest reads all = tt
behind_next (Ok next) rest reads all = all next.0 next.1 reads

terms_read : (count : ℕ) (terms : Terms) (bytes : List ℕ) → AreUsable terms
    → IfOk (terms_up_to count terms bytes) AreUsable
unfolding terms_up_to next_at
terms_read zero terms bytes usable = usable
terms_read (suc count) terms [] usable = usable
terms_read (suc count) terms (byte ∷ rest) usable =
    behind_next (kind_at (byte ∷ rest) >>= new_contents_at terms) (terms_up_to count) (next_read terms usable (kind_at (byte ∷ rest))) (terms_read count)

all_read : (bytes : List ℕ) → IfOk (terms_of bytes) AreUsable
unfolding terms_of
all_read bytes = terms_read (length bytes) no_terms bytes tt

-- ---- requests

-- an addition has such terms
abbrev pub IsUsable : ClientRequest → Type 0
IsUsable (Add addition) = AreUsable addition.terms
IsUsable _ = Unit {0}

abbrev Is : Result ClientRequest MsgFault → Type 0
Is read = IfOk read IsUsable

field_read : {A : Type 0} (at : Option (A × List ℕ)) (later : A → List ℕ → Result ClientRequest MsgFault)
    → ((value : A) (rest : List ℕ) → Is (later value rest)) → Is (field_then at later)
field_read None later all = tt
field_read (Some field) later all = all field.0 field.1

key_read : (at : Result (AddedKey × List ℕ) KeyFault) (later : AddedKey → List ℕ → Result ClientRequest MsgFault)
    → ((key : AddedKey) (rest : List ℕ) → Is (later key rest)) → Is (key_then at later)
key_read (Err fault) later all = tt
key_read (Ok key) later all = all key.0 key.1

ended_read : (request : ClientRequest) (rest : List ℕ) → IsUsable request → Is (ended request rest)
ended_read request [] usable = usable
ended_read request (byte ∷ rest) usable = tt

text_read : (request : List ℕ → ClientRequest) (text : Result (List ℕ) MsgFault)
    → ((bytes : List ℕ) → IsUsable (request bytes)) → Is (text_then request text)
text_read request (Err fault) all = tt
text_read request (Ok text) all = all text

constrained_read : (key : AddedKey) (comment : List ℕ) (terms : Result Terms TermFault)
    → IfOk terms AreUsable → Is (constrained key comment terms)
constrained_read key comment (Err fault) usable = tt
constrained_read key comment (Ok terms) usable = usable

bind_read : (bytes : List ℕ) → Is (extension_by true [] bytes)
bind_read bytes = field_read (string_at bytes) _ (λ host_key after_key.
    field_read (string_at after_key) _ (λ session after_session.
    field_read (string_at after_session) _ (λ signature after_signature.
    field_read (boolean_at after_signature) _ (λ forwarding rest. ended_read _ rest tt))))

extension_read : (is_bind : Bool) (name contents : List ℕ) → Is (extension_by is_bind name contents)
extension_read true name contents = bind_read contents
extension_read false name contents = tt

-- one row after another
row : (test : Bool) (first later : Result ClientRequest MsgFault) → Is first → Is later
    → Is (cond test first later)
row true first later is rest = is
row false first later is rest = rest

number_read : (number : ℕ) (bytes : List ℕ) → Is (request_of_number number bytes)
unfolding request_of_number
number_read number bytes =
    row (number == 11) _ _ (ended_read ListIdentities bytes tt)
    (row (number == 13) _ _ (field_read (string_at bytes) _ (λ blob after_blob. field_read (string_at after_blob) _ (λ message after_message. field_read (uint32_at after_message) _ (λ flags rest. ended_read _ rest tt))))
    (row (number == 17) _ _ (key_read (added_key_at bytes) _ (λ key after_key. field_read (string_at after_key) _ (λ comment rest. ended_read _ rest tt)))
    (row (number == 18) _ _ (text_read Remove (text_at_end bytes) (λ text. tt))
    (row (number == 19) _ _ (ended_read RemoveAll bytes tt)
    (row (number == 22) _ _ (text_read Lock (text_at_end bytes) (λ text. tt))
    (row (number == 23) _ _ (text_read Unlock (text_at_end bytes) (λ text. tt))
    (row (number == 25) _ _ (key_read (added_key_at bytes) _ (λ key after_key. field_read (string_at after_key) _ (λ comment rest. constrained_read key comment (terms_of rest) (all_read rest))))
    (row (number == 27) _ _ (field_read (string_at bytes) _ (λ name contents. extension_read (bytes_eq name session_bind) name contents)) tt))))))))

body_read : (body : List ℕ) → Is (request_of body)
unfolding request_of
body_read [] = tt
body_read (number ∷ bytes) = number_read number bytes

-- a bind request is usable, whether its host key was read or not
host_key_read : (bind : BindRequest) (read : Result KeyParts KeyFault) → Is (bind_with bind read)
host_key_read bind (Ok key) = tt
host_key_read bind (Err fault) = tt

with_read : (request : ClientRequest) → IsUsable request → Is (and_host_key (Ok request))
with_read ListIdentities usable = tt
with_read (Sign signing) usable = tt
with_read (Add addition) usable = usable
with_read (Remove blob) usable = tt
with_read RemoveAll usable = tt
with_read (Lock passphrase) usable = tt
with_read (Unlock passphrase) usable = tt
with_read (Bind bind) usable = host_key_read bind (public_key_of bind.host_key)
with_read (OtherExtension name) usable = tt
with_read (Unsupported number) usable = tt

and_read : (read : Result ClientRequest MsgFault) → Is read → Is (and_host_key read)
and_read (Ok request) usable = with_read request usable
and_read (Err fault) usable = tt

pub usable-asked : (body : List ℕ) → IfOk (agent_request_of body) IsUsable
usable-asked body = and_read (request_of body) (body_read body)
