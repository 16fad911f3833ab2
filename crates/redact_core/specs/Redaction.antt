-- Bodies of requests without their secrets: the private fields of an added key are zeros, a passphrase is the number
-- under which it first came, and of a request that isn't served the number is left (ours).
use Rattle.std.specs.Prelude.{ℕ, zero, suc, ◌+◌, ◌==◌, ◌||◌, nat_lt, Bool, true, false, List, [], ◌∷◌, ◌++◌, length, take, drop, replicate, decimal, Option, Some, None, is_some, unwrap_or, if◌then◌else◌, Result, Ok, Err}
use Rattle.std.specs.List.{position, sum_by}
use Rattle.std.specs.Str.{bytes_eq}
use Rattle.wire_text.specs.Wire.{string}
use Rattle.wire_core.specs.Fields.{string_at}
use Rattle.key_blob.specs.AddedKeys.{private_from}
use Rattle.agent_msg.specs.Reading.{request_of}
use Rattle.agent_msg.specs.Requests.{ClientRequest, ListIdentities, Sign, Add, Remove, RemoveAll, Lock, Unlock, Bind, OtherExtension, Unsupported}
use Rattle.agent_msg.specs.declared.fault.MsgFault.{MsgFault}

-- ---- added keys

-- as many zeros for the string that was found, and what later stands for the rest
abbrev pub blank_by : Option (List ℕ × List ℕ) → (List ℕ → List ℕ) → List ℕ
blank_by None later = []
blank_by (Some found) later = string (replicate (length found.0) 0) ++ later found.1

-- at most so many strings
abbrev pub blank_up_to : ℕ → List ℕ → List ℕ
blank_up_to zero bytes = []
blank_up_to (suc count) bytes = blank_by (string_at bytes) (blank_up_to count)

-- the strings that the bytes are, each of as many zeros
abbrev pub blank : List ℕ → List ℕ
blank bytes = blank_up_to (length bytes) bytes

-- an added key whose private fields are zeros
abbrev pub without_secrets : List ℕ → List ℕ
without_secrets key = take (private_from key) key ++ blank (drop (private_from key) key)

-- ---- passphrases

-- the number of a passphrase among those that came, in order, or else the next one: they count from 1
abbrev pub number_of : List ℕ → List (List ℕ) → ℕ
number_of passphrase passphrases =
    suc (unwrap_or (position (bytes_eq passphrase) passphrases) (length passphrases))

-- those that came, and the passphrase behind them unless it stands there
abbrev pub noted : List ℕ → List (List ℕ) → List (List ℕ)
noted passphrase passphrases =
    if is_some (position (bytes_eq passphrase) passphrases) then passphrases else passphrases ++ passphrase ∷ []

-- they take more room than 4 MiB, each its bytes and 64 for its place (ours)
abbrev pub is_over : List (List ℕ) → Bool
is_over passphrases = nat_lt 4194304 (sum_by (λ passphrase. length passphrase + 64) passphrases)

-- a body without its secrets, and the passphrases that came, in order
pub record Redacted : Type 0 where
  pub body : List ℕ
  pub passphrases : List (List ℕ)

-- a lock or an unlock with its passphrase's number in decimal: an empty passphrase has none
abbrev pub numbered : ℕ → List ℕ → List (List ℕ) → Redacted
numbered number [] passphrases = record {
  body = number ∷ string [];
  passphrases = passphrases;
}
numbered number (byte ∷ bytes) passphrases = record {
  body = number ∷ string (decimal (number_of (byte ∷ bytes) passphrases));
  passphrases = noted (byte ∷ bytes) passphrases;
}

-- ---- bodies

-- the numbers of the requests that hold secrets: additions, locks and unlocks
abbrev pub holds_secrets : ℕ → Bool
holds_secrets number = (number == 17) || (number == 22) || (number == 23) || (number == 25)

-- a body that isn't read, by whether it may hold a secret
abbrev pub unread : Bool → ℕ → List ℕ → List ℕ
unread true number bytes = number ∷ []
unread false number bytes = number ∷ bytes

-- the body as it is
abbrev pub unchanged : ℕ → List ℕ → List (List ℕ) → Redacted
unchanged number bytes passphrases = record { body = number ∷ bytes; passphrases = passphrases }

-- the body behind whose number these bytes stand, by the request that it is: one of a number that isn't served may hold
-- a PIN or a private key
abbrev pub redacted_as : Result ClientRequest MsgFault → ℕ → List ℕ → List (List ℕ) → Redacted
redacted_as (Ok (Add addition)) number bytes passphrases =
    let key = addition.key.private in
    unchanged number (without_secrets key ++ drop (length key) bytes) passphrases
redacted_as (Ok (Lock passphrase)) number bytes passphrases = numbered number passphrase passphrases
redacted_as (Ok (Unlock passphrase)) number bytes passphrases = numbered number passphrase passphrases
redacted_as (Ok ListIdentities) number bytes passphrases = unchanged number bytes passphrases
redacted_as (Ok (Sign signing)) number bytes passphrases = unchanged number bytes passphrases
redacted_as (Ok (Remove blob)) number bytes passphrases = unchanged number bytes passphrases
redacted_as (Ok RemoveAll) number bytes passphrases = unchanged number bytes passphrases
redacted_as (Ok (Bind bind)) number bytes passphrases = unchanged number bytes passphrases
redacted_as (Ok (OtherExtension name)) number bytes passphrases = unchanged number bytes passphrases
redacted_as (Ok (Unsupported other)) number bytes passphrases = unchanged number [] passphrases
redacted_as (Err fault) number bytes passphrases = record {
  body = unread (holds_secrets number) number bytes;
  passphrases = passphrases;
}

-- a body without its secrets, behind the passphrases that came before it
abbrev pub redacted : List ℕ → List (List ℕ) → Redacted
redacted [] passphrases = record { body = []; passphrases = passphrases }
redacted (number ∷ bytes) passphrases =
    redacted_as (request_of (number ∷ bytes)) number bytes passphrases

-- bodies one after another without their secrets, as frames
abbrev pub redacted_all : List (List ℕ) → List (List ℕ) → Redacted
redacted_all [] passphrases = record { body = []; passphrases = passphrases }
redacted_all (body ∷ bodies) passphrases =
    let first = redacted body passphrases in
    let others = redacted_all bodies first.passphrases in
    record { body = string first.body ++ others.body; passphrases = others.passphrases }
