-- Host fields: a list of patterns (ssh_config(5), "PATTERNS"), or a host hashed as ssh-keygen(1)'s
-- option -H leaves it: `|1|`, a salt, `|` and the HMAC-SHA1 of the host in lower case.
use Rattle.std.specs.Prelude.{◌≡◌, ◌≢◌, ℕ, nat_eq, ◌&&◌, not, Bool, false, List, [], ◌∷◌, ◌++◌, drop, Option, None, Some, codes, if◌then◌else◌}
use Rattle.std.specs.List.{starts_with}
use Rattle.std.specs.Str.{bytes_eq}
use Rattle.sha1.specs.Sha1.{sha1}
use Rattle.hmac_core.specs.Hmac.{hmac}
use Rattle.key_file.specs.Base64.{IsBase64, bytes_of}
use Rattle.pattern_core.specs.PatternLists.{MatchesList, lowered, some_element, accepts_host, rejects_host}
use Rattle.known_hosts.specs.declared.parts.Mark.TheVariants.{Bar}
use Rattle.known_hosts.specs.Parts.{parts}

-- what a hashed host begins with
abbrev pub hashed_mark : List ℕ
hashed_mark = codes "|1|"

-- ---- the grammar

-- the field is the hash of the host under a salt
pub record IsHashOf (field host : List ℕ) : Type 0 where
  pub salt : List ℕ
  pub salt_text : List ℕ
  pub digest_text : List ℕ
  pub field_is : field ≡ hashed_mark ++ (salt_text ++ 124 ∷ digest_text)
  pub salt_is : IsBase64 salt_text salt
  pub digest_is : IsBase64 digest_text (hmac sha1 salt (lowered host))

-- the host field takes in the host: by the hash or by the list
pub data TakesIn : List ℕ → List ℕ → Type 0 where
  by_hash : (field host : List ℕ) → IsHashOf field host → TakesIn field host
  by_list : (field host : List ℕ) → ((text : List ℕ) → field ≢ hashed_mark ++ text)
      → MatchesList host field → TakesIn field host

-- ---- tests

-- the list takes in the host
abbrev pub is_in_list : List ℕ → List ℕ → Bool
is_in_list host patterns =
    some_element (accepts_host (lowered host)) patterns
    && not (some_element (rejects_host (lowered host)) patterns)

-- the digest that was read, where one was, is that of the message under the salt that was read
abbrev pub is_digest : Option (List ℕ) → Option (List ℕ) → List ℕ → Bool
is_digest None digest message = false
is_digest (Some salt) None message = false
is_digest (Some salt) (Some digest) message = bytes_eq digest (hmac sha1 salt message)

-- the digest, in base64, is that of the message under the salt, in base64
unfoldable pub is_hash : List ℕ → List ℕ → List ℕ → Bool
is_hash salt digest message = is_digest (bytes_of salt) (bytes_of digest) message

-- the two parts of a hash are that of the message
abbrev pub is_hash_in : List (List ℕ) → List ℕ → Bool
is_hash_in [] message = false
is_hash_in (salt ∷ []) message = false
is_hash_in (salt ∷ digest ∷ []) message = is_hash salt digest message
is_hash_in (salt ∷ digest ∷ more ∷ others) message = false

-- what follows `|1|` is the hash of the message
unfoldable pub is_hashed : List ℕ → List ℕ → Bool
is_hashed text message = is_hash_in (parts Bar text) message

-- the host field takes in the host
unfoldable pub takes_in : List ℕ → List ℕ → Bool
takes_in field host =
    if starts_with nat_eq field hashed_mark then is_hashed (drop 3 field) (lowered host)
    else is_in_list host field
