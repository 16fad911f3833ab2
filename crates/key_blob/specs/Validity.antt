-- When a host certificate is good, as a test beside the relation `IsValid`.
use Rattle.std.specs.Prelude.{ℕ, zero, suc, ◌==◌, ◌&&◌, ◌||◌, nat_lt, not, Bool, false, List, length, Option, Some, None}
use Rattle.wire_core.specs.Fields.{string_at}
use Rattle.pattern_core.specs.Patterns.{is_match, is_nothing}
use Rattle.key_blob.specs.Certificates.{CertificateParts}

-- one of the strings at the front is a pattern that matches the host, by the string found there
abbrev pub named_in : List ℕ → Option (List ℕ × List ℕ) → (List ℕ → Bool) → Bool
named_in host None later = false
named_in host (Some found) later = is_match host found.0 || later found.1

-- one of the first strings, so many at most, is a pattern that matches the host
unfoldable pub names_host_up_to : ℕ → List ℕ → List ℕ → Bool
names_host_up_to zero host bytes = false
names_host_up_to (suc count) host bytes =
    named_in host (string_at bytes) (names_host_up_to count host)

-- one of the strings that the bytes begin with is a pattern that matches the host (ours)
abbrev pub names_host : List ℕ → List ℕ → Bool
names_host host bytes = names_host_up_to (length bytes) host bytes

-- the certificate is good for the host at this wall clock (ours)
unfoldable pub is_valid : CertificateParts → List ℕ → ℕ → Bool
is_valid parts host wall =
    (parts.cert_type == 2) && not (nat_lt wall parts.after) && nat_lt wall parts.before
    && is_nothing parts.critical
    && (is_nothing parts.principals || names_host host parts.principals)
