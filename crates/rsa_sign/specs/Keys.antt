-- Which keys sign, and what leaves.
use Rattle.std.specs.Prelude.{ℕ, Bool, ◌&&◌, ◌%◌, List, length, nat_eq, nat_le, nat_lt, if◌then◌else◌, Option, Some, None}
use Rattle.rsa_octets.specs.Octets.{i2osp, os2ip, significant}
use Rattle.rsa_verify.specs.Encoding.{encoded}
use Rattle.rsa_verify.specs.Verification.{accepts, has_size}
use Rattle.rsa_sign.specs.Signing.{power}

-- a factor has more than 64 bits, and at most 4096 (ours)
unfoldable pub has_factor_size : List ℕ → Bool
has_factor_size factor = nat_lt 8 (length factor) && nat_le (length factor) 512

-- the modulus has 1024 to 8192 bits, its factors 65 to 4096, d is no longer than the modulus, and iqmp
-- no longer than p, in octets (ours)
unfoldable pub has_key_sizes : List ℕ → List ℕ → List ℕ → List ℕ → List ℕ → Bool
has_key_sizes modulus d p q iqmp =
    has_size modulus
    && (has_factor_size p
    && (has_factor_size q && (nat_le (length d) (length modulus) && nat_le (length iqmp) (length p))))

-- RSASSA-PKCS1-V1_5-SIGN (RFC 8017, section 8.2.1), steps 1 and 2, of the numbers d, p, q and iqmp: the
-- octets of the signature
unfoldable pub signature : List ℕ → ℕ → ℕ → ℕ → ℕ → List ℕ → List ℕ
signature modulus d p q iqmp digest_info =
    i2osp (power p q d iqmp (os2ip (encoded (length modulus) digest_info))) (length modulus)

-- the signature, where both factors are odd and it verifies
unfoldable pub signed_by : List ℕ → ℕ → ℕ → ℕ → ℕ → ℕ → List ℕ → Option (List ℕ)
signed_by modulus e d p q iqmp digest_info =
    let s : List ℕ = signature modulus d p q iqmp digest_info in
    (if nat_eq (p % 2) 1 && (nat_eq (q % 2) 1 && accepts modulus e digest_info s) then Some s else None)

-- as above, of octets without zeros in front, where they have the sizes of a key's
unfoldable pub signed_sized : List ℕ → ℕ → List ℕ → List ℕ → List ℕ → List ℕ → List ℕ → Option (List ℕ)
signed_sized modulus e d p q iqmp digest_info =
    if has_key_sizes modulus d p q iqmp
    then signed_by modulus e (os2ip d) (os2ip p) (os2ip q) (os2ip iqmp) digest_info
    else None

-- as above, where zeros in front of a number count for nothing
unfoldable pub signed : List ℕ → ℕ → List ℕ → List ℕ → List ℕ → List ℕ → List ℕ → Option (List ℕ)
signed modulus e d p q iqmp digest_info =
    signed_sized (significant modulus) e (significant d) (significant p) (significant q) (significant iqmp) digest_info
