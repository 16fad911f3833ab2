-- RSASSA-PKCS1-V1_5-VERIFY: RFC 8017, section 8.2.2.
use Rattle.std.specs.Prelude.{ℕ, Bool, ◌&&◌, ◌||◌, ◌%◌, ◌^◌, List, get_or, length, nat_eq, nat_le, nat_lt}
use Rattle.rsa_octets.specs.Octets.{os2ip, significant}
use Rattle.rsa_verify.specs.Encoding.{encoded}

-- a number without zeros in front has 1024 to 8192 bits (ours)
unfoldable pub has_size : List ℕ → Bool
has_size octets =
    nat_le (length octets) 1024
    && (nat_lt 128 (length octets) || nat_eq (length octets) 128 && nat_le 128 (get_or octets 0 0))

-- steps 2 and 4: the number of the signature is below the modulus (RSAVP1, section 5.2.2), which is
-- odd, and raised to the exponent it is the number of the encoded message
unfoldable pub opens : List ℕ → ℕ → List ℕ → List ℕ → Bool
opens modulus e digest_info signature =
    nat_eq (os2ip modulus % 2) 1
    && (nat_lt (os2ip signature) (os2ip modulus)
    && nat_eq (os2ip signature ^ e % os2ip modulus) (os2ip (encoded (length modulus) digest_info)))

-- steps 1 to 4 for a modulus of k octets, without zeros in front: the signature has k octets, too
unfoldable pub accepts : List ℕ → ℕ → List ℕ → List ℕ → Bool
accepts modulus e digest_info signature =
    has_size (significant modulus)
    && (nat_eq (length signature) (length (significant modulus)) && opens (significant modulus) e digest_info signature)
