-- A certificate against the keys of a hop.
use Rattle.std.proofs.Common.{◌≡◌, Bool, true, false, List, [], ◌∷◌, refl, sym, ap, ◌∙◌}
use Rattle.std.specs.Prelude.{ℕ, ◌&&◌, ◌||◌, Some}
use Rattle.std.specs.List.{list_any}
use Rattle.std.specs.Str.{bytes_eq}
use Rattle.key_blob.specs.Certificates.{CertificateParts}
use Rattle.key_blob.specs.Validity.{is_valid}
use Rattle.constraint_rec.specs.declared.key_spec.KeySpec.{KeySpec}
use Rattle.dest_rule.specs.Rules.{fits_key}

-- a test that is the same of all is asked once
and_once : (here later good : Bool) → ((here || later) && good) ≡ (here && good || later && good)
and_once true later true = refl
and_once true later false = no_more later
  where
    no_more : (later : Bool) → false ≡ (later && false)
    no_more true = refl
    no_more false = refl
and_once false later good = refl

-- a certificate fits a hop's keys where one is its authority, and it is good for the host
pub any_certified : (certificate : CertificateParts) (host_key host : List ℕ) (wall : ℕ) (keys : List KeySpec)
    → list_any (fits_key (Some certificate) host_key host wall) keys
    ≡ (list_any (λ key. key.authority && bytes_eq key.blob certificate.signer) keys && is_valid certificate host wall)
any_certified certificate host_key host wall [] = refl
any_certified certificate host_key host wall (key ∷ keys) =
    ap (λ later. fits_key (Some certificate) host_key host wall key || later) (any_certified certificate host_key host wall keys)
    ∙ sym (and_once (key.authority && bytes_eq key.blob certificate.signer) _ (is_valid certificate host wall))
