-- A message has one reading: one namespace and digest, and it isn't a login too.
use Rattle.std.proofs.Common.{◌≡◌, ℕ, ◌+◌, ◌^◌, ◌<◌, List, ◌++◌, length, refl, ap, ◌∙◌, arith}
use Rattle.std.proofs.lemmas.List.{length-append}
use Rattle.wire_text.specs.Wire.{string, announced_len}
use Rattle.wire_text.proofs.WireLemmas.{announced_len-string, length-string}
use Rattle.userauth_blob.specs.UserAuths.{Login}
use Rattle.userauth_blob.specs.Logins.{IsLogin}
use Rattle.sshsig_blob.specs.FileSignatures.{Signing, preamble, IsSshsig}
use Rattle.sshsig_blob.proofs.ReadLemmas.{sshsig_is_read}

pub read_once : (message : List ℕ) (signed other : Signing) → IsSshsig message signed → IsSshsig message other → signed ≡ other
read_once message signed other a b = let x = sshsig_is_read message signed a in let y = sshsig_is_read message other b in cc

-- the four letters SSHS as a number
preamble_announces : (rest : List ℕ) → announced_len (preamble ++ rest) ≡ 1397966931
unfolding announced_len
preamble_announces rest = refl

pub no_login : (message blob : List ℕ) (auth : Login) (signed : Signing) → length message < 2 ^ 30 → IsLogin message blob auth → IsSshsig message signed → ⊥
no_login message blob auth signed small login file =
    let session : announced_len message ≡ length auth.session =
    ap announced_len login.text ∙ announced_len-string auth.session _ login.short_session in
    let letters : announced_len message ≡ 1397966931 = ap announced_len file.text ∙ preamble_announces _ in
    let size : length message ≡ length (string auth.session) + _ = ap length login.text ∙ length-append (string auth.session) _ in
    omega (arith, session, letters, size, length-string auth.session, small)
