-- What counts as other data holds no name of a login.
use Rattle.std.proofs.Common.{◌≡◌, ◌≢◌, ℕ, ◌^◌, ◌<◌, Bool, true, false, List, ◌∷◌, ◌++◌, length, Result, Ok, Err, inl, refl, sym, ap, ◌∙◌, append_assoc, inr}
use Rattle.wire_text.specs.Wire.{string}
use Rattle.userauth_blob.specs.UserAuths.{Login as Authentic}
use Rattle.userauth_blob.specs.Logins.{login_of}
use Rattle.userauth_blob.specs.declared.fault.AuthFault.{AuthFault}
use Rattle.sshsig_blob.specs.FileSignatures.{Signing}
use Rattle.sshsig_blob.specs.Reading.{signing_of}
use Rattle.sshsig_blob.specs.declared.fault.SshsigFault.{SshsigFault}
use Rattle.key_purposes.specs.Messages.{OtherData, use_by, use_of}
use Rattle.key_purposes.specs.Suspicions.{IsMethod, IsNameOfLogin, IsService, begins_certificate, may_log_in}
use Rattle.key_purposes.proofs.SuspicionLemmas.{name_stands}

-- other data may not log in
none_by : (auth : Result Authentic AuthFault) (file : Result Signing SshsigFault) (begins may : Bool) → use_by auth file begins may ≡ OtherData → may ≡ false
none_by (Ok auth) file begins may is = absurd cc
none_by (Err fault) (Ok file) begins may is = absurd cc
none_by (Err fault) (Err none) true may is = absurd cc
none_by (Err fault) (Err none) false true is = absurd cc
none_by (Err fault) (Err none) false false is = refl

may_not : (message blob : List ℕ) → use_of message blob ≡ OtherData → may_log_in message ≡ false
unfolding use_of
may_not message blob is = none_by (login_of message blob) (signing_of message) (begins_certificate message) (may_log_in message) is

-- a name of a login behind these bytes
pub never_named : (message blob front name rest : List ℕ) → use_of message blob ≡ OtherData → length name < 2 ^ 32 → IsNameOfLogin name
    → message ≢ front ++ (string name ++ rest)
never_named message blob front name rest is short names at =
    let none = may_not message blob is in
    let some = ap may_log_in at ∙ name_stands front name rest short names in
    absurd cc

-- the service behind session, number and user
pub no_service : (message blob session user service rest : List ℕ) → use_of message blob ≡ OtherData → length service < 2 ^ 32 → IsService service
    → message ≢ session ++ 50 ∷ (string user ++ (string service ++ rest))
no_service message blob session user service rest is short names at =
    never_named message blob (session ++ 50 ∷ string user) service rest is short (inl names)
    (at ∙ sym (append_assoc session (50 ∷ string user) (string service ++ rest)))

-- the method behind them and a service
pub no_method : (message blob session user service method rest : List ℕ) → use_of message blob ≡ OtherData → length method < 2 ^ 32 → IsMethod method
    → message ≢ session ++ 50 ∷ (string user ++ (string service ++ (string method ++ rest)))
no_method message blob session user service method rest is short names at =
    never_named message blob ((session ++ 50 ∷ string user) ++ string service) method rest is short (inr names)
    (at ∙ sym (append_assoc (session ++ 50 ∷ string user) (string service) (string method ++ rest)
    ∙ append_assoc session (50 ∷ string user) (string service ++ (string method ++ rest))))
