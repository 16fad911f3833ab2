-- What a message is read as, and what it is for by the grammars.
use Rattle.std.proofs.Common.{◌≡◌, ◌↔◌, ◌⊎◌, ◌||◌, ℕ, ◌^◌, ◌<◌, Bool, true, false, List, [], ◌∷◌, length, Option, Some, None, Result, Ok, Err, inl, inr, refl, sym, ap, ◌∙◌}
use Rattle.std.proofs.lemmas.Slice.Eq.{bytes_eq-Decides}
use Rattle.wire_text.specs.Wire.{IsBytes}
use Rattle.userauth_blob.specs.UserAuths.{Login as Authentic}
use Rattle.userauth_blob.specs.Logins.{IsLogin, login_of}
use Rattle.userauth_blob.specs.declared.fault.AuthFault.{AuthFault}
use Rattle.userauth_blob.proofs.Theorems.{reading_is_login_by_key}
use Rattle.sshsig_blob.specs.FileSignatures.{Signing}
use Rattle.sshsig_blob.specs.Reading.{signing_of}
use Rattle.sshsig_blob.specs.declared.fault.SshsigFault.{SshsigFault}
use Rattle.sshsig_blob.proofs.Theorems.{reading_is_sshsig}
use Rattle.sshsig_blob.proofs.UniqueLemmas.{no_login, read_once}
use Rattle.key_purposes.specs.Messages.{Authentication, Certificate, FileIn, IsFor, IsForCertificate, IsForFile, IsForLogin, IsForNamespace, IsForNone, IsForOne, IsForOnly, IsForOther, IsNarrow, MayBeLogin, MayLogIn, OtherData, Use, allows, are_for, use_by, use_of}
use Rattle.key_purposes.specs.Suspicions.{BeginsCertificate, HoldsNameOfLogin, begins_certificate, may_log_in}
use Rattle.key_purposes.specs.declared.purpose.Purpose.{Purpose}
use Rattle.key_purposes.specs.declared.purpose.Purpose.TheVariants as purposes
use Rattle.key_purposes.proofs.SuspicionLemmas.{certificate_again, certificate_is, holds_name, name_held}

-- the purpose that takes in such a message and no other kind
abbrev pub purpose_of : Use → Option Purpose
purpose_of (Authentication auth) = Some purposes.Login
purpose_of (FileIn namespace) = Some (purposes.Namespace namespace)
purpose_of Certificate = Some purposes.Certificate
purpose_of MayLogIn = None
purpose_of OtherData = Some purposes.Other

-- a narrow purpose that takes in a message is its own
its_own : (used : Use) (purpose : Purpose) → IsNarrow purpose → allows purpose used ≡ true → purpose_of used ≡ Some purpose
its_own (Authentication auth) purposes.Login narrow is = refl
its_own (FileIn named) (purposes.Namespace namespace) narrow is =
    ap (λ (n : List ℕ). Some (purposes.Namespace n)) (sym ((bytes_eq-Decides namespace named).0 is))
its_own Certificate purposes.Certificate narrow is = refl
its_own OtherData purposes.Other narrow is = refl
its_own used purposes.AnyNamespace narrow is = absurd narrow
its_own used purpose narrow is = absurd cc

module _ (message blob : List ℕ) (bytes : IsBytes message) (blob_bytes : IsBytes blob) (short : length message < 2 ^ 30) where
  -- what is read, by the grammars
  abbrev Means : Use → Type 0
  Means (Authentication auth) = IsLogin message blob auth
  Means (FileIn namespace) = (IsForLogin message blob → ⊥) × IsForNamespace namespace message
  Means Certificate = IsForCertificate message blob
  Means MayLogIn = MayBeLogin message blob
  Means OtherData = IsForOther message blob

  login_not : (fault : AuthFault) → login_of message blob ≡ Err fault → IsForLogin message blob → ⊥
  login_not fault read is = let other = (reading_is_login_by_key message blob is.login bytes blob_bytes).1 is.signed in absurd cc

  file_not : (fault : SshsigFault) → signing_of message ≡ Err fault → IsForFile message → ⊥
  file_not fault read is = let other = (reading_is_sshsig message is.file bytes).1 is.signed in absurd cc

  begins_not : begins_certificate message ≡ false → BeginsCertificate message → ⊥
  begins_not none is = let some = certificate_again message is in absurd cc

  holds_not : may_log_in message ≡ false → HoldsNameOfLogin message → ⊥
  holds_not none is = let some = name_held message is in absurd cc

  means_by : (auth : Result Authentic AuthFault) (file : Result Signing SshsigFault) (begins may : Bool) → login_of message blob ≡ auth
      → signing_of message ≡ file → begins_certificate message ≡ begins → may_log_in message ≡ may → Means (use_by auth file begins may)
  means_by (Ok auth) file begins may at_login at_file at_begins at_may = (reading_is_login_by_key message blob auth bytes blob_bytes).0 at_login
  means_by (Err fault) (Ok file) begins may at_login at_file at_begins at_may = (
    login_not fault at_login,
    record { file = file; signed = (reading_is_sshsig message file bytes).0 at_file; same = refl },
  )
  means_by (Err fault) (Err none) true may at_login at_file at_begins at_may =
      record { no_login = login_not fault at_login; no_file = file_not none at_file; begins = certificate_is message bytes at_begins }
  means_by (Err fault) (Err none) false true at_login at_file at_begins at_may = record {
    no_login = login_not fault at_login;
    no_file = file_not none at_file;
    no_certificate = begins_not at_begins;
    holds = holds_name message bytes at_may;
  }
  means_by (Err fault) (Err none) false false at_login at_file at_begins at_may = record {
    no_login = login_not fault at_login;
    no_file = file_not none at_file;
    no_certificate = begins_not at_begins;
    holds_none = holds_not at_may;
  }

  means : Means (use_of message blob)
  unfolding use_of
  means = means_by (login_of message blob) (signing_of message) (begins_certificate message) (may_log_in message) refl refl refl refl

  -- ---- a purpose takes in what it is for

  as_login : (auth : Authentic) → IsLogin message blob auth → IsForLogin message blob
  as_login auth is = record { login = auth; signed = is }

  as_file : (namespace : List ℕ) → IsForNamespace namespace message → IsForFile message
  as_file namespace is = record { file = is.file; signed = is.signed }

  never_both : (auth : Authentic) → IsLogin message blob auth → IsForFile message → ⊥
  never_both auth login is = no_login message blob auth is.file short login is.signed

  -- a file is in one namespace
  one_name : (one other : List ℕ) → IsForNamespace one message → IsForNamespace other message → one ≡ other
  one_name one other is so =
      sym is.same ∙ ap (λ (f : Signing). f.namespace) (read_once message is.file so.file is.signed so.signed) ∙ so.same

  takes : (purpose : Purpose) (used : Use) → Means used → (allows purpose used ≡ true) ↔ IsFor purpose message blob
  takes purposes.Login (Authentication auth) is = (λ so. as_login auth is, λ so. refl)
  takes purposes.Login (FileIn namespace) is = (λ so. absurd cc, λ so. absurd (is.0 so))
  takes purposes.Login Certificate is = (λ so. absurd cc, λ so. absurd (is.no_login so))
  takes purposes.Login MayLogIn is = (λ so. absurd cc, λ so. absurd (is.no_login so))
  takes purposes.Login OtherData is = (λ so. absurd cc, λ so. absurd (is.no_login so))
  takes (purposes.Namespace name) (Authentication auth) is = (λ so. absurd cc, λ so. absurd (never_both auth is (as_file name so)))
  takes (purposes.Namespace name) (FileIn namespace) is =
      let decides = bytes_eq-Decides name namespace in (
        λ so. record { file = is.1.file; signed = is.1.signed; same = is.1.same ∙ sym (decides.0 so) },
        λ so. decides.1 (one_name name namespace so is.1),
      )
  takes (purposes.Namespace name) Certificate is = (λ so. absurd cc, λ so. absurd (is.no_file (as_file name so)))
  takes (purposes.Namespace name) MayLogIn is = (λ so. absurd cc, λ so. absurd (is.no_file (as_file name so)))
  takes (purposes.Namespace name) OtherData is = (λ so. absurd cc, λ so. absurd (is.no_file (as_file name so)))
  takes purposes.AnyNamespace (Authentication auth) is = (λ so. absurd cc, λ so. absurd (never_both auth is so))
  takes purposes.AnyNamespace (FileIn namespace) is = (λ so. as_file namespace is.1, λ so. refl)
  takes purposes.AnyNamespace Certificate is = (λ so. absurd cc, λ so. absurd (is.no_file so))
  takes purposes.AnyNamespace MayLogIn is = (λ so. absurd cc, λ so. absurd (is.no_file so))
  takes purposes.AnyNamespace OtherData is = (λ so. absurd cc, λ so. absurd (is.no_file so))
  takes purposes.Certificate (Authentication auth) is = (λ so. absurd cc, λ so. absurd (so.no_login (as_login auth is)))
  takes purposes.Certificate (FileIn namespace) is = (λ so. absurd cc, λ so. absurd (so.no_file (as_file namespace is.1)))
  takes purposes.Certificate Certificate is = (λ so. is, λ so. refl)
  takes purposes.Certificate MayLogIn is = (λ so. absurd cc, λ so. absurd (is.no_certificate so.begins))
  takes purposes.Certificate OtherData is = (λ so. absurd cc, λ so. absurd (is.no_certificate so.begins))
  takes purposes.Other (Authentication auth) is = (λ so. absurd cc, λ so. absurd (so.no_login (as_login auth is)))
  takes purposes.Other (FileIn namespace) is = (λ so. absurd cc, λ so. absurd (so.no_file (as_file namespace is.1)))
  takes purposes.Other Certificate is = (λ so. absurd cc, λ so. absurd (so.no_certificate is.begins))
  takes purposes.Other MayLogIn is = (λ so. absurd cc, λ so. absurd (so.holds_none is.holds))
  takes purposes.Other OtherData is = (λ so. is, λ so. refl)

  -- what the reading allows is what the grammars say
  pub allows_is : (purpose : Purpose) → (allows purpose (use_of message blob) ≡ true) ↔ IsFor purpose message blob
  allows_is purpose = takes purpose (use_of message blob) means

  -- ---- one of several

  or_is : (here later : Bool) (IsHere IsLater : Type 0) → ((here ≡ true) ↔ IsHere) → ((later ≡ true) ↔ IsLater) → ((here || later) ≡ true) ↔ (IsHere ⊎ IsLater)
  or_is true later IsHere IsLater at_here at_later = (λ so. inl (at_here.0 refl), λ is. refl)
  or_is false later IsHere IsLater at_here at_later = (λ so. inr (at_later.0 so), later_is)
    where
      later_is : IsHere ⊎ IsLater → later ≡ true
      later_is (inl is) = absurd (let so = at_here.1 is in cc)
      later_is (inr is) = at_later.1 is

  pub one_is : (all : List Purpose) → (are_for all message blob ≡ true) ↔ IsForOne all message blob
  one_is [] = (λ so. absurd cc, λ none. absurd none)
  one_is (purpose ∷ others) =
      or_is (allows purpose (use_of message blob)) (are_for others message blob) (IsFor purpose message blob) (IsForOne others message blob)
      (allows_is purpose) (one_is others)

  -- ---- one thing

  -- two narrow purposes that a message is for are one
  pub one_purpose : (one other : Purpose) → IsNarrow one → IsNarrow other → IsFor one message blob → IsFor other message blob → one ≡ other
  one_purpose one other narrow other_narrow is so =
      let here = its_own (use_of message blob) one narrow ((allows_is one).1 is) in
      let there = its_own (use_of message blob) other other_narrow ((allows_is other).1 so) in
      cc

  pub only_one : ((purpose : Purpose) × IsForOnly message blob purpose) ⊎ IsForNone message blob
  only_one = by_use (use_of message blob) refl means
    where
      this : (purpose : Purpose) → IsNarrow purpose → IsFor purpose message blob → ((purpose : Purpose) × IsForOnly message blob purpose) ⊎ IsForNone message blob
      this purpose narrow is =
          inl (purpose, record { narrow = narrow; is = is; only = λ other other_narrow so. one_purpose other purpose other_narrow narrow so is })

      by_use : (used : Use) → use_of message blob ≡ used → Means used → ((purpose : Purpose) × IsForOnly message blob purpose) ⊎ IsForNone message blob
      by_use (Authentication auth) at is = this purposes.Login tt (as_login auth is)
      by_use (FileIn namespace) at is = this (purposes.Namespace namespace) tt is.1
      by_use Certificate at is = this purposes.Certificate tt is
      by_use MayLogIn at is = inr (record { may = is; none = none })
        where
          taken : (purpose : Purpose) → allows purpose MayLogIn ≡ true → ⊥
          taken purposes.Login so = absurd cc
          taken (purposes.Namespace namespace) so = absurd cc
          taken purposes.AnyNamespace so = absurd cc
          taken purposes.Certificate so = absurd cc
          taken purposes.Other so = absurd cc

          none : (purpose : Purpose) → IsFor purpose message blob → ⊥
          none purpose so = taken purpose (sym (ap (allows purpose) at) ∙ (allows_is purpose).1 so)
      by_use OtherData at is = this purposes.Other tt is
