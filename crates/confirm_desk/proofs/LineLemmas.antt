-- What a third line tells.
use Rattle.std.proofs.Common.{◌≡◌, ℕ, zero, suc, ◌+◌, ◌^◌, ◌<◌, ◌==◌, Bool, true, false, List, [], ◌∷◌, ◌++◌, Option, Some, None, ap, refl, sym, ◌∙◌, append_assoc, arith, drop, get_or, nat_lt, if◌then◌else◌}
use Rattle.std.proofs.lemmas.Fmt.{decimal_injective}
use Rattle.std.proofs.lemmas.List.{append_cancel_left, append_cancel_right}
use Rattle.std.specs.Option.{option_map}
use Rattle.std.specs.Prelude.{◌||◌, codes, decimal}
use Rattle.key_purposes.specs.Messages.{Authentication, Certificate, MayLogIn, OtherData, Use}
use Rattle.key_purposes.specs.Messages as messages
use Rattle.confirm_desk.specs.Lines.{CertificateOf, DataOf, FileIn, HasNoSpace, LoginAs, MayLogInBy, ReadAlike, Told, told_by, user_and_host}
use Rattle.confirm_desk.specs.Prompt.{of_bytes, purpose_line, shown_text, to_host}

-- what stands between two ends
between : (front one other back : List ℕ) → front ++ (one ++ back) ≡ front ++ (other ++ back) → one ≡ other
between front one other back same =
    append_cancel_right one other back (append_cancel_left front (one ++ back) (other ++ back) same)

-- ---- two lines that are the same

-- a user and a host behind one another, and the full stop
shown-parts : (user : List ℕ) (host : Option (List ℕ))
    → user ++ (to_host host ++ codes ".") ≡ user_and_host user (option_map (shown_text 64) host) ++ codes "."
shown-parts user None = refl
shown-parts user (Some host) = sym (append_assoc user (codes " to " ++ shown_text 64 host) (codes "."))

logins-alike : (user other : List ℕ) (host other_host : Option (List ℕ))
    → codes "For a login as " ++ (user ++ (to_host host ++ codes ".")) ≡ codes "For a login as " ++ (other ++ (to_host other_host ++ codes "."))
    → user_and_host user (option_map (shown_text 64) host) ≡ user_and_host other (option_map (shown_text 64) other_host)
logins-alike user other host other_host same =
    append_cancel_right (user_and_host user (option_map (shown_text 64) host)) (user_and_host other (option_map (shown_text 64) other_host)) (codes ".")
    (sym (shown-parts user host)
    ∙ append_cancel_left (codes "For a login as ") (user ++ (to_host host ++ codes ".")) (other ++ (to_host other_host ++ codes ".")) same
    ∙ shown-parts other other_host)

-- the seventh byte of a line tells its kind
abbrev seventh : Use → ℕ
seventh (Authentication login) = 108
seventh (messages.FileIn namespace) = 115
seventh Certificate = 99
seventh MayLogIn = 97
seventh OtherData = 104

seventh-line : (host : Option (List ℕ)) (used : Use) (len : ℕ) → get_or (purpose_line host used len) 6 0 ≡ seventh used
seventh-line host (Authentication login) len = refl
seventh-line host (messages.FileIn namespace) len = refl
seventh-line host Certificate len = refl
seventh-line host MayLogIn len = refl
seventh-line host OtherData len = refl

-- sizes behind the same words
sizes-alike : (words : List ℕ) (len other : ℕ) → len < 2 ^ 64 → other < 2 ^ 64 → words ++ of_bytes len ≡ words ++ of_bytes other → len ≡ other
sizes-alike words len other short other_short same =
    decimal_injective len other short other_short (between words (decimal len) (decimal other) (codes " bytes.") same)

pub line-alike : (host other_host : Option (List ℕ)) (one other : Use) (len other_len : ℕ)
    → len < 2 ^ 64 → other_len < 2 ^ 64 → purpose_line host one len ≡ purpose_line other_host other other_len
    → ReadAlike (told_by host one len) (told_by other_host other other_len)
line-alike host other_host (Authentication login) (Authentication other) len other_len short other_short same =
    logins-alike (shown_text 64 login.user) (shown_text 64 other.user) host other_host same
line-alike host other_host (messages.FileIn namespace) (messages.FileIn other) len other_len short other_short same =
    between (codes "For a signature in namespace ") (shown_text 64 namespace) (shown_text 64 other) (codes ".") same
line-alike host other_host Certificate Certificate len other_len short other_short same =
    sizes-alike (codes "For a certificate of ") len other_len short other_short same
line-alike host other_host MayLogIn MayLogIn len other_len short other_short same =
    sizes-alike (codes "For what may be a login, of ") len other_len short other_short same
line-alike host other_host OtherData OtherData len other_len short other_short same =
    sizes-alike (codes "For other data of ") len other_len short other_short same
line-alike host other_host one other len other_len short other_short same =
    let there : seventh one ≡ seventh other =
    sym (seventh-line host one len) ∙ ap (λ (line : List ℕ). get_or line 6 0) same ∙ seventh-line other_host other other_len in
    absurd (omega (arith, there))

-- ---- what is told is the same

-- what reads alike is the same, where logins that read alike are
same_where : (one other : Told) → ReadAlike one other
    → ((user other_user : List ℕ) (host other_host : Option (List ℕ)) → one ≡ LoginAs user host → other ≡ LoginAs other_user other_host
    → user_and_host user host ≡ user_and_host other_user other_host → LoginAs user host ≡ LoginAs other_user other_host)
    → one ≡ other
same_where (LoginAs user host) (LoginAs other other_host) alike logins = logins user other host other_host refl refl alike
same_where (FileIn namespace) (FileIn other) alike logins = ap FileIn alike
same_where (CertificateOf len) (CertificateOf other) alike logins = ap CertificateOf alike
same_where (MayLogInBy len) (MayLogInBy other) alike logins = ap MayLogInBy alike
same_where (DataOf len) (DataOf other) alike logins = ap DataOf alike
same_where one other alike logins = absurd alike

-- the host that is told of a login is the one that is known
host_told : (host : Option (List ℕ)) (used : Use) (len : ℕ)
    (user : List ℕ) (shown : Option (List ℕ)) → told_by host used len ≡ LoginAs user shown
    → shown ≡ option_map (shown_text 64) host
host_told host (Authentication login) len user shown is = cc
host_told host used len user shown is = absurd cc

-- before one host the users are the same
same_users : (user other : List ℕ) (host : Option (List ℕ)) → user_and_host user host ≡ user_and_host other host → user ≡ other
same_users user other None same = same
same_users user other (Some host) same = append_cancel_right user other (codes " to " ++ host) same

before_one_host : (user other : List ℕ) (host other_host : Option (List ℕ)) → host ≡ other_host
    → user_and_host user host ≡ user_and_host other other_host → LoginAs user host ≡ LoginAs other other_host
before_one_host user other host other_host is alike =
    ap (λ u. LoginAs u host) (same_users user other host (alike ∙ ap (user_and_host other) (sym is)))
    ∙ ap (LoginAs other) is

pub line-tells : (host : Option (List ℕ)) (one other : Use) (len other_len : ℕ)
    → len < 2 ^ 64 → other_len < 2 ^ 64 → purpose_line host one len ≡ purpose_line host other other_len
    → told_by host one len ≡ told_by host other other_len
line-tells host one other len other_len short other_short same =
    same_where (told_by host one len) (told_by host other other_len)
    (line-alike host host one other len other_len short other_short same)
    (λ user other_user shown other_shown is other_is alike.
    before_one_host user other_user shown other_shown
    (host_told host one len user shown is ∙ sym (host_told host other other_len other_user other_shown other_is))
    alike)

-- ---- hosts without a space

abbrev one_if : Bool → ℕ
one_if true = 1
one_if false = 0

-- how many bytes are spaces
abbrev spaces : List ℕ → ℕ
spaces [] = 0
spaces (byte ∷ bytes) = one_if (byte == 32) + spaces bytes

spaces-append : (one other : List ℕ) → spaces (one ++ other) ≡ spaces one + spaces other
spaces-append [] other = omega arith
spaces-append (byte ∷ one) other = omega (arith, spaces-append one other)

no_spaces : (name : List ℕ) → HasNoSpace name → spaces name ≡ 0
no_spaces [] none = refl
no_spaces (byte ∷ name) none =
    let here : one_if (byte == 32) ≡ 0 = ap one_if none.0 in
    omega (arith, here, no_spaces name none.1)

-- a byte that isn't a space isn't shown as one
shown-no_space : (most : ℕ) (name : List ℕ) → HasNoSpace name → HasNoSpace (shown_text most name)
shown-no_space zero [] none = tt
shown-no_space zero (byte ∷ name) none = tt
shown-no_space (suc most) [] none = tt
shown-no_space (suc most) (byte ∷ name) none =
    (by_byte (nat_lt byte 32 || nat_lt 126 byte), shown-no_space most name none.1)
  where
    by_byte : (other : Bool) → ((if other then 63 else byte) == 32) ≡ false
    by_byte true = refl
    by_byte false = none.0

-- what follows the first space has fewer spaces than what begins with it
no_later_end : (user host other_host : List ℕ) → spaces host ≡ 0 → spaces other_host ≡ 0
    → codes "to " ++ host ≡ user ++ (codes " to " ++ other_host) → ⊥
no_later_end user host other_host none other_none same =
    let count : spaces (codes "to " ++ host) ≡ spaces (user ++ (codes " to " ++ other_host)) = ap spaces same in
    let one : spaces (codes "to ") ≡ 1 = refl in
    let two : spaces (codes " to ") ≡ 2 = refl in
    omega (
      arith,
      none,
      other_none,
      count,
      one,
      two,
      spaces-append (codes "to ") host,
      spaces-append (codes " to ") other_host,
      spaces-append user (codes " to " ++ other_host),
    )

-- the last ` to ` parts a user from a host without a space
ends-alike : (user other host other_host : List ℕ) → spaces host ≡ 0 → spaces other_host ≡ 0
    → user ++ (codes " to " ++ host) ≡ other ++ (codes " to " ++ other_host) → (user ≡ other) × (host ≡ other_host)
ends-alike [] [] host other_host none other_none same = (refl, append_cancel_left (codes " to ") host other_host same)
ends-alike [] (byte ∷ other) host other_host none other_none same =
    let rest : codes "to " ++ host ≡ other ++ (codes " to " ++ other_host) = ap (λ (text : List ℕ). drop 1 text) same in
    absurd (no_later_end other host other_host none other_none rest)
ends-alike (byte ∷ user) [] host other_host none other_none same =
    let rest : codes "to " ++ other_host ≡ user ++ (codes " to " ++ host) = ap (λ (text : List ℕ). drop 1 text) (sym same) in
    absurd (no_later_end user other_host host other_none none rest)
ends-alike (byte ∷ user) (other_byte ∷ other) host other_host none other_none same =
    let first : byte ≡ other_byte = ap (λ (text : List ℕ). get_or text 0 0) same in
    let rest : user ++ (codes " to " ++ host) ≡ other ++ (codes " to " ++ other_host) = ap (λ (text : List ℕ). drop 1 text) same in
    let both = ends-alike user other host other_host none other_none rest in
    (ap (λ b. b ∷ user) first ∙ ap (λ (u : List ℕ). other_byte ∷ u) both.0, both.1)

before_hosts : (user other name other_name : List ℕ) (host other_host : Option (List ℕ)) → host ≡ Some name → other_host ≡ Some other_name
    → HasNoSpace name → HasNoSpace other_name
    → user_and_host user host ≡ user_and_host other other_host → LoginAs user host ≡ LoginAs other other_host
before_hosts user other name other_name host other_host is other_is none other_none alike =
    let texts : user ++ (codes " to " ++ name) ≡ other ++ (codes " to " ++ other_name) =
    ap (user_and_host user) (sym is) ∙ alike ∙ ap (user_and_host other) other_is in
    let ends = ends-alike user other name other_name (no_spaces name none) (no_spaces other_name other_none) texts in
    ap (LoginAs user) is ∙ ap (λ u. LoginAs u (Some name)) ends.0 ∙ ap (λ (n : List ℕ). LoginAs other (Some n)) ends.1
    ∙ ap (LoginAs other) (sym other_is)

pub line-tells-hosts : (host other_host : List ℕ) (one other : Use) (len other_len : ℕ)
    → len < 2 ^ 64 → other_len < 2 ^ 64 → HasNoSpace host → HasNoSpace other_host
    → purpose_line (Some host) one len ≡ purpose_line (Some other_host) other other_len
    → told_by (Some host) one len ≡ told_by (Some other_host) other other_len
line-tells-hosts host other_host one other len other_len short other_short none other_none same =
    same_where (told_by (Some host) one len) (told_by (Some other_host) other other_len)
    (line-alike (Some host) (Some other_host) one other len other_len short other_short same)
    (λ user other_user shown other_shown is other_is alike.
    before_hosts user other_user (shown_text 64 host) (shown_text 64 other_host) shown other_shown
    (host_told (Some host) one len user shown is)
    (host_told (Some other_host) other other_len other_user other_shown other_is)
    (shown-no_space 64 host none) (shown-no_space 64 other_host other_none) alike)
