-- A key that was added for some purposes signs for these alone.
use Rattle.std.proofs.Common.{◌≡◌, ◌≢◌, ℕ, ◌^◌, ◌<◌, List, [], ◌∷◌, ◌++◌, length, All, Option, Some, None, IfSome, Bool, true, false, cond, refl, sym, ap, subst, ◌∙◌, inl, inr}
use Rattle.std.specs.Option.{option_map}
use Rattle.std.specs.Str.{bytes_eq}
use Rattle.std.specs.Prelude.{not}
use Rattle.std.proofs.lemmas.Bool.{and_parts, not-true}
use Rattle.std.proofs.lemmas.List.Elements.{All-head, All-tail}
use Rattle.std.proofs.lemmas.Slice.Eq.{bytes_eq-Decides}
use Rattle.wire_text.specs.Wire.{IsBytes}
use Rattle.key_purposes.specs.Messages.{IsFor, IsForLogin, IsForNamespace, IsForOne, IsNarrow, are_for, is_by_sha1, let_sign, suit}
use Rattle.key_purposes.specs.declared.purpose.Purpose.{Purpose}
use Rattle.key_purposes.specs.declared.purpose.Purpose.TheVariants.{AnyNamespace, Certificate, Login, Namespace, Other}
use Rattle.key_purposes.proofs.MessageLemmas.{one_is, one_purpose}
use Rattle.agent_msg.specs.Requests.{Addition, Signing}
use Rattle.agent_model.specs.Events.{Timed}
use Rattle.agent_model.specs.Runs.{Stamped, run}
use Rattle.agent_model.specs.State.{Settings, first_state}
use Rattle.agent_laws.specs.History.{HasNumbers, NoneAdds, onto}
use Rattle.agent_laws.specs.Past.{DidAdd, DidLock, DidNothing, DidRemove, DidRemoveAll, DidUnlock, DidUse, Done, PastAddition, added_by, done_of, last_addition, used_again}
use Rattle.agent_laws.specs.Purposes.{IsPutFor}
use Rattle.agent_laws.proofs.ConsequenceLemmas.{claimed}
use Rattle.agent_laws.proofs.PastLemmas.{onto-append}

-- ---- an addition stands until the key is added again

-- it is this addition, where it is there
abbrev Of : Addition → Option PastAddition → Type 0
Of addition last = IfSome last (λ past. past.addition ≡ addition)

of_used : (addition : Addition) (last : Option PastAddition) → Of addition last → Of addition (option_map used_again last)
of_used addition None is = tt
of_used addition (Some past) is = is

of_either : (addition : Addition) (test : Bool) (here there : Option PastAddition) → Of addition here → Of addition there
    → Of addition (cond test here there)
of_either addition true here there is_here is_there = is_here
of_either addition false here there is_here is_there = is_there

of_done : (addition : Addition) (done : Done) (blob : List ℕ) (second number : ℕ) (last : Option PastAddition)
    → ((other : Addition) → done ≡ DidAdd other → other.key.blob ≢ blob) → Of addition last
    → Of addition (added_by done blob second number last)
of_done addition DidNothing blob second number last other is = is
of_done addition (DidAdd more) blob second number last other is = by_test (bytes_eq more.key.blob blob) refl
  where
    by_test : (same : Bool) → bytes_eq more.key.blob blob ≡ same
        → Of addition (cond same (Some (let past : PastAddition = record { number = number; second = second; addition = more; uses = 0 } in past)) last)
    by_test true same = absurd (other more refl ((bytes_eq-Decides more.key.blob blob).0 same))
    by_test false same = is
of_done addition (DidRemove removed) blob second number last other is = of_either addition (bytes_eq removed blob) None last tt is
of_done addition DidRemoveAll blob second number last other is = tt
of_done addition DidLock blob second number last other is = is
of_done addition DidUnlock blob second number last other is = is
of_done addition (DidUse used) blob second number last other is =
    of_either addition (bytes_eq used blob) (option_map used_again last) last (of_used addition last is) is

stays : (addition : Addition) (blob : List ℕ) (past between : List Stamped) → Of addition (last_addition blob past)
    → NoneAdds blob between → Of addition (last_addition blob (onto past between))
stays addition blob past [] is adds = is
stays addition blob past (one ∷ between) is adds =
    stays addition blob (one ∷ past) between (of_done addition (done_of one.action) blob one.moment.mono _ (last_addition blob past) adds.0 is) adds.1

just_added : (addition : Addition) (done : Done) (blob : List ℕ) (second number : ℕ) (last : Option PastAddition)
    → done ≡ DidAdd addition → addition.key.blob ≡ blob → Of addition (added_by done blob second number last)
just_added addition done blob second number last did its =
    let same : bytes_eq addition.key.blob blob ≡ true = (bytes_eq-Decides addition.key.blob blob).1 its in
    let now : added_by done blob second number last ≡ Some (let past : PastAddition = record { number = number; second = second; addition = addition; uses = 0 } in past) =
    ap (λ d. added_by d blob second number last) did ∙ ap (λ b. cond b (Some (let past : PastAddition = record { number = number; second = second; addition = addition; uses = 0 } in past)) last) same in
    subst (Of addition) (sym now) refl

-- ---- what is put is for one of its purposes

given_suit : (purposes : List Purpose) (signing : Signing) → purposes ≢ []
    → let_sign purposes signing.message signing.blob signing.flags ≡ true → suit purposes signing.message signing.blob signing.flags ≡ true
given_suit [] signing some lets = absurd (some refl)
given_suit (purpose ∷ purposes) signing some lets = lets

put-suits : (purposes : List Purpose) (signing : Signing) (settings : Settings) (events : List Timed)
    → HasNumbers (run (first_state settings) events) → IsPutFor purposes signing settings events
    → suit purposes signing.message signing.blob signing.flags ≡ true
put-suits purposes signing settings events numbers is =
    let whole : List Stamped = is.before ++ is.one ∷ is.between in
    let by = claimed whole is.port signing settings events numbers is.put in
    let added : PastAddition = by.met.added in
    let last : last_addition signing.blob (onto [] whole) ≡ Some added = ap (λ (s : Signing). last_addition s.blob (onto [] whole)) (sym by.what) ∙ by.met.last in
    let start : Of is.addition (last_addition signing.blob (is.one ∷ onto [] is.before)) =
    just_added is.addition (done_of is.one.action) signing.blob is.one.moment.mono _ (last_addition signing.blob (onto [] is.before)) is.did is.its in
    let behind : Of is.addition (last_addition signing.blob (onto [] whole)) =
    subst (λ past. Of is.addition (last_addition signing.blob past)) (sym (onto-append [] is.before (is.one ∷ is.between)))
    (stays is.addition signing.blob (is.one ∷ onto [] is.before) is.between start is.alone) in
    let same : added.addition ≡ is.addition = subst (Of is.addition) last behind in
    let lets : let_sign purposes signing.message signing.blob signing.flags ≡ true =
    ap (λ (all : List Purpose). let_sign all signing.message signing.blob signing.flags) (sym is.given)
    ∙ ap (λ (a : Addition). let_sign a.terms.purposes signing.message signing.blob signing.flags) (sym same)
    ∙ ap (λ (s : Signing). let_sign added.addition.terms.purposes s.message s.blob s.flags) (sym by.what)
    ∙ by.met.suits in
    given_suit purposes signing is.some lets

-- both parts of what suits
suit_parts : (purposes : List Purpose) (signing : Signing) → suit purposes signing.message signing.blob signing.flags ≡ true
    → (not (is_by_sha1 signing.blob signing.flags) ≡ true) × (are_for purposes signing.message signing.blob ≡ true)
suit_parts purposes signing suits =
    and_parts (not (is_by_sha1 signing.blob signing.flags)) (are_for purposes signing.message signing.blob) suits

-- what is put isn't signed by SHA-1
pub put-hashed : (purposes : List Purpose) (signing : Signing) (settings : Settings) (events : List Timed)
    → HasNumbers (run (first_state settings) events) → IsPutFor purposes signing settings events
    → is_by_sha1 signing.blob signing.flags ≡ false
put-hashed purposes signing settings events numbers is =
    not-true (is_by_sha1 signing.blob signing.flags) (suit_parts purposes signing (put-suits purposes signing settings events numbers is)).0

-- ---- and for none of the others

module _ (message blob : List ℕ) (bytes : IsBytes message) (blob_bytes : IsBytes blob) (short : length message < 2 ^ 30) where
  -- the message is for one narrow purpose
  alone : (one other : Purpose) → IsNarrow one → IsNarrow other → IsFor one message blob → IsFor other message blob → one ≡ other
  alone = one_purpose message blob bytes blob_bytes short

  apart_login : (purpose : Purpose) → purpose ≢ Login → IsFor purpose message blob → IsForLogin message blob → ⊥
  apart_login Login other is login = absurd (other refl)
  apart_login (Namespace namespace) other is login =
      let same : Login ≡ Namespace namespace = alone Login (Namespace namespace) tt tt login is in
      absurd cc
  apart_login AnyNamespace other is login =
      let named : IsForNamespace is.file.namespace message = record { file = is.file; signed = is.signed; same = refl } in
      let same : Login ≡ Namespace is.file.namespace = alone Login (Namespace is.file.namespace) tt tt login named in
      absurd cc
  apart_login Certificate other is login = is.no_login login
  apart_login Other other is login = is.no_login login

  pub no_login_among : (purposes : List Purpose) → All (λ purpose. purpose ≢ Login) purposes
      → IsForOne purposes message blob → IsForLogin message blob → ⊥
  no_login_among [] others is login = absurd is
  no_login_among (purpose ∷ purposes) others (inl is) login =
      apart_login purpose (All-head (λ p. p ≢ Login) purpose purposes others) is login
  no_login_among (purpose ∷ purposes) others (inr is) login =
      no_login_among purposes (All-tail (λ p. p ≢ Login) purpose purposes others) is login

  -- it isn't for files of this namespace
  abbrev IsElse : List ℕ → Purpose → Type 0
  IsElse namespace purpose = (purpose ≢ Namespace namespace) × (purpose ≢ AnyNamespace)

  apart_namespace : (namespace : List ℕ) (purpose : Purpose) → IsElse namespace purpose
      → IsFor purpose message blob → IsForNamespace namespace message → ⊥
  apart_namespace namespace Login other is file =
      let same : Login ≡ Namespace namespace = alone Login (Namespace namespace) tt tt is file in
      absurd cc
  apart_namespace namespace (Namespace named) other is file =
      absurd (other.0 (alone (Namespace named) (Namespace namespace) tt tt is file))
  apart_namespace namespace AnyNamespace other is file = absurd (other.1 refl)
  apart_namespace namespace Certificate other is file = is.no_file record { file = file.file; signed = file.signed }
  apart_namespace namespace Other other is file = is.no_file record { file = file.file; signed = file.signed }

  pub no_namespace_among : (namespace : List ℕ) (purposes : List Purpose) → All (IsElse namespace) purposes
      → IsForOne purposes message blob → IsForNamespace namespace message → ⊥
  no_namespace_among namespace [] others is file = absurd is
  no_namespace_among namespace (purpose ∷ purposes) others (inl is) file =
      apart_namespace namespace purpose (All-head (IsElse namespace) purpose purposes others) is file
  no_namespace_among namespace (purpose ∷ purposes) others (inr is) file =
      no_namespace_among namespace purposes (All-tail (IsElse namespace) purpose purposes others) is file

-- what is put, by the grammars
pub put-is_for : (purposes : List Purpose) (signing : Signing) (settings : Settings) (events : List Timed)
    → HasNumbers (run (first_state settings) events) → IsPutFor purposes signing settings events
    → IsBytes signing.message → IsBytes signing.blob → length signing.message < 2 ^ 30 → IsForOne purposes signing.message signing.blob
put-is_for purposes signing settings events numbers is bytes blob_bytes short =
    (one_is signing.message signing.blob bytes blob_bytes short purposes).0
    (suit_parts purposes signing (put-suits purposes signing settings events numbers is)).1
