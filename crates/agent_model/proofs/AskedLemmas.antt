-- Bindings that are verified, where one more ask is put.
use Rattle.std.proofs.Common.{◌≡◌, ℕ, ◌+◌, List, [], ◌∷◌, ◌++◌, refl, ap, arith, sym, subst, ◌∙◌, ◌==◌, ◌⊎◌, Option, Some, None, IsSome, Bool, true, false, cond, inl, inr}
use Rattle.std.proofs.lemmas.Bool.Decides.{nat_tests}
use Rattle.std.specs.Option.{option_or}
use Rattle.agent_msg.specs.Requests.{BindRequest}
use Rattle.helper_link.specs.HelperLink.{ask_of}
use Rattle.helper_link.specs.Settling.{find_ask}
use Rattle.helper_link.specs.Sound.{RiseTo}
use Rattle.helper_link.specs.declared.ask.Ask.{Ask}
use Rattle.helper_link.specs.declared.ask.AskKind.TheVariants as kinds
use Rattle.helper_link.proofs.OrderLemmas.{find-push}
use Rattle.agent_model.specs.Answers.{find_verification}
use Rattle.agent_model.specs.Dispatch.{Asker}
use Rattle.agent_model.specs.Errands.{Errand, Signs, Verifies, binding_of, blob_of, kind_of, noted_verification}
use Rattle.agent_model.specs.Sound.{AreJudged, AreNoted, IsRight}
use Rattle.agent_model.specs.State.{Port, Verification, find_port}
use Rattle.agent_model.proofs.BindLemmas.{AreGiven}
use Rattle.agent_model.proofs.JudgeLemmas.{KeepsChains, find_verification-append}
use Rattle.agent_model.proofs.ServeLemmas.{MayPut}
use Rattle.agent_model.proofs.SizeLemmas.{size_of}

-- the verification of a request to bind
abbrev one_for : BindRequest → Bool → ℕ → Verification
one_for bind is_new number = record { ask = number; binding = binding_of bind; is_new = is_new }

module _ (asker : Asker) (errand : Errand) (last : ℕ) where
  -- what is noted of the new ask has its number, and is judged by the asker's chain
  of_new : (errand : Errand) (ask : ℕ) (one : Verification) → MayPut asker errand
      → find_verification ask (noted_verification errand (last + 1)) ≡ Some one
      → (ask ≡ last + 1) × IsRight one asker.chain
  of_new (Signs key signing) ask one right is = absurd (cc)
  of_new (Verifies bind is_new) ask one right is = by_test (last + 1 == ask) refl is
    where
      by_test : (same : Bool) → (last + 1 == ask) ≡ same
          → cond same (Some (one_for bind is_new (last + 1))) None ≡ Some one
          → (ask ≡ last + 1) × IsRight one asker.chain
      by_test true test some =
          let numbered : ask ≡ last + 1 = grind (arith, nat_tests) in
          let this : one_for bind is_new (last + 1) ≡ one = cc in
          (numbered, subst (λ v. IsRight v asker.chain) this record { as_noted = right.1; key = right.0 })
      by_test false test some = absurd (cc)

  -- an ask to verify has its binding noted
  noted_new : (errand : Errand) → kind_of errand ≡ kinds.Verifying
      → IsSome (find_verification (last + 1) (noted_verification errand (last + 1)))
  noted_new (Signs key signing) is = absurd (cc)
  noted_new (Verifies bind is_new) is =
      let test : (last + 1 == last + 1) ≡ true = grind (arith, nat_tests) in
      subst IsSome (sym (ap (λ b. cond b (Some (one_for bind is_new (last + 1))) None) test)) refl

  module _ (second : ℕ) (asks : List Ask) (verifications : List Verification) (rise : RiseTo 0 asks last) where
    -- the new ask
    abbrev new : Ask
    new = ask_of (last + 1) asker.port (kind_of errand) (blob_of errand) second (size_of errand (last + 1))

    abbrev noted : List Verification
    noted = noted_verification errand (last + 1)

    pushed : (ask : ℕ)
        → find_ask ask (asks ++ new ∷ []) ≡ cond (last + 1 == ask) (Some new) (find_ask ask asks)
    pushed ask = find-push ask 0 new asks last rise (omega arith)

    -- what is noted was, or is new
    split : (ask : ℕ) (one : Verification) → MayPut asker errand
        → find_verification ask (verifications ++ noted) ≡ Some one
        → (find_verification ask verifications ≡ Some one) ⊎ ((ask ≡ last + 1) × IsRight one asker.chain)
    split ask one right is = by_found (find_verification ask verifications) refl (sym (find_verification-append ask verifications noted) ∙ is)
      where
        by_found : (was : Option Verification) → find_verification ask verifications ≡ was
            → option_or was (find_verification ask noted) ≡ Some one
            → (find_verification ask verifications ≡ Some one) ⊎ ((ask ≡ last + 1) × IsRight one asker.chain)
        by_found None was some = inr (of_new errand ask one right some)
        by_found (Some first) was some = inl (was ∙ some)

    -- what was judged stands, and the new one is judged
    pub judged-asked : (old after : List Port) (port : Port) → KeepsChains old after
        → AreJudged old verifications asks → AreGiven verifications last → MayPut asker errand
        → find_port asker.port old ≡ Some port → port.chain ≡ asker.chain
        → AreJudged after (verifications ++ noted) (asks ++ new ∷ [])
    judged-asked old after port keeps judged given right found chain ask what one at noted_one there opened =
        by_test (last + 1 == ask) refl (sym (pushed ask) ∙ there) (split ask one right noted_one)
      where
        was : (was : Port) × (find_port what.asker old ≡ Some was) × (at.chain ≡ was.chain)
        was = keeps what.asker at opened

        by_test : (same : Bool) → (last + 1 == ask) ≡ same
            → cond same (Some new) (find_ask ask asks) ≡ Some what
            → (find_verification ask verifications ≡ Some one) ⊎ ((ask ≡ last + 1) × IsRight one asker.chain)
            → IsRight one at.chain
        by_test true test is (inl noted_before) =
            let numbered : last + 1 ≡ ask = grind (arith, nat_tests) in
            absurd (omega (arith, numbered, given ask one noted_before))
        by_test true test is (inr by) =
            let this : new ≡ what = cc in
            let who : asker.port ≡ what.asker = ap (λ (a : Ask). a.asker) this in
            let same_port : Some port ≡ Some was.0 = sym found ∙ ap (λ n. find_port n old) who ∙ was.1 in
            let equal : port ≡ was.0 = cc in
            let chains : asker.chain ≡ at.chain = sym chain ∙ ap (λ (p : Port). p.chain) equal ∙ sym was.2 in
            subst (IsRight one) chains by.1
        by_test false test is (inl noted_before) =
            subst (IsRight one) (sym was.2) (judged ask what one was.0 noted_before is was.1)
        by_test false test is (inr by) =
            let equal : (last + 1 == ask) ≡ true = grind (arith, nat_tests, by.0) in
            absurd (cc)

    -- each ask to verify has its binding
    pub noted-asked : AreNoted verifications asks
        → AreNoted (verifications ++ noted) (asks ++ new ∷ [])
    noted-asked noted_before ask who blob put_at size there = by_test (last + 1 == ask) refl (sym (pushed ask) ∙ there)
      where
        some_of : (first later : Option Verification) → IsSome first
            → IsSome (option_or first later)
        some_of None later some = absurd (cc)
        some_of (Some one) later some = refl

        some_behind : (first later : Option Verification) → IsSome later
            → IsSome (option_or first later)
        some_behind None later some = some
        some_behind (Some one) later some = refl

        by_test : (same : Bool) → (last + 1 == ask) ≡ same
            → cond same (Some new) (find_ask ask asks) ≡ Some (ask_of ask who kinds.Verifying blob put_at size)
            → IsSome (find_verification ask (verifications ++ noted))
        by_test true test is =
            let numbered : last + 1 ≡ ask = grind (arith, nat_tests) in
            let this : new ≡ ask_of ask who kinds.Verifying blob put_at size = cc in
            let kind : kind_of errand ≡ kinds.Verifying = ap (λ (a : Ask). a.kind) this in
            subst IsSome (sym (find_verification-append ask verifications noted))
            (some_behind (find_verification ask verifications) (find_verification ask noted) (subst (λ n. IsSome (find_verification n noted)) numbered (noted_new errand kind)))
        by_test false test is =
            subst IsSome (sym (find_verification-append ask verifications noted))
            (some_of (find_verification ask verifications) (find_verification ask noted) (noted_before ask who blob put_at size is))

    -- and is of an ask that was put
    pub given-asked : MayPut asker errand → AreGiven verifications last
        → AreGiven (verifications ++ noted) (last + 1)
    given-asked right given ask one is = elim (split ask one right is) [
      | inl was ↦ omega (arith, given ask one was)
      | inr new_one ↦ omega (arith, new_one.0)
    ]
