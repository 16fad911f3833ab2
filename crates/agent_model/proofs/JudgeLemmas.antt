-- Bindings that are verified, where ports change and asks are answered.
use Rattle.std.proofs.Common.{◌≡◌, ◌≢◌, ℕ, List, [], ◌∷◌, ◌++◌, refl, ap, arith, sym, subst, ◌∙◌, ◌==◌, Option, Some, None, IsSome, IsOk, Bool, true, false, cond, is_some, inl, inr}
use Rattle.std.specs.Str.{bytes_eq}
use Rattle.std.proofs.lemmas.Bool.{cases_eq}
use Rattle.std.proofs.lemmas.Bool.Decides.{nat_tests}
use Rattle.std.proofs.lemmas.List.Elements.{All-nil}
use Rattle.std.proofs.lemmas.Slice.Eq.{bytes_eq-Decides}
use Rattle.std.proofs.lemmas.List.Folds.{find-append}
use Rattle.std.specs.Option.{option_or}
use Rattle.lists.specs.Keyed.{has_key}
use Rattle.key_blob.specs.PublicKeys.{public_key_of}
use Rattle.dest_rule.specs.Chains.{IsChain, bound, find_session, is_open, judge, judge_known, judge_open, newest}
use Rattle.dest_rule.specs.declared.binding.Binding.{Binding}
use Rattle.dest_rule.specs.declared.fault.Next.TheVariants.{New, Refuse, Same}
use Rattle.dest_rule.specs.declared.fault.ChainFault.TheVariants.{ChainFull, SessionLength}
use Rattle.dest_rule.proofs.ChainLemmas.{IsChain-bound, known_judged}
use Rattle.helper_link.specs.Answered.{IsUnanswered}
use Rattle.helper_link.specs.HelperLink.{ask_of}
use Rattle.helper_link.specs.Settling.{find_ask, remove_ask}
use Rattle.helper_link.specs.Sound.{RiseTo}
use Rattle.helper_link.specs.declared.ask.Ask.{Ask}
use Rattle.helper_link.specs.declared.ask.AskKind.{AskKind}
use Rattle.lists.proofs.KeyedLemmas.{differ, find_by-remove_apart}
use Rattle.helper_link.proofs.OrderLemmas.{find-remove}
use Rattle.agent_model.specs.Answers.{chain_with, find_verification, remove_verification}
use Rattle.agent_model.specs.Bindings.{bound_once}
use Rattle.agent_model.specs.Sound.{AreApart, AreChains, AreJudged, AreNoted, AreTied, IsRight, IsRising, judged}
use Rattle.agent_model.specs.State.{Port, Verification, change_port, find_port, remove_port}
use Rattle.agent_model.proofs.PortsLemmas.{find_port-left}
use Rattle.agent_model.proofs.TieLemmas.{IsOf, apart, found_after, here, one_ask}

-- ---- lists of verifications

-- what comes first is found
pub find_verification-append : (ask : ℕ) (some more : List Verification)
    → find_verification ask (some ++ more) ≡ option_or (find_verification ask some) (find_verification ask more)
find_verification-append ask some more = find-append (has_key (λ (one : Verification). one.ask) ask) some more

-- the removal of another leaves one
pub find_verification-apart : (ask other : ℕ) (all : List Verification) → other ≢ ask
    → find_verification ask (remove_verification other all) ≡ find_verification ask all
find_verification-apart ask other all differs =
    find_by-remove_apart (λ (one : Verification). one.ask) ask other all (λ is. differs (sym is))

-- one that is found after a removal was there
pub found_before : (ask other : ℕ) (all : List Verification) (one : Verification)
    → find_verification ask (remove_verification other all) ≡ Some one
    → IsSome (find_verification ask all)
found_before ask other [] one found = absurd (cc)
found_before ask other (first ∷ all) one found = by_tests (first.ask == ask) (first.ask == other) refl (found_before ask other all one) found
  where
    by_tests : (same gone : Bool) → (first.ask == ask) ≡ same
        → (find_verification ask (remove_verification other all) ≡ Some one → IsSome (find_verification ask all))
        → find_verification ask (cond gone all (first ∷ remove_verification other all)) ≡ Some one
        → IsSome (cond same (Some first) (find_verification ask all))
    by_tests true gone is later there = refl
    by_tests false true is later there = subst IsSome (sym there) refl
    by_tests false false is later there =
        later (sym (ap (λ b. cond b (Some first) (find_verification ask (remove_verification other all))) is) ∙ there)

-- ---- chains of bindings

-- a session that is in no chain is in none with another binding at its end
absent_behind : (session : List ℕ) (chain : List Binding) (binding : Binding)
    → find_session session chain ≡ None → bytes_eq binding.session session ≡ false
    → find_session session (bound binding chain) ≡ None
absent_behind session [] binding none other = ap (λ b. cond b (Some binding) None) other
absent_behind session (first ∷ chain) binding none other =
    let later = absent_behind session chain binding in
    grind (arith, nat_tests)

-- texts differ whichever comes first
other_way : (a b : List ℕ) (same : Bool) → bytes_eq b a ≡ same → bytes_eq a b ≡ false
    → bytes_eq b a ≡ false
other_way a b false is differs = is
other_way a b true is differs =
    let equal : bytes_eq a b ≡ true = (bytes_eq-Decides a b).1 (sym ((bytes_eq-Decides b a).0 is)) in
    absurd (cc)

-- a binding of a session that isn't there leaves each session its own
pub AreApart-bound : (binding : Binding) (chain : List Binding)
    → find_session binding.session chain ≡ None → AreApart chain → AreApart (bound binding chain)
AreApart-bound binding [] none all = (refl, tt)
AreApart-bound binding (first ∷ chain) none all = by_test (bytes_eq first.session binding.session) refl none (λ nowhere. AreApart-bound binding chain nowhere all.1)
  where
    by_test : (same : Bool) → bytes_eq first.session binding.session ≡ same
        → cond same (Some first) (find_session binding.session chain) ≡ None
        → (find_session binding.session chain ≡ None → AreApart (bound binding chain))
        → AreApart (first ∷ bound binding chain)
    by_test true is nowhere later = absurd (cc)
    by_test false is nowhere later =
        (absent_behind first.session chain binding all.0 (other_way first.session binding.session _ refl is), later nowhere)

-- no binding
pub no_bindings : IsChain [] × AreApart []
no_bindings = (record { few = omega arith; small = omega arith; named = omega arith; keys = All-nil (λ binding. IsOk (public_key_of binding.host_key)) }, tt)

-- a binding that is new has a session that isn't there
pub new_is_unknown : (host_key session : List ℕ) (chain : List Binding)
    → judge host_key session chain ≡ New → find_session session chain ≡ None
new_is_unknown host_key session chain new = by_found (find_session session chain) refl
  where
    by_found : (found : Option Binding) → find_session session chain ≡ found
        → find_session session chain ≡ None
    by_found None is = is
    by_found (Some known) is = absurd (known_judged host_key session chain known is new)

-- and one that is the same has one that is
known_if_same : (host_key : List ℕ) (chain : List Binding) (known : Option Binding)
    → judge_known host_key chain known ≡ Same → is_some known ≡ true
known_if_same host_key chain (Some known) same = refl
known_if_same host_key chain None same = absurd (by_room _ same)
  where
    by_room : (room : Bool) → cond room New (Refuse ChainFull) ≡ Same → ⊥
    by_room true is = absurd (cc)
    by_room false is = absurd (cc)

same_if_open : (more : Bool) (host_key session : List ℕ) (chain : List Binding)
    → judge_open more host_key session chain ≡ Same → is_some (find_session session chain) ≡ true
same_if_open true host_key session chain same =
    known_if_same host_key chain (find_session session chain) same
same_if_open false host_key session chain same = absurd (cc)

same_if_session : (fits : Bool) (host_key session : List ℕ) (chain : List Binding)
    → cond fits (judge_open (is_open (newest chain)) host_key session chain) (Refuse SessionLength) ≡ Same
    → is_some (find_session session chain) ≡ true
same_if_session true host_key session chain same = same_if_open _ host_key session chain same
same_if_session false host_key session chain same = absurd (cc)

pub same_is_known : (host_key session : List ℕ) (chain : List Binding)
    → judge host_key session chain ≡ Same → is_some (find_session session chain) ≡ true
unfolding judge
same_is_known host_key session chain same = same_if_session _ host_key session chain same

-- what is added for a verification is what is added once
pub chain_with-once : (one : Verification) (chain : List Binding)
    → judge one.binding.host_key one.binding.session chain ≡ judged one.is_new
    → chain_with one.is_new one.binding chain ≡ bound_once one.binding chain
chain_with-once one chain is = by_new one.is_new is
  where
    by_new : (is_new : Bool) → judge one.binding.host_key one.binding.session chain ≡ judged is_new
        → chain_with is_new one.binding chain ≡ bound_once one.binding chain
    by_new true is = ap (λ found. cond (is_some found) chain (bound one.binding chain)) (sym (new_is_unknown one.binding.host_key one.binding.session chain is))
    by_new false is = ap (λ b. cond b chain (bound one.binding chain)) (sym (same_is_known one.binding.host_key one.binding.session chain is))

-- and leaves a chain one
pub chain_with-sound : (one : Verification) (chain : List Binding) → IsRight one chain
    → IsChain chain × AreApart chain
    → IsChain (chain_with one.is_new one.binding chain) × AreApart (chain_with one.is_new one.binding chain)
chain_with-sound one chain by sound = by_new one.is_new by.as_noted
  where
    by_new : (is_new : Bool) → judge one.binding.host_key one.binding.session chain ≡ judged is_new
        → IsChain (chain_with is_new one.binding chain) × AreApart (chain_with is_new one.binding chain)
    by_new true new = (IsChain-bound chain one.binding sound.0 new by.key, AreApart-bound one.binding chain (new_is_unknown one.binding.host_key one.binding.session chain new) sound.1)
    by_new false same = sound

-- ---- ports that keep their chains

-- each port that is open was, with the bindings that it has
abbrev pub KeepsChains : List Port → List Port → Type 0
KeepsChains old new = (number : ℕ) (port : Port) → find_port number new ≡ Some port → (was : Port) × (find_port number old ≡ Some was) × (port.chain ≡ was.chain)

pub keeps-same : (ports : List Port) → KeepsChains ports ports
keeps-same ports number port found = (port, found, refl)

pub keeps-changed : (at : ℕ) (f : Port → Port) (ports : List Port)
    → ((p : Port) → (f p).number ≡ p.number) → ((p : Port) → (f p).chain ≡ p.chain)
    → KeepsChains ports (change_port at f ports)
keeps-changed at f ports number chain n port found = by_port (found_after n at f ports port number found)
  where
    by_port : IsOf n at f ports port
        → (was : Port) × (find_port n ports ≡ Some was) × (port.chain ≡ was.chain)
    by_port (here old same was is) = (old, was, ap (λ (p : Port). p.chain) is ∙ chain old)
    by_port (apart other was) = (port, was, refl)

pub keeps-removed : (at low high : ℕ) (ports : List Port) → IsRising low high ports
    → KeepsChains ports (remove_port at ports)
keeps-removed at low high ports rising number port found =
    (port, find_port-left number at low high ports port rising found, refl)

pub keeps-in_turn : (old mid new : List Port) → KeepsChains old mid → KeepsChains mid new
    → KeepsChains old new
keeps-in_turn old mid new one two number port found =
    let after = two number port found in
    let before = one number after.0 after.1 in
    (before.0, before.1, after.2 ∙ before.2)

-- a port that wasn't open isn't
pub keeps-absent : (old new : List Port) (number : ℕ) → KeepsChains old new
    → find_port number old ≡ None → find_port number new ≡ None
keeps-absent old new number keeps none = by_found (find_port number new) refl
  where
    by_found : (found : Option Port) → find_port number new ≡ found → find_port number new ≡ None
    by_found None is = is
    by_found (Some port) is =
        let was = keeps number port is in
        let no : None ≡ Some was.0 = sym none ∙ was.1 in
        absurd (cc)

-- what was judged stands there
pub judged-keeps : (old new : List Port) (verifications : List Verification) (asks : List Ask)
    → KeepsChains old new → AreJudged old verifications asks → AreJudged new verifications asks
judged-keeps old new verifications asks keeps all ask what one port noted there found =
    let was = keeps what.asker port found in
    subst (IsRight one) (sym was.2) (all ask what one was.0 noted there was.1)

pub chains-keep : (old new : List Port) → KeepsChains old new → AreChains old → AreChains new
chains-keep old new keeps all number port found =
    let was = keeps number port found in
    subst (λ chain. IsChain chain × AreApart chain) (sym was.2) (all number was.0 was.1)

-- ---- an ask is answered

module _ (low last : ℕ) (asks : List Ask) (rise : RiseTo low asks last) (ask : ℕ) where
  -- whatever is unanswered yet was, and it is another ask
  pub left_asks : (other : ℕ) (what : Ask) → find_ask other (remove_ask ask asks) ≡ Some what
      → (ask ≢ other) × (find_ask other asks ≡ Some what)
  left_asks other what there = elim (cases_eq ask other) [
    | inl same ↦
        (let gone : (ask == other) ≡ true = grind (arith, nat_tests) in
        let none : None ≡ Some what = sym (ap (λ b. cond b None (find_ask other asks)) gone) ∙ sym (find-remove other ask low asks last rise) ∙ there in
        absurd (cc))
    | inr differs ↦
        (differs, sym (ap (λ b. cond b None (find_ask other asks)) (differ ask other differs)) ∙ sym (find-remove other ask low asks last rise) ∙ there)
  ]

  -- what was judged of the others stands, as their askers aren't told
  pub judged-told : (ports : List Port) (verifications : List Verification) (asker : ℕ) (kind : AskKind) (f : Port → Port)
      → AreTied ports asks → IsUnanswered ask asker kind asks
      → ((p : Port) → (f p).number ≡ p.number) → AreJudged ports verifications asks
      → AreJudged (change_port asker f ports) (remove_verification ask verifications) (remove_ask ask asks)
  judged-told ports verifications asker kind f tied found keeps all other what one port noted there opened =
      by_port (left_asks other what there) (found_after what.asker asker f ports port keeps opened)
    where
      by_port : (ask ≢ other) × (find_ask other asks ≡ Some what)
          → IsOf what.asker asker f ports port → IsRight one port.chain
      by_port left (here old same was is) =
          absurd (left.0 (sym (one_ask ports asks tied other ask what (ask_of ask asker kind found.blob found.put_at found.size) old left.1 found.found same was)))
      by_port left (apart differs was) =
          all other what one port (sym (find_verification-apart other ask verifications left.0) ∙ noted) left.1 was

  -- and they are noted
  pub noted-told : (verifications : List Verification) → AreNoted verifications asks
      → AreNoted (remove_verification ask verifications) (remove_ask ask asks)
  noted-told verifications noted other asker blob put_at size there =
      let left = left_asks other _ there in
      subst IsSome (sym (find_verification-apart other ask verifications left.0)) (noted other asker blob put_at size left.1)
