-- What the helper's answers make of the bindings of connections.
use Rattle.std.proofs.Common.{◌≡◌, ◌≢◌, ℕ, ◌≤◌, List, [], ◌∷◌, ◌++◌, refl, ap, arith, sym, subst, ◌∙◌, ◌==◌, Option, Some, None, IsSome, true, false, inl, inr, if◌then◌else◌}
use Rattle.std.specs.Option.{option_map}
use Rattle.std.proofs.lemmas.Bool.{cases_eq}
use Rattle.std.proofs.lemmas.Bool.Decides.{nat_tests}
use Rattle.dest_rule.specs.Chains.{IsChain}
use Rattle.dest_rule.specs.declared.binding.Binding.{Binding}
use Rattle.helper_link.specs.Answered.{IsUnanswered, LeadTo, kind_answered}
use Rattle.helper_link.specs.HelperLink.{ask_of}
use Rattle.helper_link.specs.Settling.{remove_ask}
use Rattle.helper_link.specs.Sound.{RiseTo}
use Rattle.helper_link.specs.declared.answer.Answer.{Answer}
use Rattle.helper_link.specs.declared.answer.Answer.TheVariants as answer
use Rattle.helper_link.specs.declared.answer.Settled.{Settled}
use Rattle.helper_link.specs.declared.ask.Ask.{Ask}
use Rattle.helper_link.proofs.OrderLemmas.{remove_rises}
use Rattle.agent_model.specs.Actions.{Action, Answered}
use Rattle.agent_model.specs.Answers.{Answering, answer_all, answer_asker, answer_by, answer_true, find_verification, prove, proved_where_open, remove_verification}
use Rattle.agent_model.specs.Bindings.{bound_after, bound_by, bound_once}
use Rattle.agent_model.specs.Sound.{AreApart, AreChains, AreJudged, AreTied, IsRight}
use Rattle.agent_model.specs.State.{Port, Verification, change_port, find_port}
use Rattle.agent_model.specs.Verdicts.{HelperRefused, Refuses, Replies, Signature, SignatureWrong, Verdict, tell}
use Rattle.agent_model.proofs.FateLemmas.{answers_as, one_answer}
use Rattle.agent_model.proofs.JudgeLemmas.{chain_with-once, chain_with-sound, chains-keep, found_before, judged-told, keeps-changed}
use Rattle.agent_model.proofs.PortsLemmas.{find_port-apart, find_port-change_port, found_number}
use Rattle.agent_model.proofs.TieLemmas.{IsOf, apart, found_after, here}

-- actions after actions
pub bound_after-append : (number : ℕ) (some more : List Action) (chain : List Binding)
    → bound_after number (some ++ more) chain ≡ bound_after number more (bound_after number some chain)
bound_after-append number [] more chain = refl
bound_after-append number (action ∷ some) more chain =
    bound_after-append number some more (bound_by number action chain)

-- the bindings of a port, and these where it isn't open
abbrev pub chain_in : List Binding → Option Port → List Binding
chain_in chain None = chain
chain_in chain (Some port) = port.chain

chain_in-kept : (chain : List Binding) (f : Port → Port) (found : Option Port)
    → ((p : Port) → (f p).chain ≡ p.chain)
    → chain_in chain (option_map f found) ≡ chain_in chain found
chain_in-kept chain f None keeps = refl
chain_in-kept chain f (Some port) keeps = keeps port

-- a change of a port that keeps its bindings
pub chain_in-changed : (chain : List Binding) (number at : ℕ) (f : Port → Port) (ports : List Port)
    → ((p : Port) → (f p).number ≡ p.number) → ((p : Port) → (f p).chain ≡ p.chain)
    → chain_in chain (find_port number (change_port at f ports)) ≡ chain_in chain (find_port number ports)
chain_in-changed chain number at f ports numbers keeps = elim (cases_eq number at) [
  | inl same ↦
      (ap (λ n. chain_in chain (find_port number (change_port n f ports))) (sym same)
      ∙ ap (chain_in chain) (find_port-change_port number f ports numbers)
      ∙ chain_in-kept chain f (find_port number ports) keeps)
  | inr other ↦ ap (chain_in chain) (find_port-apart number at f ports numbers other)
]

-- ---- one answer

-- its asker is told, or is bound and told so
pub data AnswerIs (one : Settled) (before : Answering) : Answering → Type 0 where
  tells : (verdict : Verdict) → AnswerIs one before (answer_asker verdict one before)
  proves : (verification : Verification)
      → find_verification one.ask before.verifications ≡ Some verification
      → AnswerIs one before (answer_true (Some verification) one before)

answer_is_true : (found : Option Verification) (one : Settled) (before : Answering)
    → find_verification one.ask before.verifications ≡ found
    → AnswerIs one before (answer_true found one before)
answer_is_true None one before is = tells (Refuses SignatureWrong)
answer_is_true (Some verification) one before is = proves verification is

pub answer_is : (what : Answer) (one : Settled) (before : Answering)
    → AnswerIs one before (answer_by what one before)
answer_is (answer.Signed signature) one before = tells (Replies (Signature signature))
answer_is answer.Refused one before = tells (Refuses HelperRefused)
answer_is answer.True one before =
    answer_is_true (find_verification one.ask before.verifications) one before refl
answer_is answer.False one before = tells (Refuses SignatureWrong)

module _ (low last : ℕ) (one : Settled) (before : Answering) (asks : List Ask) (found : IsUnanswered one.ask one.asker (kind_answered one.answer) asks) (rise : RiseTo low asks last) (tied : AreTied before.ports asks) (judged : AreJudged before.ports before.verifications asks) where
  -- what was judged stands
  pub judged_answer : AreJudged (answer_by one.answer one before).ports (answer_by one.answer one before).verifications (remove_ask one.ask asks)
  judged_answer =
      let told_as = answers_as one.answer one before in
      subst (λ ports. AreJudged ports (answer_by one.answer one before).verifications (remove_ask one.ask asks)) (sym told_as.ports)
      (subst (λ all. AreJudged (change_port one.asker told_as.change before.ports) all (remove_ask one.ask asks)) (sym told_as.verifications)
      (judged-told low last asks rise one.ask before.ports before.verifications one.asker (kind_answered one.answer) told_as.change tied found told_as.number judged))

  -- the verification that is found was judged by the asker's chain
  of_asker : (verification : Verification) (port : Port)
      → find_verification one.ask before.verifications ≡ Some verification
      → find_port one.asker before.ports ≡ Some port → IsRight verification port.chain
  of_asker verification port noted there = judged one.ask (ask_of one.ask one.asker (kind_answered one.answer) found.blob found.put_at found.size) verification port noted found.found there

  chains_by : {after : Answering} → AnswerIs one before after → AreChains before.ports
      → AreChains after.ports
  chains_by (tells verdict) chains number port opened =
      chains-keep before.ports _ (keeps-changed one.asker (tell verdict) before.ports (λ p. refl) (λ p. refl)) chains number port opened
  chains_by (proves verification noted) chains number port opened = by_port (found_after number one.asker (prove verification) before.ports port (λ p. refl) opened)
    where
      by_port : IsOf number one.asker (prove verification) before.ports port
          → IsChain port.chain × AreApart port.chain
      by_port (here old same was is) =
          let by = of_asker verification old noted (ap (λ n. find_port n before.ports) (sym same) ∙ was) in
          subst (λ (p : Port). IsChain p.chain × AreApart p.chain) (sym is) (chain_with-sound verification old.chain by (chains number old was))
      by_port (apart other was) = chains number port was

  -- the bindings of every connection stay few, and each session its own
  pub chains_answer : AreChains before.ports → AreChains (answer_by one.answer one before).ports
  chains_answer chains = chains_by (answer_is one.answer one before) chains

  -- the bindings of a connection are those that the actions so far made of these
  abbrev BoundIn : List Binding → Answering → ℕ → Type 0
  BoundIn chain answering number =
      chain_in chain (find_port number answering.ports) ≡ bound_after number answering.actions chain

  bound_here : (chain : List Binding) (verification : Verification) (opened : Option Port)
      → find_verification one.ask before.verifications ≡ Some verification
      → find_port one.asker before.ports ≡ opened
      → chain_in chain opened ≡ bound_after one.asker before.actions chain
      → chain_in chain (option_map (prove verification) opened) ≡ bound_after one.asker (before.actions ++ Answered one ∷ proved_where_open opened verification) chain
  bound_here chain verification None noted is so_far =
      so_far ∙ sym (bound_after-append one.asker before.actions (Answered one ∷ []) chain)
  bound_here chain verification (Some port) noted is so_far =
      let numbered : port.number ≡ one.asker = found_number one.asker before.ports port is in
      let test : (port.number == one.asker) ≡ true = grind (arith, nat_tests) in
      let old : List Binding = bound_after one.asker before.actions chain in
      chain_with-once verification port.chain (of_asker verification port noted is).as_noted
      ∙ ap (bound_once verification.binding) so_far
      ∙ ap (λ b. if b then bound_once verification.binding old else old) (sym test)
      ∙ sym (bound_after-append one.asker before.actions (Answered one ∷ proved_where_open (Some port) verification) chain)

  bound_apart : (chain : List Binding) (verification : Verification) (number : ℕ) (opened : Option Port)
      → find_port one.asker before.ports ≡ opened → number ≢ one.asker
      → bound_after number before.actions chain ≡ bound_after number (before.actions ++ Answered one ∷ proved_where_open opened verification) chain
  bound_apart chain verification number None is other =
      sym (bound_after-append number before.actions (Answered one ∷ []) chain)
  bound_apart chain verification number (Some port) is other =
      let numbered : port.number ≡ one.asker = found_number one.asker before.ports port is in
      let test : (port.number == number) ≡ false = grind (arith, nat_tests) in
      let old : List Binding = bound_after number before.actions chain in
      ap (λ b. if b then bound_once verification.binding old else old) (sym test)
      ∙ sym (bound_after-append number before.actions (Answered one ∷ proved_where_open (Some port) verification) chain)

  bound_by_is : (chain : List Binding) (number : ℕ) {after : Answering} → AnswerIs one before after
      → BoundIn chain before number → BoundIn chain after number
  bound_by_is chain number (tells verdict) so_far =
      chain_in-changed chain number one.asker (tell verdict) before.ports (λ p. refl) (λ p. refl)
      ∙ so_far ∙ sym (bound_after-append number before.actions (Answered one ∷ []) chain)
  bound_by_is chain number (proves verification noted) so_far = elim (cases_eq number one.asker) [
    | inl same ↦
        subst (λ n. BoundIn chain before n → BoundIn chain (answer_true (Some verification) one before) n) (sym same)
        (λ here_far. ap (chain_in chain) (find_port-change_port one.asker (prove verification) before.ports (λ p. refl)) ∙ bound_here chain verification (find_port one.asker before.ports) noted refl here_far)
        so_far
    | inr other ↦
        ap (chain_in chain) (find_port-apart number one.asker (prove verification) before.ports (λ p. refl) other)
        ∙ so_far ∙ bound_apart chain verification number (find_port one.asker before.ports) refl other
  ]

  pub bound_answer : (chain : List Binding) (number : ℕ) → BoundIn chain before number
      → BoundIn chain (answer_by one.answer one before) number
  bound_answer chain number so_far =
      bound_by_is chain number (answer_is one.answer one before) so_far

-- ---- answers, one after another

-- a verification is of an ask that was put
abbrev pub AreGiven : List Verification → ℕ → Type 0
AreGiven verifications last =
    (ask : ℕ) (one : Verification) → find_verification ask verifications ≡ Some one → ask ≤ last

given_after : (ask : ℕ) (all : List Verification) (last : ℕ) → AreGiven all last
    → AreGiven (remove_verification ask all) last
given_after ask all last given other one found = by_found (find_verification other all) refl (found_before other ask all one found)
  where
    by_found : (was : Option Verification) → find_verification other all ≡ was → IsSome was
        → other ≤ last
    by_found None is some = absurd (cc)
    by_found (Some first) is some = given other first is

-- what holds between two answers
pub record HoldsAt (low last : ℕ) (answering : Answering) (asks : List Ask) : Type 0 where
  pub rise : RiseTo low asks last
  pub tied : AreTied answering.ports asks
  pub judged : AreJudged answering.ports answering.verifications asks
  pub given : AreGiven answering.verifications last
  pub chains : AreChains answering.ports

holds_answer : (low last : ℕ) (one : Settled) (before : Answering) (asks : List Ask)
    → IsUnanswered one.ask one.asker (kind_answered one.answer) asks → HoldsAt low last before asks
    → HoldsAt low last (answer_by one.answer one before) (remove_ask one.ask asks)
holds_answer low last one before asks found holds = record {
  rise = remove_rises one.ask low asks last holds.rise;
  tied = one_answer low last one before asks found holds.rise holds.tied;
  judged = judged_answer low last one before asks found holds.rise holds.tied holds.judged;
  given = subst (λ all. AreGiven all last) (sym (answers_as one.answer one before).verifications) (given_after one.ask before.verifications last holds.given);
  chains =
      chains_answer low last one before asks found holds.rise holds.tied holds.judged holds.chains;
}

pub holds_answers : (low last : ℕ) (settled : List Settled) (before : Answering) (asks left : List Ask)
    → LeadTo settled asks left → HoldsAt low last before asks
    → HoldsAt low last (answer_all settled before) left
holds_answers low last [] before asks left leads holds =
    subst (HoldsAt low last before) (sym leads) holds
holds_answers low last (one ∷ later) before asks left leads holds =
    holds_answers low last later (answer_by one.answer one before) (remove_ask one.ask asks) left leads.1 (holds_answer low last one before asks leads.0 holds)

-- the bindings of a connection are those that the answers made of these
pub bound_answers : (low last : ℕ) (settled : List Settled) (before : Answering) (asks left : List Ask) (chain : List Binding) (number : ℕ)
    → LeadTo settled asks left → HoldsAt low last before asks
    → chain_in chain (find_port number before.ports) ≡ bound_after number before.actions chain
    → chain_in chain (find_port number (answer_all settled before).ports) ≡ bound_after number (answer_all settled before).actions chain
bound_answers low last [] before asks left chain number leads holds so_far = so_far
bound_answers low last (one ∷ later) before asks left chain number leads holds so_far =
    bound_answers low last later (answer_by one.answer one before) (remove_ask one.ask asks) left chain number leads.1 (holds_answer low last one before asks leads.0 holds)
    (bound_answer low last one before asks leads.0 holds.rise holds.tied holds.judged chain number so_far)
