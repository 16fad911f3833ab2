-- What is verified stays judged as it was, while ports change and others are answered.
use Rattle.std.proofs.Common.{◌≡◌, ◌≢◌, ℕ, List, [], ◌∷◌, refl, ap, arith, sym, subst, ◌∙◌, ◌==◌, Option, Some, None, true, cond, inl, inr}
use Rattle.std.proofs.lemmas.Bool.{cases_eq}
use Rattle.std.proofs.lemmas.Bool.Decides.{nat_tests}
use Rattle.helper_link.specs.Answered.{IsUnanswered, LeadTo, kind_answered}
use Rattle.helper_link.specs.HelperLink.{ask_of}
use Rattle.helper_link.specs.Settling.{find_ask, remove_ask}
use Rattle.helper_link.specs.Sound.{RiseTo}
use Rattle.helper_link.specs.declared.answer.Answer.{Answer}
use Rattle.helper_link.specs.declared.answer.Answer.TheVariants as answer
use Rattle.helper_link.specs.declared.answer.Settled.{Settled}
use Rattle.helper_link.specs.declared.ask.Ask.{Ask}
use Rattle.helper_link.specs.declared.ask.AskKind.{AskKind}
use Rattle.lists.proofs.KeyedLemmas.{differ, find_by-remove_apart}
use Rattle.helper_link.proofs.OrderLemmas.{find-remove, remove_rises}
use Rattle.agent_model.specs.Answers.{find_verification, remove_verification}
use Rattle.agent_model.specs.Sound.{AreJudged, AreTied, IsRight}
use Rattle.agent_model.specs.State.{OnAsk, Port, Verification, change_port, find_port}
use Rattle.agent_model.proofs.TieLemmas.{IsOf, apart, found_after, here, tied-told}
use Rattle.agent_core.specs.Settlings.{AreProvable, IsProvable, answered, told_with, unanswered}
use Rattle.agent_core.proofs.HelperLemmas.{number-told_with}

-- an asker that is told its answer waits for nothing
waits-told_with : (a : Answer) (found : Option Verification) (p : Port) (ask : ℕ) → (told_with a found p).waits ≢ OnAsk ask
waits-told_with (answer.Signed signature) found p ask is = absurd (cc)
waits-told_with answer.Refused found p ask is = absurd (cc)
waits-told_with answer.True None p ask is = absurd (cc)
waits-told_with answer.True (Some verification) p ask is = absurd (cc)
waits-told_with answer.False found p ask is = absurd (cc)

-- ---- one answer

-- the verifications of the others are left
find-left : (ask gone : ℕ) (vs : List Verification) → gone ≢ ask → find_verification ask (remove_verification gone vs) ≡ find_verification ask vs
find-left ask gone vs differs = find_by-remove_apart (λ (one : Verification). one.ask) ask gone vs (λ is. differs (sym is))

module _ (low last : ℕ) where
  -- and stay judged as they were
  judged-told : (one : Settled) (kind : AskKind) (f : Port → Port) (ports : List Port) (vs : List Verification) (asks : List Ask) → ((p : Port) → (f p).number ≡ p.number) → RiseTo low asks last → IsUnanswered one.ask one.asker kind asks → AreTied ports asks → AreJudged ports vs asks → AreJudged (change_port one.asker f ports) (remove_verification one.ask vs) (remove_ask one.ask asks)
  judged-told one kind f ports vs asks keeps rise first tied judged = λ ask other v port that there found.
      elim (cases_eq one.ask ask) [
        | inl same ↦
            (let gone : (one.ask == ask) ≡ true = grind (arith, nat_tests) in
            let none : None ≡ Some other = sym (ap (λ b. cond b None (find_ask ask asks)) gone) ∙ sym (find-remove ask one.ask low asks last rise) ∙ there in
            absurd (cc))
        | inr differs ↦
            by_port ask other v port differs (sym (find-left ask one.ask vs differs) ∙ that)
            (sym (ap (λ b. cond b None (find_ask ask asks)) (differ one.ask ask differs)) ∙ sym (find-remove ask one.ask low asks last rise) ∙ there)
            (found_after other.asker one.asker f ports port keeps found)
      ]
    where
      by_port : (ask : ℕ) (other : Ask) (v : Verification) (port : Port) → one.ask ≢ ask → find_verification ask vs ≡ Some v → find_ask ask asks ≡ Some other → IsOf other.asker one.asker f ports port → IsRight v port.chain
      by_port ask other v port differs that there (apart away was) = judged ask other v port that there was
      by_port ask other v port differs that there (here old same was is) =
          let second : old.waits ≡ OnAsk ask = tied.asks ask other old there was in
          let first_waits : old.waits ≡ OnAsk one.ask = tied.asks one.ask (ask_of one.ask one.asker kind first.blob first.put_at first.size) old first.found (ap (λ n. find_port n ports) (sym same) ∙ was) in
          let equal : one.ask ≡ ask = cc in
          absurd (differs equal)

  -- what the asker verifies is, too
  provable-one : (one : Settled) (kind : AskKind) (ports : List Port) (vs : List Verification) (asks : List Ask) → IsUnanswered one.ask one.asker kind asks → AreJudged ports vs asks → IsProvable (find_verification one.ask vs) (find_port one.asker ports)
  provable-one one kind ports vs asks first judged = by_found (find_verification one.ask vs) (find_port one.asker ports) refl refl
    where
      by_found : (v : Option Verification) (p : Option Port) → find_verification one.ask vs ≡ v → find_port one.asker ports ≡ p → IsProvable v p
      by_found None p that found = tt
      by_found (Some v) None that found = tt
      by_found (Some v) (Some port) that found = judged one.ask (ask_of one.ask one.asker kind first.blob first.put_at first.size) v port that first.found found

  -- ---- answers, one after another

  pub tied-answered : (settled : List Settled) (ports : List Port) (vs : List Verification) (asks left : List Ask) → LeadTo settled asks left → RiseTo low asks last → AreTied ports asks → AreTied (answered settled vs ports) left
  tied-answered [] ports vs asks left leads rise tied = subst (AreTied ports) (sym leads) tied
  tied-answered (one ∷ later) ports vs asks left leads rise tied =
      tied-answered later _ (remove_verification one.ask vs) (remove_ask one.ask asks) left leads.1 (remove_rises one.ask low asks last rise)
      (tied-told ports asks tied one.ask one.asker (kind_answered one.answer) (told_with one.answer (find_verification one.ask vs)) low last rise leads.0 (number-told_with one.answer (find_verification one.ask vs)) (waits-told_with one.answer (find_verification one.ask vs)))

  pub judged-answered : (settled : List Settled) (ports : List Port) (vs : List Verification) (asks left : List Ask) → LeadTo settled asks left → RiseTo low asks last → AreTied ports asks → AreJudged ports vs asks → AreJudged (answered settled vs ports) (unanswered settled vs) left
  judged-answered [] ports vs asks left leads rise tied judged = subst (AreJudged ports vs) (sym leads) judged
  judged-answered (one ∷ later) ports vs asks left leads rise tied judged =
      let f : Port → Port = told_with one.answer (find_verification one.ask vs) in
      let keeps = number-told_with one.answer (find_verification one.ask vs) in
      judged-answered later (change_port one.asker f ports) (remove_verification one.ask vs) (remove_ask one.ask asks) left leads.1 (remove_rises one.ask low asks last rise)
      (tied-told ports asks tied one.ask one.asker (kind_answered one.answer) f low last rise leads.0 keeps (waits-told_with one.answer (find_verification one.ask vs)))
      (judged-told one (kind_answered one.answer) f ports vs asks keeps rise leads.0 tied judged)

  pub provable-answered : (settled : List Settled) (ports : List Port) (vs : List Verification) (asks left : List Ask) → LeadTo settled asks left → RiseTo low asks last → AreTied ports asks → AreJudged ports vs asks → AreProvable settled vs ports
  provable-answered [] ports vs asks left leads rise tied judged = tt
  provable-answered (one ∷ later) ports vs asks left leads rise tied judged =
      let f : Port → Port = told_with one.answer (find_verification one.ask vs) in
      let keeps = number-told_with one.answer (find_verification one.ask vs) in (
        provable-one one (kind_answered one.answer) ports vs asks leads.0 judged,
        provable-answered later (change_port one.asker f ports) (remove_verification one.ask vs) (remove_ask one.ask asks) left leads.1 (remove_rises one.ask low asks last rise)
            (tied-told ports asks tied one.ask one.asker (kind_answered one.answer) f low last rise leads.0 keeps (waits-told_with one.answer (find_verification one.ask vs)))
            (judged-told one (kind_answered one.answer) f ports vs asks keeps rise leads.0 tied judged),
      )

-- ---- other changes

-- a port is changed under its number and with its chain
pub judged-changed : (at : ℕ) (f : Port → Port) (ports : List Port) (vs : List Verification) (asks : List Ask) → ((p : Port) → (f p).number ≡ p.number) → ((p : Port) → (f p).chain ≡ p.chain) → AreJudged ports vs asks → AreJudged (change_port at f ports) vs asks
judged-changed at f ports vs asks keeps chain judged = λ ask one v port that there found. by_port ask one v port that there (found_after one.asker at f ports port keeps found)
  where
    by_port : (ask : ℕ) (one : Ask) (v : Verification) (port : Port) → find_verification ask vs ≡ Some v → find_ask ask asks ≡ Some one → IsOf one.asker at f ports port → IsRight v port.chain
    by_port ask one v port that there (apart away was) = judged ask one v port that there was
    by_port ask one v port that there (here old same was is) =
        subst (λ c. IsRight v c) (sym (ap (λ (p : Port). p.chain) is ∙ chain old)) (judged ask one v old that there was)
