-- One answer of the helper, and the bindings of its asker.
use Rattle.std.proofs.Common.{◌≡◌, ◌≢◌, ℕ, [], ◌++◌, refl, ap, sym, ◌∙◌, Option, Some, None}
use Rattle.std.specs.Option.{option_map}
use Rattle.agent_msg.specs.Replies.{failure, success}
use Rattle.helper_link.specs.declared.answer.Answer.{Answer}
use Rattle.helper_link.specs.declared.answer.Answer.TheVariants as answer
use Rattle.helper_link.specs.declared.answer.Settled.{Settled}
use Rattle.agent_model.specs.Answers.{Answering, answer_by, answer_true, chain_with, find_verification, prove}
use Rattle.agent_model.specs.Bindings.{chain_at, chain_of}
use Rattle.agent_model.specs.State.{Nothing, Port, Verification, change_port, find_port}
use Rattle.agent_model.specs.Verdicts.{HelperRefused, Refuses, Replies, Signature, SignatureWrong, Verdict, tell}
use Rattle.agent_model.proofs.AnswerLemmas.{told_found}
use Rattle.agent_model.proofs.BindLemmas.{chain_in, chain_in-changed}
use Rattle.agent_model.proofs.FateLemmas.{answers_as}
use Rattle.agent_model.proofs.PortsLemmas.{find_port-apart, find_port-change_port}

-- where the signature is right the asker is bound
pub right-binds : (one : Settled) (before : Answering) (verification : Verification) (port : Port)
    → find_verification one.ask before.verifications ≡ Some verification
    → find_port one.asker before.ports ≡ Some port
    → find_port one.asker (answer_by answer.True one before).ports ≡ Some (record port { chain = chain_with verification.is_new verification.binding port.chain; owed = port.owed ++ success; waits = Nothing })
right-binds one before verification port noted found =
    ap (λ o. find_port one.asker (answer_true o one before).ports) noted
    ∙ find_port-change_port one.asker (prove verification) before.ports (λ p. refl)
    ∙ ap (option_map (prove verification)) found

-- where it is wrong it is told so
pub wrong-told : (one : Settled) (before : Answering) (port : Port)
    → find_port one.asker before.ports ≡ Some port
    → find_port one.asker (answer_by answer.False one before).ports ≡ Some (record port { owed = port.owed ++ failure; waits = Nothing })
wrong-told one before port found =
    told_found one.asker (Refuses SignatureWrong) before.ports port found

chains_as : (found : Option Port) → chain_of found ≡ chain_in [] found
chains_as None = refl
chains_as (Some port) = refl

-- the bindings of a port that is told something are those that it had
told-keeps : (number asker : ℕ) (verdict : Verdict) (before : Answering)
    → chain_at number (change_port asker (tell verdict) before.ports) ≡ chain_at number before.ports
told-keeps number asker verdict before =
    chains_as (find_port number (change_port asker (tell verdict) before.ports))
    ∙ chain_in-changed [] number asker (tell verdict) before.ports (λ p. refl) (λ p. refl)
    ∙ sym (chains_as (find_port number before.ports))

-- so any answer but TRUE binds nobody
pub other-binds_none : (what : Answer) (one : Settled) (before : Answering) (number : ℕ)
    → what ≢ answer.True
    → chain_at number (answer_by what one before).ports ≡ chain_at number before.ports
other-binds_none (answer.Signed signature) one before number other =
    told-keeps number one.asker (Replies (Signature signature)) before
other-binds_none answer.Refused one before number other =
    told-keeps number one.asker (Refuses HelperRefused) before
other-binds_none answer.True one before number other = absurd (other refl)
other-binds_none answer.False one before number other =
    told-keeps number one.asker (Refuses SignatureWrong) before

-- and no answer touches another port
pub others-told : (what : Answer) (one : Settled) (before : Answering) (number : ℕ)
    → number ≢ one.asker
    → find_port number (answer_by what one before).ports ≡ find_port number before.ports
others-told what one before number other =
    let told_as = answers_as what one before in
    ap (find_port number) told_as.ports ∙ find_port-apart number one.asker told_as.change before.ports told_as.number other
