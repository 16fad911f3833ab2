-- A key that is to be confirmed signs behind the user's consent.
use Rattle.std.proofs.Common.{◌≡◌, ℕ, List, [], ◌∷◌, refl, ap, arith, sym, ◌∙◌, Option, Some, None, true, false, not, ◌==◌, Result, Ok, Err}
use Rattle.std.proofs.lemmas.Bool.Decides.{nat_tests}
use Rattle.agent_msg.specs.declared.fault.MsgFault.{MsgFault}
use Rattle.agent_msg.specs.Requests.{ClientRequest, Signing, ListIdentities, Sign, Add, Remove, RemoveAll, Lock, Unlock, Bind, OtherExtension, Unsupported}
use Rattle.agent_model.specs.Actions.{Action, Answered, Asked, Granted, Lost, Over, Proved, Raised, Raising, Requested}
use Rattle.agent_model.specs.Binds.{agent_request_of}
use Rattle.agent_model.specs.Events.{Timed}
use Rattle.agent_model.specs.Runs.{Stamped, run}
use Rattle.agent_model.specs.State.{Settings, first_state}
use Rattle.agent_laws.specs.Dues.{Claim, claim_of, claim_of_request, is_consented, raised_at}
use Rattle.agent_laws.specs.History.{HasNumbers, IsConsented, IsPutBehind, onto}
use Rattle.agent_laws.specs.Past.{PastAddition, last_addition}
use Rattle.agent_laws.proofs.ConsequenceLemmas.{claimed}
use Rattle.std.specs.Option.{option_map}
use Rattle.agent_laws.proofs.GrantedLemmas.{claimed_by}

-- a request claims no addition
no_addition : (read : Result ClientRequest MsgFault) (port : ℕ) (claim : Claim)
    → claim_of_request read port ≡ Some claim → claim.addition ≡ None
no_addition (Err fault) port claim is = absurd (cc)
no_addition (Ok ListIdentities) port claim is = absurd (cc)
no_addition (Ok (Sign signing)) port claim is =
    let one : Claim = record { port = port; addition = None; signing = signing } in
    let same : one ≡ claim = cc in
    ap (λ (c : Claim). c.addition) (sym same)
no_addition (Ok (Add addition)) port claim is = absurd (cc)
no_addition (Ok (Remove blob)) port claim is = absurd (cc)
no_addition (Ok RemoveAll) port claim is = absurd (cc)
no_addition (Ok (Lock passphrase)) port claim is = absurd (cc)
no_addition (Ok (Unlock passphrase)) port claim is = absurd (cc)
no_addition (Ok (Bind bind)) port claim is = absurd (cc)
no_addition (Ok (OtherExtension name)) port claim is = absurd (cc)
no_addition (Ok (Unsupported number)) port claim is = absurd (cc)

-- a consent to what was raised
pub record Consents (action : Action) (rest : List Stamped) (claim : Claim) (added : PastAddition) : Type 0 where
  pub job : ℕ
  pub is : action ≡ Granted job
  pub raising : Raising
  pub raised : raised_at job rest ≡ Some raising
  pub asker : raising.port ≡ claim.port
  pub addition : raising.addition ≡ added.number
  pub what : raising.signing ≡ claim.signing

by_raised : (job : ℕ) (rest : List Stamped) (claim : Claim) (added : PastAddition) (raised : Option Raising)
    → raised_at job rest ≡ raised → option_map claimed_by raised ≡ Some claim
    → is_consented claim.addition added ≡ true → Consents (Granted job) rest claim added
by_raised job rest claim added None is claims consented = absurd (cc)
by_raised job rest claim added (Some raising) is claims consented =
    let same : claimed_by raising ≡ claim = cc in
    let test : (added.number == raising.addition) ≡ true = ap (λ (c : Claim). is_consented c.addition added) same ∙ consented in
    record {
      job = job;
      is = refl;
      raising = raising;
      raised = is;
      asker = ap (λ (c : Claim). c.port) same;
      addition = grind (arith, nat_tests);
      what = ap (λ (c : Claim). c.signing) same;
    }

consents : (action : Action) (rest : List Stamped) (claim : Claim) (added : PastAddition)
    → claim_of action rest ≡ Some claim → is_consented claim.addition added ≡ true
    → added.addition.terms.confirm ≡ true → Consents action rest claim added
consents (Requested requesting) rest claim added claims consented confirm =
    let none : claim.addition ≡ None = no_addition (agent_request_of requesting.body) requesting.port claim claims in
    let clash : false ≡ true = ap not (sym confirm) ∙ ap (λ a. is_consented a added) (sym none) ∙ consented in
    absurd (cc)
consents (Asked asking) rest claim added claims consented confirm = absurd (cc)
consents (Answered settled) rest claim added claims consented confirm = absurd (cc)
consents (Proved proving) rest claim added claims consented confirm = absurd (cc)
consents (Raised raising) rest claim added claims consented confirm = absurd (cc)
consents (Granted job) rest claim added claims consented confirm =
    by_raised job rest claim added (raised_at job rest) refl claims consented
consents (Over job) rest claim added claims consented confirm = absurd (cc)
consents Lost rest claim added claims consented confirm = absurd (cc)

pub put-consented : (before : List Stamped) (port : ℕ) (signing : Signing) (settings : Settings) (events : List Timed) (past : PastAddition)
    → HasNumbers (run (first_state settings) events)
    → IsPutBehind before port signing settings events
    → last_addition signing.blob (onto [] before) ≡ Some past → past.addition.terms.confirm ≡ true
    → IsConsented (onto [] before) port past.number signing
put-consented before port signing settings events past numbers put last confirm =
    let by = claimed before port signing settings events numbers put in
    let same : Some by.met.added ≡ Some past = sym by.met.last ∙ ap (λ (s : Signing). last_addition s.blob (onto [] before)) by.what ∙ last in
    let added : by.met.added ≡ past = cc in
    let consent = consents by.met.newest.action by.met.rest by.claim by.met.added by.met.claims by.met.consented (ap (λ (p : PastAddition). p.addition.terms.confirm) added ∙ confirm) in
    record {
      job = consent.job;
      moment = by.met.newest.moment;
      rest = by.met.rest;
      is = by.met.is ∙ ap (λ action. let one : Stamped = record { moment = by.met.newest.moment; action = action } in one ∷ by.met.rest) consent.is;
      raising = consent.raising;
      raised = consent.raised;
      asker = consent.asker ∙ by.asker;
      addition = consent.addition ∙ ap (λ (p : PastAddition). p.number) added;
      what = consent.what ∙ by.what;
    }
