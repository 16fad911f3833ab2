-- Each event does what the past says, and the past goes on telling what the agent holds.
use Rattle.std.proofs.Common.{◌≡◌, ℕ, ◌+◌, ◌-◌, ◌^◌, ◌<◌, List, [], ◌∷◌, ◌++◌, refl, ap, sym, subst, ◌∙◌, Option, Some, None, Result, Ok, Err}
use Rattle.world_ports.specs.declared.Moment.{Moment}
use Rattle.wire_text.specs.Frames.{front_body}
use Rattle.agent_msg.specs.declared.fault.MsgFault.{MsgFault}
use Rattle.agent_msg.specs.Requests.{ClientRequest, ListIdentities, Sign, Add, Remove, RemoveAll, Lock, Unlock, Bind, OtherExtension, Unsupported}
use Rattle.dest_rule.specs.declared.binding.Binding.{Binding}
use Rattle.helper_link.specs.declared.ask.Ask.{Ask}
use Rattle.identity_table.specs.Identities.{HaveOwnNumbers, find_identity}
use Rattle.identity_table.proofs.FindLemmas.{if_alive}
use Rattle.agent_model.specs.Actions.{Action, Outcome, Requested, Work}
use Rattle.confirm_desk.specs.Confirmations.{Confirmation, linked_at}
use Rattle.confirm_desk.specs.Prompt.{prompt_for}
use Rattle.agent_model.specs.Asking.{JobsRise}
use Rattle.agent_model.specs.Binds.{agent_request_of}
use Rattle.agent_model.specs.Errands.{purpose_of}
use Rattle.agent_model.specs.Dispatch.{Asker, Served, host_for, serve}
use Rattle.agent_model.specs.Events.{Happening}
use Rattle.agent_model.specs.KeyStates.{KeyState}
use Rattle.agent_model.specs.Runs.{Stamped}
use Rattle.agent_model.specs.State.{Port, State, UnderWay, find_port}
use Rattle.agent_model.specs.Step.{asker_at}
use Rattle.agent_model.proofs.JudgedLemmas.{Keeps}
use Rattle.agent_model.proofs.MakeLemmas.{Quiet, alters, closes, goes_on, links, names, same_asks}
use Rattle.agent_model.proofs.ServeLemmas.{serves-any}
use Rattle.agent_model.proofs.SizeLemmas.{size_of}
use Rattle.agent_laws.specs.Dues.{Claim, claim_of_request, due_signing, met_by, open_asks, proved_of}
use Rattle.agent_laws.specs.History.{IsDue, onto}
use Rattle.agent_laws.specs.Past.{done_of_request}
use Rattle.agent_laws.specs.Puts.{ArePut, passes}
use Rattle.agent_laws.proofs.DueLemmas.{Acts, acts-served, asks, due_read, met_with, raises_it, silent}
use Rattle.agent_laws.proofs.HoldsLemmas.{Facts, Holds, NumbersKept, facts_after, facts_of, facts_then}
use Rattle.agent_laws.proofs.MessageLemmas.{puts-served}
use Rattle.agent_laws.proofs.PlaceLemmas.{parts_of}
use Rattle.agent_laws.proofs.ServedLemmas.{HoldsAfter, holds-served}
use Rattle.agent_laws.proofs.RaisedLemmas.{AllRaised, Stays, as_it_is, lightly, stays-kept, all_raised-kept, all_raised-more, all_raised-push, all_raised-same}
use Rattle.agent_laws.proofs.PastLemmas.{LawfulIf, nothing_due, stamp, stamps}
use Rattle.agent_laws.proofs.UsableLemmas.{usable-asked}

-- ---- what agrees

-- the past tells what is held, which asks are unanswered and what waits for the user, and nothing is due behind it
pub record Agrees (N : Type 0) (life : Option ℕ) (second : ℕ) (past : List Stamped) (held : KeyState) (pending : List Ask) (confirmations : List Confirmation) : Type 0 where
  pub holds : Holds life second (facts_of past) held
  pub opens : open_asks past ≡ parts_of pending
  pub raised : AllRaised past held confirmations
  pub idle : N → due_signing life past ≡ None

-- the past agrees with a state as an event begins: those that are held are alive, and numbers are left
pub record Opened (N : Type 0) (life : Option ℕ) (past : List Stamped) (state : State) : Type 0 where
  pub agrees : Agrees N life state.moment.mono past state.held state.under_way.link.asks state.under_way.confirmations
  pub fresh : (blob : List ℕ)
      → if_alive state.moment.mono (find_identity blob state.held.table.identities) ≡ find_identity blob state.held.table.identities
  pub chains : (number : ℕ) (port : Port) → find_port number state.ports ≡ Some port
      → proved_of number past ≡ port.chain
  pub left : N → state.under_way.link.last < 2 ^ 64 - 1
  pub jobs : N → state.under_way.last_job < 2 ^ 64 - 1

-- what is done stands where it may, and agrees with what it leaves
pub record Goes (N : Type 0) (life : Option ℕ) (past : List Stamped) (old : State) (outcome : Outcome) : Type 0 where
  pub lawful : LawfulIf N life past (stamps old.moment outcome.actions)
  pub agrees : Agrees N life old.moment.mono (onto past (stamps old.moment outcome.actions)) outcome.state.held outcome.state.under_way.link.asks outcome.state.under_way.confirmations
  pub moment : outcome.state.moment ≡ old.moment
  pub puts : ArePut past (stamps old.moment outcome.actions) outcome.put

-- ---- quiet changes

pub record Calm (old new : State) : Type 0 where
  pub held : new.held ≡ old.held
  pub moment : new.moment ≡ old.moment
  pub last : new.under_way.link.last ≡ old.under_way.link.last
  pub jobs : new.under_way.last_job ≡ old.under_way.last_job
  pub kept : Stays old.under_way.confirmations new.under_way.confirmations

pub calm-quiet : {event : Happening} {old new : State} → Quiet event old new → Calm old new
calm-quiet (alters number f change) =
    record { held = refl; moment = refl; last = refl; jobs = refl; kept = as_it_is }
calm-quiet (closes number may) =
    record { held = refl; moment = refl; last = refl; jobs = refl; kept = as_it_is }
calm-quiet (goes_on new goes) = record { held = refl; moment = refl; last = (same_asks goes).last; jobs = (same_asks goes).jobs; kept = stays-kept (same_asks goes).kept }
calm-quiet (names job number new) =
    record { held = refl; moment = refl; last = refl; jobs = refl; kept = as_it_is }
calm-quiet (links job number new) = record {
  held = refl;
  moment = refl;
  last = refl;
  jobs = refl;
  kept = lightly job (linked_at number) record { job = λ c. refl; asker = λ c. refl; addition = λ c. refl; message = λ c. refl; flags = λ c. refl };
}

pub opened-quiet : {N : Type 0} (life : Option ℕ) (past : List Stamped) (old new : State)
    → Calm old new → Keeps old new → Opened N life past old → Opened N life past new
opened-quiet life past old new calm keeps opened = record {
  agrees = record {
    holds = rw (calm.held, calm.moment) opened.agrees.holds;
    opens = rw keeps.asks opened.agrees.opens;
    raised = rw calm.held (all_raised-same past old.held calm.kept opened.agrees.raised);
    idle = opened.agrees.idle;
  };
  fresh = rw (calm.held, calm.moment) opened.fresh;
  chains = λ number port found. let was = keeps.ports number port found in opened.chains number was.0 was.1 ∙ sym was.2;
  left = rw calm.last opened.left;
  jobs = rw calm.jobs opened.jobs;
}

-- ---- a request

-- what is due is what the past tells
pub due_as : (claim : Option Claim) (life : Option ℕ) (moment : Moment) (past : List Stamped)
    → met_by claim life moment past ≡ met_with claim life moment.mono moment.wall (facts_of past) (λ port. proved_of port past) (open_asks past)
due_as None life moment past = refl
due_as (Some claim) life moment past = refl

-- what is due behind it, by the chain of its port
due_of_read : (life : Option ℕ) (number second wall : ℕ) (facts : Facts) (past : List Stamped) (chain : List Binding) (opens : List (ℕ × ℕ)) (read : Result ClientRequest MsgFault)
    → proved_of number past ≡ chain
    → met_with (claim_of_request read number) life second wall facts (λ port. proved_of port past) opens ≡ met_with (claim_of_request read number) life second wall facts (λ port. chain) opens
due_of_read life number second wall facts past chain opens (Err fault) is = refl
due_of_read life number second wall facts past chain opens (Ok ListIdentities) is = refl
due_of_read life number second wall facts past chain opens (Ok (Sign signing)) is =
    let claim : Claim = record { port = number; addition = None; signing = signing } in
    ap (λ c. met_with (Some claim) life second wall facts (λ port. c) opens) is
due_of_read life number second wall facts past chain opens (Ok (Add addition)) is = refl
due_of_read life number second wall facts past chain opens (Ok (Remove blob)) is = refl
due_of_read life number second wall facts past chain opens (Ok RemoveAll) is = refl
due_of_read life number second wall facts past chain opens (Ok (Lock passphrase)) is = refl
due_of_read life number second wall facts past chain opens (Ok (Unlock passphrase)) is = refl
due_of_read life number second wall facts past chain opens (Ok (Bind bind)) is = refl
due_of_read life number second wall facts past chain opens (Ok (OtherExtension name)) is = refl
due_of_read life number second wall facts past chain opens (Ok (Unsupported other)) is = refl

pub parts-append : (some more : List Ask)
    → parts_of (some ++ more) ≡ parts_of some ++ parts_of more
parts-append [] more = refl
parts-append (one ∷ some) more = ap (λ rest. (one.number, one.size) ∷ rest) (parts-append some more)

-- what the past tells behind actions
pub facts-onto : (moment : Moment) (past : List Stamped) (actions : List Action)
    → facts_of (onto past (stamps moment actions)) ≡ facts_then actions moment.mono (facts_of past)
facts-onto moment past [] = refl
facts-onto moment past (action ∷ later) = facts-onto moment (stamp moment action ∷ past) later

-- what is done behind it stands there, and agrees
module _ (life : Option ℕ) (moment : Moment) (asker : Asker) (held after : KeyState) (under_way : UnderWay) (past : List Stamped) (due : Option Claim) (is : due_signing life past ≡ due) where
  lawful-acts : {N : Type 0} {work : Work} → Acts N due asker held under_way work
      → LawfulIf N life past (stamps moment work.actions)
  lawful-acts (silent verdict none) = λ n. is ∙ none n
  lawful-acts (asks errand may) =
      (subst (IsDue (purpose_of errand) asker.port) (sym is) may, λ n. refl)
  lawful-acts (raises_it key signing found none) = (λ n. is ∙ none n, λ n. refl)

  opens-acts : {N : Type 0} {work : Work} → Acts N due asker held under_way work
      → open_asks past ≡ parts_of under_way.link.asks
      → open_asks (onto past (stamps moment work.actions)) ≡ parts_of work.under_way.link.asks
  opens-acts (silent verdict none) same = same
  opens-acts (asks errand may) same = ap (λ all. all ++ (under_way.link.last + 1, size_of errand (under_way.link.last + 1)) ∷ []) same ∙ sym (parts-append under_way.link.asks _)
  opens-acts (raises_it key signing found none) same = same

  raised-acts : {N : Type 0} {work : Work} → Acts N due asker held under_way work
      → JobsRise 0 under_way.confirmations under_way.last_job
      → HaveOwnNumbers held.table.last held.table.identities → NumbersKept held after
      → AllRaised past held under_way.confirmations
      → AllRaised (onto past (stamps moment work.actions)) after work.under_way.confirmations
  raised-acts (silent verdict none) order numbers kept all =
      all_raised-kept past held after under_way.confirmations kept all
  raised-acts (asks errand may) order numbers kept all =
      all_raised-more past _ after under_way.confirmations (λ job. refl) (all_raised-kept past held after under_way.confirmations kept all)
  raised-acts (raises_it key signing found none) order numbers kept all =
      all_raised-kept _ held after _ kept
      (all_raised-push moment past held asker.port key signing (prompt_for key.comment key.blob key.purposes (host_for asker key signing) signing.message) under_way.last_job under_way.second under_way.confirmations order numbers found all)

module _ {N : Type 0} (life : Option ℕ) (past : List Stamped) (body_len : ℕ) (port : Port) (state : State) (found : find_port port.number state.ports ≡ Some port) (order : JobsRise 0 state.under_way.confirmations state.under_way.last_job) (opened : Opened N life past state) where
  abbrev body : List ℕ
  body = front_body body_len port.heard

  abbrev asker : Asker
  asker = asker_at state.moment port

  abbrev served : Served
  served = serve (agent_request_of body) asker state.held state.under_way

  abbrev request : Action
  request = Requested (record { port = port.number; body = body; verdict = served.work.verdict })

  abbrev behind : List Stamped
  behind = stamp state.moment request ∷ past

  acts : Acts N (due_read life asker (facts_of past) state.held state.under_way (open_asks past) opened.agrees.holds opened.fresh opened.agrees.opens (agent_request_of body) served.work.verdict) asker state.held state.under_way served.work
  acts = acts-served life asker (facts_of past) state.held state.under_way (open_asks past) opened.agrees.holds opened.fresh opened.agrees.opens opened.left opened.jobs (agent_request_of body)

  due_behind : due_signing life behind ≡ due_read life asker (facts_of past) state.held state.under_way (open_asks past) opened.agrees.holds opened.fresh opened.agrees.opens (agent_request_of body) served.work.verdict
  due_behind = due_as (claim_of_request (agent_request_of body) port.number) life state.moment behind
      ∙ due_of_read life port.number state.moment.mono state.moment.wall (facts_after (done_of_request (agent_request_of body) served.work.verdict) state.moment.mono (facts_of past)) past port.chain (open_asks past) (agent_request_of body) (opened.chains port.number port found)

  lawful_behind : LawfulIf N life behind (stamps state.moment served.work.actions)
  lawful_behind = lawful-acts life state.moment asker state.held served.held state.under_way behind _ due_behind acts

  done : HoldsAfter life asker (facts_of past) state.held (done_of_request (agent_request_of body) served.work.verdict) served.work.actions served.held
  done = holds-served life asker (facts_of past) state.held state.under_way opened.agrees.holds (agent_request_of body) (usable-asked body)

  pub served-agrees : Agrees N life state.moment.mono (onto behind (stamps state.moment served.work.actions)) served.held served.work.under_way.link.asks served.work.under_way.confirmations
  served-agrees = record {
    holds = subst (λ facts. Holds life state.moment.mono facts served.held) (sym (facts-onto state.moment behind served.work.actions)) done.holds;
    opens = opens-acts life state.moment asker state.held served.held state.under_way behind _ due_behind acts opened.agrees.opens;
    raised = raised-acts life state.moment asker state.held served.held state.under_way behind _ due_behind acts order opened.agrees.holds.numbers done.kept (all_raised-more past behind state.held state.under_way.confirmations (λ job. refl) opened.agrees.raised);
    idle = nothing_due life behind (stamps state.moment served.work.actions) lawful_behind;
  }

  pub served-lawful : LawfulIf N life past (stamps state.moment (request ∷ served.work.actions))
  served-lawful = (opened.agrees.idle, lawful_behind)

  -- what it puts is what it asks for
  pub served-puts : ArePut past (stamps state.moment (request ∷ served.work.actions)) served.work.put
  served-puts = passes past (stamp state.moment request) _ _ (λ asking no. absurd (cc))
      (puts-served life state.moment past asker state.held state.under_way body served.work.verdict opened.agrees.holds opened.fresh (serves-any (agent_request_of body) asker state.held state.under_way))
