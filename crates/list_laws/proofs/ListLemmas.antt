-- What a request for identities is replied is what the past tells.
use Rattle.std.proofs.Common.{◌≡◌, ℕ, List, [], ◌∷◌, ◌++◌, map, refl, sym, ap, subst, ◌∙◌, inl, inr, arith, Bool, true, false, cond, is_some, Option, Some, None, Result, Ok}
use Rattle.std.specs.List.{filter}
use Rattle.std.specs.Option.{option_map}
use Rattle.world_ports.specs.declared.Door.TheVariants.{Clients}
use Rattle.world_ports.specs.declared.Moment.{Moment}
use Rattle.wire_text.specs.Frames.{front_body}
use Rattle.agent_msg.specs.declared.fault.MsgFault.{MsgFault}
use Rattle.agent_msg.specs.Replies.{identities_answer}
use Rattle.agent_msg.specs.Requests.{ClientRequest, ListIdentities}
use Rattle.dest_rule.specs.Rules.{visible}
use Rattle.dest_rule.specs.declared.binding.Binding.{Binding}
use Rattle.helper_link.specs.Telling.{Telling, telling}
use Rattle.helper_link.specs.declared.fault.LinkFault.{LinkFault}
use Rattle.identity_table.specs.Identities.{find_identity}
use Rattle.agent_model.specs.Actions.{Granted, Outcome, Requested, Requesting, Work, stay}
use Rattle.agent_model.specs.Answers.{answers_in, helper_tells, lose, lose_if, with_answers}
use Rattle.agent_model.specs.Binds.{agent_request_of}
use Rattle.agent_model.specs.Consents.{grant_concluded, grant_work, over}
use Rattle.agent_model.specs.Dispatch.{Asker, Served, seen_by, sees, serve, serve_by}
use Rattle.agent_model.specs.Events.{Happening}
use Rattle.agent_model.specs.Grants.{IsAmong}
use Rattle.agent_model.specs.KeyStates.{KeyState, shown}
use Rattle.agent_model.specs.Runs.{Stamped}
use Rattle.agent_model.specs.Sound.{IsTied}
use Rattle.agent_model.specs.State.{Port, State, UnderWay, change_port, find_port, owed_as, owed_by, owed_of, role_of}
use Rattle.agent_model.specs.Step.{asker_at, attempts, take_frame, taken}
use Rattle.agent_model.specs.Verdicts.{Identities, NotConfirmed, Refuses, Replies, Verdict, tell, verdict_text}
use Rattle.agent_model.proofs.ActionLemmas.{Each, among-each, each-tells}
use Rattle.agent_model.proofs.GrantLemmas.{IsGranted, allowed, disallowed, grant-ends, unasked}
use Rattle.agent_model.proofs.JudgedLemmas.{keeps-quiet}
use Rattle.agent_model.proofs.MakeLemmas.{Makes, Quiet, first, grants, loses, overs, serves, stays, tells}
use Rattle.agent_model.proofs.PortsLemmas.{change_port-twice, find_port-change_port}
use Rattle.agent_model.proofs.ServeLemmas.{Serves, adds, confirms, denies, empties, lists, locks, removes, serves-any, signs, unlocks, verifies}
use Rattle.agent_model.proofs.TiedLemmas.{tied-quiet}
use Rattle.agent_laws.specs.Dues.{proved_of}
use Rattle.agent_laws.specs.Past.{PastAddition, was_locked}
use Rattle.agent_laws.proofs.HoldsLemmas.{Holds, facts_of, key_of}
use Rattle.agent_laws.proofs.StepLemmas.{calm-quiet}
use Rattle.list_laws.specs.Lists.{all_standing, entry_of, in_order, listed_to, shown_to, standing, tried}
use Rattle.list_laws.proofs.FoundLemmas.{AreInOrder, filter_map-same, map-filter_map}
use Rattle.list_laws.proofs.OrderLemmas.{AreFresh, HoldsBehind, IsIdle, holds-idle, order-granted, order-served}
use Rattle.list_laws.proofs.TriedLemmas.{IsUnasked, KeepTries, Tries, tried_then, tries-absent, tries-asked, tries-ended, tries-lose, tries-quiet, tries-same, tries-tells, tries-unasked}

-- ---- what the table shows

-- of each, by what was added
shown-each : (life : Option ℕ) (asker : Asker) (all : List PastAddition)
    → map shown (filter (sees asker) (map (key_of life) all)) ≡ map entry_of (filter (λ added. visible added.addition.terms.rules asker.chain asker.attempted asker.wall) all)
shown-each life asker [] = refl
shown-each life asker (added ∷ all) =
    by_test (visible added.addition.terms.rules asker.chain asker.attempted asker.wall) (shown-each life asker all)
  where
    seen : PastAddition → Bool
    seen one = visible one.addition.terms.rules asker.chain asker.attempted asker.wall

    by_test : (is : Bool)
        → map shown (filter (sees asker) (map (key_of life) all)) ≡ map entry_of (filter seen all)
        → map shown (cond is (key_of life added ∷ filter (sees asker) (map (key_of life) all)) (filter (sees asker) (map (key_of life) all))) ≡ map entry_of (cond is (added ∷ filter seen all) (filter seen all))
    by_test true rest = ap (λ more. entry_of added ∷ more) rest
    by_test false rest = rest

-- ---- what is known as an event begins

-- the past tells what is held, in which order, what each connection is bound to, and whether it tried
pub record Knows (life : Option ℕ) (past : List Stamped) (state : State) : Type 0 where
  pub holds : Holds life state.moment.mono (facts_of past) state.held
  pub fresh : AreFresh state.moment.mono state.held
  pub order : AreInOrder (in_order life past) state.held.table.identities
  pub chains : (number : ℕ) (port : Port) → find_port number state.ports ≡ Some port
      → proved_of number past ≡ port.chain
  pub tried : (number : ℕ) (port : Port) → find_port number state.ports ≡ Some port
      → tried number past ≡ port.attempted

-- what a blob finds is the addition that stands
pub held-stands : (life : Option ℕ) (past : List Stamped) (state : State) → Knows life past state → (blob : List ℕ)
    → find_identity blob state.held.table.identities ≡ option_map (key_of life) (standing life state.moment.mono past blob)
held-stands life past state knows blob =
    sym (knows.fresh blob) ∙ knows.holds.found blob state.moment.mono (omega arith)

knows-quiet : {event : Happening} {old new : State} (life : Option ℕ) (past : List Stamped)
    → Quiet event old new → IsTied old → Knows life past old → Knows life past new
knows-quiet {old = old} {new = new} life past quiet at knows =
    let calm = calm-quiet quiet in
    record {
      holds = rw (calm.held, calm.moment) knows.holds;
      fresh = rw (calm.held, calm.moment) knows.fresh;
      order = rw calm.held knows.order;
      chains = λ number port found. let was = (keeps-quiet quiet at.rising).ports number port found in knows.chains number was.0 was.1 ∙ sym was.2;
      tried = λ number port found. let was = tries-quiet quiet at.rising number port found in knows.tried number was.0 was.1 ∙ sym was.2;
    }

-- ---- a list

-- the request is replied these identities, and its client is owed that reply
pub record ListedAs (state : State) (requesting : Requesting) (identities : List (List ℕ × List ℕ)) : Type 0 where
  pub verdict : requesting.verdict ≡ Replies (Identities identities)
  pub owed : owed_of requesting.port state ≡ identities_answer identities

-- each list that is asked for in this outcome is what the past tells
abbrev pub AreListed : Option ℕ → List Stamped → Outcome → Type 0
AreListed life past outcome = (requesting : Requesting) → IsAmong (Requested requesting) outcome.actions
    → agent_request_of requesting.body ≡ Ok ListIdentities
    → ListedAs outcome.state requesting (listed_to life requesting.port outcome.state.moment past)

none-asked : (life : Option ℕ) (past : List Stamped) (outcome : Outcome) → Each IsUnasked outcome.actions
    → AreListed life past outcome
none-asked life past outcome each requesting among is =
    absurd (among-each IsUnasked (Requested requesting) outcome.actions (λ is. is) each among)

-- nothing else is replied identities
abbrev pub ListAlone : Outcome → Type 0
ListAlone outcome = (requesting : Requesting) (identities : List (List ℕ × List ℕ))
    → IsAmong (Requested requesting) outcome.actions → requesting.verdict ≡ Replies (Identities identities)
    → agent_request_of requesting.body ≡ Ok ListIdentities

none-alone : (outcome : Outcome) → Each IsUnasked outcome.actions → ListAlone outcome
none-alone outcome each requesting identities among is =
    absurd (among-each IsUnasked (Requested requesting) outcome.actions (λ no. no) each among)

alone-served : {read : Result ClientRequest MsgFault} {asker : Asker} {held : KeyState} {under_way : UnderWay} {one : Served}
    → Serves read asker held under_way one → (identities : List (List ℕ × List ℕ))
    → one.work.verdict ≡ Replies (Identities identities) → read ≡ Ok ListIdentities
alone-served (denies cause) identities same = absurd (cc)
alone-served (lists shown is) identities same = is
alone-served (adds addition is) identities same = absurd (cc)
alone-served (removes blob is) identities same = absurd (cc)
alone-served (empties is) identities same = absurd (cc)
alone-served (locks passphrase is) identities same = absurd (cc)
alone-served (unlocks passphrase is) identities same = absurd (cc)
alone-served (signs signing key is found asks free) identities same = absurd (cc)
alone-served (confirms signing key is found free) identities same = absurd (cc)
alone-served (verifies bind is_new is stands free) identities same = absurd (cc)

module _ (life : Option ℕ) (past : List Stamped) (body_len : ℕ) (port : Port) (state : State) (found : find_port port.number state.ports ≡ Some port) (door : port.door ≡ Clients) (nothing : port.owed ≡ []) (knows : Knows life past state) where
  abbrev asker : Asker
  asker = asker_at state.moment port

  abbrev body : List ℕ
  body = front_body body_len port.heard

  abbrev served : Served
  served = serve (agent_request_of body) asker state.held state.under_way

  abbrev request : Requesting
  request = record { port = port.number; body = body; verdict = served.work.verdict }

  -- the identities that are held are the additions that stand, in their order
  all_held : state.held.table.identities ≡ map (key_of life) (all_standing life state.moment.mono past)
  all_held =
      knows.order
      ∙ filter_map-same _ (λ blob. option_map (key_of life) (standing life state.moment.mono past blob)) (in_order life past) (held-stands life past state knows)
      ∙ sym (map-filter_map (standing life state.moment.mono past) (key_of life) (in_order life past))

  seen_is : seen_by asker state.held ≡ shown_to life port.number state.moment past
  seen_is =
      ap (λ keys. map shown (filter (sees asker) keys)) all_held
      ∙ shown-each life asker (all_standing life state.moment.mono past)
      ∙ ap (λ c. map entry_of (filter (λ added. visible added.addition.terms.rules c port.attempted state.moment.wall) (all_standing life state.moment.mono past))) (sym (knows.chains port.number port found))
      ∙ ap (λ b. map entry_of (filter (λ added. visible added.addition.terms.rules (proved_of port.number past) b state.moment.wall) (all_standing life state.moment.mono past))) (sym (knows.tried port.number port found))

  by_lock : (lock : Option (List ℕ)) → (serve_by lock ListIdentities asker state.held state.under_way).work.verdict ≡ Replies (Identities (cond (is_some lock) [] (seen_by asker state.held)))
  by_lock None = refl
  by_lock (Some passphrase) = refl

  verdict_is : agent_request_of body ≡ Ok ListIdentities
      → served.work.verdict ≡ Replies (Identities (listed_to life port.number state.moment past))
  verdict_is is =
      ap (λ read. (serve read asker state.held state.under_way).work.verdict) is ∙ by_lock state.held.lock
      ∙ ap (λ b. Replies (Identities (cond b [] (seen_by asker state.held)))) (sym knows.holds.locked)
      ∙ ap (λ all. Replies (Identities (cond (was_locked past) [] all))) seen_is

  abbrev take : Port → Port
  take p = take_frame body_len (attempts state.held.lock body) p

  -- it is owed the reply and nothing else
  abbrev ports_after : Verdict → List Port
  ports_after verdict = change_port port.number (tell verdict) (change_port port.number take state.ports)

  found_then : (verdict : Verdict) → find_port port.number (ports_after verdict) ≡ Some (tell verdict (take port))
  found_then verdict =
      ap (find_port port.number) (change_port-twice port.number take (tell verdict) state.ports (λ p. refl))
      ∙ find_port-change_port port.number (λ p. tell verdict (take p)) state.ports (λ p. refl)
      ∙ ap (option_map (λ p. tell verdict (take p))) found

  owed_is : (verdict : Verdict) (under_way : UnderWay)
      → owed_by (find_port port.number (ports_after verdict)) under_way ≡ verdict_text verdict
  owed_is verdict under_way =
      ap (λ o. owed_by o under_way) (found_then verdict)
      ∙ ap (λ d. owed_as (role_of d port.number under_way) (tell verdict (take port)) under_way) door
      ∙ ap (λ bytes. bytes ++ verdict_text verdict) nothing

  unasked_served : {one : Served} → Serves (agent_request_of body) asker state.held state.under_way one → Each IsUnasked one.work.actions
  unasked_served (denies cause) = tt
  unasked_served (lists identities is) = tt
  unasked_served (adds addition is) = tt
  unasked_served (removes blob is) = tt
  unasked_served (empties is) = tt
  unasked_served (locks passphrase is) = tt
  unasked_served (unlocks passphrase is) = tt
  unasked_served (signs signing key is at asks free) = (tt, tt)
  unasked_served (confirms signing key is at free) = (tt, tt)
  unasked_served (verifies bind is_new is stands free) = (tt, tt)

  unasked_then : Each IsUnasked served.work.actions
  unasked_then = unasked_served (serves-any (agent_request_of body) asker state.held state.under_way)

  listed_so : (requesting : Requesting) → request ≡ requesting → agent_request_of requesting.body ≡ Ok ListIdentities
      → ListedAs (taken body_len body port state).state requesting (listed_to life requesting.port state.moment past)
  listed_so requesting same is =
      subst (λ (r : Requesting). ListedAs (taken body_len body port state).state r (listed_to life r.port state.moment past)) same
      (let verdict = verdict_is (ap (λ (r : Requesting). agent_request_of r.body) same ∙ is) in
      record {
        verdict = verdict;
        owed = owed_is served.work.verdict served.work.under_way ∙ ap verdict_text verdict;
      })

  are_listed : AreListed life past (taken body_len body port state)
  are_listed requesting (inl among) is = let same : request ≡ requesting = cc in listed_so requesting same is
  are_listed requesting (inr among) is =
      absurd (among-each IsUnasked (Requested requesting) served.work.actions (λ no. no) unasked_then among)

  are_alone : ListAlone (taken body_len body port state)
  are_alone requesting identities (inl among) is =
      let same : request ≡ requesting = cc in
      ap (λ (r : Requesting). agent_request_of r.body) (sym same)
      ∙ alone-served (serves-any (agent_request_of body) asker state.held state.under_way) identities (ap (λ (r : Requesting). r.verdict) same ∙ is)
  are_alone requesting identities (inr among) is =
      absurd (among-each IsUnasked (Requested requesting) served.work.actions (λ no. no) unasked_then among)

-- ---- events

-- what is done goes on being told by the past, and each list is what it tells
pub record Goes (life : Option ℕ) (past : List Stamped) (old : State) (outcome : Outcome) : Type 0 where
  pub behind : HoldsBehind life old.moment.mono (facts_of past) (in_order life past) outcome.actions outcome.state.held
  pub tries : (number : ℕ) → Tries (is_some old.held.lock) number old.ports outcome.actions outcome.state.ports
  pub lists : AreListed life past outcome
  pub alone : ListAlone outcome

-- nobody asks, and nothing that is held is used
goes-idle : (life : Option ℕ) (past : List Stamped) (old : State) (outcome : Outcome) → Knows life past old
    → Each IsIdle outcome.actions → Each IsUnasked outcome.actions → outcome.state.held ≡ old.held
    → KeepTries old.ports outcome.state.ports → Goes life past old outcome
goes-idle life past old outcome knows idle each same keeps = record {
  behind = rw same (holds-idle life old.moment.mono (facts_of past) (in_order life past) outcome.actions old.held idle knows.holds knows.order);
  tries = λ number. tries-unasked (is_some old.held.lock) number old.ports outcome.actions outcome.state.ports each keeps;
  lists = none-asked life past outcome each;
  alone = none-alone outcome each;
}

pub goes-makes : {event : Happening} {old : State} {outcome : Outcome} (life : Option ℕ) (past : List Stamped)
    → Makes event old outcome → IsTied old → Knows life past old → Goes life past old outcome
goes-makes life past (stays state) tied knows =
    goes-idle life past state (stay state) knows tt tt refl (tries-same state.ports)
goes-makes {old = old} life past (first {mid = mid} {outcome = outcome} quiet rest) tied knows =
    let calm = calm-quiet quiet in
    let later = goes-makes life past rest (tied-quiet quiet tied) (knows-quiet life past quiet tied knows) in
    record {
      behind = subst (λ (m : Moment). HoldsBehind life m.mono (facts_of past) (in_order life past) outcome.actions outcome.state.held) calm.moment later.behind;
      tries = λ number.
          let after = subst (λ (h : KeyState). Tries (is_some h.lock) number mid.ports outcome.actions outcome.state.ports) calm.held (later.tries number) in
          let keeps = tries-quiet quiet tied.rising in
          record {
            bound = λ port found.
                let now = after.bound port found in
                let was = keeps number now.0 now.1 in
                (was.0, was.1, now.2 ∙ ap (tried_then number outcome.actions (is_some old.held.lock)) was.2);
            silent = λ before none. after.silent before (tries-absent old.ports mid.ports number keeps none);
          };
      lists = later.lists;
      alone = later.alone;
    }
goes-makes life past (serves body_len port state found door waits nothing own) tied knows =
    let body : List ℕ = front_body body_len port.heard in
    let asker : Asker = asker_at state.moment port in
    record {
      behind = order-served life asker (facts_of past) (in_order life past) state.held state.under_way knows.holds knows.fresh knows.order body;
      tries = λ number. tries-asked body (serve (agent_request_of body) asker state.held state.under_way).work.verdict (take_frame body_len (attempts state.held.lock body)) state.held.lock port.number state.ports _ (λ p. refl) (λ p. refl) (unasked_then life past body_len port state found door nothing knows) port found number;
      lists = are_listed life past body_len port state found door nothing knows;
      alone = are_alone life past body_len port state found door nothing knows;
    }
goes-makes life past (tells piece state) tied knows =
    goes-idle life past state (helper_tells told state) knows (each-tells IsIdle (λ one. tt) (λ proving. tt) tt told state) (each-tells IsUnasked (λ one. tt) (λ proving. tt) tt told state) (by_fault told.fault (with_answers told.link (answers_in told.settled state) state) refl) (tries-tells piece state tied)
  where
    told : Telling
    told = telling piece state.under_way.link

    by_fault : (fault : Option LinkFault) (mid : State) → mid.held ≡ state.held → (lose_if fault mid).state.held ≡ state.held
    by_fault None mid is = is
    by_fault (Some fault) mid is = is
goes-makes life past (loses state) tied knows =
    goes-idle life past state (lose state) knows (tt, tt) (tt, tt) refl (tries-lose state tied.rising)
goes-makes life past (overs confirmation state there) tied knows =
    goes-idle life past state (over confirmation state) knows (tt, tt) (tt, tt) refl (tries-ended confirmation (Refuses NotConfirmed) state tied.rising)
goes-makes life past (grants confirmation port state there opened) tied knows = record {
  behind = order-granted life state.moment.mono (facts_of past) (in_order life past) knows.holds knows.order (grant-ends port.chain confirmation state);
  tries = λ number. tries-unasked (is_some state.held.lock) number state.ports (Granted confirmation.job ∷ work.actions) _ each (tries-ended confirmation work.verdict state tied.rising);
  lists = none-asked life past (grant_concluded work confirmation state) each;
  alone = none-alone (grant_concluded work confirmation state) each;
}
  where
    work : Work
    work = grant_work port.chain confirmation state

    by_work : {chain : List Binding} {wall : ℕ} {held : KeyState} {under_way : UnderWay} {one : Work}
        → IsGranted chain confirmation wall held under_way one → Each IsUnasked one.actions
    by_work (disallowed never) = tt
    by_work (unasked cause key may fault) = tt
    by_work (allowed key may free) = (tt, tt)

    each : Each IsUnasked (Granted confirmation.job ∷ work.actions)
    each = (tt, by_work (grant-ends port.chain confirmation state))
