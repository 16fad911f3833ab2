-- What a past says of a client's last request, where more is done behind it.
use Rattle.std.proofs.Common.{◌≡◌, ◌≢◌, ℕ, ◌==◌, List, [], ◌∷◌, ◌++◌, map, refl, ap, arith, sym, subst, ◌∙◌, Bool, true, false, Option, Some, None, inl, inr, if◌then◌else◌}
use Rattle.std.proofs.lemmas.Bool.Decides.{nat_tests}
use Rattle.std.proofs.lemmas.List.{map-append}
use Rattle.std.specs.Option.{option_map, option_or}
use Rattle.world_ports.specs.declared.Moment.{Moment}
use Rattle.helper_link.specs.Telling.{telling}
use Rattle.agent_model.specs.Actions.{Action, Answered, Asked, Asking, Granted, Lost, Outcome, Over, Proved, Raised, Requested, Requesting, Work}
use Rattle.agent_model.specs.Dispatch.{Asker, Served}
use Rattle.agent_model.specs.Events.{Happening}
use Rattle.agent_model.specs.Grants.{IsAmong}
use Rattle.agent_model.specs.Runs.{Stamped}
use Rattle.agent_model.specs.Sound.{IsTied}
use Rattle.agent_model.specs.State.{State, UnderWay}
use Rattle.agent_model.specs.Step.{asker_at, handle, step}
use Rattle.agent_model.specs.Time.{at_moment, time_passes}
use Rattle.agent_model.specs.KeyStates.{KeyState}
use Rattle.agent_model.proofs.ActionLemmas.{Each, each-append, each-tells}
use Rattle.agent_model.proofs.FatedLemmas.{tied-opened}
use Rattle.agent_model.proofs.GrantLemmas.{IsGranted, allowed, disallowed, grant-ends, unasked}
use Rattle.agent_model.proofs.MakeLemmas.{IsOf, Makes, by_event, first, grants, loses, overs, serves, stays, tells}
use Rattle.agent_model.proofs.ServeLemmas.{IsServed, answered, asked, raised, refused, serve-ends}
use Rattle.agent_model.proofs.TimeLemmas.{time_passes-ends}
use Rattle.agent_laws.proofs.SilentLemmas.{AreSilent, IsSilent, silent-ends}
use Rattle.dest_rule.specs.declared.binding.Binding.{Binding}
use Rattle.confirm_desk.specs.Confirmations.{Confirmation}
use Rattle.log_laws.specs.Ends.{Request, action_of, ask_by, ask_in, last_request, request_by}
use Rattle.log_laws.proofs.ReadLemmas.{IsOther, ends-others, others-makes}

-- actions that were done at one moment
abbrev pub stamps : Moment → List Action → List Stamped
stamps moment actions = map (λ action. record { moment = moment; action = action }) actions

pub actions-stamps : (moment : Moment) (actions : List Action) → map action_of (stamps moment actions) ≡ actions
actions-stamps moment [] = refl
actions-stamps moment (action ∷ actions) = ap (λ (l : List Action). action ∷ l) (actions-stamps moment actions)

-- more was done behind a request
abbrev pub more_done : List Action → Request → Request
more_done more request = record request { later = request.later ++ more }

-- and behind an ask
abbrev pub behind_it : List Action → Asking × List Action → Asking × List Action
behind_it more put = (put.0, put.1 ++ more)

-- ---- nothing is behind an ask

abbrev pub IsLastBy : Action → List Action → Type 0
IsLastBy (Requested requesting) later = Unit {0}
IsLastBy (Asked asking) later = later ≡ []
IsLastBy (Answered settled) later = Unit {0}
IsLastBy (Proved proving) later = Unit {0}
IsLastBy (Raised raising) later = Unit {0}
IsLastBy (Granted job) later = Unit {0}
IsLastBy (Over job) later = Unit {0}
IsLastBy Lost later = Unit {0}

abbrev pub AsksLast : List Action → Type 0
AsksLast [] = Unit {0}
AsksLast (action ∷ later) = IsLastBy action later × AsksLast later

silent-last : (action : Action) (later : List Action) → IsSilent action → IsLastBy action later
silent-last (Requested requesting) later silent = tt
silent-last (Asked asking) later silent = absurd silent
silent-last (Answered settled) later silent = tt
silent-last (Proved proving) later silent = tt
silent-last (Raised raising) later silent = tt
silent-last (Granted job) later silent = tt
silent-last (Over job) later silent = tt
silent-last Lost later silent = tt

last-behind : (some more : List Action) → AreSilent some → AsksLast more → AsksLast (some ++ more)
last-behind [] more silent last = last
last-behind (action ∷ some) more silent last =
    (silent-last action (some ++ more) silent.0, last-behind some more silent.1 last)

last-silent : (some : List Action) → AreSilent some → AsksLast some
last-silent [] silent = tt
last-silent (action ∷ some) silent = (silent-last action some silent.0, last-silent some silent.1)

last-served : {asker : Asker} {held : KeyState} {under_way : UnderWay} {served : Served}
    → IsServed asker held under_way served → AsksLast served.work.actions
last-served (answered reply kept greatest) = tt
last-served (refused cause) = tt
last-served (asked errand free may) = (refl, tt)
last-served (raised key signing free) = (tt, tt)

last-granted : {chain : List Binding} {one : Confirmation} {wall : ℕ} {held : KeyState} {under_way : UnderWay} {work : Work}
    → IsGranted chain one wall held under_way work → AsksLast work.actions
last-granted (disallowed never) = tt
last-granted (unasked cause key may fault) = tt
last-granted (allowed key may free) = (refl, tt)

last-makes : {event : Happening} {old : State} {outcome : Outcome} → Makes event old outcome → AsksLast outcome.actions
last-makes (stays state) = tt
last-makes (first quiet rest) = last-makes rest
last-makes (serves body_len port state found door nothing owed own) =
    (tt, last-served (serve-ends (asker_at state.moment port) state.held state.under_way _))
last-makes (tells piece state) =
    last-silent _ (each-tells IsSilent (λ one. tt) (λ proving. tt) tt (telling piece state.under_way.link) state)
last-makes (loses state) = (tt, tt)
last-makes (overs one state there) = (tt, tt)
last-makes (grants one port state there found) = (tt, last-granted (grant-ends port.chain one state))

-- in each event
pub last-step : (state : State) (moment : Moment) (event : Happening) → AsksLast (step state moment event).actions
last-step state moment event =
    last-behind (time_passes moment state).actions (handle event (at_moment moment state)).actions (silent-ends (time_passes-ends moment state))
    (by_event (λ outcome. AsksLast outcome.actions) event (at_moment moment state) (λ door. tt) (λ outcome makes. last-makes makes))

module _ (number : ℕ) where
  -- ---- the last request

  request-other : (wall : ℕ) (action : Action) (later : List Action) → IsOther number action
      → request_by number wall action later ≡ None
  request-other wall (Requested requesting) later other =
      let fails : (requesting.port == number) ≡ false = grind (arith, nat_tests) in
      ap (λ b. if b then Some (record { wall = wall; body = requesting.body; later = later }) else None) fails
  request-other wall (Asked asking) later other = refl
  request-other wall (Answered settled) later other = refl
  request-other wall (Proved proving) later other = refl
  request-other wall (Raised raising) later other = refl
  request-other wall (Granted job) later other = refl
  request-other wall (Over job) later other = refl
  request-other wall Lost later other = refl

  last-none : (moment : Moment) (actions : List Action) → Each (IsOther number) actions
      → last_request number (stamps moment actions) ≡ None
  last-none moment [] others = refl
  last-none moment (action ∷ actions) others =
      ap (λ o. option_or o (request_by number moment.wall action (map action_of (stamps moment actions)))) (last-none moment actions others.1)
      ∙ request-other moment.wall action (map action_of (stamps moment actions)) others.0

  request-more : (wall : ℕ) (action : Action) (later more : List Action)
      → request_by number wall action (later ++ more) ≡ option_map (more_done more) (request_by number wall action later)
  request-more wall (Requested requesting) later more = by_test (requesting.port == number)
    where
      by_test : (test : Bool)
          → (if test then Some (record { wall = wall; body = requesting.body; later = later ++ more }) else None)
          ≡ option_map (more_done more) (if test then Some (record { wall = wall; body = requesting.body; later = later }) else None)
      by_test true = refl
      by_test false = refl
  request-more wall (Asked asking) later more = refl
  request-more wall (Answered settled) later more = refl
  request-more wall (Proved proving) later more = refl
  request-more wall (Raised raising) later more = refl
  request-more wall (Granted job) later more = refl
  request-more wall (Over job) later more = refl
  request-more wall Lost later more = refl

  -- other actions stand behind it
  pub last-more : (past : List Stamped) (moment : Moment) (more : List Action) → Each (IsOther number) more
      → last_request number (past ++ stamps moment more) ≡ option_map (more_done more) (last_request number past)
  last-more [] moment more others = last-none moment more others
  last-more (one ∷ past) moment more others =
      let done : map action_of (past ++ stamps moment more) ≡ map action_of past ++ more =
      map-append action_of past (stamps moment more) ∙ ap (λ (l : List Action). map action_of past ++ l) (actions-stamps moment more) in
      ap (λ o. option_or o (request_by number one.moment.wall one.action (map action_of (past ++ stamps moment more)))) (last-more past moment more others)
      ∙ ap (λ l. option_or (option_map (more_done more) (last_request number past)) (request_by number one.moment.wall one.action l)) done
      ∙ by_last (last_request number past)
    where
      by_last : (found : Option Request)
          → option_or (option_map (more_done more) found) (request_by number one.moment.wall one.action (map action_of past ++ more))
          ≡ option_map (more_done more) (option_or found (request_by number one.moment.wall one.action (map action_of past)))
      by_last None = request-more one.moment.wall one.action (map action_of past) more
      by_last (Some request) = refl

  -- what stands last counts
  last-behind_all : (past later : List Stamped) (request : Request) → last_request number later ≡ Some request
      → last_request number (past ++ later) ≡ Some request
  last-behind_all [] later request is = is
  last-behind_all (one ∷ past) later request is =
      ap (λ o. option_or o (request_by number one.moment.wall one.action (map action_of (past ++ later)))) (last-behind_all past later request is)

  -- a request of its own
  pub last-own : (past : List Stamped) (moment : Moment) (requesting : Requesting) (later : List Action)
      → requesting.port ≡ number → Each (IsOther number) later
      → last_request number (past ++ stamps moment (Requested requesting ∷ later))
      ≡ Some (record { wall = moment.wall; body = requesting.body; later = later })
  last-own past moment requesting later own others =
      let its : (requesting.port == number) ≡ true = grind (arith, nat_tests) in
      last-behind_all past (stamps moment (Requested requesting ∷ later)) _
      (ap (λ o. option_or o (request_by number moment.wall (Requested requesting) (map action_of (stamps moment later)))) (last-none moment later others)
      ∙ ap (λ l. request_by number moment.wall (Requested requesting) l) (actions-stamps moment later)
      ∙ ap (λ b. if b then Some (record { wall = moment.wall; body = requesting.body; later = later }) else None) its)

  -- ---- its ask

  ask-more_by : (action : Action) (later more : List Action)
      → ask_by number action (later ++ more) ≡ option_map (behind_it more) (ask_by number action later)
  ask-more_by (Requested requesting) later more = refl
  ask-more_by (Asked asking) later more = by_test (asking.port == number)
    where
      by_test : (test : Bool) → (if test then Some (asking, later ++ more) else None)
          ≡ option_map (behind_it more) (if test then Some (asking, later) else None)
      by_test true = refl
      by_test false = refl
  ask-more_by (Answered settled) later more = refl
  ask-more_by (Proved proving) later more = refl
  ask-more_by (Raised raising) later more = refl
  ask-more_by (Granted job) later more = refl
  ask-more_by (Over job) later more = refl
  ask-more_by Lost later more = refl

  pub ask-more : (actions more : List Action)
      → ask_in number (actions ++ more) ≡ option_or (option_map (behind_it more) (ask_in number actions)) (ask_in number more)
  ask-more [] more = refl
  ask-more (action ∷ actions) more =
      ap (λ o. option_or o (ask_in number (actions ++ more))) (ask-more_by action actions more)
      ∙ ap (option_or (option_map (behind_it more) (ask_by number action actions))) (ask-more actions more)
      ∙ by_first (ask_by number action actions)
    where
      by_first : (found : Option (Asking × List Action))
          → option_or (option_map (behind_it more) found) (option_or (option_map (behind_it more) (ask_in number actions)) (ask_in number more))
          ≡ option_or (option_map (behind_it more) (option_or found (ask_in number actions))) (ask_in number more)
      by_first None = refl
      by_first (Some put) = refl

  -- it is among the actions, and of this client
  ask-found_by : (action : Action) (later : List Action) (put : Asking × List Action) → ask_by number action later ≡ Some put
      → (action ≡ Asked put.0) × (put.0.port ≡ number) × (put.1 ≡ later)
  ask-found_by (Requested requesting) later put is = absurd (cc)
  ask-found_by (Asked asking) later put is = by_test (asking.port == number) refl is
    where
      by_test : (test : Bool) → (asking.port == number) ≡ test → (if test then Some (asking, later) else None) ≡ Some put
          → (Asked asking ≡ Asked put.0) × (put.0.port ≡ number) × (put.1 ≡ later)
      by_test true own found =
          let same : (asking, later) ≡ put = cc in
          let its : asking.port ≡ number = grind (arith, nat_tests) in (
            ap (λ (p : Asking × List Action). Asked p.0) same,
            sym (ap (λ (p : Asking × List Action). p.0.port) same) ∙ its,
            sym (ap (λ (p : Asking × List Action). p.1) same),
          )
      by_test false other found = absurd (cc)
  ask-found_by (Answered settled) later put is = absurd (cc)
  ask-found_by (Proved proving) later put is = absurd (cc)
  ask-found_by (Raised raising) later put is = absurd (cc)
  ask-found_by (Granted job) later put is = absurd (cc)
  ask-found_by (Over job) later put is = absurd (cc)
  ask-found_by Lost later put is = absurd (cc)

  pub ask-among : (actions : List Action) (put : Asking × List Action) → ask_in number actions ≡ Some put
      → IsAmong (Asked put.0) actions × (put.0.port ≡ number)
  ask-among [] put is = absurd (cc)
  ask-among (action ∷ actions) put is = by_first (ask_by number action actions) refl is (λ there. ask-among actions put there)
    where
      by_first : (found : Option (Asking × List Action)) → ask_by number action actions ≡ found
          → option_or found (ask_in number actions) ≡ Some put
          → (ask_in number actions ≡ Some put → IsAmong (Asked put.0) actions × (put.0.port ≡ number))
          → IsAmong (Asked put.0) (action ∷ actions) × (put.0.port ≡ number)
      by_first None none there rest = (inr (rest there).0, (rest there).1)
      by_first (Some one) some there rest = let it = ask-found_by action actions put (some ∙ there) in (inl it.0, it.1)

  -- where an ask of the client is among them, one is found
  pub ask-there : (actions : List Action) (asking : Asking) → asking.port ≡ number → IsAmong (Asked asking) actions
      → ask_in number actions ≢ None
  ask-there [] asking own among none = among
  ask-there (action ∷ actions) asking own among none =
      by_first (ask_by number action actions) refl none among (λ there gone. ask-there actions asking own there gone)
    where
      by_first : (found : Option (Asking × List Action)) → ask_by number action actions ≡ found
          → option_or found (ask_in number actions) ≡ None → IsAmong (Asked asking) (action ∷ actions)
          → (IsAmong (Asked asking) actions → ask_in number actions ≢ None) → ⊥
      by_first (Some one) some gone there rest = absurd (cc)
      by_first None is gone (inr there) rest = rest there gone
      by_first None is gone (inl same) rest =
          let its : (asking.port == number) ≡ true = grind (arith, nat_tests) in
          let found : ask_by number action actions ≡ Some (asking, actions) =
          ap (λ a. ask_by number a actions) same ∙ ap (λ b. if b then Some (asking, actions) else None) its in
          let no : Some (asking, actions) ≡ None = sym found ∙ is in
          absurd (cc)

  -- where nothing is behind an ask
  pub ask-last : (actions : List Action) (put : Asking × List Action) → AsksLast actions → ask_in number actions ≡ Some put
      → put.1 ≡ []
  ask-last [] put last is = absurd (cc)
  ask-last (action ∷ actions) put last is =
      by_first (ask_by number action actions) refl is (λ there. ask-last actions put last.1 there)
    where
      by_first : (found : Option (Asking × List Action)) → ask_by number action actions ≡ found
          → option_or found (ask_in number actions) ≡ Some put → (ask_in number actions ≡ Some put → put.1 ≡ []) → put.1 ≡ []
      by_first None none there rest = rest there
      by_first (Some one) some there rest =
          let it = ask-found_by action actions put (some ∙ there) in
          it.2 ∙ subst (λ a. IsLastBy a actions) it.0 last.0

  -- ---- an event of others

  pub others-step : (state : State) (moment : Moment) (event : Happening) → IsTied state → (IsOf event number → ⊥)
      → Each (IsOther number) (step state moment event).actions
  others-step state moment event tied foreign =
      each-append (IsOther number) (time_passes moment state).actions (handle event (at_moment moment state)).actions
      (ends-others number (time_passes-ends moment state))
      (by_event (λ outcome. Each (IsOther number) outcome.actions) event (at_moment moment state) (λ door. tt)
      (λ outcome makes. others-makes number makes (tied-opened moment state tied) (λ of port found. absurd (foreign of))))
