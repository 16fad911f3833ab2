-- What is seen of an event, by the jobs and the asks of the agent before and behind it.
use Rattle.std.proofs.Common.{◌≡◌, ℕ, List, [], ◌∷◌, ◌++◌, map, refl, ap, sym, ◌∙◌, append_assoc, length, Option, None, Some, OnOk, Result, Ok, Err}
use Rattle.std.specs.declared.alloc.AllocError.{AllocError}
use Rattle.world_ports.specs.declared.Moment.{Moment}
use Rattle.agent_core.specs.Owing.{is_client_at}
use Rattle.agent_model.specs.Actions.{Action, Answered, Asked, ForBinding, ForSignature, Granted, Lost, Over, Proved, Purpose, Raised, Requested, Stepped, stepped}
use Rattle.agent_model.specs.Events.{Happening}
use Rattle.agent_model.specs.State.{Port, State, starts}
use Rattle.agent_model.specs.Step.{step}
use Rattle.audit_core.specs.Puts.{puts_by}
use Rattle.audit_core.proofs.NewestLemmas.{newest-step}
use Rattle.log_book.specs.declared.sight.Sight.{Sight}
use Rattle.log_core.specs.Seeing.{put_ports, putter, raised_ports}
use Rattle.log_laws.specs.Sights.{closed_sight, event_sights, goes_over, is_of_client, put_in, put_sight, raised_in, raised_sight}
use Rattle.log_laws.proofs.JobsLemmas.{raises-step}
use Rattle.replay_run.specs.Settling.{at_moment}

-- a client is at a port, as the agent tells it
pub same_client : (found : Option Port) → is_client_at found ≡ is_of_client found
same_client None = refl
same_client (Some port) = refl

-- ---- what is put

-- the clients of signing requests are those of what an audit lists
put-ports : (line : ℕ) (actions : List Action) → map putter (puts_by line actions) ≡ put_in actions
put-ports line [] = refl
put-ports line (Requested requesting ∷ later) = put-ports line later
put-ports line (Asked asking ∷ later) = by_purpose asking.purpose refl (put-ports line later)
  where
    by_purpose : (purpose : Purpose) → asking.purpose ≡ purpose → map putter (puts_by line later) ≡ put_in later → map putter (puts_by line (Asked asking ∷ later)) ≡ put_in (Asked asking ∷ later)
    by_purpose (ForSignature signing) is rest = rw is (ap (λ (ports : List ℕ). asking.port ∷ ports) rest)
    by_purpose (ForBinding binding) is rest = rw is rest
put-ports line (Answered one ∷ later) = put-ports line later
put-ports line (Proved proving ∷ later) = put-ports line later
put-ports line (Raised raising ∷ later) = put-ports line later
put-ports line (Granted job ∷ later) = put-ports line later
put-ports line (Over job ∷ later) = put-ports line later
put-ports line (Lost ∷ later) = put-ports line later

-- ---- an event

-- what is seen of what came of it, in its parts
pub record SawIt (wall faults : ℕ) (raised put closes : List ℕ) (bytes old one two three : List Sight) : Type 0 where
  pub first : one ≡ (old ++ bytes) ++ map (raised_sight wall faults) raised
  pub second : two ≡ one ++ map (put_sight wall faults) put
  pub third : three ≡ two ++ map (closed_sight wall faults) closes

parts : (wall faults : ℕ) (raised put closes : List ℕ) (bytes old one two three : List Sight) → SawIt wall faults raised put closes bytes old one two three
    → three ≡ old ++ (bytes ++ (map (raised_sight wall faults) raised ++ (map (put_sight wall faults) put ++ map (closed_sight wall faults) closes)))
parts wall faults raised put closes bytes old one two three saw =
    let r = map (raised_sight wall faults) raised in
    let p = map (put_sight wall faults) put in
    let c = map (closed_sight wall faults) closes in
    saw.third
    ∙ ap (λ (s : List Sight). s ++ c) (saw.second ∙ ap (λ (s : List Sight). s ++ p) saw.first)
    ∙ append_assoc ((old ++ bytes) ++ r) p c
    ∙ append_assoc (old ++ bytes) r (p ++ c)
    ∙ append_assoc old bytes (r ++ (p ++ c))

seen_event : (state : State) (moment : Moment) (event : Happening) (later : Stepped) (jobs asks : ℕ) (mid old one two three : List Sight)
    → later ≡ stepped (step state moment event) → jobs ≡ length (starts state) → asks ≡ state.under_way.link.last
    → mid ≡ old ++ goes_over moment state event
    → one ≡ mid ++ map (raised_sight moment.wall later.state.under_way.link.faults) (raised_ports event jobs later.state)
    → two ≡ one ++ map (put_sight moment.wall later.state.under_way.link.faults) (put_ports asks later.state.under_way.link)
    → three ≡ two ++ map (closed_sight moment.wall later.state.under_way.link.faults) later.closes
    → three ≡ old ++ event_sights state (at_moment moment event)
seen_event state moment event later jobs asks mid old one two three later_is jobs_are asks_are mid_is one_is two_is three_is =
    let outcome = step state moment event in
    let wall = moment.wall in
    let faults = later.state.under_way.link.faults in
    let raised : raised_ports event jobs later.state ≡ raised_in outcome.actions =
    ap (λ n. raised_ports event n later.state) jobs_are ∙ ap (λ (s : Stepped). raised_ports event (length (starts state)) s.state) later_is ∙ sym (raises-step state moment event) in
    let put : put_ports asks later.state.under_way.link ≡ put_in outcome.actions =
    ap (λ n. put_ports n later.state.under_way.link) asks_are ∙ ap (λ (s : Stepped). put_ports state.under_way.link.last s.state.under_way.link) later_is
    ∙ ap (map putter) (sym (newest-step state moment event 0)) ∙ put-ports 0 outcome.actions in
    parts wall faults (raised_ports event jobs later.state) (put_ports asks later.state.under_way.link) later.closes (goes_over moment state event) old one two three (record {
      first = one_is ∙ ap (λ (s : List Sight). s ++ map (raised_sight wall faults) (raised_ports event jobs later.state)) mid_is;
      second = two_is;
      third = three_is;
    })
    ∙ ap (λ (ports : List ℕ). old ++ (goes_over moment state event ++ (map (raised_sight wall faults) ports ++ (map (put_sight wall faults) (put_ports asks later.state.under_way.link) ++ map (closed_sight wall faults) later.closes)))) raised
    ∙ ap (λ (ports : List ℕ). old ++ (goes_over moment state event ++ (map (raised_sight wall faults) (raised_in outcome.actions) ++ (map (put_sight wall faults) ports ++ map (closed_sight wall faults) later.closes)))) put
    ∙ ap (λ (s : Stepped). old ++ (goes_over moment state event ++ (map (raised_sight wall s.state.under_way.link.faults) (raised_in outcome.actions) ++ (map (put_sight wall s.state.under_way.link.faults) (put_in outcome.actions) ++ map (closed_sight wall s.state.under_way.link.faults) s.closes)))) later_is

pub seen_step : (state : State) (moment : Moment) (event : Happening) (later : Stepped) (jobs asks : ℕ) (mid old one two three : List Sight) (result : Result (Unit {0}) AllocError)
    → later ≡ stepped (step state moment event) → jobs ≡ length (starts state) → asks ≡ state.under_way.link.last
    → mid ≡ old ++ goes_over moment state event
    → one ≡ mid ++ map (raised_sight moment.wall later.state.under_way.link.faults) (raised_ports event jobs later.state)
    → two ≡ one ++ map (put_sight moment.wall later.state.under_way.link.faults) (put_ports asks later.state.under_way.link)
    → OnOk result (three ≡ two ++ map (closed_sight moment.wall later.state.under_way.link.faults) later.closes)
    → OnOk result (three ≡ old ++ event_sights state (at_moment moment event))
seen_step state moment event later jobs asks mid old one two three (Ok done) later_is jobs_are asks_are mid_is one_is two_is three_is =
    seen_event state moment event later jobs asks mid old one two three later_is jobs_are asks_are mid_is one_is two_is three_is
seen_step state moment event later jobs asks mid old one two three (Err memory) later_is jobs_are asks_are mid_is one_is two_is three_is = tt
