-- What is told of a client, in lines of bounded lengths.
use Rattle.std.proofs.Common.{◌≡◌, ℕ, zero, suc, ◌<◌, ◌≤◌, List, [], ◌∷◌, ◌++◌, length, take, drop, map, refl, sym, ap, subst, ◌∙◌, arith, append_assoc, append-nil, Bool, true, false, Some, IfSome, is_some}
use Rattle.std.specs.Prelude.{IsSome}
use Rattle.std.specs.Option.{option_map}
use Rattle.std.proofs.lemmas.List.{length-append, length-drop, length-take, length-take-le, take-append-drop}
use Rattle.lists.specs.Rising.{is_among}
use Rattle.world_ports.specs.declared.Door.TheVariants.{Clients}
use Rattle.world_ports.specs.declared.Moment.{Moment}
use Rattle.wire_text.specs.Bounds.{longest_body}
use Rattle.wire_text.specs.Frames.{Bad, Front, More, Whole, front, front_body}
use Rattle.wire_text.specs.Wire.{IsBytes}
use Rattle.wire_text.proofs.FrontLemmas.{front-append_bad, front_says}
use Rattle.wire_text.proofs.SplitLemmas.{split-bad}
use Rattle.schedule_text.specs.declared.step.Step.TheVariants as steps
use Rattle.record_world.specs.Frames.{rest_bytes}
use Rattle.record_world.specs.Recording.{hear_steps, hold_steps, longest_piece, pieces_up_to}
use Rattle.agent_model.specs.Actions.{Outcome}
use Rattle.agent_model.specs.Binds.{agent_request_of}
use Rattle.agent_model.specs.Children.{changed, heard_more}
use Rattle.agent_model.specs.Dispatch.{serve}
use Rattle.agent_model.specs.Events.{Happening, Heard}
use Rattle.agent_model.specs.Looks.{due, due_front}
use Rattle.agent_model.specs.Sound.{IsSound}
use Rattle.agent_model.specs.State.{Nothing, OnAsk, OnConfirmation, Port, State, Waits, change_port, find_port}
use Rattle.agent_model.specs.Step.{asker_at, attempts, handle, look_front, step, take_frame}
use Rattle.agent_model.specs.Time.{GiveTime, IsOnTime, at_moment}
use Rattle.agent_model.specs.Verdicts.{tell}
use Rattle.agent_model.proofs.ClientLemmas.{handle-heard, looked-found}
use Rattle.agent_model.proofs.PartsLemmas.{parts_agree}
use Rattle.agent_model.proofs.PortsLemmas.{find_port-change_port, found_number}
use Rattle.agent_model.proofs.PromptLemmas.{step-on_time}
use Rattle.agent_model.proofs.RunLemmas.{step_keeps-sound}
use Rattle.replay_laws.specs.Lines.{events_of}
use Rattle.replay_laws.specs.Redacting.{IsRenaming}
use Rattle.replay_laws.specs.Replaying.{AllFitUnless, FitsUnless, stepped_all, stepped_unless}
use Rattle.replay_laws.specs.Telling.{IsShort, told_bytes, told_split}
use Rattle.replay_laws.proofs.KeptLemmas.{step-after, step-time}
use Rattle.replay_laws.proofs.LaterLemmas.{taken_same}
use Rattle.replay_laws.proofs.LookLemmas.{AreToldFronts, both_bad, both_more, both_whole}
use Rattle.replay_laws.proofs.TellLemmas.{told_fronts}

-- ---- where a bad length is told, nothing is told behind it

module _ (rename : List ℕ → List ℕ) (renaming : IsRenaming rename) where
  told_bad : (bytes : List ℕ) (one other : Front) (announced : ℕ)
      → AreToldFronts rename renaming (told_bytes rename) bytes one other → front longest_body bytes ≡ one
      → other ≡ Bad announced → length (told_bytes rename bytes) ≤ 4
  told_bad bytes one other announced (both_whole body_len other_len reads names after) is bad =
      absurd (cc)
  told_bad bytes one other announced (both_bad first second) is bad =
      let told : told_bytes rename bytes ≡ take 4 bytes =
      ap (told_split rename) (split-bad longest_body bytes first is) ∙ ap (λ (f : Front). rest_bytes f bytes) is in
      omega (arith, ap length told, length-take-le 4 bytes (front_says longest_body bytes (Bad first) is).0.header)
  told_bad bytes one other announced both_more is bad = absurd (cc)

  -- so of what is told no part but the whole has a bad length at its front
  pub no_bad_front : (bytes early later : List ℕ) (announced : ℕ) → IsBytes bytes
      → IsShort rename bytes
      → told_bytes rename bytes ≡ early ++ later → 0 < length later → front longest_body early ≡ Bad announced → ⊥
  no_bad_front bytes early later announced each short told some bad =
      let whole : front longest_body (told_bytes rename bytes) ≡ Bad announced =
      ap (front longest_body) told ∙ front-append_bad longest_body early later announced bad in
      let few =
      told_bad bytes (front longest_body bytes) (front longest_body (told_bytes rename bytes)) announced
      (told_fronts rename renaming bytes each short) refl whole in
      omega
      (arith, few, ap length told, length-append early later, some, (front_says longest_body early (Bad announced) bad).0.header)

-- ---- a client whose bytes begin with no bad length stays open

due_bad : (waits : Waits) (owed bytes : List ℕ) (announced : ℕ)
    → due_front waits owed bytes ≡ Bad announced
    → front longest_body bytes ≡ Bad announced
due_bad Nothing [] bytes announced bad = bad
due_bad Nothing (byte ∷ owed) bytes announced bad = absurd (cc)
due_bad (OnAsk ask) owed bytes announced bad = absurd (cc)
due_bad (OnConfirmation job) owed bytes announced bad = absurd (cc)

front_open : (answer : Front) (port : Port) (state : State)
    → find_port port.number state.ports ≡ Some port
    → ((announced : ℕ) → answer ≡ Bad announced → ⊥)
    → IsSome (find_port port.number (look_front answer port state).state.ports)
front_open (Whole body_len) port state found fine =
    let frame : Port → Port = take_frame body_len (attempts state.held.lock (front_body body_len port.heard)) in
    let verdict =
    (serve (agent_request_of (front_body body_len port.heard)) (asker_at state.moment port) state.held state.under_way).work.verdict in
    ap is_some (find_port-change_port port.number (tell verdict) (change_port port.number frame state.ports) (λ p. refl)
    ∙ ap (option_map (tell verdict))
    (find_port-change_port port.number frame state.ports (λ p. refl) ∙ ap (option_map frame) found))
front_open (Bad announced) port state found fine = absurd (fine announced refl)
front_open More port state found fine = ap is_some found

pub stays_open : (number : ℕ) (piece : List ℕ) (port : Port) (state : State)
    → find_port number state.ports ≡ Some port → port.door ≡ Clients
    → ((announced : ℕ) → front longest_body (port.heard ++ piece) ≡ Bad announced → ⊥)
    → IsSome (find_port number (handle (Heard number piece) state).state.ports)
stays_open number piece port state found client fine =
    let more : Port = heard_more piece port in
    let next : State = changed number (heard_more piece) state in
    let there : find_port number next.ports ≡ Some more =
    find_port-change_port number (heard_more piece) state.ports (λ p. refl)
    ∙ ap (option_map (heard_more piece)) found in
    let own : more.number ≡ number = found_number number next.ports more there in
    let left =
    front_open (due more) more next (ap (λ n. find_port n next.ports) own ∙ there)
    (λ announced bad. fine announced (due_bad port.waits port.owed (port.heard ++ piece) announced bad)) in
    let is : handle (Heard number piece) state ≡ look_front (due more) more next =
    handle-heard number piece port state found client ∙ looked-found number more next (due more) there refl in
    subst (λ n. IsSome (find_port n (handle (Heard number piece) state).state.ports)) own
    (subst (λ (o : Outcome). IsSome (find_port more.number o.state.ports)) (sym is) left)

-- ---- lines

-- holding a port is no event
pub held_events : (is_held : Bool) (number : ℕ) (bytes : List ℕ)
    → events_of (hold_steps is_held number bytes) ≡ events_of (hear_steps number bytes)
held_events is_held number [] = refl
held_events true number (byte ∷ bytes) = refl
held_events false number (byte ∷ bytes) = refl

-- the events of bytes in at most so many pieces
abbrev pub heard_up_to : ℕ → ℕ → List ℕ → List Happening
heard_up_to number count bytes =
    events_of (map (λ piece. steps.Hear number piece) (pieces_up_to count bytes))

-- a state that an event of this moment led to
pub record IsFresh (moment : Moment) (state : State) : Type 0 where
  pub on_time : IsOnTime moment state
  pub after : moment.mono ≤ state.moment.mono
  pub sound : IsSound state
  pub time : GiveTime state.under_way.limits

pub step_fresh : (moment : Moment) (event : Happening) (state : State) → IsSound state
    → GiveTime state.under_way.limits → IsFresh moment (step state moment event).state
step_fresh moment event state sound time = record {
  on_time = step-on_time moment state event time;
  after = step-after state moment event;
  sound = step_keeps-sound state moment event sound;
  time = step-time state moment event time;
}

module _ (moment : Moment) (start : State) (number : ℕ) (port : Port) (closed : List ℕ)
    (open_yet : is_among number closed ≡ false) (time : GiveTime start.under_way.limits)
    (again : at_moment moment start ≡ start) (sound : IsSound start)
    (found : find_port number start.ports ≡ Some port) (client : port.door ≡ Clients) (all : List ℕ)
    (fine : (early later : List ℕ) (announced : ℕ) → all ≡ early ++ later → 0 < length later → front longest_body (port.heard ++ early) ≡ Bad announced → ⊥) where
  -- the state after these bytes in one piece
  abbrev after : List ℕ → State
  after early = (step start moment (Heard number early)).state

  cut : (early piece : List ℕ)
      → at_moment moment (after (early ++ piece))
      ≡ at_moment moment (step (after early) moment (Heard number piece)).state
  cut early piece =
      (parts_agree start moment number early piece time (subst IsSound (sym again) sound)
      (subst (λ f. IfSome f (λ p. p.door ≡ Clients)) (sym (ap (λ (s : State). find_port number s.ports) again ∙ found)) client)).state

  -- the events fit, and led to a state that this moment can't tell from the one after all in one piece
  abbrev Lines : ℕ → List ℕ → State → Type 0
  Lines count bytes state =
      AllFitUnless moment closed (heard_up_to number count bytes) state
      × IsFresh moment (stepped_all moment closed (heard_up_to number count bytes) state)
      ×
      (at_moment moment (stepped_all moment closed (heard_up_to number count bytes) state) ≡ at_moment moment (after all))

  ended : (early bytes : List ℕ) (state : State) → bytes ≡ [] → all ≡ early ++ bytes
      → at_moment moment state ≡ at_moment moment (after early)
      → at_moment moment state ≡ at_moment moment (after all)
  ended early bytes state none whole same =
      same
      ∙ ap (λ l. at_moment moment (after l)) (sym (append-nil early) ∙ ap (λ l. early ++ l) (sym none) ∙ sym whole)

  -- a piece, and what comes behind it
  abbrev Behind : Bool → ℕ → ℕ → List ℕ → State → Type 0
  Behind passed count byte bytes state =
      (FitsUnless passed (Heard number (take longest_piece (byte ∷ bytes))) state
      × AllFitUnless moment closed (heard_up_to number count (drop longest_piece (byte ∷ bytes)))
      (stepped_unless passed moment (Heard number (take longest_piece (byte ∷ bytes))) state))
      × IsFresh moment
      (stepped_all moment closed (heard_up_to number count (drop longest_piece (byte ∷ bytes))) (stepped_unless passed moment (Heard number (take longest_piece (byte ∷ bytes))) state))
      ×
      (at_moment moment (stepped_all moment closed (heard_up_to number count (drop longest_piece (byte ∷ bytes))) (stepped_unless passed moment (Heard number (take longest_piece (byte ∷ bytes))) state)) ≡ at_moment moment (after all))

  next_lines : (count byte : ℕ) (bytes : List ℕ) (state : State)
      → IsSome (find_port number state.ports)
      → Lines count (drop longest_piece (byte ∷ bytes)) (step state moment (Heard number (take longest_piece (byte ∷ bytes)))).state
      → Lines (suc count) (byte ∷ bytes) state
  next_lines count byte bytes state there later =
      subst (λ passed. Behind passed count byte bytes state) (sym open_yet)
      (((there, omega (arith, length-take longest_piece (byte ∷ bytes))), later.0), later.1, later.2)

  -- whoever comes behind a part finds the port open
  open_after : (early bytes : List ℕ) (state : State) → all ≡ early ++ bytes → IsFresh moment state
      → at_moment moment state ≡ at_moment moment (after early) → 0 < length bytes
      → IsSome (find_port number state.ports)
  open_after early bytes state whole fresh same some =
      let one =
      taken_same moment state (after early) fresh.on_time (step-on_time moment start (Heard number early) time) same in
      let left = stays_open number early port start found client (λ announced. fine early bytes announced whole some) in
      let is : (after early).ports ≡ (handle (Heard number early) start).state.ports =
      ap (λ (s : State). (handle (Heard number early) s).state.ports) again in
      ap is_some (ap (λ (s : State). find_port number s.ports) one ∙ ap (find_port number) is) ∙ left

  whole_behind : (early bytes : List ℕ) → all ≡ early ++ bytes
      → all ≡ (early ++ take longest_piece bytes) ++ drop longest_piece bytes
  whole_behind early bytes whole =
      whole ∙ ap (λ l. early ++ l) (sym (take-append-drop longest_piece bytes))
      ∙ sym (append_assoc early (take longest_piece bytes) (drop longest_piece bytes))

  go : (count : ℕ) (early bytes : List ℕ) (state : State) → length bytes ≤ count
      → all ≡ early ++ bytes
      → IsFresh moment state → at_moment moment state ≡ at_moment moment (after early) → Lines count bytes state
  go zero early [] state few whole fresh same = (tt, fresh, ended early [] state refl whole same)
  go zero early (byte ∷ bytes) state few whole fresh same = absurd (omega (arith, few))
  go (suc count) early [] state few whole fresh same =
      (tt, fresh, ended early [] state refl whole same)
  go (suc count) early (byte ∷ bytes) state few whole fresh same =
      let piece = take longest_piece (byte ∷ bytes) in
      let rest = drop longest_piece (byte ∷ bytes) in
      next_lines count byte bytes state (open_after early (byte ∷ bytes) state whole fresh same (omega arith))
      (go count (early ++ piece) rest (step state moment (Heard number piece)).state
      (omega (arith, few, length-drop longest_piece (byte ∷ bytes)))
      (whole_behind early (byte ∷ bytes) whole)
      (step_fresh moment (Heard number piece) state fresh.sound fresh.time)
      (ap (λ (s : State). at_moment moment (handle (Heard number piece) s).state) same ∙ sym (cut early piece)))

  -- all of what is told in one event
  pub lines_come : (byte : ℕ) (bytes : List ℕ) → all ≡ byte ∷ bytes
      → Lines (length (byte ∷ bytes)) (byte ∷ bytes) start
  lines_come byte bytes whole =
      let piece = take longest_piece (byte ∷ bytes) in
      let rest = drop longest_piece (byte ∷ bytes) in
      next_lines (length bytes) byte bytes start (ap is_some found)
      (go (length bytes) piece rest (after piece)
      (omega (arith, length-drop longest_piece (byte ∷ bytes)))
      (whole ∙ sym (take-append-drop longest_piece (byte ∷ bytes)))
      (step_fresh moment (Heard number piece) start sound time)
      refl)
