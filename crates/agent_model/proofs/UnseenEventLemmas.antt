-- A key that the asker doesn't see makes no difference to what comes of what it sends.
use Rattle.std.proofs.Common.{◌≡◌, ◌≢◌, ℕ, List, [], ◌∷◌, ◌++◌, refl, ap, sym, subst, ◌∙◌, max, Option, Some, None, Bool, true, false, cond, Result, Ok, Err}
use Rattle.std.proofs.lemmas.List.Elements.{filter-append}
use Rattle.std.specs.Option.{option_map}
use Rattle.lists.specs.Keyed.{has_key}
use Rattle.lists.proofs.FirstLemmas.{changed_nowhere, find-filter_none}
use Rattle.world_ports.specs.declared.Door.TheVariants.{Clients}
use Rattle.world_ports.specs.declared.Moment.{Moment}
use Rattle.wire_text.specs.Frames.{Front, Whole, Bad, More, front_body}
use Rattle.identity_table.specs.Identities.{HeldKey, alive_at, find_identity, has_blob}
use Rattle.identity_table.specs.Deaths.{lives_at}
use Rattle.agent_msg.specs.declared.fault.MsgFault.{MsgFault}
use Rattle.agent_msg.specs.Requests.{Add, Addition, ClientRequest}
use Rattle.dest_rule.specs.Rules.{visible}
use Rattle.confirm_desk.specs.Confirmations.{Confirmation}
use Rattle.agent_model.specs.Actions.{Work, and_then}
use Rattle.agent_model.specs.Answers.{lose, lose_where}
use Rattle.agent_model.specs.Binds.{agent_request_of}
use Rattle.agent_model.specs.Children.{changed, heard_more}
use Rattle.agent_model.specs.Consents.{over, over_if}
use Rattle.agent_model.specs.Dispatch.{Asker, sees, serve, with_identities}
use Rattle.agent_model.specs.Events.{Happening, Heard, Took}
use Rattle.agent_model.specs.KeyStates.{KeyState, expired}
use Rattle.agent_model.specs.Looks.{due}
use Rattle.agent_model.specs.State.{Port, State, UnderWay, change_port, find_port, number_of}
use Rattle.agent_model.specs.Step.{asker_at, attempts, handle, look_front, looked, step, take_frame, took_some}
use Rattle.agent_model.specs.Time.{all_over, at_moment, end_late, first_late, is_helper_late, taken_in}
use Rattle.agent_model.specs.Unseen.{IsSameFor, IsSameReply, holding}
use Rattle.agent_model.specs.Verdicts.{Verdict, tell, verdict_text, verdict_waits}
use Rattle.agent_model.proofs.ClientLemmas.{handle-heard, handle-took, looked-found}
use Rattle.agent_model.proofs.PortsLemmas.{change_port-by, find_port-change_port}
use Rattle.agent_model.proofs.OnTimeLemmas.{at_moment-moment}
use Rattle.agent_model.proofs.TimeLemmas.{time_passes-put}
use Rattle.agent_model.proofs.UnseenLemmas.{same_work, unseen-reply}

-- ---- a client is looked at

-- it is told the same
told_alike : (one two : Verdict) (p : Port) → verdict_text one ≡ verdict_text two
    → verdict_waits one ≡ verdict_waits two → tell one p ≡ tell two p
told_alike one two p text waits = ap (λ t. let q : Port = record p { owed = p.owed ++ t; waits = verdict_waits one } in q) text ∙ ap (λ w. let q : Port = record p { owed = p.owed ++ verdict_text two; waits = w } in q) waits

-- among all ports
told_ports : (one two : Verdict) (number : ℕ) (ports : List Port)
    → verdict_text one ≡ verdict_text two → verdict_waits one ≡ verdict_waits two
    → change_port number (tell one) ports ≡ change_port number (tell two) ports
told_ports one two number ports text waits = by_found (find_port number ports) refl
  where
    by_found : (found : Option Port) → find_port number ports ≡ found
        → change_port number (tell one) ports ≡ change_port number (tell two) ports
    by_found None is = changed_nowhere (has_key number_of number) (tell one) ports is ∙ sym (changed_nowhere (has_key number_of number) (tell two) ports is)
    by_found (Some port) is = change_port-by number (tell one) (tell two) ports port is (told_alike one two port text waits)

-- what comes of its body is the same
abbrev pub IsSameServed : (one two : KeyState) → Asker → UnderWay → List ℕ → Type 0
IsSameServed one two asker under_way body =
    IsSameReply (serve (agent_request_of body) asker one under_way).work (serve (agent_request_of body) asker two under_way).work

module _ (port : Port) (state : State) (one two : KeyState) (locks : one.lock ≡ two.lock) where
  abbrev with : KeyState → State
  with held = record state { held = held }

  same_front : (answer : Front)
      → ((body_len : ℕ) → answer ≡ Whole body_len → IsSameServed one two (asker_at state.moment port) state.under_way (front_body body_len port.heard))
      → IsSameFor (look_front answer port (with one)) (look_front answer port (with two))
  same_front (Whole body_len) served =
      let body : List ℕ = front_body body_len port.heard in
      let is = served body_len refl in
      let first : Work = (serve (agent_request_of body) (asker_at state.moment port) one state.under_way).work in
      let second : Work = (serve (agent_request_of body) (asker_at state.moment port) two state.under_way).work in
      record {
        ports = ap (λ lock. change_port port.number (tell first.verdict) (change_port port.number (take_frame body_len (attempts lock body)) state.ports)) locks
            ∙ told_ports first.verdict second.verdict port.number _ is.text is.waits;
        under_way = is.under_way;
        put = is.put;
      }
  same_front (Bad announced) served = record { ports = refl; under_way = refl; put = refl }
  same_front More served = record { ports = refl; under_way = refl; put = refl }

same_looked : (number : ℕ) (port : Port) (state : State) (one two : KeyState) → one.lock ≡ two.lock
    → find_port number state.ports ≡ Some port
    → ((body_len : ℕ) → due port ≡ Whole body_len → IsSameServed one two (asker_at state.moment port) state.under_way (front_body body_len port.heard))
    → IsSameFor (looked number (record state { held = one })) (looked number (record state { held = two }))
same_looked number port state one two locks found served =
    subst (λ o. IsSameFor o (looked number (record state { held = two }))) (sym (looked-found number port (record state { held = one }) (due port) found refl))
    (subst (IsSameFor (look_front (due port) port (record state { held = one }))) (sym (looked-found number port (record state { held = two }) (due port) found refl))
    (same_front port state one two locks (due port) served))

-- ---- identities that leave

alive-append : (second : ℕ) (some more : List HeldKey)
    → alive_at second (some ++ more) ≡ alive_at second some ++ alive_at second more
unfolding alive_at
alive-append second some more = filter-append (λ key. lives_at second key.death) some more

alive-cons : (second : ℕ) (key : HeldKey) (keys : List HeldKey)
    → alive_at second (key ∷ keys) ≡ cond (lives_at second key.death) (key ∷ alive_at second keys) (alive_at second keys)
unfolding alive_at
alive-cons second key keys = refl

-- a blob that finds nothing finds nothing among those that stay
alive-absent : (blob : List ℕ) (second : ℕ) (keys : List HeldKey) → find_identity blob keys ≡ None
    → find_identity blob (alive_at second keys) ≡ None
unfolding alive_at find_identity
alive-absent blob second keys none =
    find-filter_none (has_blob blob) (λ key. lives_at second key.death) keys none

-- those that stay of the lists with the key and without: the key is one more, or it left
pub data Stays (key : HeldKey) : (with without : List HeldKey) → Type 0 where
  stays : (before after : List HeldKey) → find_identity key.blob (before ++ after) ≡ None
      → Stays key (before ++ key ∷ after) (before ++ after)
  left : (keys : List HeldKey) → Stays key keys keys

stays-by : (second : ℕ) (key : HeldKey) (before after : List HeldKey)
    → find_identity key.blob (before ++ after) ≡ None
    → Stays key (alive_at second (before ++ key ∷ after)) (alive_at second (before ++ after))
stays-by second key before after alone =
    subst (λ keys. Stays key keys (alive_at second (before ++ after))) (sym (alive-append second before (key ∷ after) ∙ ap (λ rest. alive_at second before ++ rest) (alive-cons second key after)))
    (subst (Stays key (alive_at second before ++ cond (lives_at second key.death) (key ∷ alive_at second after) (alive_at second after))) (sym (alive-append second before after)) (by_test (lives_at second key.death)))
  where
    by_test : (lives : Bool)
        → Stays key (alive_at second before ++ cond lives (key ∷ alive_at second after) (alive_at second after)) (alive_at second before ++ alive_at second after)
    by_test true = stays (alive_at second before) (alive_at second after) (ap (find_identity key.blob) (sym (alive-append second before after)) ∙ alive-absent key.blob second (before ++ after) alone)
    by_test false = left (alive_at second before ++ alive_at second after)

-- ---- what a client sends

module _ (asker : Asker) (key : HeldKey) (held : KeyState) (under_way : UnderWay) (unseen : sees asker key ≡ false) where
  served_read : (read : Result ClientRequest MsgFault) (before after : List HeldKey)
      → find_identity key.blob (before ++ after) ≡ None
      → ((addition : Addition) → read ≢ Ok (Add addition))
      → IsSameReply (serve read asker (with_identities (before ++ key ∷ after) held) under_way).work (serve read asker (with_identities (before ++ after) held) under_way).work
  served_read (Ok request) before after alone other = unseen-reply asker key before after held under_way unseen alone request (λ addition is. other addition (ap Ok is))
  served_read (Err fault) before after alone other = same_work _

  served_alike : {with without : List HeldKey} (body : List ℕ) → Stays key with without
      → ((addition : Addition) → agent_request_of body ≢ Ok (Add addition))
      → IsSameServed (with_identities with held) (with_identities without held) asker under_way body
  served_alike body (stays before after alone) other =
      served_read (agent_request_of body) before after alone other
  served_alike body (left keys) other = same_work _

-- ---- what a moment brings

-- the agent holds this
abbrev keeping : KeyState → State → State
keeping held state = record state { held = held }

-- ends don't look at what is held
all_over-keeping : (all : List Confirmation) (held : KeyState) (state : State)
    → (all_over all (keeping held state)).state ≡ keeping held (all_over all state).state
all_over-keeping [] held state = refl
all_over-keeping (one ∷ others) held state = by_found (first_late state.under_way) (all_over-keeping others held)
  where
    by_found : (found : Option Confirmation)
        → ((s : State) → (all_over others (keeping held s)).state ≡ keeping held (all_over others s).state)
        → (and_then (over_if found (keeping held state)) (all_over others)).state ≡ keeping held (and_then (over_if found state) (all_over others)).state
    by_found None rest = rest state
    by_found (Some late) rest = rest (over late state).state

-- the monotonic second of a moment
abbrev now_at : Moment → State → ℕ
now_at moment state = max state.moment.mono moment.mono

-- nor does a moment, but for what leaves of it
at_moment-keeping : (moment : Moment) (held : KeyState) (state : State)
    → at_moment moment (keeping held state) ≡ keeping (expired (now_at moment state) held) (at_moment moment state)
at_moment-keeping moment held state = by_late (is_helper_late (taken_in moment state).under_way)
  where
    left : KeyState
    left = expired (now_at moment state) held

    by_late : (is : Bool)
        → (and_then (lose_where is (keeping left (taken_in moment state))) end_late).state ≡ keeping left (and_then (lose_where is (taken_in moment state)) end_late).state
    by_late true =
        all_over-keeping (lose (taken_in moment state)).state.under_way.confirmations left (lose (taken_in moment state)).state
    by_late false = all_over-keeping (taken_in moment state).under_way.confirmations left (taken_in moment state)

-- ---- a client is looked at once its port is changed so, and no addition is taken of it

module _ (state : State) (moment : Moment) (number : ℕ) (port : Port) (key : HeldKey) (before after : List HeldKey) (found : find_port number (at_moment moment state).ports ≡ Some port) (alone : find_identity key.blob (before ++ after) ≡ None) where
  -- behind the moment, without what left
  abbrev opened : State
  opened = keeping (expired (now_at moment state) state.held) (at_moment moment state)

  -- with the key, and without it
  abbrev opened_more : State
  opened_more = holding (alive_at (now_at moment state) (before ++ key ∷ after)) opened

  abbrev opened_less : State
  opened_less = holding (alive_at (now_at moment state) (before ++ after)) opened

  more_is : at_moment moment (holding (before ++ key ∷ after) state) ≡ opened_more
  more_is = at_moment-keeping moment (with_identities (before ++ key ∷ after) state.held) state

  less_is : at_moment moment (holding (before ++ after) state) ≡ opened_less
  less_is = at_moment-keeping moment (with_identities (before ++ after) state.held) state

  -- what comes of an event is what it brings behind the moment
  stepped : (event : Happening) → IsSameFor (handle event opened_more) (handle event opened_less)
      → IsSameFor (step (holding (before ++ key ∷ after) state) moment event) (step (holding (before ++ after) state) moment event)
  stepped event same =
      let one : State = holding (before ++ key ∷ after) state in
      let two : State = holding (before ++ after) state in
      record {
        ports = ap (λ (s : State). (handle event s).state.ports) more_is ∙ same.ports ∙ ap (λ (s : State). (handle event s).state.ports) (sym less_is);
        under_way = ap (λ (s : State). (handle event s).state.under_way) more_is ∙ same.under_way ∙ ap (λ (s : State). (handle event s).state.under_way) (sym less_is);
        put = ap (λ bodies. bodies ++ (handle event (at_moment moment one)).put) (time_passes-put moment one)
            ∙ ap (λ (s : State). (handle event s).put) more_is ∙ same.put ∙ ap (λ (s : State). (handle event s).put) (sym less_is)
            ∙ ap (λ bodies. bodies ++ (handle event (at_moment moment two)).put) (sym (time_passes-put moment two));
      }

  looks_alike : (f : Port → Port) → ((p : Port) → (f p).number ≡ p.number)
      → sees (asker_at opened.moment (f port)) key ≡ false
      → ((body_len : ℕ) (addition : Addition) → due (f port) ≡ Whole body_len → agent_request_of (front_body body_len (f port).heard) ≢ Ok (Add addition))
      → IsSameFor (looked number (changed number f opened_more)) (looked number (changed number f opened_less))
  looks_alike f numbers unseen other =
      let more : State = changed number f opened in
      let there : find_port number more.ports ≡ Some (f port) = find_port-change_port number f opened.ports numbers ∙ ap (option_map f) found in
      same_looked number (f port) more _ _ refl there
      (λ body_len is. served_alike (asker_at more.moment (f port)) key more.held more.under_way unseen (front_body body_len (f port).heard) (stays-by (now_at moment state) key before after alone) (λ addition. other body_len addition is))

  module _ (door : port.door ≡ Clients) (unseen : visible key.rules port.chain port.attempted moment.wall ≡ false) where
    unseen_now : visible key.rules port.chain port.attempted opened.moment.wall ≡ false
    unseen_now = ap (λ (m : Moment). visible key.rules port.chain port.attempted m.wall) (at_moment-moment moment state) ∙ unseen

    -- it sent more
    pub unseen-heard : (piece : List ℕ)
        → ((body_len : ℕ) (addition : Addition) → due (heard_more piece port) ≡ Whole body_len → agent_request_of (front_body body_len (port.heard ++ piece)) ≢ Ok (Add addition))
        → IsSameFor (step (holding (before ++ key ∷ after) state) moment (Heard number piece)) (step (holding (before ++ after) state) moment (Heard number piece))
    unseen-heard piece other =
        stepped (Heard number piece)
        (subst (λ o. IsSameFor o (handle (Heard number piece) opened_less)) (sym (handle-heard number piece port opened_more found door))
        (subst (IsSameFor (looked number (changed number (heard_more piece) opened_more))) (sym (handle-heard number piece port opened_less found door))
        (looks_alike (heard_more piece) (λ p. refl) unseen_now other)))

    -- it took bytes
    pub unseen-took : (count : ℕ)
        → ((body_len : ℕ) (addition : Addition) → due (took_some count port) ≡ Whole body_len → agent_request_of (front_body body_len port.heard) ≢ Ok (Add addition))
        → IsSameFor (step (holding (before ++ key ∷ after) state) moment (Took number count)) (step (holding (before ++ after) state) moment (Took number count))
    unseen-took count other =
        stepped (Took number count)
        (subst (λ o. IsSameFor o (handle (Took number count) opened_less)) (sym (handle-took number count port opened_more found door))
        (subst (IsSameFor (looked number (changed number (took_some count) opened_more))) (sym (handle-took number count port opened_less found door))
        (looks_alike (took_some count) (λ p. refl) unseen_now other)))
