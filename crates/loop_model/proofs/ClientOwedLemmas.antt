-- What an event leaves of the clients that were owed bytes.
use Rattle.std.proofs.Common.{◌≡◌, ℕ, List, [], ◌∷◌, ◌++◌, refl, ap, arith, sym, subst, ◌∙◌, Option, Some, None, Bool, true, false}
use Rattle.std.proofs.lemmas.Bool.Decides.{nat_tests}
use Rattle.std.proofs.lemmas.Bool.{eqb-true}
use Rattle.std.proofs.lemmas.List.{length-append}
use Rattle.world_ports.specs.declared.events.Moment.{Moment}
use Rattle.wire_text.specs.Frames.{More}
use Rattle.agent_model.specs.Actions.{Outcome}
use Rattle.agent_model.specs.Children.{heard_more}
use Rattle.agent_model.specs.Events.{Ended, Happening, Heard, Joined, StartFailed, Started, Tick, Took}
use Rattle.agent_model.specs.Looks.{due_front}
use Rattle.agent_model.specs.Sound.{IsRising}
use Rattle.agent_model.specs.State.{Nothing, OnAsk, OnConfirmation, Port, State, UnderWay, Waits, find_port, is_client, is_some_bytes, owed_by, owed_of}
use Rattle.agent_model.specs.Step.{handle}
use Rattle.agent_model.specs.Time.{at_moment}
use Rattle.agent_model.specs.Verdicts.{Replies, Success, verdict_text}
use Rattle.agent_model.proofs.ClientLemmas.{changed-found, handle-heard}
use Rattle.agent_model.proofs.NewsLemmas.{IsNews, proves, says, told-moment}
use Rattle.loop_model.specs.Elsewhere.{is_clients, is_of, takes_bytes}
use Rattle.loop_model.proofs.ElsewhereLemmas.{clients, owed-client}
use Rattle.loop_model.proofs.LeftLemmas.{ended_gone, held-other, never_joins}
use Rattle.loop_model.proofs.SparedLemmas.{holds-spared, same, spares-told}

-- a change of a port that leaves its door, and owes it no less than some bytes
record IsGiving (f : Port → Port) : Type 0 where
  door : (p : Port) → (f p).door ≡ p.door
  owed : (p : Port) → is_some_bytes p.owed ≡ true → is_some_bytes (f p).owed ≡ true

pub some-more : (bytes more : List ℕ) → is_some_bytes bytes ≡ true
    → is_some_bytes (bytes ++ more) ≡ true
some-more bytes more some = let long = length-append bytes more in grind (arith, nat_tests)

giving-news : (f : Port → Port) → IsNews f → IsGiving f
giving-news f (says verdict is) =
    record { door = λ p. refl; owed = λ p some. some-more p.owed (verdict_text verdict) some }
giving-news f (proves verification) =
    record { door = λ p. refl; owed = λ p some. some-more p.owed (verdict_text (Replies Success)) some }

abbrev IsOwed : Port → Type 0
IsOwed at = is_client at.door ≡ true → is_some_bytes at.owed ≡ true

owed-giving : (f : Port → Port) → IsGiving f → (p : Port) → IsOwed p → IsOwed (f p)
owed-giving f is p owed client = is.owed p (owed (sym (ap is_client (is.door p)) ∙ client))

-- of a client that is owed bytes nothing is to be taken
due-owed : (waits : Waits) (owed heard : List ℕ) → is_some_bytes owed ≡ true
    → due_front waits owed heard ≡ More
due-owed Nothing [] heard some = absurd (cc)
due-owed Nothing (byte ∷ bytes) heard some = refl
due-owed (OnAsk ask) owed heard some = refl
due-owed (OnConfirmation job) owed heard some = refl

-- a client that sent something is owed what it was
owed-heard : (number : ℕ) (piece : List ℕ) (one : Port) (state : State)
    → find_port number state.ports ≡ Some one
    → is_client one.door ≡ true → IsOwed one → (at : Port)
    → find_port number (handle (Heard number piece) state).state.ports ≡ Some at → IsOwed at
owed-heard number piece one state found client owed at there =
    let both : Some (heard_more piece one) ≡ Some at =
    sym (changed-found number one (heard_more piece) state (λ p. refl) found (due-owed one.waits one.owed (one.heard ++ piece) (owed client)))
    ∙ ap (λ (o : Outcome). find_port number o.state.ports) (sym (handle-heard number piece one state found (clients one.door client)))
    ∙ there in
    let alike : heard_more piece one ≡ at = cc in
    subst IsOwed alike owed

owed-all : (own : Bool) (event : Happening) (state : State) (port : ℕ)
    → IsRising 0 state.last_port state.ports
    → is_of event state.last_port port ≡ own → takes_bytes event port ≡ false
    → (one : Port) → find_port port state.ports ≡ Some one → is_client one.door ≡ true → IsOwed one
    → (at : Port) → find_port port (handle event state).state.ports ≡ Some at → IsOwed at
owed-all false event state port rising other silent one opened client owed at there =
    held-other IsGiving IsOwed owed-giving giving-news port event state rising other
    (λ p found. let alike : one ≡ p = (let eq : Some one ≡ Some p = sym opened ∙ found in cc) in subst IsOwed alike owed)
    at there
owed-all true (Joined door) state port rising own silent one opened client owed at there =
    absurd (never_joins port state.last_port state.ports one rising own opened)
owed-all true (Heard number piece) state port rising own silent one opened client owed at there =
    let here : port ≡ number = sym (eqb-true number port own) in
    owed-heard number piece one state (ap (λ n. find_port n state.ports) (sym here) ∙ opened) client owed at
    (ap (λ n. find_port n (handle (Heard number piece) state).state.ports) (sym here) ∙ there)
owed-all true (Ended number) state port rising own silent one opened client owed at there =
    absurd (ended_gone port number 0 state.last_port _ state rising refl own at there)
owed-all true (Took number count) state port rising own silent one opened client owed at there =
    absurd (cc)
owed-all true (Started job ticket) state port rising own silent one opened client owed at there =
    absurd (cc)
owed-all true (StartFailed job) state port rising own silent one opened client owed at there =
    absurd (cc)
owed-all true Tick state port rising own silent one opened client owed at there = absurd (cc)

found_client : (found : Option Port) → is_clients found ≡ true
    → (one : Port) × (found ≡ Some one) × (is_client one.door ≡ true)
found_client None client = absurd (cc)
found_client (Some one) client = (one, refl, client)

owed_by_found : (found : Option Port) (under_way : UnderWay) → is_clients found ≡ true
    → ((at : Port) → found ≡ Some at → IsOwed at) → is_some_bytes (owed_by found under_way) ≡ true
owed_by_found None under_way client owed = absurd (cc)
owed_by_found (Some at) under_way client owed =
    ap is_some_bytes (owed-client at.door at.number at under_way client) ∙ owed at refl client

-- a client that was owed bytes is owed some yet, while it is open
pub owed_after : (state : State) (event : Happening) (port : ℕ)
    → IsRising 0 state.last_port state.ports
    → takes_bytes event port ≡ false → is_clients (find_port port state.ports) ≡ true
    → is_some_bytes (owed_of port state) ≡ true → is_clients (find_port port (handle event state).state.ports) ≡ true
    → is_some_bytes (owed_of port (handle event state).state) ≡ true
owed_after state event port rising silent client some still =
    let one = found_client (find_port port state.ports) client in
    owed_by_found (find_port port (handle event state).state.ports) (handle event state).state.under_way still
    (λ at there. owed-all (is_of event state.last_port port) event state port rising refl silent one.0 one.1 one.2
    (is_owed state port one.0 one.1 one.2 some) at there)
  where
    is_owed : (state : State) (port : ℕ) (one : Port) → find_port port state.ports ≡ Some one
        → is_client one.door ≡ true → is_some_bytes (owed_of port state) ≡ true → IsOwed one
    is_owed state port one found client some = λ c.
        ap is_some_bytes (sym (owed-client one.door one.number one state.under_way client))
        ∙ ap (λ f. is_some_bytes (owed_by f state.under_way)) (sym found) ∙ some

-- a client that was owed bytes is owed some at a moment, before its event, while it is open
pub owed_at : (state : State) (moment : Moment) (port : ℕ) → IsRising 0 state.last_port state.ports
    → is_clients (find_port port state.ports) ≡ true → is_some_bytes (owed_of port state) ≡ true
    → is_clients (find_port port (at_moment moment state).ports) ≡ true
    → is_some_bytes (owed_of port (at_moment moment state)) ≡ true
owed_at state moment port rising client some still =
    owed_by_found (find_port port (at_moment moment state).ports) (at_moment moment state).under_way still
    (holds-spared IsGiving IsOwed owed-giving port 0 state.last_port state.ports
    (spares-told IsGiving port state.ports giving-news (told-moment moment state) same) rising
    (λ one found is.
    ap is_some_bytes (sym (owed-client one.door one.number one state.under_way is))
    ∙ ap (λ f. is_some_bytes (owed_by f state.under_way)) (sym found) ∙ some))
