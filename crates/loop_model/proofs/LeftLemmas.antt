-- What an event leaves of the ports that were to be read.
use Rattle.std.proofs.Common.{◌≡◌, ℕ, suc, ◌≤◌, List, [], ◌∷◌, drop, refl, ap, arith, sym, subst, ◌∙◌, ◌==◌, Option, Some, None, Bool, true, false, is_some, not, ◌||◌}
use Rattle.std.proofs.lemmas.Bool.{eq-eqb, eqb-true}
use Rattle.std.proofs.lemmas.Bool.Decides.{nat_tests}
use Rattle.std.proofs.lemmas.List.{drop_all}
use Rattle.world_ports.specs.declared.events.Door.{Door}
use Rattle.world_ports.specs.declared.events.Door.TheVariants.{Clients, Children}
use Rattle.world_ports.specs.declared.events.Moment.{Moment}
use Rattle.wire_text.specs.Bounds.{longest_body}
use Rattle.wire_text.specs.Frames.{Bad, Front, More, Whole, front}
use Rattle.confirm_desk.specs.Confirmations.{Confirmation, find_asker}
use Rattle.agent_model.specs.Actions.{Outcome}
use Rattle.agent_model.specs.Children.{closed}
use Rattle.agent_model.specs.Consents.{over_if}
use Rattle.agent_model.specs.Events.{Ended, Happening, Heard, Joined, StartFailed, Started, Tick, Took}
use Rattle.agent_model.specs.Looks.{due_front}
use Rattle.agent_model.specs.Sound.{IsRising, IsTied}
use Rattle.agent_model.specs.State.{Client, Confirmer, Helper, Nothing, OnAsk, OnConfirmation, Port, Role, State, Unnamed, Waits, find_port, is_client, is_more, is_open, is_settled, is_some_bytes, remove_port, role_of, wants, wants_more, wants_by}
use Rattle.agent_model.specs.Step.{ended_at, ended_by_role, handle, has_room, step, took_some}
use Rattle.agent_model.specs.Time.{at_moment}
use Rattle.agent_model.proofs.ClientLemmas.{changed-found, handle-took, took-child}
use Rattle.agent_model.proofs.MakeLemmas.{by_event_as}
use Rattle.agent_model.proofs.PortsLemmas.{find_port-remove_port, found_number, found_within}
use Rattle.agent_model.proofs.RunLemmas.{leads-absent}
use Rattle.agent_model.proofs.NewsLemmas.{IsNews, Told, told-leads, told-lose, told-moment, told-over, untold}
use Rattle.loop_model.specs.Elsewhere.{brings_bytes, is_of}
use Rattle.loop_model.proofs.ElsewhereLemmas.{IsSilent, find-admitted, silent-news, wanted-more}
use Rattle.loop_model.proofs.MomentLemmas.{rising-moment}
use Rattle.loop_model.proofs.SettledLemmas.{AtRest, Rests, rests-moment, rests-other}
use Rattle.loop_model.proofs.SparedLemmas.{elsewhere, holds-spared, same, spared-makes, spares-told}
use Rattle.loop_model.proofs.TestLemmas.{and_both}

-- a port that joins wasn't open
pub never_joins : (port last : ℕ) (ports : List Port) (at : Port) → IsRising 0 last ports
    → (suc last == port) ≡ true
    → find_port port ports ≡ Some at → ⊥
never_joins port last ports at rising is found =
    let within : port ≤ last = found_within port 0 last ports at rising found in
    let next : suc last ≡ port = eqb-true (suc last) port is in
    omega (arith, within, next)

-- the port of this number among these is good, if it is open
abbrev pub Held : (Port → Type 0) → ℕ → List Port → Type 0
Held Good port ports = (at : Port) → find_port port ports ≡ Some at → Good at

module _
    (IsQuiet : (Port → Port) → Type 0)
    (Good : Port → Type 0)
    (keep : (f : Port → Port) → IsQuiet f → (p : Port) → Good p → Good (f p))
    (quiet-news : (f : Port → Port) → IsNews f → IsQuiet f)
    (port : ℕ)
  where
    -- ---- an event of another port

    pub held-other : (event : Happening) (state : State) → IsRising 0 state.last_port state.ports
        → is_of event state.last_port port ≡ false → Held Good port state.ports
        → Held Good port (handle event state).state.ports
    held-other event state rising other good =
        by_event_as (λ outcome. Held Good port outcome.state.ports) event state
        (λ door is at found.
        good at
        (sym (find-admitted (has_room door state.ports state.under_way) port (suc state.last_port) door state.ports (sym (ap (λ e. is_of e state.last_port port) is) ∙ other))
        ∙ found))
        (λ outcome makes.
        holds-spared IsQuiet Good keep port 0 state.last_port state.ports
        (spared-makes IsQuiet port state.ports quiet-news event (elsewhere event state.last_port port other) makes same) rising good)

-- ---- a port that ended isn't open

ended_told : (number : ℕ) (role : Role) (state : State)
    → Told (closed number state).ports (ended_by_role role number state).state.ports
ended_told number Client state = by_found (find_asker number state.under_way.confirmations)
  where
    by_found : (found : Option Confirmation)
        → Told (closed number state).ports (over_if found (closed number state)).state.ports
    by_found None = untold
    by_found (Some confirmation) =
        told-over (closed number state).ports confirmation (closed number state) untold
ended_told number Unnamed state = untold
ended_told number Helper state = told-lose (closed number state).ports (closed number state) untold
ended_told number (Confirmer confirmation) state =
    told-over (closed number state).ports confirmation (closed number state) untold

pub ended_gone : (port number low high : ℕ) (found : Option Port) (state : State)
    → IsRising low high state.ports
    → find_port number state.ports ≡ found → (number == port) ≡ true → (at : Port)
    → find_port port (ended_at found state).state.ports ≡ Some at → ⊥
ended_gone port number low high None state rising is own at there =
    let here : number ≡ port = eqb-true number port own in
    let none : find_port port state.ports ≡ None = ap (λ n. find_port n state.ports) (sym here) ∙ is in
    let no : None ≡ Some at = sym none ∙ there in
    absurd (cc)
ended_gone port number low high (Some one) state rising is own at there =
    let here : number ≡ port = eqb-true number port own in
    let own_number : one.number ≡ port = found_number number state.ports one is ∙ here in
    let gone : find_port port (remove_port one.number state.ports) ≡ None =
    ap (λ n. find_port port (remove_port n state.ports)) own_number
    ∙ find_port-remove_port port low high state.ports rising in
    let no : None ≡ Some at =
    sym (leads-absent port (closed one.number state).ports (told-leads (ended_told one.number (role_of one.door one.number state.under_way) state)) gone)
    ∙ there in
    absurd (cc)

-- it is closed
pub ended_closed : (state : State) (moment : Moment) (port : ℕ)
    → IsRising 0 state.last_port state.ports
    → is_open port (step state moment (Ended port)).state ≡ false
ended_closed state moment port rising =
    let begun = at_moment moment state in
    none_open (find_port port (step state moment (Ended port)).state.ports)
    (ended_gone port port 0 begun.last_port (find_port port begun.ports) begun (rising-moment moment state rising) refl
    (eq-eqb port port refl))
  where
    none_open : (found : Option Port) → ((at : Port) → found ≡ Some at → ⊥) → is_some found ≡ false
    none_open None never = refl
    none_open (Some at) never = absurd (never at refl)

-- ---- what was to be read

abbrev IsWanted : Port → Type 0
IsWanted at = wants_by (Some at) ≡ true

-- it is to be read by its door and by what it has sent, where it counts as settled or not
abbrev IsWantedAs : Bool → Port → Type 0
IsWantedAs settled at = wants_more at.door settled at.heard ≡ true

wanted-silent : (settled : Bool) (f : Port → Port) → IsSilent f → (p : Port) → IsWantedAs settled p
    → IsWantedAs settled (f p)
wanted-silent settled f is p wanted =
    ap (λ d. wants_more d settled (f p).heard) (is.door p) ∙ ap (wants_more p.door settled) (is.heard p) ∙ wanted

-- a client that is settled waits for nothing and is owed nothing
settled_rests : (waits : Waits) (owed : List ℕ) → is_settled waits owed ≡ true
    → (waits ≡ Nothing) × (owed ≡ [])
settled_rests Nothing [] is = (refl, refl)
settled_rests Nothing (byte ∷ bytes) is = absurd (grind (arith, nat_tests))
settled_rests (OnAsk ask) owed is = absurd (cc)
settled_rests (OnConfirmation job) owed is = absurd (cc)

-- the other way round
rests_settled : (at : Port) → AtRest at → is_settled at.waits at.owed ≡ true
rests_settled at rest = ap (λ w. is_settled w at.owed) rest.waits ∙ ap (is_settled Nothing) rest.owed

module _
    (port : ℕ)
    (old new : List Port)
    (keep : (Good : Port → Type 0) → ((f : Port → Port) → IsSilent f → (p : Port) → Good p → Good (f p))
    → Held Good port old → Held Good port new)
    (rests : Rests port old → Rests port new)
  where
    -- where others are told something, and who is settled is told nothing, a port that was to be read is to be read yet
    wanted-kept : (one : Port) → find_port port old ≡ Some one → IsWanted one → Held IsWanted port new
    wanted-kept one there wanted at found = by_door one.door refl
      where
        as_one : (Good : Port → Type 0) → Good one → Held Good port old
        as_one Good good p is =
            let both : Some one ≡ Some p = sym there ∙ is in
            let same : one ≡ p = cc in
            subst Good same good

        is_wanted : (settled : Bool) → is_settled one.waits one.owed ≡ settled
            → (settled ≡ true → is_settled at.waits at.owed ≡ true) → IsWanted at
        is_wanted settled is stays =
            wanted-more at.door settled (is_settled at.waits at.owed) at.heard stays
            (keep (IsWantedAs settled) (wanted-silent settled)
            (as_one (IsWantedAs settled) (ap (λ b. wants_more one.door b one.heard) (sym is) ∙ wanted)) at found)

        by_settled : (settled : Bool) → one.door ≡ Clients → is_settled one.waits one.owed ≡ settled
            → IsWanted at
        by_settled true client is =
            let both = settled_rests one.waits one.owed is in
            is_wanted true is (λ yes.
            rests_settled at (rests (as_one AtRest record { door = client; waits = both.0; owed = both.1 }) at found))
        by_settled false client is = is_wanted false is (λ never. absurd (cc))

        by_door : (door : Door) → one.door ≡ door → IsWanted at
        by_door Clients is = by_settled (is_settled one.waits one.owed) is refl
        by_door Children is =
            let child = keep (λ p. p.door ≡ Children) (λ f silent p was. silent.door p ∙ was) (as_one (λ p. p.door ≡ Children) is) at found in
            ap (λ d. wants_more d (is_settled at.waits at.owed) at.heard) child

-- of a client that is to be read nothing is to be taken
due-wanted : (waits : Waits) (owed heard : List ℕ) → is_more (front longest_body heard) ≡ true
    → due_front waits owed heard ≡ More
due-wanted Nothing [] heard more = by_front (front longest_body heard) more
  where
    by_front : (answer : Front) → is_more answer ≡ true → answer ≡ More
    by_front (Whole body_len) is = absurd (cc)
    by_front (Bad announced) is = absurd (cc)
    by_front More is = refl
due-wanted Nothing (byte ∷ bytes) heard more = refl
due-wanted (OnAsk ask) owed heard more = refl
due-wanted (OnConfirmation job) owed heard more = refl

-- one that is settled is so where it takes nothing more
settled-took : (waits : Waits) (owed : List ℕ) (count : ℕ) → is_settled waits owed ≡ true
    → is_settled waits (drop count owed) ≡ true
settled-took waits owed count is =
    let both = settled_rests waits owed is in
    ap (λ bytes. is_settled waits (drop count bytes)) both.1
    ∙ ap (is_settled waits) (drop_all count [] (omega arith) ∙ sym both.1) ∙ is

-- a port whose bytes went is to be read yet
wanted-took : (number count : ℕ) (one : Port) (state : State)
    → find_port number state.ports ≡ Some one → IsWanted one
    → (at : Port) → find_port number (handle (Took number count) state).state.ports ≡ Some at → IsWanted at
wanted-took number count one state found wanted at there = by_door one.door refl
  where
    by_door : (door : Door) → one.door ≡ door → IsWanted at
    by_door Clients client =
        let settled = is_settled one.waits one.owed in
        let read : wants_more Clients settled one.heard ≡ true =
        sym (ap (λ d. wants_more d settled one.heard) client) ∙ wanted in
        let more : is_more (front longest_body one.heard) ≡ true =
        (and_both (is_more (front longest_body one.heard)) (settled || not (is_some_bytes one.heard)) read).0 in
        let both : Some (took_some count one) ≡ Some at =
        sym (changed-found number one (took_some count) state (λ p. refl) found (due-wanted one.waits (drop count one.owed) one.heard more))
        ∙ ap (λ (o : Outcome). find_port number o.state.ports) (sym (handle-took number count one state found client))
        ∙ there in
        let alike : took_some count one ≡ at = cc in
        subst IsWanted alike
        (wanted-more one.door settled (is_settled one.waits (drop count one.owed)) one.heard
        (settled-took one.waits one.owed count) wanted)
    by_door Children child =
        let ports : (handle (Took number count) state).state.ports ≡ state.ports =
        took-child number count state (λ p is. let same_port : Some one ≡ Some p = sym found ∙ is in let e : one ≡ p = cc in ap (λ (q : Port). q.door) (sym e) ∙ child) in
        let both : Some one ≡ Some at = sym found ∙ ap (find_port number) (sym ports) ∙ there in
        let alike : one ≡ at = cc in
        subst IsWanted alike wanted

wanted-own : (event : Happening) (state : State) (port : ℕ) → IsRising 0 state.last_port state.ports
    → is_of event state.last_port port ≡ true → brings_bytes event port ≡ false
    → (one : Port) → find_port port state.ports ≡ Some one → IsWanted one
    → (at : Port) → find_port port (handle event state).state.ports ≡ Some at → IsWanted at
wanted-own (Joined door) state port rising own silent one opened wanted at there =
    absurd (never_joins port state.last_port state.ports one rising own opened)
wanted-own (Heard number piece) state port rising own silent one opened wanted at there =
    absurd (cc)
wanted-own (Ended number) state port rising own silent one opened wanted at there =
    absurd (ended_gone port number 0 state.last_port _ state rising refl own at there)
wanted-own (Took number count) state port rising own silent one opened wanted at there =
    let here : port ≡ number = sym (eqb-true number port own) in
    wanted-took number count one state (ap (λ n. find_port n state.ports) (sym here) ∙ opened) wanted at
    (ap (λ n. find_port n (handle (Took number count) state).state.ports) (sym here) ∙ there)
wanted-own (Started job ticket) state port rising own silent one opened wanted at there =
    absurd (cc)
wanted-own (StartFailed job) state port rising own silent one opened wanted at there = absurd (cc)
wanted-own Tick state port rising own silent one opened wanted at there = absurd (cc)

wanted-all : (own : Bool) (event : Happening) (state : State) (port : ℕ) → IsTied state
    → is_of event state.last_port port ≡ own → brings_bytes event port ≡ false
    → (one : Port) → find_port port state.ports ≡ Some one → IsWanted one
    → (at : Port) → find_port port (handle event state).state.ports ≡ Some at → IsWanted at
wanted-all true event state port tied own silent one opened wanted at there =
    wanted-own event state port tied.rising own silent one opened wanted at there
wanted-all false event state port tied other silent one opened wanted at there =
    wanted-kept port state.ports (handle event state).state.ports
    (λ Good keeps. held-other IsSilent Good keeps silent-news port event state tied.rising other)
    (rests-other port event state tied other) one opened wanted at there

-- by what is found of it
wanted_by_found : (found : Option Port) → is_some found ≡ true
    → ((at : Port) → found ≡ Some at → IsWanted at) → wants_by found ≡ true
wanted_by_found None some wanted = absurd (cc)
wanted_by_found (Some at) some wanted = wanted at refl

found_wanted : (found : Option Port) → wants_by found ≡ true
    → (one : Port) × (found ≡ Some one)
found_wanted None wanted = absurd (cc)
found_wanted (Some one) wanted = (one, refl)

-- a port that was to be read is to be read yet, while it is open
pub wanted_after : (state : State) (event : Happening) (port : ℕ) → IsTied state
    → brings_bytes event port ≡ false → wants port state ≡ true → is_open port (handle event state).state ≡ true
    → wants port (handle event state).state ≡ true
wanted_after state event port tied silent wanted opened =
    let one = found_wanted (find_port port state.ports) wanted in
    wanted_by_found (find_port port (handle event state).state.ports) opened
    (wanted-all (is_of event state.last_port port) event state port tied refl silent one.0 one.1
    (ap wants_by (sym one.1) ∙ wanted))

-- a port that was to be read is to be read yet at a moment, before its event, while it is open
pub wanted_at : (state : State) (moment : Moment) (port : ℕ) → IsTied state
    → wants port state ≡ true → is_open port (at_moment moment state) ≡ true
    → wants port (at_moment moment state) ≡ true
wanted_at state moment port tied wanted opened =
    let one = found_wanted (find_port port state.ports) wanted in
    wanted_by_found (find_port port (at_moment moment state).ports) opened
    (wanted-kept port state.ports (at_moment moment state).ports
    (λ Good keeps.
    holds-spared IsSilent Good keeps port 0 state.last_port state.ports
    (spares-told IsSilent port state.ports silent-news (told-moment moment state) same) tied.rising)
    (rests-moment port moment state tied) one.0 one.1 (ap wants_by (sym one.1) ∙ wanted))

-- ---- a client stays one, and a child process does

-- by its door
abbrev HasDoor : Bool → Port → Type 0
HasDoor client at = is_client at.door ≡ client

door-silent : (client : Bool) (f : Port → Port) → IsSilent f → (p : Port) → HasDoor client p
    → HasDoor client (f p)
door-silent client f is p door = ap is_client (is.door p) ∙ door

pub door_at : (client : Bool) (state : State) (moment : Moment) (port : ℕ)
    → IsRising 0 state.last_port state.ports
    → ((p : Port) → find_port port state.ports ≡ Some p → is_client p.door ≡ client) → (p : Port)
    → find_port port (at_moment moment state).ports ≡ Some p → is_client p.door ≡ client
door_at client state moment port rising =
    holds-spared IsSilent (HasDoor client) (door-silent client) port 0 state.last_port state.ports
    (spares-told IsSilent port state.ports silent-news (told-moment moment state) same) rising
