-- Lemmas on specs/Apart.antt: events leave states alike.
use Rattle.std.proofs.Common.{◌≡◌, ℕ, suc, List, [], ◌∷◌, ◌++◌, refl, ap, sym, subst, ◌∙◌, Option, Some, Bool, true, false, nat_lt, Ok}
use Rattle.std.specs.Option.{option_map}
use Rattle.world_ports.specs.declared.Door.{Door}
use Rattle.world_ports.specs.declared.Door.TheVariants.{Clients, Children}
use Rattle.world_ports.specs.declared.Moment.{Moment}
use Rattle.wire_text.specs.Bounds.{longest_body}
use Rattle.wire_text.specs.Frames.{Front, front, front_body, Whole, Bad, More}
use Rattle.agent_msg.specs.Requests.{Add, Addition}
use Rattle.confirm_desk.specs.Confirmations.{Confirmation, linked, took}
use Rattle.agent_model.specs.Actions.{Outcome}
use Rattle.agent_model.specs.Binds.{agent_request_of}
use Rattle.agent_model.specs.Answers.{helper_heard, lose}
use Rattle.agent_model.specs.Children.{changed, closed, confirmer_named, heard_more, helper_named, job_left, job_started, unheard}
use Rattle.agent_model.specs.Dispatch.{serve}
use Rattle.agent_model.specs.Events.{Happening, Timed, Joined, Heard, Ended, Took, Started, StartFailed, Tick}
use Rattle.agent_model.specs.KeyStates.{KeyState}
use Rattle.agent_model.specs.Looks.{due}
use Rattle.agent_model.specs.Runs.{run}
use Rattle.agent_model.specs.State.{Client, Confirmer, Helper, Nothing, Port, Role, Settings, State, UnderWay, Unnamed, Waits, change_port, find_port, first_state, new_port, owed_by, owed_of, role_of}
use Rattle.agent_model.specs.Step.{admitted, asker_at, attempts, confirmer_took, ended_at, ended_by_role, handle, has_room, heard_at, heard_by_role, helper_took, join, look_front, look_port, look_waits, looked, step, take_frame, taken, took_at, took_by_role, took_some}
use Rattle.agent_model.specs.Time.{at_moment, time_passes}
use Rattle.agent_model.specs.Verdicts.{tell, verdict_text, verdict_waits}
use Rattle.agent_model.proofs.BothLemmas.{AreAlikeInBoth, IsSameWay, both-ended, both-failed, both-heard_role, both-took_role}
use Rattle.agent_model.proofs.JobLemmas.{IsIn, behind, here}
use Rattle.agent_model.proofs.MakeLemmas.{role-client, role-door}
use Rattle.agent_model.proofs.PortsLemmas.{find_port-change_port, found_number}
use Rattle.agent_laws.specs.Apart.{AreAlike, AreAlikeOutcomes, AreAlikePorts, AreAlikeRuns, AreUnseen, Insiders, IsBlind, IsOutside, IsShared, SaysNoMore, aside_first, aside_second, none as no_keys_yet, over, shared}
use Rattle.agent_laws.proofs.ApartKeyLemmas.{keys-in_turn, keys-turned}
use Rattle.agent_laws.proofs.ApartPortLemmas.{FindsPorts, KeepsPlace, clients-alike, found, keeps-tell, neither, ports-changed, ports-found, ports-in_turn, ports-joined, ports-removed, ports-turned, unnamed-alike}
use Rattle.agent_laws.proofs.ApartSideLemmas.{Same, Sides, alike-helper, alike-lose, alike-of, alike-shut, alike-stay, moment-alike, other, sides-changed, sides-way}
use Rattle.agent_laws.proofs.ApartServeLemmas.{ServesAlike, serves-alike}
use Rattle.agent_laws.proofs.KeyLemmas.{first-own}

module _ (who : Insiders) where
  -- ---- a client is looked at

  module _ {state : State} {q : List Port} {k : KeyState} (sides : Sides who state q k) where
    -- an outsider's port, and what it may ask
    record IsQuietAt (port : Port) : Type 0 where
      outsider : who.is_insider port.number ≡ false
      first : AreUnseen who port state.moment.wall state.held.table.identities
      second : AreUnseen who port state.moment.wall k.table.identities
      additions : (body_len : ℕ) (addition : Addition) → due port ≡ Whole body_len
          → agent_request_of (front_body body_len port.heard) ≡ Ok (Add addition)
          → SaysNoMore who addition state.moment.mono state.held.table k.table

    module _ (port : Port) (quiet : IsQuietAt port) where
      taken-alike : (body_len : ℕ) → due port ≡ Whole body_len
          → Same who (taken body_len (front_body body_len port.heard) port state) (taken body_len (front_body body_len port.heard) port (other state q k))
      taken-alike body_len is =
          let body : List ℕ = front_body body_len port.heard in
          let served : ServesAlike who state.under_way (serve (agent_request_of body) (asker_at state.moment port) state.held state.under_way) (serve (agent_request_of body) (asker_at state.moment port) k state.under_way) =
          serves-alike who state.moment port state.held k state.under_way sides.held_is quiet.first quiet.second (agent_request_of body) (λ addition read. quiet.additions body_len addition is read) in
          let one_take : Port → Port = take_frame body_len (attempts state.held.lock body) in
          let two_take : Port → Port = take_frame body_len (attempts k.lock body) in
          let keeps : KeepsPlace one_take = record { number = λ p. refl; door = λ p. refl } in
          let keeps_two : KeepsPlace two_take = record { number = λ p. refl; door = λ p. refl } in
          let one_verdict = (serve (agent_request_of body) (asker_at state.moment port) state.held state.under_way).work.verdict in
          let two_verdict = (serve (agent_request_of body) (asker_at state.moment port) k state.under_way).work.verdict in
          let same_tell : (p : Port) → tell one_verdict p ≡ tell two_verdict p =
          λ p. ap (λ (t : List ℕ). record p { owed = p.owed ++ t; waits = verdict_waits one_verdict }) served.reply.text
          ∙ ap (λ (w : Waits). record p { owed = p.owed ++ verdict_text two_verdict; waits = w }) served.reply.waits in
          record {
            state = record {
              ports = ports-changed who port.number (tell one_verdict) (tell two_verdict) (keeps-tell one_verdict) (keeps-tell two_verdict) same_tell
                  (change_port port.number one_take state.ports) (change_port port.number two_take q)
                  (ports-changed who port.number one_take two_take keeps keeps_two (λ p. ap (λ (lock : Option (List ℕ)). take_frame body_len (attempts lock body) p) (sym sides.held_is.lock)) state.ports q sides.ports_are);
              held = served.held;
              rest = ap (λ (w : UnderWay). record (taken body_len body port (other state q k)).state { under_way = w }) (sym served.reply.under_way);
              calm = served.calm ∙ sides.calm;
            };
            put = served.reply.put;
          }

      front-alike : (answer : Front) → due port ≡ answer
          → Same who (look_front answer port state) (look_front answer port (other state q k))
      front-alike (Whole body_len) is = taken-alike body_len is
      front-alike (Bad announced) is = alike-shut sides port.number
      front-alike More is = alike-stay sides

      waits-alike : (waits : Waits) (owed : List ℕ) → port.waits ≡ waits → port.owed ≡ owed
          → Same who (look_waits waits owed port state) (look_waits waits owed port (other state q k))
      waits-alike Nothing [] nothing is =
          front-alike (front longest_body port.heard)
          (ap (λ (w : Waits). due (record port { waits = w })) nothing ∙ ap (λ (o : List ℕ). due (record port { waits = Nothing; owed = o })) is)
      waits-alike waits owed waiting is = alike-stay sides

    look-alike : {one two : Option Port} → FindsPorts who one two
        → ((port : Port) → one ≡ Some port → IsQuietAt port)
        → Same who (look_port one state) (look_port two (other state q k))
    look-alike neither quiet = alike-stay sides
    look-alike (found one two alike) quiet =
        let at = quiet one refl in
        subst (λ (p : Port). Same who (look_waits one.waits one.owed one state) (look_waits p.waits p.owed p (other state q k))) (alike.outsider at.outsider)
        (waits-alike one at one.waits one.owed refl refl)

    looked-alike : (number : ℕ)
        → ((port : Port) → find_port number state.ports ≡ Some port → IsQuietAt port)
        → Same who (looked number state) (looked number (other state q k))
    looked-alike number quiet =
        look-alike (ports-found who number state.ports q sides.ports_are) quiet

  -- ---- events

  pub keeps-heard : (piece : List ℕ) → KeepsPlace (heard_more piece)
  keeps-heard piece = record { number = λ p. refl; door = λ p. refl }

  pub keeps-took : (count : ℕ) → KeepsPlace (took_some count)
  keeps-took count = record { number = λ p. refl; door = λ p. refl }

  keeps-unheard : KeepsPlace unheard
  keeps-unheard = record { number = λ p. refl; door = λ p. refl }

  nobody : {confirmation : Confirmation} {all : List Confirmation} → IsIn confirmation all
      → all ≡ [] → ⊥
  nobody (here others) none = absurd (cc)
  nobody (behind other others there) none = absurd (cc)

  -- what an event of no client brings
  changed-alike : (number : ℕ) (f : Port → Port) → KeepsPlace f → (one two : State)
      → AreAlike who one two → AreAlike who (changed number f one) (changed number f two)
  changed-alike number f keeps one two alike = record {
    ports = ports-changed who number f f keeps keeps (λ p. refl) one.ports two.ports alike.ports;
    held = alike.held;
    rest = ap (changed number f) alike.rest;
    calm = alike.calm;
  }

  ends-alike : (does : State → Outcome) (one two : State) → AreAlike who one two
      → ((q : List Port) (k : KeyState) → Sides who one q k → Same who (does one) (does (other one q k)))
      → Same who (does one) (does two)
  ends-alike does one two alike each =
      subst (λ (s : State). Same who (does one) (does s)) (sym alike.rest) (each two.ports two.held (record { ports_are = alike.ports; held_is = alike.held; calm = alike.calm }))

  in_both : AreAlikeInBoth (AreAlike who) (Same who)
  in_both = record {
    way = λ one two alike. subst (IsSameWay one) (sym alike.rest) record { role = λ door number. refl; link = refl; confirmations = refl; started = refl; to_start = refl };
    hears = λ number piece one two child alike. changed-alike number (heard_more piece) (keeps-heard piece) one two alike;
    closes = λ number one two alike.
        record { ports = ports-removed who number one.ports two.ports alike.ports; held = alike.held; rest = ap (closed number) alike.rest; calm = alike.calm };
    names = λ job number one two child alike. record { ports = (changed-alike number unheard keeps-unheard one two alike).ports; held = alike.held; rest = ap (helper_named job number) alike.rest; calm = alike.calm };
    links = λ job number one two child alike.
        record { ports = (changed-alike number unheard keeps-unheard one two alike).ports; held = alike.held; rest = ap (confirmer_named job number) alike.rest; calm = ap (linked job number) alike.calm };
    leaves = λ job one two alike. record { ports = alike.ports; held = alike.held; rest = ap (job_left job) alike.rest; calm = alike.calm };
    sends = λ count one two alike. record { ports = alike.ports; held = alike.held; rest = ap (helper_took count) alike.rest; calm = alike.calm };
    prompts = λ job count one two alike. record { ports = alike.ports; held = alike.held; rest = ap (confirmer_took job count) alike.rest; calm = ap (took job count) alike.calm };
    stays = λ one two alike. record { state = alike; put = refl };
    shuts = λ number next one two alike after. record { state = after.state; put = after.put };
    tells = λ piece one two alike. ends-alike (helper_heard piece) one two alike (λ q k sides. alike-helper sides piece);
    loses = λ one two alike. ends-alike lose one two alike (λ q k sides. alike-lose sides);
    overs = λ confirmation one two there alike. absurd (nobody there alike.calm);
    consents = λ confirmation piece one two there alike. absurd (nobody there alike.calm);
  }

  module _ {state : State} {q : List Port} {k : KeyState} (sides : Sides who state q k) where
    abbrev Does : (State → Outcome) → Type 0
    Does does = Same who (does state) (does (other state q k))

    -- what an outsider's client may ask behind a change of its port
    quiet-behind : (number : ℕ) (f : Port → Port) (keeps : KeepsPlace f)
        → ((p : Port) → (f p).chain ≡ p.chain) → ((p : Port) → (f p).attempted ≡ p.attempted)
        → (port : Port) → find_port number state.ports ≡ Some port → who.is_insider number ≡ false
        → IsBlind who port (f port) state (other state q k)
        → (after : Port) → find_port port.number (change_port port.number f state.ports) ≡ Some after → IsQuietAt (sides-changed sides port.number f keeps) after
    quiet-behind number f keeps chain attempted port is outsider blind after found_after =
        let own : port.number ≡ number = found_number number state.ports port is in
        let there : find_port port.number state.ports ≡ Some port = ap (λ n. find_port n state.ports) own ∙ is in
        let now : Some (f port) ≡ Some after = sym (find_port-change_port port.number f state.ports keeps.number ∙ ap (option_map f) there) ∙ found_after in
        let same : f port ≡ after = cc in
        let place : after.number ≡ number = ap (λ (p : Port). p.number) (sym same) ∙ keeps.number port ∙ own in
        record {
          outsider = ap who.is_insider place ∙ outsider;
          first = subst (λ (p : Port). AreUnseen who p state.moment.wall state.held.table.identities) same (unseen_as (f port) port (chain port) (attempted port) state.held.table.identities blind.first);
          second = subst (λ (p : Port). AreUnseen who p state.moment.wall k.table.identities) same (unseen_as (f port) port (chain port) (attempted port) k.table.identities blind.second);
          additions = λ body_len addition due_is read.
              blind.additions body_len addition (ap due same ∙ due_is) (ap (λ (p : Port). agent_request_of (front_body body_len p.heard)) same ∙ read);
        }
      where
        unseen_as : (one two : Port) → one.chain ≡ two.chain → one.attempted ≡ two.attempted
            → (keys : List _) → AreUnseen who two state.moment.wall keys
            → AreUnseen who one state.moment.wall keys
        unseen_as one two same_chain same_mark [] all = tt
        unseen_as one two same_chain same_mark (key ∷ keys) all =
            (λ hidden. rw (same_chain, same_mark) (all.0 hidden), unseen_as one two same_chain same_mark keys all.1)

    heard-child : (role : Role) (port : Port) (piece : List ℕ) (number : ℕ)
        → find_port number state.ports ≡ Some port
        → role_of port.door port.number state.under_way ≡ role → (role ≡ Client → ⊥)
        → Does (heard_by_role role port piece)
    heard-child role port piece number is at no_client =
        let door = role-door port.door port.number state.under_way role at no_client in
        both-heard_role (AreAlike who) (Same who) in_both port state (other state q k) door (alike-of sides) piece (λ p there.
        let both : Some port ≡ Some p = sym (ap (λ n. find_port n state.ports) (found_number number state.ports port is) ∙ is) ∙ there in
        let same : port ≡ p = cc in
        ap (λ (x : Port). x.door) (sym same) ∙ door) role at

    heard-role : (role : Role) (port : Port) (piece : List ℕ) (number : ℕ)
        → find_port number state.ports ≡ Some port
        → role_of port.door port.number state.under_way ≡ role
        → IsOutside who number (heard_more piece) state (other state q k)
        → Does (heard_by_role role port piece)
    heard-role Client port piece number is role outside =
        looked-alike (sides-changed sides port.number (heard_more piece) (keeps-heard piece)) port.number
        (quiet-behind number (heard_more piece) (keeps-heard piece) (λ p. refl) (λ p. refl) port is outside.outsider (outside.blind port is (role-client port.door port.number state.under_way role)))
    heard-role Unnamed port piece number is role outside =
        heard-child Unnamed port piece number is role (λ no. absurd (cc))
    heard-role Helper port piece number is role outside =
        heard-child Helper port piece number is role (λ no. absurd (cc))
    heard-role (Confirmer confirmation) port piece number is role outside =
        heard-child (Confirmer confirmation) port piece number is role (λ no. absurd (cc))

    took-child : (role : Role) (port : Port) (count : ℕ)
        → role_of port.door port.number state.under_way ≡ role → (role ≡ Client → ⊥)
        → Does (took_by_role role port.number count)
    took-child role port count at no_client =
        both-took_role (AreAlike who) (Same who) in_both port state (other state q k) (role-door port.door port.number state.under_way role at no_client) (alike-of sides) count role at

    took-role : (role : Role) (port : Port) (count : ℕ) (number : ℕ)
        → find_port number state.ports ≡ Some port
        → role_of port.door port.number state.under_way ≡ role
        → IsOutside who number (took_some count) state (other state q k)
        → Does (took_by_role role port.number count)
    took-role Client port count number is role outside =
        looked-alike (sides-changed sides port.number (took_some count) (keeps-took count)) port.number
        (quiet-behind number (took_some count) (keeps-took count) (λ p. refl) (λ p. refl) port is outside.outsider (outside.blind port is (role-client port.door port.number state.under_way role)))
    took-role Unnamed port count number is role outside =
        took-child Unnamed port count role (λ no. absurd (cc))
    took-role Helper port count number is role outside =
        took-child Helper port count role (λ no. absurd (cc))
    took-role (Confirmer confirmation) port count number is role outside =
        took-child (Confirmer confirmation) port count role (λ no. absurd (cc))

    -- the port of an outsider is the same
    heard-found : (number : ℕ) (piece : List ℕ) {one two : Option Port}
        → find_port number state.ports ≡ one → FindsPorts who one two
        → IsOutside who number (heard_more piece) state (other state q k)
        → Same who (heard_at one piece state) (heard_at two piece (other state q k))
    heard-found number piece is neither outside = alike-stay sides
    heard-found number piece is (found one two alike) outside =
        subst (λ (p : Port). Same who (heard_at (Some one) piece state) (heard_at (Some p) piece (other state q k))) (alike.outsider (ap who.is_insider (found_number number state.ports one is) ∙ outside.outsider))
        (heard-role (role_of one.door one.number state.under_way) one piece number is refl outside)

    took-found : (number count : ℕ) {one two : Option Port} → find_port number state.ports ≡ one
        → FindsPorts who one two → IsOutside who number (took_some count) state (other state q k)
        → Same who (took_at one count state) (took_at two count (other state q k))
    took-found number count is neither outside = alike-stay sides
    took-found number count is (found one two alike) outside =
        subst (λ (p : Port). Same who (took_at (Some one) count state) (took_at (Some p) count (other state q k))) (alike.outsider (ap who.is_insider (found_number number state.ports one is) ∙ outside.outsider))
        (took-role (role_of one.door one.number state.under_way) one count number is refl outside)

    ended-found : (number : ℕ) {one two : Option Port} → FindsPorts who one two
        → Same who (ended_at one state) (ended_at two (other state q k))
    ended-found number neither = alike-stay sides
    ended-found number (found one two alike) =
        subst (λ (d : Door). Same who (ended_at (Some one) state) (ended_by_role (role_of d two.number state.under_way) two.number (other state q k))) alike.door
        (subst (λ (n : ℕ). Same who (ended_at (Some one) state) (ended_by_role (role_of one.door n state.under_way) n (other state q k))) alike.number
        (both-ended (AreAlike who) (Same who) in_both one state (other state q k) (alike-of sides)))

    admitted-alike : (door : Door) (one two : Bool) → one ≡ two
        → AreAlikePorts who (admitted one (suc state.last_port) door state.ports) (admitted two (suc state.last_port) door q)
    admitted-alike door true two is = subst (λ b. AreAlikePorts who (admitted true (suc state.last_port) door state.ports) (admitted b (suc state.last_port) door q)) is (ports-joined who (new_port (suc state.last_port) door ∷ []) state.ports q sides.ports_are)
    admitted-alike door false two is = subst (λ b. AreAlikePorts who (admitted false (suc state.last_port) door state.ports) (admitted b (suc state.last_port) door q)) is sides.ports_are

    room-alike : (door : Door)
        → has_room door state.ports state.under_way ≡ has_room door q state.under_way
    room-alike Clients = ap (λ n. nat_lt n 128) (clients-alike who state.ports q sides.ports_are)
    room-alike Children =
        ap (λ n. nat_lt n 32) (unnamed-alike who state.under_way state.ports q sides.ports_are)

    joined-alike : (door : Door) → Does (join door)
    joined-alike door = record {
      state = record {
        ports = admitted-alike door (has_room door state.ports state.under_way) (has_room door q state.under_way) (room-alike door);
        held = sides.held_is;
        rest = refl;
        calm = sides.calm;
      };
      put = refl;
    }

  handles-alike : (event : Happening) {state : State} {q : List Port} {k : KeyState}
      → Sides who state q k → IsShared who event state (other state q k)
      → Same who (handle event state) (handle event (other state q k))
  handles-alike (Joined door) sides tells = joined-alike sides door
  handles-alike (Heard port piece) {state = state} {q = q} sides tells =
      heard-found sides port piece refl (ports-found who port state.ports q sides.ports_are) tells
  handles-alike (Took port count) {state = state} {q = q} sides tells =
      took-found sides port count refl (ports-found who port state.ports q sides.ports_are) tells
  handles-alike (Ended port) {state = state} {q = q} sides tells =
      ended-found sides port (ports-found who port state.ports q sides.ports_are)
  handles-alike (Started job ticket) {state = state} sides tells =
      alike-stay (sides-way sides (job_started job ticket state).under_way sides.calm)
  handles-alike (StartFailed job) {state = state} {q = q} {k = k} sides tells =
      both-failed (AreAlike who) (Same who) in_both job state (other state q k) (alike-of sides)
  handles-alike Tick sides tells = alike-stay sides

  -- ---- a step

  handles-so : (event : Happening) (one two : State) → AreAlike who one two
      → IsShared who event one two → Same who (handle event one) (handle event two)
  handles-so event one two alike =
      subst (λ (s : State). IsShared who event one s → Same who (handle event one) (handle event s)) (sym alike.rest)
      (handles-alike event {state = one} {q = two.ports} {k = two.held} (record { ports_are = alike.ports; held_is = alike.held; calm = alike.calm }))

  pub steps-alike : (moment : Moment) (event : Happening) (one two : State) → AreAlike who one two
      → IsShared who event (at_moment moment one) (at_moment moment two)
      → AreAlikeOutcomes who (step one moment event) (step two moment event)
  steps-alike moment event one two alike tells =
      let before = moment-alike who moment one two alike in
      let after = handles-so event (at_moment moment one) (at_moment moment two) before.state tells in
      record {
        state = after.state;
        put = ap (λ put. put ++ (handle event (at_moment moment one)).put) before.put ∙ ap (λ put. (time_passes moment two).put ++ put) after.put;
      }

  -- ---- runs

  pub alike-turned : (one two : State) → AreAlike who one two → AreAlike who two one
  alike-turned one two alike = record {
    ports = ports-turned who one.ports two.ports alike.ports;
    held = record {
      lock = sym alike.held.lock;
      first_own = alike.held.second_own;
      second_own = alike.held.first_own;
      life = sym alike.held.life;
      greatest = sym alike.held.greatest;
      keys = keys-turned who alike.held.keys;
    };
    rest = sym (ap (λ (s : State). record s { ports = one.ports; held = one.held }) alike.rest);
    calm = ap (λ (s : State). s.under_way.confirmations) alike.rest ∙ alike.calm;
  }

  pub alike-in_turn : (one two three : State) → AreAlike who one two → AreAlike who two three
      → AreAlike who one three
  alike-in_turn one two three first later = record {
    ports = ports-in_turn who one.ports two.ports three.ports first.ports later.ports;
    held = record {
      lock = later.held.lock ∙ first.held.lock;
      first_own = first.held.first_own;
      second_own = later.held.second_own;
      life = later.held.life ∙ first.held.life;
      greatest = later.held.greatest ∙ first.held.greatest;
      keys = keys-in_turn who first.held.keys later.held.keys;
    };
    rest = later.rest ∙ ap (λ (s : State). record s { ports = three.ports; held = three.held }) first.rest;
    calm = first.calm;
  }

  pub runs-alike : {one two : State} {ones twos : List Timed} → AreAlikeRuns who one ones two twos
      → AreAlike who one two → AreAlike who (run one ones) (run two twos)
  runs-alike (over one two) alike = alike
  runs-alike (shared one two timed tells rest) alike =
      runs-alike rest (steps-alike timed.moment timed.event one two alike tells).state
  runs-alike (aside_first one two timed aside rest) alike =
      runs-alike rest (alike-in_turn _ one two (alike-turned one _ aside) alike)
  runs-alike (aside_second one two timed aside rest) alike =
      runs-alike rest (alike-in_turn one two _ alike aside)

  -- ---- what outsiders are owed

  owed_found : (number : ℕ) (under_way : UnderWay) {one two : Option Port}
      → ((port : Port) → one ≡ Some port → who.is_insider port.number ≡ false)
      → FindsPorts who one two → owed_by one under_way ≡ owed_by two under_way
  owed_found number under_way outside neither = refl
  owed_found number under_way outside (found one two alike) =
      ap (λ (p : Port). owed_by (Some p) under_way) (alike.outsider (outside one refl))

  owed-alike_by : (number : ℕ) (one two : State) → AreAlike who one two
      → who.is_insider number ≡ false → owed_of number one ≡ owed_of number two
  owed-alike_by number one two alike outside =
      owed_found number one.under_way (λ port is. ap who.is_insider (found_number number one.ports port is) ∙ outside) (ports-found who number one.ports two.ports alike.ports)
      ∙ ap (λ (s : State). owed_by (find_port number two.ports) s.under_way) (sym alike.rest)

  pub runs-owe : (one two : State) (ones twos : List Timed) (number : ℕ)
      → AreAlikeRuns who one ones two twos → AreAlike who one two → who.is_insider number ≡ false
      → owed_of number (run one ones) ≡ owed_of number (run two twos)
  runs-owe one two ones twos number runs alike outside =
      owed-alike_by number (run one ones) (run two twos) (runs-alike runs alike) outside

pub first-alike : (who : Insiders) (settings : Settings)
    → AreAlike who (first_state settings) (first_state settings)
first-alike who settings = record {
  ports = tt;
  held = record { lock = refl; first_own = first-own settings; second_own = first-own settings; life = refl; greatest = refl; keys = no_keys_yet };
  rest = refl;
  calm = refl;
}
