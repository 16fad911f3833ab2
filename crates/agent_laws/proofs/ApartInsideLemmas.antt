-- Lemmas on specs/Apart.antt: what an insider does leaves the others alone.
use Rattle.std.proofs.Common.{◌≡◌, ◌≢◌, ℕ, List, [], ◌∷◌, refl, ap, sym, subst, ◌∙◌, ◌==◌, Option, Some, None, Bool, true, false, cond, Result, Ok, Err, arith}
use Rattle.std.specs.Option.{option_map}
use Rattle.std.specs.Str.{bytes_eq}
use Rattle.std.proofs.lemmas.Bool.Decides.{nat_tests}
use Rattle.std.proofs.lemmas.Slice.Eq.{bytes_eq-Decides}
use Rattle.world_ports.specs.declared.Door.TheVariants.{Clients}
use Rattle.world_ports.specs.declared.Moment.{Moment}
use Rattle.wire_text.specs.Bounds.{longest_body}
use Rattle.wire_text.specs.Frames.{Front, front, front_body, Whole, Bad, More}
use Rattle.agent_msg.specs.Requests.{Addition, ClientRequest, ListIdentities, Sign, Add, Remove, RemoveAll, Lock, Unlock, Bind, OtherExtension, Unsupported}
use Rattle.agent_msg.specs.declared.fault.MsgFault.{MsgFault}
use Rattle.identity_table.specs.Identities.{HeldKey, find_identity, new_identity, put_identity, remove_identity}
use Rattle.agent_model.specs.Binds.{agent_request_of}
use Rattle.agent_model.specs.Children.{changed, heard_more}
use Rattle.agent_model.specs.Dispatch.{Asker, Served, add_by, add_seen, add_unless, remove_by, remove_seen, sees, serve, serve_by, serve_locked, serve_unlocked}
use Rattle.agent_model.specs.Events.{Heard, Took}
use Rattle.agent_model.specs.KeyStates.{KeyState}
use Rattle.agent_model.specs.Looks.{due}
use Rattle.agent_model.specs.State.{Nothing, Port, State, UnderWay, Waits, change_port, find_port}
use Rattle.agent_model.specs.Step.{asker_at, attempts, handle, heard_at, look_front, look_port, look_waits, looked, step, take_frame, taken, took_at, took_some}
use Rattle.agent_model.specs.Time.{at_moment}
use Rattle.agent_model.specs.Verdicts.{Cause, Verdict, tell}
use Rattle.agent_model.proofs.PortsLemmas.{find_port-change_port, found_number}
use Rattle.agent_model.proofs.TimeLemmas.{at_moment-keeps}
use Rattle.agent_laws.specs.Apart.{AreAlike, AreAlikeKeys, AreAlikePorts, Insiders, IsAlikeHeld, IsInside, IsOwnMatter, both, first_has, none, second_has}
use Rattle.agent_laws.proofs.ApartKeyLemmas.{renumbered}
use Rattle.agent_laws.proofs.ApartLemmas.{keeps-heard, keeps-took}
use Rattle.agent_laws.proofs.KeyLemmas.{kept-added, kept-removed}
use Rattle.agent_laws.proofs.ApartPortLemmas.{KeepsPlace, alike-itself, keeps-tell, ports-in_turn, ports-itself}

module _ (who : Insiders) where
  -- ---- its own port

  own_by : (test : Bool) (number : ℕ) (f : Port → Port) → KeepsPlace f
      → who.is_insider number ≡ true → (port : Port) (ports : List Port)
      → (port.number == number) ≡ test → AreAlikePorts who ports (change_port number f ports)
      → AreAlikePorts who (port ∷ ports) (cond test (f port ∷ ports) (port ∷ change_port number f ports))
  own_by true number f keeps inside port ports test later =
      let same : port.number ≡ number = grind (arith, nat_tests) in (
        record {
          number = sym (keeps.number port);
          door = sym (keeps.door port);
          outsider = λ outside. absurd (let no : true ≡ false = sym inside ∙ ap who.is_insider (sym same) ∙ outside in cc);
        },
        ports-itself who ports,
      )
  own_by false number f keeps inside port ports test later = (alike-itself who port, later)

  pub ports-own : (number : ℕ) (f : Port → Port) → KeepsPlace f → who.is_insider number ≡ true
      → (ports : List Port) → AreAlikePorts who ports (change_port number f ports)
  ports-own number f keeps inside [] = tt
  ports-own number f keeps inside (port ∷ ports) = own_by (port.number == number) number f keeps inside port ports refl (ports-own number f keeps inside ports)

  -- ---- hidden keys

  open_differs : (key : HeldKey) (blob : List ℕ) → who.is_hidden key.blob ≡ false
      → who.is_hidden blob ≡ true → bytes_eq key.blob blob ≡ true → ⊥
  open_differs key blob open_one hidden same =
      let equal : key.blob ≡ blob = (bytes_eq-Decides key.blob blob).0 same in
      let no : false ≡ true = sym open_one ∙ ap who.is_hidden equal ∙ hidden in
      absurd (cc)

  put_open : (test : Bool) (key : HeldKey) (number : ℕ) (twos : List HeldKey) {ones more : List HeldKey}
      → (test ≡ true → ⊥) → who.is_hidden key.blob ≡ false → key.confirm ≡ false
      → AreAlikeKeys who ones more
      → AreAlikeKeys who (key ∷ ones) (cond test twos (renumbered number key ∷ more))
  put_open true key number twos never shown_one plain rest = absurd (never refl)
  put_open false key number twos never shown_one plain rest = both key number shown_one plain rest

  put_other : (test : Bool) (key new : HeldKey) {ones twos more : List HeldKey}
      → who.is_hidden key.blob ≡ true → who.is_hidden new.blob ≡ true → AreAlikeKeys who ones twos
      → AreAlikeKeys who ones more → AreAlikeKeys who ones (cond test (new ∷ twos) (key ∷ more))
  put_other true key new hidden hidden_new whole rest = second_has new hidden_new whole
  put_other false key new hidden hidden_new whole rest = second_has key hidden rest

  put-hidden : (new : HeldKey) → who.is_hidden new.blob ≡ true → {ones twos : List HeldKey}
      → AreAlikeKeys who ones twos → AreAlikeKeys who ones (put_identity new twos)
  unfolding put_identity
  put-hidden new hidden none = second_has new hidden none
  put-hidden new hidden (both {twos = twos} key number shown_one plain rest) =
      put_open (bytes_eq key.blob new.blob) key number (new ∷ twos) (open_differs key new.blob shown_one hidden) shown_one plain (put-hidden new hidden rest)
  put-hidden new hidden (first_has key hidden_one rest) =
      first_has key hidden_one (put-hidden new hidden rest)
  put-hidden new hidden (second_has key hidden_one rest) = put_other (bytes_eq key.blob new.blob) key new hidden_one hidden rest (put-hidden new hidden rest)

  removed_other : (test : Bool) (key : HeldKey) {ones twos less : List HeldKey}
      → who.is_hidden key.blob ≡ true → AreAlikeKeys who ones twos → AreAlikeKeys who ones less
      → AreAlikeKeys who ones (cond test twos (key ∷ less))
  removed_other true key hidden whole rest = whole
  removed_other false key hidden whole rest = second_has key hidden rest

  removed-hidden : (blob : List ℕ) → who.is_hidden blob ≡ true → {ones twos : List HeldKey}
      → AreAlikeKeys who ones twos → AreAlikeKeys who ones (remove_identity blob twos)
  unfolding remove_identity
  removed-hidden blob hidden none = none
  removed-hidden blob hidden (both {twos = twos} key number shown_one plain rest) =
      put_open (bytes_eq key.blob blob) key number twos (open_differs key blob shown_one hidden) shown_one plain (removed-hidden blob hidden rest)
  removed-hidden blob hidden (first_has key hidden_one rest) =
      first_has key hidden_one (removed-hidden blob hidden rest)
  removed-hidden blob hidden (second_has key hidden_one rest) =
      removed_other (bytes_eq key.blob blob) key hidden_one rest (removed-hidden blob hidden rest)

  -- ---- its requests

  -- what is held is alike, and nothing else is under way
  record IsAside (held : KeyState) (under_way : UnderWay) (served : Served) : Type 0 where
    keys : IsAlikeHeld who held served.held
    same : served.work.under_way ≡ under_way

  module _ (asker : Asker) (held : KeyState) (under_way : UnderWay) (alike : IsAlikeHeld who held held) (now : asker.mono ≡ held.table.greatest) where
    stays-aside : (served : Served) → served.held ≡ held → served.work.under_way ≡ under_way
        → IsAside held under_way served
    stays-aside served is same =
        record { keys = subst (IsAlikeHeld who held) (sym is) alike; same = same }

    add_with : (fault : Option Cause) (addition : Addition) → who.is_hidden addition.key.blob ≡ true
        → IsAside held under_way (add_unless fault addition asker.mono held under_way)
    add_with (Some cause) addition hidden = stays-aside _ refl refl
    add_with None addition hidden = record {
      keys = record {
        lock = refl;
        first_own = alike.first_own;
        second_own = (kept-added addition asker.mono held.table alike.first_own).own;
        life = refl;
        greatest = now;
        keys = put-hidden (new_identity held.table addition.key addition.terms addition.comment asker.mono) hidden alike.keys;
      };
      same = refl;
    }

    add_seen_so : (seen : Bool) (addition : Addition) → who.is_hidden addition.key.blob ≡ true
        → IsAside held under_way (add_seen seen addition asker.mono held under_way)
    add_seen_so false addition hidden = stays-aside _ refl refl
    add_seen_so true addition hidden = add_with _ addition hidden

    added_so : (asked : Option HeldKey) (addition : Addition)
        → who.is_hidden addition.key.blob ≡ true
        → IsAside held under_way (add_by asked asker addition held under_way)
    added_so None addition hidden = add_seen_so true addition hidden
    added_so (Some key) addition hidden = add_seen_so (sees asker key) addition hidden

    remove_seen_so : (seen : Bool) (blob : List ℕ) → who.is_hidden blob ≡ true
        → IsAside held under_way (remove_seen seen blob held under_way)
    remove_seen_so false blob hidden = stays-aside _ refl refl
    remove_seen_so true blob hidden = record {
      keys = record {
        lock = refl;
        first_own = alike.first_own;
        second_own = (kept-removed blob held.table alike.first_own).own;
        life = refl;
        greatest = refl;
        keys = removed-hidden blob hidden alike.keys;
      };
      same = refl;
    }

    removed_so : (asked : Option HeldKey) (blob : List ℕ) → who.is_hidden blob ≡ true
        → IsAside held under_way (remove_by asked asker blob held under_way)
    removed_so None blob hidden = stays-aside _ refl refl
    removed_so (Some key) blob hidden = remove_seen_so (sees asker key) blob hidden

    own-unlocked : (request : ClientRequest) → IsOwnMatter who request
        → IsAside held under_way (serve_unlocked request asker held under_way)
    own-unlocked ListIdentities own = stays-aside _ refl refl
    own-unlocked (Sign signing) own = absurd own
    own-unlocked (Add addition) own =
        added_so (find_identity addition.key.blob held.table.identities) addition own
    own-unlocked (Remove blob) own = removed_so (find_identity blob held.table.identities) blob own
    own-unlocked RemoveAll own = absurd own
    own-unlocked (Lock passphrase) own = absurd own
    own-unlocked (Unlock passphrase) own = absurd own
    own-unlocked (Bind bind) own = absurd own
    own-unlocked (OtherExtension name) own = absurd own
    own-unlocked (Unsupported number) own = absurd own

    own-locked : (passphrase : List ℕ) (request : ClientRequest) → IsOwnMatter who request
        → IsAside held under_way (serve_locked passphrase request held under_way)
    own-locked passphrase ListIdentities own = stays-aside _ refl refl
    own-locked passphrase (Sign signing) own = absurd own
    own-locked passphrase (Add addition) own = stays-aside _ refl refl
    own-locked passphrase (Remove blob) own = stays-aside _ refl refl
    own-locked passphrase RemoveAll own = absurd own
    own-locked passphrase (Lock other) own = absurd own
    own-locked passphrase (Unlock other) own = absurd own
    own-locked passphrase (Bind bind) own = absurd own
    own-locked passphrase (OtherExtension name) own = absurd own
    own-locked passphrase (Unsupported number) own = absurd own

    by_lock : (lock : Option (List ℕ)) (request : ClientRequest) → IsOwnMatter who request
        → IsAside held under_way (serve_by lock request asker held under_way)
    by_lock None request own = own-unlocked request own
    by_lock (Some passphrase) request own = own-locked passphrase request own

    own-served : (read : Result ClientRequest MsgFault)
        → ((request : ClientRequest) → read ≡ Ok request → IsOwnMatter who request)
        → IsAside held under_way (serve read asker held under_way)
    own-served (Err fault) own = stays-aside _ refl refl
    own-served (Ok request) own = by_lock held.lock request (own request refl)

  -- ---- its port is looked at

  -- the event left the state alike: these ports were changed before
  module _ (start state : State) (ports : AreAlikePorts who start.ports state.ports) (rest : state ≡ record start { ports = state.ports }) (alike : AreAlike who start start) (now : start.moment.mono ≡ start.held.table.greatest) (port : Port) (inside : who.is_insider port.number ≡ true) where
    stays : AreAlike who start state
    stays = record {
      ports = ports;
      held = subst (λ (h : KeyState). IsAlikeHeld who start.held h) (sym (ap (λ (s : State). s.held) rest)) alike.held;
      rest = rest ∙ ap (λ (h : KeyState). record start { ports = state.ports; held = h }) (sym (ap (λ (s : State). s.held) rest));
      calm = alike.calm;
    }

    taken-own : (body_len : ℕ)
        → ((request : ClientRequest) → agent_request_of (front_body body_len port.heard) ≡ Ok request → IsOwnMatter who request)
        → AreAlike who start (taken body_len (front_body body_len port.heard) port state).state
    taken-own body_len own = subst (λ (s : State). AreAlikePorts who start.ports s.ports → AreAlike who start (taken body_len body port s).state) (sym rest) so ports
      where
        body : List ℕ
        body = front_body body_len port.heard

        so : AreAlikePorts who start.ports state.ports
            → AreAlike who start (taken body_len body port (record start { ports = state.ports })).state
        so these =
            let aside = own-served (asker_at start.moment port) start.held start.under_way alike.held now (agent_request_of body) own in
            let verdict : Verdict = (serve (agent_request_of body) (asker_at start.moment port) start.held start.under_way).work.verdict in
            let take : Port → Port = take_frame body_len (attempts start.held.lock body) in
            let keeps : KeepsPlace take = record { number = λ p. refl; door = λ p. refl } in
            let first_ports = change_port port.number take state.ports in
            record {
              ports = ports-in_turn who start.ports state.ports _ these
                  (ports-in_turn who state.ports first_ports _ (ports-own port.number take keeps inside state.ports) (ports-own port.number (tell verdict) (keeps-tell verdict) inside first_ports));
              held = aside.keys;
              rest = ap (λ (w : UnderWay). record (taken body_len body port (record start { ports = state.ports })).state { under_way = w }) aside.same;
              calm = alike.calm;
            }

    front-own : (answer : Front) → due port ≡ answer → ((announced : ℕ) → due port ≢ Bad announced)
        → ((body_len : ℕ) (request : ClientRequest) → due port ≡ Whole body_len → agent_request_of (front_body body_len port.heard) ≡ Ok request → IsOwnMatter who request)
        → AreAlike who start (look_front answer port state).state
    front-own (Whole body_len) is well own =
        taken-own body_len (λ request read. own body_len request is read)
    front-own (Bad announced) is well own = absurd (well announced is)
    front-own More is well own = stays

    waits-own : (waits : Waits) (owed : List ℕ) → port.waits ≡ waits → port.owed ≡ owed
        → ((announced : ℕ) → due port ≢ Bad announced)
        → ((body_len : ℕ) (request : ClientRequest) → due port ≡ Whole body_len → agent_request_of (front_body body_len port.heard) ≡ Ok request → IsOwnMatter who request)
        → AreAlike who start (look_waits waits owed port state).state
    waits-own Nothing [] nothing is well own =
        front-own (front longest_body port.heard)
        (ap (λ (w : Waits). due (record port { waits = w })) nothing ∙ ap (λ (o : List ℕ). due (record port { waits = Nothing; owed = o })) is) well own
    waits-own waits owed waiting is well own = stays

  -- the port was changed so before it is looked at
  module _ (start : State) (alike : AreAlike who start start) (now : start.moment.mono ≡ start.held.table.greatest) (number : ℕ) (port : Port) (found : find_port number start.ports ≡ Some port) (f : Port → Port) (keeps : KeepsPlace f) (inside : IsInside who port (f port)) where
    looked-own : AreAlike who start (looked port.number (changed port.number f start)).state
    looked-own =
        let own : port.number ≡ number = found_number number start.ports port found in
        let there : find_port port.number start.ports ≡ Some port = ap (λ n. find_port n start.ports) own ∙ found in
        let behind : find_port port.number (change_port port.number f start.ports) ≡ Some (f port) = find_port-change_port port.number f start.ports keeps.number ∙ ap (option_map f) there in
        let it_is : who.is_insider (f port).number ≡ true = ap who.is_insider (keeps.number port) ∙ inside.insider in
        subst (λ (asked : Option Port). AreAlike who start (look_port asked (changed port.number f start)).state) (sym behind)
        (waits-own start (changed port.number f start) (ports-own port.number f keeps inside.insider start.ports) refl alike now (f port) it_is (f port).waits (f port).owed refl refl inside.well inside.own)

  -- ---- events

  module _ (state : State) (moment : Moment) (same : at_moment moment state ≡ state) (alike : AreAlike who state state) (number : ℕ) (port : Port) (found : find_port number state.ports ≡ Some port) (client : port.door ≡ Clients) where
    now : state.moment.mono ≡ state.held.table.greatest
    now = sym (ap (λ (s : State). s.moment.mono) same) ∙ at_greatest ∙ ap (λ (s : State). s.held.table.greatest) same
      where
        at_greatest : (at_moment moment state).moment.mono ≡ (at_moment moment state).held.table.greatest
        at_greatest = at_moment-keeps (λ s. s.moment.mono ≡ s.held.table.greatest) moment state (λ s is. is) (λ one s there is. is) refl

    pub heard-own : (piece : List ℕ) → IsInside who port (heard_more piece port)
        → AreAlike who state (step state moment (Heard number piece)).state
    heard-own piece inside =
        subst (λ (s : State). AreAlike who state (handle (Heard number piece) s).state) (sym same)
        (subst (λ (asked : Option Port). AreAlike who state (heard_at asked piece state).state) (sym found)
        (subst (λ d. AreAlike who state (heard_at (Some (record port { door = d })) piece state).state) (sym client)
        (looked-own state alike now number port found (heard_more piece) (keeps-heard who piece) inside)))

    pub took-own : (count : ℕ) → IsInside who port (took_some count port)
        → AreAlike who state (step state moment (Took number count)).state
    took-own count inside =
        subst (λ (s : State). AreAlike who state (handle (Took number count) s).state) (sym same)
        (subst (λ (asked : Option Port). AreAlike who state (took_at asked count state).state) (sym found)
        (subst (λ d. AreAlike who state (took_at (Some (record port { door = d })) count state).state) (sym client)
        (looked-own state alike now number port found (took_some count) (keeps-took who count) inside)))
