-- What an event of a client brings to it in the agent and in a book: both look at the same bytes.
use Rattle.std.proofs.Common.{◌≡◌, ◌≢◌, ◌==◌, ℕ, ◌+◌, ◌<◌, ◌≤◌, List, [], ◌∷◌, ◌++◌, length, take, drop, refl, ap, arith, sym, subst, ◌∙◌, append_assoc, Option, Some, None, true, inl, inr, if◌then◌else◌}
use Rattle.std.proofs.lemmas.Bool.{cases_lt}
use Rattle.std.proofs.lemmas.Bool.Decides.{nat_tests}
use Rattle.std.proofs.lemmas.List.{append-nil, drop_all, length-append, take-append-drop}
use Rattle.std.specs.List.{cons_option, filter_map}
use Rattle.std.specs.Option.{option_map}
use Rattle.world_ports.specs.declared.Door.TheVariants.{Clients}
use Rattle.wire_text.specs.Bounds.{longest_body}
use Rattle.wire_text.specs.Frames.{Bad, Front, IsBody, More, Whole, after_front, front, front_body}
use Rattle.wire_text.specs.Wire.{announced_len, string}
use Rattle.wire_text.proofs.FrontLemmas.{front-short, front-string, front-waits}
use Rattle.wire_text.proofs.WireLemmas.{announced_len-append, announced_len-string, length-string}
use Rattle.agent_msg.specs.Reading.{request_of}
use Rattle.agent_model.specs.Actions.{Outcome, stay}
use Rattle.agent_model.specs.Binds.{agent_request_of}
use Rattle.agent_model.specs.Children.{changed, heard_more}
use Rattle.agent_model.specs.Dispatch.{Asker, Served, serve}
use Rattle.agent_model.specs.Events.{Heard, Took}
use Rattle.agent_model.specs.KeyStates.{KeyState}
use Rattle.agent_model.specs.Looks.{due, due_front}
use Rattle.agent_model.specs.Sound.{IsRising}
use Rattle.agent_model.specs.State.{Nothing, OnAsk, OnConfirmation, Port, State, UnderWay, Waits, change_port, find_port, remove_port}
use Rattle.agent_model.specs.Step.{asker_at, attempts, handle, look_front, take_frame, taken, took_some}
use Rattle.agent_model.specs.Step as steps
use Rattle.agent_model.specs.Verdicts.{Awaits, tell, verdict_text}
use Rattle.agent_model.proofs.ClientLemmas.{handle-heard, handle-took, looked-found}
use Rattle.agent_model.proofs.PortsLemmas.{find_port-change_port, find_port-remove_port, found_number, rising-change_port}
use Rattle.agent_model.proofs.ServeLemmas.{IsServed, answered, asked, raised, refused, serve-ends}
use Rattle.log_book.specs.Peers as peers
use Rattle.log_book.specs.Peers.{Peer, answered_by, ended_by, ended_with, looked, read_at, read_next, sent_more}
use Rattle.log_book.specs.Requests.{asked_by, next_by, next_in}
use Rattle.log_book.specs.declared.told.Asked.TheVariants as asks
use Rattle.log_laws.specs.Reads.{Reading, read_in}
use Rattle.log_laws.specs.Reads as reads
use Rattle.log_laws.proofs.BookLemmas.{claim_by, ended_claim}
use Rattle.log_laws.proofs.ClientLemmas.{Client, asked-some, claim-read, idle, looked-busy, looked-idle, most_owed, next-by, taking, told-client, waiting}
use Rattle.log_laws.proofs.ReadLemmas.{served-none}

-- what will be told of the request that a client waits for
abbrev pub claim : Peer → List Reading
claim peer = claim_by peer.asked peer.course.since

-- a request that was served has an end, or something that its client waits for
served-some : {asker : Asker} {held : KeyState} {under_way : UnderWay} {served : Served}
    → IsServed asker held under_way served → served.work.verdict ≢ Awaits Nothing
served-some (answered reply kept greatest) none = absurd (cc)
served-some (refused cause) none = absurd (cc)
served-some (asked errand free may) none = absurd (cc)
served-some (raised key signing free) none = absurd (cc)

-- ---- a look

-- a client is open after an event, and a book holds it as this, or its port was closed; what was read is what is to be
-- told then, behind what was to be told before
pub data LooksAt (number wall : ℕ) (before : List Reading) (new : Peer) (outcome : Outcome) : Type 0 where
  stays : (port : Port) → find_port number outcome.state.ports ≡ Some port → port.door ≡ Clients
      → (length port.owed ≤ most_owed → Client port new)
      → claim new ≡ before ++ filter_map (read_in wall number) outcome.actions → LooksAt number wall before new outcome
  ends : find_port number outcome.state.ports ≡ None
      → claim new ≡ before ++ filter_map (read_in wall number) outcome.actions → LooksAt number wall before new outcome

-- nothing is to be taken of who waits, or has bytes to take
pub due-waits : (on : Waits) (owed heard : List ℕ) → on ≢ Nothing → due_front on owed heard ≡ More
due-waits Nothing owed heard some = absurd (some refl)
due-waits (OnAsk ask) owed heard some = refl
due-waits (OnConfirmation job) owed heard some = refl

pub due-owed : (owed heard : List ℕ) → owed ≢ [] → due_front Nothing owed heard ≡ More
due-owed [] heard some = absurd (some refl)
due-owed (byte ∷ owed) heard some = refl

module _ (number wall : ℕ) (state : State) (port : Port) (found : find_port number state.ports ≡ Some port) (door : port.door ≡ Clients) (rising : IsRising 0 state.last_port state.ports) where
  same_number : port.number ≡ number
  same_number = found_number number state.ports port found

  -- by what stands in front of a client's bytes that waits for nothing and has nothing to take
  module _ (peer : Peer) (nothing : port.waits ≡ Nothing) (unowed : port.owed ≡ []) (sent : peer.sent ≡ port.heard) (given : peer.given ≡ []) (none : peer.asked ≡ asks.Nothing) where
    due-idle : (at : Front) → front longest_body port.heard ≡ at → due port ≡ at
    due-idle at is = ap (λ w. due_front w port.owed port.heard) nothing ∙ ap (λ o. due_front Nothing o port.heard) unowed ∙ is

    read-is : (at : Front) → front longest_body port.heard ≡ at → looked wall peer ≡ read_next wall (next_by at port.heard) peer
    read-is at is = looked-idle wall peer none ∙ ap (λ bytes. read_next wall (next_in bytes) peer) sent ∙ ap (λ n. read_next wall n peer) (next-by port.heard at is)

    -- a request is taken
    module _ (body_len : ℕ) (is : front longest_body port.heard ≡ Whole body_len) where
      abbrev body : List ℕ
      body = front_body body_len port.heard

      abbrev served : Served
      served = serve (agent_request_of body) (asker_at state.moment port) state.held state.under_way

      abbrev take_it : Port → Port
      take_it = take_frame body_len (attempts state.held.lock body)

      abbrev new_port : Port
      new_port = tell served.work.verdict (take_it port)

      abbrev new_peer : Peer
      new_peer = record peer { sent = after_front body_len port.heard; asked = asked_by (request_of body); course = read_at wall }

      found-own : find_port number (change_port port.number (tell served.work.verdict) (change_port port.number take_it state.ports)) ≡ Some new_port
      found-own =
          ap (λ n. find_port number (change_port n (tell served.work.verdict) (change_port n take_it state.ports))) same_number
          ∙ find_port-change_port number (tell served.work.verdict) (change_port number take_it state.ports) (λ p. refl)
          ∙ ap (option_map (tell served.work.verdict)) (find_port-change_port number take_it state.ports (λ p. refl) ∙ ap (option_map take_it) found)

      is-served : IsServed (asker_at state.moment port) state.held state.under_way served
      is-served = serve-ends (asker_at state.moment port) state.held state.under_way body

      read-own : claim new_peer ≡ filter_map (read_in wall number) (taken body_len body port state).actions
      read-own =
          let itself : (number == number) ≡ true = grind (arith, nat_tests) in
          let its : (port.number == number) ≡ true = ap (λ n. n == number) same_number ∙ itself in
          sym (ap (λ b. cons_option (if b then option_map (reads.read_at wall) (reads.asked_by (agent_request_of body)) else None) (filter_map (read_in wall number) served.work.actions)) its
          ∙ claim-read wall (request_of body) (filter_map (read_in wall number) served.work.actions) (served-none number wall is-served))

      taken-looks : LooksAt number wall [] new_peer (taken body_len body port state)
      taken-looks =
          stays new_port found-own door
          (λ short. told-client new_port new_peer served.work.verdict (ap (λ o. o ++ verdict_text served.work.verdict) unowed) refl (served-some is-served) refl given (asked-some (request_of body)) short)
          read-own

    looks-front : (at : Front) → front longest_body port.heard ≡ at
        → LooksAt number wall [] (read_next wall (next_by at port.heard) peer) (look_front at port state)
    looks-front (Whole body_len) is = taken-looks body_len is
    looks-front (Bad announced) is =
        ends (ap (λ n. find_port number (remove_port n state.ports)) same_number ∙ find_port-remove_port number 0 state.last_port state.ports rising)
        (ap (λ a. claim_by a peer.course.since) none)
    looks-front More is =
        stays port found door (λ short. idle nothing unowed sent given none is) (ap (λ a. claim_by a peer.course.since) none)

    pub looks : LooksAt number wall [] (looked wall peer) (steps.looked number state)
    looks =
        let at = front longest_body port.heard in
        subst (λ outcome. LooksAt number wall [] (looked wall peer) outcome) (sym (looked-found number port state at found (due-idle at refl)))
        (subst (λ new. LooksAt number wall [] new (look_front at port state)) (sym (read-is at refl)) (looks-front at refl))

  -- a client that has to wait isn't looked at
  looks-busy : (peer : Peer) (before : List Reading) → due port ≡ More → peer.asked ≢ asks.Nothing → Client port peer
      → claim peer ≡ before → LooksAt number wall before (looked wall peer) (steps.looked number state)
  looks-busy peer before more some client is =
      subst (λ outcome. LooksAt number wall before (looked wall peer) outcome) (sym (looked-found number port state More found more))
      (subst (λ new. LooksAt number wall before new (stay state)) (sym (looked-busy wall peer some))
      (stays port found door (λ short. client) (is ∙ sym (append-nil before))))

-- ---- the client sends

module _ (number wall : ℕ) (state : State) (port : Port) (peer : Peer) (found : find_port number state.ports ≡ Some port) (door : port.door ≡ Clients) (rising : IsRising 0 state.last_port state.ports) where
  module _ (piece : List ℕ) where
    abbrev heard_state : State
    heard_state = changed number (heard_more piece) state

    heard-found : find_port number heard_state.ports ≡ Some (heard_more piece port)
    heard-found = find_port-change_port number (heard_more piece) state.ports (λ p. refl) ∙ ap (option_map (heard_more piece)) found

    heard-rising : IsRising 0 heard_state.last_port heard_state.ports
    heard-rising = rising-change_port number 0 state.last_port (heard_more piece) state.ports (λ p. refl) rising

    heard-looks : Client port peer → LooksAt number wall (claim peer) (looked wall (sent_more piece peer)) (steps.looked number heard_state)
    heard-looks (idle nothing unowed sent given none more) =
        subst (λ before. LooksAt number wall before (looked wall (sent_more piece peer)) (steps.looked number heard_state)) (sym (ap (λ a. claim_by a peer.course.since) none))
        (looks number wall heard_state (heard_more piece port) heard-found door heard-rising (sent_more piece peer) nothing unowed (ap (λ s. s ++ piece) sent) given none)
    heard-looks (waiting on unowed sent given some) =
        looks-busy number wall heard_state (heard_more piece port) heard-found door heard-rising (sent_more piece peer) (claim peer) (due-waits port.waits port.owed (port.heard ++ piece) on) some
        (waiting on unowed (ap (λ s. s ++ piece) sent) given some) refl
    heard-looks (taking body nothing owes sent some fits text) =
        looks-busy number wall heard_state (heard_more piece port) heard-found door heard-rising (sent_more piece peer) (claim peer) (ap (λ w. due_front w port.owed (port.heard ++ piece)) nothing ∙ due-owed port.owed (port.heard ++ piece) owes) some
        (taking body nothing owes (ap (λ s. s ++ piece) sent) some fits text) refl

    pub own-heard : Client port peer
        → LooksAt number wall (claim peer) (looked wall (sent_more piece peer)) (handle (Heard number piece) state)
    own-heard client =
        subst (λ outcome. LooksAt number wall (claim peer) (looked wall (sent_more piece peer)) outcome) (sym (handle-heard number piece port state found door)) (heard-looks client)

-- ---- the client takes

-- the front of a frame isn't whole
pub front-part : (part rest body : List ℕ) → IsBody longest_body body → part ++ rest ≡ string body → rest ≢ []
    → front longest_body part ≡ More
front-part part [] body fits is some = absurd (some refl)
front-part part (byte ∷ rest) body fits is some = elim (cases_lt (length part) 4) [
  | inl short ↦ front-short longest_body part short
  | inr header ↦
      (let size : length part + length (byte ∷ rest) ≡ 4 + length body = sym (length-append part (byte ∷ rest)) ∙ ap length is ∙ length-string body in
      let within : length body ≤ 262144 = fits.within in
      let announced : announced_len part ≡ length body =
      sym (announced_len-append part (byte ∷ rest) header) ∙ ap announced_len is ∙ ap announced_len (sym (append-nil (string body)))
      ∙ announced_len-string body [] (omega (arith, within)) in
      front-waits longest_body part header (omega (arith, announced, fits.some)) (omega (arith, announced, within)) (omega (arith, announced, size)))
]

-- what a client is told of by bytes that it takes, and what is to be told behind that, is what was to be told before
pub record TakesAt (number wall : ℕ) (peer : Peer) (given : List ℕ) (outcome : Outcome) : Type 0 where
  pub before : List Reading
  pub split : ended_claim (ended_by given peer) ++ before ≡ claim peer
  pub end : LooksAt number wall before (peers.answered wall given peer) outcome

-- by the message that the bytes end
pub answered-by : (wall : ℕ) (given : List ℕ) (peer : Peer) (next : Option (List ℕ × List ℕ))
    → next_in (peer.given ++ given) ≡ next
    → peers.answered wall given peer ≡ answered_by wall (peer.given ++ given) next peer
unfolding peers.answered
answered-by wall given peer next is = ap (λ n. answered_by wall (peer.given ++ given) n peer) is

pub ended-by : (given : List ℕ) (peer : Peer) (next : Option (List ℕ × List ℕ)) → next_in (peer.given ++ given) ≡ next
    → ended_by given peer ≡ option_map (ended_with peer) next
unfolding ended_by
ended-by given peer next is = ap (option_map (ended_with peer)) is

module _ (number wall count : ℕ) (state : State) (port : Port) (peer : Peer) (found : find_port number state.ports ≡ Some port) (door : port.door ≡ Clients) (rising : IsRising 0 state.last_port state.ports) (some : 0 < count) (within : count ≤ length port.owed) where
  abbrev pub took_state : State
  took_state = changed number (took_some count) state

  took-found : find_port number took_state.ports ≡ Some (took_some count port)
  took-found = find_port-change_port number (took_some count) state.ports (λ p. refl) ∙ ap (option_map (took_some count)) found

  took-rising : IsRising 0 took_state.last_port took_state.ports
  took-rising = rising-change_port number 0 state.last_port (took_some count) state.ports (λ p. refl) rising

  owed-none : port.owed ≡ [] → ⊥
  owed-none none = let zero : length port.owed ≡ 0 = ap length none in omega (arith, zero, some, within)

  abbrev pub bytes : List ℕ
  bytes = take count port.owed

  module _ (body : List ℕ) (nothing : port.waits ≡ Nothing) (sent : peer.sent ≡ port.heard) (asking : peer.asked ≢ asks.Nothing) (fits : IsBody longest_body body) (text : peer.given ++ port.owed ≡ string body) where
    -- all of it
    takes-all : drop count port.owed ≡ [] → TakesAt number wall peer bytes (steps.looked number took_state)
    takes-all gone =
        let all : bytes ≡ port.owed = sym (append-nil bytes) ∙ ap (λ r. bytes ++ r) (sym gone) ∙ take-append-drop count port.owed in
        let whole : peer.given ++ bytes ≡ string body = ap (λ b. peer.given ++ b) all ∙ text in
        let front-is : front longest_body (string body) ≡ Whole (length body) = ap (front longest_body) (sym (append-nil (string body))) ∙ front-string longest_body body [] (omega arith) fits in
        let behind : after_front (length body) (string body) ≡ [] = drop_all (4 + length body) (string body) (omega (arith, length-string body)) in
        let next : next_in (peer.given ++ bytes) ≡ Some (front_body (length body) (string body), []) = ap next_in whole ∙ next-by (string body) (Whole (length body)) front-is ∙ ap (λ r. Some (front_body (length body) (string body), r)) behind in
        let freed : Peer = record peer { given = []; asked = asks.Nothing } in
        record {
          before = [];
          split = ap (λ e. ended_claim e ++ []) (ended-by bytes peer _ next) ∙ append-nil (claim peer);
          end = subst (λ new. LooksAt number wall [] new (steps.looked number took_state)) (sym (answered-by wall bytes peer _ next))
              (looks number wall took_state (took_some count port) took-found door took-rising freed nothing gone sent refl refl);
        }

    -- a part
    takes-part : (byte : ℕ) (rest : List ℕ) → drop count port.owed ≡ byte ∷ rest
        → TakesAt number wall peer bytes (steps.looked number took_state)
    takes-part byte rest left =
        let whole : (peer.given ++ bytes) ++ drop count port.owed ≡ string body = append_assoc peer.given bytes (drop count port.owed) ∙ ap (λ b. peer.given ++ b) (take-append-drop count port.owed) ∙ text in
        let some_left : drop count port.owed ≢ [] = λ none. let no : byte ∷ rest ≡ [] = sym left ∙ none in absurd (cc) in
        let next : next_in (peer.given ++ bytes) ≡ None = next-by (peer.given ++ bytes) More (front-part (peer.given ++ bytes) (drop count port.owed) body fits whole some_left) in
        let more : Peer = record peer { given = peer.given ++ bytes } in
        let waits : due (took_some count port) ≡ More = ap (λ w. due_front w (drop count port.owed) port.heard) nothing ∙ due-owed (drop count port.owed) port.heard some_left in
        record {
          before = claim peer;
          split = ap (λ e. ended_claim e ++ claim peer) (ended-by bytes peer None next);
          end = subst (λ new. LooksAt number wall (claim peer) new (steps.looked number took_state)) (looked-busy wall more asking ∙ sym (answered-by wall bytes peer None next))
              (looks-busy number wall took_state (took_some count port) took-found door took-rising more (claim peer) waits asking (taking body nothing some_left sent asking fits whole) refl);
        }

    takes-by : (rest : List ℕ) → drop count port.owed ≡ rest → TakesAt number wall peer bytes (steps.looked number took_state)
    takes-by [] is = takes-all is
    takes-by (byte ∷ rest) is = takes-part byte rest is

  pub own-took : Client port peer → TakesAt number wall peer bytes (handle (Took number count) state)
  own-took (idle nothing unowed sent given none more) = absurd (owed-none unowed)
  own-took (waiting on unowed sent given asking) = absurd (owed-none unowed)
  own-took (taking body nothing owes sent asking fits text) =
      subst (λ outcome. TakesAt number wall peer bytes outcome) (sym (handle-took number count port state found door))
      (takes-by body nothing sent asking fits text (drop count port.owed) refl)
