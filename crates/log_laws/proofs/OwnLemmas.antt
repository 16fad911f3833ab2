-- What a past says of a client's request, and what its port is then, behind an event of the client itself.
use Rattle.std.proofs.Common.{◌≡◌, ◌≢◌, ◌==◌, ℕ, suc, ◌+◌, ◌<◌, ◌≤◌, List, [], ◌∷◌, ◌++◌, length, map, take, drop, refl, ap, arith, sym, subst, ◌∙◌, append_assoc, Bool, Some, None, is_some, true, false, if◌then◌else◌}
use Rattle.std.proofs.lemmas.Bool.Decides.{nat_tests}
use Rattle.std.proofs.lemmas.List.{append-nil, drop_all, length-append, length-take-le, take-append-drop, take_at}
use Rattle.std.specs.Option.{option_map, option_or}
use Rattle.world_ports.specs.declared.Door.TheVariants.{Clients}
use Rattle.world_ports.specs.declared.Moment.{Moment}
use Rattle.wire_text.specs.Bounds.{longest_body}
use Rattle.wire_text.specs.Frames.{Bad, Front, IsBody, More, Whole, after_front, front, front_body}
use Rattle.wire_text.specs.Wire.{string, uint32}
use Rattle.wire_text.proofs.FrontLemmas.{front-string}
use Rattle.wire_text.proofs.WireLemmas.{drop-string, length-string}
use Rattle.agent_msg.specs.Reading.{request_of}
use Rattle.agent_msg.specs.Replies.{entries}
use Rattle.agent_msg.specs.Requests.{ClientRequest}
use Rattle.agent_msg.specs.declared.fault.MsgFault.{MsgFault}
use Rattle.std.proofs.Common.{Result}
use Rattle.agent_model.specs.Actions.{Action, Outcome, Requesting, stay}
use Rattle.agent_model.specs.Binds.{agent_request_of}
use Rattle.agent_model.specs.Children.{changed, heard_more}
use Rattle.agent_model.specs.Dispatch.{Asker, Served, serve}
use Rattle.agent_model.specs.Errands.{Errand, Signs, Verifies, asking_of, put_unless}
use Rattle.agent_model.specs.Events.{Heard, Took}
use Rattle.agent_model.specs.KeyStates.{KeyState}
use Rattle.agent_model.specs.Looks.{due, due_front}
use Rattle.agent_model.specs.Runs.{Stamped}
use Rattle.agent_model.specs.State.{Nothing, OnAsk, OnConfirmation, Port, State, UnderWay, change_port, find_port}
use Rattle.agent_model.specs.Step.{asker_at, attempts, handle, look_front, take_frame, taken, took_some}
use Rattle.agent_model.specs.Step as steps
use Rattle.agent_model.specs.Verdicts.{tell, verdict_text, verdict_waits}
use Rattle.agent_model.proofs.ClientLemmas.{handle-heard, handle-took, looked-found}
use Rattle.agent_model.proofs.PortsLemmas.{find_port-change_port, found_number}
use Rattle.agent_model.proofs.ServeLemmas.{Serves, adds, confirms, denies, empties, lists, locks, removes, serve-ends, serves-any, signs, unlocks, verifies}
use Rattle.log_book.specs.Peers as peers
use Rattle.log_book.specs.Peers.{Peer, answered_by, ended_by, ended_with, looked, read_next, sent_more}
use Rattle.log_book.specs.Requests.{first_byte, next_by, next_in}
use Rattle.log_book.specs.declared.told.Asked.TheVariants as asks
use Rattle.log_laws.specs.Ends.{Request, ask_in, came_by, ended_at, last_request, readings_of, went_by, went_told}
use Rattle.log_laws.proofs.BookLemmas.{claim_by}
use Rattle.log_laws.proofs.ClientLemmas.{Client, claim-read, idle, looked-busy, looked-idle, most_owed, next-by, taking, waiting}
use Rattle.log_laws.proofs.EndLemmas.{came_reply, ended_ends}
use Rattle.log_laws.proofs.FareLemmas.{Fared, Fares, IsPut, IsSettled, SaysCame, says-came}
use Rattle.log_laws.proofs.LookLemmas.{answered-by, claim, due-owed, due-waits, ended-by, front-part}
use Rattle.log_laws.proofs.PastLemmas.{last-own, stamps}
use Rattle.log_laws.proofs.ReadLemmas.{served-others}
use Rattle.log_laws.proofs.WentLemmas.{GoesSo}

-- ---- a request that is served

-- what its client waits for, or takes, is what was asked for it
record Begins (number : ℕ) (served : Served) : Type 0 where
  asked : (ask : ℕ) → verdict_waits served.work.verdict ≡ OnAsk ask → IsPut number ask served.work.actions
  raised : (job : ℕ) → verdict_waits served.work.verdict ≡ OnConfirmation job → ask_in number served.work.actions ≡ None
  settled : verdict_waits served.work.verdict ≡ Nothing → IsSettled (ask_in number served.work.actions)
  own : verdict_waits served.work.verdict ≡ Nothing → List ℕ
  text : (is : verdict_waits served.work.verdict ≡ Nothing) → verdict_text served.work.verdict ≡ string (own is)
  came : (is : verdict_waits served.work.verdict ≡ Nothing) (was_put : Bool)
      → came_reply was_put (first_byte (own is)) ≡ came_by was_put (ask_in number served.work.actions)

begins-put : (number : ℕ) (asker : Asker) (errand : Errand) (held : KeyState) (under_way : UnderWay) → asker.port ≡ number
    → Begins number (record { held = held; work = put_unless None errand asker.port under_way })
begins-put number asker errand held under_way own =
    let its : (asker.port == number) ≡ true = grind (arith, nat_tests) in
    record {
      asked = λ ask on. let same : OnAsk (under_way.link.last + 1) ≡ OnAsk ask = on in let equal : under_way.link.last + 1 ≡ ask = cc in record {
        put = (asking_of errand asker.port (under_way.link.last + 1), []);
        is = ap (λ b. option_or (if b then Some (asking_of errand asker.port (under_way.link.last + 1), []) else None) None) its;
        same = equal;
        open_yet = refl;
      };
      raised = λ job on. absurd (cc);
      settled = λ none. absurd (cc);
      own = λ none. [];
      text = λ none. absurd (cc);
      came = λ none. absurd (cc);
    }

begins-served : (number : ℕ) {read : Result ClientRequest MsgFault} {asker : Asker} {held : KeyState} {under_way : UnderWay} {served : Served}
    → asker.port ≡ number → Serves read asker held under_way served → Begins number served
begins-served number own (denies cause) = record { asked = λ ask on. absurd (cc); raised = λ job on. absurd (cc); settled = λ none. tt; own = λ none. 5 ∷ []; text = λ none. refl; came = λ none was_put. refl }
begins-served number own (lists identities is) = record { asked = λ ask on. absurd (cc); raised = λ job on. absurd (cc); settled = λ none. tt; own = λ none. 12 ∷ (uint32 (length identities) ++ entries identities); text = λ none. refl; came = λ none was_put. refl }
begins-served number own (adds addition is) = record { asked = λ ask on. absurd (cc); raised = λ job on. absurd (cc); settled = λ none. tt; own = λ none. 6 ∷ []; text = λ none. refl; came = λ none was_put. refl }
begins-served number own (removes blob is) = record { asked = λ ask on. absurd (cc); raised = λ job on. absurd (cc); settled = λ none. tt; own = λ none. 6 ∷ []; text = λ none. refl; came = λ none was_put. refl }
begins-served number own (empties is) = record { asked = λ ask on. absurd (cc); raised = λ job on. absurd (cc); settled = λ none. tt; own = λ none. 6 ∷ []; text = λ none. refl; came = λ none was_put. refl }
begins-served number own (locks passphrase is) = record { asked = λ ask on. absurd (cc); raised = λ job on. absurd (cc); settled = λ none. tt; own = λ none. 6 ∷ []; text = λ none. refl; came = λ none was_put. refl }
begins-served number own (unlocks passphrase is) = record { asked = λ ask on. absurd (cc); raised = λ job on. absurd (cc); settled = λ none. tt; own = λ none. 6 ∷ []; text = λ none. refl; came = λ none was_put. refl }
begins-served number {asker = asker} {held = held} {under_way = under_way} own (signs signing key is found unasked free) =
    let put = begins-put number asker (Signs key signing) held under_way own in
    record { asked = put.asked; raised = put.raised; settled = put.settled; own = put.own; text = put.text; came = put.came }
begins-served number own (confirms signing key is found free) = record { asked = λ ask on. absurd (cc); raised = λ job on. refl; settled = λ none. absurd (cc); own = λ none. []; text = λ none. absurd (cc); came = λ none. absurd (cc) }
begins-served number {asker = asker} {held = held} {under_way = under_way} own (verifies bind is_new is stands free) =
    let put = begins-put number asker (Verifies bind is_new) held under_way own in
    record { asked = put.asked; raised = put.raised; settled = put.settled; own = put.own; text = put.text; came = put.came }

module _ (number wall : ℕ) (past : List Stamped) (at_once : Moment) (same_wall : at_once.wall ≡ wall) where
  -- a client behind a look, in an outcome and in a book
  pub record Looks (new : Peer) (outcome : Outcome) : Type 0 where
    pub fares : (port : Port) → find_port number outcome.state.ports ≡ Some port → length port.owed ≤ most_owed
        → Fares number (past ++ stamps at_once outcome.actions) port new
    pub gone : find_port number outcome.state.ports ≡ None → claim new ≡ []
    pub goes : GoesSo number (past ++ stamps at_once outcome.actions) outcome.actions new
    -- where it waits for an answer to what was put, it has read nothing
    pub unread : (before : ℕ) → new.course.put ≡ Some before → new.asked ≢ asks.Nothing → outcome.actions ≡ []

  module _ (state : State) (port : Port) (found : find_port number state.ports ≡ Some port) where
    -- nothing is looked at
    looks-busy : (peer : Peer) → due port ≡ More → peer.asked ≢ asks.Nothing → Fares number past port peer → GoesSo number past [] peer
        → Looks (looked wall peer) (steps.looked number state)
    looks-busy peer more some fares goes =
        subst (λ outcome. Looks (looked wall peer) outcome) (sym (looked-found number port state More found more))
        (subst (λ new. Looks new (stay state)) (sym (looked-busy wall peer some)) record {
          fares = λ other there short busy.
              let it : Some port ≡ Some other = sym found ∙ there in
              let is : port ≡ other = cc in
              subst (λ p. Fared number (past ++ []) p peer) is (subst (λ l. Fared number l port peer) (sym (append-nil past)) (fares busy));
          gone = λ none. let no : Some port ≡ None = sym found ∙ none in absurd (cc);
          goes = λ busy request last. goes busy request (sym (ap (last_request number) (append-nil past)) ∙ last);
          unread = λ before put busy. refl;
        })

    module _ (peer : Peer) (nothing : port.waits ≡ Nothing) (unowed : port.owed ≡ []) (sent : peer.sent ≡ port.heard) (given : peer.given ≡ []) (none : peer.asked ≡ asks.Nothing) where
      looks-idle : (outcome : Outcome) → Looks peer outcome
      looks-idle outcome = record {
        fares = λ other there short busy. absurd (busy none);
        gone = λ gone. ap (λ a. claim_by a peer.course.since) none;
        goes = λ busy. absurd (busy none);
        unread = λ before put busy. absurd (busy none);
      }

      same_number : port.number ≡ number
      same_number = found_number number state.ports port found

      -- a request is taken
      looks-whole : (body_len : ℕ)
          → Looks (read_next wall (next_by (Whole body_len) port.heard) peer) (look_front (Whole body_len) port state)
      looks-whole body_len = record {
        fares = λ other there short busy.
            let it : Some new_port ≡ Some other = sym found-own ∙ there in
            let is : new_port ≡ other = cc in
            subst (λ p. Fared number (past ++ stamps at_once (taken body_len body port state).actions) p new_peer) is
            (fared (subst (λ (p : Port). length p.owed ≤ most_owed) (sym is) short));
        gone = λ gone. let no : Some new_port ≡ None = sym found-own ∙ gone in absurd (cc);
        goes = λ busy request last.
            let both : Some own_request ≡ Some request = sym last-request ∙ last in
            let it : own_request ≡ request = cc in
            ap (λ (r : Request). went_by number r.later) it;
        unread = λ before put busy. let no : None ≡ Some before = put in absurd (cc);
      }
        where
          body : List ℕ
          body = front_body body_len port.heard

          served : Served
          served = serve (agent_request_of body) (asker_at state.moment port) state.held state.under_way

          take_it : Port → Port
          take_it = take_frame body_len (attempts state.held.lock body)

          new_port : Port
          new_port = tell served.work.verdict (take_it port)

          new_peer : Peer
          new_peer = read_next wall (next_by (Whole body_len) port.heard) peer

          found-own : find_port number (taken body_len body port state).state.ports ≡ Some new_port
          found-own =
              ap (λ n. find_port number (change_port n (tell served.work.verdict) (change_port n take_it state.ports))) same_number
              ∙ find_port-change_port number (tell served.work.verdict) (change_port number take_it state.ports) (λ p. refl)
              ∙ ap (option_map (tell served.work.verdict)) (find_port-change_port number take_it state.ports (λ p. refl) ∙ ap (option_map take_it) found)

          begins : Begins number served
          begins = begins-served number same_number (serves-any (agent_request_of body) (asker_at state.moment port) state.held state.under_way)

          requesting : Requesting
          requesting = record { port = port.number; body = body; verdict = served.work.verdict }

          owes : new_port.owed ≡ verdict_text served.work.verdict
          owes = ap (λ o. o ++ verdict_text served.work.verdict) unowed

          own_request : Request
          own_request = record { wall = at_once.wall; body = body; later = served.work.actions }

          last-request : last_request number (past ++ stamps at_once (taken body_len body port state).actions) ≡ Some own_request
          last-request = last-own number past at_once requesting served.work.actions same_number
              (served-others number (serve-ends (asker_at state.moment port) state.held state.under_way body))

          fared : length new_port.owed ≤ most_owed
              → Fared number (past ++ stamps at_once (taken body_len body port state).actions) new_port new_peer
          fared short = record {
            request = own_request;
            last = last-request;
            reads = sym (claim-read wall (request_of body) [] refl)
                ∙ ap (λ w. readings_of (record { wall = w; body = body; later = served.work.actions })) (sym same_wall);
            asked = begins.asked;
            raised = begins.raised;
            taking = λ is. (
              begins.settled is,
              says-came (ask_in number served.work.actions) new_port.owed peer.given (begins.own is) (owes ∙ begins.text is) given short (begins.came is),
            );
          }

      looks-front : (at : Front) → Looks (read_next wall (next_by at port.heard) peer) (look_front at port state)
      looks-front (Whole body_len) = looks-whole body_len
      looks-front (Bad announced) = looks-idle (look_front (Bad announced) port state)
      looks-front More = looks-idle (look_front More port state)

      looks : Looks (looked wall peer) (steps.looked number state)
      looks =
          let at : Front = front longest_body port.heard in
          let due_is : due port ≡ at = ap (λ w. due_front w port.owed port.heard) nothing ∙ ap (λ o. due_front Nothing o port.heard) unowed in
          let read : looked wall peer ≡ read_next wall (next_by at port.heard) peer =
          looked-idle wall peer none ∙ ap (λ bytes. read_next wall (next_in bytes) peer) sent ∙ ap (λ n. read_next wall n peer) (next-by port.heard at refl) in
          subst (λ outcome. Looks (looked wall peer) outcome) (sym (looked-found number port state at found due_is))
          (subst (λ new. Looks new (look_front at port state)) (sym read) (looks-front at))

  module _ (state : State) (port : Port) (peer : Peer) (found : find_port number state.ports ≡ Some port) (door : port.door ≡ Clients) where
    -- ---- the client sends

    pub heard-looks : (piece : List ℕ) → Client port peer → Fares number past port peer → GoesSo number past [] peer
        → Looks (looked wall (sent_more piece peer)) (handle (Heard number piece) state)
    heard-looks piece client fares goes =
        subst (λ outcome. Looks (looked wall (sent_more piece peer)) outcome) (sym (handle-heard number piece port state found door)) (by_client client)
      where
        heard_state : State
        heard_state = changed number (heard_more piece) state

        there : find_port number heard_state.ports ≡ Some (heard_more piece port)
        there = find_port-change_port number (heard_more piece) state.ports (λ p. refl) ∙ ap (option_map (heard_more piece)) found

        still : Fares number past (heard_more piece port) (sent_more piece peer)
        still busy =
            let now = fares busy in
            record { request = now.request; last = now.last; reads = now.reads; asked = now.asked; raised = now.raised; taking = now.taking }

        by_client : Client port peer → Looks (looked wall (sent_more piece peer)) (steps.looked number heard_state)
        by_client (idle nothing unowed sent given none more) =
            looks heard_state (heard_more piece port) there (sent_more piece peer) nothing unowed (ap (λ s. s ++ piece) sent) given none
        by_client (waiting on unowed sent given some) =
            looks-busy heard_state (heard_more piece port) there (sent_more piece peer) (due-waits port.waits port.owed (port.heard ++ piece) on) some still goes
        by_client (taking body nothing owes sent some fits text) =
            looks-busy heard_state (heard_more piece port) there (sent_more piece peer)
            (ap (λ w. due_front w port.owed (port.heard ++ piece)) nothing ∙ due-owed port.owed (port.heard ++ piece) owes) some still goes

    -- ---- the client takes

    -- what ends by bytes that it takes
    pub record Takes (count : ℕ) (before : List Action) (outcome : Outcome) : Type 0 where
      pub looks : Looks (peers.answered wall (take count port.owed) peer) outcome
      pub ends : ended_ends wall (ended_by (take count port.owed) peer)
          ≡ (if count == length port.owed then map (ended_at wall (came_by (is_some peer.course.put) (ask_in number before)) (went_told peer.course)) (claim peer) else [])

    module _ (count : ℕ) (some : 0 < count) (within : count ≤ length port.owed) where
      abbrev took_state : State
      took_state = changed number (took_some count) state

      there : find_port number took_state.ports ≡ Some (took_some count port)
      there = find_port-change_port number (took_some count) state.ports (λ p. refl) ∙ ap (option_map (took_some count)) found

      abbrev bytes : List ℕ
      bytes = take count port.owed

      left-length : count + length (drop count port.owed) ≡ length port.owed
      left-length =
          let both : length bytes + length (drop count port.owed) ≡ length port.owed = sym (length-append bytes (drop count port.owed)) ∙ ap length (take-append-drop count port.owed) in
          let size : length bytes ≡ count = length-take-le count port.owed within in
          omega (arith, both, size)

      module _ (body : List ℕ) (nothing : port.waits ≡ Nothing) (sent : peer.sent ≡ port.heard) (asking : peer.asked ≢ asks.Nothing) (fits : IsBody longest_body body) (text : peer.given ++ port.owed ≡ string body) (fares : Fares number past port peer) (goes : GoesSo number past [] peer) (before : List Action) (says : SaysCame (ask_in number before) (peer.given ++ port.owed)) where
        takes-all : drop count port.owed ≡ [] → Takes count before (steps.looked number took_state)
        takes-all gone =
            let all : bytes ≡ port.owed = sym (append-nil bytes) ∙ ap (λ r. bytes ++ r) (sym gone) ∙ take-append-drop count port.owed in
            let whole : peer.given ++ bytes ≡ string body = ap (λ b. peer.given ++ b) all ∙ text in
            let front-is : front longest_body (string body) ≡ Whole (length body) = ap (front longest_body) (sym (append-nil (string body))) ∙ front-string longest_body body [] (omega arith) fits in
            let behind : after_front (length body) (string body) ≡ [] = drop_all (4 + length body) (string body) (omega (arith, length-string body)) in
            let own : front_body (length body) (string body) ≡ body =
            ap (front_body (length body)) (sym (append-nil (string body))) ∙ ap (take (length body)) (drop-string body []) ∙ take_at body [] (length body) refl in
            let next : next_in (peer.given ++ bytes) ≡ Some (body, []) =
            ap next_in whole ∙ next-by (string body) (Whole (length body)) front-is
            ∙ ap (λ r. Some (front_body (length body) (string body), r)) behind ∙ ap (λ b. Some (b, [])) own in
            let freed : Peer = record peer { given = []; asked = asks.Nothing } in
            let zero : length (drop count port.owed) ≡ 0 = ap length gone in
            let size : count ≡ length port.owed = omega (arith, left-length, zero) in
            let is_all : (count == length port.owed) ≡ true = grind (arith, nat_tests) in
            let small : length body < 4294967296 = omega (arith, fits.within) in
            record {
              looks = subst (λ new. Looks new (steps.looked number took_state)) (sym (answered-by wall bytes peer _ next))
                  (looks took_state (took_some count port) there freed nothing gone sent refl refl);
              ends = ap (ended_ends wall) (ended-by bytes peer _ next)
                  ∙ ap (λ came. map (ended_at wall came (went_told peer.course)) (claim peer)) (says (is_some peer.course.put) body small text)
                  ∙ sym (ap (λ b. if b then map (ended_at wall (came_by (is_some peer.course.put) (ask_in number before)) (went_told peer.course)) (claim peer) else []) is_all);
            }

        takes-part : (byte : ℕ) (rest : List ℕ) → drop count port.owed ≡ byte ∷ rest → Takes count before (steps.looked number took_state)
        takes-part byte rest left =
            let whole : (peer.given ++ bytes) ++ drop count port.owed ≡ peer.given ++ port.owed = append_assoc peer.given bytes (drop count port.owed) ∙ ap (λ b. peer.given ++ b) (take-append-drop count port.owed) in
            let some_left : drop count port.owed ≢ [] = λ none. let no : byte ∷ rest ≡ [] = sym left ∙ none in absurd (cc) in
            let next : next_in (peer.given ++ bytes) ≡ None = next-by (peer.given ++ bytes) More (front-part (peer.given ++ bytes) (drop count port.owed) body fits (whole ∙ text) some_left) in
            let more : Peer = record peer { given = peer.given ++ bytes } in
            let waits : due (took_some count port) ≡ More = ap (λ w. due_front w (drop count port.owed) port.heard) nothing ∙ due-owed (drop count port.owed) port.heard some_left in
            let longer : length (drop count port.owed) ≡ suc (length rest) = ap length left in
            let apart : count ≢ length port.owed = λ same. omega (arith, left-length, longer, same) in
            let is_part : (count == length port.owed) ≡ false = grind (arith, nat_tests) in
            let still : Fares number past (took_some count port) more = λ busy.
            (let now = fares busy in record {
              request = now.request;
              last = now.last;
              reads = now.reads;
              asked = now.asked;
              raised = now.raised;
              taking = λ none. (
                (now.taking none).0,
                subst (SaysCame (ask_in number now.request.later)) (sym whole) (now.taking none).1,
              );
            }) in
            record {
              looks = subst (λ new. Looks new (steps.looked number took_state)) (looked-busy wall more asking ∙ sym (answered-by wall bytes peer None next))
                  (looks-busy took_state (took_some count port) there more waits asking still goes);
              ends = ap (ended_ends wall) (ended-by bytes peer None next)
                  ∙ sym (ap (λ b. if b then map (ended_at wall (came_by (is_some peer.course.put) (ask_in number before)) (went_told peer.course)) (claim peer) else []) is_part);
            }

        takes-by : (rest : List ℕ) → drop count port.owed ≡ rest → Takes count before (steps.looked number took_state)
        takes-by [] is = takes-all is
        takes-by (byte ∷ rest) is = takes-part byte rest is

        pub took-takes : Takes count before (handle (Took number count) state)
        took-takes =
            subst (λ outcome. Takes count before outcome) (sym (handle-took number count port state found door)) (takes-by (drop count port.owed) refl)
