-- What a past says of the request that a client waits for, and what the client's port is: behind each event of others.
use Rattle.std.proofs.Common.{◌≡◌, ◌≢◌, ℕ, ◌+◌, ◌^◌, ◌<◌, ◌≤◌, List, [], ◌∷◌, ◌++◌, length, refl, ap, arith, sym, subst, ◌∙◌, Bool, Option, Some, None}
use Rattle.std.proofs.lemmas.List.{append-nil}
use Rattle.std.specs.Option.{option_map, option_or}
use Rattle.world_ports.specs.declared.Door.TheVariants.{Clients}
use Rattle.world_ports.specs.declared.Moment.{Moment}
use Rattle.wire_text.specs.Wire.{string}
use Rattle.wire_text.proofs.WireLemmas.{length-string, same_string}
use Rattle.helper_link.specs.declared.answer.Answer.TheVariants as answer
use Rattle.agent_model.specs.Actions.{Action, Asked, Asking}
use Rattle.agent_model.specs.Events.{Happening, Ended, Took}
use Rattle.agent_model.specs.Fates.{Fails, Fate, Gets, IsTold, Unanswered, fate_of, fate_verdict, or_later}
use Rattle.agent_model.specs.Grants.{IsAgreed, IsAmong, agreed, disagreed, unagreed, ungranted}
use Rattle.agent_model.specs.Runs.{Stamped, stamped}
use Rattle.agent_model.specs.Sound.{IsTied}
use Rattle.agent_model.specs.State.{Nothing, OnAsk, OnConfirmation, Port, State, Waits, find_port}
use Rattle.agent_model.specs.Step.{step, took_some}
use Rattle.agent_model.specs.Verdicts.{Awaits, Cause, NotConfirmed, Refuses, Verdict, verdict_text, verdict_waits}
use Rattle.agent_model.proofs.AgreedLemmas.{step-agreed}
use Rattle.agent_model.proofs.FateLemmas.{fate-append}
use Rattle.agent_model.proofs.FatedLemmas.{step-fated}
use Rattle.agent_model.proofs.MakeLemmas.{IsOf, takes}
use Rattle.agent_laws.specs.Answered.{WaitsFor}
use Rattle.agent_laws.proofs.WaitingLemmas.{step-waiting}
use Rattle.log_book.specs.Peers.{Peer}
use Rattle.log_book.specs.Requests.{first_byte}
use Rattle.log_book.specs.declared.told.Asked.TheVariants as asks
use Rattle.log_laws.specs.Ends.{Request, ask_in, came_by, came_of, last_request, readings_of}
use Rattle.log_laws.proofs.ClientLemmas.{Client, IsBrief, idle, most_owed, taking, waiting}
use Rattle.log_laws.proofs.EndLemmas.{came_reply}
use Rattle.log_laws.proofs.LookLemmas.{claim}
use Rattle.log_laws.proofs.PastLemmas.{ask-among, ask-last, ask-more, ask-there, behind_it, last-more, last-step, more_done, others-step}
use Rattle.log_laws.proofs.StayLemmas.{step-stays}

-- ---- replies

-- an ask was put, and nothing came of it yet
pub record IsPut (number ask : ℕ) (later : List Action) : Type 0 where
  pub put : Asking × List Action
  pub is : ask_in number later ≡ Some put
  pub same : put.0.ask ≡ ask
  pub open_yet : fate_of put.0.ask put.1 ≡ Unanswered

-- something came of what was put, if it was
abbrev pub IsSettled : Option (Asking × List Action) → Type 0
IsSettled None = Unit {0}
IsSettled (Some put) = fate_of put.0.ask put.1 ≢ Unanswered

-- these bytes are a reply that says what came of it
abbrev pub SaysCame : Option (Asking × List Action) → List ℕ → Type 0
SaysCame found text = (was_put : Bool) (body : List ℕ) → length body < 2 ^ 32 → text ≡ string body
    → came_reply was_put (first_byte body) ≡ came_by was_put found

-- what is done behind it changes nothing
settled-more : (found : Option (Asking × List Action)) (more : List Action) → IsSettled found
    → IsSettled (option_or (option_map (behind_it more) found) None)
    × ((was_put : Bool) → came_by was_put (option_or (option_map (behind_it more) found) None) ≡ came_by was_put found)
settled-more None more settled = (tt, λ was_put. refl)
settled-more (Some put) more settled =
    by_fate (fate_of put.0.ask put.1) refl
  where
    by_fate : (fate : Fate) → fate_of put.0.ask put.1 ≡ fate
        → (fate_of put.0.ask (put.1 ++ more) ≢ Unanswered)
        × ((was_put : Bool) → came_of was_put (fate_of put.0.ask (put.1 ++ more)) ≡ came_of was_put (fate_of put.0.ask put.1))
    by_fate Unanswered is = absurd (settled is)
    by_fate (Gets what) is =
        let same : fate_of put.0.ask (put.1 ++ more) ≡ Gets what = fate-append put.0.ask put.1 more ∙ ap (λ f. or_later f (fate_of put.0.ask more)) is in
        (λ none. let no : Gets what ≡ Unanswered = sym same ∙ none in absurd (cc), λ was_put. ap (came_of was_put) (same ∙ sym is))
    by_fate Fails is =
        let same : fate_of put.0.ask (put.1 ++ more) ≡ Fails = fate-append put.0.ask put.1 more ∙ ap (λ f. or_later f (fate_of put.0.ask more)) is in
        (λ none. let no : Fails ≡ Unanswered = sym same ∙ none in absurd (cc), λ was_put. ap (came_of was_put) (same ∙ sym is))

-- the body of the reply that tells what became of an ask
abbrev reply_body : Fate → List ℕ
reply_body Unanswered = []
reply_body (Gets (answer.Signed signature)) = 14 ∷ string signature
reply_body (Gets answer.Refused) = 5 ∷ []
reply_body (Gets answer.True) = 6 ∷ []
reply_body (Gets answer.False) = 5 ∷ []
reply_body Fails = 5 ∷ []

reply-text : (fate : Fate) (ask : ℕ) → fate ≢ Unanswered
    → (verdict_text (fate_verdict fate ask) ≡ string (reply_body fate)) × (verdict_waits (fate_verdict fate ask) ≡ Nothing)
    × ((was_put : Bool) → came_reply was_put (first_byte (reply_body fate)) ≡ came_of was_put fate)
reply-text Unanswered ask some = absurd (some refl)
reply-text (Gets (answer.Signed signature)) ask some = (refl, refl, λ was_put. refl)
reply-text (Gets answer.Refused) ask some = (refl, refl, λ was_put. refl)
reply-text (Gets answer.True) ask some = (refl, refl, λ was_put. refl)
reply-text (Gets answer.False) ask some = (refl, refl, λ was_put. refl)
reply-text Fails ask some = (refl, refl, λ was_put. refl)

-- a reply is read as it was written
pub says-came : (found : Option (Asking × List Action)) (text given own : List ℕ) → text ≡ string own → given ≡ []
    → length text ≤ most_owed → ((was_put : Bool) → came_reply was_put (first_byte own) ≡ came_by was_put found)
    → SaysCame found (given ++ text)
says-came found text given own is none short came was_put body small same =
    let size : length text ≡ 4 + length own = ap length is ∙ length-string own in
    let both : string own ++ [] ≡ string body ++ [] =
    append-nil (string own) ∙ sym is ∙ sym (ap (λ g. g ++ text) none) ∙ same ∙ sym (append-nil (string body)) in
    let equal : own ≡ body = (same_string own body [] [] (omega (arith, size, short)) small both).0 in
    ap (λ b. came_reply was_put (first_byte b)) (sym equal) ∙ came was_put

-- ---- what is known of a client that waits for an answer, or takes one

pub record Fared (number : ℕ) (past : List Stamped) (port : Port) (peer : Peer) : Type 0 where
  pub request : Request
  pub last : last_request number past ≡ Some request
  pub reads : claim peer ≡ readings_of request
  pub asked : (ask : ℕ) → port.waits ≡ OnAsk ask → IsPut number ask request.later
  pub raised : (job : ℕ) → port.waits ≡ OnConfirmation job → ask_in number request.later ≡ None
  pub taking : port.waits ≡ Nothing → IsSettled (ask_in number request.later)
      × SaysCame (ask_in number request.later) (peer.given ++ port.owed)

abbrev pub Fares : ℕ → List Stamped → Port → Peer → Type 0
Fares number past port peer = peer.asked ≢ asks.Nothing → Fared number past port peer

-- ---- an event of others

module _ (number : ℕ) (past : List Stamped) (state : State) (moment : Moment) (event : Happening) (tied : IsTied state) (foreign : IsOf event number → ⊥) (open_yet : event ≢ Ended number) (brief_after : IsBrief (step state moment event).state) where
  abbrev outcome_actions : List Action
  outcome_actions = (step state moment event).actions

  abbrev after : List Port
  after = (step state moment event).state.ports

  abbrev past_after : List Stamped
  past_after = past ++ stamped (step state moment event)

  untaken : (count : ℕ) → event ≢ Took number count
  untaken count is = foreign (took_some count, takes count is)

  -- the client's port behind it
  pub record Goes (peer : Peer) : Type 0 where
    pub new : Port
    pub found : find_port number after ≡ Some new
    pub fared : Fared number past_after new peer

  last-after : (request : Request) → last_request number past ≡ Some request
      → last_request number past_after ≡ Some (more_done outcome_actions request)
  last-after request last =
      last-more number past (step state moment event).state.moment outcome_actions (others-step number state moment event tied foreign)
      ∙ ap (option_map (more_done outcome_actions)) last

  -- who doesn't wait for the helper then asked it for nothing
  unasked_by : (port : Port) → find_port number after ≡ Some port → ((ask : ℕ) → port.waits ≢ OnAsk ask)
      → (found : Option (Asking × List Action)) → ask_in number outcome_actions ≡ found → found ≡ None
  unasked_by port there others None is = refl
  unasked_by port there others (Some put) is =
      let among = ask-among number outcome_actions put is in
      let waits : WaitsFor put.0.port put.0.ask (step state moment event).state = step-waiting state moment event put.0 tied among.0 in
      let same : Some port ≡ Some waits.port = sym there ∙ ap (λ n. find_port n after) (sym among.1) ∙ waits.found in
      let equal : waits.port ≡ port = cc in
      absurd (others put.0.ask (ap (λ (p : Port). p.waits) (sym equal) ∙ waits.waits))

  unasked : (port : Port) → find_port number after ≡ Some port → ((ask : ℕ) → port.waits ≢ OnAsk ask)
      → ask_in number outcome_actions ≡ None
  unasked port there others = unasked_by port there others (ask_in number outcome_actions) refl

  module _ (port : Port) (peer : Peer) (found : find_port number state.ports ≡ Some port) (door : port.door ≡ Clients) (given : peer.given ≡ []) (unowed : port.owed ≡ []) (fared : Fared number past port peer) where
    abbrev later : List Action
    later = fared.request.later

    -- it is told something
    told-goes : (verdict : Verdict) (own : List ℕ) → (told : IsTold number verdict after) → verdict_text verdict ≡ string own
        → verdict_waits verdict ≡ Nothing → (put : Option (Asking × List Action)) → ask_in number (later ++ outcome_actions) ≡ put
        → IsSettled put → ((was_put : Bool) → came_reply was_put (first_byte own) ≡ came_by was_put put) → Goes peer
    told-goes verdict own told text nothing put is settled came =
        let waits : told.port.waits ≡ Nothing = told.waits ∙ nothing in
        record {
          new = told.port;
          found = told.found;
          fared = record {
            request = more_done outcome_actions fared.request;
            last = last-after fared.request fared.last;
            reads = fared.reads;
            asked = λ ask on. let no : Nothing ≡ OnAsk ask = sym waits ∙ on in absurd (cc);
            raised = λ job on. let no : Nothing ≡ OnConfirmation job = sym waits ∙ on in absurd (cc);
            taking = λ none. (
              subst IsSettled (sym is) settled,
              subst (λ p. SaysCame p (peer.given ++ told.port.owed)) (sym is)
                  (says-came put told.port.owed peer.given own (told.owed ∙ text) given (brief_after number told.port told.found told.door) came),
            );
          };
        }

    -- it waits for the helper
    asked-goes : (ask : ℕ) → IsTold number (Awaits (OnAsk ask)) after → IsPut number ask (later ++ outcome_actions) → Goes peer
    asked-goes ask told put = record {
      new = told.port;
      found = told.found;
      fared = record {
        request = more_done outcome_actions fared.request;
        last = last-after fared.request fared.last;
        reads = fared.reads;
        asked = λ other on. let same : OnAsk ask ≡ OnAsk other = sym told.waits ∙ on in let equal : ask ≡ other = cc in subst (λ a. IsPut number a (later ++ outcome_actions)) equal put;
        raised = λ job on. let no : OnAsk ask ≡ OnConfirmation job = sym told.waits ∙ on in absurd (cc);
        taking = λ none. let no : OnAsk ask ≡ Nothing = sym told.waits ∙ none in absurd (cc);
      };
    }

    -- it waited for the helper
    goes-asked : (ask : ℕ) → port.waits ≡ OnAsk ask → Goes peer
    goes-asked ask on =
        by_fate (fate_of ask outcome_actions) refl ((step-fated state moment event tied).told number ask open_yet untaken
        record { port = port; found = found; door = door; owed = unowed; waits = on })
      where
        before : IsPut number ask later
        before = fared.asked ask on

        put : Asking × List Action
        put = behind_it outcome_actions before.put

        now : ask_in number (later ++ outcome_actions) ≡ Some put
        now =
            ask-more number later outcome_actions
            ∙ ap (λ o. option_or (option_map (behind_it outcome_actions) o) (ask_in number outcome_actions)) before.is

        fate : fate_of put.0.ask put.1 ≡ fate_of ask outcome_actions
        fate =
            fate-append before.put.0.ask before.put.1 outcome_actions
            ∙ ap (λ f. or_later f (fate_of before.put.0.ask outcome_actions)) before.open_yet
            ∙ ap (λ n. fate_of n outcome_actions) before.same

        ended : (what : Fate) → fate_of ask outcome_actions ≡ what → what ≢ Unanswered
            → IsTold number (fate_verdict what ask) after → Goes peer
        ended what is some told =
            let reply = reply-text what ask some in
            told-goes (fate_verdict what ask) (reply_body what) told reply.0 reply.1 (Some put) now
            (λ none. some (sym (fate ∙ is) ∙ none)) (λ was_put. reply.2 was_put ∙ ap (came_of was_put) (sym (fate ∙ is)))

        by_fate : (what : Fate) → fate_of ask outcome_actions ≡ what
            → IsTold number (fate_verdict (fate_of ask outcome_actions) ask) after → Goes peer
        by_fate Unanswered is told =
            asked-goes ask (subst (λ f. IsTold number (fate_verdict f ask) after) is told)
            record { put = put; is = now; same = before.same; open_yet = fate ∙ is }
        by_fate (Gets what) is told =
            ended (Gets what) is (λ none. absurd (cc)) (subst (λ f. IsTold number (fate_verdict f ask) after) is told)
        by_fate Fails is told =
            ended Fails is (λ none. absurd (cc)) (subst (λ f. IsTold number (fate_verdict f ask) after) is told)

    -- it waited for the user
    goes-raised : (job : ℕ) → port.waits ≡ OnConfirmation job → Goes peer
    goes-raised job on =
        by_agreed (step-agreed number job state moment event open_yet untaken tied
        record { port = port; found = found; door = door; owed = unowed; waits = on })
      where
        put : ask_in number (later ++ outcome_actions) ≡ ask_in number outcome_actions
        put =
            ask-more number later outcome_actions
            ∙ ap (λ o. option_or (option_map (behind_it outcome_actions) o) (ask_in number outcome_actions)) (fared.raised job on)

        refused_for : (cause : Cause) → IsTold number (Refuses cause) after → Goes peer
        refused_for cause told =
            told-goes (Refuses cause) (5 ∷ []) told refl refl None
            (put ∙ unasked told.port told.found (λ ask waits. let no : Nothing ≡ OnAsk ask = sym told.waits ∙ waits in absurd (cc)))
            tt (λ was_put. refl)

        by_put : (asking : Asking) → IsAmong (Asked asking) outcome_actions → asking.port ≡ number
            → IsTold number (Awaits (OnAsk asking.ask)) after → (one : Option (Asking × List Action))
            → ask_in number outcome_actions ≡ one → Goes peer
        by_put asking among its told None is = absurd (ask-there number outcome_actions asking its among is)
        by_put asking among its told (Some one) is =
            let first = ask-among number outcome_actions one is in
            let waits : WaitsFor one.0.port one.0.ask (step state moment event).state = step-waiting state moment event one.0 tied first.0 in
            let same : Some told.port ≡ Some waits.port = sym told.found ∙ ap (λ n. find_port n after) (sym first.1) ∙ waits.found in
            let equal : told.port ≡ waits.port = cc in
            let on_it : OnAsk one.0.ask ≡ OnAsk asking.ask = sym waits.waits ∙ ap (λ (p : Port). p.waits) (sym equal) ∙ told.waits in
            let number_is : one.0.ask ≡ asking.ask = cc in
            asked-goes asking.ask told
            record {
              put = one;
              is = put ∙ is;
              same = number_is;
              open_yet = ap (fate_of one.0.ask) (ask-last number outcome_actions one (last-step state moment event) is);
            }

        by_agreed : IsAgreed number job outcome_actions after → Goes peer
        by_agreed (unagreed not_granted not_over told) = record {
          new = told.port;
          found = told.found;
          fared = record {
            request = more_done outcome_actions fared.request;
            last = last-after fared.request fared.last;
            reads = fared.reads;
            asked = λ ask waits. let no : OnConfirmation job ≡ OnAsk ask = sym told.waits ∙ waits in absurd (cc);
            raised = λ other waits. put ∙ unasked told.port told.found (λ ask waits_too. let no : OnConfirmation job ≡ OnAsk ask = sym told.waits ∙ waits_too in absurd (cc));
            taking = λ none. let no : OnConfirmation job ≡ Nothing = sym told.waits ∙ none in absurd (cc);
          };
        }
        by_agreed (disagreed over_it told) = refused_for NotConfirmed told
        by_agreed (agreed asking granted among its told) = by_put asking among its told (ask_in number outcome_actions) refl
        by_agreed (ungranted cause granted told) = refused_for cause told

    goes-waiting : (on : Waits) → port.waits ≡ on → on ≢ Nothing → Goes peer
    goes-waiting Nothing is some = absurd (some refl)
    goes-waiting (OnAsk ask) is some = goes-asked ask is
    goes-waiting (OnConfirmation job) is some = goes-raised job is

  -- it takes a reply
  goes-taking : (port : Port) (peer : Peer) → find_port number state.ports ≡ Some port → port.door ≡ Clients
      → port.waits ≡ Nothing → port.owed ≢ [] → Fared number past port peer → Goes peer
  goes-taking port peer found door nothing owes fared =
      let there : find_port number after ≡ Some port = step-stays number event foreign open_yet port door nothing owes state moment tied found in
      let put : ask_in number (fared.request.later ++ outcome_actions) ≡ option_or (option_map (behind_it outcome_actions) (ask_in number fared.request.later)) None =
      ask-more number fared.request.later outcome_actions
      ∙ ap (option_or (option_map (behind_it outcome_actions) (ask_in number fared.request.later))) (unasked port there (λ ask waits. let no : Nothing ≡ OnAsk ask = sym nothing ∙ waits in absurd (cc))) in
      let same = settled-more (ask_in number fared.request.later) outcome_actions (fared.taking nothing).0 in
      record {
        new = port;
        found = there;
        fared = record {
          request = more_done outcome_actions fared.request;
          last = last-after fared.request fared.last;
          reads = fared.reads;
          asked = λ ask on. let no : Nothing ≡ OnAsk ask = sym nothing ∙ on in absurd (cc);
          raised = λ job on. let no : Nothing ≡ OnConfirmation job = sym nothing ∙ on in absurd (cc);
          taking = λ none. (
            subst IsSettled (sym put) same.0,
            λ was_put body small is. (fared.taking nothing).1 was_put body small is ∙ sym (same.1 was_put) ∙ ap (came_by was_put) (sym put),
          );
        };
      }

  pub goes : (port : Port) (peer : Peer) → find_port number state.ports ≡ Some port → port.door ≡ Clients
      → Client port peer → peer.asked ≢ asks.Nothing → Fared number past port peer → Goes peer
  goes port peer found door (idle nothing unowed sent given none more) some fared = absurd (some none)
  goes port peer found door (waiting on unowed sent given asking) some fared =
      goes-waiting port peer found door given unowed fared port.waits refl on
  goes port peer found door (taking body nothing owes sent asking fits text) some fared =
      goes-taking port peer found door nothing owes fared
