-- What a client waits for and is owed behind an event: the same as before, or what makes it busy.
use Rattle.std.proofs.Common.{◌≡◌, ℕ, ◌<◌, List, [], ◌∷◌, ◌++◌, length, refl, sym, ap, subst, ◌∙◌, arith, inl, inr, Bool, Some}
use Rattle.std.specs.Prelude.{◌⊎◌}
use Rattle.std.proofs.lemmas.List.{length-append}
use Rattle.wire_text.specs.Frames.{More, front_body}
use Rattle.wire_text.proofs.WireLemmas.{length-string}
use Rattle.wire_text.specs.Wire.{string, uint32}
use Rattle.agent_msg.specs.Replies.{entries}
use Rattle.agent_model.specs.Actions.{Outcome}
use Rattle.agent_model.specs.Children.{heard_more, unheard}
use Rattle.agent_model.specs.Dispatch.{Asker, Served}
use Rattle.agent_model.specs.Events.{Happening, Took}
use Rattle.agent_model.specs.KeyStates.{KeyState}
use Rattle.agent_model.specs.Looks.{due_front}
use Rattle.agent_model.specs.Sound.{IsRising}
use Rattle.agent_model.specs.State.{Nothing, Port, State, UnderWay, Waits, change_port, find_port}
use Rattle.agent_model.specs.Step.{asker_at, attempts, take_frame}
use Rattle.agent_model.specs.Verdicts.{Cause, Identities, Refuses, Replies, Reply, Signature, Success, Verdict, tell, verdict_text, verdict_waits}
use Rattle.agent_model.proofs.GrantLemmas.{grant-ends}
use Rattle.agent_model.proofs.LeadLemmas.{follows-quiet, same as led}
use Rattle.agent_model.proofs.RunLemmas.{leads-rising, rising_behind}
use Rattle.agent_model.proofs.MakeLemmas.{Makes, Quiet, alters, closes, first, goes_on, grants, hears, links, loses, names, overs, serves, stays, takes, tells}
use Rattle.agent_model.proofs.PortsLemmas.{find_port-left}
use Rattle.agent_model.proofs.ServeLemmas.{IsServed, answered, asked, raised, refused, serve-ends}
use Rattle.agent_model.proofs.NewsLemmas.{IsAnswer, IsNews, Told, awaiting, gone, news, news-door, news-number, proves, refusing, replying, says, told-grant, told-heard, told-leads, told-lose, told-over, untold}
use Rattle.agent_secrecy.proofs.TrackLemmas.{WasAt, another, that, was_at}

-- whatever such a port sent, nothing is to be taken of it
abbrev pub IsBusy : Waits → List ℕ → Type 0
IsBusy waits owed = (heard : List ℕ) → due_front waits owed heard ≡ More

-- where a port was before: it waits for and is owed the same, or is busy
pub record Left (number : ℕ) (ports : List Port) (port : Port) : Type 0 where
  pub was : Port
  pub found : find_port number ports ≡ Some was
  pub door : port.door ≡ was.door
  pub busy : ((port.waits ≡ was.waits) × (port.owed ≡ was.owed)) ⊎ IsBusy port.waits port.owed

pub same_left : (number : ℕ) (ports : List Port) (port : Port) → find_port number ports ≡ Some port
    → Left number ports port
same_left number ports port found =
    record { was = port; found = found; door = refl; busy = inl (refl, refl) }

busy_then : (mid port was : Port)
    → ((mid.waits ≡ was.waits) × (mid.owed ≡ was.owed)) ⊎ IsBusy mid.waits mid.owed
    → ((port.waits ≡ mid.waits) × (port.owed ≡ mid.owed)) ⊎ IsBusy port.waits port.owed
    → ((port.waits ≡ was.waits) × (port.owed ≡ was.owed)) ⊎ IsBusy port.waits port.owed
busy_then mid port was before (inr busy) = inr busy
busy_then mid port was (inl one) (inl two) = inl (two.0 ∙ one.0, two.1 ∙ one.1)
busy_then mid port was (inr busy) (inl two) =
    inr
    (λ heard. ap (λ (waits : Waits). due_front waits port.owed heard) two.0 ∙ ap (λ (owed : List ℕ). due_front mid.waits owed heard) two.1 ∙ busy heard)

pub left_then : (number : ℕ) (old mid : List Port) (port : Port) → (later : Left number mid port)
    → Left number old later.was → Left number old port
left_then number old mid port later before = record {
  was = before.was;
  found = before.found;
  door = later.door ∙ before.door;
  busy = busy_then later.was port before.was before.busy later.busy;
}

-- ---- clients that are told

owed_busy : (owed : List ℕ) → 0 < length owed → IsBusy Nothing owed
owed_busy [] some = absurd (omega (arith, some))
owed_busy (byte ∷ bytes) some = λ heard. refl

reply_busy : (reply : Reply) → 0 < length (verdict_text (Replies reply))
reply_busy Success = omega (arith, length-string (6 ∷ []))
reply_busy (Identities identities) =
    omega (arith, length-string (12 ∷ (uint32 (length identities) ++ entries identities)))
reply_busy (Signature signature) = omega (arith, length-string (14 ∷ string signature))

refusal_busy : (cause : Cause) → 0 < length (verdict_text (Refuses cause))
refusal_busy cause = omega (arith, length-string (5 ∷ []))

-- a verdict after which a port is busy
abbrev pub Busies : Verdict → Type 0
Busies verdict = (owed : List ℕ) → IsBusy (verdict_waits verdict) (owed ++ verdict_text verdict)

replies_busy : (reply : Reply) → Busies (Replies reply)
replies_busy reply owed =
    owed_busy (owed ++ verdict_text (Replies reply)) (omega (arith, length-append owed (verdict_text (Replies reply)), reply_busy reply))

refuses_busy : (cause : Cause) → Busies (Refuses cause)
refuses_busy cause owed =
    owed_busy (owed ++ verdict_text (Refuses cause))
    (omega (arith, length-append owed (verdict_text (Refuses cause)), refusal_busy cause))

-- a port that is changed so that it is busy
changed_left : (at number : ℕ) (f : Port → Port) (ports : List Port) (port : Port)
    → ((x : Port) → (f x).number ≡ x.number) → ((x : Port) → (f x).door ≡ x.door)
    → ((x : Port) → IsBusy (f x).waits (f x).owed) → find_port number (change_port at f ports) ≡ Some port
    → Left number ports port
changed_left at number f ports port numbers doors busies found = by_was (was_at at number f ports port numbers found)
  where
    by_was : WasAt at number f ports port → Left number ports port
    by_was (that was is there new) = record {
      was = was;
      found = ap (λ n. find_port n ports) is ∙ there;
      door = ap (λ (p : Port). p.door) (sym new) ∙ doors was;
      busy = inr (subst (λ (p : Port). IsBusy p.waits p.owed) new (busies was));
    }
    by_was (another apart there) = same_left number ports port there

answer_busy : (verdict : Verdict) → IsAnswer verdict → Busies verdict
answer_busy verdict (replying reply) = replies_busy reply
answer_busy verdict (refusing cause) = refuses_busy cause
answer_busy verdict (awaiting ask) = λ owed heard. refl

news_busy : (f : Port → Port) → IsNews f → (x : Port) → IsBusy (f x).waits (f x).owed
news_busy f (says verdict is) x = answer_busy verdict is x.owed
news_busy f (proves verification) x = replies_busy Success x.owed

-- ports that are told something, and others that are closed
pub news_left : {old new : List Port} → Told old new → (number last : ℕ) (port : Port)
    → IsRising 0 last old
    → find_port number new ≡ Some port → Left number old port
news_left {old} untold number last port rising found = same_left number old port found
news_left {old} (news at f ports is told) number last port rising found =
    let later = changed_left at number f ports port (news-number is) (news-door is) (news_busy f is) found in
    left_then number old ports port later (news_left told number last later.was rising later.found)
news_left {old} (gone at ports told) number last port rising found =
    news_left told number last port rising
    (find_port-left number at 0 last ports port (leads-rising 0 last old (told-leads told) rising) found)

-- a change that leaves what a port waits for and is owed
plain_left : (at number : ℕ) (f : Port → Port) (ports : List Port) (port : Port)
    → ((x : Port) → (f x).number ≡ x.number) → ((x : Port) → (f x).door ≡ x.door)
    → ((x : Port) → (f x).waits ≡ x.waits) → ((x : Port) → (f x).owed ≡ x.owed)
    → find_port number (change_port at f ports) ≡ Some port → Left number ports port
plain_left at number f ports port numbers doors waits owed found = by_was (was_at at number f ports port numbers found)
  where
    by_was : WasAt at number f ports port → Left number ports port
    by_was (that was is there new) = record {
      was = was;
      found = ap (λ n. find_port n ports) is ∙ there;
      door = ap (λ (p : Port). p.door) (sym new) ∙ doors was;
      busy = inl (ap (λ (p : Port). p.waits) (sym new) ∙ waits was, ap (λ (p : Port). p.owed) (sym new) ∙ owed was);
    }
    by_was (another apart there) = same_left number ports port there

-- ---- events of no client

quiet_left : {event : Happening} {old new : State} → Quiet event old new
    → ((at count : ℕ) → event ≡ Took at count → ⊥) → (number : ℕ) (port : Port) → IsRising 0 old.last_port old.ports
    → find_port number new.ports ≡ Some port → Left number old.ports port
quiet_left {old = old} (alters at f (hears piece came)) none number port rising found =
    plain_left at number (heard_more piece) old.ports port (λ x. refl) (λ x. refl) (λ x. refl) (λ x. refl) found
quiet_left (alters at f (takes count is)) none number port rising found = absurd (none at count is)
quiet_left {old = old} (closes at may) none number port rising found =
    same_left number old.ports port (find_port-left number at 0 old.last_port old.ports port rising found)
quiet_left {old = old} (goes_on new goes) none number port rising found =
    same_left number old.ports port found
quiet_left {old = old} (names job at new) none number port rising found =
    plain_left at number unheard old.ports port (λ x. refl) (λ x. refl) (λ x. refl) (λ x. refl) found
quiet_left {old = old} (links job at new) none number port rising found =
    plain_left at number unheard old.ports port (λ x. refl) (λ x. refl) (λ x. refl) (λ x. refl) found

rising_quiet : {event : Happening} {old new : State} → Quiet event old new
    → IsRising 0 old.last_port old.ports
    → IsRising 0 new.last_port new.ports
rising_quiet {event = event} {old = old} {new = new} quiet rising =
    rising_behind old new (follows-quiet event old quiet record { last = refl; ports = led }) rising

pub served_busy : {asker : Asker} {held : KeyState} {under_way : UnderWay} {served : Served}
    → IsServed asker held under_way served → Busies served.work.verdict
served_busy (answered reply kept same) = replies_busy reply
served_busy (refused cause) = refuses_busy cause
served_busy (asked errand free right) = λ owed heard. refl
served_busy (raised key signing free) = λ owed heard. refl

-- a frame is taken, and the client is told
concluded_left : (at number body_len : ℕ) (attempt : Bool) (verdict : Verdict) (ports : List Port) (port : Port)
    → Busies verdict
    → find_port number (change_port at (tell verdict) (change_port at (take_frame body_len attempt) ports)) ≡ Some port
    → Left number ports port
concluded_left at number body_len attempt verdict ports port busies found =
    let later = changed_left at number (tell verdict) (change_port at (take_frame body_len attempt) ports) port (λ x. refl) (λ x. refl) (λ x. busies x.owed) found in
    left_then number ports (change_port at (take_frame body_len attempt) ports) port later
    (plain_left at number (take_frame body_len attempt) ports later.was (λ x. refl) (λ x. refl) (λ x. refl) (λ x. refl) later.found)

pub makes_left : {event : Happening} {old : State} {outcome : Outcome} → Makes event old outcome
    → ((at count : ℕ) → event ≡ Took at count → ⊥) → (number : ℕ) (port : Port) → IsRising 0 old.last_port old.ports
    → find_port number outcome.state.ports ≡ Some port → Left number old.ports port
makes_left (stays state) none number port rising found = same_left number state.ports port found
makes_left {old = old} (first {mid = mid} quiet rest) none number port rising found =
    let later = makes_left rest none number port (rising_quiet quiet rising) found in
    left_then number old.ports mid.ports port later (quiet_left quiet none number later.was rising later.found)
makes_left (serves body_len one state there door nothing owed own) none number port rising found =
    let body = front_body body_len one.heard in
    concluded_left one.number number body_len (attempts state.held.lock body) _ state.ports port
    (served_busy (serve-ends (asker_at state.moment one) state.held state.under_way body)) found
makes_left (tells piece state) none number port rising found =
    news_left (told-heard state.ports piece state untold) number state.last_port port rising found
makes_left (loses state) none number port rising found =
    news_left (told-lose state.ports state untold) number state.last_port port rising found
makes_left (overs one state there) none number port rising found =
    news_left (told-over state.ports one state untold) number state.last_port port rising found
makes_left (grants one asker state there opened) none number port rising found =
    news_left (told-grant state.ports state (grant-ends asker.chain one state) untold) number state.last_port port rising
    found
