-- What an event leaves of the ports other than its own: none of them is to be read that wasn't.
use Rattle.std.proofs.Common.{◌≡◌, ◌≢◌, ℕ, suc, ◌<◌, List, [], ◌∷◌, ◌++◌, length, ◌&&◌, ◌||◌, refl, ap, arith, sym, ◌∙◌, ◌==◌, not, Option, Some, None, Bool, true, false}
use Rattle.std.proofs.lemmas.Bool.Decides.{nat_tests}
use Rattle.std.proofs.lemmas.List.{length-append}
use Rattle.wire_text.proofs.WireLemmas.{length-string}
use Rattle.world_ports.specs.declared.events.Door.{Door}
use Rattle.world_ports.specs.declared.events.Door.TheVariants.{Clients, Children}
use Rattle.world_ports.specs.declared.events.Moment.{Moment}
use Rattle.wire_text.specs.Bounds.{longest_body}
use Rattle.wire_text.specs.Frames.{front}
use Rattle.agent_model.specs.Events.{Happening}
use Rattle.agent_model.specs.Sound.{IsRising}
use Rattle.agent_model.specs.State.{Nothing, Port, State, UnderWay, find_port, is_client, is_more, is_settled, is_some_bytes, new_port, owed_as, role_of, wants, wants_more, wants_by}
use Rattle.agent_model.specs.Step.{admitted, handle, has_room, step}
use Rattle.agent_model.specs.Time.{at_moment}
use Rattle.agent_model.specs.Verdicts.{Replies, Success, Verdict, verdict_text, verdict_waits}
use Rattle.agent_msg.specs.Replies.{failure}
use Rattle.agent_model.proofs.MakeLemmas.{by_event_as}
use Rattle.agent_model.proofs.RunLemmas.{at_moment-follows}
use Rattle.agent_model.proofs.NewsLemmas.{IsAnswer, IsNews, awaiting, proves, refusing, replying, says, told-moment}
use Rattle.agent_model.proofs.ToldLemmas.{reply_is_some}
use Rattle.loop_model.specs.Elsewhere.{is_of}
use Rattle.loop_model.proofs.MomentLemmas.{rising-moment}
use Rattle.loop_model.proofs.SparedLemmas.{Spares, elsewhere, holds-spared, same, spared-makes, spares-told}
use Rattle.loop_model.proofs.TestLemmas.{or_left}

-- one more that joins leaves the others
find-joined : (port last : ℕ) (door : Door) (ports : List Port) → port ≢ last
    → find_port port (ports ++ new_port last door ∷ []) ≡ find_port port ports
find-joined port last door [] other = grind (arith, nat_tests)
find-joined port last door (first ∷ ports) other =
    let rest : find_port port (ports ++ new_port last door ∷ []) ≡ find_port port ports =
    find-joined port last door ports other in
    grind (arith, nat_tests)

-- whether or not there is room for it
pub find-admitted : (is_in : Bool) (port last : ℕ) (door : Door) (ports : List Port)
    → (last == port) ≡ false
    → find_port port (admitted is_in last door ports) ≡ find_port port ports
find-admitted false port last door ports other = refl
find-admitted true port last door ports other =
    find-joined port last door ports (λ equal. grind (arith, nat_tests))

-- ---- what is to be read

-- a change of a port that leaves its door, and what it has sent, and behind which it isn't settled
pub record IsSilent (f : Port → Port) : Type 0 where
  pub door : (p : Port) → (f p).door ≡ p.door
  pub heard : (p : Port) → (f p).heard ≡ p.heard
  pub unsettled : (p : Port) → is_settled (f p).waits (f p).owed ≡ false

-- a client that is owed more isn't settled
unsettled-more : (owed more : List ℕ) → 0 < length more → is_settled Nothing (owed ++ more) ≡ false
unsettled-more owed more some = let long = length-append owed more in grind (arith, nat_tests)

-- nor is one that was told something
unsettled-answer : {verdict : Verdict} → IsAnswer verdict → (owed : List ℕ)
    → is_settled (verdict_waits verdict) (owed ++ verdict_text verdict) ≡ false
unsettled-answer (replying reply) owed = unsettled-more owed (verdict_text (Replies reply)) (reply_is_some reply)
unsettled-answer (refusing cause) owed = unsettled-more owed failure (omega (arith, length-string (5 ∷ [])))
unsettled-answer (awaiting ask) owed = refl

-- what a client is told, and what its connection is bound to, is such a change
pub silent-news : (f : Port → Port) → IsNews f → IsSilent f
silent-news f (says verdict is) =
    record { door = λ p. refl; heard = λ p. refl; unsettled = λ p. unsettled-answer is p.owed }
silent-news f (proves verification) =
    record { door = λ p. refl; heard = λ p. refl; unsettled = λ p. unsettled-answer (replying Success) p.owed }

-- a test that allows for another
either_more : (more was is none : Bool) → (was ≡ true → is ≡ true) → (more && (was || none)) ≡ true
    → (more && (is || none)) ≡ true
either_more false was is none leads both = both
either_more true true is none leads both = or_left is none (leads refl)
either_more true false true none leads both = refl
either_more true false false none leads both = both

-- what is to be read is also where it is settled
pub wanted-more : (door : Door) (was is : Bool) (heard : List ℕ) → (was ≡ true → is ≡ true)
    → wants_more door was heard ≡ true → wants_more door is heard ≡ true
wanted-more Clients was is heard leads wanted =
    either_more (is_more (front longest_body heard)) was is (not (is_some_bytes heard)) leads wanted
wanted-more Children was is heard leads wanted = refl

-- what is to be read behind such changes was before them
was_read : (f : Port → Port) → IsSilent f → (p : Port) → wants_by (Some (f p)) ≡ true
    → wants_by (Some p) ≡ true
was_read f is p wanted =
    wanted-more p.door false (is_settled p.waits p.owed) p.heard (λ never. absurd (cc))
    (sym (ap (λ d. wants_more d (is_settled (f p).waits (f p).owed) (f p).heard) (is.door p)
    ∙ ap (λ b. wants_more p.door b (f p).heard) (is.unsettled p) ∙ ap (wants_more p.door false) (is.heard p))
    ∙ wanted)

-- where this port is to be read, it was before
abbrev WasRead : ℕ → List Port → Port → Type 0
WasRead port old at = wants_by (Some at) ≡ true → wants_by (find_port port old) ≡ true

-- one that is to be read where others changed was before
wants-spared : (port low high : ℕ) (old : List Port) {new : List Port}
    → Spares IsSilent port old new
    → IsRising low high old → wants_by (find_port port new) ≡ true → wants_by (find_port port old) ≡ true
wants-spared port low high old {new} spares rising = by_found (find_port port new) refl
  where
    by_found : (found : Option Port) → find_port port new ≡ found → wants_by found ≡ true
        → wants_by (find_port port old) ≡ true
    by_found None is wanted = absurd (cc)
    by_found (Some at) is wanted =
        holds-spared IsSilent (WasRead port old) (λ f silent p was read. was (was_read f silent p read)) port low high old
        spares rising (λ p there read. ap wants_by there ∙ read) at is wanted

-- each event, after the moment was taken in
wanted_by : (event : Happening) (state : State) (port : ℕ) → IsRising 0 state.last_port state.ports
    → is_of event state.last_port port ≡ false → wants port (handle event state).state ≡ true
    → wants port state ≡ true
wanted_by event state port rising other =
    by_event_as (λ outcome. wants port outcome.state ≡ true → wants port state ≡ true) event state
    (λ door is wanted.
    sym (ap wants_by (find-admitted (has_room door state.ports state.under_way) port (suc state.last_port) door state.ports (sym (ap (λ e. is_of e state.last_port port) is) ∙ other)))
    ∙ wanted)
    (λ outcome makes.
    wants-spared port 0 state.last_port state.ports
    (spared-makes IsSilent port state.ports silent-news event (elsewhere event state.last_port port other) makes same) rising)

-- a port that is to be read after an event of another port was before
pub wanted_before : (state : State) (moment : Moment) (event : Happening) (port : ℕ)
    → IsRising 0 state.last_port state.ports → is_of event state.last_port port ≡ false
    → wants port (step state moment event).state ≡ true → wants port state ≡ true
wanted_before state moment event port rising other wanted =
    wants-spared port 0 state.last_port state.ports
    (spares-told IsSilent port state.ports silent-news (told-moment moment state) same) rising
    (wanted_by event (at_moment moment state) port (rising-moment moment state rising)
    (ap (λ n. is_of event n port) (at_moment-follows moment state).last ∙ other) wanted)

-- ---- what clients are owed

-- what a client is owed stands at its port
pub owed-client : (door : Door) (number : ℕ) (port : Port) (under_way : UnderWay)
    → is_client door ≡ true
    → owed_as (role_of door number under_way) port under_way ≡ port.owed
owed-client Clients number port under_way client = refl
owed-client Children number port under_way client = absurd (cc)

-- it came through the clients' door
pub clients : (door : Door) → is_client door ≡ true → door ≡ Clients
clients Clients client = refl
clients Children client = absurd (cc)
