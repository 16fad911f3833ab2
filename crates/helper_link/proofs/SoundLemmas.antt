-- Links stay sound.
use Rattle.std.proofs.Common.{◌≡◌, ◌≢◌, ◌==◌, ℕ, ◌+◌, ◌-◌, ◌^◌, ◌<◌, ◌≤◌, nat_lt, nat_le, Bool, true, false, ◌||◌, List, [], ◌∷◌, ◌++◌, length, None, refl, ◌∙◌, arith, length-append}
use Rattle.lists.proofs.NeverFallLemmas.{never_fall-push}
use Rattle.std.proofs.lemmas.Bool.Decides.{nat_tests}
use Rattle.std.proofs.lemmas.List.Sums.{sum_by_push}
use Rattle.wire_text.specs.Bounds.{longest_body, longest_to_child}
use Rattle.wire_text.specs.Frames.{Front, Whole, Bad, More, front, split, StartsWithFrame}
use Rattle.wire_text.proofs.FrontLemmas.{front-short, front_says}
use Rattle.wire_text.proofs.SplitLemmas.{rest_has_no_frame}
use Rattle.child_msg.specs.ChildFrames.{to_child_body}
use Rattle.child_msg.specs.Messages.{ToChildMessage}
use Rattle.helper_link.specs.HelperLink.{ArePutBy, HelperLink, IsLinked, ask_fault, ask_fault_by, ask_of, asked_len, most_asked, most_asks, second_of, submitted}
use Rattle.helper_link.specs.Settling.{Verdict, Settles, Stops, Settling, verdict, settling, settle, after_verdict, at_rest}
use Rattle.helper_link.specs.Sound.{IsQuiet, IsSound}
use Rattle.helper_link.specs.Telling.{telling}
use Rattle.helper_link.specs.declared.ask.Ask.{Ask}
use Rattle.helper_link.specs.declared.ask.AskKind.{AskKind}
use Rattle.helper_link.specs.declared.state.LinkState.{LinkState}
use Rattle.helper_link.specs.declared.state.LinkState.TheVariants as states
use Rattle.helper_link.proofs.AnswerLemmas.{lead_fewer, lead_lighter, lead_rise, lead_seconds, settling_leads}
use Rattle.helper_link.proofs.OrderLemmas.{push_rises, size as size_of}

-- nothing is the front of a frame
pub nothing_is_part : front longest_body [] ≡ More
nothing_is_part = front-short longest_body [] (omega arith)

-- ---- asks

-- fewer than the most are unanswered, and of fewer bytes, where no fault stands against an ask
room_if : (many heavy spent : Bool) (asks : List Ask) → nat_lt (most_asks - 1) (length asks) ≡ many →
    nat_le most_asked (asked_len asks) ≡ heavy → ask_fault_by (many || heavy) spent ≡ None →
    (length asks < most_asks) × (asked_len asks < most_asked)
room_if true heavy spent asks is weighs none = absurd cc
room_if false true spent asks is weighs none = absurd cc
room_if false false true asks is weighs none = absurd cc
room_if false false false asks is weighs none = (grind (arith, nat_tests), grind (arith, nat_tests))

-- more may be asked than nothing, as far as the link has come
quiet_asked : (state : LinkState) (old new : HelperLink) → state ≢ states.None →
    new.heard ≡ old.heard → IsQuiet state old → IsQuiet state new
quiet_asked states.None old new some same quiet = absurd (some refl)
quiet_asked (states.Starting job) old new some same quiet = same ∙ quiet
quiet_asked (states.Linked port) old new some same quiet = tt

-- one ask more, of a body that is no longer than may be
asked_more : (asks : List Ask) (new : Ask) → asked_len asks < most_asked → new.size ≤ longest_to_child →
    asked_len (asks ++ (new ∷ [])) < most_asked + longest_to_child
asked_more asks new light short = omega (arith, sum_by_push size_of asks new, light, short)

-- one ask more, where there is room, whatever is to be sent
pub IsSound-push : (kind : AskKind) (asker : ℕ) (blob : List ℕ) (now size : ℕ) (owed : List ℕ) (link : HelperLink) →
    link.state ≢ states.None → length link.asks < most_asks → asked_len link.asks < most_asked →
    size ≤ longest_to_child → ArePutBy now link.asks → IsSound link →
    IsSound (record link {
      asks = link.asks ++ (ask_of (link.last + 1) asker kind blob now size ∷ []);
      last = link.last + 1;
      owed = owed;
    })
IsSound-push kind asker blob now size owed link some room light short later sound = record {
  quiet = quiet_asked link.state link _ some refl sound.quiet;
  few = omega (arith, length-append link.asks (ask_of (link.last + 1) asker kind blob now size ∷ []), room);
  light = asked_more link.asks (ask_of (link.last + 1) asker kind blob now size) light short;
  order = push_rises 0 link.asks link.last asker kind blob now size sound.order;
  seconds =
      never_fall-push second_of 0 link.asks (ask_of (link.last + 1) asker kind blob now size) (omega arith) later
      sound.seconds;
  part = sound.part;
}

-- the same, by the fault
pub IsSound-submitted : (kind : AskKind) (asker : ℕ) (blob : List ℕ) (request : ℕ → ToChildMessage) (now : ℕ)
    (link : HelperLink) → link.state ≢ states.None →
    ask_fault link ≡ None → length (to_child_body (request (link.last + 1))) ≤ longest_to_child →
    ArePutBy now link.asks → IsSound link →
    IsSound (submitted kind asker blob request now link)
IsSound-submitted kind asker blob request now link some fault short later sound =
    let room = room_if (nat_lt (most_asks - 1) (length link.asks)) (nat_le most_asked (asked_len link.asks))
    (link.last == 2 ^ 64 - 1) link.asks refl refl fault in
    IsSound-push kind asker blob now (length (to_child_body (request (link.last + 1))))
    (submitted kind asker blob request now link).owed link some room.0 room.1 short later sound

-- ---- the helper's stream

-- behind the whole frames there is less than a frame
rest_part : (answer : Front) (rest : List ℕ) (asks : List Ask) → front longest_body rest ≡ answer →
    (StartsWithFrame longest_body rest → ⊥) →
    front longest_body (at_rest answer rest asks).heard ≡ More
rest_part (Whole body_len) rest asks is none =
    let whole = front_says longest_body rest (Whole body_len) is in absurd (none whole.0)
rest_part (Bad announced) rest asks is none = nothing_is_part
rest_part More rest asks is none = is

-- behind a frame there is what follows it, or nothing
after_part : (v : Verdict) (later : List Ask → Settling) (asks : List Ask) →
    ((left : List Ask) → front longest_body (later left).heard ≡ More) →
    front longest_body (after_verdict v later asks).heard ≡ More
after_part (Settles one left) later asks keeps = keeps left
after_part (Stops fault) later asks keeps = nothing_is_part

-- and so behind all frames
settle_part : (bodies : List (List ℕ)) (later : List Ask → Settling) →
    ((left : List Ask) → front longest_body (later left).heard ≡ More) →
    (asks : List Ask) → front longest_body (settle bodies later asks).heard ≡ More
settle_part [] later keeps asks = keeps asks
settle_part (body ∷ bodies) later keeps asks =
    after_part (verdict body asks) (settle bodies later) asks (settle_part bodies later keeps)

-- what a stream leaves is less than a frame
settling_part : (bytes : List ℕ) (asks : List Ask) → front longest_body (settling bytes asks).heard ≡ More
unfolding settling
settling_part bytes asks =
    let parts = split longest_body bytes in
    settle_part parts.bodies (at_rest (front longest_body parts.rest) parts.rest)
    (λ left. rest_part (front longest_body parts.rest) parts.rest left refl
    (rest_has_no_frame longest_body bytes)) asks

-- where the helper is there, anything may be
quiet_linked : (state : LinkState) (link : HelperLink) → IsLinked state → IsQuiet state link
quiet_linked states.None link is = absurd is
quiet_linked (states.Starting job) link is = absurd is
quiet_linked (states.Linked port) link is = tt

-- what a stream settles
pub IsSound-settled : (bytes : List ℕ) (asks : List Ask) (heard : List ℕ) (link : HelperLink) →
    IsLinked link.state → IsSound link →
    (settling bytes link.asks).asks ≡ asks → (settling bytes link.asks).heard ≡ heard →
    IsSound (record link { asks = asks; heard = heard })
IsSound-settled bytes asks heard link is sound left rest =
    let all = settling bytes link.asks in
    let leads = settling_leads bytes link.asks in
    let fewer = lead_fewer all.settled link.asks all.asks leads in
    let lighter = lead_lighter all.settled link.asks all.asks leads in
    rw (← left, ← rest) record {
      quiet = quiet_linked link.state _ is;
      few = omega (arith, fewer, sound.few);
      light = omega (arith, lighter, sound.light);
      order = lead_rise all.settled link.asks all.asks 0 link.last leads sound.order;
      seconds = lead_seconds all.settled link.asks all.asks 0 leads sound.seconds;
      part = settling_part bytes link.asks;
    }

-- nothing unanswered and nothing heard
pub IsSound-cleared : (link : HelperLink) → IsLinked link.state →
    IsSound (record link { asks = []; heard = [] })
IsSound-cleared link is = record {
  quiet = quiet_linked link.state _ is;
  few = omega arith;
  light = omega arith;
  order = omega arith;
  seconds = tt;
  part = nothing_is_part;
}

-- no helper, and nothing unanswered, to be sent or heard
pub IsSound-gone : (link : HelperLink) →
    IsSound (record link { state = states.None; asks = []; owed = []; heard = [] })
IsSound-gone link = record {
  quiet = (refl, refl, refl);
  few = omega arith;
  light = omega arith;
  order = omega arith;
  seconds = tt;
  part = nothing_is_part;
}

-- a piece of the helper's stream
pub IsSound-telling : (piece : List ℕ) (link : HelperLink) → IsLinked link.state → IsSound link →
    IsSound (telling piece link).link
IsSound-telling piece link is sound =
    IsSound-settled (link.heard ++ piece) _ _ link is sound refl refl
