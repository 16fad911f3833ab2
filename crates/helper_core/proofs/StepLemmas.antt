-- Lemmas on transcripts, journals and the steps of specs/Serving.antt.
use Rattle.std.proofs.Common.{◌≡◌, ℕ, Bool, true, false, List, [], ◌∷◌, ◌++◌, Option, Some, None, Result, Ok, Err, inl, inr, refl, ap, sym, ◌∙◌, subst, append_assoc}
use Rattle.std.proofs.lemmas.List.{append-nil}
use Rattle.std.proofs.lemmas.Result.{err_from_is_err_and}
use Rattle.std.specs.Prelude.{IsErrAnd}
use Rattle.std.specs.declared.alloc.AllocError.{AllocError}
use Rattle.child_msg.specs.ChildFrames.{from_child_body}
use Rattle.child_msg.specs.Messages.{FromChildMessage}
use Rattle.helper_core.specs.declared.answerer.Routed.{Routed}
use Rattle.helper_core.specs.declared.answerer.Routed.TheVariants as routed
use Rattle.helper_core.specs.declared.asked.Asked.{Asked}
use Rattle.helper_core.specs.declared.behind.Exchange.{Exchange}
use Rattle.helper_core.specs.declared.status.HelperStatus.{HelperStatus}
use Rattle.helper_core.specs.Routes.{Route, Answered, HandedOn, NoRequest, IsRouted, counted}
use Rattle.helper_core.specs.Serving.{IsHandedOn, IsMaybeHandedOn, IsStep, Puts, PutsAnswer, PutsNothing}
use Rattle.helper_core.specs.Transcript.{Replies, Transcript, after, ended, replies_of, then_served}
use Rattle.wire_text.specs.Wire.{string}
use Rattle.world_ports.specs.Journal.{Grows, Tells}

-- ---- transcripts

transcript : List ℕ → List Exchange → Option HelperStatus → Transcript
transcript sent handed end = record { sent = sent; handed = handed; end = end }

same_transcript : (sent sent2 : List ℕ) (handed handed2 : List Exchange) (end : Option HelperStatus)
    → sent ≡ sent2 → handed ≡ handed2
    → transcript sent handed end ≡ transcript sent2 handed2 end
same_transcript sent sent2 handed handed2 end is also =
    ap (λ (s : List ℕ). transcript s handed end) is ∙ ap (λ (h : List Exchange). transcript sent2 h end) also

pub after-after : (a b : List ℕ) (h i : List Exchange) (later : Transcript)
    → after a h (after b i later) ≡ after (a ++ b) (h ++ i) later
unfolding transcript
after-after a b h i later =
    same_transcript (a ++ (b ++ later.sent)) ((a ++ b) ++ later.sent) (h ++ (i ++ later.handed)) ((h ++ i) ++ later.handed) later.end
    (sym (append_assoc a b later.sent)) (sym (append_assoc h i later.handed))

pub after-ended : (sent : List ℕ) (handed : List Exchange) (status : HelperStatus)
    → after sent handed (ended status) ≡ record { sent = sent; handed = handed; end = Some status }
unfolding transcript
after-ended sent handed status = same_transcript (sent ++ []) sent (handed ++ []) handed (Some status) (append-nil sent) (append-nil handed)

-- the same bytes in two parts
pub after-parts : (sent front rest frame : List ℕ) (handed : List Exchange) (later : Transcript)
    → front ++ rest ≡ frame
    → after (sent ++ frame) handed later ≡ after (sent ++ front) handed (after rest [] later)
after-parts sent front rest frame handed later whole =
    ap (λ (f : List ℕ). after (sent ++ f) handed later) (sym whole) ∙ ap (λ (f : List ℕ). after f handed later) (sym (append_assoc sent front rest))
    ∙ ap (λ (h : List Exchange). after ((sent ++ front) ++ rest) h later) (sym (append-nil handed)) ∙ sym (after-after (sent ++ front) rest handed [] later)

-- ---- replies and journals

pub replies_of-append : (a b : List Exchange) → replies_of (a ++ b) ≡ replies_of a ++ replies_of b
replies_of-append [] b = refl
replies_of-append (exchange ∷ a) b = ap (λ (r : Replies). exchange.reply ∷ r) (replies_of-append a b)

pub grows_more : {A : Type 0} (old mid new : Option (List A)) (first later : List A)
    → Grows old mid first → Grows mid new later → Grows old new (first ++ later)
grows_more None mid new first later told more = tt
grows_more (Some before) None new first later told more = absurd told
grows_more (Some before) (Some between) None first later told more = absurd more
grows_more (Some before) (Some between) (Some now) first later told more =
    more ∙ ap (λ es. es ++ later) told ∙ append_assoc before first later

pub grows_none : {A : Type 0} (seen : Option (List A)) → Grows seen seen []
grows_none None = tt
grows_none (Some made) = sym (append-nil made)

-- ---- steps

-- a body that is answered
step-answered : (answer : FromChildMessage) (body : List ℕ)
    → IsStep (Answered answer) body [] (string (from_child_body answer))
unfolding then_served
step-answered answer body later rest = refl

-- one that is handed on
step-handed_on : (asked : Asked) (body : List ℕ) (reply : Option (List ℕ))
    → IsStep (HandedOn asked) body (record { request = body; reply = reply } ∷ []) (string (from_child_body (counted asked reply)))
unfolding then_served
step-handed_on asked body reply later rest = refl

-- nothing was handed on
pub puts_nothing : (route : Route) (body : List ℕ) (behind now : Option (List Exchange))
    → now ≡ behind → PutsNothing route body behind now
puts_nothing route body behind now same = record {
  handed = [];
  grew = subst (λ (n : Option (List Exchange)). Grows behind n []) (sym same) (grows_none behind);
  begins = λ later rest. record { later = then_served route body later rest; is = refl };
}

-- it was handed on, and then memory ran out
handed_on_only : (asked : Asked) (body : List ℕ) (reply : Option (List ℕ)) (behind now : Option (List Exchange))
    → Grows behind now (record { request = body; reply = reply } ∷ []) → PutsNothing (HandedOn asked) body behind now
unfolding then_served
handed_on_only asked body reply behind now grew = record {
  handed = record { request = body; reply = reply } ∷ [];
  grew = grew;
  begins = λ later rest. record { later = after (string (from_child_body (counted asked reply))) [] (rest later); is = refl };
}

maybe_handed_on : (asked : Asked) (body : List ℕ) (reply : Option (List ℕ)) (behind now : Option (List Exchange))
    → Tells behind now true (record { request = body; reply = reply }) → PutsNothing (HandedOn asked) body behind now
maybe_handed_on asked body reply behind now (inl grew) = handed_on_only asked body reply behind now grew
maybe_handed_on asked body reply behind now (inr none) = record {
  handed = [];
  grew = none;
  begins = λ later rest. record { later = then_served (HandedOn asked) body later rest; is = refl };
}

-- what the answerer says
pub puts-answered : (code : Routed) (route : Route) (body : List ℕ) (behind : Option (List Exchange)) (before out : List ℕ)
    → IsRouted code route before out
    → code ≡ routed.Answered → PutsAnswer route body behind behind before out
puts-answered routed.Answered (Answered answer) body behind before out is same = record {
  handed = [];
  grew = grows_none behind;
  frame = string (from_child_body answer);
  appended = is;
  step = step-answered answer body;
}
puts-answered routed.Answered (HandedOn asked) body behind before out is same = absurd is
puts-answered routed.Answered NoRequest body behind before out is same = absurd is
puts-answered (routed.HandedOn code) route body behind before out is same = cc same
puts-answered routed.NoRequest route body behind before out is same = cc same

pub routed-handed_on : (code : Routed) (route : Route) (before out : List ℕ) (asked : Asked)
    → IsRouted code route before out → code ≡ routed.HandedOn asked
    → (route ≡ HandedOn asked) × (out ≡ before)
routed-handed_on (routed.HandedOn code) (Answered answer) before out asked is same = absurd is
routed-handed_on (routed.HandedOn code) (HandedOn given) before out asked is same = (cc (is.0, same), is.1)
routed-handed_on (routed.HandedOn code) NoRequest before out asked is same = absurd is
routed-handed_on routed.NoRequest route before out asked is same = cc same
routed-handed_on routed.Answered route before out asked is same = cc same

pub puts-handed_on : (route : Route) (asked : Asked) (body : List ℕ) (behind now : Option (List Exchange)) (gave_up given_up : ℕ) (before mid out : List ℕ)
    → route ≡ HandedOn asked
    → mid ≡ before → IsHandedOn asked body behind now gave_up given_up mid out → PutsAnswer route body behind now before out
puts-handed_on route asked body behind now gave_up given_up before mid out is same on = record {
  handed = record { request = body; reply = on.reply } ∷ [];
  grew = on.grew;
  frame = string (from_child_body (counted asked on.reply));
  appended = on.appended ∙ ap (λ (b : List ℕ). b ++ string (from_child_body (counted asked on.reply))) same;
  step = subst (λ (r : Route). IsStep r body (record { request = body; reply = on.reply } ∷ []) (string (from_child_body (counted asked on.reply)))) (sym is)
      (step-handed_on asked body on.reply);
}

pub puts-maybe : (route : Route) (asked : Asked) (body : List ℕ) (behind now : Option (List Exchange)) (gave_up given_up : ℕ)
    → route ≡ HandedOn asked
    → IsMaybeHandedOn asked body behind now gave_up given_up → PutsNothing route body behind now
puts-maybe route asked body behind now gave_up given_up is maybe =
    subst (λ (r : Route). PutsNothing r body behind now) (sym is) (maybe_handed_on asked body maybe.reply behind now maybe.told)

-- what an error says
pub puts-err : (Q : AllocError → Type 0) (result : Result Bool AllocError) (route : Route) (body : List ℕ) (behind now : Option (List Exchange)) (before out : List ℕ)
    → IsErrAnd result Q → PutsNothing route body behind now → Puts result route body behind now before out
puts-err Q result route body behind now before out is nothing =
    let error = err_from_is_err_and result is in
    subst (λ (r : Result Bool AllocError). Puts r route body behind now before out) (sym error.1) nothing

-- ---- what an answering tells

pub no_answer : (result : Result Bool AllocError) (route : Route) (body : List ℕ) (behind now : Option (List Exchange)) (before out : List ℕ)
    → ((answered : Bool) → result ≡ Ok answered → ⊥) → Puts result route body behind now before out → PutsNothing route body behind now
no_answer (Ok answered) route body behind now before out not puts = absurd (not answered refl)
no_answer (Err error) route body behind now before out not puts = puts

pub no_request : (answered : Bool) (route : Route) (body : List ℕ) (behind now : Option (List Exchange)) (before out : List ℕ)
    → answered ≡ false
    → Puts (Ok answered) route body behind now before out → (route ≡ NoRequest) × (now ≡ behind)
no_request false route body behind now before out is puts = puts
no_request true route body behind now before out is puts = cc is

pub some_answer : (answered : Bool) (route : Route) (body : List ℕ) (behind now : Option (List Exchange)) (before out : List ℕ)
    → answered ≡ true
    → Puts (Ok answered) route body behind now before out → PutsAnswer route body behind now before out
some_answer true route body behind now before out is puts = puts
some_answer false route body behind now before out is puts = cc is
