-- It does not matter how the helper's stream is cut.
use Rattle.std.proofs.Common.{◌≡◌, ℕ, List, [], ◌∷◌, ◌++◌, Option, Some, None, refl, sym, ap, ◌∙◌, append_assoc}
use Rattle.wire_text.specs.Bounds.{longest_body}
use Rattle.wire_text.specs.Frames.{Front, Whole, Bad, More, front, Split, split, StartsWithFrame}
use Rattle.wire_text.proofs.FrontLemmas.{FrontIs, front-is, front-append_bad}
use Rattle.wire_text.proofs.SplitLemmas.{split-append, rest_has_no_frame}
use Rattle.helper_link.specs.HelperLink.{HelperLink}
use Rattle.helper_link.specs.Settling.{Verdict, Settles, Stops, Settling, verdict, settling, settle, settle_split, after_verdict, at_rest, onto}
use Rattle.helper_link.specs.Telling.{Telling, telling, telling_of, told_in_turn, unless_faulty, settled_before, joined}
use Rattle.helper_link.specs.declared.answer.Settled.{Settled}
use Rattle.helper_link.specs.declared.ask.Ask.{Ask}
use Rattle.helper_link.specs.declared.fault.LinkFault.{LinkFault}
use Rattle.helper_link.proofs.SettlingLemmas.{settling-bad}

-- what is settled later, from the asks and bytes that are left, unless a fault was found
abbrev goes_on : Option LinkFault → Settling → (List Ask → List ℕ → Settling) → Settling
goes_on None first later = onto first.settled (later first.asks first.heard)
goes_on (Some fault) first later = first

-- the same, by the fault of what was settled first
abbrev and_then : Settling → (List Ask → List ℕ → Settling) → Settling
and_then first later = goes_on first.fault first later

-- after a frame the same follows
same_after : (v : Verdict) (f g : List Ask → Settling) (asks : List Ask) → ((left : List Ask) → f left ≡ g left) →
    after_verdict v f asks ≡ after_verdict v g asks
same_after (Settles one left) f g asks same = ap (onto (one ∷ [])) (same left)
same_after (Stops fault) f g asks same = refl

-- the frames of both lists are those of the first, and then those of the second
settle-append : (xs ys : List (List ℕ)) (later : List Ask → Settling) (asks : List Ask) →
    settle (xs ++ ys) later asks ≡ settle xs (settle ys later) asks
settle-append [] ys later asks = refl
settle-append (body ∷ xs) ys later asks =
    same_after (verdict body asks) (settle (xs ++ ys) later) (settle xs (settle ys later)) asks (settle-append xs ys later)

-- what follows the settling of more is the same
onto-goes_on : (fault : Option LinkFault) (done : List Settled) (first : Settling) (later : List Ask → List ℕ → Settling) →
    onto done (goes_on fault first later) ≡ goes_on fault (onto done first) later
onto-goes_on None done first later =
    ap (λ (all : List Settled). record (later first.asks first.heard) { settled = all })
    (sym (append_assoc done first.settled (later first.asks first.heard).settled))
onto-goes_on (Some fault) done first later = refl

-- after a frame, and then later
after-and_then : (v : Verdict) (first : List Ask → Settling) (later : List Ask → List ℕ → Settling) (asks : List Ask) →
    after_verdict v (λ left. and_then (first left) later) asks ≡ and_then (after_verdict v first asks) later
after-and_then (Settles one left) first later asks = onto-goes_on (first left).fault (one ∷ []) (first left) later
after-and_then (Stops fault) first later asks = refl

-- after frames, and then later
settle-and_then : (bodies : List (List ℕ)) (first : List Ask → Settling) (later : List Ask → List ℕ → Settling) (asks : List Ask) →
    settle bodies (λ left. and_then (first left) later) asks ≡ and_then (settle bodies first asks) later
settle-and_then [] first later asks = refl
settle-and_then (body ∷ bodies) first later asks =
    same_after (verdict body asks) (settle bodies (λ left. and_then (first left) later)) (λ left. and_then (settle bodies first left) later) asks
    (settle-and_then bodies first later)
    ∙ after-and_then (verdict body asks) (settle bodies first) later asks

-- frames and what follows them settle the same, where what follows does
same_settle : (bodies : List (List ℕ)) (f g : List Ask → Settling) → ((left : List Ask) → f left ≡ g left) → (asks : List Ask) →
    settle bodies f asks ≡ settle bodies g asks
same_settle [] f g same asks = same asks
same_settle (body ∷ bodies) f g same asks =
    same_after (verdict body asks) (settle bodies f) (settle bodies g) asks (same_settle bodies f g same)

-- bytes behind a rest: they go on where it waits, and change nothing where it is bad
rest_goes_on : (rest more : List ℕ) (answer : Front) (asks : List Ask) → front longest_body rest ≡ answer → FrontIs longest_body rest answer →
    (StartsWithFrame longest_body rest → ⊥) →
    settling (rest ++ more) asks ≡ and_then (at_rest answer rest asks) (λ left heard. settling (heard ++ more) left)
rest_goes_on rest more (Whole body_len) asks found is none = absurd (none is.0)
rest_goes_on rest more (Bad announced) asks found is none = settling-bad (rest ++ more) announced asks (front-append_bad longest_body rest more announced found)
rest_goes_on rest more More asks found is none = refl

-- a stream and more of it
pub settling-append : (bytes more : List ℕ) (asks : List Ask) →
    settling (bytes ++ more) asks ≡ and_then (settling bytes asks) (λ left heard. settling (heard ++ more) left)
unfolding settling
settling-append bytes more asks =
    let first = split longest_body bytes in
    let second = split longest_body (first.rest ++ more) in
    ap (λ (parts : Split). settle_split parts asks) (split-append longest_body bytes more)
    ∙ settle-append first.bodies second.bodies (at_rest (front longest_body second.rest) second.rest) asks
    ∙ same_settle first.bodies (settle second.bodies (at_rest (front longest_body second.rest) second.rest))
    (λ left. and_then (at_rest (front longest_body first.rest) first.rest left) (λ after heard. settling (heard ++ more) after))
    (λ left. rest_goes_on first.rest more (front longest_body first.rest) left refl (front-is longest_body first.rest) (rest_has_no_frame longest_body bytes)) asks
    ∙ settle-and_then first.bodies (at_rest (front longest_body first.rest) first.rest) (λ left heard. settling (heard ++ more) left) asks

-- a piece and then another, told of what was settled
told-goes_on : (fault : Option LinkFault) (first : Settling) (more : List ℕ) (link : HelperLink) → first.fault ≡ fault →
    telling_of (goes_on fault first (λ left heard. settling (heard ++ more) left)) link
    ≡ unless_faulty fault (telling_of first link) (telling more)
told-goes_on None first more link is = refl
told-goes_on (Some fault) first more link is = refl

-- a piece and then another are told as one
telling-append : (piece more : List ℕ) (link : HelperLink) →
    telling (piece ++ more) link ≡ unless_faulty (telling piece link).fault (telling piece link) (telling more)
telling-append piece more link =
    ap (λ (bytes : List ℕ). telling_of (settling bytes link.asks) link) (sym (append_assoc link.heard piece more))
    ∙ ap (λ (all : Settling). telling_of all link) (settling-append (link.heard ++ piece) more link.asks)
    ∙ told-goes_on (settling (link.heard ++ piece) link.asks).fault (settling (link.heard ++ piece) link.asks) more link refl

-- later the same is told
same_unless : (fault : Option LinkFault) (first : Telling) (f g : HelperLink → Telling) → ((link : HelperLink) → f link ≡ g link) →
    unless_faulty fault first f ≡ unless_faulty fault first g
same_unless None first f g same = ap (settled_before first.settled) (same first.link)
same_unless (Some fault) first f g same = refl

-- pieces tell what they tell as one
pub told_in_turn-joined : (piece : List ℕ) (pieces : List (List ℕ)) (link : HelperLink) →
    told_in_turn piece pieces link ≡ telling (joined piece pieces) link
told_in_turn-joined piece [] link = refl
told_in_turn-joined piece (next ∷ pieces) link =
    same_unless (telling piece link).fault (telling piece link) (told_in_turn next pieces) (telling (joined next pieces))
    (told_in_turn-joined next pieces)
    ∙ sym (telling-append piece (joined next pieces) link)
