-- A stream settles frame after frame.
use Rattle.std.proofs.Common.{◌≡◌, ℕ, List, [], ◌∷◌, ◌++◌, sym, ap, ◌∙◌, append_assoc}
use Rattle.wire_text.specs.Bounds.{longest_body}
use Rattle.wire_text.specs.Frames.{Front, Whole, Bad, More, front, Split, front_body, after_front}
use Rattle.wire_text.proofs.SplitLemmas.{split-whole, split-bad, split-more}
use Rattle.helper_link.specs.Settling.{Verdict, Settles, Stops, verdict, settling, settle_split, after_verdict, at_rest, stopped, waiting, onto}
use Rattle.helper_link.specs.declared.answer.Settled.{Settled}
use Rattle.helper_link.specs.declared.ask.Ask.{Ask}
use Rattle.helper_link.specs.declared.fault.LinkFault.{LinkFault}
use Rattle.helper_link.specs.declared.fault.LinkFault.TheVariants.{BadFrame}

-- a whole frame at the front, and then what follows it
pub settling-whole : (bytes : List ℕ) (body_len : ℕ) (asks : List Ask) → front longest_body bytes ≡ Whole body_len →
    settling bytes asks ≡ after_verdict (verdict (front_body body_len bytes) asks) (settling (after_front body_len bytes)) asks
unfolding settling
settling-whole bytes body_len asks found = ap (λ (parts : Split). settle_split parts asks) (split-whole longest_body bytes body_len found)

-- a bad length is faulty
pub settling-bad : (bytes : List ℕ) (announced : ℕ) (asks : List Ask) → front longest_body bytes ≡ Bad announced →
    settling bytes asks ≡ stopped BadFrame asks
unfolding settling
settling-bad bytes announced asks found =
    ap (λ (parts : Split). settle_split parts asks) (split-bad longest_body bytes announced found)
    ∙ ap (λ (answer : Front). at_rest answer bytes asks) found

-- unfinished bytes wait
pub settling-more : (bytes : List ℕ) (asks : List Ask) → front longest_body bytes ≡ More → settling bytes asks ≡ waiting bytes asks
unfolding settling
settling-more bytes asks found =
    ap (λ (parts : Split). settle_split parts asks) (split-more longest_body bytes found)
    ∙ ap (λ (answer : Front). at_rest answer bytes asks) found

-- a frame that settles an ask is one more that was settled
pub settles_one : (bytes : List ℕ) (body_len : ℕ) (asks left : List Ask) (done : List Settled) (one : Settled) →
    front longest_body bytes ≡ Whole body_len → verdict (front_body body_len bytes) asks ≡ Settles one left →
    onto done (settling bytes asks) ≡ onto (done ++ (one ∷ [])) (settling (after_front body_len bytes) left)
settles_one bytes body_len asks left done one found is =
    ap (onto done) (settling-whole bytes body_len asks found)
    ∙ ap (λ (v : Verdict). onto done (after_verdict v (settling (after_front body_len bytes)) asks)) is
    ∙ ap (λ (all : List Settled). record (settling (after_front body_len bytes) left) { settled = all })
    (sym (append_assoc done (one ∷ []) (settling (after_front body_len bytes) left).settled))

-- a faulty frame is the end
pub stops_there : (bytes : List ℕ) (body_len : ℕ) (asks : List Ask) (fault : LinkFault) →
    front longest_body bytes ≡ Whole body_len → verdict (front_body body_len bytes) asks ≡ Stops fault →
    settling bytes asks ≡ stopped fault asks
stops_there bytes body_len asks fault found is =
    settling-whole bytes body_len asks found
    ∙ ap (λ (v : Verdict). after_verdict v (settling (after_front body_len bytes)) asks) is
