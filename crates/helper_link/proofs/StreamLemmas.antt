-- The steps of a loop over the frames of a stream.
use Rattle.std.proofs.Common.{◌≡◌, ℕ, ◌+◌, ◌≤◌, List, [], ◌∷◌, ◌++◌, length, drop, Option, Some, None, sym, ap, ◌∙◌, arith}
use Rattle.std.proofs.lemmas.List.{drop-drop, append-nil, length-drop}
use Rattle.std.proofs.Math.Seq.{drop-length}
use Rattle.wire_text.proofs.FrontLemmas.{whole_within}
use Rattle.wire_text.specs.Bounds.{longest_body}
use Rattle.wire_text.specs.Frames.{Whole, Bad, More, front, front_body, after_front}
use Rattle.helper_link.specs.Settling.{Settles, Stops, Settling, verdict, settling, onto}
use Rattle.helper_link.specs.Stream.{settled_to}
use Rattle.helper_link.specs.declared.settle.Settlement.{Settlement}
use Rattle.helper_link.specs.declared.answer.Settled.{Settled}
use Rattle.helper_link.specs.declared.ask.Ask.{Ask}
use Rattle.helper_link.specs.declared.fault.LinkFault.{LinkFault}
use Rattle.helper_link.specs.declared.fault.LinkFault.TheVariants.{BadFrame}
use Rattle.helper_link.proofs.SettlingLemmas.{settles_one, stops_there, settling-bad, settling-more}

-- one frame more
pub next_frame : (stream rest : List ℕ) (at next body_len : ℕ) (asks left : List Ask) (done pushed : List Settled) (one : Settled) (whole : Settling) →
    rest ≡ drop at stream → next ≡ at + (4 + body_len) → Whole body_len ≡ front longest_body rest →
    verdict (front_body body_len rest) asks ≡ Settles one left → pushed ≡ done ++ (one ∷ []) →
    onto done (settling (drop at stream) asks) ≡ whole →
    onto pushed (settling (drop next stream) left) ≡ whole
next_frame stream rest at next body_len asks left done pushed one whole there behind found is push before =
    let later : after_front body_len rest ≡ drop next stream =
    ap (after_front body_len) there ∙ drop-drop (4 + body_len) at stream ∙ ap (λ (count : ℕ). drop count stream) (sym behind) in
    ap (λ (all : List Settled). onto all (settling (drop next stream) left)) push
    ∙ ap (λ (bytes : List ℕ). onto (done ++ (one ∷ [])) (settling bytes left)) (sym later)
    ∙ sym (settles_one rest body_len asks left done one (sym found) is)
    ∙ ap (λ (bytes : List ℕ). onto done (settling bytes asks)) there
    ∙ before

-- a settling of these parts
abbrev pub ended : List Settled → List Ask → List ℕ → Option LinkFault → Settling
ended settled asks heard fault = record { settled = settled; asks = asks; heard = heard; fault = fault }

-- nothing more was settled
ended_with : (done : List Settled) (asks : List Ask) (heard : List ℕ) (fault : Option LinkFault) (now whole : Settling) →
    now ≡ ended [] asks heard fault → onto done now ≡ whole → whole ≡ ended done asks heard fault
ended_with done asks heard fault now whole is before =
    sym before ∙ ap (onto done) is
    ∙ ap (λ (all : List Settled). ended all asks heard fault) (append-nil done)

-- with this heard instead
heard_is : (asks : List Ask) (fault : Option LinkFault) (a b : List ℕ) → a ≡ b → ended [] asks a fault ≡ ended [] asks b fault
heard_is asks fault a b is = ap (λ (heard : List ℕ). ended [] asks heard fault) is

-- the end at a faulty frame
pub faulty_frame : (stream rest : List ℕ) (at body_len : ℕ) (asks : List Ask) (done : List Settled) (fault : LinkFault) (whole : Settling) →
    rest ≡ drop at stream → Whole body_len ≡ front longest_body rest → verdict (front_body body_len rest) asks ≡ Stops fault →
    onto done (settling (drop at stream) asks) ≡ whole →
    whole ≡ ended done asks (drop (length stream) stream) (Some fault)
faulty_frame stream rest at body_len asks done fault whole there found is before =
    ended_with done asks (drop (length stream) stream) (Some fault) (settling rest asks) whole
    (stops_there rest body_len asks fault (sym found) is ∙ heard_is asks (Some fault) [] (drop (length stream) stream) (sym (drop-length stream)))
    (ap (λ (bytes : List ℕ). onto done (settling bytes asks)) there ∙ before)

-- the end at a bad length
pub faulty_length : (stream rest : List ℕ) (at announced : ℕ) (asks : List Ask) (done : List Settled) (whole : Settling) →
    rest ≡ drop at stream → Bad announced ≡ front longest_body rest →
    onto done (settling (drop at stream) asks) ≡ whole →
    whole ≡ ended done asks (drop (length stream) stream) (Some BadFrame)
faulty_length stream rest at announced asks done whole there found before =
    ended_with done asks (drop (length stream) stream) (Some BadFrame) (settling rest asks) whole
    (settling-bad rest announced asks (sym found) ∙ heard_is asks (Some BadFrame) [] (drop (length stream) stream) (sym (drop-length stream)))
    (ap (λ (bytes : List ℕ). onto done (settling bytes asks)) there ∙ before)

-- the end where no more is there
pub no_frame : (stream rest : List ℕ) (at : ℕ) (asks : List Ask) (done : List Settled) (whole : Settling) →
    rest ≡ drop at stream → More ≡ front longest_body rest →
    onto done (settling (drop at stream) asks) ≡ whole →
    whole ≡ ended done asks (drop at stream) None
no_frame stream rest at asks done whole there found before =
    ended_with done asks (drop at stream) None (settling rest asks) whole
    (settling-more rest asks (sym found) ∙ heard_is asks None rest (drop at stream) there)
    (ap (λ (bytes : List ℕ). onto done (settling bytes asks)) there ∙ before)

-- it ends within the stream
pub frame_within : (stream rest : List ℕ) (at body_len : ℕ) → rest ≡ drop at stream → at ≤ length stream →
    Whole body_len ≡ front longest_body rest → at + (4 + body_len) ≤ length stream
frame_within stream rest at body_len there within found =
    let fits : 4 + body_len ≤ length rest = whole_within longest_body rest body_len (sym found) in
    let long : length rest ≡ length (drop at stream) = ap (λ (bytes : List ℕ). length bytes) there in
    omega (arith, length-drop at stream)

-- what the code gives is that
pub given : (stream : List ℕ) (end : Settlement) (done : List Settled) (asks left : List Ask) (fault : LinkFault) (whole : Settling) →
    whole ≡ ended done asks (drop (length stream) stream) (Some fault) → end.settled.items ≡ done → end.read ≡ length stream →
    end.fault ≡ Some fault → left ≡ asks → whole ≡ settled_to stream end left
given stream end done asks left fault whole is settled read faulty same =
    is
    ∙ ap (λ (all : List Settled). ended all asks (drop (length stream) stream) (Some fault)) (sym settled)
    ∙ ap (λ (count : ℕ). ended end.settled.items asks (drop count stream) (Some fault)) (sym read)
    ∙ ap (λ (why : Option LinkFault). ended end.settled.items asks (drop end.read stream) why) (sym faulty)
    ∙ ap (λ (all : List Ask). ended end.settled.items all (drop end.read stream) end.fault) (sym same)
