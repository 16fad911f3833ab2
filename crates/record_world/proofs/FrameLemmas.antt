-- Whole frames of a client, one after another.
use Rattle.std.specs.Prelude.{IsErrAnd}
use Rattle.std.proofs.Common.{Result, Ok, Err, ◌≡◌, ℕ, ◌+◌, ◌≤◌, ◌<◌, Bool, true, false, List, [], ◌∷◌, ◌++◌, length, take, refl, sym, ap, subst, ◌∙◌, arith, append_assoc, append-nil}
use Rattle.wire_text.proofs.FrontLemmas.{front_says}
use Rattle.wire_text.proofs.SplitLemmas.{length-after_front, split-bad, split-more, split-whole}
use Rattle.wire_text.specs.Bounds.{longest_body}
use Rattle.wire_text.specs.Frames.{Bad, Front, More, Split, Whole, after_front, front, front_body, split, then_split, unsplit}
use Rattle.wire_text.specs.Wire.{string}
use Rattle.redact_core.specs.declared.fault.RedactFault.{RedactFault}
use Rattle.redact_core.specs.Redaction.{Redacted, is_over, redacted, redacted_all}
use Rattle.redact_core.proofs.GrowLemmas.{all_more, over_more}
use Rattle.record_world.specs.Frames.{ends_badly, rest_bytes}
use Rattle.record_world.specs.Recording.{Port, Taken, rest_taken, taken}
use Rattle.world_ports.specs.declared.Door.TheVariants.{Clients}

-- four bytes of a bad length are there
pub bad_within : (heard : List ℕ) (announced : ℕ) → front longest_body heard ≡ Bad announced → 4 ≤ length heard
bad_within heard announced bad = (front_says longest_body heard (Bad announced) bad).0.header

-- less is left
pub fewer_left : (heard left : List ℕ) (body_len : ℕ) → front longest_body heard ≡ Whole body_len → left ≡ after_front body_len heard → length left < length heard
fewer_left heard left body_len whole is = omega (arith, length-after_front longest_body heard body_len whole, ap (λ (l : List ℕ). length l) is)

-- what was taken so far and what is left to take are what is taken of all bytes
pub record Goes (bytes left : List ℕ) (early late : List (List ℕ)) (start leaving : List ℕ) : Type 0 where
  pub rest : (split longest_body left).rest ≡ (split longest_body bytes).rest
  pub passphrases : (redacted_all (split longest_body left).bodies late).passphrases ≡ (redacted_all (split longest_body bytes).bodies early).passphrases
  pub text : leaving ++ (redacted_all (split longest_body left).bodies late).body ≡ start ++ (redacted_all (split longest_body bytes).bodies early).body
  pub fits : is_over early ≡ false → is_over late ≡ false

pub goes_first : (bytes : List ℕ) (early : List (List ℕ)) (start : List ℕ) → Goes bytes bytes early early start start
goes_first bytes early start = record { rest = refl; passphrases = refl; text = refl; fits = λ fine. fine }

goes-next : (bytes left later : List ℕ) (early late last : List (List ℕ)) (start leaving more : List ℕ) (body_len : ℕ)
    → front longest_body left ≡ Whole body_len → later ≡ after_front body_len left → last ≡ (redacted (front_body body_len left) late).passphrases
    → more ≡ leaving ++ string (redacted (front_body body_len left) late).body → (is_over late ≡ false → is_over last ≡ false)
    → Goes bytes left early late start leaving → Goes bytes later early last start more
goes-next bytes left later early late last start leaving more body_len whole is_later is_last is_more fits goes =
    let cut : split longest_body left ≡ then_split (front_body body_len left ∷ []) (split longest_body (after_front body_len left)) = split-whole longest_body left body_len whole in
    let behind = split longest_body (after_front body_len left) in
    let first = redacted (front_body body_len left) late in
    record {
      rest = ap (λ (l : List ℕ). (split longest_body l).rest) is_later ∙ sym (ap (λ (s : Split). s.rest) cut) ∙ goes.rest;
      passphrases = ap (λ (l : List ℕ). (redacted_all (split longest_body l).bodies last).passphrases) is_later
          ∙ ap (λ (p : List (List ℕ)). (redacted_all behind.bodies p).passphrases) is_last
          ∙ sym (ap (λ (s : Split). (redacted_all s.bodies late).passphrases) cut) ∙ goes.passphrases;
      text = ap (λ (l : List ℕ). l ++ (redacted_all (split longest_body later).bodies last).body) is_more
          ∙ append_assoc leaving (string first.body) (redacted_all (split longest_body later).bodies last).body
          ∙ ap (λ (l : List ℕ). leaving ++ (string first.body ++ (redacted_all (split longest_body l).bodies last).body)) is_later
          ∙ ap (λ (p : List (List ℕ)). leaving ++ (string first.body ++ (redacted_all behind.bodies p).body)) is_last
          ∙ sym (ap (λ (s : Split). leaving ++ (redacted_all s.bodies late).body) cut) ∙ goes.text;
      fits = λ fine. fits (goes.fits fine);
    }

-- nothing more is to take
pub record Ends (bytes left : List ℕ) (early late : List (List ℕ)) (start leaving : List ℕ) : Type 0 where
  pub rest : left ≡ (split longest_body bytes).rest
  pub passphrases : late ≡ (redacted_all (split longest_body bytes).bodies early).passphrases
  pub text : leaving ≡ start ++ (redacted_all (split longest_body bytes).bodies early).body

ends : (bytes left : List ℕ) (early late : List (List ℕ)) (start leaving : List ℕ) → split longest_body left ≡ unsplit left
    → Goes bytes left early late start leaving → Ends bytes left early late start leaving
ends bytes left early late start leaving cut goes = record {
  rest = sym (ap (λ (s : Split). s.rest) cut) ∙ goes.rest;
  passphrases = sym (ap (λ (s : Split). (redacted_all s.bodies late).passphrases) cut) ∙ goes.passphrases;
  text = sym (append-nil leaving) ∙ sym (ap (λ (s : Split). leaving ++ (redacted_all s.bodies late).body) cut) ∙ goes.text;
}

ends-bad : (bytes left : List ℕ) (early late : List (List ℕ)) (start leaving : List ℕ) (announced : ℕ) → front longest_body left ≡ Bad announced
    → Goes bytes left early late start leaving → Ends bytes left early late start leaving
ends-bad bytes left early late start leaving announced bad goes = ends bytes left early late start leaving (split-bad longest_body left announced bad) goes

ends-more : (bytes left : List ℕ) (early late : List (List ℕ)) (start leaving : List ℕ) → front longest_body left ≡ More
    → Goes bytes left early late start leaving → Ends bytes left early late start leaving
ends-more bytes left early late start leaving more goes = ends bytes left early late start leaving (split-more longest_body left more) goes

-- ---- what is answered then

module _ (bytes left shown : List ℕ) (early late : List (List ℕ)) (start leaving : List ℕ) (same : shown ≡ left) (goes : Goes bytes left early late start leaving) where
  abbrev cut : Split
  cut = split longest_body bytes

  -- a bad length is at the front of the rest
  module _ (announced : ℕ) (bad : Bad announced ≡ front longest_body shown) where
    abbrev there : front longest_body left ≡ Bad announced
    there = subst (λ (l : List ℕ). front longest_body l ≡ Bad announced) same (sym bad)

    abbrev ended : Ends bytes left early late start leaving
    ended = ends-bad bytes left early late start leaving announced there goes

    at_rest : front longest_body cut.rest ≡ Bad announced
    at_rest = subst (λ (l : List ℕ). front longest_body l ≡ Bad announced) ended.rest there

    pub bad_says : true ≡ ends_badly (front longest_body cut.rest)
    bad_says = sym (ap ends_badly at_rest)

    pub bad_rest : left ≡ cut.rest
    bad_rest = ended.rest

    pub bad_passphrases : late ≡ (redacted_all cut.bodies early).passphrases
    bad_passphrases = ended.passphrases

    pub bad_text : (more : List ℕ) → more ≡ leaving ++ take 4 left → more ≡ (start ++ (redacted_all cut.bodies early).body) ++ rest_bytes (front longest_body cut.rest) cut.rest
    bad_text more is = is ∙ ap (λ (l : List ℕ). l ++ take 4 left) ended.text
        ∙ ap (λ (l : List ℕ). (start ++ (redacted_all cut.bodies early).body) ++ take 4 l) ended.rest
        ∙ sym (ap (λ (f : Front). (start ++ (redacted_all cut.bodies early).body) ++ rest_bytes f cut.rest) at_rest)

  -- or a part of a frame
  module _ (more : More ≡ front longest_body shown) where
    abbrev waiting : front longest_body left ≡ More
    waiting = subst (λ (l : List ℕ). front longest_body l ≡ More) same (sym more)

    abbrev over : Ends bytes left early late start leaving
    over = ends-more bytes left early late start leaving waiting goes

    waits_at_rest : front longest_body cut.rest ≡ More
    waits_at_rest = subst (λ (l : List ℕ). front longest_body l ≡ More) over.rest waiting

    pub more_says : false ≡ ends_badly (front longest_body cut.rest)
    more_says = sym (ap ends_badly waits_at_rest)

    pub more_rest : left ≡ cut.rest
    more_rest = over.rest

    pub more_passphrases : late ≡ (redacted_all cut.bodies early).passphrases
    more_passphrases = over.passphrases

    pub more_text : leaving ≡ (start ++ (redacted_all cut.bodies early).body) ++ rest_bytes (front longest_body cut.rest) cut.rest
    more_text = over.text ∙ sym (append-nil (start ++ (redacted_all cut.bodies early).body))
        ∙ sym (ap (λ (f : Front). (start ++ (redacted_all cut.bodies early).body) ++ rest_bytes f cut.rest) waits_at_rest)

-- a whole frame was taken
pub frame_next : (bytes left shown later : List ℕ) (early late last : List (List ℕ)) (start leaving more : List ℕ) (body_len : ℕ)
    → shown ≡ left → Whole body_len ≡ front longest_body shown → later ≡ after_front body_len left → last ≡ (redacted (front_body body_len left) late).passphrases
    → more ≡ leaving ++ string (redacted (front_body body_len left) late).body → (is_over late ≡ false → is_over last ≡ false)
    → Goes bytes left early late start leaving → Goes bytes later early last start more
frame_next bytes left shown later early late last start leaving more body_len same whole is_later is_last is_more fits goes =
    goes-next bytes left later early late last start leaving more body_len (subst (λ (l : List ℕ). front longest_body l ≡ Whole body_len) same (sym whole)) is_later is_last is_more fits goes

-- the fault of a call is that which is answered
pub same_fault : {T : Type 0} (result : Result T RedactFault) (fault why : RedactFault)
    → IsErrAnd result (λ own. own ≡ fault) → result ≡ Err why → fault ≡ why
same_fault (Ok value) fault why from is = absurd from
same_fault (Err own) fault why from is = let own_is : own ≡ why = cc in sym from ∙ own_is

-- where the next frame's passphrase has no room, those of all frames have none
pub frame_full : (bytes left shown : List ℕ) (early late : List (List ℕ)) (start leaving : List ℕ) (body_len : ℕ)
    → shown ≡ left → Whole body_len ≡ front longest_body shown → Goes bytes left early late start leaving
    → is_over (redacted (front_body body_len left) late).passphrases ≡ true
    → is_over (redacted_all (split longest_body bytes).bodies early).passphrases ≡ true
frame_full bytes left shown early late start leaving body_len same whole goes over =
    let at : front longest_body left ≡ Whole body_len = subst (λ (l : List ℕ). front longest_body l ≡ Whole body_len) same (sym whole) in
    let behind = split longest_body (after_front body_len left) in
    let first = redacted (front_body body_len left) late in
    let cut : split longest_body left ≡ then_split (front_body body_len left ∷ []) behind = split-whole longest_body left body_len at in
    sym (ap is_over (sym (ap (λ (s : Split). (redacted_all s.bodies late).passphrases) cut) ∙ goes.passphrases))
    ∙ over_more first.passphrases (redacted_all behind.bodies first.passphrases).passphrases
    (all_more behind.bodies first.passphrases) over

pub frame_there : (left shown : List ℕ) (body_len : ℕ) → shown ≡ left → Whole body_len ≡ front longest_body shown → front longest_body left ≡ Whole body_len
frame_there left shown body_len same whole = subst (λ (l : List ℕ). front longest_body l ≡ Whole body_len) same (sym whole)

-- ---- the port as that leaves it

rest-bad : (at : Front) (port : Port) (frames : Redacted) (rest : List ℕ) → true ≡ ends_badly at
    → rest_taken at port frames rest ≡ record { port = record port { unrecorded = []; is_bad = true }; passphrases = frames.passphrases; bytes = frames.body ++ rest_bytes at rest }
rest-bad (Bad announced) port frames rest is = refl
rest-bad (Whole body_len) port frames rest is = absurd cc
rest-bad More port frames rest is = absurd cc

rest-good : (at : Front) (port : Port) (frames : Redacted) (rest : List ℕ) → false ≡ ends_badly at
    → rest_taken at port frames rest ≡ record { port = record port { unrecorded = rest }; passphrases = frames.passphrases; bytes = frames.body ++ rest_bytes at rest }
rest-good (Bad announced) port frames rest is = absurd cc
rest-good (Whole body_len) port frames rest is = ap (λ (l : List ℕ). let t : Taken = record { port = record port { unrecorded = rest }; passphrases = frames.passphrases; bytes = l } in t) (sym (append-nil frames.body))
rest-good More port frames rest is = ap (λ (l : List ℕ). let t : Taken = record { port = record port { unrecorded = rest }; passphrases = frames.passphrases; bytes = l } in t) (sym (append-nil frames.body))

rest-passphrases : (at : Front) (port : Port) (frames : Redacted) (rest : List ℕ)
    → (rest_taken at port frames rest).passphrases ≡ frames.passphrases
rest-passphrases (Bad announced) port frames rest = refl
rest-passphrases (Whole body_len) port frames rest = refl
rest-passphrases More port frames rest = refl

-- what a client's piece leaves, by how it ends
abbrev client : ℕ → List ℕ → Bool → Bool → Port
client number unrecorded is_held is_bad = record { number = number; door = Clients; unrecorded = unrecorded; is_held = is_held; is_bad = is_bad }

module _ (number : ℕ) (unrecorded piece : List ℕ) (is_held : Bool) (early : List (List ℕ)) where
  abbrev heard_cut : Split
  heard_cut = split longest_body (unrecorded ++ piece)

  pub client_bad : true ≡ ends_badly (front longest_body heard_cut.rest)
      → taken (client number unrecorded is_held false) piece early ≡ record {
        port = client number [] is_held true;
        passphrases = (redacted_all heard_cut.bodies early).passphrases;
        bytes = (redacted_all heard_cut.bodies early).body ++ rest_bytes (front longest_body heard_cut.rest) heard_cut.rest;
      }
  client_bad is = rest-bad (front longest_body heard_cut.rest) (client number unrecorded is_held false) (redacted_all heard_cut.bodies early) heard_cut.rest is

  pub client_good : false ≡ ends_badly (front longest_body heard_cut.rest)
      → taken (client number unrecorded is_held false) piece early ≡ record {
        port = client number heard_cut.rest is_held false;
        passphrases = (redacted_all heard_cut.bodies early).passphrases;
        bytes = (redacted_all heard_cut.bodies early).body ++ rest_bytes (front longest_body heard_cut.rest) heard_cut.rest;
      }
  client_good is = rest-good (front longest_body heard_cut.rest) (client number unrecorded is_held false) (redacted_all heard_cut.bodies early) heard_cut.rest is

  -- in either case these are the passphrases
  pub client_full : is_over (redacted_all heard_cut.bodies early).passphrases ≡ true
      → is_over (taken (client number unrecorded is_held false) piece early).passphrases ≡ true
  client_full over =
      ap is_over (rest-passphrases (front longest_body heard_cut.rest) (client number unrecorded is_held false) (redacted_all heard_cut.bodies early) heard_cut.rest) ∙ over
