-- What a recorder tells of a piece is what is told of the client's bytes with it, behind what was told of them before.
use Rattle.std.proofs.Common.{◌≡◌, ℕ, ◌≤◌, List, [], ◌∷◌, ◌++◌, length, take, map, refl, sym, ap, subst, ◌∙◌, append_assoc, append-nil, Bool, true, false, if◌then◌else◌, Option, Some, None, Result, Ok, Err}
use Rattle.std.specs.Prelude.{is_some}
use Rattle.std.specs.List.{position}
use Rattle.std.specs.Str.{bytes_eq}
use Rattle.std.proofs.lemmas.List.{take-append-le}
use Rattle.world_ports.specs.declared.Door.{Door}
use Rattle.world_ports.specs.declared.Door.TheVariants.{Clients, Children}
use Rattle.wire_text.specs.Bounds.{longest_body}
use Rattle.wire_text.specs.Frames.{Bad, Front, More, Split, Whole, frames, front, split, unsplit}
use Rattle.wire_text.specs.Wire.{string}
use Rattle.wire_text.proofs.FrontLemmas.{front_says, front-append_bad}
use Rattle.wire_text.proofs.SplitLemmas.{split-append, split-append_bad}
use Rattle.agent_msg.specs.Reading.{request_of}
use Rattle.agent_msg.specs.Requests.{ClientRequest, ListIdentities, Sign, Add, Remove, RemoveAll, Lock, Unlock, Bind, OtherExtension, Unsupported}
use Rattle.agent_msg.specs.declared.fault.MsgFault.{MsgFault}
use Rattle.redact_core.specs.Redaction.{Redacted, numbered, redacted, redacted_all, redacted_as}
use Rattle.record_world.specs.Frames.{ends_badly, rest_bytes}
use Rattle.record_world.specs.Recording.{Port, Taken, client_taken, rest_taken, taken, taken_by}
use Rattle.replay_laws.specs.Naming.{IsFrontOf, Keeps, kept_of, name_in}
use Rattle.replay_laws.specs.Redacting.{renamed, renamed_as}
use Rattle.replay_laws.specs.Telling.{told_bytes, told_split}
use Rattle.replay_laws.proofs.NameLemmas.{number_is_name}
use Rattle.replay_laws.proofs.TellLemmas.{told-then}

-- ---- passphrases are noted one behind the other

pub front_same : (early : List (List ℕ)) → IsFrontOf early early
front_same early = record { later = []; whole = sym (append-nil early) }

pub front_then : (a b c : List (List ℕ)) → IsFrontOf a b → IsFrontOf b c → IsFrontOf a c
front_then a b c first second = record {
  later = first.later ++ second.later;
  whole = second.whole ∙ ap (λ l. l ++ second.later) first.whole ∙ append_assoc a first.later second.later;
}

noted_grows : (place : Option ℕ) (passphrase : List ℕ) (early : List (List ℕ))
    → IsFrontOf early (if is_some place then early else early ++ passphrase ∷ [])
noted_grows (Some place) passphrase early = front_same early
noted_grows None passphrase early = record { later = passphrase ∷ []; whole = refl }

numbered_grows : (number : ℕ) (passphrase : List ℕ) (early : List (List ℕ))
    → IsFrontOf early (numbered number passphrase early).passphrases
numbered_grows number [] early = front_same early
numbered_grows number (byte ∷ bytes) early =
    noted_grows (position (bytes_eq (byte ∷ bytes)) early) (byte ∷ bytes) early

grows_by : (read : Result ClientRequest MsgFault) (number : ℕ) (bytes : List ℕ) (early : List (List ℕ))
    → IsFrontOf early (redacted_as read number bytes early).passphrases
grows_by (Ok ListIdentities) number bytes early = front_same early
grows_by (Ok (Sign signing)) number bytes early = front_same early
grows_by (Ok (Add addition)) number bytes early = front_same early
grows_by (Ok (Remove blob)) number bytes early = front_same early
grows_by (Ok RemoveAll) number bytes early = front_same early
grows_by (Ok (Lock passphrase)) number bytes early = numbered_grows number passphrase early
grows_by (Ok (Unlock passphrase)) number bytes early = numbered_grows number passphrase early
grows_by (Ok (Bind bind)) number bytes early = front_same early
grows_by (Ok (OtherExtension name)) number bytes early = front_same early
grows_by (Ok (Unsupported other)) number bytes early = front_same early
grows_by (Err what) number bytes early = front_same early

redacted_grows : (body : List ℕ) (early : List (List ℕ))
    → IsFrontOf early (redacted body early).passphrases
redacted_grows [] early = front_same early
redacted_grows (number ∷ bytes) early = grows_by (request_of (number ∷ bytes)) number bytes early

pub all_grow : (bodies early : List (List ℕ))
    → IsFrontOf early (redacted_all bodies early).passphrases
all_grow [] early = front_same early
all_grow (body ∷ bodies) early =
    front_then early (redacted body early).passphrases (redacted_all (body ∷ bodies) early).passphrases
    (redacted_grows body early) (all_grow bodies (redacted body early).passphrases)

-- ---- a body is told by the names of the whole run

numbered_body : (number : ℕ) (passphrase : List ℕ) (early all : List (List ℕ))
    → IsFrontOf (numbered number passphrase early).passphrases all
    → (numbered number passphrase early).body ≡ number ∷ string (name_in all passphrase)
numbered_body number [] early all front = refl
numbered_body number (byte ∷ bytes) early all front =
    ap (λ name. number ∷ string name) (number_is_name byte bytes early all front)

body_by : (read : Result ClientRequest MsgFault) (number : ℕ) (bytes : List ℕ) (early all : List (List ℕ))
    → IsFrontOf (redacted_as read number bytes early).passphrases all
    → (redacted_as read number bytes early).body ≡ renamed_as (name_in all) read number bytes
body_by (Ok ListIdentities) number bytes early all front = refl
body_by (Ok (Sign signing)) number bytes early all front = refl
body_by (Ok (Add addition)) number bytes early all front = refl
body_by (Ok (Remove blob)) number bytes early all front = refl
body_by (Ok RemoveAll) number bytes early all front = refl
body_by (Ok (Lock passphrase)) number bytes early all front =
    numbered_body number passphrase early all front
body_by (Ok (Unlock passphrase)) number bytes early all front =
    numbered_body number passphrase early all front
body_by (Ok (Bind bind)) number bytes early all front = refl
body_by (Ok (OtherExtension name)) number bytes early all front = refl
body_by (Ok (Unsupported other)) number bytes early all front = refl
body_by (Err what) number bytes early all front = refl

pub redacted_body : (body : List ℕ) (early all : List (List ℕ))
    → IsFrontOf (redacted body early).passphrases all
    → (redacted body early).body ≡ renamed (name_in all) body
redacted_body [] early all front = refl
redacted_body (number ∷ bytes) early all front =
    body_by (request_of (number ∷ bytes)) number bytes early all front

all_bodies : (bodies early all : List (List ℕ))
    → IsFrontOf (redacted_all bodies early).passphrases all
    → (redacted_all bodies early).body ≡ frames (map (renamed (name_in all)) bodies)
all_bodies [] early all front = refl
all_bodies (body ∷ bodies) early all front =
    let first = redacted body early in
    ap (λ told. string told ++ (redacted_all bodies first.passphrases).body)
    (redacted_body body early all (front_then first.passphrases (redacted_all bodies first.passphrases).passphrases all (all_grow bodies first.passphrases) front))
    ∙ ap (λ told. string (renamed (name_in all) body) ++ told) (all_bodies bodies first.passphrases all front)

-- ---- a piece

-- what was told before, and then this of what was kept and the piece
behind_told : (rename : List ℕ → List ℕ) (heard piece : List ℕ)
    → ends_badly (front longest_body (split longest_body heard).rest) ≡ false
    → told_bytes rename (heard ++ piece)
    ≡ told_bytes rename heard ++ told_split rename (split longest_body ((split longest_body heard).rest ++ piece))
behind_told rename heard piece fine =
    let cut = split longest_body heard in
    let first = frames (map (renamed rename) cut.bodies) in
    let none : rest_bytes (front longest_body cut.rest) cut.rest ≡ [] = by_front (front longest_body cut.rest) fine in
    ap (told_split rename) (split-append longest_body heard piece)
    ∙ told-then rename cut.bodies (split longest_body (cut.rest ++ piece))
    ∙ ap (λ l. l ++ told_split rename (split longest_body (cut.rest ++ piece)))
    (sym (append-nil first) ∙ ap (λ l. first ++ l) (sym none))
  where
    by_front : (what : Front) → ends_badly what ≡ false
        → rest_bytes what (split longest_body heard).rest ≡ []
    by_front (Whole body_len) is = refl
    by_front (Bad announced) is = absurd (cc)
    by_front More is = refl

pub bad_starts : (rest : List ℕ) (what : Front) → front longest_body rest ≡ what
    → ends_badly what ≡ true
    → (announced : ℕ) × (front longest_body rest ≡ Bad announced)
bad_starts rest (Whole body_len) is bad = absurd (cc)
bad_starts rest (Bad announced) is bad = (announced, is)
bad_starts rest More is bad = absurd (cc)

-- behind a bad length nothing more is told
pub bad_told : (rename : List ℕ → List ℕ) (heard piece : List ℕ)
    → ends_badly (front longest_body (split longest_body heard).rest) ≡ true
    → told_bytes rename (heard ++ piece) ≡ told_bytes rename heard
bad_told rename heard piece bad =
    let cut = split longest_body heard in
    let first = frames (map (renamed rename) cut.bodies) in
    let found = bad_starts cut.rest (front longest_body cut.rest) refl bad in
    let says = front_says longest_body cut.rest (Bad found.0) found.1 in
    let header : 4 ≤ length cut.rest = says.0.header in
    ap (told_split rename) (split-append_bad longest_body heard piece says.0)
    ∙ told-then rename cut.bodies (unsplit (cut.rest ++ piece))
    ∙ ap (λ (f : Front). first ++ rest_bytes f (cut.rest ++ piece))
    (front-append_bad longest_body cut.rest piece found.0 found.1)
    ∙ ap (λ (l : List ℕ). first ++ l) (take-append-le 4 cut.rest piece header)
    ∙ sym (ap (λ (f : Front). first ++ rest_bytes f cut.rest) found.1)

bad_rest : (heard piece : List ℕ)
    → ends_badly (front longest_body (split longest_body heard).rest) ≡ true
    → ends_badly (front longest_body (split longest_body (heard ++ piece)).rest) ≡ true
bad_rest heard piece bad =
    let cut = split longest_body heard in
    let found = bad_starts cut.rest (front longest_body cut.rest) refl bad in
    let says = front_says longest_body cut.rest (Bad found.0) found.1 in
    ap (λ (s : Split). ends_badly (front longest_body s.rest)) (split-append_bad longest_body heard piece says.0)
    ∙ ap ends_badly (front-append_bad longest_body cut.rest piece found.0 found.1)

module _ (all : List (List ℕ)) where
  abbrev told : List ℕ → List ℕ
  told bytes = told_bytes (name_in all) bytes

  -- what leaves a port is what is told
  leaves_by : (what : Front) (port : Port) (got : Redacted) (cut : Split)
      → got.body ≡ frames (map (renamed (name_in all)) cut.bodies) → front longest_body cut.rest ≡ what
      → (rest_taken what port got cut.rest).bytes ≡ told_split (name_in all) cut
  leaves_by (Whole body_len) port got cut is at =
      sym (append-nil got.body) ∙ ap (λ l. l ++ []) is
      ∙ sym (ap (λ (f : Front). frames (map (renamed (name_in all)) cut.bodies) ++ rest_bytes f cut.rest) at)
  leaves_by (Bad announced) port got cut is at =
      ap (λ l. l ++ take 4 cut.rest) is
      ∙ sym (ap (λ (f : Front). frames (map (renamed (name_in all)) cut.bodies) ++ rest_bytes f cut.rest) at)
  leaves_by More port got cut is at =
      sym (append-nil got.body) ∙ ap (λ l. l ++ []) is
      ∙ sym (ap (λ (f : Front). frames (map (renamed (name_in all)) cut.bodies) ++ rest_bytes f cut.rest) at)

  passphrases_by : (what : Front) (port : Port) (got : Redacted) (rest : List ℕ)
      → (rest_taken what port got rest).passphrases ≡ got.passphrases
  passphrases_by (Whole body_len) port got rest = refl
  passphrases_by (Bad announced) port got rest = refl
  passphrases_by More port got rest = refl

  -- what leaves a client's port where its bytes have this split into frames and a rest
  abbrev split_taken : Split → Port → List (List ℕ) → Taken
  split_taken cut port early =
      rest_taken (front longest_body cut.rest) port (redacted_all cut.bodies early) cut.rest

  pub passphrases_of : (cut : Split) (port : Port) (early : List (List ℕ))
      → (split_taken cut port early).passphrases ≡ (redacted_all cut.bodies early).passphrases
  passphrases_of cut port early =
      passphrases_by (front longest_body cut.rest) port (redacted_all cut.bodies early) cut.rest

  leaves : (cut : Split) (port : Port) (early : List (List ℕ))
      → IsFrontOf (split_taken cut port early).passphrases all
      → (split_taken cut port early).bytes ≡ told_split (name_in all) cut
  leaves cut port early front_is =
      let got = redacted_all cut.bodies early in
      let at = front longest_body cut.rest in
      leaves_by at port got cut
      (all_bodies cut.bodies early all (subst (λ ps. IsFrontOf ps all) (passphrases_by at port got cut.rest) front_is)) refl

  client_told : (is_bad : Bool) (heard piece : List ℕ) (port : Port) (early : List (List ℕ))
      → port.is_bad ≡ is_bad
      → Keeps heard port → IsFrontOf (client_taken is_bad port piece early).passphrases all
      → told (heard ++ piece) ≡ told heard ++ (client_taken is_bad port piece early).bytes
  client_told true heard piece port early is keeps front_is =
      bad_told (name_in all) heard piece (sym keeps.bad ∙ is) ∙ sym (append-nil (told heard))
  client_told false heard piece port early is keeps front_is =
      let kept : port.unrecorded ≡ (split longest_body heard).rest =
      keeps.unrecorded ∙ ap (λ b. kept_of b (split longest_body heard).rest) is in
      behind_told (name_in all) heard piece (sym keeps.bad ∙ is)
      ∙ ap (λ l. told heard ++ l)
      (ap (λ rest. told_split (name_in all) (split longest_body (rest ++ piece))) (sym kept)
      ∙ sym (leaves (split longest_body (port.unrecorded ++ piece)) port early front_is))

  taken_told_by : (door : Door) (heard piece : List ℕ) (port : Port) (early : List (List ℕ))
      → door ≡ Clients
      → Keeps heard port → IsFrontOf (taken_by door port piece early).passphrases all
      → told (heard ++ piece) ≡ told heard ++ (taken_by door port piece early).bytes
  taken_told_by Clients heard piece port early is keeps front_is =
      client_told port.is_bad heard piece port early refl keeps front_is
  taken_told_by Children heard piece port early is keeps front_is = absurd (cc)

  pub taken_told : (heard piece : List ℕ) (port : Port) (early : List (List ℕ)) → Keeps heard port
      → IsFrontOf (taken port piece early).passphrases all
      → told (heard ++ piece) ≡ told heard ++ (taken port piece early).bytes
  taken_told heard piece port early keeps front_is =
      taken_told_by port.door heard piece port early keeps.door keeps front_is

-- ---- what is kept then

kept_by : (what : Front) (heard : List ℕ) (port : Port) (got : Redacted) (rest : List ℕ)
    → port.door ≡ Clients
    → port.is_bad ≡ false → (split longest_body heard).rest ≡ rest → front longest_body rest ≡ what
    → Keeps heard (rest_taken what port got rest).port
kept_by (Whole body_len) heard port got rest door fine is at = record { door = door; bad = fine ∙ sym (ap (λ r. ends_badly (front longest_body r)) is ∙ ap ends_badly at); unrecorded = sym is ∙ ap (λ b. kept_of b (split longest_body heard).rest) (sym fine) }
kept_by (Bad announced) heard port got rest door fine is at = record { door = door; bad = sym (ap (λ r. ends_badly (front longest_body r)) is ∙ ap ends_badly at); unrecorded = refl }
kept_by More heard port got rest door fine is at = record { door = door; bad = fine ∙ sym (ap (λ r. ends_badly (front longest_body r)) is ∙ ap ends_badly at); unrecorded = sym is ∙ ap (λ b. kept_of b (split longest_body heard).rest) (sym fine) }

client_keeps : (is_bad : Bool) (heard piece : List ℕ) (port : Port) (early : List (List ℕ))
    → port.is_bad ≡ is_bad
    → Keeps heard port → Keeps (heard ++ piece) (client_taken is_bad port piece early).port
client_keeps true heard piece port early is keeps = record {
  door = keeps.door;
  bad = is ∙ sym (bad_rest heard piece (sym keeps.bad ∙ is));
  unrecorded =
      keeps.unrecorded ∙ ap (λ b. kept_of b (split longest_body heard).rest) is
      ∙ sym (ap (λ b. kept_of b (split longest_body (heard ++ piece)).rest) is);
}
client_keeps false heard piece port early is keeps =
    let kept : port.unrecorded ≡ (split longest_body heard).rest =
    keeps.unrecorded ∙ ap (λ b. kept_of b (split longest_body heard).rest) is in
    let cut = split longest_body (port.unrecorded ++ piece) in
    kept_by (front longest_body cut.rest) (heard ++ piece) port (redacted_all cut.bodies early) cut.rest keeps.door is
    (ap (λ (s : Split). s.rest) (split-append longest_body heard piece) ∙ ap (λ r. (split longest_body (r ++ piece)).rest) (sym kept)) refl

keeps_by : (door : Door) (heard piece : List ℕ) (port : Port) (early : List (List ℕ))
    → door ≡ Clients
    → Keeps heard port → Keeps (heard ++ piece) (taken_by door port piece early).port
keeps_by Clients heard piece port early is keeps =
    client_keeps port.is_bad heard piece port early refl keeps
keeps_by Children heard piece port early is keeps = absurd (cc)

pub taken_keeps : (heard piece : List ℕ) (port : Port) (early : List (List ℕ)) → Keeps heard port
    → Keeps (heard ++ piece) (taken port piece early).port
taken_keeps heard piece port early keeps =
    keeps_by port.door heard piece port early keeps.door keeps
