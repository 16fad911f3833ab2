-- What is told of a client's bytes has at its front what stands at theirs.
use Rattle.std.proofs.Common.{◌≡◌, ℕ, ◌+◌, ◌<◌, ◌≤◌, List, [], ◌∷◌, ◌++◌, length, take, drop, map, refl, sym, ap, subst, ◌∙◌, arith, append_assoc, Bool, true, false, Result, Ok, Err}
use Rattle.std.specs.Prelude.{◌⊎◌}
use Rattle.std.proofs.lemmas.List.{append-nil, drop_at, length-take-le, map-append, take_at}
use Rattle.std.proofs.lemmas.List.Elements.{All-drop, All-take}
use Rattle.wire_text.specs.Bounds.{longest_body}
use Rattle.wire_text.specs.Frames.{Bad, Front, More, Split, Whole, after_front, frames, front, front_body, split, then_split}
use Rattle.wire_text.specs.Wire.{IsBytes, announced_len, string}
use Rattle.wire_text.proofs.FrontLemmas.{IsBody-front_body, front-bad, front-short, front-string, front_says}
use Rattle.wire_text.proofs.SplitLemmas.{frames-append, split-bad, split-more, split-whole}
use Rattle.wire_text.proofs.WireLemmas.{announced_len-take, drop-string, length-string}
use Rattle.agent_msg.specs.Reading.{request_of}
use Rattle.agent_msg.specs.Requests.{ClientRequest, ListIdentities, Sign, Add, Remove, RemoveAll, Lock, Unlock, Bind, OtherExtension, Unsupported, names_bind}
use Rattle.agent_msg.specs.declared.fault.MsgFault.{MsgFault}
use Rattle.redact_core.specs.Redaction.{holds_secrets, unread}
use Rattle.record_world.specs.Frames.{rest_bytes}
use Rattle.replay_laws.specs.Redacting.{IsRenaming, renamed, renamed_as}
use Rattle.replay_laws.specs.Telling.{AreShort, IsShort, told_bytes, told_split}
use Rattle.replay_laws.proofs.LookLemmas.{AreToldFronts, both_bad, both_more, both_whole}
use Rattle.replay_laws.proofs.ReadLemmas.{Reads, renamed_names, renamed_reads}

module _ (rename : List ℕ → List ℕ) where
  -- ---- a body that is told has a first byte

  unread_some : (secret : Bool) (number : ℕ) (bytes : List ℕ)
      → 0 < length (unread secret number bytes)
  unread_some true number bytes = omega arith
  unread_some false number bytes = omega arith

  some_by : (read : Result ClientRequest MsgFault) (number : ℕ) (bytes : List ℕ)
      → 0 < length (renamed_as rename read number bytes)
  some_by (Ok ListIdentities) number bytes = omega arith
  some_by (Ok (Sign signing)) number bytes = omega arith
  some_by (Ok (Add addition)) number bytes = omega arith
  some_by (Ok (Remove blob)) number bytes = omega arith
  some_by (Ok RemoveAll) number bytes = omega arith
  some_by (Ok (Lock passphrase)) number bytes = omega arith
  some_by (Ok (Unlock passphrase)) number bytes = omega arith
  some_by (Ok (Bind bind)) number bytes = omega arith
  some_by (Ok (OtherExtension name)) number bytes = omega arith
  some_by (Ok (Unsupported other)) number bytes = omega arith
  some_by (Err what) number bytes = unread_some (holds_secrets number) number bytes

  renamed_some : (body : List ℕ) → 0 < length body → 0 < length (renamed rename body)
  renamed_some [] some = absurd (omega (arith, some))
  renamed_some (number ∷ bytes) some = some_by (request_of (number ∷ bytes)) number bytes

  body_reads : (body : List ℕ) → 0 < length body → IsBytes body
      → length (renamed rename body) ≤ longest_body
      → Reads rename body (renamed rename body)
  body_reads [] some each short = absurd (omega (arith, some))
  body_reads (number ∷ bytes) some each short = renamed_reads rename number bytes each short

  body_names : (body : List ℕ) → 0 < length body → IsBytes body
      → names_bind (renamed rename body) ≡ names_bind body
  body_names [] some each = absurd (omega (arith, some))
  body_names (number ∷ bytes) some each = renamed_names rename number bytes each

  -- ---- bodies, and then a split

  pub told-then : (bodies : List (List ℕ)) (cut : Split)
      → told_split rename (then_split bodies cut) ≡ frames (map (renamed rename) bodies) ++ told_split rename cut
  told-then bodies cut =
      let rest = rest_bytes (front longest_body cut.rest) cut.rest in
      ap (λ (all : List (List ℕ)). frames all ++ rest) (map-append (renamed rename) bodies cut.bodies)
      ∙ ap (λ (l : List ℕ). l ++ rest) (frames-append (map (renamed rename) bodies) (map (renamed rename) cut.bodies))
      ∙ append_assoc (frames (map (renamed rename) bodies)) (frames (map (renamed rename) cut.bodies)) rest

  -- ---- fronts

  module _ (renaming : IsRenaming rename) where
    abbrev Fronts : List ℕ → Front → Front → Type 0
    Fronts bytes one other = AreToldFronts rename renaming (told_bytes rename) bytes one other

    told_whole : (bytes : List ℕ) (body_len : ℕ) → front longest_body bytes ≡ Whole body_len
        → told_bytes rename bytes
        ≡ string (renamed rename (front_body body_len bytes)) ++ told_bytes rename (after_front body_len bytes)
    told_whole bytes body_len is =
        let told = renamed rename (front_body body_len bytes) in
        ap (told_split rename) (split-whole longest_body bytes body_len is)
        ∙ told-then (front_body body_len bytes ∷ []) (split longest_body (after_front body_len bytes))
        ∙ ap (λ (l : List ℕ). l ++ told_bytes rename (after_front body_len bytes)) (append-nil (string told))

    -- a frame of what is told is whole, and its body stands in front
    told_frame : (bytes body later : List ℕ) (body_len : ℕ) → bytes ≡ string body ++ later
        → length body ≤ longest_body → 0 < length body
        → (front longest_body bytes ≡ Whole (length body)) × (front_body (length body) bytes ≡ body)
        × (after_front (length body) bytes ≡ later)
    told_frame bytes body later body_len is short some = (
      ap (front longest_body) is
          ∙ front-string longest_body body later (omega arith) (record { some = some; within = short }),
      ap (front_body (length body)) is ∙ ap (take (length body)) (drop-string body later)
          ∙ take_at body later (length body) refl,
      ap (after_front (length body)) is ∙ drop_at (string body) later (4 + length body) (length-string body),
    )

    whole_fronts : (bytes : List ℕ) (body_len : ℕ) → front longest_body bytes ≡ Whole body_len
        → IsBytes bytes
        → length (renamed rename (front_body body_len bytes)) ≤ longest_body
        → Fronts bytes (Whole body_len) (front longest_body (told_bytes rename bytes))
    whole_fronts bytes body_len is each short =
        let body = front_body body_len bytes in
        let told = renamed rename body in
        let small : IsBytes body =
        All-take (λ byte. byte < 256) body_len (drop 4 bytes) (All-drop (λ byte. byte < 256) 4 bytes each) in
        let some : 0 < length body = (IsBody-front_body longest_body bytes body_len is).some in
        let frame =
        told_frame (told_bytes rename bytes) told (told_bytes rename (after_front body_len bytes)) body_len
        (told_whole bytes body_len is) short (renamed_some body some) in
        subst (Fronts bytes (Whole body_len)) (sym frame.0)
        (both_whole body_len (length told)
        (subst (Reads rename body) (sym frame.1) (body_reads body some small short))
        (ap names_bind frame.1 ∙ body_names body some small)
        frame.2)

    bad_fronts : (bytes : List ℕ) (announced : ℕ) → front longest_body bytes ≡ Bad announced
        → Fronts bytes (Bad announced) (front longest_body (told_bytes rename bytes))
    bad_fronts bytes announced is =
        let says = front_says longest_body bytes (Bad announced) is in
        let header : 4 ≤ length bytes = says.0.header in
        let told : told_bytes rename bytes ≡ take 4 bytes =
        ap (told_split rename) (split-bad longest_body bytes announced is)
        ∙ ap (λ (f : Front). rest_bytes f bytes) is in
        let same : announced_len (take 4 bytes) ≡ announced_len bytes = announced_len-take bytes header in
        let bad : front longest_body (take 4 bytes) ≡ Bad (announced_len (take 4 bytes)) = front-bad longest_body (take 4 bytes) (record {
          header = omega (arith, length-take-le 4 bytes header);
          refused = subst (λ (n : ℕ). (n ≡ 0) ⊎ (longest_body < n)) (sym same) says.0.refused;
        }) in
        subst (Fronts bytes (Bad announced)) (sym (ap (front longest_body) told ∙ bad))
        (both_bad announced (announced_len (take 4 bytes)))

    more_fronts : (bytes : List ℕ) → front longest_body bytes ≡ More
        → Fronts bytes More (front longest_body (told_bytes rename bytes))
    more_fronts bytes is =
        let told : told_bytes rename bytes ≡ [] =
        ap (told_split rename) (split-more longest_body bytes is) ∙ ap (λ (f : Front). rest_bytes f bytes) is in
        subst (Fronts bytes More)
        (sym (ap (front longest_body) told ∙ front-short longest_body [] (omega arith))) both_more

    first_short : (bytes : List ℕ) (body_len : ℕ) → front longest_body bytes ≡ Whole body_len
        → IsShort rename bytes
        → length (renamed rename (front_body body_len bytes)) ≤ longest_body
    first_short bytes body_len is short =
        (subst (λ (cut : Split). AreShort rename cut.bodies) (split-whole longest_body bytes body_len is) short).0

    fronts_by : (bytes : List ℕ) (one : Front) → front longest_body bytes ≡ one → IsBytes bytes
        → IsShort rename bytes
        → Fronts bytes one (front longest_body (told_bytes rename bytes))
    fronts_by bytes (Whole body_len) is each short =
        whole_fronts bytes body_len is each (first_short bytes body_len is short)
    fronts_by bytes (Bad announced) is each short = bad_fronts bytes announced is
    fronts_by bytes More is each short = more_fronts bytes is

    pub told_fronts : (bytes : List ℕ) → IsBytes bytes → IsShort rename bytes
        → Fronts bytes (front longest_body bytes) (front longest_body (told_bytes rename bytes))
    told_fronts bytes each short = fronts_by bytes (front longest_body bytes) refl each short

  -- nothing is told of nothing
  pub told-nothing : told_bytes rename [] ≡ []
  told-nothing =
      let more : front longest_body [] ≡ More = front-short longest_body [] (omega arith) in
      ap (told_split rename) (split-more longest_body [] more) ∙ ap (λ (f : Front). rest_bytes f []) more
