-- What is told of a body that a reader takes is no longer than one.
use Rattle.std.proofs.Common.{◌≡◌, ℕ, zero, suc, ◌+◌, ◌<◌, ◌≤◌, ◌^◌, List, [], ◌∷◌, ◌++◌, length, drop, refl, sym, ap, subst, ◌∙◌, arith, inl, inr, Bool, true, false, Result, Ok, Err}
use Rattle.std.specs.Prelude.{◌⊎◌}
use Rattle.std.proofs.lemmas.List.{length-append, length-drop}
use Rattle.std.proofs.lemmas.List.Elements.{All-append, All-drop, All-take}
use Rattle.world_ports.specs.declared.Door.{Door}
use Rattle.world_ports.specs.declared.Door.TheVariants.{Clients, Children}
use Rattle.wire_text.specs.Bounds.{longest_body}
use Rattle.wire_text.specs.Frames.{Bad, Front, More, Split, Whole, after_front, front, front_body, split, then_split}
use Rattle.wire_text.specs.Wire.{IsBytes, string}
use Rattle.wire_text.proofs.FrontLemmas.{IsBody-front_body, front_says}
use Rattle.wire_text.proofs.SplitLemmas.{length-after_front, split-append, split-append_bad, split-bad, split-more, split-whole}
use Rattle.wire_text.proofs.WireLemmas.{length-string}
use Rattle.key_blob.specs.AddedKeys.{IsAddedKey}
use Rattle.agent_msg.specs.Reading.{request_of}
use Rattle.agent_msg.specs.Requests.{Addition, ClientRequest, IsConstrainedAddition, IsPlainAddition, ListIdentities, Sign, Add, Remove, RemoveAll, Lock, Unlock, Bind, OtherExtension, Unsupported}
use Rattle.agent_msg.specs.declared.fault.MsgFault.{MsgFault}
use Rattle.agent_msg.proofs.FoundLemmas.{request_is_found}
use Rattle.redact_core.specs.Redaction.{holds_secrets, numbered, redacted, redacted_all, redacted_as, unread, without_secrets}
use Rattle.redact_core.proofs.BlankLemmas.{each_stays}
use Rattle.record_world.specs.Recording.{Port, client_taken, taken, taken_by}
use Rattle.replay_laws.specs.Naming.{IsFrontOf, Keeps, kept_of, name_in}
use Rattle.replay_laws.specs.Redacting.{renamed, renamed_as}
use Rattle.replay_laws.specs.Telling.{AreShort, IsShort}
use Rattle.replay_laws.proofs.KeepLemmas.{all_grow, bad_starts, front_then, passphrases_of}
use Rattle.replay_laws.proofs.NameLemmas.{number_is_name, number_is_short}

module _ (all : List (List ℕ)) (few : length all < 2 ^ 64) where
  -- ---- a body

  kept_length : (number code : ℕ) (bytes rest : List ℕ) (addition : Addition)
      → IsAddedKey addition.key
      → number ∷ bytes ≡ code ∷ (addition.key.private ++ rest) → length (number ∷ bytes) ≤ longest_body
      → length (number ∷ (without_secrets addition.key.private ++ drop (length addition.key.private) bytes)) ≤ longest_body
  kept_length number code bytes rest addition is printed within =
      let key = addition.key.private in
      let behind : bytes ≡ key ++ rest = cc in
      omega (
        arith,
        within,
        length-append (without_secrets key) (drop (length key) bytes),
        length-drop (length key) bytes,
        (each_stays addition.key is).length_is,
        ap length behind,
        length-append key rest,
      )

  added_length : (number : ℕ) (bytes : List ℕ) (addition : Addition)
      → IsPlainAddition (number ∷ bytes) addition ⊎ IsConstrainedAddition (number ∷ bytes) addition
      → length (number ∷ bytes) ≤ longest_body
      → length (number ∷ (without_secrets addition.key.private ++ drop (length addition.key.private) bytes)) ≤ longest_body
  added_length number bytes addition (inl plain) within =
      kept_length number 17 bytes (string addition.comment) addition plain.key plain.printed within
  added_length number bytes addition (inr bound) within =
      kept_length number 25 bytes (string addition.comment ++ bound.constraints) addition bound.key bound.printed within

  name_length : (passphrase : List ℕ) (number : ℕ) (early : List (List ℕ))
      → IsFrontOf (numbered number passphrase early).passphrases all → length (name_in all passphrase) ≤ 20
  name_length [] number early front = omega arith
  name_length (byte ∷ bytes) number early front =
      omega
      (arith, number_is_short byte bytes early all few front, ap length (number_is_name byte bytes early all front))

  named_length : (passphrase : List ℕ) (number : ℕ) (early : List (List ℕ))
      → IsFrontOf (numbered number passphrase early).passphrases all
      → length (number ∷ string (name_in all passphrase)) ≤ longest_body
  named_length passphrase number early front =
      omega (arith, name_length passphrase number early front, length-string (name_in all passphrase))

  unread_length : (secret : Bool) (number : ℕ) (bytes : List ℕ)
      → length (number ∷ bytes) ≤ longest_body
      → length (unread secret number bytes) ≤ longest_body
  unread_length true number bytes within = omega arith
  unread_length false number bytes within = within

  length_by : (read : Result ClientRequest MsgFault) (number : ℕ) (bytes : List ℕ) (early : List (List ℕ))
      → request_of (number ∷ bytes) ≡ read → IsBytes (number ∷ bytes) → length (number ∷ bytes) ≤ longest_body
      → IsFrontOf (redacted_as read number bytes early).passphrases all
      → length (renamed_as (name_in all) read number bytes) ≤ longest_body
  length_by (Ok ListIdentities) number bytes early is each within front = within
  length_by (Ok (Sign signing)) number bytes early is each within front = within
  length_by (Ok (Add addition)) number bytes early is each within front =
      added_length number bytes addition (request_is_found (number ∷ bytes) (Add addition) each is) within
  length_by (Ok (Remove blob)) number bytes early is each within front = within
  length_by (Ok RemoveAll) number bytes early is each within front = within
  length_by (Ok (Lock passphrase)) number bytes early is each within front =
      named_length passphrase number early front
  length_by (Ok (Unlock passphrase)) number bytes early is each within front =
      named_length passphrase number early front
  length_by (Ok (Bind bind)) number bytes early is each within front = within
  length_by (Ok (OtherExtension name)) number bytes early is each within front = within
  length_by (Ok (Unsupported other)) number bytes early is each within front = omega arith
  length_by (Err what) number bytes early is each within front =
      unread_length (holds_secrets number) number bytes within

  body_length : (body : List ℕ) (early : List (List ℕ)) → IsBytes body → length body ≤ longest_body
      → IsFrontOf (redacted body early).passphrases all → length (renamed (name_in all) body) ≤ longest_body
  body_length [] early each within front = omega arith
  body_length (number ∷ bytes) early each within front =
      length_by (request_of (number ∷ bytes)) number bytes early refl each within front

  -- ---- the bodies of a stream

  small_body : (bytes : List ℕ) (body_len : ℕ) → IsBytes bytes → IsBytes (front_body body_len bytes)
  small_body bytes body_len each =
      All-take (λ byte. byte < 256) body_len (drop 4 bytes) (All-drop (λ byte. byte < 256) 4 bytes each)

  small_after : (bytes : List ℕ) (body_len : ℕ) → IsBytes bytes
      → IsBytes (after_front body_len bytes)
  small_after bytes body_len each = All-drop (λ byte. byte < 256) (4 + body_len) bytes each

  -- these bodies are short, and the rest is of bytes
  record IsTakenWell (cut : Split) : Type 0 where
    short : AreShort (name_in all) cut.bodies
    rest : IsBytes cut.rest

  well_by : (count : ℕ) (bytes : List ℕ) (early : List (List ℕ)) (at : Front)
      → front longest_body bytes ≡ at
      → length bytes ≤ suc count → IsBytes bytes
      → IsFrontOf (redacted_all (split longest_body bytes).bodies early).passphrases all
      → ((later : List ℕ) (past : List (List ℕ)) → length later ≤ count → IsBytes later → IsFrontOf (redacted_all (split longest_body later).bodies past).passphrases all → IsTakenWell (split longest_body later))
      → IsTakenWell (split longest_body bytes)
  well_by count bytes early (Whole body_len) is few each grown later =
      let body = front_body body_len bytes in
      let behind = split longest_body (after_front body_len bytes) in
      let cut : split longest_body bytes ≡ then_split (body ∷ []) behind = split-whole longest_body bytes body_len is in
      let first = redacted body early in
      let grown_all : IsFrontOf (redacted_all behind.bodies first.passphrases).passphrases all =
      subst (λ (s : Split). IsFrontOf (redacted_all s.bodies early).passphrases all) cut grown in
      let after =
      later (after_front body_len bytes) first.passphrases
      (omega (arith, few, length-after_front longest_body bytes body_len is))
      (small_after bytes body_len each) grown_all in
      subst IsTakenWell (sym cut) record {
        short = (
          body_length body early (small_body bytes body_len each)
              (IsBody-front_body longest_body bytes body_len is).within
              (front_then first.passphrases (redacted_all behind.bodies first.passphrases).passphrases all (all_grow behind.bodies first.passphrases) grown_all),
          after.short,
        );
        rest = after.rest;
      }
  well_by count bytes early (Bad announced) is few each grown later =
      subst IsTakenWell (sym (split-bad longest_body bytes announced is)) record { short = tt; rest = each }
  well_by count bytes early More is few each grown later =
      subst IsTakenWell (sym (split-more longest_body bytes is)) record { short = tt; rest = each }

  nothing_by : (bytes : List ℕ) (at : Front) → front longest_body bytes ≡ at → length bytes ≤ 0
      → IsBytes bytes
      → IsTakenWell (split longest_body bytes)
  nothing_by bytes (Whole body_len) is none each =
      absurd (let within = (front_says longest_body bytes (Whole body_len) is).0.header in omega (arith, none, within))
  nothing_by bytes (Bad announced) is none each =
      absurd (let within = (front_says longest_body bytes (Bad announced) is).0.header in omega (arith, none, within))
  nothing_by bytes More is none each =
      subst IsTakenWell (sym (split-more longest_body bytes is)) record { short = tt; rest = each }

  nothing : (bytes : List ℕ) → length bytes ≤ 0 → IsBytes bytes
      → IsTakenWell (split longest_body bytes)
  nothing bytes none each = nothing_by bytes (front longest_body bytes) refl none each

  well : (count : ℕ) (bytes : List ℕ) (early : List (List ℕ)) → length bytes ≤ count → IsBytes bytes
      → IsFrontOf (redacted_all (split longest_body bytes).bodies early).passphrases all
      → IsTakenWell (split longest_body bytes)
  well zero bytes early few each grown =
      well_by zero bytes early (front longest_body bytes) refl (omega (arith, few)) each grown
      (λ later past less small front. nothing later less small)
  well (suc count) bytes early few each grown =
      well_by count bytes early (front longest_body bytes) refl few each grown (well count)

  -- ---- a piece

  short_append : (one other : List (List ℕ)) → AreShort (name_in all) one
      → AreShort (name_in all) other
      → AreShort (name_in all) (one ++ other)
  short_append [] other first second = second
  short_append (body ∷ bodies) other first second =
      (first.0, short_append bodies other first.1 second)

  client_short : (is_bad : Bool) (heard piece : List ℕ) (port : Port) (early : List (List ℕ))
      → port.is_bad ≡ is_bad
      → Keeps heard port → IsBytes (split longest_body heard).rest → IsBytes piece → IsShort (name_in all) heard
      → IsFrontOf (client_taken is_bad port piece early).passphrases all → IsShort (name_in all) (heard ++ piece)
  client_short true heard piece port early is keeps rest small short grown =
      let cut = split longest_body heard in
      let found = bad_starts cut.rest (front longest_body cut.rest) refl (sym keeps.bad ∙ is) in
      let says = front_says longest_body cut.rest (Bad found.0) found.1 in
      subst (λ (s : Split). AreShort (name_in all) s.bodies) (sym (split-append_bad longest_body heard piece says.0))
      (short_append cut.bodies [] short tt)
  client_short false heard piece port early is keeps rest small short grown =
      let cut = split longest_body heard in
      let kept : port.unrecorded ≡ cut.rest = keeps.unrecorded ∙ ap (λ b. kept_of b cut.rest) is in
      let grown_all : IsFrontOf (redacted_all (split longest_body (cut.rest ++ piece)).bodies early).passphrases all =
      subst
      (λ (l : List ℕ). IsFrontOf (redacted_all (split longest_body (l ++ piece)).bodies early).passphrases all) kept
      (subst (λ ps. IsFrontOf ps all) (passphrases_of all (split longest_body (port.unrecorded ++ piece)) port early) grown) in
      let new =
      well (length (cut.rest ++ piece)) (cut.rest ++ piece) early (omega arith)
      (All-append (λ byte. byte < 256) cut.rest piece rest small) grown_all in
      subst (λ (s : Split). AreShort (name_in all) s.bodies) (sym (split-append longest_body heard piece))
      (short_append cut.bodies (split longest_body (cut.rest ++ piece)).bodies short new.short)

  rest_by : (bytes : List ℕ) (most : ℕ) (at : Front) → front longest_body bytes ≡ at
      → length bytes ≤ most
      → IsBytes bytes
      → ((later : List ℕ) → length later < most → IsBytes later → IsBytes (split longest_body later).rest)
      → IsBytes (split longest_body bytes).rest
  rest_by bytes most (Whole body_len) is less each later =
      subst (λ (s : Split). IsBytes s.rest) (sym (split-whole longest_body bytes body_len is))
      (later (after_front body_len bytes) (omega (arith, less, length-after_front longest_body bytes body_len is)) (small_after bytes body_len each))
  rest_by bytes most (Bad announced) is less each later =
      subst (λ (s : Split). IsBytes s.rest) (sym (split-bad longest_body bytes announced is)) each
  rest_by bytes most More is less each later =
      subst (λ (s : Split). IsBytes s.rest) (sym (split-more longest_body bytes is)) each

  rest_small : (count : ℕ) (bytes : List ℕ) → length bytes ≤ count → IsBytes bytes
      → IsBytes (split longest_body bytes).rest
  rest_small zero bytes less each =
      rest_by bytes zero (front longest_body bytes) refl less each (λ later fewer small. absurd (omega (arith, fewer)))
  rest_small (suc count) bytes less each =
      rest_by bytes (suc count) (front longest_body bytes) refl less each
      (λ later fewer small. rest_small count later (omega (arith, fewer)) small)

  short_by : (door : Door) (heard piece : List ℕ) (port : Port) (early : List (List ℕ))
      → door ≡ Clients
      → Keeps heard port → IsBytes heard → IsBytes piece → IsShort (name_in all) heard
      → IsFrontOf (taken_by door port piece early).passphrases all → IsShort (name_in all) (heard ++ piece)
  short_by Clients heard piece port early is keeps each small short grown =
      client_short port.is_bad heard piece port early refl keeps
      (rest_small (length heard) heard (omega arith) each) small short grown
  short_by Children heard piece port early is keeps each small short grown = absurd (cc)

  pub taken_short : (heard piece : List ℕ) (port : Port) (early : List (List ℕ)) → Keeps heard port
      → IsBytes heard
      → IsBytes piece → IsShort (name_in all) heard → IsFrontOf (taken port piece early).passphrases all
      → IsShort (name_in all) (heard ++ piece)
  taken_short heard piece port early keeps each small short grown =
      short_by port.door heard piece port early keeps.door keeps each small short grown
