-- Journals that differ in secrets alone have one record.
use Rattle.std.proofs.Common.{◌≡◌, ◌∙◌, ℕ, suc, ◌+◌, Bool, true, false, cond, List, [], ◌∷◌, ◌++◌, length, take, map, replicate, Option, Some, None, Result, Ok, Err, refl, sym, ap, subst, ◌==◌, if◌then◌else◌, inl, inr}
use Rattle.std.specs.Prelude.{◌⊎◌, ◌≢◌, codes, is_some, option_map, unwrap_or}
use Rattle.std.specs.Fmt.{decimal}
use Rattle.std.specs.List.{position, position_from}
use Rattle.std.specs.Str.{bytes_eq}
use Rattle.std.proofs.lemmas.Iterator.Adapters.{position_from-zero}
use Rattle.std.proofs.lemmas.List.{drop_at}
use Rattle.std.proofs.lemmas.Slice.Eq.{bytes_eq-Decides}
use Rattle.lists.specs.Keyed.{change_by, remove_by}
use Rattle.world_ports.specs.declared.Door.{Door}
use Rattle.world_ports.specs.declared.Door.TheVariants.{Clients, Children}
use Rattle.world_ports.specs.declared.Job.{Job}
use Rattle.world_ports.specs.declared.answers.Accepted.{Accepted}
use Rattle.world_ports.specs.declared.answers.Accepted.TheVariants as accepted
use Rattle.world_ports.specs.declared.answers.Got.{Got}
use Rattle.world_ports.specs.declared.answers.Got.TheVariants as got
use Rattle.world_ports.specs.declared.answers.WorldFault.{WorldFault}
use Rattle.world_ports.specs.declared.answers.WorldFault.TheVariants.{Failed, Memory}
use Rattle.world_ports.specs.declared.answers.Wrote.{Wrote}
use Rattle.world_ports.specs.declared.answers.Wrote.TheVariants as wrote
use Rattle.world_ports.specs.declared.entry.Entry.{Entry}
use Rattle.world_ports.specs.declared.entry.Entry.TheVariants as entry
use Rattle.schedule_text.specs.declared.step.Step.{Step}
use Rattle.schedule_text.specs.declared.step.Step.TheVariants as steps
use Rattle.schedule_text.specs.Steps.{step_line}
use Rattle.wire_text.specs.Bounds.{longest_body}
use Rattle.wire_text.specs.Frames.{Bad, Front, More, Whole, front, split}
use Rattle.wire_text.specs.Wire.{string}
use Rattle.wire_core.specs.Fields.{string_at}
use Rattle.constraint_rec.specs.Constraints.{no_terms}
use Rattle.constraint_rec.specs.Reading.{terms_of}
use Rattle.constraint_rec.specs.declared.fault.TermFault.{TermFault}
use Rattle.constraint_rec.specs.declared.terms.Terms.{Terms}
use Rattle.key_blob.specs.AddedKeys.{IsAddedKey}
use Rattle.key_blob.specs.KeyTypes.{type_of}
use Rattle.key_blob.specs.Reading.{strings}
use Rattle.key_blob.specs.declared.added.AddedKey.{AddedKey}
use Rattle.key_blob.proofs.Theorems.{added_is_read}
use Rattle.agent_msg.specs.declared.fault.MsgFault.{MsgFault}
use Rattle.agent_msg.specs.Reading.{constrained, ended, field_then, request_of, request_of_number}
use Rattle.agent_msg.specs.Requests.{ClientRequest, ListIdentities, Sign, Add, Remove, RemoveAll, Lock, Unlock, Bind, OtherExtension, Unsupported, IsText}
use Rattle.agent_msg.proofs.ReadLemmas.{request_is_read}
use Rattle.redact_core.specs.Redaction.{Redacted, numbered, redacted, redacted_all, redacted_as, without_secrets}
use Rattle.redact_core.proofs.BlankLemmas.{blanked_text, zeros}
use Rattle.record_world.specs.Frames.{rest_bytes}
use Rattle.record_world.specs.Recording.{Left, Port, Recording, Taken, after, client_taken, find_port, first_recording, heard, held, left, lines, new_port, number_of, only, hold_steps, record_from, record_of, rest_taken, taken, taken_by, text_of, told, with_due}
use Rattle.agent_secrecy.specs.Alike.{AreAlikeAdditions}
use Rattle.agent_secrecy.specs.Secrets.{AreAlikeKeys, AreOfEqualLengths}
use Rattle.agent_secrecy.proofs.KeyLemmas.{other_is}
use Rattle.replay_laws.specs.AlikeJournals.{AreAlikeBodies, AreAlikeBy, AreAlikeFrom, AreAlikeJournals, AreAlikeSplits, AreAllAlike, ComesAlike, HasNoPassphrase, piece_of, read_by}
use Rattle.replay_laws.specs.Redacting.{IsRenaming}

-- ---- additions

zeros_alike : (ones others : List (List ℕ)) → AreOfEqualLengths ones others
    → map zeros ones ≡ map zeros others
zeros_alike [] [] same = refl
zeros_alike [] (other ∷ others) same = absurd same
zeros_alike (one ∷ ones) [] same = absurd same
zeros_alike (one ∷ ones) (other ∷ others) same =
    ap (λ (len : ℕ). replicate len 0 ∷ map zeros ones) same.0
    ∙ ap (λ (rest : List (List ℕ)). zeros other ∷ rest) (zeros_alike ones others same.1)

-- without their secrets two alike keys are one text
keys_alike : (one other : AddedKey) → AreAlikeKeys one other
    → without_secrets one.private ≡ without_secrets other.private
keys_alike one other alike =
    let public = string (type_of alike.is.form).name ++ (alike.is.blob_text ++ strings alike.is.again) in
    blanked_text one alike.is
    ∙ ap (λ (contents : List (List ℕ)). public ++ strings contents) (zeros_alike alike.is.private alike.private alike.lengths)
    ∙ sym (blanked_text other (other_is one other alike))

-- what an addition is read as, behind its key
abbrev Read : Type 0
Read = Result ClientRequest MsgFault

abbrev plain_of : AddedKey → Option (List ℕ × List ℕ) → Read
plain_of key found = field_then found (λ comment rest. ended (Add record { key = key; comment = comment; terms = no_terms }) rest)

abbrev constrained_of : AddedKey → Option (List ℕ × List ℕ) → Read
constrained_of key found =
    field_then found (λ comment rest. constrained key comment (terms_of rest))

plain_read : (key : AddedKey) (rest : List ℕ) → IsAddedKey key
    → request_of (17 ∷ (key.private ++ rest)) ≡ plain_of key (string_at rest)
unfolding request_of request_of_number
plain_read key rest is = rw (added_is_read key rest is) refl

constrained_read : (key : AddedKey) (rest : List ℕ) → IsAddedKey key
    → request_of (25 ∷ (key.private ++ rest)) ≡ constrained_of key (string_at rest)
unfolding request_of request_of_number
constrained_read key rest is = rw (added_is_read key rest is) refl

module _ (one other : AddedKey) (alike : AreAlikeKeys one other) (rest : List ℕ) (passphrases : List (List ℕ)) where
  -- an addition of each is redacted alike
  key_redacted : (number : ℕ) (comment : List ℕ) (terms : Terms)
      → redacted_as (Ok (Add record { key = one; comment = comment; terms = terms })) number (one.private ++ rest) passphrases
      ≡ redacted_as (Ok (Add record { key = other; comment = comment; terms = terms })) number (other.private ++ rest) passphrases
  key_redacted number comment terms =
      let text : (private : List ℕ) → List ℕ → Redacted = λ private public. record { body = number ∷ (public ++ private); passphrases = passphrases } in
      ap (λ (behind : List ℕ). text behind (without_secrets one.private)) (drop_at one.private rest (length one.private) refl)
      ∙ ap (text rest) (keys_alike one other alike)
      ∙ sym (ap (λ (behind : List ℕ). text behind (without_secrets other.private)) (drop_at other.private rest (length other.private) refl))

  ended_redacted : (comment behind : List ℕ)
      → redacted_as (ended (Add record { key = one; comment = comment; terms = no_terms }) behind) 17 (one.private ++ rest) passphrases
      ≡ redacted_as (ended (Add record { key = other; comment = comment; terms = no_terms }) behind) 17 (other.private ++ rest) passphrases
  ended_redacted comment [] = key_redacted 17 comment no_terms
  ended_redacted comment (byte ∷ behind) = refl

  plain_redacted : (found : Option (List ℕ × List ℕ))
      → redacted_as (plain_of one found) 17 (one.private ++ rest) passphrases
      ≡ redacted_as (plain_of other found) 17 (other.private ++ rest) passphrases
  plain_redacted None = refl
  plain_redacted (Some field) = ended_redacted field.0 field.1

  terms_redacted : (comment : List ℕ) (terms : Result Terms TermFault)
      → redacted_as (constrained one comment terms) 25 (one.private ++ rest) passphrases
      ≡ redacted_as (constrained other comment terms) 25 (other.private ++ rest) passphrases
  terms_redacted comment (Ok terms) = key_redacted 25 comment terms
  terms_redacted comment (Err fault) = refl

  constrained_redacted : (found : Option (List ℕ × List ℕ))
      → redacted_as (constrained_of one found) 25 (one.private ++ rest) passphrases
      ≡ redacted_as (constrained_of other found) 25 (other.private ++ rest) passphrases
  constrained_redacted None = refl
  constrained_redacted (Some field) = terms_redacted field.0 (terms_of field.1)

  plain_bodies : redacted (17 ∷ (one.private ++ rest)) passphrases ≡ redacted (17 ∷ (other.private ++ rest)) passphrases
  plain_bodies =
      ap (λ (read : Read). redacted_as read 17 (one.private ++ rest) passphrases) (plain_read one rest alike.is)
      ∙ plain_redacted (string_at rest)
      ∙ sym (ap (λ (read : Read). redacted_as read 17 (other.private ++ rest) passphrases) (plain_read other rest (other_is one other alike)))

  constrained_bodies : redacted (25 ∷ (one.private ++ rest)) passphrases ≡ redacted (25 ∷ (other.private ++ rest)) passphrases
  constrained_bodies =
      ap (λ (read : Read). redacted_as read 25 (one.private ++ rest) passphrases) (constrained_read one rest alike.is)
      ∙ constrained_redacted (string_at rest)
      ∙ sym (ap (λ (read : Read). redacted_as read 25 (other.private ++ rest) passphrases) (constrained_read other rest (other_is one other alike)))

added_redacted : (number : ℕ) (one other : AddedKey) (rest : List ℕ) (passphrases : List (List ℕ))
    → (number ≡ 17) ⊎ (number ≡ 25) → AreAlikeKeys one other
    → redacted (number ∷ (one.private ++ rest)) passphrases ≡ redacted (number ∷ (other.private ++ rest)) passphrases
added_redacted number one other rest passphrases (inl is) alike =
    subst (λ (n : ℕ). redacted (n ∷ (one.private ++ rest)) passphrases ≡ redacted (n ∷ (other.private ++ rest)) passphrases)
    (sym is) (plain_bodies one other alike rest passphrases)
added_redacted number one other rest passphrases (inr is) alike =
    subst (λ (n : ℕ). redacted (n ∷ (one.private ++ rest)) passphrases ≡ redacted (n ∷ (other.private ++ rest)) passphrases)
    (sym is) (constrained_bodies one other alike rest passphrases)

additions_redacted : (one other : List ℕ) (passphrases : List (List ℕ))
    → AreAlikeAdditions one other
    → redacted one passphrases ≡ redacted other passphrases
additions_redacted one other passphrases alike =
    ap (λ (body : List ℕ). redacted body passphrases) alike.left
    ∙ added_redacted alike.number alike.key alike.other_key alike.rest passphrases alike.adds alike.keys
    ∙ sym (ap (λ (body : List ℕ). redacted body passphrases) alike.right)

-- an addition keeps no passphrase
kept_by : (read : Read) (number : ℕ) (bytes : List ℕ) (early : List (List ℕ))
    → ((passphrase : List ℕ) → read ≢ Ok (Lock passphrase)) → ((passphrase : List ℕ) → read ≢ Ok (Unlock passphrase))
    → (redacted_as read number bytes early).passphrases ≡ early
kept_by (Ok ListIdentities) number bytes early lock unlock = refl
kept_by (Ok (Sign signing)) number bytes early lock unlock = refl
kept_by (Ok (Add addition)) number bytes early lock unlock = refl
kept_by (Ok (Remove blob)) number bytes early lock unlock = refl
kept_by (Ok RemoveAll) number bytes early lock unlock = refl
kept_by (Ok (Lock passphrase)) number bytes early lock unlock = absurd (lock passphrase refl)
kept_by (Ok (Unlock passphrase)) number bytes early lock unlock = absurd (unlock passphrase refl)
kept_by (Ok (Bind bind)) number bytes early lock unlock = refl
kept_by (Ok (OtherExtension name)) number bytes early lock unlock = refl
kept_by (Ok (Unsupported other)) number bytes early lock unlock = refl
kept_by (Err what) number bytes early lock unlock = refl

body_by : (read : Read) (number : ℕ) (bytes : List ℕ) (early later : List (List ℕ))
    → ((passphrase : List ℕ) → read ≢ Ok (Lock passphrase)) → ((passphrase : List ℕ) → read ≢ Ok (Unlock passphrase))
    → (redacted_as read number bytes early).body ≡ (redacted_as read number bytes later).body
body_by (Ok ListIdentities) number bytes early later lock unlock = refl
body_by (Ok (Sign signing)) number bytes early later lock unlock = refl
body_by (Ok (Add addition)) number bytes early later lock unlock = refl
body_by (Ok (Remove blob)) number bytes early later lock unlock = refl
body_by (Ok RemoveAll) number bytes early later lock unlock = refl
body_by (Ok (Lock passphrase)) number bytes early later lock unlock = absurd (lock passphrase refl)
body_by (Ok (Unlock passphrase)) number bytes early later lock unlock = absurd (unlock passphrase refl)
body_by (Ok (Bind bind)) number bytes early later lock unlock = refl
body_by (Ok (OtherExtension name)) number bytes early later lock unlock = refl
body_by (Ok (Unsupported other)) number bytes early later lock unlock = refl
body_by (Err what) number bytes early later lock unlock = refl

bare_kept : (body : List ℕ) (early : List (List ℕ)) → HasNoPassphrase body
    → (redacted body early).passphrases ≡ early
bare_kept [] early bare = refl
bare_kept (number ∷ bytes) early bare = kept_by (request_of (number ∷ bytes)) number bytes early bare.lock bare.unlock

bare_body : (body : List ℕ) (early later : List (List ℕ)) → HasNoPassphrase body
    → (redacted body early).body ≡ (redacted body later).body
bare_body [] early later bare = refl
bare_body (number ∷ bytes) early later bare =
    body_by (request_of (number ∷ bytes)) number bytes early later bare.lock bare.unlock

-- an addition has no passphrase
ended_bare : (key : AddedKey) (comment behind passphrase : List ℕ)
    → (ended (Add record { key = key; comment = comment; terms = no_terms }) behind ≢ Ok (Lock passphrase))
    × (ended (Add record { key = key; comment = comment; terms = no_terms }) behind ≢ Ok (Unlock passphrase))
ended_bare key comment [] passphrase = (λ is. cc, λ is. cc)
ended_bare key comment (byte ∷ behind) passphrase = (λ is. cc, λ is. cc)

plain_bare : (key : AddedKey) (found : Option (List ℕ × List ℕ)) (passphrase : List ℕ)
    → (plain_of key found ≢ Ok (Lock passphrase)) × (plain_of key found ≢ Ok (Unlock passphrase))
plain_bare key None passphrase = (λ is. cc, λ is. cc)
plain_bare key (Some field) passphrase = ended_bare key field.0 field.1 passphrase

terms_bare : (key : AddedKey) (comment : List ℕ) (terms : Result Terms TermFault) (passphrase : List ℕ)
    → (constrained key comment terms ≢ Ok (Lock passphrase)) × (constrained key comment terms ≢ Ok (Unlock passphrase))
terms_bare key comment (Ok terms) passphrase = (λ is. cc, λ is. cc)
terms_bare key comment (Err fault) passphrase = (λ is. cc, λ is. cc)

constrained_bare : (key : AddedKey) (found : Option (List ℕ × List ℕ)) (passphrase : List ℕ)
    → (constrained_of key found ≢ Ok (Lock passphrase)) × (constrained_of key found ≢ Ok (Unlock passphrase))
constrained_bare key None passphrase = (λ is. cc, λ is. cc)
constrained_bare key (Some field) passphrase = terms_bare key field.0 (terms_of field.1) passphrase

added_bare : (number : ℕ) (key : AddedKey) (rest : List ℕ) → (number ≡ 17) ⊎ (number ≡ 25)
    → IsAddedKey key
    → HasNoPassphrase (number ∷ (key.private ++ rest))
added_bare number key rest (inl is) added =
    subst (λ (n : ℕ). HasNoPassphrase (n ∷ (key.private ++ rest))) (sym is)
    (record {
      lock = λ passphrase read. (plain_bare key (string_at rest) passphrase).0 (sym (plain_read key rest added) ∙ read);
      unlock = λ passphrase read. (plain_bare key (string_at rest) passphrase).1 (sym (plain_read key rest added) ∙ read);
    })
added_bare number key rest (inr is) added =
    subst (λ (n : ℕ). HasNoPassphrase (n ∷ (key.private ++ rest))) (sym is)
    (record {
      lock = λ passphrase read. (constrained_bare key (string_at rest) passphrase).0 (sym (constrained_read key rest added) ∙ read);
      unlock = λ passphrase read. (constrained_bare key (string_at rest) passphrase).1 (sym (constrained_read key rest added) ∙ read);
    })

addition_bare : (one other : List ℕ) → AreAlikeAdditions one other → HasNoPassphrase one
addition_bare one other alike =
    subst HasNoPassphrase (sym alike.left) (added_bare alike.number alike.key alike.rest alike.adds alike.keys.is)

-- ---- passphrases

module _ (rename : List ℕ → List ℕ) (renaming : IsRenaming rename) where
  -- the same in both, where the second list of passphrases has the other names of the first's
  pub record AreRedactedAlike (one other : Redacted) : Type 0 where
    pub body : one.body ≡ other.body
    pub passphrases : other.passphrases ≡ map rename one.passphrases

  same_test : (a b : List ℕ) (test other : Bool) → bytes_eq a b ≡ test
      → bytes_eq (rename a) (rename b) ≡ other
      → other ≡ test
  same_test a b true true first second = refl
  same_test a b false false first second = refl
  same_test a b true false first second =
      sym second ∙ (bytes_eq-Decides (rename a) (rename b)).1 (ap rename ((bytes_eq-Decides a b).0 first))
  same_test a b false true first second =
      sym ((bytes_eq-Decides a b).1 (renaming.one_to_one a b ((bytes_eq-Decides (rename a) (rename b)).0 second))) ∙ first

  renamed_test : (a b : List ℕ) → bytes_eq (rename a) (rename b) ≡ bytes_eq a b
  renamed_test a b = same_test a b (bytes_eq a b) (bytes_eq (rename a) (rename b)) refl refl

  place_from : (passphrase : List ℕ) (start : ℕ) (all : List (List ℕ))
      → position_from (bytes_eq (rename passphrase)) start (map rename all) ≡ position_from (bytes_eq passphrase) start all
  place_from passphrase start [] = refl
  place_from passphrase start (first ∷ all) =
      ap (λ (b : Bool). cond b (Some start) (position_from (bytes_eq (rename passphrase)) (start + 1) (map rename all)))
      (renamed_test passphrase first)
      ∙ ap (λ (found : Option ℕ). cond (bytes_eq passphrase first) (Some start) found) (place_from passphrase (start + 1) all)

  place_same : (passphrase : List ℕ) (all : List (List ℕ))
      → position (bytes_eq (rename passphrase)) (map rename all) ≡ position (bytes_eq passphrase) all
  place_same passphrase all =
      position_from-zero (bytes_eq (rename passphrase)) (map rename all)
      ∙ place_from passphrase 0 all ∙ sym (position_from-zero (bytes_eq passphrase) all)

  map_length : (all : List (List ℕ)) → length (map rename all) ≡ length all
  map_length [] = refl
  map_length (first ∷ all) = ap suc (map_length all)

  map_behind : (all : List (List ℕ)) (last : List ℕ)
      → map rename (all ++ last ∷ []) ≡ map rename all ++ rename last ∷ []
  map_behind [] last = refl
  map_behind (first ∷ all) last = ap (λ (rest : List (List ℕ)). rename first ∷ rest) (map_behind all last)

  number_same : (place : Option ℕ) (all : List (List ℕ))
      → suc (unwrap_or place (length (map rename all))) ≡ suc (unwrap_or place (length all))
  number_same (Some at) all = refl
  number_same None all = ap suc (map_length all)

  noted_same : (place : Option ℕ) (passphrase : List ℕ) (all : List (List ℕ))
      → (if is_some place then map rename all else map rename all ++ rename passphrase ∷ [])
      ≡ map rename (if is_some place then all else all ++ passphrase ∷ [])
  noted_same (Some at) passphrase all = refl
  noted_same None passphrase all = sym (map_behind all passphrase)

  -- passphrases with some bytes, in both
  some_numbered : (number byte other : ℕ) (bytes others : List ℕ) (early : List (List ℕ))
      → rename (byte ∷ bytes) ≡ other ∷ others
      → AreRedactedAlike (numbered number (byte ∷ bytes) early) (numbered number (other ∷ others) (map rename early))
  some_numbered number byte other bytes others early is =
      let place : position (bytes_eq (other ∷ others)) (map rename early) ≡ position (bytes_eq (byte ∷ bytes)) early =
      ap (λ (p : List ℕ). position (bytes_eq p) (map rename early)) (sym is) ∙ place_same (byte ∷ bytes) early in
      record {
        body = ap (λ (n : ℕ). number ∷ string (decimal n))
            (sym (ap (λ (found : Option ℕ). suc (unwrap_or found (length (map rename early)))) place ∙ number_same (position (bytes_eq (byte ∷ bytes)) early) early));
        passphrases = ap (λ (found : Option ℕ). if is_some found then map rename early else map rename early ++ (other ∷ others) ∷ []) place
            ∙ ap (λ (p : List ℕ). if is_some (position (bytes_eq (byte ∷ bytes)) early) then map rename early else map rename early ++ p ∷ []) (sym is)
            ∙ noted_same (position (bytes_eq (byte ∷ bytes)) early) (byte ∷ bytes) early;
      }

  numbered_by : (number : ℕ) (passphrase name : List ℕ) (early : List (List ℕ))
      → rename passphrase ≡ name
      → AreRedactedAlike (numbered number passphrase early) (numbered number name (map rename early))
  numbered_by number [] [] early is = record { body = refl; passphrases = refl }
  numbered_by number [] (other ∷ others) early is =
      absurd (let none : [] ≡ other ∷ others = sym renaming.empty ∙ is in cc)
  numbered_by number (byte ∷ bytes) [] early is =
      absurd (let none : byte ∷ bytes ≡ [] = renaming.one_to_one (byte ∷ bytes) [] (is ∙ sym renaming.empty) in cc)
  numbered_by number (byte ∷ bytes) (other ∷ others) early is = some_numbered number byte other bytes others early is

  lock_redacted : (number : ℕ) (body passphrase : List ℕ) (early : List (List ℕ))
      → (number ≡ 22) ⊎ (number ≡ 23)
      → IsText number body passphrase → redacted body early ≡ numbered number passphrase early
  lock_redacted number body passphrase early (inl is) text =
      let shown : body ≡ 22 ∷ string passphrase = text.printed ∙ ap (λ (n : ℕ). n ∷ string passphrase) is in
      let read = request_is_read (22 ∷ string passphrase) (Lock passphrase) (record { printed = refl; fits = text.fits }) in
      ap (λ (b : List ℕ). redacted b early) shown
      ∙ ap (λ (r : Read). redacted_as r 22 (string passphrase) early) read
      ∙ ap (λ (n : ℕ). numbered n passphrase early) (sym is)
  lock_redacted number body passphrase early (inr is) text =
      let shown : body ≡ 23 ∷ string passphrase = text.printed ∙ ap (λ (n : ℕ). n ∷ string passphrase) is in
      let read = request_is_read (23 ∷ string passphrase) (Unlock passphrase) (record { printed = refl; fits = text.fits }) in
      ap (λ (b : List ℕ). redacted b early) shown
      ∙ ap (λ (r : Read). redacted_as r 23 (string passphrase) early) read
      ∙ ap (λ (n : ℕ). numbered n passphrase early) (sym is)

  -- ---- bodies

  body_redacted : (one other : List ℕ) (early : List (List ℕ)) → AreAlikeBodies rename one other
      → AreRedactedAlike (redacted one early) (redacted other (map rename early))
  body_redacted one other early (inl same) = record {
    body = bare_body one early (map rename early) same.bare
        ∙ ap (λ (b : List ℕ). (redacted b (map rename early)).body) same.same;
    passphrases = ap (λ (b : List ℕ). (redacted b (map rename early)).passphrases) (sym same.same)
        ∙ bare_kept one (map rename early) same.bare ∙ sym (ap (map rename) (bare_kept one early same.bare));
  }
  body_redacted one other early (inr (inl alike)) =
      let bare = addition_bare one other alike in
      let same = additions_redacted one other (map rename early) alike in
      record {
        body = bare_body one early (map rename early) bare ∙ ap (λ (r : Redacted). r.body) same;
        passphrases = ap (λ (r : Redacted). r.passphrases) (sym same)
            ∙ bare_kept one (map rename early) bare ∙ sym (ap (map rename) (bare_kept one early bare));
      }
  body_redacted one other early (inr (inr locks)) =
      subst (λ (r : Redacted). AreRedactedAlike r (redacted other (map rename early)))
      (sym (lock_redacted locks.number one locks.passphrase early locks.locks locks.left))
      (subst (AreRedactedAlike (numbered locks.number locks.passphrase early))
      (sym (lock_redacted locks.number other (rename locks.passphrase) (map rename early) locks.locks locks.right))
      (numbered_by locks.number locks.passphrase (rename locks.passphrase) early refl))

  all_redacted : (ones others : List (List ℕ)) (early : List (List ℕ))
      → AreAllAlike rename ones others
      → AreRedactedAlike (redacted_all ones early) (redacted_all others (map rename early))
  all_redacted [] [] early alike = record { body = refl; passphrases = refl }
  all_redacted [] (other ∷ others) early alike = absurd alike
  all_redacted (one ∷ ones) [] early alike = absurd alike
  all_redacted (one ∷ ones) (other ∷ others) early alike =
      let first = body_redacted one other early alike.0 in
      let later : AreRedactedAlike (redacted_all ones (redacted one early).passphrases) (redacted_all others (redacted other (map rename early)).passphrases) =
      subst (λ (kept : List (List ℕ)). AreRedactedAlike (redacted_all ones (redacted one early).passphrases) (redacted_all others kept))
      (sym first.passphrases) (all_redacted ones others (redacted one early).passphrases alike.1) in
      record {
        body = ap (λ (b : List ℕ). string b ++ (redacted_all ones (redacted one early).passphrases).body) first.body
            ∙ ap (λ (b : List ℕ). string (redacted other (map rename early)).body ++ b) later.body;
        passphrases = later.passphrases;
      }

  -- ---- a piece

  -- a port without what isn't recorded yet
  abbrev bare_port : Port → Port
  bare_port port = record port { unrecorded = [] }

  record AreTakenAlike (one other : Taken) : Type 0 where
    port : bare_port one.port ≡ bare_port other.port
    bytes : one.bytes ≡ other.bytes
    passphrases : other.passphrases ≡ map rename one.passphrases

  rest_alike : (at other_at : Front) (port other_port : Port) (frames others : Redacted) (rest other_rest : List ℕ)
      → at ≡ other_at → rest_bytes at rest ≡ rest_bytes other_at other_rest → bare_port port ≡ bare_port other_port
      → AreRedactedAlike frames others
      → AreTakenAlike (rest_taken at port frames rest) (rest_taken other_at other_port others other_rest)
  rest_alike (Bad announced) (Bad other_announced) port other_port frames others rest other_rest same heads ports redacted = record {
    port = ap (λ (p : Port). record p { is_bad = true }) ports;
    bytes = ap (λ (b : List ℕ). b ++ take 4 rest) redacted.body ∙ ap (λ (b : List ℕ). others.body ++ b) heads;
    passphrases = redacted.passphrases;
  }
  rest_alike (Whole body_len) (Whole other_len) port other_port frames others rest other_rest same heads ports redacted =
      record { port = ports; bytes = redacted.body; passphrases = redacted.passphrases }
  rest_alike More More port other_port frames others rest other_rest same heads ports redacted =
      record { port = ports; bytes = redacted.body; passphrases = redacted.passphrases }
  rest_alike (Bad announced) (Whole other_len) port other_port frames others rest other_rest same heads ports redacted = absurd (cc)
  rest_alike (Bad announced) More port other_port frames others rest other_rest same heads ports redacted = absurd (cc)
  rest_alike (Whole body_len) (Bad announced) port other_port frames others rest other_rest same heads ports redacted = absurd (cc)
  rest_alike (Whole body_len) More port other_port frames others rest other_rest same heads ports redacted = absurd (cc)
  rest_alike More (Bad announced) port other_port frames others rest other_rest same heads ports redacted = absurd (cc)
  rest_alike More (Whole other_len) port other_port frames others rest other_rest same heads ports redacted = absurd (cc)

  client_alike : (is_bad other_bad : Bool) (port other_port : Port) (piece other_piece : List ℕ) (early : List (List ℕ))
      → is_bad ≡ other_bad → bare_port port ≡ bare_port other_port
      → (is_bad ≡ false → AreAlikeSplits rename (split longest_body (port.unrecorded ++ piece)) (split longest_body (other_port.unrecorded ++ other_piece)))
      → AreTakenAlike (client_taken is_bad port piece early) (client_taken other_bad other_port other_piece (map rename early))
  client_alike true true port other_port piece other_piece early same ports alike =
      record { port = ports; bytes = refl; passphrases = refl }
  client_alike true false port other_port piece other_piece early same ports alike = absurd (cc)
  client_alike false true port other_port piece other_piece early same ports alike = absurd (cc)
  client_alike false false port other_port piece other_piece early same ports alike =
      let one = split longest_body (port.unrecorded ++ piece) in
      let other = split longest_body (other_port.unrecorded ++ other_piece) in
      let splits = alike refl in
      rest_alike (front longest_body one.rest) (front longest_body other.rest) port other_port
      (redacted_all one.bodies early) (redacted_all other.bodies (map rename early)) one.rest other.rest
      splits.fronts splits.heads ports (all_redacted one.bodies other.bodies early splits.bodies)

  door_alike : (door other_door : Door) (port other_port : Port) (piece other_piece : List ℕ) (early : List (List ℕ))
      → door ≡ other_door → bare_port port ≡ bare_port other_port
      → ComesAlike rename door port other_port piece other_piece
      → AreTakenAlike (taken_by door port piece early) (taken_by other_door other_port other_piece (map rename early))
  door_alike Clients Clients port other_port piece other_piece early same ports alike =
      client_alike port.is_bad other_port.is_bad port other_port piece other_piece early (ap (λ (p : Port). p.is_bad) ports) ports alike
  door_alike Clients Children port other_port piece other_piece early same ports alike = absurd (cc)
  door_alike Children Clients port other_port piece other_piece early same ports alike = absurd (cc)
  door_alike Children Children port other_port piece other_piece early same ports alike =
      record { port = ports; bytes = alike; passphrases = refl }

  -- ---- ports

  found_bare : (number : ℕ) (ports : List Port)
      → find_port number (map bare_port ports) ≡ option_map bare_port (find_port number ports)
  found_bare number [] = refl
  found_bare number (port ∷ ports) =
      by_test (port.number == number) port (find_port number ports) (find_port number (map bare_port ports)) (found_bare number ports)
    where
      by_test : (test : Bool) (port : Port) (found bare : Option Port)
          → bare ≡ option_map bare_port found
          → cond test (Some (bare_port port)) bare ≡ option_map bare_port (cond test (Some port) found)
      by_test true port found bare is = refl
      by_test false port found bare is = is

  changed_bare : (number : ℕ) (new : Port) (ports : List Port)
      → map bare_port (change_by number_of number (λ _. new) ports) ≡ change_by number_of number (λ _. bare_port new) (map bare_port ports)
  changed_bare number new [] = refl
  changed_bare number new (port ∷ ports) =
      by_test (port.number == number) (change_by number_of number (λ _. new) ports)
      (change_by number_of number (λ _. bare_port new) (map bare_port ports)) (changed_bare number new ports)
    where
      by_test : (test : Bool) (changed bare : List Port) → map bare_port changed ≡ bare
          → map bare_port (if test then new ∷ ports else port ∷ changed)
          ≡ (if test then bare_port new ∷ map bare_port ports else bare_port port ∷ bare)
      by_test true changed bare is = refl
      by_test false changed bare is = ap (λ (rest : List Port). bare_port port ∷ rest) is

  removed_bare : (number : ℕ) (ports : List Port)
      → map bare_port (remove_by number_of number ports) ≡ remove_by number_of number (map bare_port ports)
  removed_bare number [] = refl
  removed_bare number (port ∷ ports) =
      by_test (port.number == number) (remove_by number_of number ports)
      (remove_by number_of number (map bare_port ports)) (removed_bare number ports)
    where
      by_test : (test : Bool) (removed bare : List Port) → map bare_port removed ≡ bare
          → map bare_port (if test then ports else port ∷ removed) ≡ (if test then map bare_port ports else bare_port port ∷ bare)
      by_test true removed bare is = refl
      by_test false removed bare is = ap (λ (rest : List Port). bare_port port ∷ rest) is

  joined_bare : (ports : List Port) (port : Port)
      → map bare_port (ports ++ port ∷ []) ≡ map bare_port ports ++ bare_port port ∷ []
  joined_bare [] port = refl
  joined_bare (first ∷ ports) port = ap (λ (rest : List Port). bare_port first ∷ rest) (joined_bare ports port)

  -- ---- what is kept

  record AreKeptAlike (one other : Recording) : Type 0 where
    bound : one.is_bound ≡ other.is_bound
    ports : map bare_port one.ports ≡ map bare_port other.ports
    passphrases : other.passphrases ≡ map rename one.passphrases
    due : one.due ≡ other.due

  record AreLeftAlike (one other : Left) : Type 0 where
    kept : AreKeptAlike one.kept other.kept
    steps : one.steps ≡ other.steps

  told_alike : (one other : Taken) (kept other_kept : Recording) → AreTakenAlike one other
      → AreKeptAlike kept other_kept
      → AreLeftAlike (told one kept) (told other other_kept)
  told_alike one other kept other_kept taken alike =
      let number : one.port.number ≡ other.port.number = ap (λ (p : Port). p.number) taken.port in
      let new : bare_port (held one.bytes one.port) ≡ bare_port (held other.bytes other.port) =
      ap (λ (p : Port). held one.bytes p) taken.port ∙ ap (λ (b : List ℕ). held b (bare_port other.port)) taken.bytes in
      record {
        kept = record {
          bound = alike.bound;
          ports = changed_bare one.port.number (held one.bytes one.port) kept.ports
              ∙ ap (λ (n : ℕ). change_by number_of n (λ _. bare_port (held one.bytes one.port)) (map bare_port kept.ports)) number
              ∙ ap (λ (p : Port). change_by number_of other.port.number (λ _. p) (map bare_port kept.ports)) new
              ∙ ap (λ (ports : List Port). change_by number_of other.port.number (λ _. bare_port (held other.bytes other.port)) ports) alike.ports
              ∙ sym (changed_bare other.port.number (held other.bytes other.port) other_kept.ports);
          passphrases = taken.passphrases;
          due = alike.due;
        };
        steps = ap (λ (p : Port). hold_steps p.is_held p.number one.bytes) taken.port
            ∙ ap (λ (b : List ℕ). hold_steps other.port.is_held other.port.number b) taken.bytes;
      }

  bare_same : (found other : Option Port) → option_map bare_port found ≡ option_map bare_port other
      → (found ≡ None) × (other ≡ None)
      ⊎ ((port : Port) × (other_port : Port) × (found ≡ Some port) × (other ≡ Some other_port) × (bare_port port ≡ bare_port other_port))
  bare_same None None same = inl (refl, refl)
  bare_same None (Some other) same = absurd (cc)
  bare_same (Some port) None same = absurd (cc)
  bare_same (Some port) (Some other) same = inr (port, other, refl, refl, (let is : bare_port port ≡ bare_port other = cc in is))

  found_alike : (number other_number : ℕ) (one other : Recording) → number ≡ other_number
      → AreKeptAlike one other
      → option_map bare_port (find_port number one.ports) ≡ option_map bare_port (find_port other_number other.ports)
  found_alike number other_number one other same alike =
      sym (found_bare number one.ports)
      ∙ ap (find_port number) alike.ports
      ∙ ap (λ (n : ℕ). find_port n (map bare_port other.ports)) same
      ∙ found_bare other_number other.ports

  some_heard : (port other_port : Port) (piece other_piece : List ℕ) (one other : Recording)
      → AreKeptAlike one other
      → bare_port port ≡ bare_port other_port
      → ComesAlike rename port.door port other_port piece other_piece
      → AreLeftAlike (told (taken port piece one.passphrases) one) (told (taken other_port other_piece other.passphrases) other)
  some_heard port other_port piece other_piece one other alike ports comes =
      told_alike (taken port piece one.passphrases) (taken other_port other_piece other.passphrases) one other
      (subst (λ (early : List (List ℕ)). AreTakenAlike (taken port piece one.passphrases) (taken other_port other_piece early))
      (sym alike.passphrases)
      (door_alike port.door other_port.door port other_port piece other_piece one.passphrases (ap (λ (p : Port). p.door) ports) ports comes))
      alike

  heard_by : (found other_found : Option Port) (piece other_piece : List ℕ) (one other : Recording)
      → AreKeptAlike one other
      → option_map bare_port found ≡ option_map bare_port other_found
      → ((port other_port : Port) → found ≡ Some port → other_found ≡ Some other_port → ComesAlike rename port.door port other_port piece other_piece)
      → AreLeftAlike (heard found piece one) (heard other_found other_piece other)
  heard_by None None piece other_piece one other alike same comes = record { kept = alike; steps = refl }
  heard_by None (Some other_port) piece other_piece one other alike same comes = absurd (cc)
  heard_by (Some port) None piece other_piece one other alike same comes = absurd (cc)
  heard_by (Some port) (Some other_port) piece other_piece one other alike same comes =
      let ports : bare_port port ≡ bare_port other_port = some_same same in
      some_heard port other_port piece other_piece one other alike ports (comes port other_port refl refl)
    where
      some_same : {a b : Port} → Some a ≡ Some b → a ≡ b
      some_same is = cc

  -- ---- a call

  only_alike : (steps : List Step) (one other : Recording) → AreKeptAlike one other
      → AreLeftAlike (only steps one) (only steps other)
  only_alike steps one other alike = record { kept = alike; steps = refl }

  accept_alike : (door : Door) (answer : Result Accepted WorldFault) (one other : Recording)
      → AreKeptAlike one other
      → AreLeftAlike (left (entry.Accept door answer) one) (left (entry.Accept door answer) other)
  accept_alike door (Ok (accepted.Port number)) one other alike = record {
    kept = record {
      bound = alike.bound;
      ports = joined_bare one.ports (new_port number door)
          ∙ ap (λ (ports : List Port). ports ++ new_port number door ∷ []) alike.ports
          ∙ sym (joined_bare other.ports (new_port number door));
      passphrases = alike.passphrases;
      due = alike.due;
    };
    steps = refl;
  }
  accept_alike door (Ok accepted.NotNow) one other alike = only_alike [] one other alike
  accept_alike door (Err fault) one other alike = only_alike [] one other alike

  write_alike : (port : ℕ) (offered : List ℕ) (answer : Result Wrote WorldFault) (one other : Recording)
      → AreKeptAlike one other
      → AreLeftAlike (left (entry.Write port offered answer) one) (left (entry.Write port offered answer) other)
  write_alike port offered (Ok (wrote.Took count)) one other alike = record { kept = alike; steps = refl }
  write_alike port offered (Ok wrote.NotNow) one other alike = record { kept = alike; steps = refl }
  write_alike port offered (Err Failed) one other alike = record { kept = alike; steps = refl }
  write_alike port offered (Err Memory) one other alike = record { kept = alike; steps = refl }

  start_alike : (job : Job) (answer : Result (List ℕ) WorldFault) (one other : Recording)
      → AreKeptAlike one other
      → AreLeftAlike (left (entry.Start job answer) one) (left (entry.Start job answer) other)
  start_alike job (Ok ticket) one other alike = record { kept = alike; steps = refl }
  start_alike job (Err Failed) one other alike = record { kept = alike; steps = refl }
  start_alike job (Err Memory) one other alike = record { kept = alike; steps = refl }

  read_alike : (port room : ℕ) (bytes : List ℕ) (answer : Result Got WorldFault) (one other : Recording)
      → read_by port bytes answer ≡ None → AreKeptAlike one other
      → AreLeftAlike (left (entry.Read port room bytes answer) one) (left (entry.Read port room bytes answer) other)
  read_alike port room bytes (Ok (got.Bytes count)) one other none alike = absurd (cc)
  read_alike port room bytes (Ok got.End) one other none alike = record { kept = alike; steps = refl }
  read_alike port room bytes (Ok got.NotNow) one other none alike = record { kept = alike; steps = refl }
  read_alike port room bytes (Err Failed) one other none alike = record { kept = alike; steps = refl }
  read_alike port room bytes (Err Memory) one other none alike = record { kept = alike; steps = refl }

  -- the same call, which read no bytes
  same_alike : (next : Entry) (one other : Recording) → piece_of next ≡ None
      → AreKeptAlike one other
      → AreLeftAlike (left next one) (left next other)
  same_alike (entry.Bind door path answer) one other none alike = record {
    kept = record { bound = refl; ports = alike.ports; passphrases = alike.passphrases; due = alike.due };
    steps = refl;
  }
  same_alike (entry.Poll wait items answer) one other none alike = only_alike [] one other alike
  same_alike (entry.Accept door answer) one other none alike = accept_alike door answer one other alike
  same_alike (entry.Read port room bytes answer) one other none alike = read_alike port room bytes answer one other none alike
  same_alike (entry.Write port offered answer) one other none alike = write_alike port offered answer one other alike
  same_alike (entry.Close port answer) one other none alike = record {
    kept = record {
      bound = alike.bound;
      ports = removed_bare port one.ports ∙ ap (remove_by number_of port) alike.ports ∙ sym (removed_bare port other.ports);
      passphrases = alike.passphrases;
      due = alike.due;
    };
    steps = refl;
  }
  same_alike (entry.Start job answer) one other none alike = start_alike job answer one other alike
  same_alike (entry.Now answer) one other none alike = only_alike [] one other alike

  -- what a call wrote depends on what is kept alike
  text_alike : (next : Entry) (one other : Recording) → AreKeptAlike one other
      → text_of next one ≡ text_of next other
  text_alike (entry.Bind door path answer) one other alike =
      ap (λ (bound : Bool). if bound then [] else codes "schedule 2\n") alike.bound
  text_alike (entry.Poll wait items answer) one other alike = refl
  text_alike (entry.Accept door answer) one other alike = refl
  text_alike (entry.Read port room bytes answer) one other alike = refl
  text_alike (entry.Write port offered answer) one other alike = refl
  text_alike (entry.Close port answer) one other alike = refl
  text_alike (entry.Start job answer) one other alike = refl
  text_alike (entry.Now (Ok moment)) one other alike =
      ap (λ (due : List ℕ). step_line (steps.At moment) ++ due) alike.due
  text_alike (entry.Now (Err want)) one other alike = refl

  -- both calls leave what is alike, and wrote the same
  record AreStepsAlike (next other_next : Entry) (one other : Recording) : Type 0 where
    left_alike : AreLeftAlike (left next one) (left other_next other)
    texts : text_of next one ≡ text_of other_next other

  -- a call that reads bytes writes nothing at once, and leaves what they bring
  record IsRead (next : Entry) (piece : ℕ × List ℕ) : Type 0 where
    leaves : (recording : Recording)
        → left next recording ≡ heard (find_port piece.0 recording.ports) piece.1 recording
    quiet : (recording : Recording) → text_of next recording ≡ []

  read_by_is : (port room : ℕ) (bytes : List ℕ) (answer : Result Got WorldFault) (piece : ℕ × List ℕ)
      → read_by port bytes answer ≡ Some piece → IsRead (entry.Read port room bytes answer) piece
  read_by_is port room bytes (Ok (got.Bytes count)) piece is =
      subst (IsRead (entry.Read port room bytes (Ok (got.Bytes count)))) (some_same is)
      (record { leaves = λ recording. refl; quiet = λ recording. refl })
    where
      some_same : {a b : ℕ × List ℕ} → Some a ≡ Some b → a ≡ b
      some_same same = cc
  read_by_is port room bytes (Ok got.End) piece is = absurd (cc)
  read_by_is port room bytes (Ok got.NotNow) piece is = absurd (cc)
  read_by_is port room bytes (Err fault) piece is = absurd (cc)

  piece_is : (next : Entry) (piece : ℕ × List ℕ) → piece_of next ≡ Some piece → IsRead next piece
  piece_is (entry.Bind door path answer) piece is = absurd (cc)
  piece_is (entry.Poll wait items answer) piece is = absurd (cc)
  piece_is (entry.Accept door answer) piece is = absurd (cc)
  piece_is (entry.Read port room bytes answer) piece is = read_by_is port room bytes answer piece is
  piece_is (entry.Write port offered answer) piece is = absurd (cc)
  piece_is (entry.Close port answer) piece is = absurd (cc)
  piece_is (entry.Start job answer) piece is = absurd (cc)
  piece_is (entry.Now answer) piece is = absurd (cc)

  step_by : (found other_found : Option (ℕ × List ℕ)) (next other_next : Entry) (one other : Recording)
      → piece_of next ≡ found → piece_of other_next ≡ other_found → AreKeptAlike one other
      → AreAlikeBy rename one other next other_next found other_found → AreStepsAlike next other_next one other
  step_by None None next other_next one other none other_none alike same =
      subst (λ (n : Entry). AreStepsAlike next n one other) same
      (record { left_alike = same_alike next one other none alike; texts = text_alike next one other alike })
  step_by None (Some piece) next other_next one other none some alike same = absurd same
  step_by (Some piece) None next other_next one other some none alike same = absurd same
  step_by (Some piece) (Some other_piece) next other_next one other some other_some alike reads =
      let first = piece_is next piece some in
      let second = piece_is other_next other_piece other_some in
      record {
        left_alike =
            subst (λ (l : Left). AreLeftAlike l (left other_next other)) (sym (first.leaves one))
            (subst (AreLeftAlike (heard (find_port piece.0 one.ports) piece.1 one)) (sym (second.leaves other))
            (heard_by (find_port piece.0 one.ports) (find_port other_piece.0 other.ports) piece.1 other_piece.1 one other alike
            (found_alike piece.0 other_piece.0 one other reads.port alike) reads.bytes));
        texts = first.quiet one ∙ sym (second.quiet other);
      }

  -- what is kept then
  due_alike : (one other : Left) → AreLeftAlike one other
      → AreKeptAlike (with_due one) (with_due other)
  due_alike one other alike = record {
    bound = alike.kept.bound;
    ports = alike.kept.ports;
    passphrases = alike.kept.passphrases;
    due = ap lines alike.steps;
  }

  record_alike : (ones others : List Entry) (one other : Recording) → AreKeptAlike one other
      → AreAlikeFrom rename one other ones others → record_from one ones ≡ record_from other others
  record_alike [] [] one other kept alike = refl
  record_alike [] (second ∷ others) one other kept alike = absurd alike
  record_alike (first ∷ ones) [] one other kept alike = absurd alike
  record_alike (first ∷ ones) (second ∷ others) one other kept alike =
      let both = step_by (piece_of first) (piece_of second) first second one other refl refl kept alike.0 in
      ap (λ (text : List ℕ). text ++ record_from (after first one) ones) both.texts
      ∙ ap (λ (text : List ℕ). text_of second other ++ text)
      (record_alike ones others (after first one) (after second other) (due_alike (left first one) (left second other) both.left_alike) alike.1)

  first_kept : AreKeptAlike first_recording first_recording
  first_kept = record { bound = refl; ports = refl; passphrases = refl; due = refl }

pub records_alike : (rename : List ℕ → List ℕ) → IsRenaming rename → (one other : List Entry)
    → AreAlikeJournals rename one other → record_of one ≡ record_of other
records_alike rename renaming one other alike =
    record_alike rename renaming one other first_recording first_recording (first_kept rename renaming) alike
