-- Replies that are read: what is read is in the grammar, and what is in the grammar is read.
use Rattle.std.proofs.Common.{◌≡◌, ℕ, zero, suc, ◌^◌, ◌<◌, ◌+◌, ◌⊎◌, inl, inr, List, [], ◌∷◌, ◌++◌, length, map, All, Some, Result, Ok, Err, IfOk, MatchResult, append_assoc, refl, sym, ap, subst, ◌∙◌, arith}
use Rattle.std.proofs.lemmas.Bool.{cases_eq, ne_eqb}
use Rattle.std.proofs.lemmas.List.{append-nil}
use Rattle.std.proofs.lemmas.List.Elements.{All-cons, All-head, All-tail, All-nil}
use Rattle.wire_text.specs.Wire.{IsBytes, uint32, string}
use Rattle.wire_core.specs.Fields.{uint32_at, string_at}
use Rattle.wire_core.specs.Readings.{◌>>=◌, field_or, ended_or, IsAnswerUnless}
use Rattle.wire_core.proofs.Theorems.{IsFront, uint32_at-uint32, string_at-string, uint32_is_front, string_is_front}
use Rattle.wire_core.proofs.ReadingLemmas.{bind_ok, field_or_is, ended_or_is, string_at-alone, last, behind}
use Rattle.agent_msg.specs.declared.agent_reply.Reply.{Reply}
use Rattle.agent_msg.specs.declared.agent_reply.ReplyFault.{ReplyFault}
use Rattle.agent_msg.specs.declared.agent_reply.ReplyFault.TheVariants.{Short, Trailing, Memory}
use Rattle.agent_msg.specs.Replies.{entry, entries}
use Rattle.agent_msg.specs.ReplyReading.{AgentReply, Failure, Success, Identities, Signature, agent_reply, reply_body, IsEntry, IsReply, entry_at, in_front, entries_at, identities_end, identities_at, signature_at, reply_of}

-- identities, and the bytes that follow them, or a fault
abbrev pub EntriesRead : Type 0
EntriesRead = Result (List (List ℕ × List ℕ) × List ℕ) ReplyFault

-- ---- one after another

-- identities behind one more, behind those that are done
behind_one_more : (others : EntriesRead) (done : List (List ℕ × List ℕ)) (first : List ℕ × List ℕ)
    → ((others >>= in_front (first ∷ [])) >>= in_front done) ≡ (others >>= in_front (done ++ first ∷ []))
behind_one_more (Ok read) done first =
    ap (λ (l : List (List ℕ × List ℕ)). Ok (l, read.1)) (sym (append_assoc done (first ∷ []) read.0))
behind_one_more (Err fault) done first = refl

-- an identity that is read joins those that are done
pub entry_joins : (whole : EntriesRead) (done : List (List ℕ × List ℕ)) (count others : ℕ) (bytes rest : List ℕ) (first : List ℕ × List ℕ)
    → count ≡ suc others → whole ≡ (entries_at count bytes >>= in_front done) → entry_at bytes ≡ Ok (first, rest)
    → whole ≡ (entries_at others rest >>= in_front (done ++ first ∷ []))
unfolding entries_at
entry_joins whole done count others bytes rest first more is read =
    is ∙ ap (λ (n : ℕ). entries_at n bytes >>= in_front done) more
    ∙ ap (λ (at : Result ((List ℕ × List ℕ) × List ℕ) ReplyFault).
    (at >>= λ one. (entries_at others one.1 >>= in_front (one.0 ∷ []))) >>= in_front done) read
    ∙ behind_one_more (entries_at others rest) done first

-- its fault is that of all
pub entry_fails : (whole : EntriesRead) (done : List (List ℕ × List ℕ)) (count others : ℕ) (bytes : List ℕ) (fault : ReplyFault)
    → count ≡ suc others → whole ≡ (entries_at count bytes >>= in_front done) → entry_at bytes ≡ Err fault → whole ≡ Err fault
unfolding entries_at
entry_fails whole done count others bytes fault more is read =
    is ∙ ap (λ (n : ℕ). entries_at n bytes >>= in_front done) more
    ∙ ap (λ (at : Result ((List ℕ × List ℕ) × List ℕ) ReplyFault).
    (at >>= λ one. (entries_at others one.1 >>= in_front (one.0 ∷ []))) >>= in_front done) read

-- none is done at the start
pub none_done : (read : EntriesRead) → read ≡ (read >>= in_front [])
none_done (Ok read) = refl
none_done (Err fault) = refl

-- those that are done are all, where none is left
pub all_done : (whole : EntriesRead) (done : List (List ℕ × List ℕ)) (count : ℕ) (bytes : List ℕ) → count ≡ 0
    → whole ≡ (entries_at count bytes >>= in_front done) → whole ≡ Ok (done, bytes)
unfolding entries_at
all_done whole done count bytes none is =
    is ∙ ap (λ (n : ℕ). entries_at n bytes >>= in_front done) none
    ∙ ap (λ (l : List (List ℕ × List ℕ)). Ok (l, bytes)) (append-nil done)

-- ---- what is in the grammar is read

entries_are_read : (identities : List (List ℕ × List ℕ)) → All IsEntry identities
    → entries_at (length identities) (entries identities) ≡ Ok (identities, [])
unfolding entries_at
entries_are_read [] fit = refl
entries_are_read (first ∷ others) fit =
    let fits = All-head IsEntry first others fit in
    rw (
      append_assoc (string first.0) (string first.1) (entries others),
      string_at-string first.0 (string first.1 ++ entries others) fits.blob_fits,
      string_at-string first.1 (entries others) fits.comment_fits,
      entries_are_read others (All-tail IsEntry first others fit),
    ) refl

pub reply_is_read : (body : List ℕ) (reply : AgentReply) → IsReply body reply → reply_of body ≡ Ok reply
unfolding reply_of
reply_is_read body Failure is = rw is.printed refl
reply_is_read body Success is = rw is.printed refl
reply_is_read body (Identities identities) is =
    rw (is.printed, uint32_at-uint32 (length identities) (entries identities) is.fit.0, entries_are_read identities is.fit.1) refl
reply_is_read body (Signature signature) is = rw (is.printed, string_at-alone signature is.fit) refl

-- ---- what is read is in the grammar

-- the bytes are an identity, and what follows it
record IsEntryFront (bytes : List ℕ) (identity : List ℕ × List ℕ) (rest : List ℕ) : Type 0 where
  pub parts : bytes ≡ entry identity ++ rest
  pub fits : IsEntry identity
  pub left : IsBytes rest

entry_is_found : (bytes : List ℕ) (identity : List ℕ × List ℕ) (rest : List ℕ) → IsBytes bytes
    → entry_at bytes ≡ Ok (identity, rest) → IsEntryFront bytes identity rest
entry_is_found bytes identity rest each read =
    let one = field_or_is Short (string_at bytes)
    (λ blob after_blob. field_or Short (string_at after_blob) (λ comment left. Ok ((blob, comment), left))) (identity, rest) read in
    let blob = string_is_front bytes one.field one.rest each one.there in
    let two = field_or_is Short (string_at one.rest) (λ comment left. Ok ((one.field, comment), left)) (identity, rest) one.read in
    let comment = string_is_front one.rest two.field two.rest blob.0.left two.there in
    let same : ((one.field, two.field), two.rest) ≡ (identity, rest) = cc in
    subst (λ (x : (List ℕ × List ℕ) × List ℕ). IsEntryFront bytes x.0 x.1) same record {
      parts =
          behind bytes (string one.field) one.rest (string two.field ++ two.rest) blob.0.parts comment.0.parts
          ∙ sym (append_assoc (string one.field) (string two.field) two.rest);
      fits = record { blob_fits = blob.1; comment_fits = comment.1 };
      left = comment.0.left;
    }

-- the bytes are so many identities, and what follows them
record AreEntries (count : ℕ) (bytes : List ℕ) (identities : List (List ℕ × List ℕ)) (rest : List ℕ) : Type 0 where
  pub parts : bytes ≡ entries identities ++ rest
  pub fit : All IsEntry identities
  pub counted : length identities ≡ count

entries_are_found : (count : ℕ) (bytes : List ℕ) (identities : List (List ℕ × List ℕ)) (rest : List ℕ) → IsBytes bytes
    → entries_at count bytes ≡ Ok (identities, rest) → AreEntries count bytes identities rest
unfolding entries_at
entries_are_found zero bytes identities rest each read =
    let same : ([], bytes) ≡ (identities, rest) = cc in
    subst (λ (x : List (List ℕ × List ℕ) × List ℕ). AreEntries 0 bytes x.0 x.1) same
    record { parts = refl; fit = All-nil IsEntry; counted = refl }
entries_are_found (suc count) bytes identities rest each read =
    let one = bind_ok (entry_at bytes) (λ first. (entries_at count first.1 >>= in_front (first.0 ∷ []))) (identities, rest) read in
    let first = entry_is_found bytes one.0.0 one.0.1 each one.1 in
    let two = bind_ok (entries_at count one.0.1) (in_front (one.0.0 ∷ [])) (identities, rest) one.2 in
    let others = entries_are_found count one.0.1 two.0.0 two.0.1 first.left two.1 in
    let same : (one.0.0 ∷ two.0.0, two.0.1) ≡ (identities, rest) = cc in
    subst (λ (x : List (List ℕ × List ℕ) × List ℕ). AreEntries (suc count) bytes x.0 x.1) same record {
      parts =
          behind bytes (entry one.0.0) one.0.1 (entries two.0.0 ++ two.0.1) first.parts others.parts
          ∙ sym (append_assoc (entry one.0.0) (entries two.0.0) two.0.1);
      fit = All-cons IsEntry one.0.0 two.0.0 first.fits others.fit;
      counted = ap suc others.counted;
    }

identities_are_found : (bytes : List ℕ) (reply : AgentReply) → IsBytes bytes → identities_at bytes ≡ Ok reply → IsReply (12 ∷ bytes) reply
identities_are_found bytes reply each read =
    let one = field_or_is Short (uint32_at bytes) (λ count rest. (entries_at count rest >>= identities_end)) reply read in
    let count = uint32_is_front bytes one.field one.rest each one.there in
    let two = bind_ok (entries_at one.field one.rest) identities_end reply one.read in
    let all = entries_are_found one.field one.rest two.0.0 two.0.1 count.0.left two.1 in
    let end = ended_or_is Trailing (Identities two.0.0) reply two.0.1 two.2 in
    let whole : one.rest ≡ entries two.0.0 = last one.rest (entries two.0.0) two.0.1 all.parts end.0 in
    subst (IsReply (12 ∷ bytes)) {x = Identities two.0.0} end.1 record {
      printed = ap (λ (l : List ℕ). 12 ∷ l) (behind bytes (uint32 one.field) one.rest (entries two.0.0) count.0.parts whole
          ∙ ap (λ (n : ℕ). uint32 n ++ entries two.0.0) (sym all.counted));
      fit = (subst (λ (n : ℕ). n < 2 ^ 32) (sym all.counted) count.1, all.fit);
    }

signature_is_found : (bytes : List ℕ) (reply : AgentReply) → IsBytes bytes → signature_at bytes ≡ Ok reply → IsReply (14 ∷ bytes) reply
signature_is_found bytes reply each read =
    let one = field_or_is Short (string_at bytes) (λ signature rest. ended_or Trailing (Signature signature) rest) reply read in
    let signature = string_is_front bytes one.field one.rest each one.there in
    let end = ended_or_is Trailing (Signature one.field) reply one.rest one.read in
    subst (IsReply (14 ∷ bytes)) {x = Signature one.field} end.1 record {
      printed = ap (λ (l : List ℕ). 14 ∷ l) (last bytes (string one.field) one.rest signature.0.parts end.0);
      fit = signature.1;
    }

-- a reply without contents
nothing_is : (number : ℕ) (made reply : AgentReply) (bytes : List ℕ) → ((body : List ℕ) → body ≡ number ∷ [] → IsReply body made)
    → ended_or Trailing made bytes ≡ Ok reply → IsReply (number ∷ bytes) reply
nothing_is number made reply bytes is read =
    let end = ended_or_is Trailing made reply bytes read in
    subst (IsReply (number ∷ bytes)) {x = made} end.1 (is (number ∷ bytes) (ap (λ (l : List ℕ). number ∷ l) end.0))

-- by the number
at_number : (number known : ℕ) (bytes : List ℕ) (reply : AgentReply) → number ≡ known
    → (reply_of (known ∷ bytes) ≡ Ok reply → IsReply (known ∷ bytes) reply) → reply_of (number ∷ bytes) ≡ Ok reply → IsReply (number ∷ bytes) reply
at_number number known bytes reply same is read =
    let from = sym same in
    subst (λ (n : ℕ). IsReply (n ∷ bytes) reply) from (is (subst (λ (n : ℕ). reply_of (n ∷ bytes) ≡ Ok reply) same read))

pub reply_is_found : (body : List ℕ) (reply : AgentReply) → IsBytes body → reply_of body ≡ Ok reply → IsReply body reply
unfolding reply_of
reply_is_found [] reply each read = absurd cc
reply_is_found (number ∷ bytes) reply each read =
    let rest = All-tail (λ byte. byte < 256) number bytes each in
    elim (cases_eq number 5) [
      | inl same ↦ at_number number 5 bytes reply same (nothing_is 5 Failure reply bytes (λ body is. record { printed = is; fit = tt })) read
      | inr n5 ↦
          elim (cases_eq number 6) [
            | inl same ↦ at_number number 6 bytes reply same (nothing_is 6 Success reply bytes (λ body is. record { printed = is; fit = tt })) read
            | inr n6 ↦
                elim (cases_eq number 12) [
                  | inl same ↦ at_number number 12 bytes reply same (identities_are_found bytes reply rest) read
                  | inr n12 ↦
                      elim (cases_eq number 14) [
                        | inl same ↦ at_number number 14 bytes reply same (signature_is_found bytes reply rest) read
                        | inr n14 ↦ let none = rw (ne_eqb number 5 n5, ne_eqb number 6 n6, ne_eqb number 12 n12, ne_eqb number 14 n14) at read in absurd cc
                      ]
                ]
          ]
    ]

-- ---- what the code reads

-- what the code reads is in the grammar
pub reply_found : (body : List ℕ) (answer : Result Reply ReplyFault) → IsBytes body → IsAnswerUnless Memory agent_reply answer (reply_of body)
    → IfOk answer (λ read. IsReply body (agent_reply read))
reply_found body (Ok read) each h = reply_is_found body (agent_reply read) each h
reply_found body (Err fault) each h = tt

-- what is in the grammar the code reads, unless memory ran out
pub reply_only : (body : List ℕ) (answer : Result Reply ReplyFault) → IsAnswerUnless Memory agent_reply answer (reply_of body)
    → (reply : AgentReply) → IsReply body reply → MatchResult answer (λ read. agent_reply read ≡ reply) (λ fault. fault ≡ Memory)
reply_only body (Ok read) h reply is = let e = reply_is_read body reply is in cc
reply_only body (Err fault) h reply is =
    let e = reply_is_read body reply is in
    elim h [
      | inl memory ↦ memory
      | inr refused ↦ absurd cc
    ]
