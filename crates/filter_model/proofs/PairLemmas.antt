-- A pair stays exact, whatever it hears, sends and takes.
use Rattle.std.proofs.Common.{◌≡◌, ◌<◌, ℕ, Bool, true, false, List, [], ◌∷◌, ◌++◌, length, arith, take, drop, map, cond, All, ◌&&◌, ◌||◌, not, refl, sym, ap, subst, ◌∙◌, append_assoc, append-nil, Option, Some, None, Result, Ok, Err}
use Rattle.std.specs.List.{filter, flat_map, list_any}
use Rattle.std.proofs.lemmas.List.{take-append-drop}
use Rattle.std.proofs.lemmas.List.Folds.{list_any-append}
use Rattle.std.proofs.lemmas.Option.{none-some, same_Some}
use Rattle.std.proofs.lemmas.List.Concat.{flat_map-append}
use Rattle.std.proofs.lemmas.List.Elements.{All-cons, All-head, All-nil, All-push, All-append, All-drop, filter-append}
use Rattle.wire_text.specs.Wire.{IsBytes, string}
use Rattle.wire_text.specs.Frames.{Front, Whole, Bad, More, IsBody, frames, front, front_body, after_front}
use Rattle.wire_text.proofs.FrontLemmas.{IsBody-front_body, front_is_string, whole_within}
use Rattle.wire_text.proofs.SplitLemmas.{frames-append}
use Rattle.agent_msg.specs.Reading.{request_of}
use Rattle.agent_msg.specs.ReplyReading.{AgentReply, Failure, Success, Identities, Signature, reply_of}
use Rattle.agent_msg.specs.Replies.{failure, identities_answer}
use Rattle.agent_msg.specs.Requests.{ClientRequest, ListIdentities, Sign, Add, Remove, RemoveAll, Lock, Unlock, Bind, OtherExtension, Signing, Unsupported}
use Rattle.agent_msg.specs.declared.fault.MsgFault.{MsgFault}
use Rattle.agent_msg.specs.declared.agent_reply.ReplyFault.{ReplyFault}
use Rattle.pair_ports.specs.declared.side.Side.{Side}
use Rattle.pair_ports.specs.declared.side.Side.TheVariants.{Client, Upstream}
use Rattle.wire_text.specs.Bounds.{longest_body}
use Rattle.key_purposes.specs.Messages.{may_be_for}
use Rattle.key_purposes.specs.declared.purpose.Purpose.{Purpose}
use Rattle.filter_model.specs.declared.waits.Waits.TheVariants.{Nothing, OnList, OnBind, OnReply}
use Rattle.filter_model.specs.declared.waits.Waits.{Waits}
use Rattle.filter_model.specs.Lists.{Listed}
use Rattle.filter_model.specs.Pairs.{Pair, change_half, half_of, heard_more, is_none, is_quiet, freed, is_through, owes_more, reaches, sent_some, unlinked}
use Rattle.filter_model.specs.Looking.{Looked, and_then, and_then_if, answered, cut_reply, is_listed, may_sign, only_listed, waits_by, waits_for, client_front, client_looked, client_owed, client_waits, fate_of, looked, lost, lost_if, nothing_left, reply_for, taken_as, upstream_front, upstream_looked, upstream_waits, without_front}
use Rattle.filter_model.specs.Watching.{Exchange, IsApart, IsExact, IsExchange, IsPending, IsPendingFor, IsReplied, Watched, answers, bodies, IsCut, IsReplyTo, change_stream, binds, is_bind, has_purpose, is_forwarded, may_pass, with_heard, with_sent}

-- ---- lists

-- one more frame stands behind these
frames-onto : (xs : List (List ℕ)) (body rest : List ℕ) → frames xs ++ (string body ++ rest) ≡ frames (xs ++ body ∷ []) ++ rest
frames-onto xs body rest = sym (ap (λ l. l ++ rest) (frames-append xs (body ∷ []) ∙ ap (λ l. frames xs ++ l) (append-nil (string body))) ∙ append_assoc (frames xs) (string body) rest)

-- one more frame, with nothing behind it
frames-push : (xs : List (List ℕ)) (body : List ℕ) → frames (xs ++ body ∷ []) ≡ frames xs ++ string body
frames-push xs body = frames-append xs (body ∷ []) ∙ ap (λ l. frames xs ++ l) (append-nil (string body))

map-push : {A B : Type 0} (f : A → B) (xs : List A) (x : A) → map f (xs ++ x ∷ []) ≡ map f xs ++ f x ∷ []
map-push f [] x = refl
map-push f (y ∷ ys) x = ap (λ l. f y ∷ l) (map-push f ys x)

flat-push : {A B : Type 0} (f : A → List B) (xs : List A) (x : A) → flat_map f (xs ++ x ∷ []) ≡ flat_map f xs ++ f x
flat-push f xs x = flat_map-append f xs (x ∷ []) ∙ ap (λ l. flat_map f xs ++ l) (append-nil (f x))

-- a test that holds, or doesn't, of one more
filter-kept : (f : List ℕ → Bool) (xs : List (List ℕ)) (x : List ℕ) → f x ≡ true → filter f (xs ++ x ∷ []) ≡ filter f xs ++ x ∷ []
filter-kept f xs x holds = filter-append f xs (x ∷ []) ∙ ap (λ b. filter f xs ++ cond b (x ∷ []) []) holds

filter-left : (f : List ℕ → Bool) (xs : List (List ℕ)) (x : List ℕ) → f x ≡ false → filter f (xs ++ x ∷ []) ≡ filter f xs
filter-left f xs x fails = filter-append f xs (x ∷ []) ∙ ap (λ b. filter f xs ++ cond b (x ∷ []) []) fails ∙ append-nil (filter f xs)

-- ---- the law's words and the filter's

-- whether something is waited for
abbrev is_asked : Waits → Bool
is_asked Nothing = false
is_asked OnList = true
is_asked OnBind = true
is_asked OnReply = true

-- whether the reply to a bind is waited for
abbrev is_binding : Waits → Bool
is_binding Nothing = false
is_binding OnList = false
is_binding OnBind = true
is_binding OnReply = false

binds-asked : (listed : Listed) (request : Result ClientRequest MsgFault) → binds request ≡ is_binding (waits_for listed request)
binds-asked listed (Ok ListIdentities) = refl
binds-asked listed (Ok (Sign signing)) = by_test (may_sign listed signing)
  where
    by_test : (test : Bool) → false ≡ is_binding (waits_by test)
    by_test true = refl
    by_test false = refl
binds-asked listed (Ok (Bind bind)) = refl
binds-asked listed (Ok (Add addition)) = refl
binds-asked listed (Ok (Remove blob)) = refl
binds-asked listed (Ok RemoveAll) = refl
binds-asked listed (Ok (Lock passphrase)) = refl
binds-asked listed (Ok (Unlock passphrase)) = refl
binds-asked listed (Ok (OtherExtension name)) = refl
binds-asked listed (Ok (Unsupported number)) = refl
binds-asked listed (Err fault) = refl

-- the law's purposes are those of the step
has-purpose : (purposes : Option (List Purpose)) (signing : Signing) → has_purpose purposes signing ≡ may_be_for purposes signing.message signing.blob signing.flags
has-purpose None signing = refl
has-purpose (Some purposes) signing = refl

passes-asked : (listed : Listed) (request : Result ClientRequest MsgFault) → may_pass listed request ≡ is_asked (waits_for listed request)
passes-asked listed (Ok ListIdentities) = refl
passes-asked listed (Ok (Sign signing)) =
    ap (λ (b : Bool). is_listed signing.blob listed.blobs && b) (has-purpose listed.purposes signing) ∙ by_test (may_sign listed signing)
  where
    by_test : (test : Bool) → test ≡ is_asked (waits_by test)
    by_test true = refl
    by_test false = refl
passes-asked listed (Ok (Bind bind)) = refl
passes-asked listed (Ok (Add addition)) = refl
passes-asked listed (Ok (Remove blob)) = refl
passes-asked listed (Ok RemoveAll) = refl
passes-asked listed (Ok (Lock passphrase)) = refl
passes-asked listed (Ok (Unlock passphrase)) = refl
passes-asked listed (Ok (OtherExtension name)) = refl
passes-asked listed (Ok (Unsupported number)) = refl
passes-asked listed (Err fault) = refl

cut-is : (blobs : List (List ℕ)) (answer : Result AgentReply ReplyFault) (reply : List ℕ) → cut_reply blobs answer ≡ Some reply → IsCut blobs answer reply
cut-is blobs (Ok Failure) reply is = sym (same_Some failure reply is)
cut-is blobs (Ok Success) reply is = absurd (none-some reply is)
cut-is blobs (Ok (Identities identities)) reply is = sym (same_Some (identities_answer (only_listed blobs identities)) reply is)
cut-is blobs (Ok (Signature signature)) reply is = absurd (none-some reply is)
cut-is blobs (Err fault) reply is = absurd (none-some reply is)

-- the filter's reply is the law's
reply-is : (listed : Listed) (request : Result ClientRequest MsgFault) (answer reply : List ℕ) → reply_for (waits_for listed request) listed answer ≡ Some reply → IsReplyTo request listed answer reply
reply-is listed (Ok ListIdentities) answer reply is = cut-is listed.blobs (reply_of answer) reply is
reply-is listed (Ok (Sign signing)) answer reply is = by_test (may_sign listed signing) is
  where
    by_test : (test : Bool) → reply_for (waits_by test) listed answer ≡ Some reply → reply ≡ string answer
    by_test true so = sym (same_Some (string answer) reply so)
    by_test false so = absurd (none-some reply so)
reply-is listed (Ok (Bind bind)) answer reply is = sym (same_Some (string answer) reply is)
reply-is listed (Ok (Add addition)) answer reply is = absurd (none-some reply is)
reply-is listed (Ok (Remove blob)) answer reply is = absurd (none-some reply is)
reply-is listed (Ok RemoveAll) answer reply is = absurd (none-some reply is)
reply-is listed (Ok (Lock passphrase)) answer reply is = absurd (none-some reply is)
reply-is listed (Ok (Unlock passphrase)) answer reply is = absurd (none-some reply is)
reply-is listed (Ok (OtherExtension name)) answer reply is = absurd (none-some reply is)
reply-is listed (Ok (Unsupported number)) answer reply is = absurd (none-some reply is)
reply-is listed (Err fault) answer reply is = absurd (none-some reply is)

passed : (listed : Listed) (body : List ℕ) (fate : Waits) → fate_of listed body ≡ fate → is_forwarded listed body ≡ is_asked fate
passed listed body fate is = passes-asked listed (request_of body) ∙ ap is_asked is

bound_by : (listed : Listed) (body : List ℕ) (fate : Waits) → fate_of listed body ≡ fate → is_bind body ≡ is_binding fate
bound_by listed body fate is = binds-asked listed (request_of body) ∙ ap is_binding is

or-false : (here : Bool) → (here || false) ≡ here
or-false true = refl
or-false false = refl

or-true : (here : Bool) → (here || true) ≡ true
or-true true = refl
or-true false = refl

-- a test of one more
any-push : (f : List ℕ → Bool) (xs : List (List ℕ)) (x : List ℕ) → list_any f (xs ++ x ∷ []) ≡ (list_any f xs || f x)
any-push f xs x = list_any-append f xs (x ∷ []) ∙ ap (λ b. list_any f xs || b) (or-false (f x))

true-false : {A : Type 0} (b : Bool) → b ≡ true → b ≡ false → A
true-false b holds fails = let bad : true ≡ false = sym holds ∙ fails in cc

-- what is pending is waited for as its body wants it
abbrev pub AreFated : Waits → Listed → List (List ℕ) → Type 0
AreFated waits listed pending = All (λ body. fate_of listed body ≡ waits) pending

-- ---- what holds of a pair

-- what was taken and owed is exact, and what was heard of the client and what is left to be read are bytes
pub record Holds (listed : Listed) (watched : Watched) : Type 0 where
  pub exact : IsExact listed watched
  pub fated : AreFated watched.pair.waits listed exact.pending
  pub heard_bytes : IsBytes watched.client.heard
  pub client_bytes : IsBytes watched.pair.client.heard
  pub upstream_bytes : IsBytes watched.pair.upstream.heard

-- the same streams, and the pair as it is left
abbrev pub left_at : Pair → Watched → Watched
left_at pair watched = record watched { pair = pair }

module _ (listed : Listed) (watched : Watched) (holds : Holds listed watched) where
  abbrev pair : Pair
  pair = watched.pair

  abbrev e : IsExact listed watched
  e = holds.exact

  -- ---- the client's side

  module _ (body_len : ℕ) (found : front longest_body pair.client.heard ≡ Whole body_len) (quiet : pair.waits ≡ Nothing) where
    abbrev body : List ℕ
    body = front_body body_len pair.client.heard

    abbrev rest : List ℕ
    rest = after_front body_len pair.client.heard

    abbrev cut : Pair
    cut = record pair { client = without_front body_len pair.client }

    none : e.pending ≡ []
    none = subst (λ waits. IsPending waits listed e.pending) quiet e.last

    all_replied : e.taken ≡ bodies e.exchanges
    all_replied = e.parts ∙ ap (λ l. bodies e.exchanges ++ l) none ∙ append-nil (bodies e.exchanges)

    cut-from : watched.client.heard ≡ frames (e.taken ++ body ∷ []) ++ rest
    cut-from = e.from_client ∙ ap (λ l. frames e.taken ++ l) (front_is_string longest_body pair.client.heard body_len holds.client_bytes found) ∙ frames-onto e.taken body rest

    cut-bodies : All (IsBody longest_body) (e.taken ++ body ∷ [])
    cut-bodies = All-push (IsBody longest_body) e.taken body e.are_bodies (IsBody-front_body longest_body pair.client.heard body_len found)

    abbrev refused : Exchange
    refused = record { body = body; answers = []; reply = failure }

    refused-holds : fate_of listed body ≡ Nothing → Holds listed (left_at (taken_as Nothing body cut) watched)
    refused-holds fate = record {
      exact = record {
        taken = e.taken ++ body ∷ [];
        exchanges = e.exchanges ++ refused ∷ [];
        pending = [];
        parts = ap (λ l. l ++ body ∷ []) all_replied ∙ sym (append-nil (bodies (e.exchanges ++ refused ∷ [])) ∙ map-push (λ x. x.body) e.exchanges refused);
        from_client = cut-from;
        from_upstream = e.from_upstream ∙ ap (λ l. frames l ++ pair.upstream.heard) (sym (flat-push (λ x. x.answers) e.exchanges refused ∙ append-nil (answers e.exchanges)));
        to_upstream = e.to_upstream ∙ ap frames (sym (filter-left (is_forwarded listed) e.taken body (passed listed body Nothing fate)));
        to_client = sym (append_assoc watched.client.sent pair.client.owed failure) ∙ ap (λ l. l ++ failure) e.to_client ∙ sym (flat-push (λ x. x.reply) e.exchanges refused);
        are_bodies = cut-bodies;
        are_answers = subst (All (IsBody longest_body)) (sym (flat-push (λ x. x.answers) e.exchanges refused ∙ append-nil (answers e.exchanges))) e.are_answers;
        each = All-push (IsExchange listed) e.exchanges refused e.each (subst (λ b. IsReplied b listed refused) (sym (passed listed body Nothing fate)) (record { unanswered = refl; reply = refl }));
        last = none_left;
        bound = e.bound ∙ sym (any-push is_bind e.taken body ∙ ap (λ b. list_any is_bind e.taken || b) (bound_by listed body Nothing fate) ∙ or-false (list_any is_bind e.taken));
        unused = e.unused;
        apart = λ unused. record {
          unheard = (e.apart unused).unheard;
          whole = (e.apart unused).whole ∙ ap frames none;
          unbound = ap (list_any is_bind) (map-push (λ x. x.body) e.exchanges refused) ∙ any-push is_bind (bodies e.exchanges) body
              ∙ ap (λ b. list_any is_bind (bodies e.exchanges) || b) (bound_by listed body Nothing fate) ∙ or-false (list_any is_bind (bodies e.exchanges)) ∙ (e.apart unused).unbound;
        };
      };
      fated = All-nil (λ other. fate_of listed other ≡ pair.waits);
      heard_bytes = holds.heard_bytes;
      client_bytes = All-drop (λ byte. byte < 256) _ _ holds.client_bytes;
      upstream_bytes = holds.upstream_bytes;
    }
      where
        none_left : IsPending pair.waits listed []
        none_left = subst (λ waits. IsPending waits listed []) (sym quiet) refl

    -- one that is forwarded, and what is waited for then
    forwarded-holds : (waits : Waits) (bound : Bool) → is_asked waits ≡ true → fate_of listed body ≡ waits → bound ≡ (pair.is_bound || is_binding waits) → IsPending waits listed (body ∷ [])
        → Holds listed (left_at (record cut { upstream = owes_more (string body) pair.upstream; waits = waits; is_bound = bound }) watched)
    forwarded-holds waits bound asks fate binding last = record {
      exact = record {
        taken = e.taken ++ body ∷ [];
        exchanges = e.exchanges;
        pending = body ∷ [];
        parts = ap (λ l. l ++ body ∷ []) all_replied;
        from_client = cut-from;
        from_upstream = e.from_upstream;
        to_upstream = sym (append_assoc watched.upstream.sent pair.upstream.owed (string body)) ∙ ap (λ l. l ++ string body) e.to_upstream
            ∙ sym (frames-push (filter (is_forwarded listed) e.taken) body) ∙ ap frames (sym (filter-kept (is_forwarded listed) e.taken body (passed listed body waits fate ∙ asks)));
        to_client = e.to_client;
        are_bodies = cut-bodies;
        are_answers = e.are_answers;
        each = e.each;
        last = last;
        bound = binding ∙ ap (λ b. b || is_binding waits) e.bound ∙ sym (any-push is_bind e.taken body ∙ ap (λ b. list_any is_bind e.taken || b) (bound_by listed body waits fate));
        unused = e.unused;
        apart = λ unused. record {
          unheard = (e.apart unused).unheard;
          whole = ap (λ l. l ++ string body) ((e.apart unused).whole ∙ ap frames none) ∙ sym (append-nil (string body));
          unbound = (e.apart unused).unbound;
        };
      };
      fated = All-cons (λ other. fate_of listed other ≡ waits) body [] fate (All-nil (λ other. fate_of listed other ≡ waits));
      heard_bytes = holds.heard_bytes;
      client_bytes = All-drop (λ byte. byte < 256) _ _ holds.client_bytes;
      upstream_bytes = holds.upstream_bytes;
    }

    taken-holds : (fate : Waits) → fate_of listed body ≡ fate → Holds listed (left_at (taken_as fate body cut) watched)
    taken-holds Nothing is = refused-holds is
    taken-holds OnList is = forwarded-holds OnList pair.is_bound refl is (sym (or-false pair.is_bound)) (record { body = body; only = refl; passed = passed listed body _ is })
    taken-holds OnBind is = forwarded-holds OnBind true refl is (sym (or-true pair.is_bound)) (record { body = body; only = refl; passed = passed listed body _ is })
    taken-holds OnReply is = forwarded-holds OnReply pair.is_bound refl is (sym (or-false pair.is_bound)) (record { body = body; only = refl; passed = passed listed body _ is })

  client_front-holds : (answer : Front) → front longest_body pair.client.heard ≡ answer → pair.waits ≡ Nothing
      → Holds listed (left_at (client_front answer listed pair).pair watched)
  client_front-holds (Whole body_len) found quiet = taken-holds body_len found quiet (fate_of listed (front_body body_len pair.client.heard)) refl
  client_front-holds (Bad announced) found quiet = holds
  client_front-holds More found quiet = holds

  client_owed-holds : (client upstream : List ℕ) → pair.waits ≡ Nothing → Holds listed (left_at (client_owed client upstream listed pair).pair watched)
  client_owed-holds [] [] quiet = client_front-holds (front longest_body pair.client.heard) refl quiet
  client_owed-holds [] (byte ∷ bytes) quiet = holds
  client_owed-holds (byte ∷ bytes) upstream quiet = holds

  client_waits-holds : (waits : Waits) → pair.waits ≡ waits → Holds listed (left_at (client_waits waits listed pair).pair watched)
  client_waits-holds Nothing quiet = client_owed-holds pair.client.owed pair.upstream.owed quiet
  client_waits-holds OnList is = holds
  client_waits-holds OnBind is = holds
  client_waits-holds OnReply is = holds

  pub client_looked-holds : Holds listed (left_at (client_looked listed pair).pair watched)
  client_looked-holds = client_waits-holds pair.waits refl

  -- ---- upstream's side

  nothing_left-same : (rest : List ℕ) (after : Pair) → (nothing_left rest after).pair ≡ after
  nothing_left-same [] after = refl
  nothing_left-same (byte ∷ bytes) after = refl

  module _ (body_len : ℕ) (found : front longest_body pair.upstream.heard ≡ Whole body_len) (waits : Waits) (asks : is_asked waits ≡ true) (awaits : IsPendingFor listed e.pending) (fated : fate_of listed awaits.body ≡ waits) where
    abbrev answer : List ℕ
    answer = front_body body_len pair.upstream.heard

    abbrev behind : List ℕ
    behind = after_front body_len pair.upstream.heard

    abbrev replied : List ℕ → Exchange
    replied reply = record { body = awaits.body; answers = answer ∷ []; reply = reply }

    abbrev after_reply : List ℕ → Pair
    after_reply reply = record pair { client = owes_more reply pair.client; upstream = without_front body_len pair.upstream; waits = Nothing }

    -- it came over a connection
    unused-none : {A : Type 0} → pair.is_used ≡ false → A
    unused-none unused =
        let within = whole_within longest_body pair.upstream.heard body_len found in
        let none = ap length (e.apart unused).unheard in
        absurd (omega (arith, within, none))

    replied-holds : (reply : List ℕ) → reply_for waits listed answer ≡ Some reply → Holds listed (left_at (after_reply reply) watched)
    replied-holds reply is = record {
      exact = record {
        taken = e.taken;
        exchanges = e.exchanges ++ replied reply ∷ [];
        pending = [];
        parts = e.parts ∙ ap (λ l. bodies e.exchanges ++ l) awaits.only ∙ sym (append-nil (bodies (e.exchanges ++ replied reply ∷ [])) ∙ map-push (λ x. x.body) e.exchanges (replied reply));
        from_client = e.from_client;
        from_upstream = e.from_upstream ∙ ap (λ l. frames (answers e.exchanges) ++ l) (front_is_string longest_body pair.upstream.heard body_len holds.upstream_bytes found)
            ∙ frames-onto (answers e.exchanges) answer behind ∙ ap (λ l. frames l ++ behind) (sym more_answers);
        to_upstream = e.to_upstream;
        to_client = sym (append_assoc watched.client.sent pair.client.owed reply) ∙ ap (λ l. l ++ reply) e.to_client ∙ sym (flat-push (λ x. x.reply) e.exchanges (replied reply));
        are_bodies = e.are_bodies;
        are_answers = subst (All (IsBody longest_body)) (sym more_answers) (All-push (IsBody longest_body) (answers e.exchanges) answer e.are_answers (IsBody-front_body longest_body pair.upstream.heard body_len found));
        each = All-push (IsExchange listed) e.exchanges (replied reply) e.each
            (subst (λ b. IsReplied b listed (replied reply)) (sym (passed listed awaits.body waits fated ∙ asks))
            (record { answer = answer; answered = refl; reply = reply-is listed (request_of awaits.body) answer reply (ap (λ w. reply_for w listed answer) fated ∙ is) }));
        last = refl;
        bound = e.bound;
        unused = e.unused;
        apart = λ unused. unused-none unused;
      };
      fated = All-nil (λ other. fate_of listed other ≡ Nothing);
      heard_bytes = holds.heard_bytes;
      client_bytes = holds.client_bytes;
      upstream_bytes = All-drop (λ byte. byte < 256) _ _ holds.upstream_bytes;
    }
      where
        more_answers : answers (e.exchanges ++ replied reply ∷ []) ≡ answers e.exchanges ++ answer ∷ []
        more_answers = flat-push (λ x. x.answers) e.exchanges (replied reply)

    answered-holds : (reply : Option (List ℕ)) → reply_for waits listed answer ≡ reply → Holds listed (left_at (answered reply body_len pair).pair watched)
    answered-holds None is = holds
    answered-holds (Some reply) is = subst (λ p. Holds listed (left_at p watched)) (sym (nothing_left-same behind (after_reply reply))) (replied-holds reply is)

  upstream_front-holds : (waits : Waits) → pair.waits ≡ waits → is_asked waits ≡ true → IsPendingFor listed e.pending → (answer : Front) → front longest_body pair.upstream.heard ≡ answer
      → Holds listed (left_at (upstream_front answer listed pair).pair watched)
  upstream_front-holds waits is asks awaits (Whole body_len) found =
      answered-holds body_len found waits asks awaits
      (All-head (λ other. fate_of listed other ≡ pair.waits) awaits.body [] (subst (All (λ other. fate_of listed other ≡ pair.waits)) awaits.only holds.fated) ∙ is) (reply_for pair.waits listed (front_body body_len pair.upstream.heard))
      (ap (λ w. reply_for w listed (front_body body_len pair.upstream.heard)) (sym is))
  upstream_front-holds waits is asks awaits (Bad announced) found = holds
  upstream_front-holds waits is asks awaits More found = holds

  upstream_waits-holds : (waits : Waits) → pair.waits ≡ waits → Holds listed (left_at (upstream_waits waits listed pair).pair watched)
  upstream_waits-holds Nothing is = subst (λ p. Holds listed (left_at p watched)) (sym (nothing_left-same pair.upstream.heard pair)) holds
  upstream_waits-holds OnList is =
      upstream_front-holds OnList is refl (subst (λ waits. IsPending waits listed e.pending) is e.last) (front longest_body pair.upstream.heard) refl
  upstream_waits-holds OnBind is =
      upstream_front-holds OnBind is refl (subst (λ waits. IsPending waits listed e.pending) is e.last) (front longest_body pair.upstream.heard) refl
  upstream_waits-holds OnReply is =
      upstream_front-holds OnReply is refl (subst (λ waits. IsPending waits listed e.pending) is e.last) (front longest_body pair.upstream.heard) refl

  pub upstream_looked-holds : Holds listed (left_at (upstream_looked listed pair).pair watched)
  upstream_looked-holds = upstream_waits-holds pair.waits refl

-- ---- both sides, and what came before

and_then-holds : (listed : Listed) (watched : Watched) (first : Looked) → Holds listed (left_at first.pair watched)
    → Holds listed (left_at (and_then first (upstream_looked listed)).pair watched)
and_then-holds listed watched first holds = by_open first.is_open
  where
    by_open : (open_yet : Bool) → Holds listed (left_at (and_then_if open_yet first.pair (upstream_looked listed)).pair watched)
    by_open true = upstream_looked-holds listed (left_at first.pair watched) holds
    by_open false = holds

none-is : (bytes : List ℕ) → is_none bytes ≡ true → bytes ≡ []
none-is [] is = refl
none-is (byte ∷ bytes) is = cc

quiet-is : (waits : Waits) → is_quiet waits ≡ true → waits ≡ Nothing
quiet-is Nothing is = refl
quiet-is OnList is = cc
quiet-is OnBind is = cc
quiet-is OnReply is = cc

both-true : (here there : Bool) → (here && there) ≡ true → (here ≡ true) × (there ≡ true)
both-true true there is = (refl, is)
both-true false there is = cc

neither : (here there : Bool) → (here || not there) ≡ false → (here ≡ false) × (there ≡ true)
neither true there is = cc
neither false true is = (refl, refl)
neither false false is = cc

-- a connection on which nothing is under way is as good as a new one
module _ (listed : Listed) (watched : Watched) (holds : Holds listed watched) where
  abbrev here : Pair
  here = watched.pair

  abbrev known : IsExact listed watched
  known = holds.exact

  -- nothing is under way, and no bind was ever forwarded
  spare-apart : here.is_bound ≡ false → is_through here ≡ true → IsApart here known.exchanges known.pending
  spare-apart unbound through =
      let quiet = both-true (is_quiet here.waits) (is_none here.upstream.heard && is_none here.upstream.owed) through in
      let empty = both-true (is_none here.upstream.heard) (is_none here.upstream.owed) quiet.1 in
      let done : known.pending ≡ [] = subst (λ waits. IsPending waits listed known.pending) (quiet-is here.waits quiet.0) known.last in
      let all : known.taken ≡ bodies known.exchanges = known.parts ∙ ap (λ l. bodies known.exchanges ++ l) done ∙ append-nil (bodies known.exchanges) in
      record {
        unheard = none-is here.upstream.heard empty.0;
        whole = none-is here.upstream.owed empty.1 ∙ sym (ap frames done);
        unbound = ap (list_any is_bind) (sym all) ∙ sym known.bound ∙ unbound;
      }

  freed-apart : (used : Bool) → here.is_used ≡ used → (used && (here.is_bound || not (is_through here))) ≡ false → IsApart here known.exchanges known.pending
  freed-apart false is unused = known.apart is
  freed-apart true is unused =
      let both = neither here.is_bound (is_through here) unused in
      spare-apart both.0 both.1

  freed-holds : Holds listed (left_at (freed here) watched)
  freed-holds = record {
    exact = record {
      taken = known.taken;
      exchanges = known.exchanges;
      pending = known.pending;
      parts = known.parts;
      from_client = known.from_client;
      from_upstream = known.from_upstream;
      to_upstream = known.to_upstream;
      to_client = known.to_client;
      are_bodies = known.are_bodies;
      are_answers = known.are_answers;
      each = known.each;
      last = known.last;
      bound = known.bound;
      unused = λ unlinked. ap (λ (used : Bool). used && (here.is_bound || not (is_through here))) (known.unused unlinked);
      apart = λ unused. apart_of (freed-apart here.is_used refl unused);
    };
    fated = holds.fated;
    heard_bytes = holds.heard_bytes;
    client_bytes = holds.client_bytes;
    upstream_bytes = holds.upstream_bytes;
  }
    where
      apart_of : IsApart here known.exchanges known.pending → IsApart (freed here) known.exchanges known.pending
      apart_of is = record { unheard = is.unheard; whole = is.whole; unbound = is.unbound }

pub looked-holds : (listed : Listed) (watched : Watched) → Holds listed watched → Holds listed (left_at (looked listed watched.pair).pair watched)
looked-holds listed watched holds =
    let first = and_then (client_looked listed watched.pair) (upstream_looked listed) in
    freed-holds listed (left_at first.pair watched)
    (and_then-holds listed watched (client_looked listed watched.pair) (client_looked-holds listed watched holds))

-- a connection was made
pub linked-holds : (listed : Listed) (watched : Watched) → watched.pair.is_linked ≡ false → Holds listed watched → Holds listed (left_at (record watched.pair { is_linked = true }) watched)
linked-holds listed watched apart holds = record {
  exact = record {
    taken = holds.exact.taken;
    exchanges = holds.exact.exchanges;
    pending = holds.exact.pending;
    parts = holds.exact.parts;
    from_client = holds.exact.from_client;
    from_upstream = holds.exact.from_upstream;
    to_upstream = holds.exact.to_upstream;
    to_client = holds.exact.to_client;
    are_bodies = holds.exact.are_bodies;
    are_answers = holds.exact.are_answers;
    each = holds.exact.each;
    last = holds.exact.last;
    bound = holds.exact.bound;
    unused = λ unlinked. true-false true refl unlinked;
    apart = λ unused. record {
      unheard = (holds.exact.apart unused).unheard;
      whole = (holds.exact.apart unused).whole;
      unbound = (holds.exact.apart unused).unbound;
    };
  };
  fated = holds.fated;
  heard_bytes = holds.heard_bytes;
  client_bytes = holds.client_bytes;
  upstream_bytes = holds.upstream_bytes;
}

-- one that isn't used ended, or was given back
pub unlinked-holds : (listed : Listed) (watched : Watched) → watched.pair.is_used ≡ false → Holds listed watched → Holds listed (left_at (unlinked watched.pair) watched)
unlinked-holds listed watched free holds = record {
  exact = record {
    taken = holds.exact.taken;
    exchanges = holds.exact.exchanges;
    pending = holds.exact.pending;
    parts = holds.exact.parts;
    from_client = holds.exact.from_client;
    from_upstream = holds.exact.from_upstream;
    to_upstream = holds.exact.to_upstream;
    to_client = holds.exact.to_client;
    are_bodies = holds.exact.are_bodies;
    are_answers = holds.exact.are_answers;
    each = holds.exact.each;
    last = holds.exact.last;
    bound = holds.exact.bound;
    unused = λ unlinked. free;
    apart = λ unused. record {
      unheard = (holds.exact.apart unused).unheard;
      whole = (holds.exact.apart unused).whole;
      unbound = (holds.exact.apart unused).unbound;
    };
  };
  fated = holds.fated;
  heard_bytes = holds.heard_bytes;
  client_bytes = holds.client_bytes;
  upstream_bytes = holds.upstream_bytes;
}

-- bytes came
pub heard-holds : (listed : Listed) (watched : Watched) (side : Side) (piece : List ℕ) → IsBytes piece → reaches side watched.pair ≡ true → Holds listed watched
    → Holds listed (left_at (change_half side (heard_more piece) watched.pair) (change_stream side (with_heard piece) watched))
heard-holds listed watched Client piece bytes reached holds = record {
  exact = record {
    taken = holds.exact.taken;
    exchanges = holds.exact.exchanges;
    pending = holds.exact.pending;
    parts = holds.exact.parts;
    from_client = ap (λ l. l ++ piece) holds.exact.from_client ∙ append_assoc (frames holds.exact.taken) watched.pair.client.heard piece;
    from_upstream = holds.exact.from_upstream;
    to_upstream = holds.exact.to_upstream;
    to_client = holds.exact.to_client;
    are_bodies = holds.exact.are_bodies;
    are_answers = holds.exact.are_answers;
    each = holds.exact.each;
    last = holds.exact.last;
    bound = holds.exact.bound;
    unused = holds.exact.unused;
    apart = λ unused. record {
      unheard = (holds.exact.apart unused).unheard;
      whole = (holds.exact.apart unused).whole;
      unbound = (holds.exact.apart unused).unbound;
    };
  };
  fated = holds.fated;
  heard_bytes = All-append (λ byte. byte < 256) _ _ holds.heard_bytes bytes;
  client_bytes = All-append (λ byte. byte < 256) _ _ holds.client_bytes bytes;
  upstream_bytes = holds.upstream_bytes;
}
heard-holds listed watched Upstream piece bytes reached holds = record {
  exact = record {
    taken = holds.exact.taken;
    exchanges = holds.exact.exchanges;
    pending = holds.exact.pending;
    parts = holds.exact.parts;
    from_client = holds.exact.from_client;
    from_upstream = ap (λ l. l ++ piece) holds.exact.from_upstream ∙ append_assoc (frames (answers holds.exact.exchanges)) watched.pair.upstream.heard piece;
    to_upstream = holds.exact.to_upstream;
    to_client = holds.exact.to_client;
    are_bodies = holds.exact.are_bodies;
    are_answers = holds.exact.are_answers;
    each = holds.exact.each;
    last = holds.exact.last;
    bound = holds.exact.bound;
    unused = λ unlinked. true-false watched.pair.is_linked reached unlinked;
    apart = λ unused. true-false true refl unused;
  };
  fated = holds.fated;
  heard_bytes = holds.heard_bytes;
  client_bytes = holds.client_bytes;
  upstream_bytes = All-append (λ byte. byte < 256) _ _ holds.upstream_bytes bytes;
}

-- bytes went
sent-same : (sent owed : List ℕ) (count : ℕ) → (sent ++ take count owed) ++ drop count owed ≡ sent ++ owed
sent-same sent owed count = append_assoc sent (take count owed) (drop count owed) ∙ ap (λ l. sent ++ l) (take-append-drop count owed)

pub took-holds : (listed : Listed) (watched : Watched) (side : Side) (count : ℕ) → reaches side watched.pair ≡ true → Holds listed watched
    → Holds listed (left_at (change_half side (sent_some count) watched.pair) (change_stream side (with_sent (take count (half_of side watched.pair).owed)) watched))
took-holds listed watched Client count reached holds = record {
  exact = record {
    taken = holds.exact.taken;
    exchanges = holds.exact.exchanges;
    pending = holds.exact.pending;
    parts = holds.exact.parts;
    from_client = holds.exact.from_client;
    from_upstream = holds.exact.from_upstream;
    to_upstream = holds.exact.to_upstream;
    to_client = sent-same watched.client.sent watched.pair.client.owed count ∙ holds.exact.to_client;
    are_bodies = holds.exact.are_bodies;
    are_answers = holds.exact.are_answers;
    each = holds.exact.each;
    last = holds.exact.last;
    bound = holds.exact.bound;
    unused = holds.exact.unused;
    apart = λ unused. record {
      unheard = (holds.exact.apart unused).unheard;
      whole = (holds.exact.apart unused).whole;
      unbound = (holds.exact.apart unused).unbound;
    };
  };
  fated = holds.fated;
  heard_bytes = holds.heard_bytes;
  client_bytes = holds.client_bytes;
  upstream_bytes = holds.upstream_bytes;
}
took-holds listed watched Upstream count reached holds = record {
  exact = record {
    taken = holds.exact.taken;
    exchanges = holds.exact.exchanges;
    pending = holds.exact.pending;
    parts = holds.exact.parts;
    from_client = holds.exact.from_client;
    from_upstream = holds.exact.from_upstream;
    to_upstream = sent-same watched.upstream.sent watched.pair.upstream.owed count ∙ holds.exact.to_upstream;
    to_client = holds.exact.to_client;
    are_bodies = holds.exact.are_bodies;
    are_answers = holds.exact.are_answers;
    each = holds.exact.each;
    last = holds.exact.last;
    bound = holds.exact.bound;
    unused = λ unlinked. true-false watched.pair.is_linked reached unlinked;
    apart = λ unused. true-false true refl unused;
  };
  fated = holds.fated;
  heard_bytes = holds.heard_bytes;
  client_bytes = holds.client_bytes;
  upstream_bytes = holds.upstream_bytes;
}

-- a connection ended
pub lost-holds : (listed : Listed) (watched : Watched) → Holds listed watched → Holds listed (left_at (lost watched.pair).pair watched)
lost-holds listed watched holds = by_used watched.pair.is_used refl
  where
    by_used : (used : Bool) → watched.pair.is_used ≡ used → Holds listed (left_at (lost_if used watched.pair).pair watched)
    by_used true is = holds
    by_used false is = unlinked-holds listed watched is holds
