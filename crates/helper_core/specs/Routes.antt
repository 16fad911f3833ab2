-- What becomes of a request (ours): it is answered, or handed on to the helper behind, whose reply counts only under
-- the request's own number.
use Rattle.std.specs.Prelude.{◌≡◌, ℕ, ◌==◌, if◌then◌else◌, Bool, true, false, List, ◌∷◌, [], ◌++◌, Option, Some, None, Result, Ok, Err, option_map}
use Rattle.std.specs.Result.{result_ok}
use Rattle.std.specs.declared.alloc.AllocError.{AllocError}
use Rattle.child_msg.specs.ChildFrames.{from_child_body}
use Rattle.child_msg.specs.Messages.{FromChildMessage, Hello, Signed, Refused, True, False, Granted, Denied}
use Rattle.child_msg.specs.Reading.{from_child_of}
use Rattle.helper_core.specs.declared.answerer.Routed.{Routed}
use Rattle.helper_core.specs.declared.answerer.Routed.TheVariants as routed
use Rattle.helper_core.specs.declared.asked.Asked.{Asked}
use Rattle.helper_core.specs.declared.asked.Asked.TheVariants.{Signature, Verdict}
use Rattle.helper_core.specs.declared.behind.Exchange.{Exchange}
use Rattle.secret_buf.specs.Buffers.{Buffer}
use Rattle.wire_text.specs.Wire.{string}
use Rattle.world_ports.specs.Causes.{next_count}
use Rattle.world_ports.specs.Journal.{Grows, Tells}

-- what becomes of a body
pub data Route : Type 0 where
  -- this is the answer
  Answered : (answer : FromChildMessage) → Route
  -- the helper behind is asked for the answer
  HandedOn : (asked : Asked) → Route
  -- the body is no request to a helper, and has no answer
  NoRequest : Route

-- the code says what becomes of a body, and appended the frame of its answer, where the body is answered
abbrev pub IsRouted : Routed → Route → List ℕ → List ℕ → Type 0
IsRouted routed.Answered (Answered answer) before now = now ≡ before ++ string (from_child_body answer)
IsRouted routed.Answered (HandedOn asked) before now = ⊥
IsRouted routed.Answered NoRequest before now = ⊥
IsRouted (routed.HandedOn code) (Answered answer) before now = ⊥
IsRouted (routed.HandedOn code) (HandedOn asked) before now = (code ≡ asked) × (now ≡ before)
IsRouted (routed.HandedOn code) NoRequest before now = ⊥
IsRouted routed.NoRequest (Answered answer) before now = ⊥
IsRouted routed.NoRequest (HandedOn asked) before now = ⊥
IsRouted routed.NoRequest NoRequest before now = now ≡ before

-- ---- replies

-- the signature of a reply under this number, where it is one; else a refusal
abbrev pub signed_under : ℕ → Option FromChildMessage → FromChildMessage
signed_under ask (Some (Signed number signature)) = if number == ask then Signed ask signature else Refused ask
signed_under ask (Some (Hello job ticket)) = Refused ask
signed_under ask (Some (Refused number)) = Refused ask
signed_under ask (Some (True number)) = Refused ask
signed_under ask (Some (False number)) = Refused ask
signed_under ask (Some (Granted job)) = Refused ask
signed_under ask (Some (Denied job)) = Refused ask
signed_under ask None = Refused ask

-- TRUE where the reply is TRUE under this number; else FALSE
abbrev pub verdict_under : ℕ → Option FromChildMessage → FromChildMessage
verdict_under ask (Some (True number)) = if number == ask then True ask else False ask
verdict_under ask (Some (Hello job ticket)) = False ask
verdict_under ask (Some (Signed number signature)) = False ask
verdict_under ask (Some (Refused number)) = False ask
verdict_under ask (Some (False number)) = False ask
verdict_under ask (Some (Granted job)) = False ask
verdict_under ask (Some (Denied job)) = False ask
verdict_under ask None = False ask

-- the message of a reply's body, where there is one
abbrev pub reply_message : Option (List ℕ) → Option FromChildMessage
reply_message (Some body) = result_ok (from_child_of body)
reply_message None = None

-- the answer to a request that was handed on, by the body of the reply
unfoldable pub counted : Asked → Option (List ℕ) → FromChildMessage
counted (Signature ask) reply = signed_under ask (reply_message reply)
counted (Verdict ask) reply = verdict_under ask (reply_message reply)

-- the message is a reply to what was asked: it is of its kind, and under its number
abbrev pub is_to : Asked → Option FromChildMessage → Bool
is_to (Signature ask) (Some (Signed number signature)) = number == ask
is_to (Signature ask) (Some (Refused number)) = number == ask
is_to (Signature ask) (Some (True number)) = false
is_to (Signature ask) (Some (False number)) = false
is_to (Signature ask) (Some (Hello job ticket)) = false
is_to (Signature ask) (Some (Granted job)) = false
is_to (Signature ask) (Some (Denied job)) = false
is_to (Signature ask) None = false
is_to (Verdict ask) (Some (True number)) = number == ask
is_to (Verdict ask) (Some (False number)) = number == ask
is_to (Verdict ask) (Some (Signed number signature)) = false
is_to (Verdict ask) (Some (Refused number)) = false
is_to (Verdict ask) (Some (Hello job ticket)) = false
is_to (Verdict ask) (Some (Granted job)) = false
is_to (Verdict ask) (Some (Denied job)) = false
is_to (Verdict ask) None = false

-- ---- the helper behind

-- how many helpers were given up, behind a reply: one more exactly where it came and was none to what was asked
abbrev pub given_up_by : Asked → Option (List ℕ) → ℕ → ℕ
given_up_by asked (Some body) given_up = if is_to asked (reply_message (Some body)) then given_up else next_count given_up
given_up_by asked None given_up = given_up

-- the body of a reply
abbrev pub reply_body : Option Buffer → Option (List ℕ)
reply_body reply = option_map (λ body. body.live) reply

-- the request was handed on, once, and this was replied; where memory ran out it may not have been
abbrev pub IsAsked : Result (Option Buffer) AllocError → List ℕ → Option (List Exchange) → Option (List Exchange) → Type 0
IsAsked (Ok reply) request before now = Grows before now (record { request = request; reply = reply_body reply } ∷ [])
IsAsked (Err _) request before now = Tells before now true (record { request = request; reply = None })
