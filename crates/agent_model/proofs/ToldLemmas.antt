-- A client that was served is owed bytes, or waits for something.
use Rattle.std.proofs.Common.{◌≡◌, ℕ, ◌<◌, refl, List, [], ◌∷◌, ◌++◌, length, arith}
use Rattle.agent_msg.specs.Replies.{entries}
use Rattle.wire_text.specs.Frames.{More}
use Rattle.wire_text.specs.Wire.{string, uint32}
use Rattle.wire_text.proofs.WireLemmas.{length-string}
use Rattle.agent_model.specs.Dispatch.{Asker, Served}
use Rattle.agent_model.specs.KeyStates.{KeyState}
use Rattle.agent_model.specs.Looks.{due_front}
use Rattle.agent_model.specs.State.{Nothing, UnderWay}
use Rattle.agent_model.specs.Verdicts.{Identities, Reply, Signature, Success, verdict_text, verdict_waits, Replies}
use Rattle.agent_model.proofs.ServeLemmas.{IsServed, answered, asked, raised, refused}

-- a reply has bytes
pub reply_is_some : (reply : Reply) → 0 < length (verdict_text (Replies reply))
reply_is_some Success = omega (arith, length-string (6 ∷ []))
reply_is_some (Identities identities) =
    omega (arith, length-string (12 ∷ (uint32 (length identities) ++ entries identities)))
reply_is_some (Signature signature) = omega (arith, length-string (14 ∷ string signature))

-- nothing is to be taken of a client that is owed bytes
owed_more : (owed heard : List ℕ) → 0 < length owed → due_front Nothing owed heard ≡ More
owed_more [] heard some = elim (nothing_below some) [ ]
  where
    nothing_below : 0 < 0 → ⊥
    nothing_below is = omega arith
owed_more (byte ∷ bytes) heard some = refl

-- nor of one that was served and was owed nothing
pub told_more : {asker : Asker} {held : KeyState} {under_way : UnderWay} {served : Served}
    → IsServed asker held under_way served → (heard : List ℕ)
    → due_front (verdict_waits served.work.verdict) (verdict_text served.work.verdict) heard ≡ More
told_more (answered reply kept same) heard =
    owed_more (verdict_text (Replies reply)) heard (reply_is_some reply)
told_more (refused cause) heard =
    owed_more (string (5 ∷ [])) heard (omega (arith, length-string (5 ∷ [])))
told_more (asked errand free right) heard = refl
told_more (raised key signing free) heard = refl
