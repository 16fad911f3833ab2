use Rattle.std.proofs.Common.{◌≡◌, ◌∙◌, ◌∷◌, [], ◌++◌, List, ℕ, Option, OnOk, Some, ap, sym, subst}
use Rattle.child_msg.specs.ChildFrames.{from_child_body}
use Rattle.helper_core.specs.declared.behind.Exchange.{Exchange}
use Rattle.helper_core.specs.Routes.{counted, given_up_by, reply_body}
use Rattle.helper_core.proofs.ReplyLemmas.{handed_on_by}
use Rattle.secret_buf.specs.Buffers.{Buffer}
use Rattle.wire_text.specs.Wire.{string}
use Rattle.world_ports.specs.Journal.{Grows}
use Rattle.helper_core.proofs.reply.hand_on.Goals as goal

pub returns-in-Some : goal.returns-in-Some
returns-in-Some g c =
    let before = g.B.HelperBehind.seen c.args.behind.now in
    let gave_up = g.B.HelperBehind.given_up c.args.behind.now in
    let grew = subst (λ (r : Option Buffer). Grows before (g.B.HelperBehind.seen c.ask.new.self) (record { request = c.args.request.now; reply = reply_body r } ∷ [])) c.in-Some.is c.in_ok-reply.ensures.told in
    handed_on_by c.take.result c.args.asked c.args.request.now before (g.B.HelperBehind.seen c.take.new.behind) gave_up (g.B.HelperBehind.given_up c.take.new.behind)
    c.args.out.now.live c.take.new.out.live (Some c.in-Some.body.live)
    (subst (λ (n : Option (List Exchange)). Grows before n (record { request = c.args.request.now; reply = Some c.in-Some.body.live } ∷ [])) (sym c.take.ensures.same) grew)
    (subst (λ (b : List ℕ). g.B.HelperBehind.given_up c.take.new.behind ≡ given_up_by c.args.asked (Some b) gave_up) c.live.ensures
    (c.take.ensures.parted ∙ ap (given_up_by c.args.asked (Some c.live.result.now)) c.in_ok-reply.ensures.kept))
    (subst (λ (b : List ℕ). OnOk c.take.result (c.take.new.out.live ≡ c.args.out.now.live ++ string (from_child_body (counted c.args.asked (Some b))))) c.live.ensures c.take.ensures.frame)
