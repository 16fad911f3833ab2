use Rattle.std.proofs.Common.{◌≡◌, ◌∷◌, [], ◌++◌, List, ℕ, Result, sym, ap, subst, ◌∙◌, rules}
use Rattle.wire_text.specs.Wire.{string}
use Rattle.agent_msg.specs.declared.agent_reply.ReplyFault.{ReplyFault}
use Rattle.agent_msg.specs.ReplyReading.{AgentReply, reply_of}
use Rattle.add_core.specs.Exchanges.{asked, reply_at}
use Rattle.add_core.specs.Listings.{list_reply, list_step}
use Rattle.add_core.specs.Steps.{Follows, Stops, IsWhole}
use Rattle.add_core.proofs.StepLemmas.{none_is_cut, stops_in_front, goes_on}
use Rattle.add_core.proofs.listing.list.Goals as goal

pub returns-in_err-write_request-clause-told : goal.returns-in_err-write_request-clause-told
returns-in_err-write_request-clause-told g c = λ replies known.
    let cut = none_is_cut (list_step c.args.listing replies) (g.P.Stream.seen c.args.peer.now) (g.O.Stream.seen c.args.output.now) in
    search rules

pub returns-in_err-body-clause-told : goal.returns-in_err-body-clause-told
returns-in_err-body-clause-told g c = λ replies known.
    let stop = c.in_err-body.field-0.0 in
    let o = g.O.Stream.seen c.args.output.now in
    let p0 = g.P.Stream.seen c.args.peer.now in
    let p1 = g.P.Stream.seen c.exchange.new.peer in
    let frame : c.live.result.now ≡ string (11 ∷ []) =
    c.live.ensures ∙ c.in_ok-write_request.ensures.ok ∙ ap (λ (l : List ℕ). l ++ string (11 ∷ [])) (ap (λ b. b.live) c.new-frame.ensures) in
    let asks = subst (λ (f : List ℕ). Stops stop (asked f replies) p0 p1 o o) frame (c.in_err-body.ensures.told replies o known) in
    let stops = stops_in_front stop (asked (string (11 ∷ [])) replies) (list_reply c.args.listing (reply_at replies)) p0 p1 o o asks in
    search rules

pub returns-clause-told : goal.returns-clause-told
returns-clause-told g c = λ replies known.
    let listing = c.args.listing in
    let o0 = g.O.Stream.seen c.args.output.now in
    let o1 = g.O.Stream.seen c.write_reply.new.output in
    let p0 = g.P.Stream.seen c.args.peer.now in
    let p1 = g.P.Stream.seen c.exchange.new.peer in
    let frame : c.live.result.now ≡ string (11 ∷ []) =
    c.live.ensures ∙ c.in_ok-write_request.ensures.ok ∙ ap (λ (l : List ℕ). l ++ string (11 ∷ [])) (ap (λ b. b.live) c.new-frame.ensures) in
    let whole = subst (λ (f : List ℕ). IsWhole (asked f replies) p0 p1 o0 o0) frame (c.in_ok-body.ensures.told replies o0 known) in
    let left = (asked (string (11 ∷ [])) replies).left in
    let reply : reply_of c.deref.result.now ≡ reply_at replies =
    ap reply_of c.deref.ensures.value ∙ sym (c.in_ok-body.ensures.reply replies known) in
    let wrote = subst (λ (r : Result AgentReply ReplyFault). Follows {T = Unit {0}} c.write_reply.result (list_reply listing r left) p1 p1 o0 o1) reply
    (c.write_reply.ensures.told left p1 whole.left) in
    goes_on {T = Unit {0}} c.write_reply.result (asked (string (11 ∷ [])) replies) (list_reply listing (reply_at replies)) p0 p1 p1 o0 o0 o1 whole wrote
