use Rattle.std.proofs.Common.{List, ℕ, Ok, Err, subst, rules}
use Rattle.agent_msg.specs.ReplyReading.{reply_of}
use Rattle.add_core.specs.declared.fault.AddFault.TheVariants.{OutputFault}
use Rattle.add_core.specs.declared.fault.Stop.TheVariants.{Fault}
use Rattle.add_core.specs.Exchanges.{asked, judged, reply_at, verdict_of, Judges}
use Rattle.add_core.specs.Steps.{telling, followed}
use Rattle.add_core.proofs.StepLemmas.{stops_in_front, goes_on, asked_judged, told_whole, told_cut}
use Rattle.add_core.proofs.exchange.request.Goals as goal

pub returns-in_err-body-clause-told : goal.returns-in_err-body-clause-told
returns-in_err-body-clause-told g c = λ replies known.
    let stop = c.in_err-body.field-0.0 in
    let first = asked c.args.frame.now replies in
    let then_judged = judged (verdict_of (reply_at replies)) in
    let s = g.S.Stream.seen c.args.sink.now in
    let asks = c.in_err-body.ensures.told replies s known in
    let stops = stops_in_front stop (followed first then_judged) (telling c.args.line.now) _ _ s s (stops_in_front stop first then_judged _ _ s s asks) in
    search rules

pub returns-in_err-judge-clause-told : goal.returns-in_err-judge-clause-told
returns-in_err-judge-clause-told g c = λ replies known.
    let stop = c.in_err-judge.field-0.0 in
    let s = g.S.Stream.seen c.args.sink.now in
    let body = c.in_ok-body.body.items in
    let judges = subst (λ (l : List ℕ). Judges {T = Unit {0}} (Err stop) (verdict_of (reply_of l))) c.deref.ensures.value c.in_err-judge.ensures in
    let both = asked_judged {T = Unit {0}} (Err stop) c.args.frame.now replies body _ _ s (c.in_ok-body.ensures.told replies s known) (c.in_ok-body.ensures.reply replies known) judges in
    let stops = stops_in_front stop (followed (asked c.args.frame.now replies) (judged (verdict_of (reply_at replies)))) (telling c.args.line.now) _ _ s s both in
    search rules

pub returns-in_err-write_all-clause-told : goal.returns-in_err-write_all-clause-told
returns-in_err-write_all-clause-told g c = λ replies known.
    let frame = c.args.frame.now in
    let s = g.S.Stream.seen c.args.sink.now in
    let judges = subst (λ (l : List ℕ). Judges {T = Unit {0}} (Ok tt) (verdict_of (reply_of l))) c.deref.ensures.value c.in_ok-judge.ensures in
    let both = asked_judged {T = Unit {0}} (Ok tt) frame replies c.in_ok-body.body.items _ _ s (c.in_ok-body.ensures.told replies s known) (c.in_ok-body.ensures.reply replies known) judges in
    let front = followed (asked frame replies) (judged (verdict_of (reply_at replies))) in
    let stops = goes_on {T = Unit {0}} (Err (Fault OutputFault)) front (telling c.args.line.now) _ _ _ s s _ both
    (told_cut c.args.line.now front.left _ s _ c.in_err-write_all.ensures.err) in
    search rules

pub returns-clause-told : goal.returns-clause-told
returns-clause-told g c = λ replies known.
    let frame = c.args.frame.now in
    let s = g.S.Stream.seen c.args.sink.now in
    let judges = subst (λ (l : List ℕ). Judges {T = Unit {0}} (Ok tt) (verdict_of (reply_of l))) c.deref.ensures.value c.in_ok-judge.ensures in
    let both = asked_judged {T = Unit {0}} (Ok tt) frame replies c.in_ok-body.body.items _ _ s (c.in_ok-body.ensures.told replies s known) (c.in_ok-body.ensures.reply replies known) judges in
    let front = followed (asked frame replies) (judged (verdict_of (reply_at replies))) in
    goes_on {T = Unit {0}} (Ok tt) front (telling c.args.line.now) _ _ _ s s _ both
    (told_whole c.args.line.now front.left _ s _ both.left c.in_ok-write_all.ensures.ok)
