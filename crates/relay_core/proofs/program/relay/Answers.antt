use Rattle.std.proofs.Common.{◌∙◌, ap, sym, length, arith}
use Rattle.child_peer.specs.Words.{plain_words}
use Rattle.relay_core.specs.Prompts.{prompt_of}
use Rattle.wire_text.specs.Bounds.{longest_to_child}
use Rattle.wire_text.specs.Frames.{front_body}
use Rattle.wire_text.proofs.FrontLemmas.{whole_within}
use Rattle.relay_core.proofs.RelayLemmas.{asks, ends_half_greeted, ends_ungreeted, ends_unheard, ends_unprompted, greeted}
use Rattle.relay_core.proofs.program.relay.Goals as goal

pub returns-in-Err-Failed : goal.returns-in-Err-Failed
returns-in-Err-Failed g c = λ whole is.
    let says = rw c.in-Err-Failed.field-0-is at c.in-Err-Failed.ensures.says in
    ends_half_greeted (plain_words c.args.words.now) c.args.program.now whole (g.S.Spawner.seen c.args.spawner.now) (g.P.Stream.seen c.args.peer.now) (g.P.Stream.seen c.greet.new.peer) is
    says.0 says.1 c.greet.ensures.only

pub returns-in-Err-Memory : goal.returns-in-Err-Memory
returns-in-Err-Memory g c = λ whole is.
    let says = rw c.in-Err-Memory.field-0-is at c.in-Err-Memory.ensures.says in
    ends_ungreeted whole (g.S.Spawner.seen c.args.spawner.now) (g.P.Stream.seen c.args.peer.now) (g.P.Stream.seen c.greet.new.peer) says

pub returns-in-Err : goal.returns-in-Err
returns-in-Err g c = λ whole is.
    ends_unheard c.in-Err.status (plain_words c.args.words.now) c.args.program.now whole (g.S.Spawner.seen c.args.spawner.now) (g.P.Stream.seen c.args.peer.now) (g.P.Stream.seen c.greet.new.peer)
    (g.P.Stream.seen c.hear_frame.new.peer) c.hear_frame.new.heard.live is c.in-Ok.ensures.says.0 c.in-Ok.ensures.says.1 c.greet.ensures.only c.in-Err.ensures.hears c.hear_frame.ensures.only

pub front_body-requires : goal.front_body-requires
front_body-requires g c =
    omega (arith, ap length c.live.ensures, whole_within longest_to_child c.hear_frame.new.heard.live c.in-Ok-hear_frame.body_len c.in-Ok-hear_frame.ensures.hears.is)

pub returns-in_default : goal.returns-in_default
returns-in_default g c = λ whole is.
    let body = c.front_body.ensures ∙ ap (front_body c.in-Ok-hear_frame.body_len) c.live.ensures in
    ends_unprompted (plain_words c.args.words.now) c.args.program.now whole (g.S.Spawner.seen c.args.spawner.now) (g.P.Stream.seen c.args.peer.now) (g.P.Stream.seen c.greet.new.peer)
    (g.P.Stream.seen c.hear_frame.new.peer) c.hear_frame.new.heard.live c.in-Ok-hear_frame.body_len is c.in-Ok.ensures.says.0 c.in-Ok.ensures.says.1 c.greet.ensures.only
    c.in-Ok-hear_frame.ensures.hears c.hear_frame.ensures.only
    (ap (prompt_of c.args.words.now.job) (sym body) ∙ sym c.in_default.ensures)

pub returns : goal.returns
returns g c = λ whole is.
    let body = c.front_body.ensures ∙ ap (front_body c.in-Ok-hear_frame.body_len) c.live.ensures in
    c.ask.ensures whole (g.P.Stream.seen c.args.peer.now) c.hear_frame.new.heard.live
    (greeted (plain_words c.args.words.now) (g.P.Stream.seen c.args.peer.now) (g.P.Stream.seen c.greet.new.peer) (g.P.Stream.seen c.hear_frame.new.peer) c.hear_frame.new.heard.live
    c.in-Ok-hear_frame.body_len c.in-Ok.ensures.says.0 c.in-Ok.ensures.says.1 c.greet.ensures.only c.in-Ok-hear_frame.ensures.hears c.hear_frame.ensures.only)
    (asks (plain_words c.args.words.now) c.args.program.now c.in-Some.prompt.now whole (g.P.Stream.seen c.greet.new.peer) (g.P.Stream.seen c.hear_frame.new.peer) c.hear_frame.new.heard.live
    c.in-Ok-hear_frame.body_len is c.in-Ok-hear_frame.ensures.hears
    (ap (prompt_of c.args.words.now.job) (sym body) ∙ sym c.in-Some.ensures))
