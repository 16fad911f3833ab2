use Rattle.std.proofs.Common.{◌++◌, ◌∙◌, ap, sym, subst, length, List, ℕ, arith}
use Rattle.std.specs.Io.KnownBytes.{Appends}
use Rattle.secret_buf.specs.Buffers.{Buffer}
use Rattle.terms_core.specs.Relays.{IsRelayed}
use Rattle.terms_core.proofs.EndLemmas.{ends_ungiven}
use Rattle.terms_core.proofs.RelayLemmas.{both, broken-relayed, relayed-given}
use Rattle.wire_text.specs.Bounds.{longest_body}
use Rattle.wire_text.specs.Frames.{front_body}
use Rattle.wire_text.specs.Wire.{string}
use Rattle.wire_text.proofs.FrontLemmas.{whole_within}
use Rattle.world_ports.specs.Streams.{WritesPart}
use Rattle.terms_core.proofs.passing.give.Goals as goal

pub front_body-requires : goal.front_body-requires
front_body-requires g c = omega (arith, ap length c.live.ensures, whole_within longest_body c.args.replied.now.live c.args.body_len c.requires)

pub returns-in-Err : goal.returns-in-Err
returns-in-Err g c = λ start terms asked agent is.
    broken-relayed terms 1 asked c.args.replied.now.live start (both (g.C.Stream.seen c.args.client.now) agent) (omega arith) is

pub consume-requires : goal.consume-requires
consume-requires g c = whole_within longest_body c.args.replied.now.live c.args.body_len c.requires

pub returns-in-Ok-flush : goal.returns-in-Ok-flush
returns-in-Ok-flush g c = λ start terms asked agent is.
    let body = c.front_body.ensures ∙ ap (front_body c.args.body_len) c.live.ensures in
    let frame = c.in-Ok.ensures.ok ∙ ap (λ (b : Buffer). b.live ++ string c.front_body.result.now) c.new-out.ensures ∙ ap string body in
    subst (λ (a : List ℕ). IsRelayed terms 0 asked a start (both (g.C.Stream.seen c.flush.new.peer) agent)) (sym c.consume.ensures.live)
    (relayed-given terms asked c.args.replied.now.live start (g.C.Stream.seen c.args.client.now) (g.C.Stream.seen c.flush.new.peer) agent c.args.body_len is c.requires
    (subst (Appends (g.C.Stream.seen c.args.client.now).written (g.C.Stream.seen c.flush.new.peer).written) frame c.in-Ok-flush.ensures.ok)
    c.in-Ok-flush.ensures.cause.kept c.in-Ok-flush.ensures.only)

pub returns : goal.returns
returns g c = λ start terms asked agent is.
    let body = c.front_body.ensures ∙ ap (front_body c.args.body_len) c.live.ensures in
    let frame = c.in-Ok.ensures.ok ∙ ap (λ (b : Buffer). b.live ++ string c.front_body.result.now) c.new-out.ensures ∙ ap string body in
    ends_ungiven terms asked c.args.replied.now.live start (g.C.Stream.seen c.args.client.now) (g.C.Stream.seen c.flush.new.peer) agent c.args.body_len is c.requires
    (subst (λ (b : List ℕ). WritesPart b (g.C.Stream.seen c.args.client.now) (g.C.Stream.seen c.flush.new.peer)) frame c.in-Err-flush.ensures.err)
    c.in-Err-flush.ensures.cause.fault c.in-Err-flush.ensures.only
