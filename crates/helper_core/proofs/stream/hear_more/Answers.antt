use Rattle.std.proofs.Common.{◌≡◌, ◌<◌, ◌∙◌, ap, sym, length, [], arith}
use Rattle.std.proofs.lemmas.Bool.Decides.{nat_tests}
use Rattle.std.proofs.lemmas.List.{nil_from_length}
use Rattle.helper_core.proofs.EndLemmas.{at, ends_early, ends_done, ends_torn, ends_unread, under_way-kept, under_way-piece}
use Rattle.helper_core.proofs.stream.hear_more.Goals as goal

pub returns-in-Ok-Bytes : goal.returns-in-Ok-Bytes
returns-in-Ok-Bytes g c = λ route talk start behind under.
    let hears = rw c.in-Ok-Bytes.field-0-is at c.in-Ok-Bytes.ensures.hears in
    under_way-piece route talk start behind (g.P.Stream.seen c.args.peer.now) (g.P.Stream.seen c.hear.new.peer) c.args.heard.now.live c.hear.new.heard.live under hears c.hear.ensures.only

pub returns-in-Ok-End : goal.returns-in-Ok-End
returns-in-Ok-End g c = λ route talk start behind under.
    let hears = rw c.in-Ok-End.field-0-is at c.in-Ok-End.ensures.hears in
    let empty : c.hear.new.heard.live ≡ [] = sym c.live.ensures ∙ nil_from_length c.live.result.now (grind (arith, nat_tests)) in
    ends_done route talk start behind (g.P.Stream.seen c.args.peer.now) (g.P.Stream.seen c.hear.new.peer) c.args.heard.now.live c.hear.new.heard.live under c.requires
    hears.0 hears.1 hears.2 c.hear.ensures.only empty

pub returns-in-Ok-End-2 : goal.returns-in-Ok-End-2
returns-in-Ok-End-2 g c = λ route talk start behind under.
    let hears = rw c.in-Ok-End-2.field-0-is at c.in-Ok-End.ensures.hears in
    let some : 0 < length c.live.result.now = grind (arith, nat_tests) in
    ends_torn route talk start behind (g.P.Stream.seen c.args.peer.now) (g.P.Stream.seen c.hear.new.peer) c.args.heard.now.live c.hear.new.heard.live under c.requires
    hears.0 hears.1 hears.2 c.hear.ensures.only (λ empty. omega (arith, ap length (c.live.ensures ∙ empty), some))

pub returns-in-Err-Failed : goal.returns-in-Err-Failed
returns-in-Err-Failed g c = λ route talk start behind under.
    let hears = rw c.in-Err-Failed.field-0-is at c.in-Err-Failed.ensures.hears in
    ends_unread route talk start behind (g.P.Stream.seen c.args.peer.now) (g.P.Stream.seen c.hear.new.peer) c.args.heard.now.live c.hear.new.heard.live under c.requires
    hears.0 hears.1 c.hear.ensures.only

pub returns-in-Err-Memory : goal.returns-in-Err-Memory
returns-in-Err-Memory g c = λ route talk start behind under.
    let hears = rw c.in-Err-Memory.field-0-is at c.in-Err-Memory.ensures.hears in
    ends_early route talk start (at behind (g.P.Stream.seen c.hear.new.peer)) c.hear.new.heard.live
    (under_way-kept route talk start behind (g.P.Stream.seen c.args.peer.now) (g.P.Stream.seen c.hear.new.peer) c.args.heard.now.live c.hear.new.heard.live under
    hears.0 hears.1 c.hear.ensures.only)
