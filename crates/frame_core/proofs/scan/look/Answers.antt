use Rattle.std.proofs.Common.{sym, arith}
use Rattle.wire_text.proofs.FrontLemmas.{front-short}
use Rattle.frame_core.proofs.LookLemmas.{IsLook-bad, IsLook-more, IsLook-whole}
use Rattle.frame_core.proofs.scan.look.Goals as goal

pub returns-in_default-clause-exact : goal.returns-in_default-clause-exact
returns-in_default-clause-exact c = sym (front-short c.args.max c.args.bytes.now c.in_default.ensures.cases)

pub returns-then-announced-max : goal.returns-then-announced-max
returns-then-announced-max c =
    let found = c.in-Some.ensures.cases in
    let is = IsLook-bad c.args.max c.args.bytes.now c.in-Some.header.now c.in-Some.rest.now c.from_be_bytes-announced.result (record { first = found.0; behind = found.2; value = c.from_be_bytes-announced.ensures }) c.if-announced-max.either in
    record { exact = is.exact; whole = is.whole; bad = is.bad; more = is.more }

pub returns-then-rest-announced : goal.returns-then-rest-announced
returns-then-rest-announced c =
    let found = c.in-Some.ensures.cases in
    let is = IsLook-more c.args.max c.args.bytes.now c.in-Some.header.now c.in-Some.rest.now c.from_be_bytes-announced.result (record { first = found.0; behind = found.2; value = c.from_be_bytes-announced.ensures }) (omega arith) (omega arith) c.if-rest-announced.true in
    record { exact = is.exact; whole = is.whole; bad = is.bad; more = is.more }

pub returns-else-rest-announced : goal.returns-else-rest-announced
returns-else-rest-announced c =
    let found = c.in-Some.ensures.cases in
    let is = IsLook-whole c.args.max c.args.bytes.now c.in-Some.header.now c.in-Some.rest.now c.from_be_bytes-announced.result (record { first = found.0; behind = found.2; value = c.from_be_bytes-announced.ensures }) (omega arith) (omega arith) c.if-rest-announced.false in
    record { exact = is.exact; whole = is.whole; bad = is.bad; more = is.more }
