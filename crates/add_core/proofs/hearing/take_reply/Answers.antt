use Rattle.std.proofs.Common.{◌≡◌, ◌⊎◌, ◌<◌, List, ℕ, drop, subst, rules}
use Rattle.wire_text.specs.Bounds.{longest_body}
use Rattle.wire_text.specs.Wire.{announced_len}
use Rattle.add_core.specs.Hearing.{Announces}
use Rattle.add_core.proofs.HearingLemmas.{no_length, bad_length, whole_or_none}
use Rattle.add_core.proofs.hearing.take_reply.Goals as goal

pub returns-in_err-header-clause-reply : goal.returns-in_err-header-clause-reply
returns-in_err-header-clause-reply g c = λ replies known.
    let first = c.read_first.ensures.first replies known in
    let short = no_length replies in
    search rules

pub returns-in_default-clause-reply : goal.returns-in_default-clause-reply
returns-in_default-clause-reply g c = λ replies known is.
    let first = c.in_ok-header.ensures.first replies known in
    bad_length replies c.in_ok-header.header.items first.enough first.first
    (subst (λ (l : List ℕ). (announced_len l ≡ 0) ⊎ (longest_body < announced_len l)) c.deref.ensures.value c.in_default.ensures)

pub returns-clause-reply : goal.returns-clause-reply
returns-clause-reply g c = λ replies known.
    let first = c.in_ok-header.ensures.first replies known in
    whole_or_none (λ body. body.items) c.read_first-2.result replies c.in_ok-header.header.items c.in-Some.count _ first.enough first.first
    (subst (λ (l : List ℕ). Announces l c.in-Some.count) c.deref.ensures.value c.in-Some.ensures)
    (c.read_first-2.ensures.first (drop 4 replies) first.left)
