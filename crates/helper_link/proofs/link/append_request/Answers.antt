use Rattle.std.proofs.Common.{◌≡◌, ℕ, ◌+◌, ◌++◌, List, length, ap, sym, ◌∙◌, arith, length-append}
use Rattle.wire_text.specs.Wire.{string}
use Rattle.wire_text.proofs.WireLemmas.{length-string}
use Rattle.child_msg.specs.ChildFrames.{to_child_body}
use Rattle.child_msg.specs.Messages.{to_child_message}
use Rattle.child_msg.proofs.WriteLemmas.{length-to_child_body}
use Rattle.helper_link.proofs.link.append_request.Goals as goal

-- what is owed has four bytes and the body more
longer : (old new before after body : List ℕ) → before ≡ old → after ≡ new → new ≡ old ++ string body →
    length after ≡ length before + (4 + length body)
longer old new before after body first last is =
    ap (λ (bytes : List ℕ). length bytes) (last ∙ is ∙ ap (λ (bytes : List ℕ). bytes ++ string body) (sym first))
    ∙ length-append before (string body) ∙ ap (λ (n : ℕ). length before + n) (length-string body)

pub overflow_sub-result-2 : goal.overflow_sub-result-2
overflow_sub-result-2 c =
    omega (
      arith,
      longer _ _ c.live-before.result.now c.live.result.now (to_child_body (to_child_message c.args.request.now))
          c.live-before.ensures c.live.ensures c.in_ok-write_to_child.ensures.ok,
    )

pub returns-clause-size : goal.returns-clause-size
returns-clause-size c =
    omega (
      arith,
      longer _ _ c.live-before.result.now c.live.result.now (to_child_body (to_child_message c.args.request.now))
          c.live-before.ensures c.live.ensures c.in_ok-write_to_child.ensures.ok,
    )

pub returns-clause-small : goal.returns-clause-small
returns-clause-small c =
    omega (
      arith,
      longer _ _ c.live-before.result.now c.live.result.now (to_child_body (to_child_message c.args.request.now))
          c.live-before.ensures c.live.ensures c.in_ok-write_to_child.ensures.ok,
      length-to_child_body (to_child_message c.args.request.now),
      c.requires,
    )
