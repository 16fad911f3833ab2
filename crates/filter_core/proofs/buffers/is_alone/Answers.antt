use Rattle.std.proofs.Common.{◌<◌, arith}
use Rattle.std.proofs.lemmas.List.Elements.{All-from_get_or}
use Rattle.wire_text.specs.Bounds.{longest_body}
use Rattle.filter_core.proofs.BufferLemmas.{alone_is_string}
use Rattle.filter_core.proofs.buffers.is_alone.Goals as goal

pub returns-then-heard-body_len-clause-whole : goal.returns-then-heard-body_len-clause-whole
returns-then-heard-body_len-clause-whole c =
    let each = All-from_get_or (λ byte. byte < 256) c.args.heard.now 0 (λ i within. omega (arith, c.type_inv.heard i)) in
    λ holds. alone_is_string longest_body c.args.heard.now c.args.body_len each c.requires (omega arith)
