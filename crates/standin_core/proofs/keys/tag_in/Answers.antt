use Rattle.std.proofs.Common.{sym, arith}
use Rattle.standin_core.proofs.KeyLemmas.{tag_of-none, tag_of-other, tag_of-some}
use Rattle.standin_core.proofs.keys.tag_in.Goals as goal

pub returns-in_err-tag : goal.returns-in_err-tag
returns-in_err-tag c =
    rw c.from_residual.ensures (sym (tag_of-none c.args.blob.now c.in_err-tag.ensures))

pub returns-then-tag-ne32 : goal.returns-then-tag-ne32
returns-then-tag-ne32 c =
    sym (tag_of-other c.args.blob.now c.in_ok-tag.tag.now c.in_ok-tag.ensures (λ same. omega arith))

pub returns : goal.returns
returns c = sym (tag_of-some c.args.blob.now c.in_ok-tag.tag.now c.in_ok-tag.ensures (omega arith))
