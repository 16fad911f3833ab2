use Rattle.std.proofs.Common.{length}
use Rattle.key_purposes.specs.Messages.{use_of}
use Rattle.confirm_desk.proofs.LineLemmas.{line-alike, line-tells, line-tells-hosts}
use Rattle.confirm_desk.proofs.laws.a_third_line_tells_what_is_signed.Goals as goal

pub returns : goal.returns
returns c = record {
  same_host = λ host message blob other other_blob short other_short same.
      line-tells host (use_of message blob) (use_of other other_blob) (length message) (length other) short other_short same;
  hosts = λ host other_host message blob other other_blob short other_short none other_none same.
      line-tells-hosts host other_host (use_of message blob) (use_of other other_blob) (length message) (length other) short other_short none other_none same;
  alike = λ host other_host message blob other other_blob short other_short same.
      line-alike host other_host (use_of message blob) (use_of other other_blob) (length message) (length other) short other_short same;
}
