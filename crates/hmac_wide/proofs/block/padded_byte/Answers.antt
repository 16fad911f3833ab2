use Rattle.std.proofs.Common.{sym}
use Rattle.hmac_wide.proofs.BlockLemmas.{padded-behind}
use Rattle.hmac_wide.proofs.block.padded_byte.Goals as goal

pub returns-else-place-key : goal.returns-else-place-key
returns-else-place-key c =
    sym (padded-behind c.args.pad c.args.key.now c.args.place c.if-place-key.false c.requires.within)
