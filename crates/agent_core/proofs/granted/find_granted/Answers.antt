use Rattle.std.proofs.Common.{sym}
use Rattle.agent_core.proofs.ConfirmerLemmas.{short_key}
use Rattle.agent_core.proofs.granted.find_granted.Goals as goal

pub returns-clause-short : goal.returns-clause-short
returns-clause-short c =
    short_key c.args.addition c.args.table.now.identities c.in_ok-key.key.now (sym c.in_ok-key.ensures.value) c.in_ok-key.ensures.sound.short c.in_ok-key.ensures.sound.fits
