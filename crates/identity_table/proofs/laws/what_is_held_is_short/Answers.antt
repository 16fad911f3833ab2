use Rattle.std.proofs.Common.{arith}
use Rattle.identity_table.proofs.TableLemmas.{held_is_short}
use Rattle.identity_table.proofs.laws.what_is_held_is_short.Goals as goal

pub returns : goal.returns
returns c = λ blob last keys key sound found. held_is_short blob keys key (omega (arith, sound.fits)) sound.short found
