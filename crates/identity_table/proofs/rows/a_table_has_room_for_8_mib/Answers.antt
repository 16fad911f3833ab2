use Rattle.std.proofs.Common.{◌∷◌, replicate, arith}
use Rattle.identity_table.proofs.KeptLemmas.{full_where_large, kept_len-cons, kept_len-replicate, room_for_all}
use Rattle.identity_table.proofs.rows.a_table_has_room_for_8_mib.Goals as goal

pub returns-clause-fits : goal.returns-clause-fits
returns-clause-fits c = λ key takes lists.
    room_for_all (replicate 32 key) lists (omega (arith, takes, kept_len-replicate 32 key))

pub returns-clause-above : goal.returns-clause-above
returns-clause-above c = λ key one takes more.
    full_where_large (one ∷ replicate 32 key)
    (omega (arith, takes, more, kept_len-cons one (replicate 32 key), kept_len-replicate 32 key))
