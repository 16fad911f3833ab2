use Rattle.std.proofs.Common.{◌<◌, arith}
use Rattle.std.proofs.lemmas.List.Elements.{All-from_get_or}
use Rattle.sshsig_blob.proofs.Theorems.{sshsig_found, sshsig_only}
use Rattle.sshsig_blob.proofs.sshsig.read_sshsig.Goals as goal

pub returns-clause-found : goal.returns-clause-found
returns-clause-found c =
    let each = All-from_get_or (λ byte. byte < 256) c.args.message.now 0 (λ i within. omega (arith, c.type_inv.message i)) in
    sshsig_found c.args.message.now _ each c.signed_data.ensures

pub returns-clause-only : goal.returns-clause-only
returns-clause-only c = sshsig_only c.args.message.now _ c.signed_data.ensures
