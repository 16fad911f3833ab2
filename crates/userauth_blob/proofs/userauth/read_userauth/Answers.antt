use Rattle.std.proofs.Common.{◌<◌, arith}
use Rattle.std.proofs.lemmas.List.Elements.{All-from_get_or}
use Rattle.userauth_blob.proofs.Theorems.{userauth_found, userauth_only}
use Rattle.userauth_blob.proofs.userauth.read_userauth.Goals as goal

pub returns-clause-found : goal.returns-clause-found
returns-clause-found c =
    let each = All-from_get_or (λ byte. byte < 256) c.args.message.now 0 (λ i within. omega (arith, c.type_inv.message i)) in
    userauth_found c.args.message.now c.args.blob.now _ each c.userauth_in.ensures

pub returns-clause-only : goal.returns-clause-only
returns-clause-only c = userauth_only c.args.message.now c.args.blob.now _ c.userauth_in.ensures
