use Rattle.std.proofs.Common.{◌<◌, arith}
use Rattle.std.proofs.lemmas.List.Elements.{All-from_get_or}
use Rattle.userauth_blob.proofs.Theorems.{login_found, login_only}
use Rattle.userauth_blob.proofs.login.read_login.Goals as goal

pub returns-clause-found : goal.returns-clause-found
returns-clause-found c =
    let each = All-from_get_or (λ byte. byte < 256) c.args.message.now 0 (λ i within. omega (arith, c.type_inv.message i)) in
    let blob_bytes = All-from_get_or (λ byte. byte < 256) c.args.blob.now 0 (λ i within. omega (arith, c.type_inv.blob i)) in
    login_found c.args.message.now c.args.blob.now _ each blob_bytes c.login_in.ensures

pub returns-clause-only : goal.returns-clause-only
returns-clause-only c = login_only c.args.message.now c.args.blob.now _ c.login_in.ensures
