use Rattle.std.proofs.Common.{◌<◌, arith}
use Rattle.std.proofs.lemmas.List.Elements.{All-from_get_or}
use Rattle.key_file.proofs.Answered.{typed_found, typed_only, typed_own_memory}
use Rattle.key_file.proofs.line.read_typed.Goals as goal

pub returns-clause-found : goal.returns-clause-found
returns-clause-found c =
    let each = All-from_get_or (λ byte. byte < 256) c.args.text.now 0 (λ i within. omega (arith, c.type_inv.text i)) in
    typed_found (λ v. v.items) c.args.type_name.now c.args.text.now _ each c.typed_in.ensures

pub returns-clause-only : goal.returns-clause-only
returns-clause-only c = typed_only (λ v. v.items) c.args.type_name.now c.args.text.now _ c.typed_in.ensures

pub returns-clause-own_memory : goal.returns-clause-own_memory
returns-clause-own_memory c = typed_own_memory (λ v. v.items) c.args.type_name.now c.args.text.now _ c.typed_in.ensures
