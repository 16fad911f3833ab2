use Rattle.std.proofs.Common.{◌<◌, arith}
use Rattle.std.proofs.lemmas.List.Elements.{All-from_get_or}
use Rattle.key_file.proofs.Answered.{line_found, line_only, line_own_memory}
use Rattle.key_file.proofs.line.read_pub_line.Goals as goal

pub returns-clause-found : goal.returns-clause-found
returns-clause-found c =
    let each = All-from_get_or (λ byte. byte < 256) c.args.text.now 0 (λ i within. omega (arith, c.type_inv.text i)) in
    line_found (λ v. v.items) c.args.text.now _ each c.key_in.ensures

pub returns-clause-only : goal.returns-clause-only
returns-clause-only c = line_only (λ v. v.items) c.args.text.now _ c.key_in.ensures

pub returns-clause-own_memory : goal.returns-clause-own_memory
returns-clause-own_memory c = line_own_memory (λ v. v.items) c.args.text.now _ c.key_in.ensures
