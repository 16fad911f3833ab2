use Rattle.std.proofs.Common.{◌<◌, ◌∙◌, arith}
use Rattle.std.proofs.lemmas.List.Elements.{All-from_get_or}
use Rattle.key_file.proofs.BodyAnswers.{answered, body_found, body_only, body_own_memory}
use Rattle.key_file.proofs.body.read_body.Goals as goal

pub returns-clause-found : goal.returns-clause-found
returns-clause-found c =
    let each = All-from_get_or (λ byte. byte < 256) c.args.text.now 0 (λ i within. omega (arith, c.type_inv.text i)) in
    body_found c.args.text.now _ each (answered c.args.text.now _ _ (c.live.ensures ∙ c.in_ok-kept.ensures) c.encoded.ensures)

pub returns-clause-only : goal.returns-clause-only
returns-clause-only c = body_only c.args.text.now _ (answered c.args.text.now _ _ (c.live.ensures ∙ c.in_ok-kept.ensures) c.encoded.ensures)

pub returns-clause-own_memory : goal.returns-clause-own_memory
returns-clause-own_memory c = body_own_memory c.args.text.now _ (answered c.args.text.now _ _ (c.live.ensures ∙ c.in_ok-kept.ensures) c.encoded.ensures)
