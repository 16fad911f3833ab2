use Rattle.std.proofs.Common.{List, ap, ◌∙◌, ◌==◌, Bool, false}
use Rattle.identity_table.specs.Identities.{HeldKey, identities_with}
use Rattle.identity_table.proofs.KeptLemmas.{full_where_large, room_for_all}
use Rattle.agent_model.specs.Dispatch.{add_by, add_fault, add_unless}
use Rattle.agent_model.specs.Limits.{last_number}
use Rattle.agent_model.proofs.rows.an_addition_has_room_or_is_refused.Goals as goal

pub returns-clause-refused : goal.returns-clause-refused
returns-clause-refused c = λ addition asker held under_way new large.
    let all : List HeldKey = identities_with held.table addition.key addition.terms addition.comment asker.mono in
    ap (λ found. add_by found asker addition held under_way) new
    ∙ ap (λ (full : Bool). add_unless (add_fault full (held.table.last == last_number)) addition asker.mono held under_way) (full_where_large all large)

pub returns-clause-taken : goal.returns-clause-taken
returns-clause-taken c = λ addition asker held under_way new small lists numbers.
    let all : List HeldKey = identities_with held.table addition.key addition.terms addition.comment asker.mono in
    ap (λ found. add_by found asker addition held under_way) new
    ∙ ap (λ (full : Bool). add_unless (add_fault full (held.table.last == last_number)) addition asker.mono held under_way) (room_for_all all lists small)
    ∙ ap (λ (spent : Bool). add_unless (add_fault false spent) addition asker.mono held under_way) numbers
