use Rattle.std.proofs.Common.{◌≡◌, ◌∙◌, ap, subst, sym, ℕ, List, Option}
use Rattle.std.specs.Prelude.{IfOk}
use Rattle.agent_msg.specs.Requests.{Addition}
use Rattle.identity_table.specs.Identities.{find_identity}
use Rattle.agent_core.specs.Served.{IsStatus, asker_of, hides, keys_of}
use Rattle.agent_model.specs.Dispatch.{Served}
use Rattle.agent_model.specs.State.{UnderWay}
use Rattle.agent_core.proofs.HeldLemmas.{after_ok, hidden-add, shown-add}
use Rattle.agent_core.proofs.requests.add.Goals as goal

pub returns-then-is_hidden-clause-keys : goal.returns-then-is_hidden-clause-keys
returns-then-is_hidden-clause-keys c = λ (lock : Option (List ℕ)) (going : UnderWay).
    let keys = keys_of c.args.table.now lock in
    let addition : Addition = record { key = c.args.key; comment = c.args.comment.now; terms = c.args.terms } in
    let found = find_identity c.args.key.blob c.args.table.now.identities in
    let asker = asker_of c.args.asker.now keys in
    let same : hides found asker ≡ c.is_hidden.result = ap (λ blob. hides (find_identity blob c.args.table.now.identities) asker) (sym c.as_slice.ensures) ∙ sym (c.is_hidden.ensures lock) in
    (hidden-add found asker addition keys going (same ∙ c.if-is_hidden.true)).0

pub returns-then-is_hidden-clause-work : goal.returns-then-is_hidden-clause-work
returns-then-is_hidden-clause-work c = λ (lock : Option (List ℕ)) (going : UnderWay).
    let keys = keys_of c.args.table.now lock in
    let addition : Addition = record { key = c.args.key; comment = c.args.comment.now; terms = c.args.terms } in
    let found = find_identity c.args.key.blob c.args.table.now.identities in
    let asker = asker_of c.args.asker.now keys in
    let same : hides found asker ≡ c.is_hidden.result = ap (λ blob. hides (find_identity blob c.args.table.now.identities) asker) (sym c.as_slice.ensures) ∙ sym (c.is_hidden.ensures lock) in
    (hidden-add found asker addition keys going (same ∙ c.if-is_hidden.true)).1

pub returns-clause-keys : goal.returns-clause-keys
returns-clause-keys c = λ (lock : Option (List ℕ)) (going : UnderWay).
    let keys = keys_of c.args.table.now lock in
    let addition : Addition = record { key = c.args.key; comment = c.args.comment.now; terms = c.args.terms } in
    let found = find_identity c.args.key.blob c.args.table.now.identities in
    let asker = asker_of c.args.asker.now keys in
    let same : hides found asker ≡ c.is_hidden.result = ap (λ blob. hides (find_identity blob c.args.table.now.identities) asker) (sym c.as_slice.ensures) ∙ sym (c.is_hidden.ensures lock) in
    let shown = shown-add found asker addition keys going (same ∙ c.if-is_hidden.false) in
    after_ok c.put.result (λ kept. kept ∙ ap (λ (s : Served). s.held) (sym shown)) (c.put.ensures.keys lock going)

pub returns-clause-work : goal.returns-clause-work
returns-clause-work c = λ (lock : Option (List ℕ)) (going : UnderWay).
    let keys = keys_of c.args.table.now lock in
    let addition : Addition = record { key = c.args.key; comment = c.args.comment.now; terms = c.args.terms } in
    let found = find_identity c.args.key.blob c.args.table.now.identities in
    let asker = asker_of c.args.asker.now keys in
    let same : hides found asker ≡ c.is_hidden.result = ap (λ blob. hides (find_identity blob c.args.table.now.identities) asker) (sym c.as_slice.ensures) ∙ sym (c.is_hidden.ensures lock) in
    let shown = shown-add found asker addition keys going (same ∙ c.if-is_hidden.false) in
    let P : Served → Type 0 = λ s. IfOk c.put.result (λ done. IsStatus done s.work going) in
    subst P (sym shown) (c.put.ensures.work lock going)
