use Rattle.std.proofs.Common.{◌≡◌, ◌∙◌, ap, refl, subst, sym, ℕ, List, Option, true, false}
use Rattle.identity_table.specs.Identities.{TableState, find_identity}
use Rattle.agent_core.specs.Served.{IsStatus, asker_of, hides, keys_of}
use Rattle.agent_model.specs.Dispatch.{remove_by}
use Rattle.agent_model.specs.State.{UnderWay}
use Rattle.agent_core.proofs.HeldLemmas.{decided, hidden-keys, removed-keys, removed-status}
use Rattle.agent_core.proofs.requests.remove.Goals as goal

pub returns-then-is_hidden-clause-keys : goal.returns-then-is_hidden-clause-keys
returns-then-is_hidden-clause-keys c = λ (lock : Option (List ℕ)) (going : UnderWay).
    let keys = keys_of c.args.table.now lock in
    let found = find_identity c.args.blob.now c.args.table.now.identities in
    let hidden : hides found (asker_of c.args.asker.now keys) ≡ true = sym (c.is_hidden.ensures lock) ∙ c.if-is_hidden.true in
    (hidden-keys found (asker_of c.args.asker.now keys) c.args.blob.now keys going hidden).0

pub returns-then-is_hidden-clause-work : goal.returns-then-is_hidden-clause-work
returns-then-is_hidden-clause-work c = λ (lock : Option (List ℕ)) (going : UnderWay).
    let keys = keys_of c.args.table.now lock in
    let found = find_identity c.args.blob.now c.args.table.now.identities in
    let hidden : hides found (asker_of c.args.asker.now keys) ≡ true = sym (c.is_hidden.ensures lock) ∙ c.if-is_hidden.true in
    (hidden-keys found (asker_of c.args.asker.now keys) c.args.blob.now keys going hidden).1

pub returns-clause-keys : goal.returns-clause-keys
returns-clause-keys c = λ (lock : Option (List ℕ)) (going : UnderWay).
    let keys = keys_of c.args.table.now lock in
    let found = find_identity c.args.blob.now c.args.table.now.identities in
    let shown : hides found (asker_of c.args.asker.now keys) ≡ false = sym (c.is_hidden.ensures lock) ∙ c.if-is_hidden.false in
    ap (λ (table : TableState). keys_of table lock) c.remove.ensures.removed
    ∙ removed-keys found (asker_of c.args.asker.now keys) c.args.blob.now keys going refl shown

pub returns-clause-work : goal.returns-clause-work
returns-clause-work c = λ (lock : Option (List ℕ)) (going : UnderWay).
    let keys = keys_of c.args.table.now lock in
    let found = find_identity c.args.blob.now c.args.table.now.identities in
    let shown : hides found (asker_of c.args.asker.now keys) ≡ false = sym (c.is_hidden.ensures lock) ∙ c.if-is_hidden.false in
    let work = (remove_by found (asker_of c.args.asker.now keys) c.args.blob.now keys going).work in
    subst (λ done. IsStatus done work going) (sym (decided c.remove.result found c.remove.ensures.there)) (removed-status found (asker_of c.args.asker.now keys) c.args.blob.now keys going shown)
