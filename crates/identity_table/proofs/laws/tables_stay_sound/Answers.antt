use Rattle.identity_table.proofs.TableLemmas.{IsSound-added}
use Rattle.identity_table.proofs.Theorems.{IsSound-alive, IsSound-none, IsSound-remove}
use Rattle.identity_table.proofs.SpendLemmas.{IsSound-spend}
use Rattle.identity_table.proofs.laws.tables_stay_sound.Goals as goal

pub returns-clause-added : goal.returns-clause-added
returns-clause-added c = IsSound-added

pub returns-clause-without : goal.returns-clause-without
returns-clause-without c = λ blob table sound. IsSound-remove blob table.identities table.last sound

pub returns-clause-emptied : goal.returns-clause-emptied
returns-clause-emptied c = λ table. IsSound-none table.last

pub returns-clause-expired : goal.returns-clause-expired
returns-clause-expired c = λ second table sound. IsSound-alive second table.identities table.last sound

pub returns-clause-spent : goal.returns-clause-spent
returns-clause-spent c = λ addition table sound. IsSound-spend addition table.last table.identities sound
