use Rattle.identity_table.proofs.NumberLaws.{blob_of_numbered, number_of_found}
use Rattle.identity_table.proofs.laws.blob_and_number_find_the_same.Goals as goal

pub returns-clause-number : goal.returns-clause-number
returns-clause-number c = λ blob last keys key sound found. number_of_found blob last keys key sound.numbers found

pub returns-clause-blob : goal.returns-clause-blob
returns-clause-blob c = λ number last keys key sound found. blob_of_numbered number keys key sound.blobs found
