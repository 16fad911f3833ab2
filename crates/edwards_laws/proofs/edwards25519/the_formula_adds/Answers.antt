use Rattle.edwards_laws.proofs.MultipleLemmas.{base-stands, formula-adds, neutral-stands}
use Rattle.edwards_laws.proofs.edwards25519.the_formula_adds.Goals as goal

pub returns-clause-sum : goal.returns-clause-sum
returns-clause-sum c = formula-adds

pub returns-clause-neutral : goal.returns-clause-neutral
returns-clause-neutral c = neutral-stands

pub returns-clause-base : goal.returns-clause-base
returns-clause-base c = base-stands
