use Rattle.std.proofs.Common.{ap, subst, ◌∙◌, rules, List, ℕ}
use Rattle.constraint_rec.specs.Constraints.{IsConstraints}
use Rattle.constraint_rec.specs.Reading.{terms_of}
use Rattle.constraint_rec.proofs.Theorems.{terms_are_found, terms_are_read}
use Rattle.constraint_rec.proofs.WritingLemmas.{constraints_are_writable}
use Rattle.constraint_rec.proofs.read.read_constraints.Goals as goal

pub returns-in_err-terms-clause-only : goal.returns-in_err-terms-clause-only
returns-in_err-terms-clause-only c = λ terms is.
    let read = ap terms_of c.rest-bytes.ensures.value ∙ terms_are_read c.args.from.now terms is in
    search (rules, read)

pub returns-clause-found : goal.returns-clause-found
returns-clause-found c = (
  subst (λ (bytes : List ℕ). IsConstraints bytes c.in_ok-terms.terms) c.rest-bytes.ensures.value
      (terms_are_found c.rest-bytes.result.now c.in_ok-terms.terms c.rest-bytes.ensures.bytes c.in_ok-terms.ensures),
  c.new.ensures,
)

pub returns-clause-only : goal.returns-clause-only
returns-clause-only c = λ terms is.
    let read = ap terms_of c.rest-bytes.ensures.value ∙ terms_are_read c.args.from.now terms is in
    (cc (read, c.in_ok-terms.ensures), c.new.ensures)

pub returns-clause-writable : goal.returns-clause-writable
returns-clause-writable c =
    constraints_are_writable c.rest-bytes.result.now c.in_ok-terms.terms
    (terms_are_found c.rest-bytes.result.now c.in_ok-terms.terms c.rest-bytes.ensures.bytes c.in_ok-terms.ensures)
