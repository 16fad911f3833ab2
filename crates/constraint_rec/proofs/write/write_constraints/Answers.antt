use Rattle.constraint_rec.specs.Writing.{constraints_bytes}
use Rattle.constraint_rec.proofs.Theorems.{terms_are_read}
use Rattle.constraint_rec.proofs.WritingLemmas.{written_are_constraints}
use Rattle.constraint_rec.proofs.write.write_constraints.Goals as goal

pub returns-in_err-text-clause-written : goal.returns-in_err-text-clause-written
returns-in_err-text-clause-written c = written_are_constraints c.args.terms.now c.requires c.in_err-text.ensures.fits

pub returns-in_err-text-clause-read_back : goal.returns-in_err-text-clause-read_back
returns-in_err-text-clause-read_back c =
    terms_are_read (constraints_bytes c.args.terms.now) c.args.terms.now (written_are_constraints c.args.terms.now c.requires c.in_err-text.ensures.fits)

pub returns-clause-written : goal.returns-clause-written
returns-clause-written c = written_are_constraints c.args.terms.now c.requires c.in_ok-text.ensures.fits

pub returns-clause-read_back : goal.returns-clause-read_back
returns-clause-read_back c =
    terms_are_read (constraints_bytes c.args.terms.now) c.args.terms.now (written_are_constraints c.args.terms.now c.requires c.in_ok-text.ensures.fits)
