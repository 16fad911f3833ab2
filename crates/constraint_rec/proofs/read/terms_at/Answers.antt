use Rattle.std.proofs.Common.{◌≡◌, ◌≢◌, [], length, ap, arith, rules}
use Rattle.constraint_rec.proofs.Theorems.{goes_on-start, goes_on-next, goes_on-fault, goes_on-end}
use Rattle.constraint_rec.proofs.read.terms_at.Goals as goal

pub constraints-init : goal.constraints-init
constraints-init c = rw (c.new-terms.ensures, c.new-from.ensures) (goes_on-start c.args.bytes.now)

pub constraints-preserved : goal.constraints-preserved
constraints-preserved c =
    let shorter = c.in_ok-take_constraint.ensures.shorter in
    let some : c.constraints.from ≢ [] = λ e. omega (arith, ap length e, shorter) in
    goes_on-next _ c.constraints.terms c.constraints.from _ _ c.constraints.invariant some shorter c.in_ok-take_constraint.ensures.exact

pub returns-in_err-take_constraint : goal.returns-in_err-take_constraint
returns-in_err-take_constraint c =
    let some : c.constraints.from ≢ [] = λ e. search (rules, e) in
    let fault = goes_on-fault _ c.constraints.terms c.constraints.from c.in_err-take_constraint.field-0.0 c.constraints.invariant some
    c.in_err-take_constraint.ensures.exact in
    search rules

pub returns : goal.returns
returns c =
    let empty : c.constraints.from ≡ [] = search rules in
    goes_on-end _ c.constraints.terms c.constraints.from c.constraints.invariant empty
