use Rattle.std.proofs.Common.{◌≡◌, ◌≢◌, [], length, ap, arith, rules}
use Rattle.constraint_rec.proofs.PurposeLemmas.{purposes_start, purposes_next, purposes_fault, purposes_end}
use Rattle.constraint_rec.proofs.purposes.all_purposes_in.Goals as goal

pub purposes-init : goal.purposes-init
purposes-init c = rw (c.new-purposes.ensures.items, c.new-from.ensures) (purposes_start c.args.bytes.now)

pub purposes-preserved : goal.purposes-preserved
purposes-preserved c =
    let shorter = c.in_ok-take_purpose.ensures.shorter in
    let some : c.purposes.from ≢ [] = λ e. omega (arith, ap length e, shorter) in
    purposes_next _ c.purposes.purposes.items c.purposes.from _ _ c.purposes.invariant some shorter c.in_ok-take_purpose.ensures.exact

pub returns-in_err-take_purpose : goal.returns-in_err-take_purpose
returns-in_err-take_purpose c =
    let some : c.purposes.from ≢ [] = λ e. search (rules, e) in
    let fault = purposes_fault _ c.purposes.purposes.items c.purposes.from c.in_err-take_purpose.field-0.0 c.purposes.invariant some
    c.in_err-take_purpose.ensures.exact in
    search rules

pub returns : goal.returns
returns c =
    let empty : c.purposes.from ≡ [] = search rules in
    purposes_end _ c.purposes.purposes.items c.purposes.from c.purposes.invariant empty
