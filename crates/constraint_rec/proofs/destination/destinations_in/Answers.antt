use Rattle.std.proofs.Common.{◌≡◌, ◌≢◌, ◌⊎◌, [], length, Ok, Err, ap, sym, ◌∙◌, arith, rules}
use Rattle.constraint_rec.specs.HopReading.{constraint_at, all_of}
use Rattle.constraint_rec.specs.declared.fault.TermFault.TheVariants.{Memory}
use Rattle.constraint_rec.proofs.ElementLemmas.{elements-start, elements-next, elements-fault, elements-end}
use Rattle.constraint_rec.proofs.destination.destinations_in.Goals as goal

pub rules-init : goal.rules-init
rules-init c =
    rw (c.new-rules.ensures.items, c.new-from.ensures) (elements-start constraint_at c.args.bytes.now)

pub rules-preserved : goal.rules-preserved
rules-preserved c =
    let shorter = c.in_ok-take_destination.ensures.shorter in
    let some : c.rules.from ≢ [] = λ e. omega (arith, ap length e, shorter) in
    rw c.in_ok-push.ensures.items (elements-next constraint_at _ c.rules.rules.items c.rules.from c.in_ok-take_destination.field-0 c.take_destination.new.from
    c.rules.invariant some shorter c.in_ok-take_destination.ensures.exact)

pub returns-in_err-take_destination : goal.returns-in_err-take_destination
returns-in_err-take_destination c =
    let some : c.rules.from ≢ [] = λ e. search (rules, e) in
    let fault : (c.in_err-take_destination.field-0.0 ≡ Memory) ⊎ (all_of constraint_at c.args.bytes.now ≡ Err c.in_err-take_destination.field-0.0) =
    elements-fault constraint_at _ c.rules.rules.items c.rules.from _ c.rules.invariant some c.in_err-take_destination.ensures.exact in
    search (rules, fault)

pub returns : goal.returns
returns c =
    let empty : c.rules.from ≡ [] = search rules in
    elements-end constraint_at _ c.rules.rules.items c.rules.from c.rules.invariant empty ∙ ap Ok (sym c.from_vec.ensures)
