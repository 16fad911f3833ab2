use Rattle.std.proofs.Common.{◌≡◌, ◌≢◌, ◌⊎◌, [], length, Ok, Err, ap, sym, ◌∙◌, arith, rules}
use Rattle.constraint_rec.specs.HopReading.{key_at, all_of}
use Rattle.constraint_rec.specs.declared.fault.TermFault.TheVariants.{Memory}
use Rattle.constraint_rec.proofs.ElementLemmas.{elements-start, elements-next, elements-fault, elements-end}
use Rattle.constraint_rec.proofs.destination.keys_in.Goals as goal

pub keys-init : goal.keys-init
keys-init c =
    rw (c.new-keys.ensures.items, c.new-from.ensures) (elements-start key_at c.args.bytes.now)

pub keys-preserved : goal.keys-preserved
keys-preserved c =
    let shorter = c.in_ok-take_key.ensures.shorter in
    let some : c.keys.from ≢ [] = λ e. omega (arith, ap length e, shorter) in
    rw c.in_ok-push.ensures.items (elements-next key_at _ c.keys.keys.items c.keys.from c.in_ok-take_key.field-0 c.take_key.new.from
    c.keys.invariant some shorter c.in_ok-take_key.ensures.exact)

pub returns-in_err-take_key : goal.returns-in_err-take_key
returns-in_err-take_key c =
    let some : c.keys.from ≢ [] = λ e. search (rules, e) in
    let fault : (c.in_err-take_key.field-0.0 ≡ Memory) ⊎ (all_of key_at c.args.bytes.now ≡ Err c.in_err-take_key.field-0.0) =
    elements-fault key_at _ c.keys.keys.items c.keys.from _ c.keys.invariant some c.in_err-take_key.ensures.exact in
    search (rules, fault)

pub returns : goal.returns
returns c =
    let empty : c.keys.from ≡ [] = search rules in
    elements-end key_at _ c.keys.keys.items c.keys.from c.keys.invariant empty ∙ ap Ok (sym c.from_vec.ensures)
