use Rattle.std.proofs.Common.{◌≡◌, ℕ, List, length, take, ap, sym, ◌∙◌, arith}
use Rattle.std.specs.List.{flat_map}
use Rattle.std.proofs.lemmas.List.{take_all}
use Rattle.std.proofs.lemmas.List.Folds.{flat_map-map}
use Rattle.wire_text.specs.Wire.{string}
use Rattle.wire_text.proofs.WireLemmas.{length-string}
use Rattle.constraint_rec.specs.declared.constraint.Constraint.{Constraint}
use Rattle.constraint_rec.specs.Hops.{SpeltConstraint, constraint_text}
use Rattle.constraint_rec.specs.Writing.{spelt_constraint}
use Rattle.constraint_rec.proofs.SizeLemmas.{piece_fits}
use Rattle.constraint_rec.proofs.write.destinations_text.Goals as goal

-- a constraint as a string
abbrev framed : SpeltConstraint → List ℕ
framed constraint = string (constraint_text constraint)

pub put_destination-requires : goal.put_destination-requires
put_destination-requires c =
    let rule = c.rule-item.result in
    let fits = piece_fits (λ (r : Constraint). framed (spelt_constraint r)) c.args.rules.now c.loop-rule.rule-index rule c.loop-rule-test.true c.rule-item.is in
    omega (arith, fits, ap length (flat_map-map framed spelt_constraint c.args.rules.now), length-string (constraint_text (spelt_constraint rule)))

pub returns : goal.returns
returns c =
    let all : take c.loop-rule.rule-index c.args.rules.now ≡ c.args.rules.now = take_all c.loop-rule.rule-index c.args.rules.now c.loop-rule-test.false in
    c.loop-rule.invariant ∙ ap (λ (rules : List Constraint). flat_map (λ (r : Constraint). framed (spelt_constraint r)) rules) all
    ∙ sym (flat_map-map framed spelt_constraint c.args.rules.now)
