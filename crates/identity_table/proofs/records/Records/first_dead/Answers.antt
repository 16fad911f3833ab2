use Rattle.std.proofs.Common.{◌≡◌, false, Option, IfSome, IsSome, sym, subst, refl, arith}
use Rattle.std.specs.BTreeMap.{is_at}
use Rattle.identity_table.specs.Deaths.{lives_at}
use Rattle.identity_table.specs.Identities.{HeldKey}
use Rattle.identity_table.specs.Indices.{death_cmp, held}
use Rattle.identity_table.proofs.records.Records.first_dead.Goals as goal
use Rattle.identity_table.proofs.DeathLemmas.{IsAhead, alive_at-all, dead_by}
use Rattle.identity_table.proofs.QueueLemmas.{death_found, empty_gives_none, first_is_next, none_is_next}

pub returns-in_default-clause-none : goal.returns-in_default-clause-none
returns-in_default-clause-none c =
    let none = none_is_next c.args.self.now c.requires
    (λ key. empty_gives_none (is_at (death_cmp key)) c.args.self.now.deaths.entries
    (rw c.in_default.is at c.first_key_value.ensures.variant.1)) in
    alive_at-all c.args.now (held c.args.self.now) c.ranges.now.fits (subst (IsAhead c.args.now) (sym none) tt)

pub returns-then-death-now-clause-dead : goal.returns-then-death-now-clause-dead
returns-then-death-now-clause-dead c =
    let at = death_found c.args.self.now c.requires c.in-Some.field-0-0.now.0 c.in-Some.field-0-0.now.1 c.in-Some.place.now
    c.in-Some.ensures.value in
    subst (λ (found : Option HeldKey). IfSome found (λ one. lives_at c.args.now one.death ≡ false)) (sym at.1)
    (dead_by c.args.now c.in-Some.field-0-0.now.0 at.0.death at.2 c.if-death-now.true)

pub returns-then-death-now-clause-there : goal.returns-then-death-now-clause-there
returns-then-death-now-clause-there c =
    let at = death_found c.args.self.now c.requires c.in-Some.field-0-0.now.0 c.in-Some.field-0-0.now.1 c.in-Some.place.now
    c.in-Some.ensures.value in
    subst (λ (found : Option HeldKey). IsSome found) (sym at.1) refl

pub returns-else-death-now-clause-none : goal.returns-else-death-now-clause-none
returns-else-death-now-clause-none c =
    let first = first_is_next c.args.self.now c.requires c.in-Some.field-0-0.now.0 c.in-Some.field-0-0.now.1 c.in-Some.place.now
    c.in-Some.ensures.value c.in-Some.ensures.least in
    alive_at-all c.args.now (held c.args.self.now) c.ranges.now.fits
    (subst (IsAhead c.args.now) (sym first) (omega (arith, c.if-death-now.false)))
