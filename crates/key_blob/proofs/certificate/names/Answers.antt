use Rattle.std.proofs.Common.{◌<◌, refl, sym, subst, arith}
use Rattle.std.proofs.lemmas.List.Elements.{All-from_get_or}
use Rattle.std.proofs.lemmas.Bool.Decides.{same_from_decides}
use Rattle.pattern_core.specs.Patterns.{Matches}
use Rattle.key_blob.specs.Principals.{NamesHost, this}
use Rattle.key_blob.proofs.PrincipalLemmas.{string_shorter, NamesHost-behind, no_name}
use Rattle.key_blob.proofs.ValidityLemmas.{names_host_decides}
use Rattle.key_blob.proofs.certificate.names.Goals as goal

pub returns-then-matches : goal.returns-then-matches
returns-then-matches c =
    let host = c.args.host.now in
    let small = All-from_get_or (λ byte. byte < 256) c.args.principals.now 0 (λ i _. omega (arith, c.type_inv.principals i)) in
    let found = this host c.in-Ok.pattern.now c.take_string.new.self c.in-Ok.ensures.bound (c.matches.ensures.exact.0 c.if-matches.true) in
    let named = subst (NamesHost host) (sym c.in-Ok.ensures.found) found in
    let in_all = c.patterns.invariant.1 named in
    record {
      exact = (λ h. in_all, λ n. refl);
      value = sym ((names_host_decides host c.args.principals.now small).1 in_all);
    }

pub patterns-smaller : goal.patterns-smaller
patterns-smaller c = string_shorter c.patterns.from (c.in-Ok.pattern.now, c.take_string.new.self) c.in-Ok.ensures.exact

pub patterns-preserved : goal.patterns-preserved
patterns-preserved c =
    let differs : Matches c.args.host.now c.in-Ok.pattern.now → ⊥ = λ match. (let tested = c.matches.ensures.exact.1 match in let is = c.if-matches.false in cc) in
    let step = NamesHost-behind c.args.host.now c.patterns.from c.in-Ok.pattern.now c.take_string.new.self c.in-Ok.ensures.found c.in-Ok.ensures.bound differs in
    (λ n. step.0 (c.patterns.invariant.0 n), λ n. c.patterns.invariant.1 (step.1 n))

pub returns : goal.returns
returns c =
    let host = c.args.host.now in
    let small = All-from_get_or (λ byte. byte < 256) c.args.principals.now 0 (λ i _. omega (arith, c.type_inv.principals i)) in
    let none : NamesHost host c.args.principals.now → ⊥ =
    λ n. no_name host c.patterns.from c.in_default.ensures.exact (c.patterns.invariant.0 n) in
    record {
      exact = (λ h. absurd cc, λ n. absurd (none n));
      value = same_from_decides _ _ (λ h. absurd cc, λ n. absurd (none n)) (names_host_decides host c.args.principals.now small);
    }
