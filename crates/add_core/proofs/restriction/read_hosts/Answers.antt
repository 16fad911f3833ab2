use Rattle.std.proofs.Common.{◌≡◌, ◌+◌, ◌∷◌, ◌++◌, [], ℕ, List, Ok, ap, drop, refl, sym, ◌∙◌, arith, rules}
use Rattle.add_core.specs.Restrictions.{hosts_held}
use Rattle.add_core.specs.Sendings.{place_of, text_held}
use Rattle.add_core.proofs.FileCauseLemmas.{has_cause_late}
use Rattle.add_core.proofs.FileLemmas.{lent}
use Rattle.add_core.proofs.RestrictionLemmas.{refuses_on, in_front, none_in_front, made_hosts, fault_hosts, no_hosts}
use Rattle.add_core.proofs.restriction.read_hosts.Goals as goal

pub paths-init : goal.paths-init
paths-init g c = record {
  place = refl;
  told = λ held known.
      let all = hosts_held held 0 (lent c.args.paths.now) in
      none_in_front all ∙ ap (λ (l : List (List ℕ)). in_front l all) (sym c.new-hosts.ensures.items);
  held = refl;
  failed = refl;
  files = omega arith;
}

pub returns-in_err-text-clause-told : goal.returns-in_err-text-clause-told
returns-in_err-text-clause-told g c = λ held known.
    let inv = c.paths.invariant in
    let all = hosts_held held 0 (lent c.args.paths.now) in
    let stop = c.in_err-text.field-0.0 in
    let refused = refuses_on stop (text_held (place_of c.paths.place) 16777216 (held _)) all
    (fault_hosts all c.paths.hosts.items held c.paths.place c.args.paths.now c.paths.path-index _ c.paths-test.true (inv.told held known))
    (c.in_err-text.ensures.told held (inv.held ∙ known)) in
    search rules

pub paths-preserved : goal.paths-preserved
paths-preserved g c =
    let inv = c.paths.invariant in
    let texts = c.paths.hosts.items in
    let n = c.paths.path-index in
    let text = c.from_vec.result in
    let pushed : c.push.new.self.items ≡ texts ++ text ∷ [] = c.in_ok-push.ensures.items in
    record {
      place = ap (λ (k : ℕ). k + 1) inv.place;
      told = λ held known.
          let read = c.in_ok-text.ensures.told held (inv.held ∙ known) ∙ ap (λ (l : List ℕ). Ok l) (sym c.from_vec.ensures) in
          made_hosts (hosts_held held 0 (lent c.args.paths.now)) texts held c.paths.place c.args.paths.now n _ text c.paths-test.true (inv.told held known) read
          ∙ ap (λ (l : List (List ℕ)). in_front l (hosts_held held (c.paths.place + 1) (lent (drop (n + 1) c.args.paths.now)))) (sym pushed);
      held = c.in_ok-text.ensures.kept ∙ inv.held;
      failed = c.in_ok-text.ensures.cause.kept ∙ inv.failed;
      files = omega (arith, inv.files, c.in_ok-text.ensures.cause.later);
    }

pub returns-clause-told : goal.returns-clause-told
returns-clause-told g c = λ held known.
    no_hosts (hosts_held held 0 (lent c.args.paths.now)) c.paths.hosts.items held c.paths.place c.args.paths.now c.paths.path-index c.paths-test.false
    (c.paths.invariant.told held known)

pub returns-in_err-text-clause-cause : goal.returns-in_err-text-clause-cause
returns-in_err-text-clause-cause g c =
    let inv = c.paths.invariant in
    has_cause_late c.from_residual.result c.in_err-text.field-0.0 c.args.paths.now c.paths.path-index _ c.paths.place (g.F.Files.seen c.args.files.now) _
    (g.F.Files.seen c.read_text.new.files) c.paths-test.true inv.place inv.failed inv.files c.from_residual.ensures.1 c.in_err-text.ensures.cause
