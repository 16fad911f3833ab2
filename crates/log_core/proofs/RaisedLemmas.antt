-- About whose request the user is asked, by the job that is behind the others.
use Rattle.std.proofs.Common.{◌≡◌, ◌<◌, ◌≤◌, ℕ, zero, suc, List, [], ◌∷◌, ◌++◌, map, ap, arith, sym, ◌∙◌, length, slice_get, slice_index_or, Option, Some}
use Rattle.std.proofs.lemmas.List.{append-nil}
use Rattle.std.proofs.lemmas.Option.{slice_get_past}
use Rattle.log_book.specs.declared.sight.Sight.{Sight}
use Rattle.log_book.specs.declared.sight.What.TheVariants as what
use Rattle.log_laws.specs.Raised.{raised_for, raised_if, raised_since}
use Rattle.log_laws.specs.Sights.{raised_sight}
use Rattle.world_ports.specs.declared.Job.{Job}
use Rattle.world_ports.specs.declared.JobKind.{JobKind}
use Rattle.world_ports.specs.declared.JobKind.TheVariants as kinds

-- the job at a place, by the code's index
at_place : (jobs : List Job) (place : ℕ) (job : Job) → place < length jobs → ((other : Job) → job ≡ slice_index_or jobs place other) → slice_get jobs place ≡ Some job
at_place [] place job within is = absurd (omega (arith, within))
at_place (one ∷ jobs) zero job within is = ap Some (sym (is one))
at_place (one ∷ jobs) (suc place) job within is = at_place jobs place job (omega (arith, within)) is

module _ (wall faults port before : ℕ) (jobs all : List Job) (same : jobs ≡ all) (old : List Sight) where
  abbrev shown : List ℕ → List Sight
  shown ports = map (raised_sight wall faults) ports

  -- there is none
  pub raised-none : length jobs ≤ before → old ≡ old ++ shown (raised_since port before all)
  raised-none few =
      sym (ap (λ (j : List Job). old ++ shown (raised_since port before j)) (sym same)
      ∙ ap (λ (found : Option Job). old ++ shown (raised_if port found)) (slice_get_past jobs before few)
      ∙ append-nil old)

  module _ (job : Job) (within : before < length jobs) (is : (other : Job) → job ≡ slice_index_or jobs before other) where
    raised-some : (kind : JobKind) → job.kind ≡ kind → shown (raised_since port before all) ≡ shown (raised_for port kind)
    raised-some kind kind_is =
        ap (λ (j : List Job). shown (raised_since port before j)) (sym same)
        ∙ ap (λ (found : Option Job). shown (raised_if port found)) (at_place jobs before job within is)
        ∙ ap (λ (k : JobKind). shown (raised_for port k)) kind_is

    -- it starts a helper
    pub raised-helper : job.kind ≡ kinds.Helper → old ≡ old ++ shown (raised_since port before all)
    raised-helper kind_is = sym (ap (λ (s : List Sight). old ++ s) (raised-some kinds.Helper kind_is) ∙ append-nil old)

    -- it asks the user
    pub raised-confirm : (told said : ℕ) (new : List Sight) → job.kind ≡ kinds.Confirm → told ≡ faults → said ≡ port
        → new ≡ old ++ record { wall = wall; faults = told; what = what.Raised said } ∷ [] → new ≡ old ++ shown (raised_since port before all)
    raised-confirm told said new kind_is told_is said_is new_is =
        new_is
        ∙ ap (λ n. old ++ raised_sight wall n said ∷ []) told_is
        ∙ ap (λ p. old ++ raised_sight wall faults p ∷ []) said_is
        ∙ ap (λ (s : List Sight). old ++ s) (sym (raised-some kinds.Confirm kind_is))
