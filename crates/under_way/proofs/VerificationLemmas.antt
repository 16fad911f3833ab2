-- Where the verification that an ask is for stands among verifications in storage.
use Rattle.std.proofs.Common.{◌≡◌, ℕ, List, Option, Some, None, MatchOption, refl, ap, ◌∙◌}
use Rattle.std.specs.List.{position}
use Rattle.std.specs.Option.{option_map}
use Rattle.lists.specs.Firsts.{IsFirst}
use Rattle.lists.specs.Keyed.{has_key}
use Rattle.lists.proofs.FirstLemmas as first
use Rattle.lists.proofs.FirstLemmas.{find-map, found_there, remove-map, removed_nowhere, removed_there}
use Rattle.agent_model.specs.State as Model
use Rattle.under_way.specs.Verifications.{IsForNone, IsVerificationAt, all_verifications, asked_by, verification_of}
use Rattle.under_way.specs.declared.verification.Verification.{Verification}

-- where the search says
pub is_verification_place : (ask : ℕ) (all : List Verification) (result : Option ℕ) →
    result ≡ position (has_key asked_by ask) all →
    MatchOption result (IsForNone ask all) (λ place. IsVerificationAt ask all place)
is_verification_place ask all None is =
    let none = first.is_place (has_key asked_by ask) all None is in
    record {
      none = find-map verification_of (has_key (λ (one : Model.Verification). one.ask) ask) (has_key asked_by ask) (λ _. refl) all
          ∙ ap (option_map verification_of) none;
      kept = remove-map verification_of (has_key (λ (one : Model.Verification). one.ask) ask) (has_key asked_by ask) (λ _. refl) all
          ∙ ap all_verifications (removed_nowhere (has_key asked_by ask) all none);
    }
is_verification_place ask all (Some place) is =
    let at : IsFirst (has_key asked_by ask) all place =
    first.is_place (has_key asked_by ask) all (Some place) is in
    record {
      within = at.within;
      found = λ other.
          find-map verification_of (has_key (λ (one : Model.Verification). one.ask) ask) (has_key asked_by ask) (λ _. refl) all
          ∙ ap (option_map verification_of) (found_there (has_key asked_by ask) all place other at);
      removed = remove-map verification_of (has_key (λ (one : Model.Verification). one.ask) ask) (has_key asked_by ask) (λ _. refl) all
          ∙ ap all_verifications (removed_there (has_key asked_by ask) all place at);
    }
