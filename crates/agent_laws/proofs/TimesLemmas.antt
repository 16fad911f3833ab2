-- How often a key is used is how often it may be.
use Rattle.std.proofs.Common.{◌≡◌, ℕ, List, [], ◌∷◌, refl, ap, sym, ◌∙◌, Option, Some, None, Bool, true, false, cond, ◌&&◌, if◌then◌else◌}
use Rattle.std.specs.Str.{bytes_eq}
use Rattle.std.proofs.lemmas.Slice.Eq.{bytes_eq-Decides}
use Rattle.world_ports.specs.declared.Moment.{Moment}
use Rattle.agent_model.specs.Runs.{Stamped}
use Rattle.agent_laws.specs.Dues.{Claim, claim_of, due_signing, is_met, met_by, open_asks, proved_of}
use Rattle.agent_laws.specs.Past.{PastAddition, has_uses, held_by, is_alive, last_addition, was_locked}
use Rattle.agent_laws.specs.Uses.{is_wanted, is_wanted_by, living_by}

-- ---- what is due, and what would be

-- this addition has a use left
abbrev pub HasUse : PastAddition → Type 0
HasUse past = has_uses past.addition.terms.uses past.uses ≡ true

module _ (life : Option ℕ) (newest : Stamped) (rest : List Stamped) (blob : List ℕ) (last : PastAddition) (is : last_addition blob (newest ∷ rest) ≡ Some last) where
  abbrev whole : List Stamped
  whole = newest ∷ rest

  module _ (claim : Claim) (its : claim.signing.blob ≡ blob) where
    abbrev meets : Option PastAddition → Bool
    meets held = is_met held claim (proved_of claim.port whole) newest.moment.wall (open_asks whole) (was_locked whole)

    found : last_addition claim.signing.blob whole ≡ Some last
    found = ap (λ b. last_addition b whole) its ∙ is

    -- by whether it lives, and whether a use is left
    met-wanted : (alive has : Bool) → is_alive life newest.moment.mono last ≡ alive
        → has_uses last.addition.terms.uses last.uses ≡ has
        → meets (cond (alive && has) (Some last) None) ≡ true
        → (meets (cond alive (Some last) None) ≡ true) × (has ≡ true)
    met-wanted true true is_alive_so is_has met = (met, refl)
    met-wanted true false is_alive_so is_has met = absurd (cc)
    met-wanted false has is_alive_so is_has met = absurd (cc)

    pub held-wanted : meets (held_by (last_addition claim.signing.blob whole) life newest.moment.mono) ≡ true → (meets (living_by (last_addition claim.signing.blob whole) life newest.moment.mono) ≡ true) × HasUse last
    held-wanted met =
        let parts = met-wanted (is_alive life newest.moment.mono last) (has_uses last.addition.terms.uses last.uses) refl refl
        (ap (λ l. meets (held_by l life newest.moment.mono)) (sym found) ∙ met) in
        (ap (λ l. meets (living_by l life newest.moment.mono)) found ∙ parts.0, parts.1)

    and_yes : (alive has : Bool) → has ≡ true → (alive && has) ≡ alive
    and_yes true has is_so = is_so
    and_yes false has is_so = refl

    pub wanted-held : HasUse last
        → meets (living_by (last_addition claim.signing.blob whole) life newest.moment.mono) ≡ true
        → meets (held_by (last_addition claim.signing.blob whole) life newest.moment.mono) ≡ true
    wanted-held has met =
        ap (λ l. meets (held_by l life newest.moment.mono)) found
        ∙ ap (λ b. meets (cond b (Some last) None)) (and_yes (is_alive life newest.moment.mono last) (has_uses last.addition.terms.uses last.uses) has)
        ∙ ap (λ l. meets (living_by l life newest.moment.mono)) (sym found) ∙ met

  both_true : (a b : Bool) → (a && b) ≡ true → (a ≡ true) × (b ≡ true)
  both_true true b is_so = (refl, is_so)
  both_true false b is_so = absurd (cc)

  -- what would be put is due while a use is left
  wanted-due : (claimed : Option Claim) → HasUse last
      → is_wanted_by blob claimed life newest.moment whole ≡ true
      → (claim : Claim) × (met_by claimed life newest.moment whole ≡ Some claim) × (claim.signing.blob ≡ blob)
  wanted-due None has wanted = absurd (cc)
  wanted-due (Some claim) has wanted =
      let parts = both_true (bytes_eq claim.signing.blob blob) _ wanted in
      let its : claim.signing.blob ≡ blob = (bytes_eq-Decides claim.signing.blob blob).0 parts.0 in
      (claim, ap (λ b. if b then Some claim else None) (wanted-held claim its has parts.1), its)

  -- what is due would be put, and a use is left
  due-wanted : (claimed : Option Claim) (claim : Claim)
      → met_by claimed life newest.moment whole ≡ Some claim → claim.signing.blob ≡ blob
      → (is_wanted_by blob claimed life newest.moment whole ≡ true) × HasUse last
  due-wanted None claim due its = absurd (cc)
  due-wanted (Some other) claim due its = by_met (is_met (held_by (last_addition other.signing.blob whole) life newest.moment.mono) other (proved_of other.port whole) newest.moment.wall (open_asks whole) (was_locked whole)) refl due
    where
      by_met : (met : Bool)
          → is_met (held_by (last_addition other.signing.blob whole) life newest.moment.mono) other (proved_of other.port whole) newest.moment.wall (open_asks whole) (was_locked whole) ≡ met
          → cond met (Some other) None ≡ Some claim
          → (is_wanted_by blob (Some other) life newest.moment whole ≡ true) × HasUse last
      by_met false met some = absurd (cc)
      by_met true met some =
          let same : other ≡ claim = cc in
          let its_other : other.signing.blob ≡ blob = ap (λ (c : Claim). c.signing.blob) same ∙ its in
          let parts = held-wanted other its_other met in
          let equal : bytes_eq other.signing.blob blob ≡ true = (bytes_eq-Decides other.signing.blob blob).1 its_other in
          (ap (λ b. b && is_met (living_by (last_addition other.signing.blob whole) life newest.moment.mono) other (proved_of other.port whole) newest.moment.wall (open_asks whole) (was_locked whole)) equal ∙ parts.0, parts.1)

-- nothing is held of a blob that wasn't added, or was removed
module _ (life : Option ℕ) (blob : List ℕ) where
  none-wanted_by : (claimed : Option Claim) (moment : Moment) (past : List Stamped)
      → last_addition blob past ≡ None → is_wanted_by blob claimed life moment past ≡ false
  none-wanted_by None moment past none = refl
  none-wanted_by (Some claim) moment past none = by_test (bytes_eq claim.signing.blob blob) refl
    where
      by_test : (same : Bool) → bytes_eq claim.signing.blob blob ≡ same
          → (same && is_met (living_by (last_addition claim.signing.blob past) life moment.mono) claim (proved_of claim.port past) moment.wall (open_asks past) (was_locked past)) ≡ false
      by_test false is = refl
      by_test true is =
          let gone : last_addition claim.signing.blob past ≡ None = ap (λ b. last_addition b past) ((bytes_eq-Decides claim.signing.blob blob).0 is) ∙ none in
          ap (λ l. is_met (living_by l life moment.mono) claim (proved_of claim.port past) moment.wall (open_asks past) (was_locked past)) gone

  pub none-wanted : (past : List Stamped) → last_addition blob past ≡ None
      → is_wanted blob life past ≡ false
  none-wanted [] none = refl
  none-wanted (newest ∷ rest) none =
      none-wanted_by (claim_of newest.action rest) newest.moment (newest ∷ rest) none

  none-due_by : (claimed : Option Claim) (claim : Claim) (moment : Moment) (past : List Stamped)
      → last_addition blob past ≡ None → met_by claimed life moment past ≡ Some claim
      → claim.signing.blob ≡ blob → ⊥
  none-due_by None claim moment past none due its = absurd (cc)
  none-due_by (Some other) claim moment past none due its = by_met (is_met (held_by (last_addition other.signing.blob past) life moment.mono) other (proved_of other.port past) moment.wall (open_asks past) (was_locked past)) refl due
    where
      by_met : (met : Bool)
          → is_met (held_by (last_addition other.signing.blob past) life moment.mono) other (proved_of other.port past) moment.wall (open_asks past) (was_locked past) ≡ met
          → cond met (Some other) None ≡ Some claim → ⊥
      by_met false met some = absurd (cc)
      by_met true met some =
          let same : other ≡ claim = cc in
          let its_other : other.signing.blob ≡ blob = ap (λ (c : Claim). c.signing.blob) same ∙ its in
          let gone : last_addition other.signing.blob past ≡ None = ap (λ b. last_addition b past) its_other ∙ none in
          let clash : false ≡ true = sym (ap (λ l. is_met (held_by l life moment.mono) other (proved_of other.port past) moment.wall (open_asks past) (was_locked past)) gone) ∙ met in
          absurd (cc)

  pub none-due : (past : List Stamped) (claim : Claim) → last_addition blob past ≡ None
      → due_signing life past ≡ Some claim → claim.signing.blob ≡ blob → ⊥
  none-due [] claim none due its = absurd (cc)
  none-due (newest ∷ rest) claim none due its =
      none-due_by (claim_of newest.action rest) claim newest.moment (newest ∷ rest) none due its

  -- over a past of any length
  pub due-has : (past : List Stamped) (claim : Claim) (last : PastAddition)
      → last_addition blob past ≡ Some last → due_signing life past ≡ Some claim
      → claim.signing.blob ≡ blob → (is_wanted blob life past ≡ true) × HasUse last
  due-has [] claim last is due its = absurd (cc)
  due-has (newest ∷ rest) claim last is due its =
      due-wanted life newest rest blob last is (claim_of newest.action rest) claim due its

  wanted-is_due : (past : List Stamped) (last : PastAddition) → last_addition blob past ≡ Some last
      → HasUse last → is_wanted blob life past ≡ true
      → (claim : Claim) × (due_signing life past ≡ Some claim) × (claim.signing.blob ≡ blob)
  wanted-is_due [] last is has wanted = absurd (cc)
  wanted-is_due (newest ∷ rest) last is has wanted =
      wanted-due life newest rest blob last is (claim_of newest.action rest) has wanted

  -- what would be put is so by no other claim
  pub not-wanted : (past : List Stamped) (last : PastAddition) → last_addition blob past ≡ Some last
      → HasUse last
      → ((claim : Claim) → due_signing life past ≡ Some claim → claim.signing.blob ≡ blob → ⊥)
      → is_wanted blob life past ≡ false
  not-wanted past last is has never = by_test (is_wanted blob life past) refl
    where
      by_test : (wanted : Bool) → is_wanted blob life past ≡ wanted
          → is_wanted blob life past ≡ false
      by_test false wanted = wanted
      by_test true wanted =
          let due = wanted-is_due past last is has wanted in absurd (never due.0 due.1 due.2)
