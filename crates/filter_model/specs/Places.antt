-- How many connections to the agent behind there are, and what each is for (ours).
use Rattle.std.specs.Prelude.{◌≡◌, ◌≤◌, ◌||◌, ℕ, true, false, List, [], length, Option, Some, None}
use Rattle.std.specs.Option.{IfSome}
use Rattle.filter_model.specs.declared.waits.Waits.TheVariants.{Nothing}
use Rattle.filter_model.specs.Pairs.{Pair}
use Rattle.filter_model.specs.Lists.{Listed}
use Rattle.filter_model.specs.Filters.{AllFit, Happening, State, find_pair, first_state, has_number, has_place, links, most_links, most_spares, run}

-- the pair of this number has a connection to the agent behind only while something is under way there, where a bind
-- was forwarded, or as one of the spare ones
abbrev pub IsNeeded : ℕ → List ℕ → Pair → Type 0
IsNeeded number spares pair = pair.waits ≡ Nothing → pair.upstream.heard ≡ [] → pair.upstream.owed ≡ []
    → pair.is_linked ≡ true → (pair.is_bound || has_number number spares) ≡ true

-- the pair has a connection to the agent behind on which nothing is under way, and no bind was ever forwarded
pub record IsIdle (pair : Pair) : Type 0 where
  pub linked : pair.is_linked ≡ true
  pub unbound : pair.is_bound ≡ false
  pub quiet : pair.waits ≡ Nothing
  pub unheard : pair.upstream.heard ≡ []
  pub empty : pair.upstream.owed ≡ []

-- a pair is open, and its connection is such a one
abbrev pub IsIdleAt : Option Pair → Type 0
IsIdleAt None = ⊥
IsIdleAt (Some pair) = IsIdle pair

-- there are no more connections than may be, and no more spare ones; where no place is left for another, none is spare;
-- each is needed or spare, and what is spare is idle
pub record AreFew (state : State) : Type 0 where
  pub within : links state.pairs ≤ most_links
  pub few : length state.spares ≤ most_spares
  pub free : has_place state ≡ false → state.spares ≡ []
  pub needed : (number : ℕ) → IfSome (find_pair number state.pairs) (IsNeeded number state.spares)
  pub idle : (number : ℕ) → has_number number state.spares ≡ true → IsIdleAt (find_pair number state.pairs)

-- the law
abbrev pub EachHoldsFew : Type 0
EachHoldsFew = (listed : Listed) (events : List Happening) → AllFit (first_state listed) events
    → AreFew (run (first_state listed) events)
