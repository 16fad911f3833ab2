-- Who waits while others are served (ours). Read from the end.
use Rattle.std.specs.Prelude.{◌≡◌, ℕ, Bool, true, false, List, [], ◌∷◌, ◌++◌, Option, Some, None, ◌&&◌}
use Rattle.std.specs.List.{list_any}
use Rattle.pair_ports.specs.declared.entry.PairEntry.{PairEntry}
use Rattle.pair_ports.specs.declared.entry.PairEntry.TheVariants as entry
use Rattle.pair_ports.specs.declared.side.Side.TheVariants.{Upstream}
use Rattle.filter_model.specs.declared.thing.Thing.{Thing}
use Rattle.filter_model.specs.declared.thing.Thing.TheVariants.{Accept, Read, Write}
use Rattle.filter_model.specs.Answered.{Reading}
use Rattle.filter_model.specs.Lists.{Listed}
use Rattle.filter_model.specs.LegalPairs.{allowed, first_reading, read_on}
use Rattle.filter_model.specs.Lines.{has_thing, is_servable, same_thing}

-- the call serves this thing
abbrev pub is_service : Thing → PairEntry → Bool
is_service thing (entry.Bind path upstream answer) = false
is_service thing (entry.Poll items answer) = false
is_service thing (entry.Accept answer) = same_thing thing Accept
is_service thing (entry.Connect pair answer) = same_thing thing (Write pair Upstream)
is_service thing (entry.Read pair side room bytes answer) = same_thing thing (Read pair side)
is_service thing (entry.Write pair side offered answer) = same_thing thing (Write pair side)
is_service thing (entry.Disconnect pair answer) = false
is_service thing (entry.Close pair answer) = false

-- the calls are two services of this thing, with others before, between and after them
pub record ServeTwice (thing : Thing) (calls before between after : List PairEntry) (first last : PairEntry) : Type 0 where
  pub split : calls ≡ before ++ first ∷ (between ++ last ∷ after)
  pub once : is_service thing first ≡ true
  pub again : is_service thing last ≡ true

-- the thing is ready, and can be served
abbrev pub is_waiting : Thing → Reading → Bool
is_waiting thing reading = has_thing thing reading.line && is_servable reading.state thing

-- a test holds of the reading, where the journal reads
abbrev pub if_any : (Reading → Bool) → Option Reading → Bool
if_any test None = true
if_any test (Some reading) = test reading

-- the thing is ready in this reading and after each of the calls, and after the last of them it can be served
abbrev pub waits_on : Thing → Reading → List PairEntry → Bool
waits_on thing reading [] = is_waiting thing reading
waits_on thing reading (next ∷ later) =
    has_thing thing reading.line && if_any (λ after. waits_on thing after later) (allowed reading next)

-- between two services of one thing each other thing is served that is ready all the while, and can be served before the
-- second one: so who waits for a place is connected before anybody else is connected twice
abbrev pub IsFair : Reading → List PairEntry → Type 0
IsFair from calls = (thing other : Thing) (before between after : List PairEntry) (first last : PairEntry) (reading : Reading)
    → ServeTwice thing calls before between after first last → same_thing thing other ≡ false
    → read_on from (before ++ first ∷ []) ≡ Some reading → waits_on other reading between ≡ true
    → list_any (is_service other) between ≡ true

-- the law
abbrev pub EachIsFair : Type 0
EachIsFair = (listed : Listed) (path upstream : List ℕ) (calls : List PairEntry) (to : Reading)
    → read_on (first_reading listed path upstream) calls ≡ Some to → IsFair (first_reading listed path upstream) calls
