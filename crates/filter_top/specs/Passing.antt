-- What the calls of the filter come to (ours): `PassesExactly` and `ServesFairly`. From here on down:
--   filter_model, specs/Brought.antt: which events calls bring, and whose bytes they move
--   filter_model, specs/Watching.antt: what the bytes of a pair's sides have to be, by what its client asked for
--   filter_model, specs/KeptPurposes.antt: what may be put to the agent behind where purposes are given
--   filter_model, specs/Fairness.antt: which call serves a thing, and what waits
use Rattle.std.specs.Prelude.{◌≡◌, List, Option, Some}
use Rattle.world_ports.specs.Journal.{Grows}
use Rattle.pair_ports.specs.declared.entry.PairEntry.{PairEntry}
use Rattle.filter_model.specs.Lists.{Listed}
use Rattle.filter_model.specs.Answered.{Reading}
use Rattle.filter_model.specs.Brought.{Passes}
use Rattle.filter_model.specs.Fairness.{IsFair}
use Rattle.filter_model.specs.LegalPairs.{first_reading, read_on}
use Rattle.filter_top.specs.Program.{Asked}

-- the calls that were added may come, and of each pair they move exactly what the law says: the agent behind is written,
-- in order, the requests that may pass and no other, where purposes are given no signing request for anything else, and
-- the client one reply to each of its requests; and connections to the agent behind are few
pub record PassesExactly (listed : Listed) (asked : Asked) (old new : Option (List PairEntry)) : Type 0 where
  pub calls : List PairEntry
  pub to : Reading
  pub told : Grows old new calls
  pub legal : read_on (first_reading listed asked.path asked.upstream) calls ≡ Some to
  pub passes : Passes listed calls to

-- between two services of one thing in the calls that were added, each other thing is served that is ready all the while,
-- and can be served before the second one
pub record ServesFairly (listed : Listed) (asked : Asked) (old new : Option (List PairEntry)) : Type 0 where
  pub calls : List PairEntry
  pub told : Grows old new calls
  pub fair : IsFair (first_reading listed asked.path asked.upstream) calls
