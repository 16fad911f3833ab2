-- The signing requests that are seen to be put to the helper are those that the agent puts (ours).
use Rattle.std.specs.Prelude.{◌≡◌, ℕ, List, Option, None, Some}
use Rattle.std.specs.List.{filter_map}
use Rattle.agent_model.specs.Events.{Timed}
use Rattle.agent_model.specs.Runs.{Stamped, history}
use Rattle.agent_model.specs.State.{State}
use Rattle.log_book.specs.declared.sight.Sight.{Sight}
use Rattle.log_book.specs.declared.sight.What.{What}
use Rattle.log_book.specs.declared.sight.What.TheVariants as what
use Rattle.log_laws.specs.Sights.{put_by, raised_by, run_sights}

-- the client whose request is seen to be put to the helper
abbrev pub put_seen : What → Option ℕ
put_seen (what.Sent port piece) = None
put_seen (what.Given port bytes) = None
put_seen (what.Raised port) = None
put_seen (what.Put port) = Some port
put_seen (what.Closed port) = None

-- and about whose request the user is seen to be asked
abbrev pub raised_seen : What → Option ℕ
raised_seen (what.Sent port piece) = None
raised_seen (what.Given port bytes) = None
raised_seen (what.Raised port) = Some port
raised_seen (what.Put port) = None
raised_seen (what.Closed port) = None

-- those of all that is seen, in its order
abbrev pub counted : (What → Option ℕ) → List Sight → List ℕ
counted of sights = filter_map (λ (sight : Sight). of sight.what) sights

-- what is seen of a run are the requests that its history puts, each once and in their order
abbrev pub SeesPuts : State → List Timed → Type 0
SeesPuts state events = counted put_seen (run_sights state events)
    ≡ filter_map (λ (one : Stamped). put_by one.action) (history state events)

-- and the questions that its history asks
abbrev pub SeesRaises : State → List Timed → Type 0
SeesRaises state events = counted raised_seen (run_sights state events)
    ≡ filter_map (λ (one : Stamped). raised_by one.action) (history state events)
