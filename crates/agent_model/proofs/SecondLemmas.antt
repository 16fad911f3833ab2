-- The greatest second of the table, which no request changes.
use Rattle.std.proofs.Common.{◌≡◌, ℕ, List, Option, Some, None, refl}
use Rattle.agent_model.specs.Binds.{agent_request_of}
use Rattle.agent_model.specs.Dispatch.{Asker, Served, serve}
use Rattle.agent_model.specs.Errands.{addition_of}
use Rattle.agent_model.specs.KeyStates.{KeyState, after_use}
use Rattle.agent_model.specs.State.{UnderWay}
use Rattle.agent_model.proofs.ServeLemmas.{IsServed, answered, asked, raised, refused, serve-ends}

-- nor does a use
second-used : (used : Option ℕ) (held : KeyState)
    → (after_use used held).table.greatest ≡ held.table.greatest
second-used None held = refl
second-used (Some addition) held = refl

second-served : {asker : Asker} {held : KeyState} {under_way : UnderWay} {served : Served}
    → IsServed asker held under_way served → asker.mono ≡ held.table.greatest
    → served.held.table.greatest ≡ held.table.greatest
second-served (answered reply kept keeps) same = keeps same
second-served (refused cause) same = refl
second-served {held = held} (asked errand free right) same = second-used (addition_of errand) held
second-served (raised key signing free) same = refl

-- at the greatest second of the table the request of a body leaves it
pub second-serve : (body : List ℕ) (asker : Asker) (held : KeyState) (under_way : UnderWay)
    → asker.mono ≡ held.table.greatest
    → (serve (agent_request_of body) asker held under_way).held.table.greatest ≡ held.table.greatest
second-serve body asker held under_way = second-served (serve-ends asker held under_way body)
