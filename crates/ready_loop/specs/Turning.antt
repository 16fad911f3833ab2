-- What holds before a part of a turn, and after it (ours).
use Rattle.std.specs.Prelude.{◌≡◌, ℕ, ◌≤◌, Result, OnOk}
use Rattle.agent_model.specs.State.{State}
use Rattle.loop_model.specs.Lines.{IsOrdered, Line}
use Rattle.loop_model.specs.Orderly.{IsOrderly}
use Rattle.loop_model.specs.Queues.{AreApart}

-- the agent is in order, and what is ready is: what the list holds can be served, and what is set aside can't be
pub record IsFit (state : State) (line : Line) : Type 0 where
  pub orderly : IsOrderly state
  pub ordered : IsOrdered state line

-- a part of a turn may come: agent and line are in order, nothing stands twice in the list, the world gave the last port
-- its number, and its greatest second is at least the agent's
pub record IsReady (state : State) (line : Line) (last greatest : ℕ) : Type 0 where
  pub fit : IsFit state line
  pub apart : AreApart line.queue
  pub ports : last ≡ state.last_port
  pub second : state.moment.mono ≤ greatest

-- a part of a turn has come: where memory sufficed, last port and second are so again; the world's faults didn't fall, and
-- it went on from where it was
pub record HasGone {T E : Type 0} (result : Result T E) (state : State) (last greatest faults after : ℕ) (goes_on : Type 0) : Type 0 where
  pub ports : OnOk result (last ≡ state.last_port)
  pub second : OnOk result (state.moment.mono ≤ greatest)
  pub later : faults ≤ after
  pub led : goes_on
