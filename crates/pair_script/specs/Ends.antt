-- Both connections of a scripted pair (ours): that to the agent behind may be made anew.
use Rattle.std.specs.Prelude.{ℕ, unwrap_or}
use Rattle.std.specs.Ordering.{nat_cmp}
use Rattle.std.specs.BTreeMap.{BTreeMap, get}
use Rattle.pair_ports.specs.declared.side.Side.{Side}
use Rattle.pair_ports.specs.declared.side.Side.TheVariants.{Client, Upstream}
use Rattle.pair_ports.specs.declared.entry.Linked.{Linked}
use Rattle.pair_ports.specs.declared.entry.Linked.TheVariants as linked
use Rattle.world_ports.specs.declared.answers.Wrote.{Wrote}
use Rattle.world_ports.specs.declared.answers.Wrote.TheVariants as wrote
use Rattle.world_ports.specs.Script.{PipeState, new_pipe, next_wrote}

-- what is known of a pair: its client's connection, and the one to the agent behind
pub record EndsState : Type 0 where
  pub client : PipeState
  pub upstream : PipeState

-- a pair at which nothing has happened
abbrev pub new_ends : EndsState
new_ends = record { client = new_pipe; upstream = new_pipe }

-- one side of it
abbrev pub side_of : Side → EndsState → PipeState
side_of Client ends = ends.client
side_of Upstream ends = ends.upstream

-- one side of the pair with a number
abbrev pub end_of : BTreeMap ℕ EndsState → ℕ → Side → PipeState
end_of pairs pair side = side_of side (unwrap_or (get nat_cmp pairs pair) new_ends)

-- what a connect is answered by what a write is
abbrev pub linked_by : Wrote → Linked
linked_by (wrote.Took n) = linked.Made
linked_by wrote.NotNow = linked.NotNow

-- the agent behind has a place where it takes a byte
abbrev pub next_linked : PipeState → Linked
next_linked pipe = linked_by (next_wrote pipe 1)
