-- Literal rows: what the child process of a job takes (ours).
use Rattle.std.specs.Prelude.{[], ◌∷◌, Some}
use Rattle.world_ports.specs.declared.Door.TheVariants.{Children}
use Rattle.confirm_desk.specs.Confirmations.{Confirmation}
use Rattle.agent_model.specs.State.{State, first_state, new_port, no_limits, no_settings, nothing_under_way}

-- the confirmation of job 1, whose child process came to port 2 and is owed three bytes
abbrev pub waiting : Confirmation
waiting = record {
  job = 1;
  asker = 1;
  addition = 1;
  message = [];
  flags = 0;
  raised_at = 0;
  port = Some 2;
  heard = [];
  owed = 7 ∷ 8 ∷ 9 ∷ [];
}

-- nothing else is under way, and no other port is open
abbrev pub asks_user : State
asks_user = record (first_state no_settings) {
  ports = new_port 2 Children ∷ [];
  last_port = 2;
  under_way = record (nothing_under_way no_limits) { confirmations = waiting ∷ []; last_job = 1 };
}
