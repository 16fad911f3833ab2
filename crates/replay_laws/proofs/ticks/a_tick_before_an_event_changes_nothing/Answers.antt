use Rattle.replay_laws.proofs.TickLemmas.{tick-put, tick-state, ticks-run}
use Rattle.replay_laws.proofs.ticks.a_tick_before_an_event_changes_nothing.Goals as goal

pub returns : goal.returns
returns c = record { state = tick-state; put = tick-put; runs = ticks-run }
