use Rattle.dest_rule.proofs.HostLemmas.{free-host, no_login-host, signed_has_host}
use Rattle.dest_rule.proofs.laws.the_host_of_a_login_is_that_of_a_constraint_that_permits_it.Goals as goal

pub returns : goal.returns
returns c = record { there = signed_has_host; free = free-host; no_login = no_login-host }
