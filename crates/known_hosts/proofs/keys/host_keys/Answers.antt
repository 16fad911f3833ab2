use Rattle.std.proofs.Common.{refl}
use Rattle.known_hosts.specs.HostKeys.{host_keys_of}
use Rattle.known_hosts.proofs.keys.host_keys.Goals as goal

pub lines-init : goal.lines-init
unfolding host_keys_of
lines-init c = (rw (c.new-keys.ensures.items, c.of-lines.ensures) refl, c.in_ok-lowered_host.ensures.ok)
