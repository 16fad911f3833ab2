use Rattle.known_hosts.proofs.ListLemmas.{list_tested}
use Rattle.known_hosts.proofs.hosts.list_fits.Goals as goal

pub returns : goal.returns
returns c = list_tested c.args.host.now c.args.patterns.now c.list_matches.result c.list_matches.ensures
