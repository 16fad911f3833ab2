use Rattle.std.proofs.Common.{rules}
use Rattle.add_core.specs.Locks.{remove_all_step}
use Rattle.add_core.proofs.StepLemmas.{none_is_cut}
use Rattle.add_core.proofs.locking.remove_all.Goals as goal

pub returns-in_err-write_request-clause-told : goal.returns-in_err-write_request-clause-told
returns-in_err-write_request-clause-told g c = λ replies known.
    let cut = none_is_cut (remove_all_step replies) (g.P.Stream.seen c.args.peer.now) (g.E.Stream.seen c.args.errors.now) in
    search rules
