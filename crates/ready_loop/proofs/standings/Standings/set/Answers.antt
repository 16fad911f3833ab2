use Rattle.ready_loop.proofs.StoodLemmas.{told-read, told-write}
use Rattle.ready_loop.proofs.standings.Standings.set.Goals as goal

pub returns-in_ok-set_read-in-Read-clause-set : goal.returns-in_ok-set_read-in-Read-clause-set
returns-in_ok-set_read-in-Read-clause-set c =
    told-read c.self.inside.listed.items c.self.inside.aside.items c.self.inside.marks c.set_read.new.self
    c.in-Read.port c.args.thing c.args.self.now c.set_read.ensures.rising c.self.view_is c.args.standing c.in-Read.is
    c.in_ok-set_read-in-Read.ensures.set

pub returns-in_ok-set_write-in-Write-clause-set : goal.returns-in_ok-set_write-in-Write-clause-set
returns-in_ok-set_write-in-Write-clause-set c =
    told-write c.self.inside.listed.items c.self.inside.aside.items c.self.inside.marks c.set_write.new.self
    c.in-Write.port c.args.thing c.args.self.now c.set_write.ensures.rising c.self.view_is c.args.standing c.in-Write.is
    c.in_ok-set_write-in-Write.ensures.set
