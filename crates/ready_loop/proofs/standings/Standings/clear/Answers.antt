use Rattle.ready_loop.proofs.StoodLemmas.{told-cleared_read, told-cleared_write}
use Rattle.ready_loop.proofs.standings.Standings.clear.Goals as goal

pub returns-in-Read : goal.returns-in-Read
returns-in-Read c =
    told-cleared_read c.self.inside.listed.items c.self.inside.aside.items c.self.inside.marks c.clear_read.new.self
    c.in-Read.port c.args.thing c.args.self.now c.clear_read.ensures.rising c.self.view_is c.in-Read.is c.clear_read.ensures.cleared

pub returns-in-Write : goal.returns-in-Write
returns-in-Write c =
    told-cleared_write c.self.inside.listed.items c.self.inside.aside.items c.self.inside.marks c.clear_write.new.self
    c.in-Write.port c.args.thing c.args.self.now c.clear_write.ensures.rising c.self.view_is c.in-Write.is c.clear_write.ensures.cleared
