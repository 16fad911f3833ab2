use Rattle.lists.specs.Firsts.{IsFirst}
use Rattle.lists.specs.Keyed.{has_key}
use Rattle.lists.proofs.FirstLemmas.{changed_to}
use Rattle.log_book.specs.Books.{port_of}
use Rattle.log_book.specs.Peers.{put_at}
use Rattle.log_book.proofs.list.put.Goals as goal

pub returns : goal.returns
returns c =
    let all = c.args.peers.now.items in
    let at : IsFirst (has_key port_of c.args.port) all c.in-Some.place = rw c.deref.ensures.value at c.in-Some.ensures in
    changed_to (has_key port_of c.args.port) (put_at c.args.faults) all c.in-Some.place c.index_mut-one.result.now c.put.new.self
    at c.index_mut-one.ensures.value c.put.ensures
