use Rattle.lists.specs.Firsts.{IsFirst}
use Rattle.lists.specs.Keyed.{has_key}
use Rattle.log_book.specs.Books.{port_of}
use Rattle.log_book.specs.Peers.{Peer, looked, sent_more}
use Rattle.log_book.proofs.ListLemmas.{sent_there}
use Rattle.log_book.proofs.list.send.Goals as goal

pub returns-in_ok-send-in-Some : goal.returns-in_ok-send-in-Some
returns-in_ok-send-in-Some c =
    let all = c.args.peers.now.items in
    let at : IsFirst (has_key port_of c.args.port) all c.in-Some.place = rw c.deref.ensures.value at c.in-Some.ensures in
    sent_there (λ (peer : Peer). looked c.args.wall (sent_more c.args.piece.now peer)) c.args.port all c.in-Some.place
    c.index_mut-one.result.now c.send.new.self at c.index_mut-one.ensures.value c.in_ok-send-in-Some.ensures
