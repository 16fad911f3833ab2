use Rattle.std.proofs.Common.{◌≡◌, Option, IfOk, None, subst, sym}
use Rattle.lists.specs.Firsts.{IsFirst}
use Rattle.lists.specs.Keyed.{has_key}
use Rattle.lists.proofs.FirstLemmas.{changed_nowhere, changed_to}
use Rattle.log_book.specs.Books.{find_peer, port_of}
use Rattle.log_book.specs.Peers.{answered}
use Rattle.log_book.specs.declared.peer.Ended.{Ended}
use Rattle.log_book.proofs.ListLemmas.{ends_there, on_ok}
use Rattle.log_book.proofs.book.give.Goals as goal

pub returns-in_default-clause-peers : goal.returns-in_default-clause-peers
returns-in_default-clause-peers c =
    let none : find_peer c.args.port c.args.peers.now.items ≡ None = rw c.deref.ensures.value at c.in_default.ensures in
    sym (changed_nowhere (has_key port_of c.args.port) (answered c.args.wall c.args.bytes.now) c.args.peers.now.items none)

pub returns-clause-peers : goal.returns-clause-peers
returns-clause-peers c =
    let all = c.args.peers.now.items in
    let at : IsFirst (has_key port_of c.args.port) all c.in-Some.place = rw c.deref.ensures.value at c.in-Some.ensures in
    on_ok c.give.result
    (λ is. changed_to (has_key port_of c.args.port) (answered c.args.wall c.args.bytes.now) all c.in-Some.place
    c.index_mut-one.result.now c.give.new.self at c.index_mut-one.ensures.value is)
    c.give.ensures.peer

pub returns-clause-ended : goal.returns-clause-ended
returns-clause-ended c =
    let all = c.args.peers.now.items in
    let at : IsFirst (has_key port_of c.args.port) all c.in-Some.place = rw c.deref.ensures.value at c.in-Some.ensures in
    subst (λ (found : Option Ended). IfOk c.give.result (λ ended. ended ≡ found))
    (ends_there c.args.bytes.now c.args.port all c.in-Some.place c.index_mut-one.result.now at c.index_mut-one.ensures.value)
    c.give.ensures.ended
