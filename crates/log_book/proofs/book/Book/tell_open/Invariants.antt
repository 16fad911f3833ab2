use Rattle.std.proofs.Common.{◌≡◌, ◌++◌, drop}
use Rattle.std.specs.List.{flat_map}
use Rattle.log_book.specs.Books.{open_of}
use Rattle.log_book.proofs.book.Book.tell_open.Given as goal

-- what is there, and the requests of the clients that are left, are all
abbrev pub invariant-peers : goal.invariant-peers
invariant-peers l =
    l.told.items ++ flat_map (open_of l.self.keys) (drop l.peer-index l.self.peers)
    ≡ l.fn.told.items ++ flat_map (open_of l.self.keys) l.self.peers
