use Rattle.std.proofs.Common.{◌≡◌, ◌++◌, drop}
use Rattle.log_book.specs.Books.{see_all}
use Rattle.log_book.proofs.book.Book.see_all.Given as goal

-- what is there and what the rest tells are all, and the book that the rest leaves is that of all
abbrev pub invariant-sights : goal.invariant-sights
invariant-sights l = record {
  told : l.told.items ++ (see_all (drop l.sight-index l.sights) l.self).told
      ≡ l.fn.told.items ++ (see_all l.sights l.fn.self).told;
  book : (see_all (drop l.sight-index l.sights) l.self).book ≡ (see_all l.sights l.fn.self).book;
}
