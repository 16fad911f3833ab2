use Rattle.std.proofs.Common.{◌≡◌, ◌++◌, drop, map}
use Rattle.agent_msg.specs.ReplyReading.{lent}
use Rattle.add_core.specs.Listings.{lines_of}
use Rattle.add_core.proofs.listing.put_identities.Given as goal

-- what is written, and then the lines that are left, is what is written in the end
abbrev pub invariant-identities : goal.invariant-identities
invariant-identities l =
    l.out.items ++ lines_of l.listing (map lent (drop l.identity-index l.identities)) ≡ l.fn.out.items ++ lines_of l.listing (map lent l.identities)
