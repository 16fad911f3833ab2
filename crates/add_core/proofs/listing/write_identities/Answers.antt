use Rattle.std.proofs.Common.{◌≡◌, ◌++◌, List, ℕ, map, ap, ◌∙◌, arith, rules}
use Rattle.std.proofs.lemmas.Bool.Decides.{nat_tests}
use Rattle.agent_msg.specs.ReplyReading.{lent}
use Rattle.add_core.specs.Listings.{lines_of, listed}
use Rattle.add_core.proofs.ListingLemmas.{none_told, none_cut, lines_cut}
use Rattle.add_core.proofs.StepLemmas.{none_is_cut}
use Rattle.add_core.proofs.listing.write_identities.Goals as goal

pub returns-in_err-write_all-clause-told : goal.returns-in_err-write_all-clause-told
returns-in_err-write_all-clause-told g c = λ left peer known.
    let cut = none_cut c.args.listing c.args.identities.now left peer _ _ (grind (arith, nat_tests, c.is_empty.ensures)) c.in_err-write_all.ensures.err in
    search rules

pub returns-then-is_empty-clause-told : goal.returns-then-is_empty-clause-told
returns-then-is_empty-clause-told g c = λ left peer known.
    none_told c.args.listing c.args.identities.now left peer _ _ (grind (arith, nat_tests, c.is_empty.ensures)) c.in_ok-write_all.ensures.ok

pub returns-in_err-put_identities-clause-told : goal.returns-in_err-put_identities-clause-told
returns-in_err-put_identities-clause-told g c = λ left peer known.
    let cut = none_is_cut (listed c.args.listing (map lent c.args.identities.now) left) peer (g.O.Stream.seen c.args.output.now) in
    search rules

pub returns-in_err-write_all-2-clause-told : goal.returns-in_err-write_all-2-clause-told
returns-in_err-write_all-2-clause-told g c = λ left peer known.
    let lines = lines_of c.args.listing (map lent c.args.identities.now) in
    let text : c.deref.result.now ≡ lines =
    c.deref.ensures.value ∙ c.in_ok-put_identities.ensures ∙ ap (λ (l : List ℕ). l ++ lines) c.new-text.ensures.items in
    let cut = lines_cut c.args.listing c.args.identities.now left c.deref.result.now peer _ _ (grind (arith, nat_tests, c.is_empty.ensures)) text c.in_err-write_all-2.ensures.err in
    search rules
