use Rattle.std.proofs.Common.{◌≡◌, ◌≤◌, IfSome, None, Some, subst, sym, rules}
use Rattle.helper_link.specs.HelperLink.{newest, second_of}
use Rattle.part_table.proofs.SecondLemmas.{up_to-last}
use Rattle.part_table.proofs.link.may_ask.Goals as goal

pub returns-in-None-clause-later : goal.returns-in-None-clause-later
returns-in-None-clause-later c is =
    let none : newest c.args.link.now.asks ≡ None = search rules in
    up_to-last second_of 0 c.args.now c.args.link.now.asks (c.state.ensures.sound).seconds
    (subst (λ found. IfSome found (λ one. second_of one ≤ c.args.now)) (sym none) tt)

pub returns-in-Some-clause-later : goal.returns-in-Some-clause-later
returns-in-Some-clause-later c is =
    let last : Some c.in-Some.newest.now ≡ newest c.args.link.now.asks = search rules in
    let before : second_of c.in-Some.newest.now ≤ c.args.now = search rules in
    up_to-last second_of 0 c.args.now c.args.link.now.asks (c.state.ensures.sound).seconds
    (subst (λ found. IfSome found (λ one. second_of one ≤ c.args.now)) last before)
