use Rattle.std.proofs.Common.{◌≡◌, ◌≤◌, ◌-◌, length, IfSome, Some, subst, rules}
use Rattle.std.specs.List.{slice_get}
use Rattle.confirm_desk.specs.Confirmations.{second_of}
use Rattle.part_table.proofs.SecondLemmas.{up_to-last}
use Rattle.part_table.proofs.desk.may_raise.Goals as goal

pub returns-in-Some : goal.returns-in-Some
returns-in-Some c is =
    let last : Some c.in-Some.newest.now ≡ slice_get c.args.desk.now (length c.args.desk.now - 1) = search rules in
    let before : second_of c.in-Some.newest.now ≤ c.args.now = search rules in
    up_to-last second_of 0 c.args.now c.args.desk.now (c.as_slice.ensures.sound).seconds
    (subst (λ found. IfSome found (λ one. second_of one ≤ c.args.now)) last before)
