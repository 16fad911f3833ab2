use Rattle.std.proofs.Common.{◌∙◌, sym, ap}
use Rattle.lists.specs.Firsts.{IsFirst}
use Rattle.confirm_desk.specs.Calls.{Telling}
use Rattle.confirm_desk.specs.Confirmations.{NotYet, Yes, No, came_to}
use Rattle.confirm_desk.specs.declared.held.Verdict.TheVariants as verdicts
use Rattle.confirm_desk.proofs.TellLemmas.{gives_back, lost_there, says, told_there}
use Rattle.confirm_desk.proofs.list.tell.Goals as goal

pub returns-in-NotYet-clause-desk : goal.returns-in-NotYet-clause-desk
returns-in-NotYet-clause-desk c =
    let all = c.args.pending.now.items in
    let one = c.index_mut-one.result.now in
    let at : IsFirst (came_to c.args.port) all c.in-Some.place = rw c.deref.ensures.value at c.in-Some.ensures in
    told_there c.args.port c.in-Some.place all one c.requires.apart at c.index_mut-one.ensures.value c.args.piece.now c.hear.new.self c.in_ok-hear.ensures.ok
    ∙ sym (ap (λ (t : Telling). t.desk) (says c.args.port c.in-Some.place all one c.requires.apart at c.index_mut-one.ensures.value c.args.piece.now c.hear.new.self c.in_ok-hear.ensures.ok NotYet c.in-NotYet.ensures))

pub returns-in-NotYet-clause-verdict : goal.returns-in-NotYet-clause-verdict
returns-in-NotYet-clause-verdict c =
    let all = c.args.pending.now.items in
    let one = c.index_mut-one.result.now in
    let at : IsFirst (came_to c.args.port) all c.in-Some.place = rw c.deref.ensures.value at c.in-Some.ensures in
    sym (ap (λ (t : Telling). t.verdict) (says c.args.port c.in-Some.place all one c.requires.apart at c.index_mut-one.ensures.value c.args.piece.now c.hear.new.self c.in_ok-hear.ensures.ok NotYet c.in-NotYet.ensures))

pub returns-in-Yes-clause-desk : goal.returns-in-Yes-clause-desk
returns-in-Yes-clause-desk c =
    let all = c.args.pending.now.items in
    let one = c.index_mut-one.result.now in
    let at : IsFirst (came_to c.args.port) all c.in-Some.place = rw c.deref.ensures.value at c.in-Some.ensures in
    c.remove.ensures.items
    ∙ lost_there c.args.port c.in-Some.place all one c.requires.apart at c.index_mut-one.ensures.value c.args.piece.now c.hear.new.self c.in_ok-hear.ensures.ok
    ∙ sym (ap (λ (t : Telling). t.desk) (says c.args.port c.in-Some.place all one c.requires.apart at c.index_mut-one.ensures.value c.args.piece.now c.hear.new.self c.in_ok-hear.ensures.ok Yes c.in-Yes.ensures))

pub returns-in-Yes-clause-verdict : goal.returns-in-Yes-clause-verdict
returns-in-Yes-clause-verdict c =
    let all = c.args.pending.now.items in
    let one = c.index_mut-one.result.now in
    let at : IsFirst (came_to c.args.port) all c.in-Some.place = rw c.deref.ensures.value at c.in-Some.ensures in
    ap verdicts.Granted (c.into_held.ensures ∙ gives_back c.args.port c.in-Some.place all one c.requires.apart at c.index_mut-one.ensures.value c.args.piece.now c.hear.new.self c.in_ok-hear.ensures.ok c.remove.result c.remove.ensures.value)
    ∙ sym (ap (λ (t : Telling). t.verdict) (says c.args.port c.in-Some.place all one c.requires.apart at c.index_mut-one.ensures.value c.args.piece.now c.hear.new.self c.in_ok-hear.ensures.ok Yes c.in-Yes.ensures))

pub returns-in-No-clause-desk : goal.returns-in-No-clause-desk
returns-in-No-clause-desk c =
    let all = c.args.pending.now.items in
    let one = c.index_mut-one.result.now in
    let at : IsFirst (came_to c.args.port) all c.in-Some.place = rw c.deref.ensures.value at c.in-Some.ensures in
    c.remove-in-No.ensures.items
    ∙ lost_there c.args.port c.in-Some.place all one c.requires.apart at c.index_mut-one.ensures.value c.args.piece.now c.hear.new.self c.in_ok-hear.ensures.ok
    ∙ sym (ap (λ (t : Telling). t.desk) (says c.args.port c.in-Some.place all one c.requires.apart at c.index_mut-one.ensures.value c.args.piece.now c.hear.new.self c.in_ok-hear.ensures.ok No c.in-No.ensures))

pub returns-in-No-clause-verdict : goal.returns-in-No-clause-verdict
returns-in-No-clause-verdict c =
    let all = c.args.pending.now.items in
    let one = c.index_mut-one.result.now in
    let at : IsFirst (came_to c.args.port) all c.in-Some.place = rw c.deref.ensures.value at c.in-Some.ensures in
    ap verdicts.Denied (c.into_held-in-No.ensures ∙ gives_back c.args.port c.in-Some.place all one c.requires.apart at c.index_mut-one.ensures.value c.args.piece.now c.hear.new.self c.in_ok-hear.ensures.ok c.remove-in-No.result c.remove-in-No.ensures.value)
    ∙ sym (ap (λ (t : Telling). t.verdict) (says c.args.port c.in-Some.place all one c.requires.apart at c.index_mut-one.ensures.value c.args.piece.now c.hear.new.self c.in_ok-hear.ensures.ok No c.in-No.ensures))
