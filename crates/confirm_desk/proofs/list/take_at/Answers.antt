use Rattle.std.proofs.Common.{◌∙◌, Option, sym, ap}
use Rattle.lists.specs.Firsts.{IsFirst}
use Rattle.lists.specs.Keyed.{has_key}
use Rattle.lists.proofs.FirstLemmas.{changed_to}
use Rattle.confirm_desk.specs.Calls.{took_by}
use Rattle.confirm_desk.specs.Confirmations.{Confirmation, came_to, job_of, took_some}
use Rattle.confirm_desk.proofs.TellLemmas.{at_port, of_job}
use Rattle.confirm_desk.proofs.list.take_at.Goals as goal

pub take-requires : goal.take-requires
take-requires c =
    let all = c.args.pending.now.items in
    let one = c.index_mut-one.result.now in
    let at : IsFirst (came_to c.args.port) all c.in-Some.place = rw c.deref.ensures.value at c.in-Some.ensures in
    rw (at_port c.args.port c.in-Some.place all one c.requires.apart at c.index_mut-one.ensures.value) at c.requires.owed

pub returns : goal.returns
returns c =
    let all = c.args.pending.now.items in
    let one = c.index_mut-one.result.now in
    let at : IsFirst (came_to c.args.port) all c.in-Some.place = rw c.deref.ensures.value at c.in-Some.ensures in
    changed_to (has_key job_of one.job) (took_some c.args.count) all c.in-Some.place one c.take.new.self
    (of_job c.args.port c.in-Some.place all one c.requires.apart at c.index_mut-one.ensures.value) c.index_mut-one.ensures.value c.take.ensures
    ∙ sym (ap (λ (there : Option Confirmation). took_by there c.args.count all) (at_port c.args.port c.in-Some.place all one c.requires.apart at c.index_mut-one.ensures.value))
