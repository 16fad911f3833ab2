use Rattle.std.proofs.Common.{refl, subst, Ok, Err, Result, List, ap, sym, ◌∙◌, true, Some}
use Rattle.world_ports.specs.declared.answers.Accepted.{Accepted}
use Rattle.world_ports.specs.declared.answers.Accepted.TheVariants as accepted
use Rattle.world_ports.specs.declared.answers.WorldFault.{WorldFault}
use Rattle.world_ports.specs.declared.answers.WorldFault.TheVariants.{Failed, Memory}
use Rattle.world_ports.specs.Worlds.{NumbersPort}
use Rattle.pair_ports.specs.declared.entry.PairEntry.TheVariants as entry
use Rattle.filter_model.specs.declared.thing.Thing.{Thing}
use Rattle.filter_model.specs.Filters.{Joined}
use Rattle.filter_model.specs.Answered.{Free, after_accept, after_event, at}
use Rattle.filter_top.proofs.CallLemmas.{accept_any, joined_fits, numbered}
use Rattle.filter_top.proofs.MoveLemmas.{call_then, first_call, one_call, stops_short, stops_there, told_at}
use Rattle.filter_top.proofs.turn.accept.Goals as goal

pub accept-requires : goal.accept-requires
accept-requires g c = rw c.requires.pairs (joined_fits c.args.filter.now c.args.line.now c.requires.next)

pub happen-requires-clause-fits : goal.happen-requires-clause-fits
happen-requires-clause-fits g c = joined_fits c.args.filter.now c.args.line.now c.requires.next

pub returns-in_default-clause-legal : goal.returns-in_default-clause-legal
returns-in_default-clause-legal g c =
    let state = c.args.filter.now in
    let line = c.args.line.now in
    let answer : Result Accepted WorldFault = Ok (accepted.Port c.in-Ok-Port.number) in
    stops_there (one_call (at state line Free) (after_accept state line answer) (g.P.Pairs.journal c.args.pairs.now) (g.P.Pairs.journal c.accept.new.self)
    (entry.Accept answer) (accept_any state line answer c.requires.next (numbered state.last_pair (g.P.Pairs.last_pair c.args.pairs.now) (g.P.Pairs.last_pair c.accept.new.self) c.in-Ok-Port.number c.requires.pairs
    (subst (λ r. NumbersPort r (g.P.Pairs.last_pair c.args.pairs.now) (g.P.Pairs.last_pair c.accept.new.self)) (c.in-Ok-Port.is ∙ ap Ok c.in-Ok-Port.field-0-is) c.accept.ensures.pairs)))
    (told_at (λ r. entry.Accept r) (g.P.Pairs.journal c.args.pairs.now) (g.P.Pairs.journal c.accept.new.self)
    (c.in-Ok-Port.is ∙ ap Ok c.in-Ok-Port.field-0-is) c.accept.ensures.told))

pub returns-in-Ok-clause-legal : goal.returns-in-Ok-clause-legal
returns-in-Ok-clause-legal g c =
    let state = c.args.filter.now in
    let line = c.args.line.now in
    let answer : Result Accepted WorldFault = Ok (accepted.Port c.in-Ok-Port.number) in
    call_then c.happen.result (at state line Free) (after_event Joined state c.accept-in-Ok-Port.new.self) (at c.happen.new.filter c.happen.new.line Free)
    (g.P.Pairs.journal c.args.pairs.now) (g.P.Pairs.journal c.accept.new.self) (g.P.Pairs.journal c.happen.new.pairs) (entry.Accept answer)
    (accept_any state line answer c.requires.next (numbered state.last_pair (g.P.Pairs.last_pair c.args.pairs.now) (g.P.Pairs.last_pair c.accept.new.self) c.in-Ok-Port.number c.requires.pairs
    (subst (λ r. NumbersPort r (g.P.Pairs.last_pair c.args.pairs.now) (g.P.Pairs.last_pair c.accept.new.self)) (c.in-Ok-Port.is ∙ ap Ok c.in-Ok-Port.field-0-is) c.accept.ensures.pairs)) ∙ ap (λ (l : List Thing). Some (after_event Joined state l)) (sym c.in-Ok.ensures))
    (told_at (λ r. entry.Accept r) (g.P.Pairs.journal c.args.pairs.now) (g.P.Pairs.journal c.accept.new.self)
    (c.in-Ok-Port.is ∙ ap Ok c.in-Ok-Port.field-0-is) c.accept.ensures.told)
    c.happen.ensures.legal

pub returns-in-Ok-NotNow-clause-legal : goal.returns-in-Ok-NotNow-clause-legal
returns-in-Ok-NotNow-clause-legal g c =
    let state = c.args.filter.now in
    let line = c.args.line.now in
    let answer : Result Accepted WorldFault = Ok accepted.NotNow in
    first_call (at state line Free) (at state c.remove.new.self Free) (g.P.Pairs.journal c.args.pairs.now) (g.P.Pairs.journal c.accept.new.self)
    (entry.Accept answer) (accept_any state line answer c.requires.next refl ∙ ap (λ (l : List Thing). Some (at state l Free)) (sym c.remove.ensures))
    (told_at (λ r. entry.Accept r) (g.P.Pairs.journal c.args.pairs.now) (g.P.Pairs.journal c.accept.new.self)
    (c.in-Ok-NotNow.is ∙ ap Ok c.in-Ok-NotNow.field-0-is) c.accept.ensures.told)

pub returns-in-Err-Failed-clause-legal : goal.returns-in-Err-Failed-clause-legal
returns-in-Err-Failed-clause-legal g c =
    let state = c.args.filter.now in
    let line = c.args.line.now in
    let answer : Result Accepted WorldFault = Err Failed in
    first_call (at state line Free) (at state c.remove-in-Err-Failed.new.self Free) (g.P.Pairs.journal c.args.pairs.now) (g.P.Pairs.journal c.accept.new.self)
    (entry.Accept answer) (accept_any state line answer c.requires.next refl ∙ ap (λ (l : List Thing). Some (at state l Free)) (sym c.remove-in-Err-Failed.ensures))
    (told_at (λ r. entry.Accept r) (g.P.Pairs.journal c.args.pairs.now) (g.P.Pairs.journal c.accept.new.self)
    (c.in-Err-Failed.is ∙ ap Err c.in-Err-Failed.field-0-is) c.accept.ensures.told)

pub returns-in-Err-Memory-clause-legal : goal.returns-in-Err-Memory-clause-legal
returns-in-Err-Memory-clause-legal g c =
    let state = c.args.filter.now in
    let line = c.args.line.now in
    let answer : Result Accepted WorldFault = Err Memory in
    stops_short (at state line Free) (after_accept state line answer) (g.P.Pairs.journal c.args.pairs.now) (g.P.Pairs.journal c.accept.new.self) true
    (entry.Accept answer) (accept_any state line answer c.requires.next refl)
    (told_at (λ r. entry.Accept r) (g.P.Pairs.journal c.args.pairs.now) (g.P.Pairs.journal c.accept.new.self)
    (c.in-Err-Memory.is ∙ ap Err c.in-Err-Memory.field-0-is) c.accept.ensures.told)
