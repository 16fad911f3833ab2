use Rattle.std.proofs.Common.{subst, sym}
use Rattle.filter_model.specs.Answered.{Free, at}
use Rattle.filter_top.specs.Moves.{Turns}
use Rattle.filter_top.specs.declared.turn.Turn.{Turn}
use Rattle.filter_top.proofs.MoveLemmas.{never_refused, served_ok, served_turns}
use Rattle.filter_top.proofs.turn.serve_next.Goals as goal

pub returns-in-Some-Accept-clause-legal : goal.returns-in-Some-Accept-clause-legal
returns-in-Some-Accept-clause-legal g c =
    let from = at c.args.filter.now c.args.line.now Free in
    let to = at c.accept.new.filter c.accept.new.line Free in
    subst (λ (t : Turn). Turns t from (g.P.Pairs.journal c.args.pairs.now) (g.P.Pairs.journal c.accept.new.pairs) to) (sym c.served.ensures)
    (served_turns c.accept.result from to (g.P.Pairs.journal c.args.pairs.now) (g.P.Pairs.journal c.accept.new.pairs) c.accept.ensures.legal)

pub returns-in-Some-Accept-clause-pairs : goal.returns-in-Some-Accept-clause-pairs
returns-in-Some-Accept-clause-pairs g c = served_ok c.accept.result c.served.result c.served.ensures c.accept.ensures.pairs

pub returns-in-Some-Accept-clause-cause : goal.returns-in-Some-Accept-clause-cause
returns-in-Some-Accept-clause-cause g c = λ refused. absurd (never_refused c.accept.result c.served.result c.served.ensures refused)

pub returns-in-Some-Read-clause-legal : goal.returns-in-Some-Read-clause-legal
returns-in-Some-Read-clause-legal g c =
    let from = at c.args.filter.now c.args.line.now Free in
    let to = at c.read.new.filter c.read.new.line Free in
    subst (λ (t : Turn). Turns t from (g.P.Pairs.journal c.args.pairs.now) (g.P.Pairs.journal c.read.new.pairs) to) (sym c.served-in-Some-Read.ensures)
    (served_turns c.read.result from to (g.P.Pairs.journal c.args.pairs.now) (g.P.Pairs.journal c.read.new.pairs) c.read.ensures.legal)

pub returns-in-Some-Read-clause-pairs : goal.returns-in-Some-Read-clause-pairs
returns-in-Some-Read-clause-pairs g c = served_ok c.read.result c.served-in-Some-Read.result c.served-in-Some-Read.ensures c.read.ensures.pairs

pub returns-in-Some-Read-clause-cause : goal.returns-in-Some-Read-clause-cause
returns-in-Some-Read-clause-cause g c = λ refused. absurd (never_refused c.read.result c.served-in-Some-Read.result c.served-in-Some-Read.ensures refused)

pub returns-in-Some-Write-clause-legal : goal.returns-in-Some-Write-clause-legal
returns-in-Some-Write-clause-legal g c =
    let from = at c.args.filter.now c.args.line.now Free in
    let to = at c.send.new.filter c.send.new.line Free in
    subst (λ (t : Turn). Turns t from (g.P.Pairs.journal c.args.pairs.now) (g.P.Pairs.journal c.send.new.pairs) to) (sym c.served-in-Some-Write.ensures)
    (served_turns c.send.result from to (g.P.Pairs.journal c.args.pairs.now) (g.P.Pairs.journal c.send.new.pairs) c.send.ensures.legal)

pub returns-in-Some-Write-clause-pairs : goal.returns-in-Some-Write-clause-pairs
returns-in-Some-Write-clause-pairs g c = served_ok c.send.result c.served-in-Some-Write.result c.served-in-Some-Write.ensures c.send.ensures.pairs

pub returns-in-Some-Write-clause-cause : goal.returns-in-Some-Write-clause-cause
returns-in-Some-Write-clause-cause g c = λ refused. absurd (never_refused c.send.result c.served-in-Some-Write.result c.served-in-Some-Write.ensures refused)
