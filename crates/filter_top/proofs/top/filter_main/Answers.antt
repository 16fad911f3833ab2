use Rattle.std.proofs.Common.{[], subst, sym}
use Rattle.filter_model.specs.Filters.{State}
use Rattle.filter_model.specs.Answered.{Binding, at}
use Rattle.filter_model.specs.LegalPairs.{first_reading}
use Rattle.filter_top.specs.Passing.{PassesExactly, ServesFairly}
use Rattle.filter_core.specs.Slots.{listed_of}
use Rattle.filter_top.specs.declared.status.FilterStatus.{FilterStatus}
use Rattle.filter_top.specs.Program.{Asked, IsEarlyEnd, IsListed, Runs, Serves, asked_in, asked_of, texts_of}
use Rattle.filter_top.proofs.TopLemmas.{asked_once, calls_of, ends_before, ends_with, fair_by, no_calls, passes_by}
use Rattle.filter_top.proofs.top.filter_main.Goals as goal

pub returns-in-Ok-clause-runs : goal.returns-in-Ok-clause-runs
returns-in-Ok-clause-runs g c = λ held asked words told.
    let read = asked_of c.in-Some.asked in
    let same = asked_once read asked (asked_in (texts_of c.args.words.now)) c.in-Some.ensures words in
    subst (λ (a : Asked). Runs held a c.serve.result (g.P.Pairs.journal c.args.pairs.now) (g.P.Pairs.journal c.serve.new.pairs)) same
    (ends_with held read (listed_of c.in-Ok.listed) c.serve.result (g.P.Pairs.journal c.args.pairs.now) (g.P.Pairs.journal c.serve.new.pairs)
    (c.in-Ok.ensures.read held told)
    (subst (λ (s : State). Serves c.serve.result (at s [] (Binding read.path read.upstream)) (g.P.Pairs.journal c.args.pairs.now) (g.P.Pairs.journal c.serve.new.pairs)) c.new-filter.ensures c.serve.ensures.serves))

pub returns-in-Err-clause-runs : goal.returns-in-Err-clause-runs
returns-in-Err-clause-runs g c = λ held asked words told.
    let read = asked_of c.in-Some.asked in
    let same = asked_once read asked (asked_in (texts_of c.args.words.now)) c.in-Some.ensures words in
    subst (λ (a : Asked). Runs held a c.in-Err.status (g.P.Pairs.journal c.args.pairs.now) (g.P.Pairs.journal c.args.pairs.now)) same
    (ends_before held read c.in-Err.status (g.P.Pairs.journal c.args.pairs.now) (c.in-Err.ensures.read held told))

pub returns-in-Err-clause-usage : goal.returns-in-Err-clause-usage
returns-in-Err-clause-usage g c = λ is. absurd (subst (λ (s : FilterStatus). IsEarlyEnd s) is c.in-Err.ensures.own)

pub returns-in-Err-clause-bind : goal.returns-in-Err-clause-bind
returns-in-Err-clause-bind g c = λ is. absurd (subst (λ (s : FilterStatus). IsEarlyEnd s) is c.in-Err.ensures.own)

pub returns-in-Err-clause-poll : goal.returns-in-Err-clause-poll
returns-in-Err-clause-poll g c = λ is. absurd (subst (λ (s : FilterStatus). IsEarlyEnd s) is c.in-Err.ensures.own)

pub returns-in-Ok-clause-passes : goal.returns-in-Ok-clause-passes
returns-in-Ok-clause-passes g c = λ held asked listed words told is.
    let read = asked_of c.in-Some.asked in
    let same = asked_once read asked (asked_in (texts_of c.args.words.now)) c.in-Some.ensures words in
    subst (λ (a : Asked). PassesExactly listed a (g.P.Pairs.journal c.args.pairs.now) (g.P.Pairs.journal c.serve.new.pairs)) same
    (passes_by listed read (g.P.Pairs.journal c.args.pairs.now) (g.P.Pairs.journal c.serve.new.pairs)
    (calls_of (held read.list) listed (listed_of c.in-Ok.listed) read c.serve.result (g.P.Pairs.journal c.args.pairs.now) (g.P.Pairs.journal c.serve.new.pairs)
    (subst (λ (a : Asked). IsListed (held a.list) a.purposes listed) (sym same) is) (c.in-Ok.ensures.read held told)
    (subst (λ (s : State). Serves c.serve.result (at s [] (Binding read.path read.upstream)) (g.P.Pairs.journal c.args.pairs.now) (g.P.Pairs.journal c.serve.new.pairs)) c.new-filter.ensures c.serve.ensures.serves)))

pub returns-in-Ok-clause-fair : goal.returns-in-Ok-clause-fair
returns-in-Ok-clause-fair g c = λ held asked listed words told is.
    let read = asked_of c.in-Some.asked in
    let same = asked_once read asked (asked_in (texts_of c.args.words.now)) c.in-Some.ensures words in
    subst (λ (a : Asked). ServesFairly listed a (g.P.Pairs.journal c.args.pairs.now) (g.P.Pairs.journal c.serve.new.pairs)) same
    (fair_by listed read (g.P.Pairs.journal c.args.pairs.now) (g.P.Pairs.journal c.serve.new.pairs)
    (calls_of (held read.list) listed (listed_of c.in-Ok.listed) read c.serve.result (g.P.Pairs.journal c.args.pairs.now) (g.P.Pairs.journal c.serve.new.pairs)
    (subst (λ (a : Asked). IsListed (held a.list) a.purposes listed) (sym same) is) (c.in-Ok.ensures.read held told)
    (subst (λ (s : State). Serves c.serve.result (at s [] (Binding read.path read.upstream)) (g.P.Pairs.journal c.args.pairs.now) (g.P.Pairs.journal c.serve.new.pairs)) c.new-filter.ensures c.serve.ensures.serves)))

pub returns-in-Err-clause-passes : goal.returns-in-Err-clause-passes
returns-in-Err-clause-passes g c = λ held asked listed words told is.
    passes_by listed asked (g.P.Pairs.journal c.args.pairs.now) (g.P.Pairs.journal c.args.pairs.now)
    (no_calls (first_reading listed asked.path asked.upstream) (g.P.Pairs.journal c.args.pairs.now))

pub returns-in-Err-clause-fair : goal.returns-in-Err-clause-fair
returns-in-Err-clause-fair g c = λ held asked listed words told is.
    fair_by listed asked (g.P.Pairs.journal c.args.pairs.now) (g.P.Pairs.journal c.args.pairs.now)
    (no_calls (first_reading listed asked.path asked.upstream) (g.P.Pairs.journal c.args.pairs.now))
