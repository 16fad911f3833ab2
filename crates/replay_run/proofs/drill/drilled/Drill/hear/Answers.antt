use Rattle.std.proofs.Common.{false, sym, true, ◌≡◌, ◌∙◌}
use Rattle.replay_run.proofs.DrillLemmas.{heard_not, heard_there}
use Rattle.replay_run.proofs.TallyLemmas.{put_behind, some_string}
use Rattle.replay_run.proofs.drill.drilled.Drill.hear.Goals as goal

pub returns-then-not-is_open-clause-heard : goal.returns-then-not-is_open-clause-heard
returns-then-not-is_open-clause-heard c =
    heard_not c.args.moment c.args.port c.args.body.now c.args.self.now
    (λ some. let wrong : false ≡ true = sym c.if-not-is_open.true ∙ c.is_open.ensures.1 some in absurd (cc))

pub line-requires-clause-fits : goal.line-requires-clause-fits
line-requires-clause-fits c = (
  c.is_open.ensures.0 c.if-not-is_open.false,
  rw (c.as_slice-piece.ensures.value ∙ put_behind _ _ _ c.in_ok-put_string.ensures.ok c.new-frame.ensures.items) (some_string c.args.body.now),
)

pub returns-clause-heard : goal.returns-clause-heard
returns-clause-heard c =
    heard_there c.args.moment c.args.port c.args.body.now _ c.args.self.now c.line.new.self
    (c.is_open.ensures.0 c.if-not-is_open.false)
    (c.as_slice-piece.ensures.value ∙ put_behind _ _ _ c.in_ok-put_string.ensures.ok c.new-frame.ensures.items)
    c.in_ok-line.ensures.line
