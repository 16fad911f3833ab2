use Rattle.std.proofs.Common.{rules}
use Rattle.key_blob.proofs.ReadingLemmas.{rest_goes_on, rest_stops, rest_ends}
use Rattle.key_blob.proofs.fields.skip_fields.Goals as goal

pub returns-in_err-take_field : goal.returns-in_err-take_field
returns-in_err-take_field c =
    let l = c.loop-field in
    let stopped = rest_stops c.args.fields.now l.field-index l.from _ l.invariant c.in_err-take_field.field-0.0
    c.loop-field-test.true c.in_err-take_field.ensures.exact in
    search rules

pub loop-field-preserved : goal.loop-field-preserved
loop-field-preserved c =
    let l = c.loop-field in
    rest_goes_on c.args.fields.now l.field-index l.from _ l.invariant c.in_ok-take_field.field-0.now
    c.take_field.new.from c.loop-field-test.true c.in_ok-take_field.ensures.exact

pub returns : goal.returns
returns c =
    let l = c.loop-field in
    rest_ends c.args.fields.now l.field-index l.from _ l.invariant c.loop-field-test.false
