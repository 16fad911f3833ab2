use Rattle.std.proofs.Common.{◌∙◌, rules, ap, List, ℕ}
use Rattle.key_blob.specs.Rows.{fields_of, line_of}
use Rattle.key_blob.proofs.BlobLemmas.{completed, completed-all, blob_goes_on, blob_stops, blob_ends}
use Rattle.key_blob.proofs.added.take_public.Goals as goal

pub loop-field-init : goal.loop-field-init
loop-field-init c =
    let row = c.args.key_type.now in
    ap (λ (there : List ℕ). completed (line_of row) there (fields_of row.added.now) c.args.from.now)
    c.new-strings.ensures.items
    ∙ completed-all (line_of row) c.args.from.now

pub returns-in_err-content : goal.returns-in_err-content
returns-in_err-content c =
    let row = c.args.key_type.now in
    let l = c.loop-field in
    let stopped = blob_stops (line_of row) row.added.now l.field-index l.strings.items l.from _ l.invariant
    c.in_err-content.field-0.0 c.loop-field-test.true c.in_err-content.ensures.exact in
    search rules

pub loop-field-preserved : goal.loop-field-preserved
loop-field-preserved c =
    let row = c.args.key_type.now in
    let l = c.loop-field in
    blob_goes_on (line_of row) row.added.now l.field-index l.strings.items l.from _ l.invariant
    c.in_ok-content.content.now c.take_field.new.from c.join.new.strings.items c.loop-field-test.true
    c.in_ok-content.ensures.exact c.in_ok-join.ensures

pub returns : goal.returns
returns c =
    let row = c.args.key_type.now in
    let l = c.loop-field in
    blob_ends (line_of row) row.added.now l.field-index l.strings.items l.from _ l.invariant c.loop-field-test.false
