use Rattle.key_blob.specs.Rows.{fields_of}
use Rattle.key_blob.proofs.GrammarLemmas.{rest_is_within}
use Rattle.key_blob.proofs.fields.take_fields.Goals as goal

pub slice_bounds-result-count : goal.slice_bounds-result-count
slice_bounds-result-count c =
    let bytes = c.rest-bytes.result.now in
    let within = rest_is_within (fields_of c.args.fields.now) bytes c.args.from.now c.skip_fields.new.from c.rest-bytes.ensures.bytes c.rest-bytes.ensures.value
    c.in_ok-skip_fields.ensures in
    rw c.rest-rest.ensures.value within
