use Rattle.std.proofs.Common.{◌<◌, arith}
use Rattle.std.proofs.lemmas.List.Elements.{All-from_get_or}
use Rattle.key_blob.specs.Rows.{line_of}
use Rattle.key_blob.proofs.Theorems.{rest_is_shorter}
use Rattle.key_blob.proofs.added.key_at.Goals as goal

pub slice_bounds-from_slice-count : goal.slice_bounds-from_slice-count
slice_bounds-from_slice-count c =
    let bytes = c.args.bytes.now in
    let small = All-from_get_or (λ byte. byte < 256) bytes 0 (λ i _. omega (arith, c.type_inv.bytes i)) in
    let within = rest_is_shorter bytes c.new-from.result (line_of c.row-key_type.result) c.in_ok-form.form c.take_form.new.from _ _ _ c.skip_fields-2.new.from small
    c.new-from.ensures c.row-key_type.ensures c.in_ok-form.ensures c.in_ok-take_blob.ensures c.in_ok-skip_fields.ensures c.in_ok-skip_fields-2.ensures in
    rw c.rest-rest.ensures.value within
