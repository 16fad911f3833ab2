use Rattle.key_blob.specs.Rows.{line_of}
use Rattle.key_blob.proofs.PlaceLemmas.{passed_as_read, certificate_is_blob}
use Rattle.key_blob.proofs.added.skip_public.Goals as goal

pub returns-in-Plain : goal.returns-in-Plain
returns-in-Plain c =
    passed_as_read c.args.form c.in-Plain.field-0 (line_of c.row-key_type.result) c.args.from.now c.skip_fields.new.from c.skip_fields.result
    c.in-Plain.is c.row-key_type.ensures c.skip_fields.ensures

pub returns-in_ok-take_certified-in-Certified : goal.returns-in_ok-take_certified-in-Certified
returns-in_ok-take_certified-in-Certified c =
    let blob = c.in_ok-take_certified-in-Certified.field-0.now in (
      blob,
      certificate_is_blob c.args.form c.in-Certified.field-0 (line_of c.row-key_type.result) c.args.from.now blob c.take_certified.new.from
          c.in-Certified.is c.row-key_type.ensures c.in_ok-take_certified-in-Certified.ensures,
    )
