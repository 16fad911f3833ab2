use lib.Count.{count_leading_zeros}
use Rattle.std.proofs.Common.{refl}
use Rattle.wire_text.specs.Wire.{announced_len, string, uint32}
use Rattle.wire_core.specs.Fields.{string_at, string_len, uint32_at}
use Rattle.key_blob.specs.AddedKeys.{added_key_at, blob_at, blob_fields_at, private_at}
use Rattle.key_blob.specs.KeyTypes.{form_named}
use Rattle.key_blob.specs.Reading.{after_fields, field_at, fields_at, form_at}
use Rattle.agent_msg.specs.Reading.{request_of, request_of_number}
use Rattle.redact_core.proofs.rows.additions_are_blanked.Goals as goal

pub returns-clause-rsa : goal.returns-clause-rsa
unfolding count_leading_zeros announced_len string uint32 uint32_at string_at string_len request_of request_of_number added_key_at blob_at blob_fields_at private_at form_named after_fields field_at fields_at form_at
returns-clause-rsa c = refl
