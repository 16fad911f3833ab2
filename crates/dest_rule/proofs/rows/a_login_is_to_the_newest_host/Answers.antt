use Rattle.std.proofs.Common.{refl}
use Rattle.wire_text.specs.Wire as WireTextWire
use Rattle.wire_core.specs.Fields as WireCoreFields
use Rattle.key_blob.specs.KeyTypes as KeyBlobKeyTypes
use Rattle.key_blob.specs.PublicKeys as KeyBlobPublicKeys
use Rattle.key_blob.specs.Reading as KeyBlobReading
use Rattle.dest_rule.specs.Rules as Rules
use Rattle.userauth_blob.specs.Reading as UserauthBlobReading
use Rattle.dest_rule.proofs.rows.a_login_is_to_the_newest_host.Goals as goal

pub returns : goal.returns
unfolding WireTextWire.uint32 WireTextWire.uint64 WireTextWire.string WireTextWire.announced_len WireCoreFields.uint32_at WireCoreFields.uint64_at WireCoreFields.string_len WireCoreFields.string_at KeyBlobKeyTypes.form_named KeyBlobPublicKeys.public_key_of KeyBlobReading.field_at KeyBlobReading.fields_at KeyBlobReading.after_fields KeyBlobReading.form_at UserauthBlobReading.after_byte UserauthBlobReading.after_text UserauthBlobReading.session_at UserauthBlobReading.method_named UserauthBlobReading.method_at UserauthBlobReading.after_key UserauthBlobReading.host_key_at UserauthBlobReading.auth_of Rules.is_hop Rules.bad_place Rules.visible Rules.denial
returns c = record { permitted = refl; older = refl; unbound = refl; other = refl; only = refl; hop = refl; long = refl; longest = refl }
