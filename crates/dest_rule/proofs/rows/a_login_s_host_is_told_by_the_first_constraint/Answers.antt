use Rattle.std.proofs.Common.{refl}
use Rattle.wire_text.specs.Wire as WireTextWire
use Rattle.wire_core.specs.Fields as WireCoreFields
use Rattle.key_blob.specs.KeyTypes as KeyBlobKeyTypes
use Rattle.key_blob.specs.PublicKeys as KeyBlobPublicKeys
use Rattle.key_blob.specs.Reading as KeyBlobReading
use Rattle.dest_rule.specs.Hosts as Hosts
use Rattle.dest_rule.specs.Rules as Rules
use Rattle.pattern_core.specs.Patterns as PatternCorePatterns
use Rattle.userauth_blob.specs.Reading as UserauthBlobReading
use Rattle.dest_rule.proofs.rows.a_login_s_host_is_told_by_the_first_constraint.Goals as goal

pub returns : goal.returns
unfolding WireTextWire.uint32 WireTextWire.uint64 WireTextWire.string WireTextWire.announced_len WireCoreFields.uint32_at WireCoreFields.uint64_at WireCoreFields.string_len WireCoreFields.string_at KeyBlobKeyTypes.form_named KeyBlobPublicKeys.public_key_of KeyBlobReading.field_at KeyBlobReading.fields_at KeyBlobReading.after_fields KeyBlobReading.form_at UserauthBlobReading.after_byte UserauthBlobReading.after_text UserauthBlobReading.session_at UserauthBlobReading.method_named UserauthBlobReading.method_at UserauthBlobReading.after_key UserauthBlobReading.host_key_at UserauthBlobReading.auth_of PatternCorePatterns.is_match Rules.is_hop Hosts.login_host
returns c = record { first = refl; other_key = refl; other_user = refl; behind = refl; free = refl; unbound = refl; other_data = refl }
