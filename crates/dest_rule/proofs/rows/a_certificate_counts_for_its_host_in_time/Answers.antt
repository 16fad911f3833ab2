use Rattle.std.proofs.Common.{refl}
use Rattle.wire_text.specs.Wire as WireTextWire
use Rattle.wire_core.specs.Fields as WireCoreFields
use Rattle.key_blob.specs.KeyTypes as KeyBlobKeyTypes
use Rattle.key_blob.specs.PublicKeys as KeyBlobPublicKeys
use Rattle.key_blob.specs.Reading as KeyBlobReading
use Rattle.dest_rule.specs.Rules as Rules
use Rattle.key_blob.specs.Certificates as KeyBlobCertificates
use Rattle.key_blob.specs.Principals as KeyBlobPrincipals
use Rattle.key_blob.specs.Validity as Validity
use Rattle.pattern_core.specs.Patterns as PatternCorePatterns
use Rattle.dest_rule.proofs.rows.a_certificate_counts_for_its_host_in_time.Goals as goal

pub returns : goal.returns
unfolding WireTextWire.uint32 WireTextWire.uint64 WireTextWire.string WireTextWire.announced_len WireCoreFields.uint32_at WireCoreFields.uint64_at WireCoreFields.string_len WireCoreFields.string_at PatternCorePatterns.is_match KeyBlobCertificates.names_at KeyBlobCertificates.holder_at KeyBlobCertificates.times_at KeyBlobCertificates.signer_at KeyBlobCertificates.certificate_at KeyBlobKeyTypes.form_named KeyBlobPrincipals.are_strings_up_to KeyBlobPrincipals.are_strings KeyBlobPublicKeys.public_key_of KeyBlobReading.field_at KeyBlobReading.fields_at KeyBlobReading.after_fields KeyBlobReading.form_at Rules.is_hop Rules.bad_place Rules.visible Rules.denial Validity.names_host_up_to Validity.is_valid
returns c = record { in_time = refl; over = refl; early = refl; pattern = refl; other_host = refl; the_authority = refl; its_key = refl }
