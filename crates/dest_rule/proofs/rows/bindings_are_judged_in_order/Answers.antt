use Rattle.std.proofs.Common.{refl}
use Rattle.wire_text.specs.Wire as WireTextWire
use Rattle.wire_core.specs.Fields as WireCoreFields
use Rattle.key_blob.specs.KeyTypes as KeyBlobKeyTypes
use Rattle.key_blob.specs.PublicKeys as KeyBlobPublicKeys
use Rattle.key_blob.specs.Reading as KeyBlobReading
use Rattle.key_blob.specs.Certificates as KeyBlobCertificates
use Rattle.key_blob.specs.Principals as KeyBlobPrincipals
use Rattle.dest_rule.specs.Chains as Chains
use Rattle.dest_rule.proofs.rows.bindings_are_judged_in_order.Goals as goal

pub returns : goal.returns
unfolding WireTextWire.uint32 WireTextWire.uint64 WireTextWire.string WireTextWire.announced_len WireCoreFields.uint32_at WireCoreFields.uint64_at WireCoreFields.string_len WireCoreFields.string_at KeyBlobCertificates.names_at KeyBlobCertificates.holder_at KeyBlobCertificates.times_at KeyBlobCertificates.signer_at KeyBlobCertificates.certificate_at KeyBlobKeyTypes.form_named KeyBlobPrincipals.are_strings_up_to KeyBlobPrincipals.are_strings KeyBlobPublicKeys.public_key_of KeyBlobReading.field_at KeyBlobReading.fields_at KeyBlobReading.after_fields KeyBlobReading.form_at Chains.judge
returns c = record { new = refl; long = refl; empty = refl; after_login = refl; known = refl; other = refl; full = refl; last = refl; heavy = refl; fits = refl; named = refl; names_fit = refl }
