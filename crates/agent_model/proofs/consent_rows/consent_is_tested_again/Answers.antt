-- Rows that are long to compute: without what a moment would end where there is no limit.
use Rattle.std.proofs.Common.{◌≡◌, ◌∙◌, ap, [], rules}
use Rattle.agent_model.specs.ConsentRows.{granted}
use Rattle.agent_model.specs.Events.{Heard}
use Rattle.agent_model.specs.Rows.{failed}
use Rattle.agent_model.specs.State.{State, owed_of}
use Rattle.wire_text.specs.Frames.{front, split_up_to, split}
use Rattle.wire_text.specs.Wire.{uint32, uint64, string, announced_len}
use Rattle.wire_core.specs.Fields.{uint32_at, uint64_at, string_len, string_at}
use Rattle.key_blob.specs.AddedKeys.{blob_fields_at, certificate_blob_at, blob_at, added_key_at, private_at}
use Rattle.key_blob.specs.KeyTypes.{form_named}
use Rattle.key_blob.specs.PublicKeys.{public_key_of}
use Rattle.key_blob.specs.Reading.{field_at, fields_at, after_fields, form_at}
use Rattle.constraint_rec.specs.Constraints.{restrict_destination, uses_name}
use Rattle.constraint_rec.specs.Reading.{kind_at, contents_at, next_at, terms_up_to, terms_of}
use Rattle.agent_msg.specs.Reading.{request_of_number, request_of, is_addition}
use Rattle.agent_msg.specs.Requests.{session_bind, bind_front, names_bind}
use Rattle.identity_table.specs.Identities.{find_identity, put_identity, remove_identity, spend_identity, alive_at, entries_len, kept_len, find_number}
use Rattle.dest_rule.specs.Rules.{visible, denial, bad_place, is_hop}
use Rattle.dest_rule.specs.Chains.{judge}
use Rattle.child_msg.specs.Reading.{from_child_of_kind, from_child_of}
use Rattle.helper_link.specs.Settling.{verdict, settling}
use Rattle.pattern_core.specs.Patterns.{is_match}
use Rattle.key_blob.specs.Certificates.{names_at, holder_at, times_at, signer_at, certificate_at}
use Rattle.key_blob.specs.Principals.{are_strings_up_to, are_strings}
use Rattle.key_blob.specs.Validity.{names_host_up_to, is_valid}
use Rattle.userauth_blob.specs.Reading.{after_byte, after_text, session_at, method_named, method_at, after_key, host_key_at, auth_of}
use Rattle.constraint_rec.specs.HopReading.{all_up_to, all_of, key_at, after_reserved, hop_in, as_from, as_to, constraint_in, constraint_at, rules_in}
use Rattle.confirm_desk.specs.Confirmations.{consent}
use Rattle.agent_model.proofs.RowLemmas.{at_second-plain, plain_at, plain_bound}
use Rattle.agent_model.proofs.consent_rows.consent_is_tested_again.Goals as goal

plain-permitted : owed_of 1 (plain_at (record { mono = 0; wall = 199 }) (Heard 3 (granted 2)) plain_bound) ≡ []
unfolding front split_up_to split uint32 uint64 string announced_len uint32_at uint64_at string_len string_at blob_fields_at certificate_blob_at blob_at added_key_at private_at form_named public_key_of field_at fields_at after_fields form_at restrict_destination uses_name kind_at contents_at next_at terms_up_to terms_of request_of_number request_of is_addition session_bind bind_front names_bind find_identity put_identity remove_identity spend_identity alive_at entries_len kept_len find_number visible denial bad_place is_hop judge from_child_of_kind from_child_of verdict settling is_match names_at holder_at times_at signer_at certificate_at are_strings_up_to are_strings names_host_up_to is_valid after_byte after_text session_at method_named method_at after_key host_key_at auth_of all_up_to all_of key_at after_reserved hop_in as_from as_to constraint_in constraint_at rules_in consent
plain-permitted = search rules

pub returns-clause-permitted : goal.returns-clause-permitted
returns-clause-permitted c =
    ap (λ (s : State). owed_of 1 s) (at_second-plain 0 199 (Heard 3 (granted 2))) ∙ plain-permitted

plain-denied : owed_of 1 (plain_at (record { mono = 0; wall = 200 }) (Heard 3 (granted 2)) plain_bound) ≡ failed
unfolding front split_up_to split uint32 uint64 string announced_len uint32_at uint64_at string_len string_at blob_fields_at certificate_blob_at blob_at added_key_at private_at form_named public_key_of field_at fields_at after_fields form_at restrict_destination uses_name kind_at contents_at next_at terms_up_to terms_of request_of_number request_of is_addition session_bind bind_front names_bind find_identity put_identity remove_identity spend_identity alive_at entries_len kept_len find_number visible denial bad_place is_hop judge from_child_of_kind from_child_of verdict settling is_match names_at holder_at times_at signer_at certificate_at are_strings_up_to are_strings names_host_up_to is_valid after_byte after_text session_at method_named method_at after_key host_key_at auth_of all_up_to all_of key_at after_reserved hop_in as_from as_to constraint_in constraint_at rules_in consent
plain-denied = search rules

pub returns-clause-denied : goal.returns-clause-denied
returns-clause-denied c =
    ap (λ (s : State). owed_of 1 s) (at_second-plain 0 200 (Heard 3 (granted 2))) ∙ plain-denied

plain-asked : (plain_at (record { mono = 0; wall = 199 }) (Heard 3 (granted 2)) plain_bound).under_way.link.last ≡ 2
unfolding front split_up_to split uint32 uint64 string announced_len uint32_at uint64_at string_len string_at blob_fields_at certificate_blob_at blob_at added_key_at private_at form_named public_key_of field_at fields_at after_fields form_at restrict_destination uses_name kind_at contents_at next_at terms_up_to terms_of request_of_number request_of is_addition session_bind bind_front names_bind find_identity put_identity remove_identity spend_identity alive_at entries_len kept_len find_number visible denial bad_place is_hop judge from_child_of_kind from_child_of verdict settling is_match names_at holder_at times_at signer_at certificate_at are_strings_up_to are_strings names_host_up_to is_valid after_byte after_text session_at method_named method_at after_key host_key_at auth_of all_up_to all_of key_at after_reserved hop_in as_from as_to constraint_in constraint_at rules_in consent
plain-asked = search rules

pub returns-clause-asked : goal.returns-clause-asked
returns-clause-asked c = ap (λ (s : State). s.under_way.link.last) (at_second-plain 0 199 (Heard 3 (granted 2))) ∙ plain-asked

plain-unasked : (plain_at (record { mono = 0; wall = 200 }) (Heard 3 (granted 2)) plain_bound).under_way.link.last ≡ 1
unfolding front split_up_to split uint32 uint64 string announced_len uint32_at uint64_at string_len string_at blob_fields_at certificate_blob_at blob_at added_key_at private_at form_named public_key_of field_at fields_at after_fields form_at restrict_destination uses_name kind_at contents_at next_at terms_up_to terms_of request_of_number request_of is_addition session_bind bind_front names_bind find_identity put_identity remove_identity spend_identity alive_at entries_len kept_len find_number visible denial bad_place is_hop judge from_child_of_kind from_child_of verdict settling is_match names_at holder_at times_at signer_at certificate_at are_strings_up_to are_strings names_host_up_to is_valid after_byte after_text session_at method_named method_at after_key host_key_at auth_of all_up_to all_of key_at after_reserved hop_in as_from as_to constraint_in constraint_at rules_in consent
plain-unasked = search rules

pub returns-clause-unasked : goal.returns-clause-unasked
returns-clause-unasked c = ap (λ (s : State). s.under_way.link.last) (at_second-plain 0 200 (Heard 3 (granted 2))) ∙ plain-unasked
