-- Faults of a part of a request, as faults of the request (ours).
use Rattle.constraint_rec.specs.declared.fault.TermFault.{TermFault}
use Rattle.constraint_rec.specs.declared.fault.TermFault.TheVariants as of_terms
use Rattle.key_blob.specs.declared.fault.KeyFault.{KeyFault}
use Rattle.key_blob.specs.declared.fault.KeyFault.TheVariants as of_key
use Rattle.agent_msg.specs.declared.fault.MsgFault.{MsgFault}
use Rattle.agent_msg.specs.declared.fault.MsgFault.TheVariants.{Key, Terms, Memory}

-- the key's own fault; want of memory is the request's too
abbrev pub key_fault : KeyFault → MsgFault
key_fault of_key.Short = Key of_key.Short
key_fault of_key.UnknownType = Key of_key.UnknownType
key_fault of_key.BadLength = Key of_key.BadLength
key_fault of_key.Mismatch = Key of_key.Mismatch
key_fault of_key.Trailing = Key of_key.Trailing
key_fault of_key.Memory = Memory

-- the constraints' own fault; want of memory is the request's too
abbrev pub term_fault : TermFault → MsgFault
term_fault of_terms.Short = Terms of_terms.Short
term_fault of_terms.Unknown = Terms of_terms.Unknown
term_fault of_terms.Twice = Terms of_terms.Twice
term_fault of_terms.Reserved = Terms of_terms.Reserved
term_fault of_terms.FromUser = Terms of_terms.FromUser
term_fault of_terms.FromHalf = Terms of_terms.FromHalf
term_fault of_terms.ToHalf = Terms of_terms.ToHalf
term_fault of_terms.NoRules = Terms of_terms.NoRules
term_fault of_terms.Key = Terms of_terms.Key
term_fault of_terms.Memory = Memory
term_fault of_terms.NoUses = Terms of_terms.NoUses
term_fault of_terms.NoPurposes = Terms of_terms.NoPurposes
term_fault of_terms.BadPurpose = Terms of_terms.BadPurpose
