-- Why a key that is held isn't to sign a message: its purposes don't have it, or its destination constraints deny it
-- (ours).
use Rattle.std.specs.Prelude.{ℕ, List, Option, Some, if◌then◌else◌}
use Rattle.std.specs.Option.{option_map}
use Rattle.key_purposes.specs.Messages.{let_sign}
use Rattle.identity_table.specs.Identities.{HeldKey}
use Rattle.dest_rule.specs.Rules.{denial_under}
use Rattle.dest_rule.specs.declared.binding.Binding.{Binding}
use Rattle.agent_model.specs.Verdicts.{Cause, DestinationDenied, OtherPurpose}

-- why the key isn't to sign the message, with this blob and these flags, for a connection so bound: by its purposes,
-- and then by its destination constraints
abbrev pub objection : HeldKey → (blob : List ℕ) → List Binding → (message : List ℕ) → (flags wall : ℕ) → Option Cause
objection key blob chain message flags wall =
    if let_sign key.purposes message blob flags
    then option_map DestinationDenied (denial_under key.rules blob chain message wall)
    else Some OtherPurpose
