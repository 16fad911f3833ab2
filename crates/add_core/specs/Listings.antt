-- Lists of identities (ssh-add(1), options -l and -L). An identity whose blob can't be read is passed
-- over (ours).
use Rattle.std.specs.Prelude.{ℕ, List, [], ◌∷◌, ◌++◌, codes, decimal, Some, Result, Ok, Err}
use Rattle.std.specs.List.{flat_map}
use Rattle.base64.specs.Engines.{standard}
use Rattle.base64.specs.GeneralPurpose.{encode_of}
use Rattle.wire_text.specs.Wire.{string}
use Rattle.key_blob.specs.declared.fault.KeyFault.{KeyFault}
use Rattle.key_blob.specs.Fingerprints.{fingerprint_of}
use Rattle.key_blob.specs.KeySizes.{bits_of}
use Rattle.key_blob.specs.KeyTypes.{type_of}
use Rattle.key_blob.specs.PublicKeys.{KeyParts, form_of, public_key_of}
use Rattle.agent_msg.specs.declared.agent_reply.ReplyFault.{ReplyFault}
use Rattle.agent_msg.specs.ReplyReading.{AgentReply, Failure, Success, Identities, Signature}
use Rattle.add_core.specs.declared.fault.AddFault.TheVariants.{BadReply, NoIdentities, Refused}
use Rattle.add_core.specs.declared.listing.Listing.{Listing}
use Rattle.add_core.specs.declared.listing.Listing.TheVariants.{Fingerprints, Keys}
use Rattle.add_core.specs.Exchanges.{asked, reply_at}
use Rattle.add_core.specs.Steps.{Step, failing, telling, followed}

-- three texts with single spaces between them
abbrev pub columns : List ℕ → List ℕ → List ℕ → List ℕ
columns first second third = first ++ (codes " " ++ (second ++ (codes " " ++ third)))

-- the line of a key with this blob and comment
abbrev pub key_line : Listing → KeyParts → List ℕ × List ℕ → List ℕ
key_line Fingerprints key identity =
    columns (decimal (bits_of key)) (fingerprint_of key) identity.1
    ++ (codes " (" ++ ((type_of (form_of key)).word ++ codes ")\n"))
key_line Keys key identity =
    columns key.type_name (encode_of standard identity.0) identity.1 ++ codes "\n"

-- the line of a blob that is read
abbrev pub line_of : Listing → Result KeyParts KeyFault → List ℕ × List ℕ → List ℕ
line_of listing (Ok key) identity = key_line listing key identity
line_of listing (Err fault) identity = []

-- the line of an identity
abbrev pub identity_line : Listing → List ℕ × List ℕ → List ℕ
identity_line listing identity = line_of listing (public_key_of identity.0) identity

-- the lines of all identities, one each
abbrev pub lines_of : Listing → List (List ℕ × List ℕ) → List ℕ
lines_of listing identities = flat_map (identity_line listing) identities

-- what is written where the agent has no identities
abbrev pub none_line : List ℕ
none_line = codes "The agent has no identities.\n"

-- the list that the agent gave
abbrev pub listed : Listing → List (List ℕ × List ℕ) → List ℕ → Step
listed listing [] left =
    record { sent = []; told = none_line; left = []; fault = Some NoIdentities }
listed listing (identity ∷ identities) left = telling (lines_of listing (identity ∷ identities)) left

-- what is done with the reply to a request for the list
abbrev pub list_reply : Listing → Result AgentReply ReplyFault → List ℕ → Step
list_reply listing (Ok (Identities identities)) left = listed listing identities left
list_reply listing (Ok Failure) left = failing Refused
list_reply listing (Ok Success) left = failing BadReply
list_reply listing (Ok (Signature signature)) left = failing BadReply
list_reply listing (Err fault) left = failing BadReply

-- the agent is asked for the list
abbrev pub list_step : Listing → List ℕ → Step
list_step listing replies =
    followed (asked (string (11 ∷ [])) replies) (list_reply listing (reply_at replies))
