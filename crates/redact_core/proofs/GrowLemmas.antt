-- What passphrases take only grows as bodies come.
use Rattle.std.specs.Prelude.{is_some}
use Rattle.std.proofs.Common.{true, ◌++◌, if◌then◌else◌, ◌≡◌, ℕ, ◌≤◌, List, [], ◌∷◌, le_refl, le_trans, arith, Option, Some, None, Result, Ok, Err}
use Rattle.std.specs.Prelude.{nat_lt}
use Rattle.std.specs.List.{position}
use Rattle.std.proofs.lemmas.Bool.Decides.{nat_tests}
use Rattle.std.specs.Str.{bytes_eq}
use Rattle.std.proofs.lemmas.List.Sums.{sum_by_push}
use Rattle.agent_msg.specs.Reading.{request_of}
use Rattle.agent_msg.specs.Requests.{ClientRequest, ListIdentities, Sign, Add, Remove, RemoveAll, Lock, Unlock, Bind, OtherExtension, Unsupported}
use Rattle.agent_msg.specs.declared.fault.MsgFault.{MsgFault}
use Rattle.redact_core.specs.Places.{kept_len, most_kept, room_of}
use Rattle.redact_core.specs.Redaction.{is_over, numbered, redacted, redacted_all, redacted_as}

noted_more : (place : Option ℕ) (passphrase : List ℕ) (early : List (List ℕ))
    → kept_len early ≤ kept_len (if is_some place then early else early ++ passphrase ∷ [])
noted_more (Some place) passphrase early = le_refl (kept_len early)
noted_more None passphrase early = omega (arith, sum_by_push room_of early passphrase)

numbered_more : (number : ℕ) (passphrase : List ℕ) (early : List (List ℕ))
    → kept_len early ≤ kept_len (numbered number passphrase early).passphrases
numbered_more number [] early = le_refl (kept_len early)
numbered_more number (byte ∷ bytes) early =
    noted_more (position (bytes_eq (byte ∷ bytes)) early) (byte ∷ bytes) early

more_by : (read : Result ClientRequest MsgFault) (number : ℕ) (bytes : List ℕ) (early : List (List ℕ))
    → kept_len early ≤ kept_len (redacted_as read number bytes early).passphrases
more_by (Ok ListIdentities) number bytes early = le_refl (kept_len early)
more_by (Ok (Sign signing)) number bytes early = le_refl (kept_len early)
more_by (Ok (Add addition)) number bytes early = le_refl (kept_len early)
more_by (Ok (Remove blob)) number bytes early = le_refl (kept_len early)
more_by (Ok RemoveAll) number bytes early = le_refl (kept_len early)
more_by (Ok (Lock passphrase)) number bytes early = numbered_more number passphrase early
more_by (Ok (Unlock passphrase)) number bytes early = numbered_more number passphrase early
more_by (Ok (Bind bind)) number bytes early = le_refl (kept_len early)
more_by (Ok (OtherExtension name)) number bytes early = le_refl (kept_len early)
more_by (Ok (Unsupported other)) number bytes early = le_refl (kept_len early)
more_by (Err fault) number bytes early = le_refl (kept_len early)

redacted_more : (body : List ℕ) (early : List (List ℕ)) → kept_len early ≤ kept_len (redacted body early).passphrases
redacted_more [] early = le_refl (kept_len early)
redacted_more (number ∷ bytes) early = more_by (request_of (number ∷ bytes)) number bytes early

-- they take no less behind bodies than before them
pub all_more : (bodies early : List (List ℕ)) → kept_len early ≤ kept_len (redacted_all bodies early).passphrases
all_more [] early = le_refl (kept_len early)
all_more (body ∷ bodies) early =
    le_trans (redacted_more body early) (all_more bodies (redacted body early).passphrases)

over_by : (one other : ℕ) → one ≤ other → nat_lt most_kept one ≡ true → nat_lt most_kept other ≡ true
over_by one other more over = grind (arith, nat_tests)

-- where they take too much, those that take no less do
pub over_more : (one other : List (List ℕ)) → kept_len one ≤ kept_len other → is_over one ≡ true → is_over other ≡ true
over_more one other more over = over_by (kept_len one) (kept_len other) more over
