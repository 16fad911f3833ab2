-- What calls do to a desk, and what they answer (ours).
use Rattle.std.specs.Prelude.{◌≡◌, ℕ, ◌-◌, ◌&&◌, nat_lt, Bool, true, false, List, [], ◌∷◌, ◌++◌, Option, Some, None, length, min, if◌then◌else◌}
use Rattle.confirm_desk.specs.Confirmations.{Confirmation, Consent, NotYet, Yes, No, Held, consent, find_linked, lose, most_confirmations, told, took}
use Rattle.confirm_desk.specs.declared.fault.DeskFault.{DeskFault}
use Rattle.confirm_desk.specs.declared.fault.DeskFault.TheVariants as faults
use Rattle.confirm_desk.specs.declared.held.Held.{Held as CodeHeld}
use Rattle.confirm_desk.specs.declared.held.Verdict.{Verdict}
use Rattle.confirm_desk.specs.declared.held.Verdict.TheVariants as verdicts

-- what is held, as the code hands it in
abbrev pub held_of : CodeHeld → Held
held_of held = record { asker = held.asker; addition = held.addition; message = held.message; flags = held.flags }

-- what a confirmation holds, as the code hands it out
abbrev pub given_back : Confirmation → CodeHeld
given_back confirmation = record {
  asker = confirmation.asker;
  addition = confirmation.addition;
  message = confirmation.message;
  flags = confirmation.flags;
}

-- ---- one more

-- why one more confirmation isn't taken, by whether there are as many as may be
abbrev pub raise_fault_by : Bool → Option DeskFault
raise_fault_by true = Some faults.Full
raise_fault_by false = None

-- why none can be added
abbrev pub raise_fault : List Confirmation → Option DeskFault
raise_fault confirmations = raise_fault_by (nat_lt (most_confirmations - 1) (length confirmations))

-- one is refused with this fault: memory is wanting only where nothing else stands against it
abbrev pub IsRefusedWith : Option DeskFault → DeskFault → Type 0
IsRefusedWith why faults.Full = why ≡ Some faults.Full
IsRefusedWith why faults.Memory = why ≡ None

-- ---- by the port of a child process

-- the first bytes that the child process of this confirmation is owed are sent
abbrev pub took_by : Option Confirmation → ℕ → List Confirmation → List Confirmation
took_by None count confirmations = confirmations
took_by (Some confirmation) count confirmations = took confirmation.job count confirmations

-- the child process at this port took the first bytes that it is owed
abbrev pub took_at : ℕ → ℕ → List Confirmation → List Confirmation
took_at port count confirmations = took_by (find_linked port confirmations) count confirmations

-- what the user decided, and the desk afterwards
pub record Telling : Type 0 where
  pub desk : List Confirmation
  pub verdict : Verdict

-- a confirmation is decided, and over with it
abbrev pub telling_over : Verdict → Confirmation → List Confirmation → Telling
telling_over verdict confirmation confirmations = record { desk = lose confirmation.job confirmations; verdict = verdict }

-- what a piece brings by what the user says: the confirmation goes on, or is decided
abbrev pub telling_by : Consent → Confirmation → List ℕ → List Confirmation → Telling
telling_by NotYet confirmation piece confirmations =
    record { desk = told confirmation.job piece confirmations; verdict = verdicts.NotYet }
telling_by Yes confirmation piece confirmations =
    telling_over (verdicts.Granted (given_back confirmation)) confirmation confirmations
telling_by No confirmation piece confirmations =
    telling_over (verdicts.Denied (given_back confirmation)) confirmation confirmations

-- what a piece tells of the confirmation of its port, where there is one
abbrev pub telling_if : Option Confirmation → List ℕ → List Confirmation → Telling
telling_if None piece confirmations = record { desk = confirmations; verdict = verdicts.NotYet }
telling_if (Some confirmation) piece confirmations =
    telling_by (consent confirmation.job (confirmation.heard ++ piece)) confirmation piece confirmations

-- what a piece brings that the child process at this port sent
abbrev pub telling : ℕ → List ℕ → List Confirmation → Telling
telling port piece confirmations = telling_if (find_linked port confirmations) piece confirmations

-- ---- what is owed

-- the lesser of two ports, where there are two
abbrev pub lesser : Option ℕ → Option ℕ → Option ℕ
lesser None other = other
lesser (Some port) None = Some port
lesser (Some port) (Some other) = Some (min port other)

-- this port, where it is above `after` and bytes are owed there
abbrev pub owed_port : ℕ → Option ℕ → List ℕ → Option ℕ
owed_port after None owed = None
owed_port after (Some port) owed = if nat_lt after port && nat_lt 0 (length owed) then Some port else None

-- the least port above `after` where bytes are owed
abbrev pub next_owed : ℕ → List Confirmation → Option ℕ
next_owed after [] = None
next_owed after (one ∷ others) = lesser (owed_port after one.port one.owed) (next_owed after others)
