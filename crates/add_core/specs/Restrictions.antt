-- The constraints of keys that are added (ssh-add(1), options -t, -c, -h and -H; -u and -p are ours).
use Rattle.std.specs.Prelude.{ℕ, ◌+◌, List, [], ◌∷◌, Option, Result, Ok, Err}
use Rattle.constraint_rec.specs.declared.constraint.Constraint.{Constraint}
use Rattle.constraint_rec.specs.declared.terms.Terms.{Terms}
use Rattle.key_purposes.specs.declared.fault.PurposeFault.{PurposeFault}
use Rattle.key_purposes.specs.declared.purpose.Purpose.{Purpose as KeyPurpose}
use Rattle.add_rules.specs.declared.fault.DestFault.{DestFault}
use Rattle.add_rules.specs.Rules.{rules_of}
use Rattle.add_words.specs.Purposes.{purposes_named}
use Rattle.add_words.specs.Words.{PlainWords}
use Rattle.add_core.specs.declared.fault.AddFault.{AddFault}
use Rattle.add_core.specs.declared.fault.AddFault.TheVariants.{PeerFault, InputFault, OutputFault, Destination, Purpose}
use Rattle.add_core.specs.declared.fault.Stop.{Stop}
use Rattle.add_core.specs.declared.fault.Stop.TheVariants.{Fault, Memory}
use Rattle.add_core.specs.Sendings.{place_of, text_held}

-- ---- files of known hosts

-- the text of a file and the texts behind it, or the first fault
abbrev pub with_text : Result (List ℕ) AddFault → Result (List (List ℕ)) AddFault
    → Result (List (List ℕ)) AddFault
with_text (Err fault) others = Err fault
with_text (Ok text) (Err fault) = Err fault
with_text (Ok text) (Ok texts) = Ok (text ∷ texts)

-- the texts of files of known hosts, the first of which stands at this place
abbrev pub hosts_held : (List ℕ → Option (List ℕ)) → ℕ → List (List ℕ)
    → Result (List (List ℕ)) AddFault
hosts_held held place [] = Ok []
hosts_held held place (path ∷ paths) =
    with_text (text_held (place_of place) 16777216 (held path)) (hosts_held held (place + 1) paths)

-- ---- constraints

-- the terms that the words ask for, with these destination constraints and purposes
abbrev pub terms_to : PlainWords → List Constraint → Result (List KeyPurpose) PurposeFault → Result Terms AddFault
terms_to words rules (Ok purposes) =
    Ok record { life = words.life; confirm = words.confirm; uses = words.uses; rules = rules; purposes = purposes }
terms_to words rules (Err fault) = Err (Purpose fault)

-- the terms that the words ask for, with these destination constraints
abbrev pub terms_with : PlainWords → Result (List Constraint) DestFault → Result Terms AddFault
terms_with words (Ok rules) = terms_to words rules (purposes_named words.purposes)
terms_with words (Err fault) = Err (Destination fault)

-- the terms that the words ask for, over these texts of files of known hosts
abbrev pub terms_by : PlainWords → Result (List (List ℕ)) AddFault → Result Terms AddFault
terms_by words (Ok hosts) = terms_with words (rules_of hosts words.destinations)
terms_by words (Err fault) = Err fault

-- the constraints that the words ask for, or the first fault of a file, of a destination or of a purpose
abbrev pub terms_for : PlainWords → (List ℕ → Option (List ℕ)) → Result Terms AddFault
terms_for words held = terms_by words (hosts_held held 0 words.hosts)

-- ---- faults

-- no connection, input or output failed
abbrev pub IsOwnOfTerms : {T : Type 0} → Result T Stop → Type 0
IsOwnOfTerms (Ok value) = Unit {0}
IsOwnOfTerms (Err Memory) = Unit {0}
IsOwnOfTerms (Err (Fault PeerFault)) = ⊥
IsOwnOfTerms (Err (Fault InputFault)) = ⊥
IsOwnOfTerms (Err (Fault OutputFault)) = ⊥
IsOwnOfTerms (Err (Fault fault)) = Unit {0}
