-- Destinations of ssh-add(1), option -h, as they are typed: `[user@]host`, or `source>[user@]host` with
-- the host that is left for it. The first `>` and the first `@` behind it split the word (ours).
use Rattle.std.specs.Prelude.{ℕ, ◌==◌, ◌+◌, ◌||◌, Bool, true, false, List, [], ◌∷◌, take, drop, Option, Some, None, is_some, position, if◌then◌else◌}
use Rattle.std.specs.Option.{option_map}
use Rattle.add_rules.specs.declared.destination.Destination.{Destination as CodeDestination}
use Rattle.add_rules.specs.declared.fault.DestFault.{DestFault}
use Rattle.add_rules.specs.declared.fault.DestFault.TheVariants.{SourceUser, EmptyUser, EmptyHost}

-- a destination
pub record Destination : Type 0 where
  -- the host that is left, where one is named
  pub source : Option (List ℕ)
  -- who logs in, where that is said
  pub user : Option (List ℕ)
  -- the host that is entered
  pub host : List ℕ

-- the code's destination, without where its texts lie in memory
abbrev pub destination : CodeDestination → Destination
destination typed = record {
  source = option_map (λ text. text.now) typed.source;
  user = option_map (λ text. text.now) typed.user;
  host = typed.host.now;
}

-- ---- reading

-- what stands in front of this place and behind it
abbrev pub around : List ℕ → Option ℕ → Option (List ℕ × List ℕ)
around text place = option_map (λ at. (take at text, drop (at + 1) text)) place

-- what stands in front of the first such byte and behind it, where there is one
abbrev pub split_at : ℕ → List ℕ → Option (List ℕ × List ℕ)
split_at mark text = around text (position (λ byte. byte == mark) text)

-- the parts round `@`, or the host alone
abbrev pub entered : Option (List ℕ) → List ℕ → Option (List ℕ × List ℕ) → Destination
entered source text None = record { source = source; user = None; host = text }
entered source text (Some parts) =
    record { source = source; user = Some parts.0; host = parts.1 }

-- the parts round `>`, or the destination alone
abbrev pub left_for : List ℕ → Option (List ℕ × List ℕ) → Destination
left_for word None = entered None word (split_at 64 word)
left_for word (Some parts) = entered (Some parts.0) parts.1 (split_at 64 parts.1)

-- the destination that a word is
abbrev pub destination_of : List ℕ → Destination
destination_of word = left_for word (split_at 62 word)

-- ---- faults

-- the text has no byte
abbrev pub has_no_byte : List ℕ → Bool
has_no_byte [] = true
has_no_byte (byte ∷ bytes) = false

-- a text is there, and has no byte
abbrev pub is_empty_text : Option (List ℕ) → Bool
is_empty_text None = false
is_empty_text (Some text) = has_no_byte text

-- a host is there that has an `@`
abbrev pub has_user : Option (List ℕ) → Bool
has_user None = false
has_user (Some source) = is_some (split_at 64 source)

-- why the destination is none, before any key is looked for
abbrev pub first_fault : Destination → Option DestFault
first_fault typed =
    if has_user typed.source then Some SourceUser
    else if is_empty_text typed.user then Some EmptyUser
    else if is_empty_text typed.source || has_no_byte typed.host then Some EmptyHost
    else None
