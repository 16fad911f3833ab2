-- What reading constraints from left to right gives: the terms, or the first fault.
use Rattle.std.specs.Prelude.{ℕ, zero, suc, Bool, true, not, List, [], ◌∷◌, length, Some, Result, Ok, Err, is_some, ◌==◌, if◌then◌else◌}
use Rattle.std.specs.Option.{ok_or}
use Rattle.std.specs.Str.{bytes_eq}
use Rattle.wire_core.specs.Fields.{uint32_at}
use Rattle.constraint_rec.specs.declared.fault.TermFault.{TermFault}
use Rattle.constraint_rec.specs.declared.fault.TermFault.TheVariants.{Short, Unknown, Twice, NoUses}
use Rattle.constraint_rec.specs.declared.kind.Kind.{Kind}
use Rattle.constraint_rec.specs.declared.kind.Kind.TheVariants.{Lifetime, Confirm, Uses, Destinations, Purposes}
use Rattle.constraint_rec.specs.declared.terms.Terms.{Terms}
use Rattle.constraint_rec.specs.Constraints.{no_terms, purposes_name, restrict_destination, uses_name}
use Rattle.wire_core.specs.Readings.{◌>>=◌}
use Rattle.constraint_rec.specs.HopReading.{is_empty, field_at, rules_in}
use Rattle.constraint_rec.specs.PurposeReading.{purposes_in}

-- ---- a row for each kind: its byte, whether terms have it, and its contents

-- the kind of the extension of this name, and the bytes that follow
abbrev pub kind_named : List ℕ × List ℕ → Result (Kind × List ℕ) TermFault
kind_named name =
    if bytes_eq name.0 restrict_destination then Ok (Destinations, name.1)
    else if bytes_eq name.0 uses_name then Ok (Uses, name.1)
    else if bytes_eq name.0 purposes_name then Ok (Purposes, name.1)
    else Err Unknown

-- the kind of the extension whose name is at the front, and the bytes that follow
abbrev pub extension_at : List ℕ → Result (Kind × List ℕ) TermFault
extension_at bytes = field_at bytes >>= kind_named

-- the kind that the byte at the front begins, and the bytes that follow
unfoldable pub kind_at : List ℕ → Result (Kind × List ℕ) TermFault
kind_at [] = Err Short
kind_at (byte ∷ rest) =
    if byte == 1 then Ok (Lifetime, rest)
    else if byte == 2 then Ok (Confirm, rest)
    else if byte == 255 then extension_at rest
    else Err Unknown

-- the terms have a constraint of this kind
abbrev pub has_kind : Terms → Kind → Bool
has_kind terms Lifetime = is_some terms.life
has_kind terms Confirm = terms.confirm
has_kind terms Uses = is_some terms.uses
has_kind terms Destinations = not (is_empty terms.rules)
has_kind terms Purposes = not (is_empty terms.purposes)

-- the terms with this lifetime, and the bytes that follow
abbrev pub with_life : Terms → ℕ × List ℕ → Result (Terms × List ℕ) TermFault
with_life terms seconds = Ok (record terms { life = Some seconds.0 }, seconds.1)

-- a number that was read, where it is a number of uses: 0 is none
abbrev pub some_uses : ℕ × List ℕ → Result (ℕ × List ℕ) TermFault
some_uses number = if number.0 == 0 then Err NoUses else Ok number

-- a number of uses, and the bytes that follow
abbrev pub uses_at : List ℕ → Result (ℕ × List ℕ) TermFault
uses_at bytes = ok_or (uint32_at bytes) Short >>= some_uses

-- the terms with this number of uses, and the bytes that follow
abbrev pub with_uses : Terms → ℕ × List ℕ → Result (Terms × List ℕ) TermFault
with_uses terms uses = Ok (record terms { uses = Some uses.0 }, uses.1)

-- the terms with the destination constraints that the contents are, and the bytes that follow
abbrev pub with_rules : Terms → List ℕ × List ℕ → Result (Terms × List ℕ) TermFault
with_rules terms contents = rules_in contents.0 >>= λ rules. Ok (record terms { rules = rules }, contents.1)

-- the terms with the purposes that the contents are, and the bytes that follow
abbrev pub with_purposes : Terms → List ℕ × List ℕ → Result (Terms × List ℕ) TermFault
with_purposes terms contents = purposes_in contents.0 >>= λ purposes. Ok (record terms { purposes = purposes }, contents.1)

-- the terms with what the contents of this kind say, and the bytes that follow
unfoldable pub contents_at : Kind → Terms → List ℕ → Result (Terms × List ℕ) TermFault
contents_at Lifetime terms bytes = ok_or (uint32_at bytes) Short >>= with_life terms
contents_at Confirm terms bytes = Ok (record terms { confirm = true }, bytes)
contents_at Uses terms bytes = uses_at bytes >>= with_uses terms
contents_at Destinations terms bytes = field_at bytes >>= with_rules terms
contents_at Purposes terms bytes = field_at bytes >>= with_purposes terms

-- ---- one after another

-- contents of a kind that the terms don't have
abbrev pub new_contents_at : Terms → Kind × List ℕ → Result (Terms × List ℕ) TermFault
new_contents_at terms kind =
    if has_kind terms kind.0 then Err Twice else contents_at kind.0 terms kind.1

-- the terms with the constraint at the front, and the bytes that follow
unfoldable pub next_at : Terms → List ℕ → Result (Terms × List ℕ) TermFault
next_at terms bytes = kind_at bytes >>= new_contents_at terms

-- the terms with the constraints of the bytes, which are at most so many
unfoldable pub terms_up_to : ℕ → Terms → List ℕ → Result Terms TermFault
terms_up_to zero terms bytes = Ok terms
terms_up_to (suc count) terms [] = Ok terms
terms_up_to (suc count) terms (byte ∷ rest) =
    next_at terms (byte ∷ rest) >>= λ next. terms_up_to count next.0 next.1

-- the terms that the bytes say: each constraint takes a byte at least
unfoldable pub terms_of : List ℕ → Result Terms TermFault
terms_of bytes = terms_up_to (length bytes) no_terms bytes
