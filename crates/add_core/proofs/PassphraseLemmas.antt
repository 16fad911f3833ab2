-- A line that is read byte by byte.
use Rattle.std.proofs.Common.{◌≡◌, ◌<◌, ◌≤◌, ◌≢◌, ℕ, List, [], ◌∷◌, ◌++◌, length, take, Ok, Err, refl, sym, ap, subst, ◌∙◌, append_assoc, arith}
use Rattle.std.proofs.lemmas.Bool.{ne_eqb}
use Rattle.std.proofs.lemmas.Bool.Decides.{nat_tests}
use Rattle.std.proofs.lemmas.List.{append-nil, length-take, take_all, take_at}
use Rattle.add_core.specs.declared.fault.AddFault.TheVariants.{LongPassphrase}
use Rattle.add_core.specs.Passphrases.{first_line, passphrase_in}

-- one byte more of the line
pub next_byte : (left line rest more : List ℕ) (byte : ℕ)
    → first_line left ≡ line ++ first_line rest → rest ≡ byte ∷ more → byte ≢ 10
    → first_line left ≡ (line ++ byte ∷ []) ++ first_line more
next_byte left line rest more byte so_far is other =
    let next : first_line rest ≡ byte ∷ first_line more = ap first_line is ∙ rw (ne_eqb byte 10 other) refl in
    so_far ∙ ap (λ (l : List ℕ). line ++ l) next ∙ sym (append_assoc line (byte ∷ []) (first_line more))

-- the line has ended
pub line_ended : (left line rest : List ℕ) → first_line left ≡ line ++ first_line rest
    → first_line rest ≡ [] → length line ≤ 1025
    → line ≡ take 1025 (first_line left)
line_ended left line rest so_far none fits =
    let same : first_line left ≡ line = so_far ∙ ap (λ (l : List ℕ). line ++ l) none ∙ append-nil line in
    sym (ap (take 1025) same ∙ take_all 1025 line fits)

-- an LF ends it
pub lf_ends : (rest more : List ℕ) (byte : ℕ) → rest ≡ byte ∷ more → byte ≡ 10
    → first_line rest ≡ []
lf_ends rest more byte is lf = ap first_line (is ∙ ap (λ (b : ℕ). b ∷ more) lf)

-- so many bytes are read
pub line_full : (left line rest : List ℕ) → first_line left ≡ line ++ first_line rest
    → length line ≡ 1025 → line ≡ take 1025 (first_line left)
line_full left line rest so_far full = sym (ap (take 1025) so_far ∙ take_at line (first_line rest) 1025 full)

-- a line that is too long
pub long_line : (line all : List ℕ) → line ≡ take 1025 all → 1024 < length line
    → passphrase_in all ≡ Err LongPassphrase
long_line line all is long =
    let size = ap length is ∙ length-take 1025 all in
    grind (arith, nat_tests, size)

-- a line that isn't
pub short_line : (line all : List ℕ) → line ≡ take 1025 all → 0 < length line → length line ≤ 1024
    → passphrase_in all ≡ Ok line
short_line line all is some short =
    let size : length line ≡ length (take 1025 all) = ap length is in
    let fits : length all ≤ 1025 = omega (arith, size, length-take 1025 all) in
    let same : line ≡ all = is ∙ take_all 1025 all fits in
    subst (λ (l : List ℕ). passphrase_in l ≡ Ok line) same (grind (arith, nat_tests))
