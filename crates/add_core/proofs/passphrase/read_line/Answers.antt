use Rattle.std.proofs.Common.{◌≡◌, ◌∷◌, ◌++◌, [], ℕ, List, length, ap, sym, ◌∙◌, arith}
use Rattle.std.proofs.lemmas.Bool.Decides.{nat_tests}
use Rattle.std.proofs.lemmas.List.{length-append}
use Rattle.add_core.specs.Passphrases.{first_line}
use Rattle.add_core.proofs.PassphraseLemmas.{next_byte, line_ended, lf_ends, line_full}
use Rattle.add_core.proofs.passphrase.read_line.Goals as goal

pub bytes-preserved : goal.bytes-preserved
bytes-preserved g c =
    let line = c.bytes.line.live in
    let byte = c.in-Some.byte in
    let pushed : c.push_slice.new.self.live ≡ line ++ byte ∷ [] = c.in_ok-push_slice.ensures.ok in
    record {
      fits = grind (arith, nat_tests, ap length c.live.ensures, ap length pushed, length-append line (byte ∷ []));
      read = λ left known.
          let so_far = c.bytes.invariant.read left known in
          let read = c.in_ok-byte.ensures.read so_far.0 so_far.1 in
          let next = rw c.in-Some.is at read in (
            next.0,
            next.2,
            next_byte left line so_far.0 next.0 byte so_far.2 next.1 c.if-byte-eq10.false
                ∙ ap (λ (l : List ℕ). l ++ first_line next.0) (sym pushed),
          );
      later = omega (arith, c.bytes.invariant.later, c.in_ok-byte.ensures.later);
    }

pub returns-in_default-clause-read : goal.returns-in_default-clause-read
returns-in_default-clause-read g c = λ left known.
    let so_far = c.bytes.invariant.read left known in
    let read = c.in_ok-byte.ensures.read so_far.0 so_far.1 in
    let none = rw c.in_default.is at read in
    line_ended left c.bytes.line.live so_far.0 so_far.2 (ap first_line none) c.bytes.invariant.fits

pub returns-then-byte-eq10-clause-read : goal.returns-then-byte-eq10-clause-read
returns-then-byte-eq10-clause-read g c = λ left known.
    let so_far = c.bytes.invariant.read left known in
    let read = c.in_ok-byte.ensures.read so_far.0 so_far.1 in
    let next = rw c.in-Some.is at read in
    line_ended left c.bytes.line.live so_far.0 so_far.2 (lf_ends so_far.0 next.0 c.in-Some.byte next.1 c.if-byte-eq10.true) c.bytes.invariant.fits

pub returns-clause-read : goal.returns-clause-read
returns-clause-read g c = λ left known.
    let so_far = c.bytes.invariant.read left known in
    let fits = c.bytes.invariant.fits in
    line_full left c.bytes.line.live so_far.0 so_far.2 (grind (arith, nat_tests, fits, ap length c.live.ensures))
