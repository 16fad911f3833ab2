-- Messages of both directions: what is printed is read.
use Rattle.std.proofs.Common.{◌≡◌, ℕ, ◌^◌, ◌<◌, ◌++◌, length, Ok, refl, arith}
use Rattle.wire_text.specs.Wire.{uint32, uint64, string}
use Rattle.wire_core.proofs.Theorems.{uint64_at-uint64, string_at-string}
use Rattle.child_msg.specs.Messages.{FromChildMessage, Hello, Signed, Refused, True, False, Granted, Denied, ToChildMessage, Sign, Verify, Confirm}
use Rattle.child_msg.specs.ChildFrames.{from_child_body, FromChildFits, to_child_body, ToChildFits}
use Rattle.child_msg.specs.Reading.{from_child_of, from_child_of_kind, number_at_end, to_child_of, to_child_of_kind}
use Rattle.wire_core.proofs.ReadingLemmas.{uint32_at-alone, uint64_at-alone, string_at-alone}

-- a number alone is read
number_at_end-uint64 : (number : ℕ) → number < 2 ^ 64 → number_at_end (uint64 number) ≡ Ok number
number_at_end-uint64 number small = rw (uint64_at-alone number small) refl

-- what is printed is read
pub from_child_of-from_child_body : (message : FromChildMessage) → FromChildFits message
    → from_child_of (from_child_body message) ≡ Ok message
unfolding from_child_of from_child_of_kind
from_child_of-from_child_body (Hello job ticket) fits =
    let small : length ticket < 2 ^ 32 = omega (arith, fits.1) in
    rw (uint64_at-uint64 job (string ticket) fits.0, string_at-alone ticket small, fits.1) refl
from_child_of-from_child_body (Signed ask signature) fits =
    rw (uint64_at-uint64 ask (string signature) fits.0, string_at-alone signature fits.1) refl
from_child_of-from_child_body (Refused ask) fits = rw (number_at_end-uint64 ask fits) refl
from_child_of-from_child_body (True ask) fits = rw (number_at_end-uint64 ask fits) refl
from_child_of-from_child_body (False ask) fits = rw (number_at_end-uint64 ask fits) refl
from_child_of-from_child_body (Granted job) fits = rw (number_at_end-uint64 job fits) refl
from_child_of-from_child_body (Denied job) fits = rw (number_at_end-uint64 job fits) refl

-- what is printed is read
pub to_child_of-to_child_body : (message : ToChildMessage) → ToChildFits message → to_child_of (to_child_body message) ≡ Ok message
unfolding to_child_of to_child_of_kind
to_child_of-to_child_body (Sign s) fits =
    rw (
      uint64_at-uint64 s.ask (string s.private ++ (string s.blob ++ (string s.message ++ uint32 s.flags))) fits.0,
      string_at-string s.private (string s.blob ++ (string s.message ++ uint32 s.flags)) fits.1,
      string_at-string s.blob (string s.message ++ uint32 s.flags) fits.2,
      string_at-string s.message (uint32 s.flags) fits.3,
      uint32_at-alone s.flags fits.4,
    ) refl
to_child_of-to_child_body (Verify v) fits =
    rw (
      uint64_at-uint64 v.ask (string v.host_key ++ (string v.signature ++ string v.session)) fits.0,
      string_at-string v.host_key (string v.signature ++ string v.session) fits.1,
      string_at-string v.signature (string v.session) fits.2,
      string_at-alone v.session fits.3,
    ) refl
to_child_of-to_child_body (Confirm job prompt) fits =
    rw (uint64_at-uint64 job (string prompt) fits.0, string_at-alone prompt fits.1) refl
