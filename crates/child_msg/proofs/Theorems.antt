-- Reader, writer and grammar of both directions agree.
use Rattle.std.proofs.Common.{◌≡◌, ℕ, ◌<◌, ◌≤◌, List, length, Result, Ok, Err, IfOk, IsOkAnd, refl, ap, sym, ◌∙◌, lit<, arith}
use Rattle.wire_text.specs.Wire.{IsBytes}
use Rattle.wire_text.proofs.FrontLemmas.{front-string}
use Rattle.wire_core.specs.Readings.{IsAnswer}
use Rattle.child_msg.specs.declared.fault.ChildFault.{ChildFault}
use Rattle.child_msg.specs.declared.message.FromChild.{FromChild}
use Rattle.child_msg.specs.declared.message.ToChild.{ToChild}
use Rattle.child_msg.specs.Messages.{FromChildMessage, Hello, Signed, Refused, True, False, Granted, Denied, ToChildMessage, Sign, Verify, Confirm, from_child_message, to_child_message}
use Rattle.child_msg.specs.ChildFrames.{from_child_body, to_child_body, from_child_length, to_child_length, FromChildFits, ToChildFits, IsFromChild, IsToChild}
use Rattle.child_msg.specs.Reading.{from_child_of, to_child_of}
use Rattle.child_msg.specs.Writing.{IsFromChildWriting, IsToChildWriting}
use Rattle.child_msg.proofs.FromChildLemmas.{IsFromChild_from_child_of}
use Rattle.child_msg.proofs.PrintedLemmas.{from_child_of-from_child_body, to_child_of-to_child_body}
use Rattle.child_msg.proofs.WriteLemmas.{length-from_child_body, length-to_child_body}
use Rattle.child_msg.proofs.ToChildLemmas.{IsToChild_from_to_child_of}

-- ---- the readers

-- what is in the grammar is read
pub from_child_of_from_IsFromChild : (body : List ℕ) (message : FromChildMessage) → IsFromChild body message
    → from_child_of body ≡ Ok message
from_child_of_from_IsFromChild body message is =
    ap from_child_of is.printed ∙ from_child_of-from_child_body message is.fits

-- what is in the grammar is read
pub to_child_of_from_IsToChild : (body : List ℕ) (message : ToChildMessage) → IsToChild body message → to_child_of body ≡ Ok message
to_child_of_from_IsToChild body message is = ap to_child_of is.printed ∙ to_child_of-to_child_body message is.fits

-- a body is one message at most
pub from_child_is_unique : (body : List ℕ) (m n : FromChildMessage) → IsFromChild body m → IsFromChild body n → m ≡ n
from_child_is_unique body m n is_m is_n =
    let a = from_child_of_from_IsFromChild body m is_m in
    let b = from_child_of_from_IsFromChild body n is_n in
    cc

-- a body is one message at most
pub to_child_is_unique : (body : List ℕ) (m n : ToChildMessage) → IsToChild body m → IsToChild body n → m ≡ n
to_child_is_unique body m n is_m is_n =
    let a = to_child_of_from_IsToChild body m is_m in
    let b = to_child_of_from_IsToChild body n is_n in
    cc

-- what the code reads is in the grammar
pub from_child_found : (body : List ℕ) (answer : Result FromChild ChildFault) → IsBytes body
    → IsAnswer from_child_message answer (from_child_of body) → IfOk answer (λ read. IsFromChild body (from_child_message read))
from_child_found body (Ok read) each h = IsFromChild_from_child_of body (from_child_message read) each h
from_child_found body (Err fault) each h = tt

-- what is in the grammar the code reads
pub from_child_only : (body : List ℕ) (answer : Result FromChild ChildFault) → IsAnswer from_child_message answer (from_child_of body)
    → (message : FromChildMessage) → IsFromChild body message → IsOkAnd answer (λ read. from_child_message read ≡ message)
from_child_only body (Ok read) h message is = let e = from_child_of_from_IsFromChild body message is in cc
from_child_only body (Err fault) h message is = let e = from_child_of_from_IsFromChild body message is in absurd cc

-- what the code reads is in the grammar
pub to_child_found : (body : List ℕ) (answer : Result ToChild ChildFault) → IsBytes body
    → IsAnswer to_child_message answer (to_child_of body) → IfOk answer (λ read. IsToChild body (to_child_message read))
to_child_found body (Ok read) each h = IsToChild_from_to_child_of body (to_child_message read) each h
to_child_found body (Err fault) each h = tt

-- what is in the grammar the code reads
pub to_child_only : (body : List ℕ) (answer : Result ToChild ChildFault) → IsAnswer to_child_message answer (to_child_of body)
    → (message : ToChildMessage) → IsToChild body message → IsOkAnd answer (λ read. to_child_message read ≡ message)
to_child_only body (Ok read) h message is = let e = to_child_of_from_IsToChild body message is in cc
to_child_only body (Err fault) h message is = let e = to_child_of_from_IsToChild body message is in absurd cc

-- ---- the writers

-- no body is empty
some_from_child : (message : FromChildMessage) → 0 < length (from_child_body message)
some_from_child (Hello job ticket) = omega arith
some_from_child (Signed ask signature) = omega arith
some_from_child (Refused ask) = omega arith
some_from_child (True ask) = omega arith
some_from_child (False ask) = omega arith
some_from_child (Granted job) = omega arith
some_from_child (Denied job) = omega arith

-- no body is empty
some_to_child : (message : ToChildMessage) → 0 < length (to_child_body message)
some_to_child (Sign s) = omega arith
some_to_child (Verify v) = omega arith
some_to_child (Confirm job prompt) = omega arith

-- what is written of a message of a child process
pub from_child_writing : (message : FromChildMessage) → FromChildFits message → from_child_length message ≤ 262144
    → IsFromChildWriting message
from_child_writing message fits within =
    let is : IsFromChild (from_child_body message) message = record { printed = refl; fits = fits } in
    record {
      in_grammar = is;
      read_back = from_child_of-from_child_body message fits;
      framed = λ rest. front-string 262144 (from_child_body message) rest (lit< tt)
          record { some = some_from_child message; within = omega (arith, length-from_child_body message, within) };
      alone = λ other fits_other same. from_child_is_unique (from_child_body message) other message
          record { printed = sym same; fits = fits_other } is;
    }

-- what is written of a message to a child process
pub to_child_writing : (message : ToChildMessage) → ToChildFits message → to_child_length message ≤ 1048576
    → IsToChildWriting message
to_child_writing message fits within =
    let is : IsToChild (to_child_body message) message = record { printed = refl; fits = fits } in
    record {
      in_grammar = is;
      read_back = to_child_of-to_child_body message fits;
      framed = λ rest. front-string 1048576 (to_child_body message) rest (lit< tt)
          record { some = some_to_child message; within = omega (arith, length-to_child_body message, within) };
      alone = λ other fits_other same. to_child_is_unique (to_child_body message) other message
          record { printed = sym same; fits = fits_other } is;
    }
