-- Which second no confirmation was raised after: it stays so, whatever is called.
use Rattle.std.proofs.Common.{ℕ, ◌≤◌, List, [], ◌∷◌, ◌++◌, Option, Some, None, refl, arith}
use Rattle.lists.specs.Keyed.{has_key}
use Rattle.lists.proofs.NeverFallLemmas.{up_to-change, up_to-higher, up_to-push, up_to-remove}
use Rattle.confirm_desk.specs.Calls.{telling, telling_by, telling_if, took_at, took_by}
use Rattle.confirm_desk.specs.Confirmations.{AreRaisedBy, Confirmation, Consent, Held, NotYet, Yes, No, confirmation_of, consent, find_linked, heard_more, job_of, linked, linked_at, lose, raise, second_of, told, took, took_some}

-- what was raised by a second was raised by each later one
pub raised_by_later : (now later : ℕ) (all : List Confirmation) → now ≤ later → AreRaisedBy now all →
    AreRaisedBy later all
raised_by_later now later all before raised = up_to-higher second_of now later all before raised

-- one more, raised by then
pub raised_by_push : (now : ℕ) (all : List Confirmation) (one : Confirmation) → one.raised_at ≤ now →
    AreRaisedBy now all → AreRaisedBy now (all ++ one ∷ [])
raised_by_push now all one before raised = up_to-push second_of now all one before raised

pub raised_by_raise : (job : ℕ) (held : Held) (prompt : List ℕ) (now : ℕ) (all : List Confirmation) →
    AreRaisedBy now all → AreRaisedBy now (raise job held prompt now all)
raised_by_raise job held prompt now all raised =
    raised_by_push now all (confirmation_of job held prompt now) (omega arith) raised

-- one less
pub raised_by_lose : (now job : ℕ) (all : List Confirmation) → AreRaisedBy now all →
    AreRaisedBy now (lose job all)
raised_by_lose now job all raised = up_to-remove second_of (has_key job_of job) now all raised

-- ports, bytes sent and bytes heard are no matter of seconds
pub raised_by_linked : (now job port : ℕ) (all : List Confirmation) → AreRaisedBy now all →
    AreRaisedBy now (linked job port all)
raised_by_linked now job port all raised =
    up_to-change second_of (has_key job_of job) (linked_at port) now all (λ one. refl) raised

pub raised_by_took : (now job count : ℕ) (all : List Confirmation) → AreRaisedBy now all →
    AreRaisedBy now (took job count all)
raised_by_took now job count all raised =
    up_to-change second_of (has_key job_of job) (took_some count) now all (λ one. refl) raised

pub raised_by_told : (now job : ℕ) (piece : List ℕ) (all : List Confirmation) → AreRaisedBy now all →
    AreRaisedBy now (told job piece all)
raised_by_told now job piece all raised =
    up_to-change second_of (has_key job_of job) (heard_more piece) now all (λ one. refl) raised

-- by the port of a child process
took_by-raised : (now : ℕ) (found : Option Confirmation) (count : ℕ) (all : List Confirmation) →
    AreRaisedBy now all → AreRaisedBy now (took_by found count all)
took_by-raised now None count all raised = raised
took_by-raised now (Some one) count all raised = raised_by_took now one.job count all raised

pub raised_by_took_at : (now port count : ℕ) (all : List Confirmation) → AreRaisedBy now all →
    AreRaisedBy now (took_at port count all)
raised_by_took_at now port count all raised =
    took_by-raised now (find_linked port all) count all raised

telling_by-raised : (now : ℕ) (answer : Consent) (one : Confirmation) (piece : List ℕ)
    (all : List Confirmation) → AreRaisedBy now all → AreRaisedBy now (telling_by answer one piece all).desk
telling_by-raised now NotYet one piece all raised = raised_by_told now one.job piece all raised
telling_by-raised now Yes one piece all raised = raised_by_lose now one.job all raised
telling_by-raised now No one piece all raised = raised_by_lose now one.job all raised

telling_if-raised : (now : ℕ) (found : Option Confirmation) (piece : List ℕ) (all : List Confirmation) →
    AreRaisedBy now all → AreRaisedBy now (telling_if found piece all).desk
telling_if-raised now None piece all raised = raised
telling_if-raised now (Some one) piece all raised =
    telling_by-raised now (consent one.job (one.heard ++ piece)) one piece all raised

pub raised_by_telling : (now port : ℕ) (piece : List ℕ) (all : List Confirmation) → AreRaisedBy now all →
    AreRaisedBy now (telling port piece all).desk
raised_by_telling now port piece all raised =
    telling_if-raised now (find_linked port all) piece all raised
