-- Lemmas on specs/Laws.antt.
use Rattle.std.proofs.Common.{◌≡◌, ℕ, ◌||◌, if◌then◌else◌, Option, Some, None, Result, Ok, Err, refl}
use Rattle.std.specs.Option.{is_some}
use Rattle.child_msg.specs.Messages.{FromChildMessage, ToChildMessage, Sign, Verify, Confirm}
use Rattle.child_msg.specs.declared.fault.ChildFault.{ChildFault}
use Rattle.helper_core.specs.declared.asked.Asked.{Asked}
use Rattle.helper_core.specs.declared.asked.Asked.TheVariants.{Signature}
use Rattle.helper_core.specs.Routes.{Answered, HandedOn}
use Rattle.signer_keys.specs.Answers.{route_to}
use Rattle.signer_keys.specs.declared.types.KeyType.{KeyType}
use Rattle.signer_keys.specs.declared.verifying.Verdict.{Verdict}
use Rattle.signer_keys.specs.declared.verifying.Verdict.TheVariants.{Right, Wrong, Elsewhere}
use Rattle.signer_keys.specs.Laws.{IsForBehind}
use Rattle.signer_keys.specs.Signing.{signature_for, signed_by}
use Rattle.signer_keys.specs.Types.{type_of}
use Rattle.signer_keys.specs.Verifying.{verdict_of, verifying_route}

-- a request to sign that is handed on
neither : (blob private : Option KeyType) (answer : FromChildMessage) (asked given : Asked)
    → (if is_some blob || is_some private then Answered answer else HandedOn asked) ≡ HandedOn given
    → (blob ≡ None) × (private ≡ None)
neither (Some key) private answer asked given is = cc is
neither None (Some key) answer asked given is = cc is
neither None None answer asked given is = (refl, refl)

-- a request to verify that is handed on
elsewhere : (verdict : Verdict) (ask : ℕ) (given : Asked)
    → verifying_route verdict ask ≡ HandedOn given → verdict ≡ Elsewhere
elsewhere Right ask given is = cc is
elsewhere Wrong ask given is = cc is
elsewhere Elsewhere ask given is = refl

pub for_behind : (read : Result ToChildMessage ChildFault) (given : Asked)
    → route_to read ≡ HandedOn given → IsForBehind read
for_behind (Ok (Sign request)) given is =
    neither (type_of request.blob) (type_of request.private) (signed_by request.ask (signature_for request))
    (Signature request.ask) given is
for_behind (Ok (Verify request)) given is = elsewhere (verdict_of request.host_key request.session request.signature) request.ask given is
for_behind (Ok (Confirm job prompt)) given is = cc is
for_behind (Err fault) given is = cc is
