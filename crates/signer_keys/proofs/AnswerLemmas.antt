-- Lemmas on specs/Answers.antt.
use Rattle.std.proofs.Common.{◌≡◌, ℕ, List, Ok, Err, ap}
use Rattle.child_msg.specs.Messages.{Sign, Verify, Confirm, Signing, Verification}
use Rattle.child_msg.specs.Reading.{to_child_of}
use Rattle.child_msg.specs.declared.fault.ChildFault.{ChildFault}
use Rattle.helper_core.specs.Routes.{NoRequest}
use Rattle.signer_keys.specs.Answers.{route_of, route_to}
use Rattle.signer_keys.specs.Signing.{signing_route}
use Rattle.signer_keys.specs.Verifying.{verdict_of, verifying_route}

-- a message's route
pub route_of-sign : (body : List ℕ) (request : Signing) → to_child_of body ≡ Ok (Sign request)
    → route_of body ≡ signing_route request
unfolding route_of
route_of-sign body request is = ap route_to is

pub route_of-verify : (body : List ℕ) (request : Verification)
    → to_child_of body ≡ Ok (Verify request)
    → route_of body ≡ verifying_route (verdict_of request.host_key request.session request.signature) request.ask
unfolding route_of
route_of-verify body request is = ap route_to is

-- what is no request to a helper
pub route_of-confirm : (body : List ℕ) (job : ℕ) (prompt : List ℕ)
    → to_child_of body ≡ Ok (Confirm job prompt) → route_of body ≡ NoRequest
unfolding route_of
route_of-confirm body job prompt is = ap route_to is

pub route_of-none : (body : List ℕ) (fault : ChildFault) → to_child_of body ≡ Err fault
    → route_of body ≡ NoRequest
unfolding route_of
route_of-none body fault is = ap route_to is
