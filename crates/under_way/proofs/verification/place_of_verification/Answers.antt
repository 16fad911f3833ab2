use Rattle.under_way.proofs.VerificationLemmas.{is_verification_place}
use Rattle.under_way.proofs.verification.place_of_verification.Goals as goal

pub returns : goal.returns
returns c = is_verification_place c.args.ask c.args.verifications.now c.first_of_verifications.result c.first_of_verifications.ensures
