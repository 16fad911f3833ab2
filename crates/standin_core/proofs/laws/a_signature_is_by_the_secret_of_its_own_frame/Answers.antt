use Rattle.standin_core.proofs.LawLemmas.{signed-only, signed-found, refused-only, refused-found, true-only, true-found}
use Rattle.standin_core.proofs.laws.a_signature_is_by_the_secret_of_its_own_frame.Goals as goal

pub returns-clause-signed : goal.returns-clause-signed
returns-clause-signed c = λ hosts body ask signature. (signed-only hosts body ask signature, signed-found hosts body ask signature)

pub returns-clause-refused : goal.returns-clause-refused
returns-clause-refused c =
    λ hosts body ask. (refused-only hosts body ask, refused-found hosts body ask)

pub returns-clause-verified : goal.returns-clause-verified
returns-clause-verified c = λ hosts body ask. (true-only hosts body ask, true-found hosts body ask)
