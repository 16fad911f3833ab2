use Rattle.standin_core.proofs.KeyLemmas.{secret_of-found, secret_of-only, tag_of-found, tag_of-only}
use Rattle.standin_core.proofs.laws.keys_are_read_exactly.Goals as goal

pub returns-clause-tag : goal.returns-clause-tag
returns-clause-tag c = λ blob tag. (tag_of-only blob tag, tag_of-found blob tag)

pub returns-clause-secret : goal.returns-clause-secret
returns-clause-secret c =
    λ private blob secret. (secret_of-only private blob secret, secret_of-found private blob secret)
