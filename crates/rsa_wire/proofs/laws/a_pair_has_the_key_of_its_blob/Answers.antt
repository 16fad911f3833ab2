use Rattle.rsa_wire.proofs.PublicLemmas.{certified_is_the_blobs, plain_is_the_blobs}
use Rattle.rsa_wire.proofs.laws.a_pair_has_the_key_of_its_blob.Goals as goal

pub returns-clause-plain : goal.returns-clause-plain
returns-clause-plain c = plain_is_the_blobs

pub returns-clause-certified : goal.returns-clause-certified
returns-clause-certified c = certified_is_the_blobs
