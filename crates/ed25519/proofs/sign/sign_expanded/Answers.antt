use Rattle.ed25519.proofs.SigningLemmas.{signature-made}
use Rattle.ed25519.proofs.sign.sign_expanded.Goals as goal

pub returns : goal.returns
returns c = λ seed hash_is scalar_is public_is.
    signature-made seed c.args.message.now _ _ _ _ _ _ _ _ _ _ _ _ _ hash_is scalar_is public_is
    c.hash_of_two.ensures c.from_bytes-nonce.ensures c.as_words.ensures c.encoded_multiple-commitment.ensures
    c.hash_of_three.ensures c.from_bytes-challenge.ensures
    c.mul_add-response.ensures c.as_words-2.ensures c.to_bytes.ensures c.joined.ensures
