use Rattle.std.proofs.Common.{[], refl, replicate}
use Rattle.wide_words.proofs.ByteLemmas.{put_mid-next}
use Rattle.p521_ecdsa.proofs.nonce.tagged.Goals as goal

pub returns : goal.returns
returns c = put_mid-next 0 64 [] (replicate 65 c.args.tag) _ c.args.value.now refl c.copy_from_slice.ensures.after
