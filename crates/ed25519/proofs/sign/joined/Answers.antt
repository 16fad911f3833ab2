use Rattle.std.proofs.Common.{refl}
use Rattle.ed25519.proofs.SigningLemmas.{put_mid-halves}
use Rattle.ed25519.proofs.sign.joined.Goals as goal

pub returns : goal.returns
returns c =
    put_mid-halves _ _ _ c.args.first.now c.args.second.now c.told-first refl
    c.copy_from_slice.ensures.after c.copy_from_slice-2.ensures.after
