use Rattle.std.proofs.Common.{◌∙◌, ap, map}
use Rattle.filter_top.proofs.ListLemmas.{put_blob}
use Rattle.filter_top.proofs.list.put.Goals as goal

pub returns : goal.returns
returns c = ap (map (λ blob. blob.items)) c.in-Ok.ensures.keys ∙ put_blob c.args.blobs.now.keys c.args.blob
