use Rattle.std.proofs.Common.{◌∙◌, List, ℕ, ap}
use Rattle.std.specs.List.{list_any}
use Rattle.std.specs.Prelude.{Vec}
use Rattle.std.specs.declared.alloc.Global.{Global}
use Rattle.filter_core.specs.Index.{is_blob_at, items_of}
use Rattle.filter_core.proofs.IndexLemmas.{looked_up}
use Rattle.filter_core.proofs.blobs.Blobs.has.Goals as goal

pub returns : goal.returns
returns c =
    rw (← c.self.view_is) (c.has_at.ensures
    ∙ ap (λ (l : List (Vec ℕ Global)). list_any (is_blob_at c.args.blob.now (items_of l)) c.deref-2.result.now) c.deref.ensures.value
    ∙ ap (list_any (is_blob_at c.args.blob.now (items_of c.self.inside.blobs.items))) c.deref-2.ensures.value
    ∙ looked_up c.self.inside.blobs.items c.self.inside.buckets.items c.args.blob.now c.mark_of.result c.index.result.now c.self.invariant c.mark_of.ensures.within c.mark_of.ensures.is c.index.ensures)
