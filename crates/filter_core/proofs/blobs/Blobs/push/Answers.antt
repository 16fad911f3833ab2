use Rattle.std.proofs.Common.{◌∙◌, ap}
use Rattle.filter_core.specs.Index.{mark_of}
use Rattle.filter_core.proofs.IndexLemmas.{pushed_both, pushed_none, pushed_place}
use Rattle.filter_core.proofs.blobs.Blobs.push.Goals as goal

pub invariant_of-self : goal.invariant_of-self
invariant_of-self c =
    pushed_none c.self.inside.blobs.items c.self.inside.buckets.items c.mark_of-mark.result c.index_mut.result.now c.push.new.self c.self.invariant c.index_mut.ensures.value c.in_err-push.ensures.items

pub invariant_of-self-in_err-push-2 : goal.invariant_of-self-in_err-push-2
invariant_of-self-in_err-push-2 c =
    pushed_place c.self.inside.blobs.items c.push-2.new.self.items c.self.inside.buckets.items c.mark_of-mark.result c.len.result c.index_mut.result.now c.push.new.self
    c.self.invariant c.mark_of-mark.ensures.within c.index_mut.ensures.value c.in_ok-push.ensures.items c.in_err-push-2.ensures.items

pub invariant_of-self-2 : goal.invariant_of-self-2
invariant_of-self-2 c =
    pushed_both c.self.inside.blobs.items c.push-2.new.self.items c.self.inside.buckets.items c.args.blob c.mark_of-mark.result c.len.result c.index_mut.result.now c.push.new.self
    c.self.invariant c.mark_of-mark.ensures.within (c.mark_of-mark.ensures.is ∙ ap mark_of c.deref.ensures.value) (c.len.ensures ∙ c.self.inside.blobs.ok.0) c.index_mut.ensures.value c.in_ok-push.ensures.items c.in_ok-push-2.ensures.items
