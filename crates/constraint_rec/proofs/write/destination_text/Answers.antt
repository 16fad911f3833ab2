use Rattle.constraint_rec.specs.Writing.{spelt_constraint}
use Rattle.constraint_rec.proofs.SizeLemmas.{constraint_fits}
use Rattle.constraint_rec.proofs.write.destination_text.Goals as goal

pub hop_text-requires : goal.hop_text-requires
hop_text-requires c = (constraint_fits (spelt_constraint c.args.rule.now) c.requires).from

pub put_string-requires : goal.put_string-requires
put_string-requires c =
    rw (c.deref.ensures.value, c.in_ok-from.ensures) (constraint_fits (spelt_constraint c.args.rule.now) c.requires).from

pub hop_text-requires-2 : goal.hop_text-requires-2
hop_text-requires-2 c = (constraint_fits (spelt_constraint c.args.rule.now) c.requires).to

pub put_string-requires-2 : goal.put_string-requires-2
put_string-requires-2 c =
    rw (c.deref-2.ensures.value, c.in_ok-to.ensures) (constraint_fits (spelt_constraint c.args.rule.now) c.requires).to
