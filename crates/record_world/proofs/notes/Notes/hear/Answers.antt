use Rattle.std.proofs.Common.{◌∙◌, sym}
use Rattle.lists.specs.Firsts.{IsFirst}
use Rattle.lists.specs.Keyed.{has_key}
use Rattle.record_world.specs.Recording.{number_of}
use Rattle.record_world.proofs.NoteLemmas.{fits_of, full_of, hears_of}
use Rattle.record_world.proofs.notes.Notes.hear.Goals as goal

pub returns-in-Some-clause-kept : goal.returns-in-Some-clause-kept
returns-in-Some-clause-kept c =
    let at : IsFirst (has_key number_of c.args.number) c.self.inside.peers.items c.in-Some.place = rw c.deref.ensures.value at c.in-Some.ensures in
    hears_of c.hear.result c.args.number c.in-Some.place c.args.piece.now c.args.self.now _ _ _ _ _ _ _ _ _
    (c.self.view_is ∙ c.wait.ensures) at c.index_mut-peer.ensures.value
    c.hear.ensures.port c.hear.ensures.passphrases c.hear.ensures.text

pub returns-in-Some-clause-full : goal.returns-in-Some-clause-full
returns-in-Some-clause-full c is =
    let at : IsFirst (has_key number_of c.args.number) c.self.inside.peers.items c.in-Some.place = rw c.deref.ensures.value at c.in-Some.ensures in
    full_of c.args.number c.in-Some.place c.args.piece.now c.args.self.now _ _ _ _ _
    (c.self.view_is ∙ c.wait.ensures) at c.index_mut-peer.ensures.value (c.hear.ensures.full is)

pub returns-in-Some-clause-fits : goal.returns-in-Some-clause-fits
returns-in-Some-clause-fits c =
    fits_of c.hear.result c.args.self.now _ _ _ c.hear.new.passphrases _ (c.self.view_is ∙ c.wait.ensures) c.hear.ensures.fits
