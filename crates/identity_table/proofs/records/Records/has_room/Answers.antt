use Rattle.std.proofs.Common.{◌+◌, ◌*◌, ◌&&◌, Bool, sym, ap, ◌∙◌}
use Rattle.std.specs.List.{sum_by}
use Rattle.constraint_rec.specs.declared.constraint.Constraint.{Constraint}
use Rattle.identity_table.specs.Identities.{hop_len, put_identity}
use Rattle.identity_table.specs.Indices.{held}
use Rattle.identity_table.proofs.records.Records.has_room.Goals as goal
use Rattle.identity_table.proofs.AdditionLemmas.{room_after}
use Rattle.identity_table.proofs.KeptLemmas.{kept_after, kept_by-parts, room_tested}

pub returns-then-lists : goal.returns-then-lists
returns-then-lists c = λ new blob private comment purposes rules.
    let keys = held c.args.self.now in
    let lists = c.fits-lists.result in
    let takes = c.is_room_beside-takes.result in
    ap (λ (b : Bool). b && takes) (sym c.if-lists.true)
    ∙ room_tested (put_identity new keys) lists takes
    (room_after new keys c.others_len.result c.args.blob.now c.args.comment.now lists blob comment c.others_len.ensures c.fits-lists.ensures)
    (kept_after new keys c.others_kept.result
    (c.args.private + 320 * c.args.purposes + sum_by (λ (rule : Constraint). hop_len rule.from + hop_len rule.to) c.args.rules.now) c.args.blob.now takes blob
    (kept_by-parts new c.args.private c.args.purposes c.args.rules.now private purposes rules) c.others_kept.ensures c.is_room_beside-takes.ensures)

pub returns-else-lists : goal.returns-else-lists
returns-else-lists c = λ new blob private comment purposes rules.
    let keys = held c.args.self.now in
    let lists = c.fits-lists.result in
    let takes = c.is_room_beside-takes.result in
    c.if-lists.false
    ∙ ap (λ (b : Bool). b && takes) (sym c.if-lists.false)
    ∙ room_tested (put_identity new keys) lists takes
    (room_after new keys c.others_len.result c.args.blob.now c.args.comment.now lists blob comment c.others_len.ensures c.fits-lists.ensures)
    (kept_after new keys c.others_kept.result
    (c.args.private + 320 * c.args.purposes + sum_by (λ (rule : Constraint). hop_len rule.from + hop_len rule.to) c.args.rules.now) c.args.blob.now takes blob
    (kept_by-parts new c.args.private c.args.purposes c.args.rules.now private purposes rules) c.others_kept.ensures c.is_room_beside-takes.ensures)
