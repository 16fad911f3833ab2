use Rattle.std.proofs.Common.{◌≡◌, ◌∙◌, [], ◌++◌, arith, ap, sym, map}
use Rattle.std.proofs.lemmas.List.{length-map}
use Rattle.agent_msg.proofs.ReplyLemmas.{list_head-entries}
use Rattle.agent_msg.specs.Replies.{entries, list_head}
use Rattle.agent_model.specs.KeyStates.{shown}
use Rattle.agent_core.specs.Seen.{is_seen, seen}
use Rattle.agent_core.proofs.HeldLemmas.{answer_len-shown, length-entries_len}
use Rattle.agent_core.proofs.SeenLemmas.{seen-shorter}
use Rattle.agent_core.proofs.owed.Owed.put_list.Goals as goal

pub overflow_cast-body : goal.overflow_cast-body
overflow_cast-body c =
    let f = is_seen c.args.asker.now in
    omega (arith, seen-shorter f c.args.table.now.identities, c.seen_size-size.ensures.fits, c.seen_size-size.ensures.body)

pub put_list_head-requires : goal.put_list_head-requires
put_list_head-requires c =
    let f = is_seen c.args.asker.now in
    omega (arith, seen-shorter f c.args.table.now.identities, c.seen_size-size.ensures.fits, c.seen_size-size.ensures.body)

pub overflow_cast-size : goal.overflow_cast-size
overflow_cast-size c =
    let f = is_seen c.args.asker.now in
    let keys = seen c.args.asker.now c.args.table.now.identities in
    omega (arith, seen-shorter f c.args.table.now.identities, c.seen_size-size.ensures.fits, length-entries_len keys, c.seen_size-size.ensures.count)

pub returns : goal.returns
returns c =
    let keys = seen c.args.asker.now c.args.table.now.identities in
    let rest = entries (map shown keys) in
    let head = list_head c.seen_size-size.result.body c.seen_size-size.result.count in
    let empty : c.self.inside.bytes.live ≡ [] = rw (← c.self.view_is) at c.requires in
    c.in_ok-put_entries.ensures.ok
    ∙ ap (λ bytes. bytes ++ rest) (c.in_ok-put_list_head.ensures.ok ∙ ap (λ bytes. bytes ++ head) empty)
    ∙ list_head-entries (map shown keys) c.seen_size-size.result.body c.seen_size-size.result.count
    (c.seen_size-size.ensures.body ∙ answer_len-shown keys)
    (c.seen_size-size.ensures.count ∙ sym (length-map keys shown))
