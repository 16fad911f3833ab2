use Rattle.std.proofs.Common.{◌∙◌, ◌++◌, arith, ap, sym, map, append_assoc}
use Rattle.agent_msg.specs.Replies.{entries}
use Rattle.agent_model.specs.KeyStates.{shown}
use Rattle.agent_core.specs.Seen.{entry_if, is_seen, seen}
use Rattle.agent_core.proofs.SeenLemmas.{entries_len-more, seen-more}
use Rattle.agent_core.proofs.owed.put_entries.Goals as goal

pub put_entry-requires : goal.put_entry-requires
put_entry-requires c =
    let l = c.loop-identity in
    let more = entries_len-more c.in-Some.identity.now c.next.new.self l.identity-iterator c.in-Some.ensures.steps in
    omega (arith, more, l.invariant.2)

pub loop-identity-preserved : goal.loop-identity-preserved
loop-identity-preserved c =
    let l = c.loop-identity in
    let f = is_seen c.args.asker.now in
    let key = c.in-Some.identity.now in
    let more = entries_len-more key c.next.new.self l.identity-iterator c.in-Some.ensures.steps in
    let adds = seen-more f key c.next.new.self l.identity-iterator c.in-Some.ensures.steps in
    let rest = entries (map shown (seen c.args.asker.now c.next.new.self)) in (
      ap (λ bytes. bytes ++ rest) c.in_ok-put_entry.ensures.ok
          ∙ append_assoc l.out.live (entry_if (f key) key) rest
          ∙ ap (λ bytes. l.out.live ++ bytes) (sym adds.entries)
          ∙ l.invariant.0,
      omega (arith, l.invariant.1, c.put_entry.ensures.keeps_room),
      omega (arith, more, l.invariant.2),
    )
