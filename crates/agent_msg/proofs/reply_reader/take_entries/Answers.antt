use Rattle.std.proofs.Common.{◌≡◌, ℕ, ◌+◌, ◌-◌, List, [], ◌∷◌, ◌++◌, map, sym, ap, ◌∙◌, arith, rules}
use Rattle.std.proofs.lemmas.List.{map-append}
use Rattle.wire_core.specs.Readings.{◌>>=◌}
use Rattle.agent_msg.specs.ReplyReading.{lent, in_front, entries_at}
use Rattle.agent_msg.proofs.ReplyReadLemmas.{none_done, entry_joins, entry_fails, all_done}
use Rattle.agent_msg.proofs.reply_reader.take_entries.Goals as goal

pub returns-in_err-take_entry : goal.returns-in_err-take_entry
returns-in_err-take_entry c =
    let fails = entry_fails (entries_at c.args.count c.args.from.now) (map lent c.loop.identities.items) (c.args.count - c.loop.counter)
    (c.args.count - (c.loop.counter + 1)) c.loop.from c.in_err-take_entry.field-0.0 (omega arith) c.loop.invariant.1 (search rules) in
    search rules

pub loop-preserved : goal.loop-preserved
loop-preserved c =
    let first = lent c.in_ok-take_entry.field-0 in
    let others = c.args.count - (c.loop.counter + 1) in
    let joins = entry_joins (entries_at c.args.count c.args.from.now) (map lent c.loop.identities.items) (c.args.count - c.loop.counter)
    others c.loop.from c.take_entry.new.from first (omega arith) c.loop.invariant.1 (search rules) in
    let made : map lent c.push.new.self.items ≡ map lent c.loop.identities.items ++ first ∷ [] =
    ap (map lent) c.in_ok-push.ensures.items ∙ map-append lent c.loop.identities.items (c.in_ok-take_entry.field-0 ∷ []) in (
      omega arith,
      joins ∙ ap (λ (done : List (List ℕ × List ℕ)). entries_at others c.take_entry.new.from >>= in_front done) (sym made),
    )

pub returns : goal.returns
returns c = all_done (entries_at c.args.count c.args.from.now) (map lent c.loop.identities.items) (c.args.count - c.loop.counter) c.loop.from (omega arith) c.loop.invariant.1
