use Rattle.std.proofs.Common.{List, ℕ, arith, ap, map}
use Rattle.std.specs.Borrow.{Bor}
use Rattle.agent_msg.specs.Replies.{entries_length}
use Rattle.agent_msg.specs.ReplyReading.{lent}
use Rattle.filter_core.proofs.CutLemmas.{shorter}
use Rattle.filter_core.proofs.cut.owe_listed.Goals as goal

pub owe_list-requires : goal.owe_list-requires
owe_list-requires c =
    omega (
      arith,
      shorter c.args.listed.now (map lent c.args.identities.items),
      ap entries_length c.keep_listed.ensures,
      ap (λ (ids : List (Bor (List ℕ) × Bor (List ℕ))). entries_length (map lent ids)) c.deref.ensures.value,
    )
