use Rattle.std.proofs.Common.{◌∙◌, ◌++◌, ◌+◌, ℕ, List, arith, ap, sym, map}
use Rattle.std.proofs.lemmas.List.{length-map}
use Rattle.agent_msg.specs.Replies.{identities_answer}
use Rattle.agent_msg.specs.ReplyReading.{lent}
use Rattle.filter_core.proofs.CutLemmas.{few, listed_bytes}
use Rattle.filter_core.proofs.cut.put_list.Goals as goal

pub overflow_cast-count : goal.overflow_cast-count
overflow_cast-count c = omega (arith, c.requires, few (map lent c.args.identities.now), length-map c.args.identities.now lent)

pub returns : goal.returns
returns c =
    listed_bytes _ _ _ (map lent c.args.identities.now) _ _ c.in_ok-put_entries.ensures c.in_ok-put_list_head.ensures.ok
    (ap (λ (n : ℕ). 5 + n) c.entries_len-entries.ensures) (sym (length-map c.args.identities.now lent))
    ∙ ap (λ (bytes : List ℕ). bytes ++ identities_answer (map lent c.args.identities.now)) c.reserve.ensures.kept
