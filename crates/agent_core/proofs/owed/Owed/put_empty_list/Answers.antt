use Rattle.std.proofs.Common.{◌≡◌, ◌∙◌, [], ◌++◌, ap, refl, sym}
use Rattle.std.proofs.lemmas.List.{append-nil}
use Rattle.agent_msg.proofs.ReplyLemmas.{list_head-entries}
use Rattle.agent_msg.specs.Replies.{list_head}
use Rattle.agent_core.proofs.owed.Owed.put_empty_list.Goals as goal

pub returns : goal.returns
returns c =
    let empty : c.self.inside.bytes.live ≡ [] = rw (← c.self.view_is) at c.requires in
    c.in_ok-put_list_head.ensures.ok
    ∙ ap (λ bytes. bytes ++ list_head 5 0) empty
    ∙ sym (append-nil (list_head 5 0))
    ∙ list_head-entries [] 5 0 refl refl
