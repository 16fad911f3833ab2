use Rattle.std.proofs.Common.{ℕ, List, Option}
use Rattle.std.specs.Option.{option_map}
use Rattle.std.specs.Prelude.{codes}
use Rattle.confirm_desk.specs.Prompt.{shown_text, to_host}
use Rattle.confirm_desk.proofs.PromptLemmas.{parts-assoc}
use Rattle.confirm_desk.proofs.line.push_login.Goals as goal

pub returns : goal.returns
returns c =
    let host : Option (List ℕ) = option_map (λ name. name.now) c.args.host in
    rw (c.in_ok-push.ensures.items, c.in_ok-push_host.ensures, c.in_ok-push_shown.ensures, c.in_ok-extend_from_slice.ensures.items)
    (parts-assoc c.args.text.now.items (codes "For a login as ") (shown_text 64 c.args.user.now) (to_host host) (codes "."))
