use Rattle.std.proofs.Common.{◌≡◌, ◌∙◌, ℕ, List, Option, Bor, false, ap, sym, subst}
use Rattle.std.specs.Option.{option_map}
use Rattle.std.specs.Prelude.{is_ok}
use Rattle.key_blob.specs.PublicKeys.{public_key_of}
use Rattle.dest_rule.specs.Chains.{Binding}
use Rattle.dest_rule.specs.GroundsOf.{grounds_of}
use Rattle.dest_rule.specs.Hosts.{first_to}
use Rattle.dest_rule.proofs.HostLemmas.{unread_has_no_host, unread_is_not_left}
use Rattle.dest_rule.proofs.host.host_behind.Goals as goal

pub returns-in_default : goal.returns-in_default
returns-in_default c =
    let unread = subst (λ (k : List ℕ). is_ok (public_key_of k) ≡ false) c.as_slice.ensures c.in_default.ensures in
    sym (unread_has_no_host (grounds_of c.args.grounds.now) _ c.args.newest.now.host_key c.args.grounds.now.rules.now unread)

pub returns-in-None-read_host_key : goal.returns-in-None-read_host_key
returns-in-None-read_host_key c =
    let unread = subst (λ (k : List ℕ). is_ok (public_key_of k) ≡ false) c.as_slice-in-Some-previous.ensures c.in-None-read_host_key.ensures in
    sym (ap (λ (p : Option (Bor Binding)). first_to (grounds_of c.args.grounds.now) (option_map (λ one. one.now.host_key) p) c.args.newest.now.host_key c.args.grounds.now.rules.now) c.in-Some-previous.is
    ∙ unread_is_not_left (grounds_of c.args.grounds.now) c.in-Some-previous.binding.now.host_key c.args.newest.now.host_key c.args.grounds.now.rules.now unread)
