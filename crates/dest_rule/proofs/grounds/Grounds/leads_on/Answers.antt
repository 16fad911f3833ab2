use Rattle.std.proofs.Common.{◌≡◌, false, sym, subst, ℕ, List}
use Rattle.std.specs.Prelude.{is_ok}
use Rattle.key_blob.specs.PublicKeys.{public_key_of}
use Rattle.dest_rule.specs.GroundsOf.{grounds_of}
use Rattle.dest_rule.proofs.PlaceLemmas.{unread_leads_nowhere}
use Rattle.dest_rule.proofs.grounds.Grounds.leads_on.Goals as goal

pub returns-in-None : goal.returns-in-None
returns-in-None c =
    let unread = subst (λ (k : List ℕ). is_ok (public_key_of k) ≡ false) c.as_slice.ensures c.in-None.ensures in
    sym (unread_leads_nowhere (grounds_of c.args.self.now) c.args.binding.now.host_key unread)
