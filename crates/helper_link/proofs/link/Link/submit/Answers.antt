use Rattle.std.proofs.Common.{◌≡◌, ◌≢◌, ◌<◌, ◌+◌, ◌∙◌, ℕ, ap, length, subst, sym}
use Rattle.std.proofs.lemmas.List.Sums.{sum_by_push}
use Rattle.helper_link.specs.HelperLink.{ArePutBy, HelperLink, ask_of, asked_len, most_asked, most_asks}
use Rattle.helper_link.specs.Sound.{link_of}
use Rattle.helper_link.specs.declared.state.LinkState.TheVariants as states
use Rattle.helper_link.proofs.OrderLemmas.{size}
use Rattle.helper_link.proofs.SoundLemmas.{IsSound-push}
use Rattle.helper_link.proofs.link.Link.submit.Goals as goal

pub invariant_of-self-2 : goal.invariant_of-self-2
invariant_of-self-2 c =
    let inside = c.self.inside in
    let old : HelperLink = link_of inside.state inside.asks.items inside.last inside.owed.live
    inside.heard.live inside.faults in
    let same : old ≡ c.args.self.now = c.self.view_is in
    let some = subst (λ (link : HelperLink). link.state ≢ states.None)
    (sym same) c.requires.state in
    let room = subst (λ (link : HelperLink). length link.asks < most_asks)
    (sym same) c.requires.few in
    let light = subst (λ (link : HelperLink). asked_len link.asks < most_asked)
    (sym same) c.requires.light in
    let later = subst (λ (link : HelperLink). ArePutBy c.args.now link.asks)
    (sym same) c.requires.later in
    let len = c.in_ok-size.size in
    let new = ask_of (inside.last + 1) c.args.asker c.args.kind c.from_vec-blob.result c.args.now len in
    rw (c.in_ok-push.ensures.items, c.in_ok-reserve.ensures.items) (
      IsSound-push c.args.kind c.args.asker c.from_vec-blob.result c.args.now len c.append_request.new.owed.live old some
          room light c.in_ok-size.ensures.small later c.self.invariant.0,
      ap (λ (n : ℕ). n + len) c.self.invariant.1 ∙ sym (sum_by_push size inside.asks.items new),
    )
