-- A reply that is read in two parts, its length and its body.
use Rattle.std.proofs.Common.{◌≡◌, ◌⊎◌, inl, inr, ◌<◌, ◌≤◌, ℕ, List, length, take, drop, None, Some, refl, sym, ap, ◌∙◌, arith, Result, Ok, Err, MatchResult}
use Rattle.std.proofs.lemmas.List.{length-drop, drop-drop}
use Rattle.wire_text.specs.Bounds.{longest_body}
use Rattle.wire_text.specs.Wire.{announced_len}
use Rattle.wire_text.specs.Frames.{Front, Whole, Bad, More, front, front_body, after_front, StartsWithFrame}
use Rattle.wire_text.proofs.WireLemmas.{announced_len-take}
use Rattle.wire_text.proofs.FrontLemmas.{front-whole, front-bad, front-short, front-waits}
use Rattle.world_ports.specs.Streams.{StreamView}
use Rattle.add_core.specs.declared.fault.PeerStop.{PeerStop}
use Rattle.add_core.specs.declared.fault.PeerStop.TheVariants.{BadReply}
use Rattle.add_core.specs.Hearing.{answer_of, answer_at, Announces, TakesFirst, TakesReply}

-- what is answered where this stands at the front
by_front : (replies : List ℕ) (is : Front) → front longest_body replies ≡ is
    → answer_at replies ≡ answer_of is replies
by_front replies is same = ap (λ (f : Front). answer_of f replies) same

-- no length is there
pub no_length : (replies : List ℕ) → length replies < 4 → answer_at replies ≡ None
no_length replies short = by_front replies More (front-short longest_body replies short)

-- the length in the four bytes is that of the front
announced : (replies header : List ℕ) → 4 ≤ length replies → header ≡ take 4 replies
    → announced_len header ≡ announced_len replies
announced replies header enough first = ap announced_len first ∙ announced_len-take replies enough

-- a length that no reply has
pub bad_length : (replies header : List ℕ) → 4 ≤ length replies → header ≡ take 4 replies
    → (announced_len header ≡ 0) ⊎ (longest_body < announced_len header) → answer_at replies ≡ None
bad_length replies header enough first (inl none) =
    let same = announced replies header enough first in
    by_front replies (Bad (announced_len replies)) (front-bad longest_body replies record { header = enough; refused = inl (sym same ∙ none) })
bad_length replies header enough first (inr long) =
    let same = announced replies header enough first in
    by_front replies (Bad (announced_len replies)) (front-bad longest_body replies record { header = enough; refused = inr (omega (arith, same)) })

-- the body isn't there
pub no_body : (replies header : List ℕ) (count : ℕ) → 4 ≤ length replies → header ≡ take 4 replies
    → Announces header count
    → length (drop 4 replies) < count → answer_at replies ≡ None
no_body replies header count enough first announces short =
    let same = announced replies header enough first in
    let is = announces.is in
    by_front replies More (front-waits longest_body replies enough (omega (arith, same, announces.some)) (omega (arith, same, announces.within))
    (omega (arith, same, length-drop 4 replies)))

-- the body is there
pub whole_reply : (replies header body : List ℕ) (count : ℕ) (now : StreamView)
    → 4 ≤ length replies → header ≡ take 4 replies
    → Announces header count → TakesFirst count (drop 4 replies) body now → TakesReply replies body now
whole_reply replies header body count now enough first announces takes =
    let same = announced replies header enough first in
    let n : announced_len replies ≡ count = sym same ∙ sym announces.is in
    let starts : StartsWithFrame longest_body replies = record {
      header = enough;
      some = omega (arith, n, announces.some);
      within = omega (arith, n, announces.within);
      follows = omega (arith, n, takes.enough, length-drop 4 replies);
    } in
    let found : answer_at replies ≡ Some (front_body count replies, after_front count replies) =
    by_front replies (Whole (announced_len replies)) (front-whole longest_body replies starts)
    ∙ ap (λ (k : ℕ). Some (front_body k replies, after_front k replies)) n in
    record {
      rest = drop count (drop 4 replies);
      answer = found ∙ rw (takes.first, drop-drop) refl;
      left = takes.left;
    }

-- the body is there or not
pub whole_or_none : {V : Type 0} (items : V → List ℕ) (result : Result V PeerStop) (replies header : List ℕ) (count : ℕ) (now : StreamView)
    → 4 ≤ length replies → header ≡ take 4 replies → Announces header count
    → MatchResult result (λ body. TakesFirst count (drop 4 replies) (items body) now) (λ stop. stop ≡ BadReply → length (drop 4 replies) < count)
    → MatchResult result (λ body. TakesReply replies (items body) now) (λ stop. stop ≡ BadReply → answer_at replies ≡ None)
whole_or_none items (Ok body) replies header count now enough first announces takes =
    whole_reply replies header (items body) count now enough first announces takes
whole_or_none items (Err stop) replies header count now enough first announces short =
    λ is. no_body replies header count enough first announces (short is)
