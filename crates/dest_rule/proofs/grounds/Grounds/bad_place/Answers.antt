use Rattle.std.proofs.Common.{Bool, Option, Some, None, Bor, ◌+◌, drop, ◌≡◌, ◌<◌, false, true, sym, ap, ◌∙◌, subst, ℕ, List, arith, length}
use Rattle.std.specs.Prelude.{is_ok}
use Rattle.std.specs.Option.{option_map, option_copied}
use Rattle.dest_rule.specs.declared.host_key.HostKey.{HostKey}
use Rattle.dest_rule.specs.Chains.{Binding}
use Rattle.dest_rule.specs.Rules.{Grounds, is_good}
use Rattle.key_blob.specs.PublicKeys.{public_key_of}
use Rattle.dest_rule.specs.GroundsOf.{grounds_of}
use Rattle.dest_rule.proofs.PlaceLemmas.{bad_place_rest, bad_place_rest-all, bad_at, good_at, unread_is_not_good}
use Rattle.dest_rule.proofs.grounds.Grounds.bad_place.Goals as goal

pub bindings-init : goal.bindings-init
bindings-init c = record { read = tt; good = bad_place_rest-all (grounds_of c.args.self.now) c.args.bindings.now }

pub returns-in_default : goal.returns-in_default
returns-in_default c =
    let grounds = grounds_of c.args.self.now in
    let l = c.bindings in
    let binding = c.index-bindings-place.result in
    let unread = subst (λ (k : List ℕ). is_ok (public_key_of k) ≡ false) c.as_slice.ensures c.in_default.ensures in
    let within : l.place < length c.args.bindings.now = omega arith in
    sym (bad_at grounds c.args.bindings.now l.place _ binding within c.index-bindings-place.is (unread_is_not_good _ grounds _ binding unread))
    ∙ l.invariant.good

-- the previous host key, lent or not
lent_key : (lent : Option (Bor HostKey)) (held : Option HostKey) → option_copied lent ≡ held
    → option_map (λ (key : Bor HostKey). key.now.blob.now) lent
    ≡ option_map (λ (host : HostKey). host.blob.now) held
lent_key None held is = ap (option_map (λ (host : HostKey). host.blob.now)) is
lent_key (Some key) held is = ap (option_map (λ (host : HostKey). host.blob.now)) is

-- the same of what a binding is
told : (newest : Bool) (grounds : Grounds) (lent : Option (Bor HostKey)) (held : Option HostKey)
    (binding : Binding) (good answer : Bool) → option_copied lent ≡ held
    → good ≡ is_good newest grounds (option_map (λ (key : Bor HostKey). key.now.blob.now) lent) binding
    → good ≡ answer
    → is_good newest grounds (option_map (λ (host : HostKey). host.blob.now) held) binding ≡ answer
told newest grounds lent held binding good answer is judged said =
    ap (λ p. is_good newest grounds p binding) (sym (lent_key lent held is)) ∙ sym judged ∙ said

pub returns-then-not-is_good : goal.returns-then-not-is_good
returns-then-not-is_good c =
    let grounds = grounds_of c.args.self.now in
    let l = c.bindings in
    let binding = c.index-bindings-place.result in
    let within : l.place < length c.args.bindings.now = omega arith in
    let bad = told _ grounds c.as_ref.result l.previous binding c.is_good.result false c.as_ref.ensures.value c.is_good.ensures c.if-not-is_good.true in
    sym (bad_at grounds c.args.bindings.now l.place _ binding within c.index-bindings-place.is bad) ∙ l.invariant.good

pub bindings-preserved : goal.bindings-preserved
bindings-preserved c =
    let grounds = grounds_of c.args.self.now in
    let l = c.bindings in
    let binding = c.index-bindings-place.result in
    let within : l.place < length c.args.bindings.now = omega arith in
    let good = told _ grounds c.as_ref.result l.previous binding c.is_good.result true c.as_ref.ensures.value c.is_good.ensures c.if-not-is_good.false in
    let step = good_at grounds c.args.bindings.now l.place _ binding within c.index-bindings-place.is good in
    record {
      read = c.in-Some.ensures.0;
      good = ap (λ key. bad_place_rest grounds (l.place + 1) (Some key) (drop (l.place + 1) c.args.bindings.now)) (c.in-Some.ensures.1 ∙ c.as_slice.ensures)
          ∙ sym step ∙ l.invariant.good;
    }
