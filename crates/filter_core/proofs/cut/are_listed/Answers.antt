use Rattle.std.proofs.Common.{◌≡◌, ◌∙◌, ◌+◌, ◌-◌, Bool, true, false, ◌&&◌, ap, arith, rules, sym}
use Rattle.filter_core.specs.Cuts.{are_listed_at}
use Rattle.filter_core.proofs.CutLemmas.{ended, listed_end, listed_next}
use Rattle.filter_core.proofs.cut.are_listed.Goals as goal

pub returns-then-not-next_is_listed : goal.returns-then-not-next_is_listed
returns-then-not-next_is_listed c =
    let others = c.args.count - (c.entries.counter + 1) in
    let step = listed_next (c.args.count - c.entries.counter) others c.args.listed.now c.entries.from (omega arith) in
    let fails : c.next_is_listed.result ≡ false = search rules in
    sym (c.entries.invariant.1 ∙ step ∙ c.next_is_listed.ensures (are_listed_at others c.args.listed.now)
    ∙ ap (λ (b : Bool). b && are_listed_at others c.args.listed.now c.next_is_listed.new.from) fails)

pub entries-preserved : goal.entries-preserved
entries-preserved c =
    let others = c.args.count - (c.entries.counter + 1) in
    let step = listed_next (c.args.count - c.entries.counter) others c.args.listed.now c.entries.from (omega arith) in
    let holds : c.next_is_listed.result ≡ true = search rules in (
      omega arith,
      c.entries.invariant.1 ∙ step ∙ c.next_is_listed.ensures (are_listed_at others c.args.listed.now)
          ∙ ap (λ (b : Bool). b && are_listed_at others c.args.listed.now c.next_is_listed.new.from) holds,
    )

pub returns : goal.returns
returns c =
    ended c.at_end.result c.entries.from c.at_end.ensures
    ∙ sym (c.entries.invariant.1 ∙ listed_end (c.args.count - c.entries.counter) c.args.listed.now c.entries.from (omega arith))
