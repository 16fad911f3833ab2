use Rattle.std.proofs.Common.{◌≡◌, ℕ, [], ◌∷◌, OnErr, OnOk, Result, Ok, Err, subst, sym}
use Rattle.helper_link.specs.HelperLink.{ArePutBy, HelperLink, submitted, verify_request}
use Rattle.helper_link.specs.declared.ask.AskKind.TheVariants as AskKind
use Rattle.helper_link.specs.declared.fault.AskFault.{AskFault}
use Rattle.helper_link.proofs.SecondLemmas.{put_by_submitted}
use Rattle.bench_tool.proofs.link.put.Goals as goal

-- a call that puts an ask, or leaves the link as it was
left : (result : Result ℕ AskFault) (old new next : HelperLink) → OnOk result (new ≡ next) → OnErr result (new ≡ old) → ArePutBy 0 old.asks → ArePutBy 0 next.asks → ArePutBy 0 new.asks
left (Ok number) old new next put kept was is = subst (λ (l : HelperLink). ArePutBy 0 l.asks) (sym put) is
left (Err fault) old new next put kept was is = subst (λ (l : HelperLink). ArePutBy 0 l.asks) (sym kept) was

pub returns-clause-later : goal.returns-clause-later
returns-clause-later c =
    left c.ask_verify.result c.args.link.now c.ask_verify.new.self (submitted AskKind.Verifying 1 (1 ∷ []) (verify_request (1 ∷ []) (2 ∷ []) (3 ∷ [])) 0 c.args.link.now) c.ask_verify.ensures.ok c.ask_verify.ensures.unchanged c.requires.later (put_by_submitted AskKind.Verifying 1 (1 ∷ []) (verify_request (1 ∷ []) (2 ∷ []) (3 ∷ [])) 0 c.args.link.now c.requires.later)
