use Rattle.std.proofs.Common.{◌≡◌, ◌++◌, [], List, ℕ, Ok, refl, sym, ap, ◌∙◌, arith}
use Rattle.std.proofs.lemmas.Bool.Decides.{nat_tests}
use Rattle.wire_text.specs.Wire.{string}
use Rattle.agent_msg.specs.Writing.{addition_text}
use Rattle.constraint_rec.specs.Writing.{constraints_bytes}
use Rattle.constraint_rec.specs.declared.terms.Terms.{Terms}
use Rattle.add_core.proofs.SendingLemmas.{long_addition, short_addition}
use Rattle.add_core.proofs.sending.addition_frame.Goals as goal

pub returns-then-saturating_add-clause-told : goal.returns-then-saturating_add-clause-told
returns-then-saturating_add-clause-told c = λ not. (
  refl,
  long_addition c.args.key.private c.args.comment.now (constraints_bytes c.args.terms.now) []
      (grind (arith, nat_tests, c.len.ensures, c.saturating_add-fields.ensures, c.saturating_add.ensures, c.constraints_len.ensures.value)),
)

pub returns-clause-told : goal.returns-clause-told
returns-clause-told c =
    let private = c.args.key.private in
    let comment = c.args.comment.now in
    let lent : List ℕ = string (addition_text private comment (constraints_bytes c.replace.result)) in
    let frame : c.write_request.new.out.live ≡ string (addition_text private comment (constraints_bytes c.args.terms.now)) =
    c.in_ok-write_request.ensures.ok ∙ ap (λ (l : List ℕ). l ++ lent) (ap (λ b. b.live) c.new-frame.ensures)
    ∙ ap (λ (t : Terms). string (addition_text private comment (constraints_bytes t))) c.replace.ensures.value in
    short_addition private comment (constraints_bytes c.args.terms.now) []
    (grind (arith, nat_tests, c.len.ensures, c.saturating_add-fields.ensures, c.saturating_add.ensures, c.constraints_len.ensures.value))
    ∙ ap (λ (l : List ℕ). Ok (l, [])) (sym frame)

pub returns-clause-kept : goal.returns-clause-kept
returns-clause-kept c = c.given_back.ensures _ _ _ refl ∙ c.replace.ensures.value
