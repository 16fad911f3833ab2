use Rattle.std.proofs.Common.{◌≡◌, List, ℕ, ap, sym, ◌∙◌, arith, ◌∷◌, ◌++◌, Ok}
use Rattle.std.proofs.lemmas.Bool.Decides.{nat_tests}
use Rattle.wire_text.specs.Wire.{string}
use Rattle.add_core.specs.Sendings.{removed_line}
use Rattle.add_core.proofs.SendingLemmas.{long_removal, short_removal}
use Rattle.add_core.proofs.sending.removal.Goals as goal

pub returns-then-len-clause-told : goal.returns-then-len-clause-told
returns-then-len-clause-told c = long_removal c.args.path.now c.in_ok-blob.blob.items _ c.in_ok-blob.ensures.exact (grind (arith, nat_tests, c.len.ensures))

pub returns-clause-told : goal.returns-clause-told
returns-clause-told c =
    let blob = c.in_ok-blob.blob.items in
    let frame : c.write_request.new.out.live ≡ string (18 ∷ string blob) =
    c.in_ok-write_request.ensures.ok ∙ ap (λ (l : List ℕ). l ++ string (18 ∷ string c.deref.result.now)) (ap (λ b. b.live) c.new-frame.ensures)
    ∙ ap (λ (l : List ℕ). string (18 ∷ string l)) c.deref.ensures.value in
    short_removal c.args.path.now blob _ c.in_ok-blob.ensures.exact (grind (arith, nat_tests, c.len.ensures))
    ∙ ap (λ (l : List ℕ). Ok (l, removed_line c.args.path.now)) (sym frame)
    ∙ ap (λ (l : List ℕ). Ok (c.write_request.new.out.live, l)) (sym c.in_ok-line.ensures)
