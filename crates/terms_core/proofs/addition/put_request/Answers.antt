use Rattle.std.proofs.Common.{◌++◌, ◌∙◌, ap, sym, subst, length, drop, List, ℕ, arith}
use Rattle.std.proofs.lemmas.List.{take_rest}
use Rattle.agent_msg.specs.Reading.{request_of}
use Rattle.terms_core.specs.Additions.{Refuses, repeat_in, with_terms}
use Rattle.terms_core.proofs.AdditionLemmas.{drop_length, refused_long, refused_short}
use Rattle.wire_text.specs.Wire.{string}
use Rattle.wire_text.proofs.WireLemmas.{length-string}
use Rattle.terms_core.proofs.addition.put_request.Goals as goal

pub slice_bounds-refuse_repeat-count : goal.slice_bounds-refuse_repeat-count
slice_bounds-refuse_repeat-count c =
    let frame = c.in-Ok.ensures.frame ∙ ap (λ (l : List ℕ). l ++ string (with_terms c.args.terms.now c.args.body.now)) c.requires.empty in
    omega (arith, ap length (c.live.ensures ∙ frame), length-string (with_terms c.args.terms.now c.args.body.now))

pub slice_bounds-refuse_repeat-start : goal.slice_bounds-refuse_repeat-start
slice_bounds-refuse_repeat-start c = slice_bounds-refuse_repeat-count c

pub returns-in-Err-clause-refused : goal.returns-in-Err-clause-refused
returns-in-Err-clause-refused c = refused_long c.in-Err.fault c.args.terms.now c.args.body.now c.in-Err.ensures.refused

pub returns-in-Ok-clause-refused : goal.returns-in-Ok-clause-refused
returns-in-Ok-clause-refused c =
    let becomes = with_terms c.args.terms.now c.args.body.now in
    let frame = c.in-Ok.ensures.frame ∙ ap (λ (l : List ℕ). l ++ string becomes) c.requires.empty in
    let read = take_rest c.live.result.now 4 ∙ ap (drop 4) (c.live.ensures ∙ frame) ∙ drop_length becomes in
    subst (Refuses c.refuse_repeat.result) (ap (λ (b : List ℕ). repeat_in (request_of b)) read ∙ sym (refused_short c.args.terms.now c.args.body.now c.in-Ok.ensures.refused))
    c.refuse_repeat.ensures
