-- A record that is compared line by line.
use Rattle.std.proofs.Common.{◌≡◌, ℕ, List, [], ◌++◌, drop, refl, ap, sym, subst, ◌∙◌, arith, Option, None, Some, true, false}
use Rattle.std.proofs.lemmas.List.{append-nil}
use Rattle.schedule_text.specs.declared.fault.LineFault.{LineFault}
use Rattle.std.specs.List.{flat_map}
use Rattle.agent_model.specs.State.{Settings}
use Rattle.audit_core.specs.Passes.{Notes, difference, finding_by, finding_of, mismatch}
use Rattle.audit_core.specs.Reports.{first_difference, verdict_by, verdict_of}
use Rattle.audit_core.specs.Puts.{puts}
use Rattle.audit_core.proofs.MismatchLemmas.{first_by_bytes}
use Rattle.audit_core.specs.declared.comparison.Finding.{Finding}
use Rattle.audit_core.specs.declared.comparison.Matching.{Matching}
use Rattle.audit_core.specs.declared.put.Put.{Put}
use Rattle.replay_run.specs.Counts.{IsCounted}
use Rattle.replay_run.specs.Replay.{Run, Turned, ending, output_of, parts_of, printed, ran, run_of, start_run}
use Rattle.replay_run.specs.Told.{text_of}
use Rattle.audit_core.proofs.AdvanceLemmas.{printed-end, printed-next}

-- before the first line
pub counted_start : (settings : Settings) → IsCounted (start_run settings)
counted_start settings = record { accepted = refl; ports = omega arith; lines = omega arith; within = omega arith }

-- a line was compared
pub same_next : (run : Run) (left : List ℕ) (new : Run) (size : ℕ) (before text deeds : List ℕ) (old next : Matching) (all : Option ℕ)
    → Notes ℕ text_of (Some size) run left new before text → before ≡ []
    → ((more : List ℕ) → difference next more deeds ≡ difference old (text ++ more) deeds)
    → difference old (printed true run (parts_of left)) deeds ≡ all
    → difference next (printed true new (parts_of (drop size left))) deeds ≡ all
same_next run left new size before text deeds old next all notes empty same so_far =
    let later = printed true new (parts_of (drop size left)) in
    same later
    ∙ ap (λ t. difference old (t ++ later) deeds) (notes.noted ∙ ap (λ b. b ++ flat_map text_of notes.told) empty)
    ∙ sym (ap (λ t. difference old t deeds) (printed-next run left new size notes.told notes.turns))
    ∙ so_far

-- the last line was compared, and that the record ended
same_end : (run : Run) (left : List ℕ) (new : Run) (before mid text deeds : List ℕ) (old next : Matching) (all : Option ℕ)
    → Notes ℕ text_of None run left new before mid → before ≡ [] → text ≡ mid ++ ending true new.refused
    → ((more : List ℕ) → difference next more deeds ≡ difference old (text ++ more) deeds)
    → difference old (printed true run (parts_of left)) deeds ≡ all → difference next [] deeds ≡ all
same_end run left new before mid text deeds old next all notes empty text_is same so_far =
    same []
    ∙ ap (λ t. difference old t deeds)
    (append-nil text ∙ text_is
    ∙ ap (λ m. m ++ ending true new.refused) (notes.noted ∙ ap (λ b. b ++ flat_map text_of notes.told) empty)
    ∙ sym (printed-end run left new notes.told notes.turns))
    ∙ so_far

-- what was found is what the verdict says
finding_is : (refused : Option LineFault) (found : Option ℕ) (line : ℕ) (puts : List Put)
    → finding_by refused found line ≡ finding_of (verdict_by refused found line puts)
finding_is (Some fault) found line puts = refl
finding_is None (Some difference) line puts = refl
finding_is None None line puts = refl

pub found_is : (settings : Settings) (text deeds : List ℕ) (run : Run) (found : Option ℕ) (result : Finding)
    → result ≡ finding_by run.refused found run.line
    → found ≡ first_difference (output_of settings text) deeds → run ≡ run_of settings text
    → result ≡ finding_of (verdict_of settings text deeds)
found_is settings text deeds run found result is difference_is run_is =
    is
    ∙ ap (λ (r : Run). finding_by r.refused found r.line) run_is
    ∙ ap (λ d. finding_by (run_of settings text).refused d (run_of settings text).line) difference_is
    ∙ finding_is (run_of settings text).refused (first_difference (output_of settings text) deeds) (run_of settings text).line (puts settings text)

-- before the first line
pub same_start : (settings : Settings) (text deeds : List ℕ) (run : Run) (matching : Matching) → run ≡ start_run settings → matching ≡ record { at = 0; line = 1; differs = false } → difference matching (printed true run (parts_of text)) deeds ≡ first_difference (output_of settings text) deeds
same_start settings text deeds run matching run_is is =
    ap (λ (m : Matching). difference m (printed true run (parts_of text)) deeds) is
    ∙ ap (λ (r : Run). mismatch 1 (printed true r (parts_of text)) deeds) run_is
    ∙ first_by_bytes (output_of settings text) deeds

-- behind the last line
pub found_last : (settings : Settings) (all deeds left before mid text : List ℕ) (old next : Matching) (run new : Run) (turn : Option ℕ) (found : Option ℕ) (result : Finding)
    → turn ≡ None → Notes ℕ text_of turn run left new before mid → before ≡ [] → text ≡ mid ++ ending true new.refused
    → ((more : List ℕ) → difference next more deeds ≡ difference old (text ++ more) deeds)
    → difference old (printed true run (parts_of left)) deeds ≡ first_difference (output_of settings all) deeds
    → ran true run (parts_of left) ≡ run_of settings all
    → found ≡ difference next [] deeds → result ≡ finding_by new.refused found new.line → result ≡ finding_of (verdict_of settings all deeds)
found_last settings all deeds left before mid text old next run new turn found result none turns empty text_is same so_far run_is found_by is =
    let notes : Notes ℕ text_of None run left new before mid = subst (λ t. Notes ℕ text_of t run left new before mid) none turns in
    found_is settings all deeds new found result is
    (found_by ∙ same_end run left new before mid text deeds old next (first_difference (output_of settings all) deeds) notes empty text_is same so_far)
    (sym (ap (λ (t : Turned). t.run) notes.turns) ∙ run_is)
