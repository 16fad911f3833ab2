-- A record that is run line by line.
use Rattle.std.proofs.Common.{◌≡◌, ℕ, ◌+◌, ◌<◌, ◌≤◌, List, [], ◌++◌, length, take, drop, refl, ap, sym, subst, ◌∙◌, arith, Option, None, Some, true, false, is_some, length-take}
use Rattle.std.proofs.lemmas.Grind.{flat_map-append}
use Rattle.std.proofs.lemmas.List.{append-nil}
use Rattle.std.specs.List.{flat_map}
use Rattle.schedule_text.specs.declared.fault.LineFault.{LineFault}
use Rattle.audit_core.specs.Passes.{Notes, TurnsOn}
use Rattle.audit_core.specs.Puts.{puts_from, puts_in}
use Rattle.audit_core.specs.declared.put.Put.{Put}
use Rattle.replay_run.specs.Counts.{IsCounted}
use Rattle.replay_run.specs.GoesOn.{HasNoLf, IsLineEnd}
use Rattle.replay_run.specs.Replay.{Run, Turned, course, ending, last_turned, parts_of, printed, ran, then_turned, turned}
use Rattle.replay_run.specs.Told.{Told, text_of}
use Rattle.replay_run.proofs.RunCounts.{turned-next}
use Rattle.replay_run.proofs.RunLemmas.{course-last, course-line, course-refused, output-then}

-- ---- a line

none_of : (found : Option LineFault) → is_some found ≡ false → found ≡ None
none_of None is = refl
none_of (Some fault) is = absurd (cc)

module _ (run : Run) (left : List ℕ) (place : ℕ) (at : IsLineEnd left place) (new : Run)
    (run_is : new ≡ (turned (take place left) (place + 1) run).run) where
  abbrev line : List ℕ
  line = take place left

  abbrev rest : List ℕ
  rest = drop (place + 1) left

  abbrev says : List Told
  says = (turned line (place + 1) run).told

  size : length line + 1 ≡ place + 1
  size = omega (arith, at.within, length-take place left)

  counted_next : IsCounted run → new.refused ≡ None → IsCounted new
  counted_next counted accepted =
      subst IsCounted (sym run_is)
      (turned-next line (place + 1) run (omega arith) counted (sym (ap (λ (r : Run). r.refused) run_is) ∙ accepted)).counted

  goes : course true run (parts_of left) ≡ then_turned (record { run = new; told = says }) (course true new (parts_of rest))
  goes =
      ap (λ l. course true run (parts_of l)) (sym at.split)
      ∙ course-line true run line rest at.front
      ∙ ap (λ n. then_turned (turned line n run) (course true (turned line n run).run (parts_of rest))) size
      ∙ ap (λ r. then_turned (record { run = r; told = says }) (course true r (parts_of rest))) (sym run_is)

  -- what was noted of it
  module _ (N : Type 0) (notes_of : Told → List N) (before after : List N) (noted : after ≡ before ++ flat_map notes_of says) where
    -- one that isn't refused
    pub line_notes : IsCounted run → is_some new.refused ≡ false
        → Notes N notes_of (Some (place + 1)) run left new before after
    line_notes counted none = record {
      told = says;
      turns = record {
        some = omega arith;
        within = omega (arith, at.within);
        turned = goes;
        counted = counted_next counted (none_of new.refused none);
      };
      noted = noted;
    }

    -- one that is refused
    pub line_ends : (found : Option LineFault) → new.refused ≡ found → is_some found ≡ true
        → Notes N notes_of None run left new before after
    line_ends None is some = absurd (cc)
    line_ends (Some fault) is some = record {
      told = says;
      turns =
          goes
          ∙ ap (then_turned (record { run = new; told = says })) (course-refused true new fault (parts_of rest) is)
          ∙ ap (λ (all : List Told). record { run = new; told = all }) (append-nil says);
      noted = noted;
    }

-- what stands behind the last LF
pub last_notes : (N : Type 0) (notes_of : Told → List N) (run : Run) (part : List ℕ) (new : Run) (before after : List N)
    → HasNoLf part → new ≡ (last_turned part run).run → after ≡ before ++ flat_map notes_of (last_turned part run).told
    → Notes N notes_of None run part new before after
last_notes N notes_of run part new before after none run_is noted = record {
  told = (last_turned part run).told;
  turns = course-last true run part none ∙ ap (λ (r : Run). record { run = r; told = (last_turned part run).told }) (sym run_is);
  noted = noted;
}

-- ---- what is printed

pub printed-next : (run : Run) (left : List ℕ) (new : Run) (size : ℕ) (told : List Told)
    → TurnsOn run left new size told
    → printed true run (parts_of left) ≡ flat_map text_of told ++ printed true new (parts_of (drop size left))
unfolding printed
printed-next run left new size told turns =
    let later = course true new (parts_of (drop size left)) in
    ap (λ (t : Turned). flat_map text_of t.told ++ ending true t.run.refused) turns.turned
    ∙ output-then (record { run = new; told = told }) later (ending true later.run.refused)

pub printed-end : (run : Run) (left : List ℕ) (new : Run) (told : List Told) → course true run (parts_of left) ≡ record { run = new; told = told }
    → printed true run (parts_of left) ≡ flat_map text_of told ++ ending true new.refused
unfolding printed
printed-end run left new told is = ap (λ (t : Turned). flat_map text_of t.told ++ ending true t.run.refused) is

-- ---- what is put

-- a line of so many bytes was run, which put these requests, and the rest goes on from there
pub record NotesOn (run : Run) (left : List ℕ) (new : Run) (size : ℕ) (puts : List Put) : Type 0 where
  pub some : 0 < size
  pub within : size ≤ length left
  pub puts_are : puts_from run (parts_of left) ≡ puts ++ puts_from new (parts_of (drop size left))
  pub counted : IsCounted new

pub notes_on : (run : Run) (left : List ℕ) (new : Run) (size : ℕ) (before puts : List Put)
    → Notes Put puts_in (Some size) run left new before puts
    → before ≡ [] → NotesOn run left new size puts
unfolding puts_from
notes_on run left new size before puts notes nothing = record {
  some = notes.turns.some;
  within = notes.turns.within;
  puts_are =
      ap (λ (t : Turned). flat_map puts_in t.told) notes.turns.turned
      ∙ flat_map-append puts_in notes.told (course true new (parts_of (drop size left))).told
      ∙ ap (λ b. (b ++ flat_map puts_in notes.told) ++ flat_map puts_in (course true new (parts_of (drop size left))).told) (sym nothing)
      ∙ ap (λ p. p ++ flat_map puts_in (course true new (parts_of (drop size left))).told) (sym notes.noted);
  counted = notes.turns.counted;
}

-- or it was the last one
pub notes_end : (run : Run) (left : List ℕ) (new : Run) (before puts : List Put)
    → Notes Put puts_in None run left new before puts
    → before ≡ [] → puts_from run (parts_of left) ≡ puts
unfolding puts_from
notes_end run left new before puts notes nothing =
    ap (λ (t : Turned). flat_map puts_in t.told) notes.turns
    ∙ ap (λ b. b ++ flat_map puts_in notes.told) (sym nothing)
    ∙ sym notes.noted
