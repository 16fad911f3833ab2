-- Where things stand by the marks, once one is put, changed or taken.
use Rattle.std.proofs.Common.{◌≡◌, ◌∙◌, ℕ, Bool, true, false, List, refl, sym, ap, ◌||◌, if◌then◌else◌, map}
use Rattle.world_ports.specs.declared.events.Door.{Door}
use Rattle.lists.specs.Rising.{IsRisingList, is_among}
use Rattle.loop_model.specs.Aside.{things_aside}
use Rattle.loop_model.specs.Things.{set_of}
use Rattle.loop_model.specs.declared.thing.Thing.{Thing}
use Rattle.loop_model.specs.declared.thing.Thing.TheVariants.{Accept, Read, Write}
use Rattle.loop_model.proofs.AsideLemmas.{aside-accept, aside-read, aside-write}
use Rattle.ready_loop.specs.Marks.{Standings, changed, forgotten, is_aside, is_listed, mark_of, marked, no_mark, ports_at, ports_of, standings_of, stood, unmarked, with_read, with_write}
use Rattle.ready_loop.specs.declared.marks.Mark.{Mark}
use Rattle.ready_loop.specs.declared.marks.Standing.{Standing}
use Rattle.ready_loop.specs.declared.marks.Standing.TheVariants as at
use Rattle.ready_loop.proofs.MarkLemmas.{absent-mark, among-at, at-marked, at-marked_same, at-unmarked, mark_of-port, put_if}

-- the parts of a mark, by what they tell
abbrev pub reads_listed : Mark → Bool
reads_listed mark = is_listed mark.read

abbrev pub writes_listed : Mark → Bool
writes_listed mark = is_listed mark.write

abbrev pub reads_aside : Mark → Bool
reads_aside mark = is_aside mark.read

abbrev pub writes_aside : Mark → Bool
writes_aside mark = is_aside mark.write

-- what is asked of standings
abbrev pub is_ready : Standings → Thing → Bool
is_ready view thing =
    set_of (things_aside view.listed) thing || set_of (things_aside view.aside) thing

abbrev pub is_set_aside : Standings → Thing → Bool
is_set_aside view thing = set_of (things_aside view.aside) thing

-- it is told of a thing that is told, in standings that are told
pub told : (test : Standings → Thing → Bool) (there : Bool) (from view : Standings) (thing found : Thing)
    → from ≡ view
    → thing ≡ found → there ≡ test from found → there ≡ test view thing
told test there from view thing found seen here is =
    is ∙ ap (λ (s : Standings). test s found) seen ∙ ap (test view) (sym here)

module _ (listed aside : List Door) where
  -- standings by their lists
  abbrev lists : (rl wl ra wa : List ℕ) → Standings
  lists rl wl ra wa = record {
    listed = record { doors = listed; reads = rl; writes = wl };
    aside = record { doors = aside; reads = ra; writes = wa };
  }

  lists-same : (rl wl ra wa rl' wl' ra' wa' : List ℕ) → rl ≡ rl' → wl ≡ wl' → ra ≡ ra' → wa ≡ wa'
      → lists rl wl ra wa ≡ lists rl' wl' ra' wa'
  lists-same rl wl ra wa rl' wl' ra' wa' first second third fourth = cc

  -- ---- what a mark tells

  pub listed-read : (port : ℕ) (marks : List Mark) → IsRisingList (ports_of marks)
      → set_of (things_aside (standings_of listed aside marks).listed) (Read port) ≡ is_listed (mark_of port marks).read
  listed-read port marks rise =
      aside-read (standings_of listed aside marks).listed port ∙ among-at reads_listed port marks rise refl

  pub listed-write : (port : ℕ) (marks : List Mark) → IsRisingList (ports_of marks)
      → set_of (things_aside (standings_of listed aside marks).listed) (Write port) ≡ is_listed (mark_of port marks).write
  listed-write port marks rise =
      aside-write (standings_of listed aside marks).listed port ∙ among-at writes_listed port marks rise refl

  pub aside-read_mark : (port : ℕ) (marks : List Mark) → IsRisingList (ports_of marks)
      → set_of (things_aside (standings_of listed aside marks).aside) (Read port) ≡ is_aside (mark_of port marks).read
  aside-read_mark port marks rise =
      aside-read (standings_of listed aside marks).aside port ∙ among-at reads_aside port marks rise refl

  pub aside-write_mark : (port : ℕ) (marks : List Mark) → IsRisingList (ports_of marks)
      → set_of (things_aside (standings_of listed aside marks).aside) (Write port) ≡ is_aside (mark_of port marks).write
  aside-write_mark port marks rise =
      aside-write (standings_of listed aside marks).aside port ∙ among-at writes_aside port marks rise refl

  pub has-read : (port : ℕ) (marks : List Mark) → IsRisingList (ports_of marks)
      → (is_listed (mark_of port marks).read || is_aside (mark_of port marks).read)
      ≡ is_ready (standings_of listed aside marks) (Read port)
  has-read port marks rise =
      ap (λ (b : Bool). b || is_aside (mark_of port marks).read) (sym (listed-read port marks rise))
      ∙ ap (λ (b : Bool). set_of (things_aside (standings_of listed aside marks).listed) (Read port) || b)
      (sym (aside-read_mark port marks rise))

  pub has-write : (port : ℕ) (marks : List Mark) → IsRisingList (ports_of marks)
      → (is_listed (mark_of port marks).write || is_aside (mark_of port marks).write)
      ≡ is_ready (standings_of listed aside marks) (Write port)
  has-write port marks rise =
      ap (λ (b : Bool). b || is_aside (mark_of port marks).write) (sym (listed-write port marks rise))
      ∙ ap (λ (b : Bool). set_of (things_aside (standings_of listed aside marks).listed) (Write port) || b)
      (sym (aside-write_mark port marks rise))

  pub has-accept : (door : Door) (marks : List Mark)
      → (set_of (map Accept listed) (Accept door) || set_of (map Accept aside) (Accept door))
      ≡ is_ready (standings_of listed aside marks) (Accept door)
  has-accept door marks =
      ap (λ (b : Bool). b || set_of (map Accept aside) (Accept door)) (sym (aside-accept (standings_of listed aside marks).listed door))
      ∙ ap (λ (b : Bool). set_of (things_aside (standings_of listed aside marks).listed) (Accept door) || b)
      (sym (aside-accept (standings_of listed aside marks).aside door))

  -- ---- a mark is put

  module _ (port : ℕ) (standing : Standing) (before : List Mark) (rise : IsRisingList (ports_of before)) where
    own : (mark_of port before).port ≡ port
    own = mark_of-port port before

    -- the ports at which a test passes that looks at what was put
    put_at : (test : Mark → Bool) (new : Mark) → new.port ≡ (mark_of port before).port
        → ports_at test (marked new before) ≡ put_if (test new) port (ports_at test before)
    put_at test new same =
        at-marked test new before rise ∙ ap (λ (p : ℕ). put_if (test new) p (ports_at test before)) (same ∙ own)

    -- those at which one passes that doesn't
    kept_at : (test : Mark → Bool) (new : Mark) → new.port ≡ (mark_of port before).port
        → test (no_mark new.port) ≡ false → test new ≡ test (mark_of port before)
        → ports_at test (marked new before) ≡ ports_at test before
    kept_at test new same none is =
        at-marked_same test new before rise none
        (is ∙ ap (λ (p : ℕ). test (mark_of p before)) (sym (same ∙ own)))

    stood_read : (marks : List Mark)
        → marks ≡ marked (with_read standing (mark_of port before)) before
        → standings_of listed aside marks ≡ stood (Read port) standing (standings_of listed aside before)
    stood_read marks put =
        let new = with_read standing (mark_of port before) in
        lists-same (ports_at reads_listed marks) (ports_at writes_listed marks) (ports_at reads_aside marks) (ports_at writes_aside marks)
        (put_if (is_listed standing) port (ports_at reads_listed before)) (ports_at writes_listed before)
        (put_if (is_aside standing) port (ports_at reads_aside before)) (ports_at writes_aside before)
        (ap (ports_at reads_listed) put ∙ put_at reads_listed new refl)
        (ap (ports_at writes_listed) put ∙ kept_at writes_listed new refl refl refl)
        (ap (ports_at reads_aside) put ∙ put_at reads_aside new refl)
        (ap (ports_at writes_aside) put ∙ kept_at writes_aside new refl refl refl)
        ∙ by_standing standing
      where
        by_standing : (s : Standing)
            → lists (put_if (is_listed s) port (ports_at reads_listed before)) (ports_at writes_listed before)
            (put_if (is_aside s) port (ports_at reads_aside before)) (ports_at writes_aside before)
            ≡ stood (Read port) s (standings_of listed aside before)
        by_standing at.Neither = refl
        by_standing at.Listed = refl
        by_standing at.Aside = refl

    stood_write : (marks : List Mark)
        → marks ≡ marked (with_write standing (mark_of port before)) before
        → standings_of listed aside marks ≡ stood (Write port) standing (standings_of listed aside before)
    stood_write marks put =
        let new = with_write standing (mark_of port before) in
        lists-same (ports_at reads_listed marks) (ports_at writes_listed marks) (ports_at reads_aside marks) (ports_at writes_aside marks)
        (ports_at reads_listed before) (put_if (is_listed standing) port (ports_at writes_listed before))
        (ports_at reads_aside before) (put_if (is_aside standing) port (ports_at writes_aside before))
        (ap (ports_at reads_listed) put ∙ kept_at reads_listed new refl refl refl)
        (ap (ports_at writes_listed) put ∙ put_at writes_listed new refl)
        (ap (ports_at reads_aside) put ∙ kept_at reads_aside new refl refl refl)
        (ap (ports_at writes_aside) put ∙ put_at writes_aside new refl)
        ∙ by_standing standing
      where
        by_standing : (s : Standing)
            → lists (ports_at reads_listed before) (put_if (is_listed s) port (ports_at writes_listed before))
            (ports_at reads_aside before) (put_if (is_aside s) port (ports_at writes_aside before))
            ≡ stood (Write port) s (standings_of listed aside before)
        by_standing at.Neither = refl
        by_standing at.Listed = refl
        by_standing at.Aside = refl

  -- ---- a mark is changed, where there is one

  -- a mark that says nothing of a port that has none tells the same
  said_nothing : (port : ℕ) (new : Mark) (before : List Mark) → IsRisingList (ports_of before)
      → is_among port (ports_of before) ≡ false → new ≡ no_mark port
      → standings_of listed aside before ≡ standings_of listed aside (marked new before)
  said_nothing port new before rise absent is =
      let none : mark_of port before ≡ no_mark port = absent-mark port before absent in
      let same : (test : Mark → Bool) → test (no_mark port) ≡ false → ports_at test (marked (no_mark port) before) ≡ ports_at test before =
      λ test fails. at-marked_same test (no_mark port) before rise fails (ap test (sym none)) in
      sym (ap (λ (m : Mark). standings_of listed aside (marked m before)) is
      ∙ lists-same _ _ _ _ _ _ _ _ (same reads_listed refl) (same writes_listed refl) (same reads_aside refl) (same writes_aside refl))

  module _ (port : ℕ) (before : List Mark) (rise : IsRisingList (ports_of before)) where
    cleared_read : (marks : List Mark)
        → marks ≡ changed (with_read at.Neither (mark_of port before)) before
        → standings_of listed aside marks ≡ stood (Read port) at.Neither (standings_of listed aside before)
    cleared_read marks put =
        by_there (is_among port (ports_of before)) refl
        (put ∙ ap (λ (p : ℕ). if is_among p (ports_of before) then marked new before else before) (mark_of-port port before))
      where
        new : Mark
        new = with_read at.Neither (mark_of port before)

        by_there : (there : Bool) → is_among port (ports_of before) ≡ there
            → marks ≡ (if there then marked (with_read at.Neither (mark_of port before)) before else before)
            → standings_of listed aside marks ≡ stood (Read port) at.Neither (standings_of listed aside before)
        by_there true there put = stood_read port at.Neither before rise marks put
        by_there false there put =
            ap (standings_of listed aside) put
            ∙ said_nothing port (with_read at.Neither (mark_of port before)) before rise there
            (ap (with_read at.Neither) (absent-mark port before there))
            ∙ stood_read port at.Neither before rise (marked (with_read at.Neither (mark_of port before)) before) refl

    cleared_write : (marks : List Mark)
        → marks ≡ changed (with_write at.Neither (mark_of port before)) before
        → standings_of listed aside marks ≡ stood (Write port) at.Neither (standings_of listed aside before)
    cleared_write marks put =
        by_there (is_among port (ports_of before)) refl
        (put ∙ ap (λ (p : ℕ). if is_among p (ports_of before) then marked new before else before) (mark_of-port port before))
      where
        new : Mark
        new = with_write at.Neither (mark_of port before)

        by_there : (there : Bool) → is_among port (ports_of before) ≡ there
            → marks ≡ (if there then marked (with_write at.Neither (mark_of port before)) before else before)
            → standings_of listed aside marks ≡ stood (Write port) at.Neither (standings_of listed aside before)
        by_there true there put = stood_write port at.Neither before rise marks put
        by_there false there put =
            ap (standings_of listed aside) put
            ∙ said_nothing port (with_write at.Neither (mark_of port before)) before rise there
            (ap (with_write at.Neither) (absent-mark port before there))
            ∙ stood_write port at.Neither before rise (marked (with_write at.Neither (mark_of port before)) before) refl

  -- ---- a mark is taken

  pub stood-forgotten : (port : ℕ) (before marks : List Mark) → IsRisingList (ports_of before)
      → marks ≡ unmarked port before
      → standings_of listed aside marks ≡ forgotten port (standings_of listed aside before)
  stood-forgotten port before marks rise left =
      ap (standings_of listed aside) left
      ∙ lists-same _ _ _ _ _ _ _ _ (at-unmarked reads_listed port before rise) (at-unmarked writes_listed port before rise)
      (at-unmarked reads_aside port before rise) (at-unmarked writes_aside port before rise)

-- ---- of a thing that is told, in standings that are told

module _ (listed aside : List Door) (before marks : List Mark) (port : ℕ) (thing : Thing) (view : Standings)
    (rise : IsRisingList (ports_of before)) (seen : standings_of listed aside before ≡ view) where
  pub told-read : (standing : Standing) → thing ≡ Read port
      → marks ≡ marked (with_read standing (mark_of port before)) before
      → standings_of listed aside marks ≡ stood thing standing view
  told-read standing here put =
      stood_read listed aside port standing before rise marks put
      ∙ ap (stood (Read port) standing) seen ∙ ap (λ (t : Thing). stood t standing view) (sym here)

  pub told-write : (standing : Standing) → thing ≡ Write port
      → marks ≡ marked (with_write standing (mark_of port before)) before
      → standings_of listed aside marks ≡ stood thing standing view
  told-write standing here put =
      stood_write listed aside port standing before rise marks put
      ∙ ap (stood (Write port) standing) seen ∙ ap (λ (t : Thing). stood t standing view) (sym here)

  pub told-cleared_read : thing ≡ Read port
      → marks ≡ changed (with_read at.Neither (mark_of port before)) before
      → standings_of listed aside marks ≡ stood thing at.Neither view
  told-cleared_read here put =
      cleared_read listed aside port before rise marks put
      ∙ ap (stood (Read port) at.Neither) seen ∙ ap (λ (t : Thing). stood t at.Neither view) (sym here)

  pub told-cleared_write : thing ≡ Write port
      → marks ≡ changed (with_write at.Neither (mark_of port before)) before
      → standings_of listed aside marks ≡ stood thing at.Neither view
  told-cleared_write here put =
      cleared_write listed aside port before rise marks put
      ∙ ap (stood (Write port) at.Neither) seen ∙ ap (λ (t : Thing). stood t at.Neither view) (sym here)
