-- Where things stand that may be ready: in the list, set aside, or in neither (ours). Those at ports by marks, one for
-- each port.
use Rattle.std.specs.Prelude.{◌≡◌, ℕ, ◌<◌, ◌≤◌, Bool, true, false, List, [], ◌∷◌, ◌==◌, length, nat_lt, slice_index_or, slice_set, if◌then◌else◌}
use Rattle.std.specs.List.{insert, remove}
use Rattle.lists.specs.Rising.{is_among}
use Rattle.world_ports.specs.declared.events.Door.{Door}
use Rattle.loop_model.specs.Aside.{Aside, put_aside, taken_back, things_aside}
use Rattle.loop_model.specs.Lines.{empty_line}
use Rattle.loop_model.specs.Things.{set_of}
use Rattle.loop_model.specs.declared.thing.Thing.{Thing}
use Rattle.loop_model.specs.declared.thing.Thing.TheVariants.{Read, Write}
use Rattle.ready_loop.specs.Standing.{IsOnce}
use Rattle.ready_loop.specs.declared.marks.Mark.{Mark}
use Rattle.ready_loop.specs.declared.marks.Standing.{Standing}
use Rattle.ready_loop.specs.declared.marks.Standing.TheVariants as at

-- it is in the list
abbrev pub is_listed : Standing → Bool
is_listed at.Neither = false
is_listed at.Listed = true
is_listed at.Aside = false

-- it is set aside
abbrev pub is_aside : Standing → Bool
is_aside at.Neither = false
is_aside at.Listed = false
is_aside at.Aside = true

-- ---- marks

-- the mark of a port that has none
abbrev pub no_mark : ℕ → Mark
no_mark port = record { port = port; read = at.Neither; write = at.Neither }

-- the ports whose marks pass the test
abbrev pub ports_at : (Mark → Bool) → List Mark → List ℕ
ports_at test [] = []
ports_at test (mark ∷ marks) = if test mark then mark.port ∷ ports_at test marks else ports_at test marks

-- the ports that have a mark
abbrev pub ports_of : List Mark → List ℕ
ports_of marks = ports_at (λ mark. true) marks

-- the port's mark
abbrev pub mark_of : ℕ → List Mark → Mark
mark_of port [] = no_mark port
mark_of port (mark ∷ marks) = if port == mark.port then mark else mark_of port marks

-- with this mark in its port's place
abbrev pub marked : Mark → List Mark → List Mark
marked mark [] = mark ∷ []
marked mark (other ∷ marks) =
    if mark.port == other.port then mark ∷ marks
    else (if nat_lt mark.port other.port then mark ∷ other ∷ marks else other ∷ marked mark marks)

-- with this mark in its port's place, where the port has one
abbrev pub changed : Mark → List Mark → List Mark
changed mark marks = if is_among mark.port (ports_of marks) then marked mark marks else marks

-- the mark with what is to be read, or written, standing there
abbrev pub with_read : Standing → Mark → Mark
with_read standing mark = record mark { read = standing }

-- the mark with what is to be written standing there
abbrev pub with_write : Standing → Mark → Mark
with_write standing mark = record mark { write = standing }

-- without this port's mark
abbrev pub unmarked : ℕ → List Mark → List Mark
unmarked port [] = []
unmarked port (mark ∷ marks) = if port == mark.port then marks else mark ∷ unmarked port marks

-- a mark of this port stands there
pub record HasPort (port : ℕ) (marks : List Mark) (place : ℕ) : Type 0 where
  pub within : place < length marks
  pub is : (other : Mark) → (slice_index_or marks place other).port ≡ port

-- the port's mark stands there
pub record IsPlace (port : ℕ) (marks : List Mark) (place : ℕ) : Type 0 where
  pub within : place < length marks
  pub there : is_among port (ports_of marks) ≡ true
  pub is : (other : Mark) → slice_index_or marks place other ≡ mark_of port marks
  pub put : (mark : Mark) → mark.port ≡ port → marked mark marks ≡ slice_set marks place mark
  pub taken : unmarked port marks ≡ remove marks place

-- the port has no mark, and one would go to this place
pub record IsGap (port : ℕ) (marks : List Mark) (place : ℕ) : Type 0 where
  pub within : place ≤ length marks
  pub absent : is_among port (ports_of marks) ≡ false
  pub none : mark_of port marks ≡ no_mark port
  pub put : (mark : Mark) → mark.port ≡ port → marked mark marks ≡ insert marks place mark
  pub taken : unmarked port marks ≡ marks

-- ---- things

-- the things that stand in the list, and those that are set aside
pub record Standings : Type 0 where
  pub listed : Aside
  pub aside : Aside

-- nothing stands anywhere
abbrev pub none_standing : Standings
none_standing = record { listed = empty_line.aside; aside = empty_line.aside }

-- listeners that stand in the list, others that are set aside, and what the marks say
abbrev pub standings_of : List Door → List Door → List Mark → Standings
standings_of listed aside marks = record {
  listed = record {
    doors = listed;
    reads = ports_at (λ mark. is_listed mark.read) marks;
    writes = ports_at (λ mark. is_listed mark.write) marks;
  };
  aside = record {
    doors = aside;
    reads = ports_at (λ mark. is_aside mark.read) marks;
    writes = ports_at (λ mark. is_aside mark.write) marks;
  };
}

-- the thing stands there now
abbrev pub stood : Thing → Standing → Standings → Standings
stood thing at.Neither from =
    record { listed = taken_back thing from.listed; aside = taken_back thing from.aside }
stood thing at.Listed from =
    record { listed = put_aside thing from.listed; aside = taken_back thing from.aside }
stood thing at.Aside from =
    record { listed = taken_back thing from.listed; aside = put_aside thing from.aside }

-- nothing at this port is ready
abbrev pub forgotten : ℕ → Standings → Standings
forgotten port from = stood (Write port) at.Neither (stood (Read port) at.Neither from)

-- the queue holds what is said to stand there, nothing twice, and nothing that is set aside
pub record IsMarked (queue : List Thing) (standings : Standings) : Type 0 where
  pub once : IsOnce queue standings.aside
  pub listed : set_of (things_aside standings.listed) ≡ set_of queue
