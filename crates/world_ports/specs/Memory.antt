-- Sources and sinks in memory (ours): what they hold, and which of their calls fail.
use Rattle.std.specs.Prelude.{Bool, ℕ, zero, suc, List, Some, min, length, Contains, Result, Ok, Err}
use Rattle.world_ports.specs.Causes.{next_count, count_after}
use Rattle.world_ports.specs.declared.answers.WorldFault.{WorldFault}
use Rattle.world_ports.specs.declared.answers.WorldFault.TheVariants.{Failed, Memory}
use Rattle.world_ports.specs.declared.stream.Pulled.{Pulled}
use Rattle.world_ports.specs.declared.stream.Pulled.TheVariants.{Bytes, End}
use Rattle.world_ports.specs.Streams.{StreamView, reading_view, writing_view}

-- the calls of one object: the numbers, from 1, of those to fail; how many were made and failed
pub record CallState : Type 0 where
  pub failing : List ℕ
  pub made : ℕ
  pub failed : ℕ

-- the number of the next call is one of those that are to fail
abbrev pub IsNextListed : CallState → Type 0
IsNextListed calls = Contains calls.failing (next_count calls.made)

-- one more call was made, and failed or did not
abbrev pub after_call : Bool → CallState → CallState
after_call failed calls = record calls {
  made = next_count calls.made;
  failed = count_after failed calls.failed;
}

-- a source: what was read, what is left, the most that a read gives, and its calls
pub record SourceState : Type 0 where
  pub taken : List ℕ
  pub left : List ℕ
  pub cut : ℕ
  pub calls : CallState

-- what it tells
abbrev pub source_view : SourceState → StreamView
source_view source = record (reading_view (Some source.left) source.calls.failed) { taken = Some source.taken }

-- how many bytes the next read into a room of this length gives, where it does not fail
abbrev pub read_len : ℕ → SourceState → ℕ
read_len room source = min source.cut (min room (length source.left))

-- so many bytes, or the end where there are none
abbrev pub pulled_of : ℕ → Pulled
pulled_of zero = End
pulled_of (suc n) = Bytes (suc n)

-- a sink: what was written, the room that is left, the most that a write takes, its calls
pub record SinkState : Type 0 where
  pub written : List ℕ
  pub room : ℕ
  pub cut : ℕ
  pub calls : CallState

-- what it tells
abbrev pub sink_view : SinkState → StreamView
sink_view sink = writing_view (Some sink.written) sink.calls.failed

-- a call on a world failed exactly where it is listed, unless memory ran out
abbrev pub FailsAsListed : {T : Type 0} → CallState → Result T WorldFault → Type 0
FailsAsListed calls (Ok _) = ¬ (IsNextListed calls)
FailsAsListed calls (Err Failed) = IsNextListed calls
FailsAsListed calls (Err Memory) = Unit {0}
