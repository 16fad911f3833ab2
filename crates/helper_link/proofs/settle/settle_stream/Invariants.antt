use Rattle.std.proofs.Common.{◌≡◌, ◌≤◌, ◌-◌, drop, length, vec_len}
use Rattle.helper_link.specs.HelperLink.{asked_len}
use Rattle.helper_link.specs.Settling.{onto, settling}
use Rattle.helper_link.proofs.settle.settle_stream.Given as goal

-- what is settled, and then what is settled of the rest of the stream, is what is settled of the stream
abbrev pub invariant-frames : goal.invariant-frames
invariant-frames l = record {
  within : l.at ≤ length l.stream;
  fewer : vec_len l.asks ≤ vec_len l.fn.asks;
  sum : l.asked ≡ asked_len l.asks.items;
  whole : onto l.settled.items (settling (drop l.at l.stream) l.asks.items) ≡ settling l.stream l.fn.asks.items;
}

abbrev pub decreases-frames : goal.decreases-frames
decreases-frames l = length l.stream - l.at
