-- What holds of every link (ours).
use Rattle.std.specs.Prelude.{◌≡◌, ℕ, ◌+◌, ◌<◌, ◌≤◌, List, [], length}
use Rattle.lists.specs.Keyed.{NeverFallBy, RiseBy}
use Rattle.wire_text.specs.Bounds.{longest_body, longest_to_child}
use Rattle.wire_text.specs.Frames.{More, front}
use Rattle.helper_link.specs.HelperLink.{HelperLink, asked_len, most_asked, most_asks, second_of}
use Rattle.helper_link.specs.Settling.{number_of}
use Rattle.helper_link.specs.declared.ask.Ask.{Ask}
use Rattle.helper_link.specs.declared.state.LinkState.{LinkState}
use Rattle.helper_link.specs.declared.state.LinkState.TheVariants as states

-- each number is above the one before it; the first is above `below`, and none is above `last`
abbrev pub RiseTo : ℕ → List Ask → ℕ → Type 0
RiseTo below asks last = RiseBy number_of below asks last

-- where no helper is there or being started, nothing is unanswered, to be sent or heard; before one
-- is there, nothing is heard
abbrev pub IsQuiet : LinkState → HelperLink → Type 0
IsQuiet states.None link = (link.asks ≡ []) × (link.owed ≡ []) × (link.heard ≡ [])
IsQuiet (states.Starting job) link = link.heard ≡ []
IsQuiet (states.Linked port) link = Unit {0}

-- what holds of every link
pub record IsSound (link : HelperLink) : Type 0 where
  -- there is no more than may be, as far as the link has come
  pub quiet : IsQuiet link.state link
  -- at most 256 asks are unanswered
  pub few : length link.asks ≤ most_asks
  -- their bodies have fewer bytes together than 8 MiB and the longest body
  pub light : asked_len link.asks < most_asked + longest_to_child
  -- their numbers rise from 1 at least to the last number at most
  pub order : RiseTo 0 link.asks link.last
  -- none was put before the one that stands before it
  pub seconds : NeverFallBy second_of 0 link.asks
  -- what was heard is less than a frame, and the front of one
  pub part : front longest_body link.heard ≡ More

-- a link of these parts
abbrev pub link_of : LinkState → List Ask → ℕ → List ℕ → List ℕ → ℕ → HelperLink
link_of state asks last owed heard faults = record {
  state = state;
  asks = asks;
  last = last;
  owed = owed;
  heard = heard;
  faults = faults;
}
