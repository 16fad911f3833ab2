-- Numbers of asks rise, whatever is called in between.
use Rattle.std.proofs.Common.{List, [], ◌∷◌, arith}
use Rattle.helper_link.specs.Calls.{Call, after_call, Begin, Come, Submit, Send, Tell, Lose, RiseFrom, numbers_of}
use Rattle.helper_link.specs.HelperLink.{HelperLink}

-- each number that is given is above the last
pub numbers_rise : (calls : List Call) (link : HelperLink) →
    RiseFrom link.last (numbers_of calls link)
numbers_rise [] link = tt
numbers_rise (Begin job ∷ calls) link = numbers_rise calls (after_call (Begin job) link)
numbers_rise (Come port ∷ calls) link = numbers_rise calls (after_call (Come port) link)
numbers_rise (Submit kind asker blob request now ∷ calls) link =
    (omega arith, numbers_rise calls (after_call (Submit kind asker blob request now) link))
numbers_rise (Send count ∷ calls) link = numbers_rise calls (after_call (Send count) link)
numbers_rise (Tell piece ∷ calls) link = numbers_rise calls (after_call (Tell piece) link)
numbers_rise (Lose ∷ calls) link = numbers_rise calls (after_call (Lose) link)
