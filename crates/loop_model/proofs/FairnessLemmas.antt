-- What waits is overtaken by nothing that was served since.
use Rattle.std.proofs.Common.{◌≡◌, ◌∙◌, Bool, true, false, List, [], ◌∷◌, ◌++◌, Option, Some, None, refl, sym, ap, ◌||◌}
use Rattle.std.specs.Option.{option_map_or}
use Rattle.std.specs.Prelude.{option_and_then}
use Rattle.std.specs.List.{list_any}
use Rattle.world_ports.specs.declared.entry.Entry.{Entry}
use Rattle.loop_model.specs.LegalJournal.{LoopState, after_entries, after_entry, after_if, after_if_legal, closed_by, comes_next, events_brought}
use Rattle.loop_model.specs.Servable.{is_servable}
use Rattle.loop_model.specs.Things.{same_thing, set_of}
use Rattle.loop_model.specs.declared.thing.Thing.{Thing}
use Rattle.loop_model.specs.Aside.{things_aside}
use Rattle.loop_model.specs.Fairness.{is_service, is_waiting, waits_on}
use Rattle.loop_model.specs.Calls.{Move}
use Rattle.loop_model.specs.Lines.{IsQuiet, hot_of}
use Rattle.loop_model.proofs.AsideLemmas.{set_of-append}
use Rattle.loop_model.proofs.QuietLemmas.{quiet_taken}
use Rattle.loop_model.proofs.JournalLemmas.{in_turn, leads}
use Rattle.loop_model.proofs.TestLemmas.{and_both, or_first}
use Rattle.loop_model.proofs.ThingLemmas.{false_by}
use Rattle.loop_model.proofs.AheadLemmas.{ahead}
use Rattle.loop_model.proofs.AheadCallLemmas.{ahead_after, ahead_of_served, out_of_turn}

-- ---- between two services

-- what waits stands in the queue, since nothing that is set aside can be served
waiting_queued : (other : Thing) (reading : LoopState) → IsQuiet reading.state reading.line
    → is_waiting other reading ≡ true
    → (set_of reading.line.queue other ≡ true) × (is_servable reading.state other ≡ true)
waiting_queued other reading quiet waits =
    let both = and_both (hot_of reading.line other) (is_servable reading.state other) waits in
    let aside = set_of (things_aside reading.line.aside) other in
    let never : aside ≡ false = false_by aside
    (λ there. let still : is_servable reading.state other ≡ false = quiet other there in let able = both.1 in cc) in (
      or_first (set_of reading.line.queue other) aside never
          (sym (set_of-append reading.line.queue (things_aside reading.line.aside) other) ∙ both.0),
      both.1,
    )

waiting_at_once : (other : Thing) (reading : LoopState) (entries : List Entry)
    → waits_on other reading entries ≡ true
    → is_waiting other reading ≡ true
waiting_at_once other reading [] waits = waits
waiting_at_once other reading (next ∷ later) waits =
    (and_both (is_waiting other reading) (option_map_or (λ after. waits_on other after later) (after_if_legal reading next) true) waits).0

between_by : (served : Bool) (found : Option LoopState) (other thing : Thing) (reading to : LoopState) (next last : Entry)
    (later : List Entry) → is_service other next ≡ served → after_if_legal reading next ≡ found
    → option_and_then (λ after. after_entries after (later ++ last ∷ [])) found ≡ Some to → is_waiting other reading ≡ true
    → option_map_or (λ after. waits_on other after later) found true ≡ true → IsQuiet reading.state reading.line
    → ahead other thing reading.line.queue ≡ true
    → ((after : LoopState) → IsQuiet after.state after.line → ahead other thing after.line.queue ≡ true
    → after_entries after (later ++ last ∷ []) ≡ Some to → waits_on other after later ≡ true
    → list_any (is_service other) later ≡ true) → (served || list_any (is_service other) later) ≡ true
between_by true found other thing reading to next last later service is legal waits_now waits quiet first rest = refl
between_by false None other thing reading to next last later service is legal waits_now waits quiet first rest = cc
between_by false (Some after) other thing reading to next last later service is legal waits_now waits quiet first rest =
    let there = leads reading after next is in
    let still_quiet = quiet_taken reading after next is quiet in
    let has = waiting_queued other after still_quiet (waiting_at_once other after later waits) in
    let led_there = after_entry reading next in
    let able : is_servable led_there.state other ≡ true =
    ap (λ (t : LoopState). is_servable t.state other) there.left ∙ has.1 in
    let move : Move = record {
      state = reading.state;
      due = reading.due;
      left = led_there.state;
      closes = closed_by reading.state (events_brought reading.due next);
    } in
    let still = ahead_after move next other thing reading.line service able first in
    rest after still_quiet (ap (λ (t : LoopState). ahead other thing t.line.queue) (sym there.left) ∙ still) legal waits

never_last : (other thing : Thing) (reading to : LoopState) (last : Entry)
    → is_service thing last ≡ true
    → same_thing thing other ≡ false → IsQuiet reading.state reading.line
    → ahead other thing reading.line.queue ≡ true → is_waiting other reading ≡ true
    → after_entries reading (last ∷ []) ≡ Some to → ⊥
never_last other thing reading to last service apart quiet first waits legal =
    let has = waiting_queued other reading quiet waits in
    let out = out_of_turn reading.state last other thing reading.line.queue service has.1 apart first in
    let never : comes_next reading last ≡ false = false_by (comes_next reading last)
    (λ may. let turn = in_turn reading last may in let both : false ≡ true = sym out ∙ turn in cc) in
    let none : option_and_then (λ (after : LoopState). after_entries after []) (after_if false reading last) ≡ Some to =
    ap (λ (b : Bool). option_and_then (λ (after : LoopState). after_entries after []) (after_if b reading last)) (sym never)
    ∙ legal in
    cc

between : (other thing : Thing) (reading to : LoopState) (entries : List Entry) (last : Entry)
    → is_service thing last ≡ true → same_thing thing other ≡ false → IsQuiet reading.state reading.line
    → ahead other thing reading.line.queue ≡ true → after_entries reading (entries ++ last ∷ []) ≡ Some to
    → waits_on other reading entries ≡ true → list_any (is_service other) entries ≡ true
between other thing reading to [] last service apart quiet first legal waits =
    absurd (never_last other thing reading to last service apart quiet first waits legal)
between other thing reading to (next ∷ later) last service apart quiet first legal waits =
    let both = and_both (is_waiting other reading)
    (option_map_or (λ after. waits_on other after later) (after_if_legal reading next) true) waits in
    between_by (is_service other next)
    (after_if_legal reading next) other thing reading to next last later refl refl legal both.0 both.1 quiet first
    (λ after quiet_there ahead_there legal_there waits_there.
    between other thing after to later last service apart quiet_there ahead_there legal_there waits_there)

since_by : (found : Option LoopState) (from to : LoopState) (thing other : Thing) (first last : Entry)
    (entries : List Entry) → after_if_legal from first ≡ found → IsQuiet from.state from.line
    → option_and_then (λ after. after_entries after (entries ++ last ∷ [])) found ≡ Some to → is_service thing first ≡ true
    → is_service thing last ≡ true → same_thing thing other ≡ false
    → option_map_or (λ after. waits_on other after entries) found true ≡ true → list_any (is_service other) entries ≡ true
since_by None from to thing other first last entries is quiet legal service again apart waits = cc
since_by (Some after) from to thing other first last entries is quiet legal service again apart waits =
    let there = leads from after first is in
    let still_quiet = quiet_taken from after first is quiet in
    let has = waiting_queued other after still_quiet (waiting_at_once other after entries waits) in
    let led_there = after_entry from first in
    let queue_has : set_of led_there.line.queue other ≡ true =
    ap (λ (t : LoopState). set_of t.line.queue other) there.left ∙ has.0 in
    let move : Move = record {
      state = from.state;
      due = from.due;
      left = led_there.state;
      closes = closed_by from.state (events_brought from.due first);
    } in
    let behind = ahead_of_served move first other thing from.line service queue_has in
    between other thing after to entries last again apart still_quiet
    (ap (λ (t : LoopState). ahead other thing t.line.queue) (sym there.left) ∙ behind) legal waits

pub served_between : (from to : LoopState) (thing other : Thing) (first last : Entry) (entries : List Entry)
    → IsQuiet from.state from.line → after_entries from (first ∷ (entries ++ last ∷ [])) ≡ Some to
    → is_service thing first ≡ true → is_service thing last ≡ true → same_thing thing other ≡ false
    → option_map_or (λ after. waits_on other after entries) (after_if_legal from first) true ≡ true
    → list_any (is_service other) entries ≡ true
served_between from to thing other first last entries quiet legal service again apart waits =
    since_by (after_if_legal from first) from to thing other first last entries refl quiet legal service again apart waits
