-- The calls of a loop serve each thing in its turn.
use Rattle.std.proofs.Common.{◌≡◌, ◌∙◌, ℕ, List, [], ◌∷◌, ◌++◌, ap, append_assoc, refl, subst, sym, Option, Some, None, Bool, true, false, Result, Ok, Err, ◌&&◌, if◌then◌else◌, option_and_then, option_map}
use Rattle.std.specs.Option.{option_map_or}
use Rattle.std.specs.Str.{bytes_eq}
use Rattle.std.specs.List.{list_any}
use Rattle.world_ports.specs.declared.answers.WorldFault.{WorldFault}
use Rattle.world_ports.specs.declared.entry.Entry.{Entry}
use Rattle.world_ports.specs.declared.entry.Entry.TheVariants as entry
use Rattle.world_ports.specs.declared.events.Door.{Door}
use Rattle.world_ports.specs.declared.events.Door.TheVariants.{Clients, Children}
use Rattle.loop_model.specs.Fairness.{is_service, waits_on}
use Rattle.loop_model.specs.LegalJournal.{LoopState, after_entries, after_if_legal}
use Rattle.loop_model.specs.Lines.{IsQuiet}
use Rattle.loop_model.specs.Things.{same_door, same_thing}
use Rattle.loop_model.specs.declared.thing.Thing.{Thing}
use Rattle.loop_model.proofs.FairnessLemmas.{served_between}
use Rattle.loop_model.proofs.JobLemmas.{started-first}
use Rattle.loop_model.proofs.QuietLemmas.{quiet_taken}
use Rattle.ready_loop.specs.Serving.{Setting, Stage, Unbound, Running, Refused, after_bind, begun, bound, gone_on, may_come, ran}
use Rattle.ready_loop.proofs.ServingLemmas.{ran-append}
use Rattle.agent_top.specs.ServeFair.{IsFair, ServesEach, ServesFairly, StartsFirst}

-- ---- one part after another

-- what comes of two steps comes of the second after the first
pub then_some : {A B : Type 0} (f : A → Option B) (found : Option A) (to : B)
    → option_and_then f found ≡ Some to
    → (mid : A) × (found ≡ Some mid) × (f mid ≡ Some to)
then_some f None to is = cc
then_some f (Some mid) to is = (mid, refl, is)

ran-split : (setting : Setting) (from to : Stage) (first later : List Entry)
    → ran setting from (first ++ later) ≡ Some to
    → (mid : Stage) × (ran setting from first ≡ Some mid) × (ran setting mid later ≡ Some to)
ran-split setting from to first later legal =
    then_some (λ (after : Stage). ran setting after later) (ran setting from first) to
    (sym (ran-append setting from first later) ∙ legal)

-- ---- turns

mapped : (found : Option LoopState) (to : Stage) → option_map Running found ≡ Some to
    → (after : LoopState) × (found ≡ Some after) × (Running after ≡ to)
mapped None to is = cc
mapped (Some after) to is = let same : Running after ≡ to = cc in (after, refl, same)

turns_by : (may : Bool) (from : LoopState) (next : Entry) (to : Stage)
    → (if may then option_map Running (after_if_legal from next) else None) ≡ Some to
    → (after : LoopState) × (after_if_legal from next ≡ Some after) × (Running after ≡ to)
turns_by true from next to is = mapped (after_if_legal from next) to is
turns_by false from next to is = cc

-- a call of a loop that runs is one that comes in turn
pub turns : (setting : Setting) (from : LoopState) (next : Entry) (to : Stage)
    → gone_on setting (Running from) next ≡ Some to
    → (after : LoopState) × (after_if_legal from next ≡ Some after) × (Running after ≡ to)
turns setting from next to is = turns_by (may_come setting.until_idle from next) from next to is

-- and so are all of them
after_entries-all : (setting : Setting) (from : LoopState) (entries : List Entry) (to : Stage)
    → ran setting (Running from) entries ≡ Some to → (after : LoopState) × (after_entries from entries ≡ Some after)
after_entries-all setting from [] to legal = (from, refl)
after_entries-all setting from (next ∷ later) to legal =
    let step = then_some (λ (after : Stage). ran setting after later) (gone_on setting (Running from) next) to legal in
    let one = turns setting from next step.0 step.1 in
    let rest = after_entries-all setting one.0 later to
    (ap (λ (stage : Stage). ran setting stage later) one.2 ∙ step.2) in
    (rest.0, ap (option_and_then (λ (after : LoopState). after_entries after later)) one.1 ∙ rest.1)

-- ---- a service comes of a loop that runs

unbound : (path : List ℕ) (stage to : Stage) (thing : Thing) (next : Entry)
    → is_service thing next ≡ true
    → bound path stage next ≡ Some to → ⊥
unbound path stage to thing (entry.Bind Clients at answer) service is = cc
unbound path stage to thing (entry.Bind Children at answer) service is = cc
unbound path stage to thing (entry.Poll wait items answer) service is = cc
unbound path stage to thing (entry.Accept other answer) service is = cc
unbound path stage to thing (entry.Read port room bytes answer) service is = cc
unbound path stage to thing (entry.Write port offered answer) service is = cc
unbound path stage to thing (entry.Close port answer) service is = cc
unbound path stage to thing (entry.Start job answer) service is = cc
unbound path stage to thing (entry.Now answer) service is = cc

serving-runs : (setting : Setting) (stage to : Stage) (thing : Thing) (next : Entry)
    → is_service thing next ≡ true
    → gone_on setting stage next ≡ Some to → (from : LoopState) × (stage ≡ Running from)
serving-runs setting Unbound to thing next service is =
    absurd (unbound setting.path (begun setting) to thing next service is)
serving-runs setting (Running from) to thing next service is = (from, refl)
serving-runs setting Refused to thing next service is = cc

-- ---- nothing that is set aside can be served

abbrev IsStill : Stage → Type 0
IsStill Unbound = Unit {0}
IsStill (Running reading) = IsQuiet reading.state reading.line
IsStill Refused = Unit {0}

still_if : (test : Bool) (answer : Result Unit WorldFault) (stage to : Stage) → IsStill stage
    → (if test then Some (after_bind answer stage) else None) ≡ Some to → IsStill to
still_if true (Ok unit) stage to still is = let same : stage ≡ to = cc in subst IsStill same still
still_if true (Err fault) stage to still is = let same : Refused ≡ to = cc in subst IsStill same tt
still_if false answer stage to still is = cc

still_bound : (path : List ℕ) (stage to : Stage) (next : Entry) → IsStill stage
    → bound path stage next ≡ Some to → IsStill to
still_bound path stage to (entry.Bind Clients at answer) still is = still_if (bytes_eq at path) answer stage to still is
still_bound path stage to (entry.Bind Children at answer) still is = cc
still_bound path stage to (entry.Poll wait items answer) still is = cc
still_bound path stage to (entry.Accept other answer) still is = cc
still_bound path stage to (entry.Read port room bytes answer) still is = cc
still_bound path stage to (entry.Write port offered answer) still is = cc
still_bound path stage to (entry.Close port answer) still is = cc
still_bound path stage to (entry.Start job answer) still is = cc
still_bound path stage to (entry.Now answer) still is = cc

still_on : (setting : Setting) (stage to : Stage) (next : Entry) → IsStill stage
    → gone_on setting stage next ≡ Some to
    → IsStill to
still_on setting Unbound to next still is = still_bound setting.path (begun setting) to next (λ thing there. cc) is
still_on setting (Running from) to next still is =
    let one = turns setting from next to is in
    subst IsStill one.2 (quiet_taken from one.0 next one.1 still)
still_on setting Refused to next still is = cc

still-all : (setting : Setting) (stage to : Stage) (entries : List Entry) → IsStill stage
    → ran setting stage entries ≡ Some to → IsStill to
still-all setting stage to [] still legal = let same : stage ≡ to = cc in subst IsStill same still
still-all setting stage to (next ∷ later) still legal =
    let step = then_some (λ (after : Stage). ran setting after later) (gone_on setting stage next) to legal in
    still-all setting step.0 to later (still_on setting stage step.0 next still step.1) step.2

-- ---- two services

-- the first of them leads there
leads_there : (setting : Setting) (from reading : LoopState) (first : Entry)
    → ran setting (Running from) (first ∷ []) ≡ Some (Running reading) → after_if_legal from first ≡ Some reading
leads_there setting from reading first legal =
    let step = then_some (λ (after : Stage). ran setting after []) (gone_on setting (Running from) first) (Running reading) legal in
    let one = turns setting from first step.0 step.1 in
    let same : Running one.0 ≡ Running reading = one.2 ∙ (let here : step.0 ≡ Running reading = cc in here) in
    let is : one.0 ≡ reading = cc in
    one.1 ∙ ap Some is

fair_by : (setting : Setting) (from reading : LoopState) (to : Stage) (thing other : Thing) (between after : List Entry)
    (first last : Entry) → IsQuiet from.state from.line
    → ran setting (Running from) (first ∷ (between ++ last ∷ after)) ≡ Some to
    → ran setting (Running from) (first ∷ []) ≡ Some (Running reading)
    → is_service thing first ≡ true → is_service thing last ≡ true → same_thing thing other ≡ false
    → waits_on other reading between ≡ true → list_any (is_service other) between ≡ true
fair_by setting from reading to thing other between after first last quiet legal reached service again apart waits =
    let more : (first ∷ (between ++ last ∷ [])) ++ after ≡ first ∷ (between ++ last ∷ after) =
    ap (λ (es : List Entry). first ∷ es) (append_assoc between (last ∷ []) after) in
    let up_to = ran-split setting (Running from) to (first ∷ (between ++ last ∷ [])) after
    (ap (ran setting (Running from)) more ∙ legal) in
    let front = after_entries-all setting from (first ∷ (between ++ last ∷ [])) up_to.0 up_to.1 in
    served_between from front.0 thing other first last between quiet front.1 service again apart
    (ap (λ (found : Option LoopState). option_map_or (λ (t : LoopState). waits_on other t between) found true) (leads_there setting from reading first reached) ∙ waits)

serves-each : (setting : Setting) (calls : List Entry) (to : Stage) → ran setting Unbound calls ≡ Some to
    → ServesEach setting calls
serves-each setting calls to legal = λ thing other before between after first last reading split once again apart reached waits.
    let whole = ap (ran setting Unbound) (sym split) ∙ legal in
    let start = ran-split setting Unbound to before (first ∷ (between ++ last ∷ after)) whole in
    let next = then_some (λ (stage : Stage). ran setting stage (between ++ last ∷ after)) (gone_on setting start.0 first) to start.2 in
    let runs = serving-runs setting start.0 next.0 thing first once next.1 in
    let still = subst IsStill runs.1 (still-all setting Unbound start.0 before tt start.1) in
    let there = ran-split setting Unbound (Running reading) before (first ∷ []) reached in
    let same : there.0 ≡ start.0 = (let both : Some there.0 ≡ Some start.0 = sym there.1 ∙ start.1 in cc) in
    fair_by setting runs.0 reading to thing other between after first last still
    (ap (λ (stage : Stage). ran setting stage (first ∷ (between ++ last ∷ after))) (sym runs.1) ∙ start.2)
    (ap (λ (stage : Stage). ran setting stage (first ∷ [])) (sym (same ∙ runs.1)) ∙ there.2)
    once again apart waits

-- ---- a job that waits

starts-first : (setting : Setting) (calls : List Entry) (to : Stage) → ran setting Unbound calls ≡ Some to
    → StartsFirst setting calls
starts-first setting calls to legal = λ before after next reading split reached free some.
    let whole = ap (ran setting Unbound) (sym split) ∙ legal in
    let start = ran-split setting Unbound to before (next ∷ after) whole in
    let same : start.0 ≡ Running reading = (let both : Some start.0 ≡ Some (Running reading) = sym start.1 ∙ reached in cc) in
    let there = subst (λ (stage : Stage). ran setting stage (next ∷ after) ≡ Some to) same start.2 in
    let step = then_some (λ (stage : Stage). ran setting stage after) (gone_on setting (Running reading) next) to there in
    let one = turns setting reading next step.0 step.1 in
    started-first reading one.0 next free some one.1

pub serves_fairly : (setting : Setting) (old new : Option (List Entry))
    → ServesFairly setting old new
serves_fairly setting old new = λ calls to told legal. record {
  each = serves-each setting calls to legal;
  jobs = starts-first setting calls to legal;
}
