-- What a status says of a drill, by how the drill ended, that its run is lawful, and that the words of a drill are no others'.
use Rattle.std.proofs.Common.{◌≡◌, ◌≤◌, ℕ, List, [], ◌∷◌, ap, refl, Option, Some, None, Bool, true, false, if◌then◌else◌, nat_le, codes, option_and_then, option_map, arith}
use Rattle.std.proofs.lemmas.Bool.Decides.{nat_tests}
use Rattle.std.specs.Str.{bytes_eq}
use Rattle.std.proofs.lemmas.Slice.Eq.{bytes_eq-Decides}
use Rattle.world_ports.specs.Streams.{StreamView}
use Rattle.agent_model.specs.State.{Settings, no_settings}
use Rattle.replay_run.specs.Drill.{agent_of, drilled}
use Rattle.replay_run.specs.DrillClaims.{DrillEnds}
use Rattle.replay_run.proofs.DrillFitLemmas.{drill-fits}
use Rattle.replay_run.proofs.DrillPieceLemmas.{drill-bytes}
use Rattle.schedule_text.specs.Numbers.{number_of}
use Rattle.replay_run.specs.declared.run_end.RunEnd.{RunEnd}
use Rattle.replay_run.specs.declared.run_end.RunEnd.TheVariants.{Done, Refused, Memory, ReadFault, WriteFault}
use Rattle.agent_top.specs.DrillProgram.{DrillCompletes, DrillsExactly, DrillsLawfully}
use Rattle.agent_top.specs.Program.{status_of}
use Rattle.agent_top.specs.Words.{Drilling, drill_words, drilling, replay_settings, rounds_in}
use Rattle.agent_top.proofs.LawfulRunLemmas.{lawful_run}

-- each end says what its status says
pub drills_by : (rounds seed : ℕ) (end : RunEnd) (old new : StreamView)
    → DrillEnds rounds seed end old new
    → DrillsExactly (record { rounds = rounds; seed = seed }) (status_of end) old new
unfolding DrillEnds
drills_by rounds seed Done old new ends = ends
drills_by rounds seed (Refused line fault) old new ends = ends
drills_by rounds seed Memory old new ends = ends
drills_by rounds seed ReadFault old new ends = ends
drills_by rounds seed WriteFault old new ends = ends

-- a fault is answered only where one was counted
pub drill_completes_by : (rounds seed : ℕ) (end : RunEnd) (old new : StreamView)
    → DrillEnds rounds seed end old new
    → DrillCompletes (status_of end) old new
unfolding DrillEnds
drill_completes_by rounds seed Done old new ends = λ none. tt
drill_completes_by rounds seed (Refused line fault) old new ends = absurd ends
drill_completes_by rounds seed Memory old new ends = λ none. tt
drill_completes_by rounds seed ReadFault old new ends = absurd ends
drill_completes_by rounds seed WriteFault old new ends = λ none. absurd (none ends.cause)

-- ---- words

-- the words ask for few rounds
few_if : (test : Bool) (rounds found : ℕ) → nat_le rounds 100000 ≡ test
    → (if test then Some rounds else None) ≡ Some found → found ≤ 100000
few_if true rounds found few is =
    let same : rounds ≡ found = cc in grind (arith, nat_tests)
few_if false rounds found few is = absurd (cc)

few_in : (number : Option ℕ) (found : ℕ)
    → option_and_then (λ rounds. if nat_le rounds 100000 then Some rounds else None) number ≡ Some found
    → found ≤ 100000
few_in None found is = absurd (cc)
few_in (Some rounds) found is = few_if (nat_le rounds 100000) rounds found refl is

rounds_of : (rounds seed : Option ℕ) (asked : Drilling) → drilling rounds seed ≡ Some asked
    → rounds ≡ Some asked.rounds
rounds_of None seed asked is = absurd (cc)
rounds_of (Some rounds) None asked is = absurd (cc)
rounds_of (Some rounds) (Some seed) asked is = ap (option_map (λ (drill : Drilling). drill.rounds)) is

few_asked : (test : Bool) (rounds seed : List ℕ) (asked : Drilling)
    → (if test then drilling (rounds_in rounds) (number_of seed) else None) ≡ Some asked → asked.rounds ≤ 100000
few_asked true rounds seed asked is =
    few_in (number_of rounds) asked.rounds (rounds_of (rounds_in rounds) (number_of seed) asked is)
few_asked false rounds seed asked is = absurd (cc)

few_rounds : (words : List (List ℕ)) (asked : Drilling) → drill_words words ≡ Some asked → asked.rounds ≤ 100000
few_rounds [] asked is = absurd (cc)
few_rounds (word ∷ []) asked is = absurd (cc)
few_rounds (word ∷ option ∷ []) asked is = absurd (cc)
few_rounds (word ∷ rounds ∷ seed ∷ []) asked is = few_asked (bytes_eq word (codes "drill")) rounds seed asked is
few_rounds (word ∷ rounds ∷ seed ∷ more ∷ words) asked is = absurd (cc)

-- the run of its events is lawful
pub drills_lawfully_by : (words : List (List ℕ)) (asked : Drilling) → drill_words words ≡ Some asked
    → DrillsLawfully asked
drills_lawfully_by words asked is =
    let drill = drilled asked.rounds asked.seed in
    let few = few_rounds words asked is in
    lawful_run no_settings drill.events (agent_of drill) (drill-fits asked.rounds asked.seed few)
    (drill-bytes asked.rounds asked.seed few) refl

-- a word isn't both
not_replay : (word : List ℕ) → bytes_eq word (codes "drill") ≡ true → bytes_eq word (codes "replay") ≡ false
not_replay word is = rw ((bytes_eq-Decides word (codes "drill")).0 is) refl

drill_is : (word : List ℕ) (test : Bool) (asked : Drilling) (some : Option Drilling) → bytes_eq word (codes "drill") ≡ test
    → (if test then some else None) ≡ Some asked → test ≡ true
drill_is word true asked some is drills = refl
drill_is word false asked some is drills = absurd (cc)

-- words of a drill ask for no schedule
pub drill_is_no_replay : (words : List (List ℕ)) (asked : Drilling) → drill_words words ≡ Some asked
    → replay_settings words ≡ None
drill_is_no_replay [] asked is = refl
drill_is_no_replay (word ∷ []) asked is = absurd (cc)
drill_is_no_replay (word ∷ option ∷ []) asked is = absurd (cc)
drill_is_no_replay (word ∷ rounds ∷ seed ∷ []) asked is =
    rw (not_replay word (drill_is word (bytes_eq word (codes "drill")) asked _ refl is)) refl
drill_is_no_replay (word ∷ rounds ∷ seed ∷ more ∷ words) asked is = absurd (cc)

none_found : (found : Option Settings) (settings : Settings) → found ≡ None → found ≡ Some settings → ⊥
none_found found settings none some = cc

pub no_drill_replays : (words : List (List ℕ)) (asked : Drilling) (settings : Settings)
    → drill_words words ≡ Some asked
    → replay_settings words ≡ Some settings → ⊥
no_drill_replays words asked settings is replays =
    none_found (replay_settings words) settings (drill_is_no_replay words asked is) replays
