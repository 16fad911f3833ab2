-- The ports that an event closes are those that were open or joined and aren't open after.
use Rattle.std.proofs.Common.{◌≡◌, ◌≢◌, ◌==◌, ◌&&◌, ◌<◌, ◌+◌, ℕ, List, [], ◌∷◌, ◌++◌, refl, ap, arith, sym, subst, ◌∙◌, suc, Option, Some, None, is_some, Bool, true, false, not, nat_lt, inl, inr, if◌then◌else◌}
use Rattle.std.proofs.lemmas.Bool.{cases_eq}
use Rattle.std.proofs.lemmas.Bool.Decides.{nat_tests}
use Rattle.std.proofs.lemmas.List.{append-nil}
use Rattle.lists.proofs.SearchLemmas.{rise-numbers}
use Rattle.helper_link.specs.HelperLink.{askers}
use Rattle.helper_link.specs.Telling.{telling}
use Rattle.helper_link.specs.declared.answer.Settled.{Settled}
use Rattle.helper_link.specs.declared.fault.LinkFault.{LinkFault}
use Rattle.helper_link.specs.declared.state.LinkState.{LinkState}
use Rattle.helper_link.specs.declared.state.LinkState.TheVariants as states
use Rattle.lists.specs.Rising.{IsRisingList, IsRisingNumbers, inserted, is_among, removed}
use Rattle.lists.proofs.RisingLemmas.{is_among-above, is_among-removed, removed-not_among, rising_list, rising_list-removed}
use Rattle.world_ports.specs.declared.Door.{Door}
use Rattle.world_ports.specs.declared.Moment.{Moment}
use Rattle.agent_model.specs.Actions.{Outcome, behind, closing}
use Rattle.agent_model.specs.Answers.{Answering, answer_all, answer_by, answers_in, close_helper, helper_closes, lose, lose_if, tell_each, with_answers}
use Rattle.agent_model.specs.Children.{unheard}
use Rattle.agent_model.specs.Closings.{closed_between, joined_between}
use Rattle.agent_model.specs.Consents.{close_confirmer, confirmer_closes, grant_work}
use Rattle.agent_model.specs.Events.{Happening, Tick}
use Rattle.agent_model.specs.NumberLists.{put_all, without}
use Rattle.agent_model.specs.Sound.{IsRising}
use Rattle.agent_model.specs.State.{Port, State, change_port, find_port, new_port, numbers, remove_port, number_of}
use Rattle.agent_model.specs.Step.{admitted, has_room, step}
use Rattle.agent_model.specs.Time.{at_moment, time_passes}
use Rattle.agent_model.specs.Verdicts.{HelperLost, NotConfirmed, Refuses, Verdict, tell}
use Rattle.agent_model.proofs.FateLemmas.{answers_as}
use Rattle.agent_model.proofs.LeadLemmas.{Follows, follows-makes}
use Rattle.agent_model.proofs.MakeLemmas.{Makes, Quiet, alters, by_event, closes, first, goes_on, grants, links, loses, mild_of, names, overs, serves, shuts, stays, tells}
use Rattle.agent_model.proofs.PortsLemmas.{numbers-change_port, rising-append, rising_bound}
use Rattle.agent_model.proofs.RunLemmas.{at_moment-follows, leads-rising}
use Rattle.agent_model.proofs.TimeLemmas.{time_passes-makes}

-- ---- numbers that are taken out one after another

-- the second list is the first without these, each of which stands in it
abbrev pub TakenOut : List ℕ → List ℕ → List ℕ → Type 0
TakenOut [] before after = after ≡ before
TakenOut (number ∷ others) before after =
    (is_among number before ≡ true) × TakenOut others (removed number before) after

taken-append : (some more before mid after : List ℕ) → TakenOut some before mid →
    TakenOut more mid after → TakenOut (some ++ more) before after
taken-append [] more before mid after out rest = subst (λ ns. TakenOut more ns after) out rest
taken-append (number ∷ some) more before mid after out rest =
    (out.0, taken-append some more (removed number before) mid after out.1 rest)

-- where those that are kept are the same but for a lesser number, those that aren't are the same
without-same : (low number : ℕ) (ns kept left : List ℕ) → IsRisingNumbers low ns
    → number < low + 1 →
    ((x : ℕ) → x ≢ number → is_among x left ≡ is_among x kept) → without ns left ≡ without ns kept
without-same low number [] kept left rising below others = refl
without-same low number (n ∷ ns) kept left rising below others =
    let above : low < n = rising.0 in
    let rest : without ns left ≡ without ns kept =
    without-same n number ns kept left rising.1 (omega arith) others in
    let here : is_among n left ≡ is_among n kept = others n (λ is. omega arith) in
    rw (here, rest) refl

-- a number before all others goes first
inserted-first : (low number : ℕ) (ns kept : List ℕ) → IsRisingNumbers low ns → number < low + 1 →
    inserted number (without ns kept) ≡ number ∷ without ns kept
inserted-first low number [] kept rising below = refl
inserted-first low number (n ∷ ns) kept rising below =
    let above : low < n = rising.0 in
    let rest = inserted-first n number ns kept rising.1 (omega (arith, rising.0)) in
    grind (arith, nat_tests)

-- one number less is kept: it is one more of those that aren't
inserted-without : (low number : ℕ) (ns kept left : List ℕ) → IsRisingNumbers low ns →
    is_among number ns ≡ true → is_among number kept ≡ true → is_among number left ≡ false →
    ((x : ℕ) → x ≢ number → is_among x left ≡ is_among x kept) →
    inserted number (without ns kept) ≡ without ns left
inserted-without low number [] kept left rising there was is others = absurd (cc)
inserted-without low number (n ∷ ns) kept left rising there was is others = elim (cases_eq number n) [
  | inl here ↦
      (let above = subst (λ m. IsRisingNumbers m ns) (sym here) rising.1 in
      let one : inserted number (without ns kept) ≡ number ∷ without ns kept =
      inserted-first number number ns kept above (omega arith) in
      let rest : without ns left ≡ without ns kept =
      without-same number number ns kept left above (omega arith) others in
      let n_was : is_among n kept ≡ true = subst (λ m. is_among m kept ≡ true) here was in
      let n_is : is_among n left ≡ false = subst (λ m. is_among m left ≡ false) here is in
      rw (n_was, n_is)
      (one ∙ ap (λ ms. number ∷ ms) (sym rest) ∙ ap (λ m. m ∷ without ns left) here))
  | inr apart ↦
      (let later : is_among number ns ≡ true = grind (arith, nat_tests) in
      let rest : inserted number (without ns kept) ≡ without ns left =
      inserted-without n number ns kept left rising.1 later was is others in
      let less : n < number = is_among-above n number ns rising.1 later in
      let here : is_among n left ≡ is_among n kept = others n (λ e. apart (sym e)) in
      grind (arith, nat_tests))
]

-- what is taken out, put in order behind what isn't kept any more, is what isn't kept then
put-taken : (low : ℕ) (all out kept left : List ℕ) → IsRisingNumbers low all → IsRisingList kept →
    ((x : ℕ) → is_among x kept ≡ true → is_among x all ≡ true) → TakenOut out kept left →
    put_all (without all kept) out ≡ without all left
put-taken low all [] kept left rising order within taken = ap (without all) (sym taken)
put-taken low all (number ∷ out) kept left rising order within taken =
    let is : (x : ℕ) → is_among x (removed number kept) ≡ (not (number == x) && is_among x kept) =
    λ x. is_among-removed x number kept order in
    ap (λ ns. put_all ns out)
    (inserted-without low number all kept (removed number kept) rising (within number taken.0) taken.0
    (is number ∙ grind (arith, nat_tests)) (λ x apart. is x ∙ grind (arith, nat_tests)))
    ∙ put-taken low all out (removed number kept) left rising (rising_list-removed number kept order)
    (λ x there. within x (let was = sym (is x) ∙ there in grind (arith, nat_tests))) taken.1

-- ---- ports

-- the numbers of rising ports rise
rising-numbers : (low high : ℕ) (ports : List Port) → IsRising low high ports →
    IsRisingNumbers low (numbers ports)
rising-numbers low high ports rising = rise-numbers number_of low high ports rising

numbers-remove_port : (number : ℕ) (ports : List Port) →
    numbers (remove_port number ports) ≡ removed number (numbers ports)
numbers-remove_port number [] = refl
numbers-remove_port number (port ∷ ports) =
    let rest : numbers (remove_port number ports) ≡ removed number (numbers ports) =
    numbers-remove_port number ports in
    grind (arith, nat_tests)

-- an open port's number is among the numbers
pub is_among-open : (number : ℕ) (ports : List Port) →
    is_among number (numbers ports) ≡ is_some (find_port number ports)
is_among-open number [] = refl
is_among-open number (port ∷ ports) =
    let rest : is_among number (numbers ports) ≡ is_some (find_port number ports) =
    is_among-open number ports in
    grind (arith, nat_tests)

-- one that is closed is taken out, and then the others
taken-closing : (number : ℕ) (ports : List Port) (later after : List ℕ) →
    TakenOut later (numbers (remove_port number ports)) after →
    TakenOut (closing number ports later) (numbers ports) after
taken-closing number ports later after rest =
    by_found (is_some (find_port number ports)) (is_among-open number ports)
    (subst (λ ns. TakenOut later ns after) (numbers-remove_port number ports) rest)
  where
    by_found : (is : Bool) → is_among number (numbers ports) ≡ is →
        TakenOut later (removed number (numbers ports)) after →
        TakenOut (if is then number ∷ later else later) (numbers ports) after
    by_found true there taken = (there, taken)
    by_found false there taken =
        subst (λ ns. TakenOut later ns after) (removed-not_among number (numbers ports) there) taken

-- changes leave the numbers
taken-changed : (number : ℕ) (f : Port → Port) (ports : List Port) (out after : List ℕ) →
    ((p : Port) → (f p).number ≡ p.number) → TakenOut out (numbers (change_port number f ports)) after →
    TakenOut out (numbers ports) after
taken-changed number f ports out after keeps =
    subst (λ ns. TakenOut out ns after) (numbers-change_port number f ports keeps)

numbers-tell_each : (verdict : Verdict) (clients : List ℕ) (ports : List Port) →
    numbers (tell_each verdict clients ports) ≡ numbers ports
numbers-tell_each verdict [] ports = refl
numbers-tell_each verdict (number ∷ others) ports =
    numbers-tell_each verdict others (change_port number (tell verdict) ports)
    ∙ numbers-change_port number (tell verdict) ports (λ p. refl)

numbers-answers : (settled : List Settled) (before : Answering) →
    numbers (answer_all settled before).ports ≡ numbers before.ports
numbers-answers [] before = refl
numbers-answers (one ∷ later) before =
    let told_as = answers_as one.answer one before in
    numbers-answers later (answer_by one.answer one before) ∙ ap numbers told_as.ports
    ∙ numbers-change_port one.asker told_as.change before.ports told_as.number

-- ---- what an event makes

-- the ports that it closes are taken out
abbrev Closed : State → Outcome → Type 0
Closed old outcome = TakenOut outcome.closes (numbers old.ports) (numbers outcome.state.ports)

closed-confirmer : (at : Option ℕ) (asker : ℕ) (verdict : Verdict) (ports : List Port) →
    TakenOut (confirmer_closes at ports) (numbers ports)
    (numbers (change_port asker (tell verdict) (close_confirmer at ports)))
closed-confirmer None asker verdict ports =
    numbers-change_port asker (tell verdict) ports (λ p. refl)
closed-confirmer (Some port) asker verdict ports =
    taken-closing port ports [] _
    (numbers-change_port asker (tell verdict) (remove_port port ports) (λ p. refl))

closed-helper : (link : LinkState) (ports : List Port) →
    TakenOut (helper_closes link ports) (numbers ports) (numbers (close_helper link ports))
closed-helper states.None ports = refl
closed-helper (states.Starting job) ports = refl
closed-helper (states.Linked port) ports = taken-closing port ports [] _ refl

closed-lose : (state : State) → Closed state (lose state)
closed-lose state =
    subst (λ ns. TakenOut (helper_closes state.under_way.link.state state.ports) (numbers state.ports) ns)
    (sym (numbers-tell_each (Refuses HelperLost) (askers state.under_way.link.asks)
    (close_helper state.under_way.link.state state.ports)))
    (closed-helper state.under_way.link.state state.ports)

closed-lose_if : (fault : Option LinkFault) (state : State) → Closed state (lose_if fault state)
closed-lose_if None state = refl
closed-lose_if (Some fault) state = closed-lose state

closed-quiet : {event : Happening} {old new : State} (quiet : Quiet event old new) (out after : List ℕ) →
    TakenOut out (numbers new.ports) after → TakenOut (shuts quiet out) (numbers old.ports) after
closed-quiet {old = old} (alters number f change) out after rest =
    taken-changed number f old.ports out after (mild_of change).number rest
closed-quiet {old = old} (closes number may) out after rest =
    taken-closing number old.ports out after rest
closed-quiet (goes_on new goes) out after rest = rest
closed-quiet {old = old} (names job number new) out after rest =
    taken-changed number unheard old.ports out after (λ p. refl) rest
closed-quiet {old = old} (links job number new) out after rest =
    taken-changed number unheard old.ports out after (λ p. refl) rest

closed-makes : {event : Happening} {old : State} {outcome : Outcome} → Makes event old outcome →
    Closed old outcome
closed-makes (stays state) = refl
closed-makes (first {outcome = outcome} quiet rest) =
    closed-quiet quiet outcome.closes (numbers outcome.state.ports) (closed-makes rest)
closed-makes (serves body_len port state found door waits owed own) =
    numbers-change_port port.number _ _ (λ p. refl)
    ∙ numbers-change_port port.number _ state.ports (λ p. refl)
closed-makes (tells piece state) =
    let told = telling piece state.under_way.link in
    let answers : Answering = answers_in told.settled state in
    let mid : State = with_answers told.link answers state in
    subst (λ ns. TakenOut (lose_if told.fault mid).closes ns (numbers (lose_if told.fault mid).state.ports))
    (numbers-answers told.settled _) (closed-lose_if told.fault mid)
closed-makes (loses state) = closed-lose state
closed-makes (overs confirmation state there) =
    closed-confirmer confirmation.port confirmation.asker (Refuses NotConfirmed) state.ports
closed-makes (grants confirmation port state there opened) =
    closed-confirmer confirmation.port confirmation.asker
    (grant_work port.chain confirmation state).verdict state.ports

-- ---- an event

-- numbers that all stay aren't left out
without-all : (xs ys : List ℕ) → ((x : ℕ) → is_among x xs ≡ true → is_among x ys ≡ true)
    → without xs ys ≡ []
without-all [] ys stay = refl
without-all (x ∷ xs) ys stay =
    let here : is_among x ys ≡ true = stay x (grind (arith, nat_tests)) in
    let rest : without xs ys ≡ [] = without-all xs ys (λ y there. stay y (grind (arith, nat_tests))) in
    grind (arith, nat_tests)

-- a number above the last isn't there
among-above : (number low high : ℕ) (ports : List Port) → high < number → IsRising low high ports →
    is_among number (numbers ports) ≡ false
among-above number low high [] above rising = refl
among-above number low high (port ∷ ports) above rising =
    let rest : is_among number (numbers ports) ≡ false =
    among-above number port.number high ports above rising.1 in
    let below = rising_bound port.number high ports rising.1 in
    grind (arith, nat_tests)

numbers-append : (number : ℕ) (door : Door) (ports : List Port) →
    numbers (ports ++ new_port number door ∷ []) ≡ numbers ports ++ number ∷ []
numbers-append number door [] = refl
numbers-append number door (port ∷ ports) =
    ap (λ xs. port.number ∷ xs) (numbers-append number door ports)

-- what is taken out of numbers is taken out of them with one more behind
taken-with : (number : ℕ) (out before after : List ℕ) → TakenOut out before after →
    TakenOut out (before ++ number ∷ []) (after ++ number ∷ [])
taken-with number [] before after same = ap (λ ns. ns ++ number ∷ []) same
taken-with number (one ∷ out) before after taken =
    let both = one_with before taken.0 in (
      both.0,
      subst (λ ns. TakenOut out ns (after ++ number ∷ [])) (sym both.1)
          (taken-with number out (removed one before) after taken.1),
    )
  where
    one_with : (ns : List ℕ) → is_among one ns ≡ true →
        (is_among one (ns ++ number ∷ []) ≡ true)
        × (removed one (ns ++ number ∷ []) ≡ removed one ns ++ number ∷ [])
    one_with [] there = absurd (cc)
    one_with (n ∷ ns) there =
        let kept : is_among one ns ≡ true → is_among one (ns ++ number ∷ []) ≡ true = λ was. (one_with ns was).0 in
        let left : is_among one ns ≡ true → removed one (ns ++ number ∷ []) ≡ removed one ns ++ number ∷ [] =
        λ was. (one_with ns was).1 in
        (grind (arith, nat_tests), grind (arith, nat_tests))

-- the last of numbers is taken out, where it isn't among the others
taken-last : (number : ℕ) (ns : List ℕ) → is_among number ns ≡ false →
    (is_among number (ns ++ number ∷ []) ≡ true) × (ns ≡ removed number (ns ++ number ∷ []))
taken-last number [] absent = (grind (arith, nat_tests), grind (arith, nat_tests))
taken-last number (n ∷ ns) absent =
    let there : is_among number ns ≡ false → is_among number (ns ++ number ∷ []) ≡ true = λ none. (taken-last number ns none).0 in
    let left : is_among number ns ≡ false → ns ≡ removed number (ns ++ number ∷ []) = λ none. (taken-last number ns none).1 in
    (grind (arith, nat_tests), grind (arith, nat_tests))

-- a port that joins is closed where it isn't admitted
taken-admitted : (is_in : Bool) (number : ℕ) (door : Door) (ports : List Port) →
    is_among number (numbers ports) ≡ false →
    TakenOut (if is_in then [] else number ∷ []) (numbers ports ++ number ∷ [])
    (numbers (admitted is_in number door ports))
taken-admitted true number door ports absent = numbers-append number door ports
taken-admitted false number door ports absent = taken-last number (numbers ports) absent

-- what is closed before it joins, and it itself where it isn't admitted
closed-joined : (old mid : State) (out : List ℕ) (is_in : Bool) (door : Door) →
    IsRising 0 old.last_port old.ports → Follows old mid →
    TakenOut out (numbers old.ports) (numbers mid.ports) →
    put_all [] (out ++ (if is_in then [] else suc mid.last_port ∷ []))
    ≡ without (numbers old.ports ++ joined_between old.last_port (suc mid.last_port))
    (numbers (admitted is_in (suc mid.last_port) door mid.ports))
closed-joined old mid out is_in door rising follows taken =
    let new : ℕ = suc mid.last_port in
    let higher : old.last_port < new = omega (arith, follows.last) in
    let all : List ℕ = numbers old.ports ++ new ∷ [] in
    let left : List ℕ = numbers (admitted is_in new door mid.ports) in
    let order : IsRisingNumbers 0 all =
    subst (IsRisingNumbers 0) (numbers-append new door old.ports)
    (rising-numbers 0 new (old.ports ++ new_port new door ∷ [])
    (rising-append 0 old.last_port new door old.ports higher rising)) in
    let absent : is_among new (numbers mid.ports) ≡ false =
    among-above new 0 old.last_port mid.ports higher
    (leads-rising 0 old.last_port old.ports follows.ports rising) in
    let above : nat_lt old.last_port new ≡ true = grind (arith, nat_tests) in
    ap (λ ns. put_all ns (out ++ (if is_in then [] else new ∷ []))) (sym (without-all all all (λ x there. there)))
    ∙ put-taken 0 all (out ++ (if is_in then [] else new ∷ [])) all left order (rising_list 0 all order)
    (λ x there. there)
    (taken-append out (if is_in then [] else new ∷ []) all (numbers mid.ports ++ new ∷ []) left
    (taken-with new out (numbers old.ports) (numbers mid.ports) taken)
    (taken-admitted is_in new door mid.ports absent))
    ∙ ap (λ b. without (numbers old.ports ++ (if b then new ∷ [] else [])) left) (sym above)

-- where the last number stays, only the open ports can have been closed
closed-stays : (old : State) (outcome : Outcome) → IsRising 0 old.last_port old.ports →
    outcome.state.last_port ≡ old.last_port → Closed old outcome →
    put_all [] outcome.closes ≡ closed_between old outcome.state
closed-stays old outcome rising last out =
    let all : List ℕ = numbers old.ports in
    let left : List ℕ = numbers outcome.state.ports in
    let order : IsRisingNumbers 0 all = rising-numbers 0 old.last_port old.ports rising in
    let not_above : nat_lt old.last_port old.last_port ≡ false = grind (arith, nat_tests) in
    ap (λ ns. put_all ns outcome.closes) (sym (without-all all all (λ x there. there)))
    ∙ put-taken 0 all outcome.closes all left order (rising_list 0 all order) (λ x there. there) out
    ∙ ap (λ ns. without ns left) (sym (append-nil all))
    ∙ ap (λ b. without (all ++ (if b then old.last_port ∷ [] else [])) left) (sym not_above)
    ∙ ap (λ n. without (all ++ joined_between old.last_port n) left) (sym last)

-- what a moment closes is taken out
closed-time : (moment : Moment) (state : State) → Closed state (time_passes moment state)
closed-time moment state =
    time_passes-makes Closed Tick moment state (λ s outcome makes. closed-makes makes)
    (λ s before later out rest.
    taken-append before.closes later.closes (numbers s.ports) (numbers before.state.ports)
    (numbers later.state.ports) out rest)

-- the ports that an event closed are those that were open or joined and aren't open after
pub closes-closed : (state : State) (moment : Moment) (event : Happening) →
    IsRising 0 state.last_port state.ports →
    (step state moment event).closes ≡ closed_between state (step state moment event).state
closes-closed state moment event rising =
    by_event
    (λ outcome. put_all [] (time.closes ++ outcome.closes) ≡ closed_between state outcome.state) event start
    (λ door. closed-joined state start time.closes (has_room door start.ports start.under_way) door rising
    follows out)
    (λ outcome makes.
    closed-stays state (behind time outcome) rising (follows-makes event state makes follows).last
    (taken-append time.closes outcome.closes (numbers state.ports) (numbers start.ports)
    (numbers outcome.state.ports) out (closed-makes makes)))
  where
    time : Outcome
    time = time_passes moment state

    start : State
    start = at_moment moment state

    out : Closed state time
    out = closed-time moment state

    follows : Follows state start
    follows = at_moment-follows moment state
