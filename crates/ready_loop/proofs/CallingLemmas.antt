-- Ports come back from aside in the order of their numbers, where they stand among some that rise.
use Rattle.std.proofs.Common.{◌≡◌, ◌∙◌, ℕ, ◌<◌, Bool, true, false, List, [], ◌∷◌, ◌++◌, refl, sym, ap, cond, not, ◌&&◌, ◌||◌, ◌==◌, if◌then◌else◌, append_assoc, arith, map}
use Rattle.std.proofs.lemmas.Bool.Decides.{nat_tests}
use Rattle.std.proofs.lemmas.List.{append-nil}
use Rattle.std.specs.List.{filter}
use Rattle.lists.specs.Rising.{IsRisingList, IsRisingNumbers, is_among}
use Rattle.lists.proofs.RisingLemmas.{is_among-above, is_among-below, rising_list, rising_lower}
use Rattle.agent_model.specs.State.{State}
use Rattle.loop_model.specs.Servable.{is_servable}
use Rattle.loop_model.specs.Things.{set_of}
use Rattle.loop_model.specs.declared.thing.Thing.{Thing}
use Rattle.loop_model.specs.declared.thing.Thing.TheVariants.{Read, Write}
use Rattle.loop_model.specs.Aside.{Aside, things_aside}
use Rattle.loop_model.specs.Lines.{Line, called}
use Rattle.loop_model.proofs.AsideLemmas.{aside-read, aside-write, is_among-filter}
use Rattle.loop_model.proofs.TestLemmas.{and_both, both_if}
use Rattle.ready_loop.specs.Standing.{called_each}
use Rattle.ready_loop.proofs.FilterLemmas.{kept, numbers_all, numbers_alike}

-- ---- rising lists

rising-filter : (test : ℕ → Bool) (low : ℕ) (numbers : List ℕ) → IsRisingNumbers low numbers
    → IsRisingNumbers low (filter test numbers)
rising-filter test low [] rising = tt
rising-filter test low (first ∷ numbers) rising =
    by_test (test first) (rising-filter test first numbers rising.1)
  where
    by_test : (b : Bool) → IsRisingNumbers first (filter test numbers)
        → IsRisingNumbers low (kept b first (filter test numbers))
    by_test true rest = (rising.0, rest)
    by_test false rest = rising_lower low first (filter test numbers) (omega (arith, rising.0)) rest

rising_list-filter : (test : ℕ → Bool) (numbers : List ℕ) → IsRisingList numbers
    → IsRisingList (filter test numbers)
rising_list-filter test [] rising = tt
rising_list-filter test (first ∷ numbers) rising =
    by_test (test first) (rising-filter test first numbers rising)
  where
    by_test : (b : Bool) → IsRisingNumbers first (filter test numbers)
        → IsRisingList (kept b first (filter test numbers))
    by_test true rest = rest
    by_test false rest = rising_list first (filter test numbers) rest

-- two that have the same members are one
same_rising : (some others : List ℕ) → IsRisingList some → IsRisingList others
    → ((number : ℕ) → is_among number some ≡ is_among number others) → some ≡ others
same_rising [] [] rising other same = refl
same_rising [] (second ∷ others) rising other same =
    let there : is_among second (second ∷ others) ≡ true = grind (arith, nat_tests) in
    let never = same second in
    absurd (cc)
same_rising (first ∷ some) [] rising other same =
    let there : is_among first (first ∷ some) ≡ true = grind (arith, nat_tests) in
    let never = same first in
    absurd (cc)
same_rising (first ∷ some) (second ∷ others) rising other same =
    ap (λ (n : ℕ). n ∷ some) heads
    ∙ ap (λ (ns : List ℕ). second ∷ ns)
    (same_rising some others (rising_list first some rising) (rising_list second others other) tails)
  where
    -- the first is the second, or above it
    first_at : (here : Bool) → (first == second) ≡ here → (first ≡ second → ⊥) → second < first
    first_at true is apart = absurd (apart (grind (arith, nat_tests)))
    first_at false is apart =
        let there : is_among first (first ∷ some) ≡ true = grind (arith, nat_tests) in
        let also : is_among first (second ∷ others) ≡ true = sym (same first) ∙ there in
        is_among-above second first others other (grind (arith, nat_tests))

    second_at : (here : Bool) → (second == first) ≡ here → (first ≡ second → ⊥) → first < second
    second_at true is apart = absurd (apart (grind (arith, nat_tests)))
    second_at false is apart =
        let there : is_among second (second ∷ others) ≡ true = grind (arith, nat_tests) in
        let also : is_among second (first ∷ some) ≡ true = same second ∙ there in
        is_among-above first second some rising (grind (arith, nat_tests))

    by_heads : (here : Bool) → (first == second) ≡ here → first ≡ second
    by_heads true is = grind (arith, nat_tests)
    by_heads false is =
        let apart : first ≡ second → ⊥ = λ equal. grind (arith, nat_tests) in
        let above : second < first = first_at (first == second) refl apart in
        let below : first < second = second_at (second == first) refl apart in
        absurd (omega (arith, above, below))

    heads : first ≡ second
    heads = by_heads (first == second) refl

    tails : (number : ℕ) → is_among number some ≡ is_among number others
    tails number = by_place (number == first) refl
      where
        by_place : (here : Bool) → (number == first) ≡ here → is_among number some ≡ is_among number others
        by_place true is =
            let equal : number ≡ first = grind (arith, nat_tests) in
            let also : number ≡ second = equal ∙ heads in
            is_among-below first number some (omega (arith, equal)) rising
            ∙ sym (is_among-below second number others (omega (arith, also)) other)
        by_place false is =
            let both = same number in
            let equal : first ≡ second = heads in
            grind (arith, nat_tests)

-- ---- numbers that come back

and_swapped : (a b : Bool) → (a && b) ≡ (b && a)
and_swapped true true = refl
and_swapped true false = refl
and_swapped false true = refl
and_swapped false false = refl

-- without this one
abbrev pub without_number : ℕ → List ℕ → List ℕ
without_number port ports = filter (λ other. not (port == other)) ports

-- those of the ports that pass the test and are among the left
abbrev pub came : (ℕ → Bool) → (ports left : List ℕ) → List ℕ
came test ports left = filter (λ port. test port && is_among port left) ports

-- those of the left that stay there
abbrev pub stays : (ℕ → Bool) → (ports left : List ℕ) → List ℕ
stays test ports left = filter (λ port. not (test port && is_among port ports)) left

stays-none : (test : ℕ → Bool) (left : List ℕ) → stays test [] left ≡ left
stays-none test left = numbers_all (λ port. not (test port && false)) left (λ port there. by_test (test port))
  where
    by_test : (b : Bool) → not (b && false) ≡ true
    by_test true = refl
    by_test false = refl

-- one that comes back isn't looked for again
came-here : (test : ℕ → Bool) (port : ℕ) (ports left : List ℕ) → IsRisingNumbers port ports
    → (test port && is_among port left) ≡ true
    → port ∷ came test ports (without_number port left) ≡ came test (port ∷ ports) left
came-here test port ports left rising here =
    ap (λ (ns : List ℕ). port ∷ ns)
    (numbers_alike (λ other. test other && is_among other (without_number port left))
    (λ other. test other && is_among other left) ports
    (λ other there. ap (λ (b : Bool). test other && b) (same other (is_among-above port other ports rising there))))
    ∙ sym (ap (λ (b : Bool). kept b port (came test ports left)) here)
  where
    same : (other : ℕ) → port < other
        → is_among other (without_number port left) ≡ is_among other left
    same other above =
        is_among-filter (λ third. not (port == third)) left other
        ∙ by_test (is_among other left) (port == other) (grind (arith, nat_tests))
      where
        by_test : (there same : Bool) → same ≡ false → (there && not same) ≡ there
        by_test there true is = absurd (cc)
        by_test true false is = refl
        by_test false false is = refl

filter_both : (first later : ℕ → Bool) (numbers : List ℕ)
    → filter later (filter first numbers) ≡ filter (λ number. first number && later number) numbers
filter_both first later [] = refl
filter_both first later (number ∷ numbers) =
    by_test (first number) refl (filter_both first later numbers)
  where
    by_test : (b : Bool) → first number ≡ b
        → filter later (filter first numbers) ≡ filter (λ n. first n && later n) numbers
        → filter later (cond (first number) (number ∷ filter first numbers) (filter first numbers))
        ≡ cond (first number && later number) (number ∷ filter (λ n. first n && later n) numbers) (filter (λ n. first n && later n) numbers)
    by_test true is rest = rw is (ap (λ (ns : List ℕ). cond (later number) (number ∷ ns) ns) rest)
    by_test false is rest = rw is rest

stays-here : (test : ℕ → Bool) (port : ℕ) (ports left : List ℕ)
    → (test port && is_among port left) ≡ true
    → stays test ports (without_number port left) ≡ stays test (port ∷ ports) left
stays-here test port ports left here =
    filter_both (λ other. not (port == other)) (λ other. not (test other && is_among other ports)) left
    ∙ numbers_alike (λ other. not (port == other) && not (test other && is_among other ports))
    (λ other. not (test other && (other == port || is_among other ports))) left
    (λ other there. by_place other (port == other) refl)
  where
    passes : test port ≡ true
    passes = (and_both (test port) (is_among port left) here).0

    swapped : (a b : ℕ) → (a == b) ≡ (b == a)
    swapped a b = grind (arith, nat_tests)

    by_place : (other : ℕ) (same : Bool) → (port == other) ≡ same
        → (not (port == other) && not (test other && is_among other ports))
        ≡ not (test other && (other == port || is_among other ports))
    by_place other true is =
        let equal : port ≡ other = grind (arith, nat_tests) in
        let also : test other ≡ true = ap test (sym equal) ∙ passes in
        let back : (other == port) ≡ true = swapped other port ∙ is in
        rw is (rw also (rw back refl))
    by_place other false is =
        let back : (other == port) ≡ false = swapped other port ∙ is in
        rw is (rw back refl)

-- one that doesn't leaves all as they were
stays-passed : (test : ℕ → Bool) (port : ℕ) (ports left : List ℕ)
    → (test port && is_among port left) ≡ false
    → stays test ports left ≡ stays test (port ∷ ports) left
stays-passed test port ports left none =
    numbers_alike (λ other. not (test other && is_among other ports))
    (λ other. not (test other && (other == port || is_among other ports))) left
    (λ other there. by_place other (other == port) refl there)
  where
    first_of : (a b : Bool) → (a && b) ≡ false → b ≡ true → a ≡ false
    first_of true b none is = sym is ∙ none
    first_of false b none is = refl

    by_place : (other : ℕ) (same : Bool) → (other == port) ≡ same → is_among other left ≡ true
        → not (test other && is_among other ports) ≡ not (test other && (same || is_among other ports))
    by_place other true is there =
        let equal : other ≡ port = grind (arith, nat_tests) in
        let here : is_among port left ≡ true = ap (λ (n : ℕ). is_among n left) (sym equal) ∙ there in
        let never : test other ≡ false = ap test equal ∙ first_of (test port) (is_among port left) none here in
        rw never refl
    by_place other false is there = refl

came-passed : (test : ℕ → Bool) (port : ℕ) (ports left : List ℕ)
    → (test port && is_among port left) ≡ false
    → came test ports left ≡ came test (port ∷ ports) left
came-passed test port ports left none =
    sym (ap (λ (b : Bool). kept b port (came test ports left)) none)

-- where all that pass the test are among the ports
pub came-all : (test : ℕ → Bool) (ports left : List ℕ) → IsRisingList ports → IsRisingList left
    → ((port : ℕ) → is_among port left ≡ true → test port ≡ true → is_among port ports ≡ true)
    → came test ports left ≡ filter test left
came-all test ports left rising other all =
    same_rising (came test ports left) (filter test left)
    (rising_list-filter (λ port. test port && is_among port left) ports rising) (rising_list-filter test left other)
    (λ port.
    is_among-filter (λ port. test port && is_among port left) ports port
    ∙ by_tests (is_among port ports) (test port) (is_among port left) (all port)
    ∙ sym (is_among-filter test left port))
  where
    by_tests : (a b c : Bool) → (c ≡ true → b ≡ true → a ≡ true) → (a && (b && c)) ≡ (c && b)
    by_tests true true true all = refl
    by_tests true true false all = refl
    by_tests true false true all = refl
    by_tests true false false all = refl
    by_tests false true true all = all refl refl
    by_tests false true false all = refl
    by_tests false false true all = refl
    by_tests false false false all = refl

pub stays-all : (test : ℕ → Bool) (ports left : List ℕ)
    → ((port : ℕ) → is_among port left ≡ true → test port ≡ true → is_among port ports ≡ true)
    → stays test ports left ≡ filter (λ port. not (test port)) left
stays-all test ports left all =
    numbers_alike (λ port. not (test port && is_among port ports)) (λ port. not (test port)) left
    (λ port there. by_tests (test port) (is_among port ports) (all port there))
  where
    by_tests : (a b : Bool) → (a ≡ true → b ≡ true) → not (a && b) ≡ not a
    by_tests true b all = ap not (all refl)
    by_tests false b all = refl

-- ---- things that come back

-- what is to be read at a port, or else what is to be written there
abbrev pub at : (reads : Bool) → ℕ → Thing
at true = Read
at false = Write

-- those ports of the set aside
abbrev pub ports_of : (reads : Bool) → Aside → List ℕ
ports_of true aside = aside.reads
ports_of false aside = aside.writes

-- some come back, and others are left
abbrev pub back : (reads : Bool) → Line → (came left : List ℕ) → Line
back true line came left =
    record line { queue = line.queue ++ map Read came; aside = record line.aside { reads = left } }
back false line came left =
    record line { queue = line.queue ++ map Write came; aside = record line.aside { writes = left } }

back-none : (reads : Bool) (line : Line) → back reads line [] (ports_of reads line.aside) ≡ line
back-none true line = ap (λ (things : List Thing). record line { queue = things }) (append-nil line.queue)
back-none false line = ap (λ (things : List Thing). record line { queue = things }) (append-nil line.queue)

-- one after another
back-more : (reads : Bool) (line : Line) (port : ℕ) (more mid left : List ℕ)
    → back reads (back reads line (port ∷ []) mid) more left ≡ back reads line (port ∷ more) left
back-more true line port more mid left =
    ap (λ (things : List Thing). record line { queue = things; aside = record line.aside { reads = left } })
    (append_assoc line.queue (Read port ∷ []) (map Read more))
back-more false line port more mid left =
    ap (λ (things : List Thing). record line { queue = things; aside = record line.aside { writes = left } })
    (append_assoc line.queue (Write port ∷ []) (map Write more))

ports-left : (reads : Bool) (line : Line) (port : ℕ) (left : List ℕ)
    → ports_of reads (back reads line (port ∷ []) left).aside ≡ left
ports-left true line port left = refl
ports-left false line port left = refl

-- one port is called
called-port : (reads : Bool) (state : State) (port : ℕ) (line : Line)
    → called state (at reads port) line
    ≡ (if is_servable state (at reads port) && is_among port (ports_of reads line.aside)
    then back reads line (port ∷ []) (without_number port (ports_of reads line.aside)) else line)
called-port true state port line =
    both_if (set_of (things_aside line.aside) (Read port)) (is_servable state (Read port))
    (back true line (port ∷ []) (without_number port line.aside.reads)) line
    ∙ ap (λ (b : Bool). if b then back true line (port ∷ []) (without_number port line.aside.reads) else line)
    (ap (λ (b : Bool). b && is_servable state (Read port)) (aside-read line.aside port)
    ∙ and_swapped (is_among port line.aside.reads) (is_servable state (Read port)))
called-port false state port line =
    both_if (set_of (things_aside line.aside) (Write port)) (is_servable state (Write port))
    (back false line (port ∷ []) (without_number port line.aside.writes)) line
    ∙ ap (λ (b : Bool). if b then back false line (port ∷ []) (without_number port line.aside.writes) else line)
    (ap (λ (b : Bool). b && is_servable state (Write port)) (aside-write line.aside port)
    ∙ and_swapped (is_among port line.aside.writes) (is_servable state (Write port)))

-- all that can be served of rising ports
pub called_each-back : (reads : Bool) (state : State) (ports : List ℕ) (line : Line) → IsRisingList ports
    → called_each state (map (at reads) ports) line
    ≡ back reads line (came (λ port. is_servable state (at reads port)) ports (ports_of reads line.aside))
    (stays (λ port. is_servable state (at reads port)) ports (ports_of reads line.aside))
called_each-back reads state [] line rising =
    sym (ap (back reads line []) (stays-none (λ port. is_servable state (at reads port)) (ports_of reads line.aside))
    ∙ back-none reads line)
called_each-back reads state (port ∷ ports) line rising =
    ap (called_each state (map (at reads) ports)) (called-port reads state port line)
    ∙ by_test (is_servable state (at reads port) && is_among port (ports_of reads line.aside)) refl
    (λ next. called_each-back reads state ports next (rising_list port ports rising))
  where
    test : ℕ → Bool
    test = λ port. is_servable state (at reads port)

    left : List ℕ
    left = ports_of reads line.aside

    first : Line
    first = back reads line (port ∷ []) (without_number port left)

    by_test : (b : Bool) → (test port && is_among port left) ≡ b
        → ((next : Line) → called_each state (map (at reads) ports) next
        ≡ back reads next (came test ports (ports_of reads next.aside)) (stays test ports (ports_of reads next.aside)))
        → called_each state (map (at reads) ports) (if b then first else line)
        ≡ back reads line (came test (port ∷ ports) left) (stays test (port ∷ ports) left)
    by_test true is rest =
        rest first
        ∙ ap (λ (ns : List ℕ). back reads first (came test ports ns) (stays test ports ns)) (ports-left reads line port (without_number port left))
        ∙ back-more reads line port (came test ports (without_number port left)) (without_number port left) (stays test ports (without_number port left))
        ∙ ap (λ (ns : List ℕ). back reads line ns (stays test ports (without_number port left))) (came-here test port ports left rising is)
        ∙ ap (back reads line (came test (port ∷ ports) left)) (stays-here test port ports left is)
    by_test false is rest =
        rest line
        ∙ ap (λ (ns : List ℕ). back reads line ns (stays test ports left)) (came-passed test port ports left is)
        ∙ ap (back reads line (came test (port ∷ ports) left)) (stays-passed test port ports left is)
