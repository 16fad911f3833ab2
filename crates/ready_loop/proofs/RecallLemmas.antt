-- What comes back to the queue after an event.
use Rattle.std.proofs.Common.{◌≡◌, ◌∙◌, ℕ, Bool, true, false, List, [], ◌∷◌, ◌++◌, Option, refl, sym, ap, append_assoc, cond, not, map}
use Rattle.std.proofs.lemmas.List.Elements.{filter-append}
use Rattle.std.specs.List.{filter}
use Rattle.world_ports.specs.declared.events.Door.{Door}
use Rattle.lists.specs.Rising.{IsRisingList, is_among}
use Rattle.agent_model.specs.State.{State}
use Rattle.loop_model.specs.Servable.{is_servable}
use Rattle.loop_model.specs.Things.{set_of}
use Rattle.loop_model.specs.declared.thing.Thing.{Thing}
use Rattle.loop_model.specs.declared.thing.Thing.TheVariants.{Accept, Read, Write}
use Rattle.loop_model.specs.Aside.{Aside, things_aside}
use Rattle.loop_model.specs.Lines.{Line, called_all, called_own}
use Rattle.ready_loop.specs.Standing.{IsStirred, called_each, is_at_any}
use Rattle.loop_model.proofs.ThingLemmas.{false_by}
use Rattle.loop_model.proofs.AsideLemmas.{accepts-read, accepts-write, aside-accept, aside-read, aside-write}
use Rattle.loop_model.proofs.BackLemmas.{calls-own}
use Rattle.loop_model.proofs.FilterLemmas.{filter_none}
use Rattle.ready_loop.proofs.FilterLemmas.{doors_all, kept}
use Rattle.ready_loop.proofs.CallingLemmas.{at, back, called_each-back, came, came-all, stays, stays-all}

-- with its own port back in the queue
pub own-stirred : (state : State) (own : Option ℕ) (ports : List ℕ) (line : Line) → IsStirred state ports line
    → IsStirred state ports (called_own state own line)
own-stirred state own ports line stirred = λ thing there able.
    stirred thing ((calls-own state own line).left thing there) able

-- ports that a test lets pass, as things
served-at : (reads : Bool) (state : State) (ports : List ℕ)
    → filter (is_servable state) (map (at reads) ports) ≡ map (at reads) (filter (λ port. is_servable state (at reads port)) ports)
served-at reads state [] = refl
served-at reads state (first ∷ ports) = by_test (is_servable state (at reads first)) (served-at reads state ports)
  where
    by_test : (b : Bool)
        → filter (is_servable state) (map (at reads) ports) ≡ map (at reads) (filter (λ port. is_servable state (at reads port)) ports)
        → cond b (at reads first ∷ filter (is_servable state) (map (at reads) ports)) (filter (is_servable state) (map (at reads) ports))
        ≡ map (at reads) (kept b first (filter (λ port. is_servable state (at reads port)) ports))
    by_test true rest = ap (λ (ts : List Thing). at reads first ∷ ts) rest
    by_test false rest = rest

-- where nothing else can be served of what is set aside, what is to be read at these ports and then what is to be
-- written there is all that can be
pub called-touched : (state : State) (ports : List ℕ) (line : Line) → IsRisingList ports
    → IsRisingList line.aside.reads → IsRisingList line.aside.writes → IsStirred state ports line
    → called_each state (map Write ports) (called_each state (map Read ports) line) ≡ called_all state line
called-touched state ports line rising reads_rise writes_rise stirred =
    ap (called_each state (map Write ports)) (called_each-back true state ports line rising)
    ∙ called_each-back false state ports (back true line (came to_read ports aside.reads) (stays to_read ports aside.reads)) rising
    ∙ ap (λ (ns : List ℕ). line_of ns (came to_write ports aside.writes) aside.doors (stays to_read ports aside.reads) (stays to_write ports aside.writes))
    (came-all to_read ports aside.reads rising reads_rise read_among)
    ∙ ap (λ (ns : List ℕ). line_of (filter to_read aside.reads) ns aside.doors (stays to_read ports aside.reads) (stays to_write ports aside.writes))
    (came-all to_write ports aside.writes rising writes_rise write_among)
    ∙ ap (λ (ns : List ℕ). line_of (filter to_read aside.reads) (filter to_write aside.writes) aside.doors ns (stays to_write ports aside.writes))
    (stays-all to_read ports aside.reads read_among)
    ∙ ap (λ (ns : List ℕ). line_of (filter to_read aside.reads) (filter to_write aside.writes) aside.doors (filter (λ port. not (to_read port)) aside.reads) ns)
    (stays-all to_write ports aside.writes write_among)
    ∙ ap (λ (doors : List Door). line_of (filter to_read aside.reads) (filter to_write aside.writes) doors (filter (λ port. not (to_read port)) aside.reads) (filter (λ port. not (to_write port)) aside.writes))
    (sym (doors_all (λ door. not (is_servable state (Accept door))) aside.doors (λ door there. ap not (no_door door there))))
    ∙ ap (λ (things : List Thing). record (called_all state line) { queue = things })
    (append_assoc line.queue (map Read (filter to_read aside.reads)) (map Write (filter to_write aside.writes))
    ∙ ap (λ (things : List Thing). line.queue ++ things) (sym served))
  where
    aside : Aside
    aside = line.aside

    to_read : ℕ → Bool
    to_read = λ port. is_servable state (Read port)

    to_write : ℕ → Bool
    to_write = λ port. is_servable state (Write port)

    line_of : (reads writes : List ℕ) → List Door → (reads_left writes_left : List ℕ) → Line
    line_of reads writes doors reads_left writes_left = record line {
      queue = (line.queue ++ map Read reads) ++ map Write writes;
      aside = record { doors = doors; reads = reads_left; writes = writes_left };
    }

    read_among : (port : ℕ) → is_among port aside.reads ≡ true → to_read port ≡ true → is_among port ports ≡ true
    read_among port there able = stirred (Read port) (aside-read aside port ∙ there) able

    write_among : (port : ℕ) → is_among port aside.writes ≡ true → to_write port ≡ true
        → is_among port ports ≡ true
    write_among port there able = stirred (Write port) (aside-write aside port ∙ there) able

    no_door : (door : Door) → set_of (map Accept aside.doors) (Accept door) ≡ true
        → is_servable state (Accept door) ≡ false
    no_door door there = false_by (is_servable state (Accept door)) (λ able.
        let at_one : is_at_any ports (Accept door) ≡ true = stirred (Accept door) (aside-accept aside door ∙ there) able in
        cc)

    of_door : (thing : Thing) → set_of (map Accept aside.doors) thing ≡ true
        → is_servable state thing ≡ false
    of_door (Accept door) there = no_door door there
    of_door (Read port) there =
        let none : set_of (map Accept aside.doors) (Read port) ≡ false = accepts-read aside.doors port in cc
    of_door (Write port) there =
        let none : set_of (map Accept aside.doors) (Write port) ≡ false = accepts-write aside.doors port in cc

    served : filter (is_servable state) (things_aside aside)
        ≡ map Read (filter to_read aside.reads) ++ map Write (filter to_write aside.writes)
    served =
        filter-append (is_servable state) (map Accept aside.doors ++ map Read aside.reads) (map Write aside.writes)
        ∙ ap (λ (ts : List Thing). ts ++ filter (is_servable state) (map Write aside.writes))
        (filter-append (is_servable state) (map Accept aside.doors) (map Read aside.reads)
        ∙ ap (λ (ts : List Thing). ts ++ filter (is_servable state) (map Read aside.reads))
        (filter_none (is_servable state) (map Accept aside.doors) of_door)
        ∙ served-at true state aside.reads)
        ∙ ap (λ (ts : List Thing). map Read (filter to_read aside.reads) ++ ts) (served-at false state aside.writes)
