-- Lemmas on what open ports are owed by what is under way: which changes of that leave it.
use Rattle.std.proofs.Common.{◌≡◌, ◌≢◌, ℕ, List, [], ◌∷◌, ◌++◌, cond, refl, ap, sym, ◌∙◌, subst, Option, Some, None, Bool, true, false}
use Rattle.std.specs.Option.{option_map}
use Rattle.std.proofs.lemmas.Bool.{eq-eqb, eqb-true}
use Rattle.lists.specs.Firsts.{change_first, remove_first}
use Rattle.lists.proofs.FirstLemmas.{find-push_other}
use Rattle.lists.proofs.KeyedLemmas.{differ}
use Rattle.world_ports.specs.declared.Door.{Door}
use Rattle.world_ports.specs.declared.Door.TheVariants.{Clients, Children}
use Rattle.helper_link.specs.HelperLink.{sendable}
use Rattle.helper_link.specs.declared.state.LinkState.{LinkState}
use Rattle.helper_link.specs.declared.state.LinkState.TheVariants as states
use Rattle.confirm_desk.specs.Confirmations.{Confirmation, came_to, find_job, find_linked, is_at, job_of}
use Rattle.lists.specs.Keyed.{has_key}
use Rattle.lists.specs.Rising.{is_among}
use Rattle.agent_model.specs.State.{Port, State, UnderWay, find_port, is_linked_to, owed_as, owed_by, role_by_helper, role_by_link, role_of}
use Rattle.agent_model.proofs.PortsLemmas.{found_number}
use Rattle.agent_core.specs.Parts.{AreSpared}
use Rattle.agent_core.specs.Slots.{IsUntouched, MarkedPorts, Spares}

-- what the child process of a confirmation is owed
abbrev pub owed_at : Confirmation → List ℕ
owed_at one = one.owed

-- what a child process at this port is owed is the same by both
pub record IsAsOwed (port : ℕ) (old new : UnderWay) : Type 0 where
  pub helper : is_linked_to port new.link.state ≡ is_linked_to port old.link.state
  pub owed : is_linked_to port old.link.state ≡ true
      → sendable new.link.state new.link.owed ≡ sendable old.link.state old.link.owed
  pub desk : option_map owed_at (find_linked port new.confirmations) ≡ option_map owed_at (find_linked port old.confirmations)

-- one that isn't the helper
owed-link : (one other : Option Confirmation) (at : Port) (new old : UnderWay) → option_map owed_at one ≡ option_map owed_at other
    → owed_as (role_by_link one) at new ≡ owed_as (role_by_link other) at old
owed-link None None at new old same = refl
owed-link None (Some other) at new old same = absurd (cc)
owed-link (Some one) None at new old same = absurd (cc)
owed-link (Some one) (Some other) at new old same = cc

owed-child : (is : Bool) (at : Port) (new old : UnderWay) (one other : Option Confirmation)
    → (is ≡ true → sendable new.link.state new.link.owed ≡ sendable old.link.state old.link.owed)
    → option_map owed_at (find_linked at.number new.confirmations) ≡ option_map owed_at (find_linked at.number old.confirmations)
    → owed_as (role_by_helper is at.number new.confirmations) at new ≡ owed_as (role_by_helper is at.number old.confirmations) at old
owed-child true at new old one other owed desk = owed refl
owed-child false at new old one other owed desk =
    owed-link (find_linked at.number new.confirmations) (find_linked at.number old.confirmations) at new old desk

-- so is what any port is owed that is found
pub owed-alike : (port : ℕ) (ports : List Port) (old new : UnderWay)
    → ((at : Port) → find_port port ports ≡ Some at → IsAsOwed port old new)
    → owed_by (find_port port ports) new ≡ owed_by (find_port port ports) old
owed-alike port ports old new alike = by_found (find_port port ports) refl
  where
    by_door : (at : Port) → at.number ≡ port → IsAsOwed port old new → (door : Door) → at.door ≡ door
        → owed_as (role_of at.door at.number new) at new ≡ owed_as (role_of at.door at.number old) at old
    by_door at same is Clients door =
        ap (λ d. owed_as (role_of d at.number new) at new) door ∙ sym (ap (λ d. owed_as (role_of d at.number old) at old) door)
    by_door at same is Children door =
        let here : IsAsOwed at.number old new = subst (λ n. IsAsOwed n old new) (sym same) is in
        ap (λ d. owed_as (role_of d at.number new) at new) door
        ∙ ap (λ b. owed_as (role_by_helper b at.number new.confirmations) at new) here.helper
        ∙ owed-child (is_linked_to at.number old.link.state) at new old None None here.owed here.desk
        ∙ sym (ap (λ d. owed_as (role_of d at.number old) at old) door)

    by_found : (found : Option Port) → find_port port ports ≡ found → owed_by found new ≡ owed_by found old
    by_found None is = refl
    by_found (Some at) is = by_door at (found_number port ports at is) (alike at is) at.door refl

-- what is spared of the ports is spared where others are under way by which the child processes at these are owed the same
pub spared-by : (old new : MarkedPorts) (going left : UnderWay) → Spares old new
    → ((port : ℕ) (at : Port) → IsUntouched port new.closed new.touched → find_port port new.ports ≡ Some at → IsAsOwed port going left)
    → (was : State) → AreSpared was going old → AreSpared was left new
spared-by old new going left spares alike was spared port untouched =
    let same = spares port untouched in
    let before = spared port same.0 in (
      same.1 ∙ before.0,
      owed-alike port new.ports going left (λ at there. alike port at untouched there)
          ∙ ap (λ f. owed_by f going) same.1 ∙ before.1,
    )

-- and where the same is under way
pub spared-still : (old new : MarkedPorts) (going : UnderWay) → Spares old new → (was : State)
    → AreSpared was going old → AreSpared was going new
spared-still old new going spares was spared port untouched =
    let same = spares port untouched in
    let before = spared port same.0 in
    (same.1 ∙ before.0, ap (λ f. owed_by f going) same.1 ∙ before.1)

-- no change of the ports
pub spares-none : (ports : MarkedPorts) → Spares ports ports
spares-none ports port untouched = (untouched, refl)

-- one after another
pub spares-on : (old mid new : MarkedPorts) → Spares old mid → Spares mid new → Spares old new
spares-on old mid new first later port untouched =
    let left = later port untouched in
    let before = first port left.0 in
    (before.0, left.1 ∙ before.1)

-- ---- the helper

-- it is at one port
pub linked-same : (port : ℕ) (link : LinkState) → is_linked_to port link ≡ true → link ≡ states.Linked port
linked-same port states.None is = absurd (cc)
linked-same port (states.Starting job) is = absurd (cc)
linked-same port (states.Linked at) is = ap states.Linked (eqb-true at port is)

pub linked-here : (port : ℕ) → is_linked_to port (states.Linked port) ≡ true
linked-here port = eq-eqb port port refl

-- nothing of the helper or of the confirmations changes
pub as_owed-same : (port : ℕ) (old new : UnderWay) → new.link.state ≡ old.link.state → new.link.owed ≡ old.link.owed
    → new.confirmations ≡ old.confirmations → IsAsOwed port old new
as_owed-same port old new state owed desk = record {
  helper = ap (is_linked_to port) state;
  owed = λ is. ap (λ s. sendable s new.link.owed) state ∙ ap (sendable old.link.state) owed;
  desk = ap (λ cs. option_map owed_at (find_linked port cs)) desk;
}

-- the helper is at neither of these two, and the confirmations stay
pub as_owed-apart : (port : ℕ) (old new : UnderWay) → is_linked_to port new.link.state ≡ false
    → is_linked_to port old.link.state ≡ false
    → option_map owed_at (find_linked port new.confirmations) ≡ option_map owed_at (find_linked port old.confirmations)
    → IsAsOwed port old new
as_owed-apart port old new now before desk = record {
  helper = now ∙ sym before;
  owed = λ is. (let no : false ≡ true = sym before ∙ is in absurd (cc));
  desk = desk;
}

-- the same link, and confirmations by which the port is owed the same
pub as_owed-desk : (port : ℕ) (old new : UnderWay) → new.link ≡ old.link
    → option_map owed_at (find_linked port new.confirmations) ≡ option_map owed_at (find_linked port old.confirmations)
    → IsAsOwed port old new
as_owed-desk port old new link desk = record {
  helper = ap (λ (l : _). is_linked_to port l.state) link;
  owed = λ is. ap (λ (l : _). sendable l.state l.owed) link;
  desk = desk;
}

-- ---- the confirmations

-- the one that ends is at no port that is open
pub desk-removed : (port job : ℕ) (one : Confirmation) (all : List Confirmation) → find_job job all ≡ Some one
    → came_to port one ≡ false → find_linked port (remove_first (has_key job_of job) all) ≡ find_linked port all
desk-removed port job one [] found apart = refl
desk-removed port job one (first ∷ all) found apart =
    by_test (has_key job_of job first) found (desk-removed port job one all)
  where
    by_test : (is : Bool) → cond is (Some first) (find_job job all) ≡ Some one
        → (find_job job all ≡ Some one → came_to port one ≡ false → find_linked port (remove_first (has_key job_of job) all) ≡ find_linked port all)
        → find_linked port (cond is all (first ∷ remove_first (has_key job_of job) all)) ≡ find_linked port (first ∷ all)
    by_test true there later =
        let is : first ≡ one = cc in
        let fails : came_to port first ≡ false = ap (came_to port) is ∙ apart in
        sym (ap (λ b. cond b (Some first) (find_linked port all)) fails)
    by_test false there later = ap (cond (came_to port first) (Some first)) (later there apart)

-- the one that changes is at this port neither before nor after
pub desk-changed : (port job : ℕ) (f : Confirmation → Confirmation) (one : Confirmation) (all : List Confirmation)
    → find_job job all ≡ Some one → came_to port one ≡ false → came_to port (f one) ≡ false
    → find_linked port (change_first (has_key job_of job) f all) ≡ find_linked port all
desk-changed port job f one [] found before after = refl
desk-changed port job f one (first ∷ all) found before after =
    by_test (has_key job_of job first) found (desk-changed port job f one all)
  where
    by_test : (is : Bool) → cond is (Some first) (find_job job all) ≡ Some one
        → (find_job job all ≡ Some one → came_to port one ≡ false → came_to port (f one) ≡ false
        → find_linked port (change_first (has_key job_of job) f all) ≡ find_linked port all)
        → find_linked port (cond is (f first ∷ all) (first ∷ change_first (has_key job_of job) f all)) ≡ find_linked port (first ∷ all)
    by_test true there later =
        let is : first ≡ one = cc in
        let fails : came_to port first ≡ false = ap (came_to port) is ∙ before in
        let misses : came_to port (f first) ≡ false = ap (λ c. came_to port (f c)) is ∙ after in
        ap (λ b. cond b (Some (f first)) (find_linked port all)) misses
        ∙ sym (ap (λ b. cond b (Some first) (find_linked port all)) fails)
    by_test false there later = ap (cond (came_to port first) (Some first)) (later there before after)

-- one that is elsewhere
pub came-elsewhere : (port : ℕ) (one : Confirmation) → one.port ≢ Some port → came_to port one ≡ false
came-elsewhere port one apart = by_port one.port apart
  where
    by_port : (at : Option ℕ) → at ≢ Some port → is_at port at ≡ false
    by_port None apart = refl
    by_port (Some other) apart = differ other port (λ e. apart (ap Some e))

-- one that was raised is nowhere yet
pub desk-raised : (port : ℕ) (one : Confirmation) (all : List Confirmation) → one.port ≡ None
    → find_linked port (all ++ one ∷ []) ≡ find_linked port all
desk-raised port one all nowhere = find-push_other (came_to port) all one (ap (is_at port) nowhere)

-- ---- a port that is open

-- what would have closed it isn't so
pub open-false : (is : Bool) (port : ℕ) (ports : List Port) (at : Port) → (is ≡ true → find_port port ports ≡ None)
    → find_port port ports ≡ Some at → is ≡ false
open-false true port ports at gone there =
    let no : None ≡ Some at = sym (gone refl) ∙ there in
    absurd (cc)
open-false false port ports at gone there = refl

-- one that was touched is another
pub untouched-apart : (number port : ℕ) (closed touched : List ℕ) → is_among number touched ≡ true
    → IsUntouched port closed touched → number ≢ port
untouched-apart number port closed touched listed untouched here =
    let no : true ≡ false = sym listed ∙ ap (λ n. is_among n touched) here ∙ untouched.1 in
    absurd (cc)

-- and so is one that is open, where that isn't but for where it was touched
pub open-apart : (number port : ℕ) (ports : MarkedPorts) (at : Port)
    → (IsUntouched number ports.closed ports.touched → find_port number ports.ports ≡ None)
    → IsUntouched port ports.closed ports.touched → find_port port ports.ports ≡ Some at → number ≢ port
open-apart number port ports at gone untouched there here =
    let none : find_port port ports.ports ≡ None =
    subst (λ n. IsUntouched n ports.closed ports.touched → find_port n ports.ports ≡ None) here gone untouched in
    let no : None ≡ Some at = sym none ∙ there in
    absurd (cc)
