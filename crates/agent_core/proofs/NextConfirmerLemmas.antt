-- The next port that is owed bytes, where child processes ask the user.
use Rattle.std.proofs.Common.{◌≡◌, ℕ, ◌<◌, List, [], ◌∷◌, length, refl, ap, sym, subst, ◌∙◌, Option, Some, None, Bool, true, false, arith, nat_lt, ◌==◌, ◌&&◌, ◌⊎◌, inl, inr, if◌then◌else◌}
use Rattle.std.proofs.lemmas.Bool.Decides.{nat_tests}
use Rattle.world_ports.specs.declared.Door.{Door}
use Rattle.world_ports.specs.declared.Door.TheVariants.{Clients, Children}
use Rattle.confirm_desk.specs.Calls.{lesser, next_owed, owed_port}
use Rattle.confirm_desk.specs.Confirmations.{Confirmation, find_job, find_linked}
use Rattle.agent_model.specs.Asking.{AreAttended, AreRaised}
use Rattle.agent_model.specs.Sound.{IsRising}
use Rattle.agent_model.specs.State.{Port, UnderWay, find_port, is_linked_to, is_some_bytes, next_owed_in, owed_as, owed_by_port, role_by_helper, role_by_link, role_of}
use Rattle.agent_model.proofs.OpenLemmas.{none_linked, some_port}
use Rattle.agent_model.proofs.JobLemmas.{IsIn, behind, here, in-by_port, in-found, linked_port}
use Rattle.agent_model.proofs.PortsLemmas.{found_above, found_number}
use Rattle.agent_core.proofs.LeastLemmas.{IsLeast, least-lesser, least-same, least-unique}
use Rattle.agent_core.proofs.RoleLemmas.{linked_false}

-- ---- ports

-- the port of this number is open and owed bytes
abbrev pub IsOwed : ℕ → List Port → UnderWay → ℕ → Type 0
IsOwed after ports going n =
    (after < n) × ((port : Port) × (find_port n ports ≡ Some port) × (is_some_bytes (owed_by_port port going) ≡ true))

-- a port behind the first is found where it was
found_behind : (n : ℕ) (first port : Port) (ports : List Port) (high : ℕ) → IsRising first.number high ports → find_port n ports ≡ Some port → find_port n (first ∷ ports) ≡ Some port
found_behind n first port ports high rising found =
    let above : first.number < n = found_above n first.number high ports port rising found in
    let test : (first.number == n) ≡ false = grind (arith, nat_tests) in
    ap (λ (b : Bool). if b then Some first else find_port n ports) test ∙ found

-- one that is found is the first, or behind it
found_first : (n : ℕ) (first port : Port) (ports : List Port) → find_port n (first ∷ ports) ≡ Some port → ((n ≡ first.number) × (first ≡ port)) ⊎ (find_port n ports ≡ Some port)
found_first n first port ports found = by_test (first.number == n) refl found
  where
    by_test : (test : Bool) → (first.number == n) ≡ test → (if test then Some first else find_port n ports) ≡ Some port → ((n ≡ first.number) × (first ≡ port)) ⊎ (find_port n ports ≡ Some port)
    by_test true is there = inl (grind (arith, nat_tests), cc)
    by_test false is there = inr there

least-next : (after low high : ℕ) (ports : List Port) (going : UnderWay) → IsRising low high ports → IsLeast (next_owed_in after ports going) (IsOwed after ports going)
least-next after low high [] going rising = λ n owed. let no : None ≡ Some owed.1.0 = owed.1.1 in absurd (cc)
least-next after low high (first ∷ ports) going rising =
    by_tests (nat_lt after first.number) (is_some_bytes (owed_by_port first going)) refl refl (least-next after first.number high ports going rising.1)
  where
    forth : (n : ℕ) → IsOwed after ports going n → IsOwed after (first ∷ ports) going n
    forth n owed = (owed.0, (owed.1.0, found_behind n first owed.1.0 ports high rising.1 owed.1.1, owed.1.2))

    -- nothing is owed at the first
    rest : ((n : ℕ) → n ≡ first.number → after < n → is_some_bytes (owed_by_port first going) ≡ true → ⊥) → IsLeast (next_owed_in after ports going) (IsOwed after ports going) → IsLeast (next_owed_in after ports going) (IsOwed after (first ∷ ports) going)
    rest none least = least-same (next_owed_in after ports going) (IsOwed after ports going) (IsOwed after (first ∷ ports) going) forth (λ n owed.
        elim (found_first n first owed.1.0 ports owed.1.1) [
          | inl is ↦ absurd (none n is.0 owed.0 (ap (λ (p : Port). is_some_bytes (owed_by_port p going)) is.1 ∙ owed.1.2))
          | inr later ↦ (owed.0, (owed.1.0, later, owed.1.2))
        ]) least

    by_tests : (below owes : Bool) → nat_lt after first.number ≡ below → is_some_bytes (owed_by_port first going) ≡ owes → IsLeast (next_owed_in after ports going) (IsOwed after ports going) → IsLeast (if below && owes then Some first.number else next_owed_in after ports going) (IsOwed after (first ∷ ports) going)
    by_tests true true is owed least =
        let self : (first.number == first.number) ≡ true = grind (arith, nat_tests) in (
          (grind (arith, nat_tests), (first, ap (λ (b : Bool). if b then Some first else find_port first.number ports) self, owed)),
          λ m other. elim (found_first m first other.1.0 ports other.1.1) [
            | inl same ↦ omega (arith, same.0)
            | inr later ↦ (let above = found_above m first.number high ports other.1.0 rising.1 later in omega (arith, above))
          ],
        )
    by_tests true false is owed least = rest (λ n same below some. let no : false ≡ true = sym owed ∙ some in absurd (cc)) least
    by_tests false owes is owed least = rest (λ n same below some. let test : nat_lt after first.number ≡ true = grind (arith, nat_tests, same, below) in let no : false ≡ true = sym is ∙ test in absurd (cc)) least

-- ---- child processes that ask the user

-- a child process that asks is at the port of this number, and owed bytes
abbrev pub IsAskedAt : ℕ → List Confirmation → ℕ → Type 0
IsAskedAt after [] n = ⊥
IsAskedAt after (one ∷ others) n = ((one.port ≡ Some n) × (after < n) × (0 < length one.owed)) ⊎ IsAskedAt after others n

least-port : (after : ℕ) (port : Option ℕ) (owed : List ℕ) → IsLeast (owed_port after port owed) (λ n. (port ≡ Some n) × (after < n) × (0 < length owed))
least-port after None owed = λ n is. let no : None ≡ Some n = is.0 in absurd (cc)
least-port after (Some port) owed = by_tests (nat_lt after port) (nat_lt 0 (length owed)) refl refl
  where
    by_tests : (below some : Bool) → nat_lt after port ≡ below → nat_lt 0 (length owed) ≡ some → IsLeast (if below && some then Some port else None) (λ n. (Some port ≡ Some n) × (after < n) × (0 < length owed))
    by_tests true true is owes = ((refl, grind (arith, nat_tests), grind (arith, nat_tests)), λ m other. let same : port ≡ m = (let at : Some port ≡ Some m = other.0 in cc) in omega (arith, same))
    by_tests true false is owes = λ n other. let test : nat_lt 0 (length owed) ≡ true = grind (arith, nat_tests, other.2) in let no : false ≡ true = sym owes ∙ test in absurd (cc)
    by_tests false some is owes = λ n other. let same : port ≡ n = (let at : Some port ≡ Some n = other.0 in cc) in let test : nat_lt after port ≡ true = grind (arith, nat_tests, other.1) in let no : false ≡ true = sym is ∙ test in absurd (cc)

least-desk : (after : ℕ) (confirmations : List Confirmation) → IsLeast (next_owed after confirmations) (IsAskedAt after confirmations)
least-desk after [] = λ n no. no
least-desk after (one ∷ others) =
    least-lesser (owed_port after one.port one.owed) (next_owed after others) (λ n. (one.port ≡ Some n) × (after < n) × (0 < length one.owed)) (IsAskedAt after others) (least-port after one.port one.owed) (least-desk after others)

-- it is that of a confirmation
asked_in : (after : ℕ) (confirmations : List Confirmation) (n : ℕ) → IsAskedAt after confirmations n → (one : Confirmation) × IsIn one confirmations × (one.port ≡ Some n) × (after < n) × (0 < length one.owed)
asked_in after [] n asked = absurd asked
asked_in after (one ∷ others) n asked = elim asked [
  | inl is ↦ (one, here others, is.0, is.1, is.2)
  | inr later ↦ (let found = asked_in after others n later in (found.0, behind one others found.1, found.2, found.3, found.4))
]

in_asked : (after : ℕ) (one : Confirmation) (n : ℕ) {confirmations : List Confirmation} → IsIn one confirmations → one.port ≡ Some n → after < n → 0 < length one.owed → IsAskedAt after confirmations n
in_asked after one n (here others) at below some = inl (at, below, some)
in_asked after one n (behind other others there) at below some = inr (in_asked after one n there at below some)

-- ---- both

-- the same where nobody asks the user
abbrev pub alone : UnderWay → UnderWay
alone going = record going { confirmations = [] }

-- who is owed bytes then is owed them
alone_owed : (port : Port) (going : UnderWay) → is_some_bytes (owed_by_port port (alone going)) ≡ true → is_some_bytes (owed_by_port port going) ≡ true
alone_owed port going owed = by_door port.door owed
  where
    by_linked : (linked : Bool) → is_some_bytes (owed_as (role_by_helper linked port.number []) port (alone going)) ≡ true → is_some_bytes (owed_as (role_by_helper linked port.number going.confirmations) port going) ≡ true
    by_linked true some = some
    by_linked false some = absurd (cc)

    by_door : (door : Door) → is_some_bytes (owed_as (role_of door port.number (alone going)) port (alone going)) ≡ true → is_some_bytes (owed_as (role_of door port.number going) port going) ≡ true
    by_door Clients some = some
    by_door Children some = by_linked (is_linked_to port.number going.link.state) some

-- what is owed at a port is owed there without those who ask, or to one of them
owed_either : (after : ℕ) (port : Port) (going : UnderWay) → after < port.number → is_some_bytes (owed_by_port port going) ≡ true → (is_some_bytes (owed_by_port port (alone going)) ≡ true) ⊎ IsAskedAt after going.confirmations port.number
owed_either after port going below owed = by_door port.door owed
  where
    by_link : (found : Option Confirmation) → find_linked port.number going.confirmations ≡ found → is_some_bytes (owed_as (role_by_link found) port going) ≡ true → IsAskedAt after going.confirmations port.number
    by_link None is some = absurd (cc)
    by_link (Some one) is some =
        in_asked after one port.number (in-by_port port.number going.confirmations one is) (linked_port port.number going.confirmations one is) below (grind (arith, nat_tests, some))

    by_linked : (linked : Bool) → is_some_bytes (owed_as (role_by_helper linked port.number going.confirmations) port going) ≡ true → (is_some_bytes (owed_as (role_by_helper linked port.number []) port (alone going)) ≡ true) ⊎ IsAskedAt after going.confirmations port.number
    by_linked true some = inl some
    by_linked false some = inr (by_link (find_linked port.number going.confirmations) refl some)

    by_door : (door : Door) → is_some_bytes (owed_as (role_of door port.number going) port going) ≡ true → (is_some_bytes (owed_as (role_of door port.number (alone going)) port (alone going)) ≡ true) ⊎ IsAskedAt after going.confirmations port.number
    by_door Clients some = inl some
    by_door Children some = by_linked (is_linked_to port.number going.link.state) some

module _ (ports : List Port) (going : UnderWay) (last_port : ℕ) (raised : AreRaised going.confirmations going.last_job ports last_port) (attended : AreAttended going.confirmations going.link.state ports) where
  -- the confirmation that is at a port is found there
  linked_there : (n : ℕ) (one : Confirmation) → IsIn one going.confirmations → one.port ≡ Some n → find_linked n going.confirmations ≡ Some one
  linked_there n one there at = by_found (find_linked n going.confirmations) refl
    where
      by_found : (found : Option Confirmation) → find_linked n going.confirmations ≡ found → found ≡ Some one
      by_found None is = absurd (none_linked n one there is at)
      by_found (Some other) is =
          let found_one = in-found one 0 going.last_job raised.order there in
          let found_other = in-found other 0 going.last_job raised.order (in-by_port n going.confirmations other is) in
          let same : one.job ≡ other.job = attended.apart one.job other.job n one other found_one found_other at (linked_port n going.confirmations other is) in
          sym found_other ∙ ap (λ j. find_job j going.confirmations) (sym same) ∙ found_one

  -- its port is open, and owed its bytes
  asked_owed : (after n : ℕ) (one : Confirmation) → IsIn one going.confirmations → one.port ≡ Some n → after < n → 0 < length one.owed → IsOwed after ports going n
  asked_owed after n one there at below some =
      let found_one = in-found one 0 going.last_job raised.order there in
      let open_port = some_port n ports (attended.confirmers one.job n one found_one at) in
      let port = open_port.0 in
      let child : port.door ≡ Children = raised.confirmers one.job n one port found_one at open_port.1 in
      let number : port.number ≡ n = found_number n ports port open_port.1 in
      let other : is_linked_to n going.link.state ≡ false = linked_false n going.link.state (attended.helper one.job n one found_one at) in
      let owed : owed_by_port port going ≡ one.owed =
      ap (λ d. owed_as (role_of d port.number going) port going) child
      ∙ ap (λ m. owed_as (role_of Children m going) port going) number
      ∙ ap (λ l. owed_as (role_by_helper l n going.confirmations) port going) other
      ∙ ap (λ f. owed_as (role_by_link f) port going) (linked_there n one there at) in
      let test : is_some_bytes one.owed ≡ true = grind (arith, nat_tests, some) in
      (below, (port, open_port.1, ap is_some_bytes owed ∙ test))

  -- the next is that without those who ask, or one of them
  pub next-confirmed : (after high : ℕ) → IsRising 0 high ports → next_owed_in after ports going ≡ lesser (next_owed_in after ports (alone going)) (next_owed after going.confirmations)
  next-confirmed after high rising =
      least-unique (next_owed_in after ports going) (lesser (next_owed_in after ports (alone going)) (next_owed after going.confirmations)) (IsOwed after ports going) (least-next after 0 high ports going rising)
      (least-same (lesser (next_owed_in after ports (alone going)) (next_owed after going.confirmations)) (λ n. IsOwed after ports (alone going) n ⊎ IsAskedAt after going.confirmations n) (IsOwed after ports going)
      (λ n either. elim either [
        | inl owed ↦ (owed.0, (owed.1.0, owed.1.1, alone_owed owed.1.0 going owed.1.2))
        | inr asked ↦ (let one = asked_in after going.confirmations n asked in asked_owed after n one.0 one.1 one.2 one.3 one.4)
      ])
      (λ n owed.
      let port = owed.1.0 in
      let number : port.number ≡ n = found_number n ports port owed.1.1 in
      let below : after < port.number = omega (arith, owed.0, number) in
      elim (owed_either after port going below owed.1.2) [
        | inl some ↦ inl (owed.0, (port, owed.1.1, some))
        | inr asked ↦ inr (subst (IsAskedAt after going.confirmations) number asked)
      ])
      (least-lesser (next_owed_in after ports (alone going)) (next_owed after going.confirmations) (IsOwed after ports (alone going)) (IsAskedAt after going.confirmations) (least-next after 0 high ports (alone going) rising) (least-desk after going.confirmations)))
