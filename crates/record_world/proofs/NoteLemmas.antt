-- What is kept after bytes came.
use Rattle.std.proofs.Common.{◌≡◌, ℕ, Bool, true, false, List, [], ◌∷◌, ◌++◌, get_or, set, Option, Some, None, Result, Ok, Err, OnOk, refl, sym, ap, ◌∙◌, append_assoc}
use Rattle.lists.specs.Firsts.{IsFirst}
use Rattle.lists.specs.Keyed.{change_by, has_key}
use Rattle.lists.proofs.FirstLemmas.{changed_to, found_there}
use Rattle.lists.proofs.KeyedLemmas.{found_key}
use Rattle.wire_text.specs.Bounds.{longest_body}
use Rattle.wire_text.specs.Frames.{Bad, Front, More, Whole, front, split}
use Rattle.world_ports.specs.declared.Door.{Door}
use Rattle.world_ports.specs.declared.Door.TheVariants.{Clients, Children}
use Rattle.redact_core.specs.Redaction.{Redacted, is_over, redacted_all}
use Rattle.record_world.specs.Recording.{Port, Recording, client_taken, find_port, hear_lines, heard, held, is_full, lines, number_of, rest_taken, taken, taken_by, with_due}

-- a port keeps its number
rest-number : (at : Front) (port : Port) (frames : Redacted) (rest : List ℕ) → (rest_taken at port frames rest).port.number ≡ port.number
rest-number (Bad announced) port frames rest = refl
rest-number (Whole body_len) port frames rest = refl
rest-number More port frames rest = refl

client-number : (is_bad : Bool) (port : Port) (piece : List ℕ) (passphrases : List (List ℕ)) → (client_taken is_bad port piece passphrases).port.number ≡ port.number
client-number true port piece passphrases = refl
client-number false port piece passphrases =
    let cut = split longest_body (port.unrecorded ++ piece) in
    rest-number (front longest_body cut.rest) port (redacted_all cut.bodies passphrases) cut.rest

taken-number : (door : Door) (port : Port) (piece : List ℕ) (passphrases : List (List ℕ)) → (taken_by door port piece passphrases).port.number ≡ port.number
taken-number Clients port piece passphrases = client-number port.is_bad port piece passphrases
taken-number Children port piece passphrases = refl

abbrev kept : Bool → List Port → List (List ℕ) → List ℕ → Recording
kept is_bound ports passphrases due = record { is_bound = is_bound; ports = ports; passphrases = passphrases; due = due }

kept-same : (b c : Bool) (p q : List Port) (s t : List (List ℕ)) (d e : List ℕ) → b ≡ c → p ≡ q → s ≡ t → d ≡ e → kept b p s d ≡ kept c q t e
kept-same b c p q s t d e bc pq st de =
    ap (λ (x : Bool). kept x p s d) bc ∙ ap (λ (x : List Port). kept c x s d) pq
    ∙ ap (λ (x : List (List ℕ)). kept c q x d) st ∙ ap (λ (x : List ℕ). kept c q t x) de

pub hears_of : {T E : Type 0} (result : Result T E) (number place : ℕ) (piece : List ℕ) (old : Recording) (is_bound : Bool) (ports : List Port) (here new : Port)
    (early late : List (List ℕ)) (due hearing text : List ℕ)
    → kept is_bound ports early (due ++ hearing) ≡ record old { due = [] } → IsFirst (has_key number_of number) ports place → here ≡ get_or ports place here
    → OnOk result (new ≡ held (taken here piece early).bytes (taken here piece early).port) → OnOk result (late ≡ (taken here piece early).passphrases)
    → OnOk result (text ≡ hearing ++ lines (hear_lines (taken here piece early)))
    → OnOk result (kept is_bound (set ports place new) late (due ++ text) ≡ with_due (heard (find_port number old.ports) piece old))
hears_of (Err want) number place piece old is_bound ports here new early late due hearing text same first there is_new is_late is_text = tt
hears_of (Ok value) number place piece old is_bound ports here new early late due hearing text same first there is_new is_late is_text =
    let bound : is_bound ≡ old.is_bound = ap (λ (r : Recording). r.is_bound) same in
    let all : ports ≡ old.ports = ap (λ (r : Recording). r.ports) same in
    let past : early ≡ old.passphrases = ap (λ (r : Recording). r.passphrases) same in
    let none : due ++ hearing ≡ [] = ap (λ (r : Recording). r.due) same in
    let found : find_port number ports ≡ Some here = found_there (has_key number_of number) ports place here first ∙ ap Some (sym there) in
    let is_number : here.number ≡ number = found_key number_of number ports here found in
    let of : List (List ℕ) → List Port = λ e. change_by number_of number (λ _. held (taken here piece e).bytes (taken here piece e).port) ports in
    kept-same is_bound old.is_bound (set ports place new)
    (change_by number_of (taken here piece old.passphrases).port.number (λ _. held (taken here piece old.passphrases).bytes (taken here piece old.passphrases).port) old.ports)
    late (taken here piece old.passphrases).passphrases (due ++ text) (lines (hear_lines (taken here piece old.passphrases)))
    bound
    (changed_to (has_key number_of number) (λ _. held (taken here piece early).bytes (taken here piece early).port) ports place here new first there is_new
    ∙ ap of past
    ∙ ap (λ (n : ℕ). change_by number_of n (λ _. held (taken here piece old.passphrases).bytes (taken here piece old.passphrases).port) ports)
    (sym (taken-number here.door here piece old.passphrases ∙ is_number))
    ∙ ap (λ (ps : List Port). change_by number_of (taken here piece old.passphrases).port.number (λ _. held (taken here piece old.passphrases).bytes (taken here piece old.passphrases).port) ps) all)
    (is_late ∙ ap (λ (e : List (List ℕ)). (taken here piece e).passphrases) past)
    (ap (λ (l : List ℕ). due ++ l) is_text ∙ sym (append_assoc due hearing (lines (hear_lines (taken here piece early))))
    ∙ ap (λ (l : List ℕ). l ++ lines (hear_lines (taken here piece early))) none
    ∙ ap (λ (e : List (List ℕ)). lines (hear_lines (taken here piece e))) past)
    ∙ sym (ap (λ (f : Option Port). with_due (heard f piece old)) (ap (find_port number) (sym all) ∙ found))

-- where the passphrases of a piece have no room, those that are kept then have none
pub full_of : (number place : ℕ) (piece : List ℕ) (old : Recording) (is_bound : Bool) (ports : List Port) (here : Port)
    (early : List (List ℕ)) (due : List ℕ)
    → kept is_bound ports early due ≡ record old { due = [] } → IsFirst (has_key number_of number) ports place
    → here ≡ get_or ports place here → is_over (taken here piece early).passphrases ≡ true
    → is_full (heard (find_port number old.ports) piece old).kept ≡ true
full_of number place piece old is_bound ports here early due same first there over =
    let all : ports ≡ old.ports = ap (λ (r : Recording). r.ports) same in
    let past : early ≡ old.passphrases = ap (λ (r : Recording). r.passphrases) same in
    let found : find_port number ports ≡ Some here = found_there (has_key number_of number) ports place here first ∙ ap Some (sym there) in
    ap (λ (f : Option Port). is_full (heard f piece old).kept) (ap (find_port number) (sym all) ∙ found)
    ∙ sym (ap (λ (e : List (List ℕ)). is_over (taken here piece e).passphrases) past) ∙ over

-- and where they have room, those that came have
pub fits_of : {T E : Type 0} (result : Result T E) (old : Recording) (is_bound : Bool) (ports : List Port)
    (early late : List (List ℕ)) (due : List ℕ) → kept is_bound ports early due ≡ record old { due = [] }
    → OnOk result (is_over early ≡ false → is_over late ≡ false) → OnOk result (is_full old ≡ false → is_over late ≡ false)
fits_of (Err want) old is_bound ports early late due same fits = tt
fits_of (Ok value) old is_bound ports early late due same fits =
    λ fine. fits (ap (λ (r : Recording). is_over r.passphrases) same ∙ fine)
