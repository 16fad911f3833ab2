-- Lemmas on specs/Apart.antt: ports that are the same but for what insiders sent and are owed.
use Rattle.std.proofs.Common.{◌≡◌, ℕ, suc, List, [], ◌∷◌, ◌++◌, refl, ap, sym, subst, ◌∙◌, ◌==◌, Option, Some, None, Bool, true, false, cond, if◌then◌else◌}
use Rattle.world_ports.specs.declared.Door.{Door}
use Rattle.helper_link.specs.declared.state.LinkState.{LinkState}
use Rattle.helper_link.specs.declared.state.LinkState.TheVariants as states
use Rattle.agent_model.specs.Answers.{close_helper, tell_each}
use Rattle.agent_model.specs.State.{Port, UnderWay, change_port, client_count, find_port, is_client, is_unnamed, remove_port, role_of, unnamed_count}
use Rattle.agent_model.specs.Verdicts.{Verdict, tell}
use Rattle.agent_laws.specs.Apart.{AreAlikePorts, Insiders, IsAlikePort}

-- a change that leaves which port it is
pub record KeepsPlace (f : Port → Port) : Type 0 where
  pub number : (p : Port) → (f p).number ≡ p.number
  pub door : (p : Port) → (f p).door ≡ p.door

pub keeps-tell : (verdict : Verdict) → KeepsPlace (tell verdict)
keeps-tell verdict = record { number = λ p. refl; door = λ p. refl }

module _ (who : Insiders) where
  pub alike-itself : (port : Port) → IsAlikePort who port port
  alike-itself port = record { number = refl; door = refl; outsider = λ outside. refl }

  pub ports-itself : (ports : List Port) → AreAlikePorts who ports ports
  ports-itself [] = tt
  ports-itself (port ∷ ports) = (alike-itself port, ports-itself ports)

  alike_changed : (f g : Port → Port) → KeepsPlace f → KeepsPlace g → ((p : Port) → f p ≡ g p)
      → {one two : Port} → IsAlikePort who one two → IsAlikePort who (f one) (g two)
  alike_changed f g keeps keeps_two same {one = one} {two = two} alike = record {
    number = keeps.number one ∙ alike.number ∙ sym (keeps_two.number two);
    door = keeps.door one ∙ alike.door ∙ sym (keeps_two.door two);
    outsider = λ outside. same one ∙ ap g (alike.outsider (sym (ap who.is_insider (keeps.number one)) ∙ outside));
  }

  -- alike ports stay alike where the port of a number is changed in both by functions that agree
  module _ (number : ℕ) (f g : Port → Port) (keeps : KeepsPlace f) (keeps_two : KeepsPlace g) (same : (p : Port) → f p ≡ g p) where
    changed_by : (test : Bool) (one two : Port) (ones twos : List Port) → IsAlikePort who one two
        → AreAlikePorts who ones twos
        → AreAlikePorts who (change_port number f ones) (change_port number g twos)
        → AreAlikePorts who (cond test (f one ∷ ones) (one ∷ change_port number f ones)) (cond test (g two ∷ twos) (two ∷ change_port number g twos))
    changed_by true one two ones twos alike rest later =
        (alike_changed f g keeps keeps_two same alike, rest)
    changed_by false one two ones twos alike rest later = (alike, later)

    pub ports-changed : (ones twos : List Port) → AreAlikePorts who ones twos
        → AreAlikePorts who (change_port number f ones) (change_port number g twos)
    ports-changed [] [] alike = tt
    ports-changed [] (two ∷ twos) alike = absurd alike
    ports-changed (one ∷ ones) [] alike = absurd alike
    ports-changed (one ∷ ones) (two ∷ twos) alike =
        subst (λ n. AreAlikePorts who (change_port number f (one ∷ ones)) (cond (n == number) (g two ∷ twos) (two ∷ change_port number g twos))) alike.0.number
        (changed_by (one.number == number) one two ones twos alike.0 alike.1 (ports-changed ones twos alike.1))

  module _ (number : ℕ) where
    removed_by : (test : Bool) (one two : Port) (ones twos : List Port) → IsAlikePort who one two
        → AreAlikePorts who ones twos
        → AreAlikePorts who (remove_port number ones) (remove_port number twos)
        → AreAlikePorts who (cond test ones (one ∷ remove_port number ones)) (cond test twos (two ∷ remove_port number twos))
    removed_by true one two ones twos alike rest later = rest
    removed_by false one two ones twos alike rest later = (alike, later)

    pub ports-removed : (ones twos : List Port) → AreAlikePorts who ones twos
        → AreAlikePorts who (remove_port number ones) (remove_port number twos)
    ports-removed [] [] alike = tt
    ports-removed [] (two ∷ twos) alike = absurd alike
    ports-removed (one ∷ ones) [] alike = absurd alike
    ports-removed (one ∷ ones) (two ∷ twos) alike =
        subst (λ n. AreAlikePorts who (remove_port number (one ∷ ones)) (cond (n == number) twos (two ∷ remove_port number twos))) alike.0.number
        (removed_by (one.number == number) one two ones twos alike.0 alike.1 (ports-removed ones twos alike.1))

  pub ports-joined : (more : List Port) (ones twos : List Port) → AreAlikePorts who ones twos
      → AreAlikePorts who (ones ++ more) (twos ++ more)
  ports-joined more [] [] alike = ports-itself more
  ports-joined more [] (two ∷ twos) alike = absurd alike
  ports-joined more (one ∷ ones) [] alike = absurd alike
  ports-joined more (one ∷ ones) (two ∷ twos) alike = (alike.0, ports-joined more ones twos alike.1)

  -- ---- the port of a number

  pub data FindsPorts : Option Port → Option Port → Type 0 where
    neither : FindsPorts None None
    found : (one two : Port) → IsAlikePort who one two → FindsPorts (Some one) (Some two)

  module _ (number : ℕ) where
    found_by : (test : Bool) {one two : Port} {a b : Option Port} → IsAlikePort who one two
        → FindsPorts a b → FindsPorts (cond test (Some one) a) (cond test (Some two) b)
    found_by true {one = one} {two = two} alike later = found one two alike
    found_by false alike later = later

    pub ports-found : (ones twos : List Port) → AreAlikePorts who ones twos
        → FindsPorts (find_port number ones) (find_port number twos)
    ports-found [] [] alike = neither
    ports-found [] (two ∷ twos) alike = absurd alike
    ports-found (one ∷ ones) [] alike = absurd alike
    ports-found (one ∷ ones) (two ∷ twos) alike =
        subst (λ n. FindsPorts (find_port number (one ∷ ones)) (cond (n == number) (Some two) (find_port number twos))) alike.0.number
        (found_by (one.number == number) {one = one} {two = two} alike.0 (ports-found ones twos alike.1))

  -- ---- how many are open

  pub clients-alike : (ones twos : List Port) → AreAlikePorts who ones twos
      → client_count ones ≡ client_count twos
  clients-alike [] [] alike = refl
  clients-alike [] (two ∷ twos) alike = absurd alike
  clients-alike (one ∷ ones) [] alike = absurd alike
  clients-alike (one ∷ ones) (two ∷ twos) alike =
      ap (λ (n : ℕ). if is_client one.door then suc n else n) (clients-alike ones twos alike.1)
      ∙ ap (λ (d : Door). if is_client d then suc (client_count twos) else client_count twos) alike.0.door

  pub unnamed-alike : (under_way : UnderWay) (ones twos : List Port) → AreAlikePorts who ones twos
      → unnamed_count under_way ones ≡ unnamed_count under_way twos
  unnamed-alike under_way [] [] alike = refl
  unnamed-alike under_way [] (two ∷ twos) alike = absurd alike
  unnamed-alike under_way (one ∷ ones) [] alike = absurd alike
  unnamed-alike under_way (one ∷ ones) (two ∷ twos) alike =
      ap (λ (n : ℕ). if is_unnamed (role_of one.door one.number under_way) then suc n else n) (unnamed-alike under_way ones twos alike.1)
      ∙ ap (λ (d : Door). if is_unnamed (role_of d one.number under_way) then suc (unnamed_count under_way twos) else unnamed_count under_way twos) alike.0.door
      ∙ ap (λ (n : ℕ). if is_unnamed (role_of two.door n under_way) then suc (unnamed_count under_way twos) else unnamed_count under_way twos) alike.0.number

  -- ---- the helper is lost

  pub ports-told : (verdict : Verdict) (numbers : List ℕ) (ones twos : List Port)
      → AreAlikePorts who ones twos
      → AreAlikePorts who (tell_each verdict numbers ones) (tell_each verdict numbers twos)
  ports-told verdict [] ones twos alike = alike
  ports-told verdict (number ∷ others) ones twos alike =
      ports-told verdict others (change_port number (tell verdict) ones) (change_port number (tell verdict) twos)
      (ports-changed number (tell verdict) (tell verdict) (keeps-tell verdict) (keeps-tell verdict) (λ p. refl) ones twos alike)

  pub ports-helper_closed : (link : LinkState) (ones twos : List Port) → AreAlikePorts who ones twos
      → AreAlikePorts who (close_helper link ones) (close_helper link twos)
  ports-helper_closed states.None ones twos alike = alike
  ports-helper_closed (states.Starting job) ones twos alike = alike
  ports-helper_closed (states.Linked port) ones twos alike = ports-removed port ones twos alike

  -- ---- one relation behind another

  alike-in_turn : {one two three : Port} → IsAlikePort who one two → IsAlikePort who two three
      → IsAlikePort who one three
  alike-in_turn first later = record {
    number = first.number ∙ later.number;
    door = first.door ∙ later.door;
    outsider = λ outside. first.outsider outside ∙ later.outsider (sym (ap who.is_insider first.number) ∙ outside);
  }

  pub ports-in_turn : (ones twos threes : List Port) → AreAlikePorts who ones twos
      → AreAlikePorts who twos threes → AreAlikePorts who ones threes
  ports-in_turn [] [] threes first later = later
  ports-in_turn [] (two ∷ twos) threes first later = absurd first
  ports-in_turn (one ∷ ones) [] threes first later = absurd first
  ports-in_turn (one ∷ ones) (two ∷ twos) [] first later = absurd later
  ports-in_turn (one ∷ ones) (two ∷ twos) (three ∷ threes) first later =
      (alike-in_turn first.0 later.0, ports-in_turn ones twos threes first.1 later.1)

  pub ports-turned : (ones twos : List Port) → AreAlikePorts who ones twos
      → AreAlikePorts who twos ones
  ports-turned [] [] alike = tt
  ports-turned [] (two ∷ twos) alike = absurd alike
  ports-turned (one ∷ ones) [] alike = absurd alike
  ports-turned (one ∷ ones) (two ∷ twos) alike = (
    record {
      number = sym alike.0.number;
      door = sym alike.0.door;
      outsider = λ outside. sym (alike.0.outsider (ap who.is_insider alike.0.number ∙ outside));
    },
    ports-turned ones twos alike.1,
  )
