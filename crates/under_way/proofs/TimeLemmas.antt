-- What is late, by the oldest alone; and that answers leave no younger ask.
use Rattle.std.proofs.Common.{◌≡◌, ◌≢◌, ℕ, ◌+◌, ◌≤◌, min, nat_lt, not, ◌||◌, Bool, true, false, cond, List, [], ◌∷◌, ◌++◌, slice_get, Option, Some, None, refl, sym, ap, ◌∙◌, subst, arith}
use Rattle.std.specs.List.{find}
use Rattle.std.specs.Option.{option_map}
use Rattle.std.proofs.lemmas.Option.{none-some, same_Some}
use Rattle.std.proofs.lemmas.Bool.{ltb-false, ltb-true}
use Rattle.lists.specs.Keyed.{NeverFallBy, has_key}
use Rattle.lists.proofs.NeverFallLemmas.{up_to-remove}
use Rattle.helper_link.specs.Answered.{LeadTo}
use Rattle.helper_link.specs.HelperLink.{ArePutBy, HelperLink, earlier, oldest, second_of as put_second}
use Rattle.helper_link.specs.Settling.{number_of, remove_ask, settling}
use Rattle.helper_link.specs.Sound.{IsQuiet, IsSound}
use Rattle.helper_link.specs.Telling.{telling}
use Rattle.helper_link.specs.declared.answer.Settled.{Settled}
use Rattle.helper_link.specs.declared.ask.Ask.{Ask}
use Rattle.helper_link.specs.declared.state.LinkState.{LinkState}
use Rattle.helper_link.specs.declared.state.LinkState.TheVariants as states
use Rattle.helper_link.proofs.AnswerLemmas.{settling_leads}
use Rattle.confirm_desk.specs.Confirmations.{Confirmation, job_of, second_of as raised_second}
use Rattle.agent_model.specs.Time.{has_lasted, is_one_late}

-- ---- answers

-- those that answers leave were put by then as well
led : (settled : List Settled) (asks left : List Ask) (now : ℕ) → LeadTo settled asks left → ArePutBy now asks → ArePutBy now left
led [] asks left now leads put = subst (ArePutBy now) (sym leads) put
led (one ∷ later) asks left now leads put =
    led later (remove_ask one.ask asks) left now leads.1 (up_to-remove put_second (has_key number_of one.ask) now asks put)

pub put-told : (piece : List ℕ) (link : HelperLink) (now : ℕ) → ArePutBy now link.asks → ArePutBy now (telling piece link).link.asks
put-told piece link now put =
    let bytes = link.heard ++ piece in
    led (settling bytes link.asks).settled link.asks (settling bytes link.asks).asks now (settling_leads bytes link.asks) put

-- ---- what is late

-- the earlier of two seconds is late where one of them is
lasted-min : (limit : Option ℕ) (a b now : ℕ) → (has_lasted limit a now || has_lasted limit b now) ≡ has_lasted limit (min a b) now
lasted-min None a b now = refl
lasted-min (Some limit) a b now = by (nat_lt now (a + limit)) (nat_lt now (b + limit)) (nat_lt now (min a b + limit)) refl refl refl
  where
    by : (x y z : Bool) → nat_lt now (a + limit) ≡ x → nat_lt now (b + limit) ≡ y → nat_lt now (min a b + limit) ≡ z → (not x || not y) ≡ not z
    by true true true is_a is_b is = refl
    by true false false is_a is_b is = refl
    by false true false is_a is_b is = refl
    by false false false is_a is_b is = refl
    by true true false is_a is_b is =
        let below_a = ltb-true now (a + limit) is_a in let below_b = ltb-true now (b + limit) is_b in
        let above = ltb-false now (min a b + limit) is in absurd (omega (arith, below_a, below_b, above))
    by true false true is_a is_b is =
        let above = ltb-false now (b + limit) is_b in let below = ltb-true now (min a b + limit) is in absurd (omega (arith, above, below))
    by false true true is_a is_b is =
        let above = ltb-false now (a + limit) is_a in let below = ltb-true now (min a b + limit) is in absurd (omega (arith, above, below))
    by false false true is_a is_b is =
        let above = ltb-false now (a + limit) is_a in let below = ltb-true now (min a b + limit) is in absurd (omega (arith, above, below))

-- whether this second is there and late
abbrev late_at : Option ℕ → ℕ → Option ℕ → Bool
late_at limit now None = false
late_at limit now (Some since) = has_lasted limit since now

-- one of some asks is late where the oldest is
is_one_late-oldest : (limit : Option ℕ) (now : ℕ) (asks : List Ask) → is_one_late limit now asks ≡ late_at limit now (oldest asks)
is_one_late-oldest limit now [] = refl
is_one_late-oldest limit now (ask ∷ asks) =
    ap (λ (later : Bool). has_lasted limit ask.put_at now || later) (is_one_late-oldest limit now asks) ∙ by (oldest asks)
  where
    by : (other : Option ℕ) → (has_lasted limit ask.put_at now || late_at limit now other) ≡ has_lasted limit (earlier ask.put_at other) now
    by None = or-false (has_lasted limit ask.put_at now)
      where
        or-false : (b : Bool) → (b || false) ≡ b
        or-false true = refl
        or-false false = refl
    by (Some other) = lasted-min limit ask.put_at other now

pub none_late : (limit : Option ℕ) (now : ℕ) (asks : List Ask) → oldest asks ≡ None → false ≡ is_one_late limit now asks
none_late limit now asks none = sym (is_one_late-oldest limit now asks ∙ ap (late_at limit now) none)

pub one_late : (limit : Option ℕ) (now since : ℕ) (asks : List Ask) → oldest asks ≡ Some since → has_lasted limit since now ≡ is_one_late limit now asks
one_late limit now since asks some = sym (is_one_late-oldest limit now asks ∙ ap (late_at limit now) some)

-- an ask is unanswered only where a helper is there or is being started
pub some_asked : (link : HelperLink) (since : ℕ) → IsSound link → oldest link.asks ≡ Some since → link.state ≢ states.None
some_asked link since sound some = λ none.
    let quiet : IsQuiet states.None link = subst (λ (state : LinkState). IsQuiet state link) none sound.quiet in
    none-some since (sym (ap oldest quiet.0) ∙ some)

-- ---- the first late confirmation

-- what was raised later isn't late where what was raised before isn't
lasted-later : (limit : Option ℕ) (a b now : ℕ) → a ≤ b → has_lasted limit a now ≡ false → has_lasted limit b now ≡ false
lasted-later None a b now before not_yet = refl
lasted-later (Some limit) a b now before not_yet = by (nat_lt now (a + limit)) (nat_lt now (b + limit)) refl refl not_yet
  where
    by : (x y : Bool) → nat_lt now (a + limit) ≡ x → nat_lt now (b + limit) ≡ y → not x ≡ false → not y ≡ false
    by x true is_a is_b never = refl
    by true false is_a is_b never =
        let below = ltb-true now (a + limit) is_a in let above = ltb-false now (b + limit) is_b in absurd (omega (arith, below, above, before))
    by false false is_a is_b never = absurd cc

-- none is late where each was raised when this wasn't late or after that
none_later : (limit : Option ℕ) (since now : ℕ) (all : List Confirmation) → NeverFallBy raised_second since all → has_lasted limit since now ≡ false →
    find (λ one. has_lasted limit one.raised_at now) all ≡ None
none_later limit since now [] order not_yet = refl
none_later limit since now (one ∷ others) order not_yet =
    let never = lasted-later limit since one.raised_at now order.0 not_yet in
    ap (λ (late : Bool). cond late (Some one) (find (λ (o : Confirmation). has_lasted limit o.raised_at now) others)) never
    ∙ none_later limit one.raised_at now others order.1 never

-- none is where the first isn't
pub never_late : (limit : Option ℕ) (now : ℕ) (one : Confirmation) (all : List Confirmation) → NeverFallBy raised_second 0 all → Some one ≡ slice_get all 0 →
    has_lasted limit one.raised_at now ≡ false → None ≡ option_map job_of (find (λ (o : Confirmation). has_lasted limit o.raised_at now) all)
never_late limit now one [] order first is = refl
never_late limit now one (head ∷ others) order first is =
    let same : one ≡ head = same_Some one head first in
    let not_yet : has_lasted limit head.raised_at now ≡ false = ap (λ (o : Confirmation). has_lasted limit o.raised_at now) (sym same) ∙ is in
    sym (ap (option_map job_of) (none_later limit head.raised_at now (head ∷ others) ((omega arith, order.1)) not_yet))
