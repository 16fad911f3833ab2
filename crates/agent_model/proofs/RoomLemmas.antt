-- Whether one more ask may be put, and what stands against it.
use Rattle.std.proofs.Common.{◌≡◌, ◌≢◌, ◌-◌, ◌^◌, ◌||◌, List, length, nat_lt, nat_le, inl, inr, refl, ap, arith, subst, ◌∙◌, ◌==◌, if◌then◌else◌, Option, Some, None, Bool, true, false}
use Rattle.std.proofs.lemmas.Bool.Decides.{nat_tests}
use Rattle.helper_link.specs.HelperLink.{asked_len, is_full, most_asked, most_asks}
use Rattle.helper_link.specs.declared.ask.Ask.{Ask}
use Rattle.helper_link.specs.declared.state.LinkState.{LinkState}
use Rattle.helper_link.specs.declared.state.LinkState.TheVariants as states
use Rattle.agent_model.specs.Askable.{HasPlace, HasRoom, IsFull}
use Rattle.agent_model.specs.Errands.{ask_fault, ask_fault_by}
use Rattle.agent_model.specs.Limits.{last_number}
use Rattle.agent_model.specs.State.{UnderWay}
use Rattle.agent_model.specs.Verdicts.{AsksSpent, Cause, JobsSpent, TooManyAsks}

-- what stands against an ask
pub data RoomFor (under_way : UnderWay) : Option Cause → Type 0 where
  free : HasRoom under_way → RoomFor under_way None
  full : IsFull under_way.link.asks → RoomFor under_way (Some TooManyAsks)
  no_ask : HasPlace under_way.link.asks → under_way.link.last ≡ 2 ^ 64 - 1
      → RoomFor under_way (Some AsksSpent)
  no_job : HasPlace under_way.link.asks → under_way.link.last ≢ 2 ^ 64 - 1
      → under_way.link.state ≡ states.None → under_way.last_job ≡ 2 ^ 64 - 1
      → RoomFor under_way (Some JobsSpent)

-- ---- the places

-- what the test says
abbrev Places : Bool → List Ask → Type 0
Places true asks = IsFull asks
Places false asks = HasPlace asks

module _ (asks : List Ask) where
  place-by : (many heavy : Bool) → nat_lt (most_asks - 1) (length asks) ≡ many
      → nat_le most_asked (asked_len asks) ≡ heavy → Places (many || heavy) asks
  place-by true heavy many heavier = inl (grind (arith, nat_tests))
  place-by false true many heavy = inr (grind (arith, nat_tests))
  place-by false false many heavy = record { few = grind (arith, nat_tests); light = grind (arith, nat_tests) }

  -- by the test
  place-is : (is : Bool) → is_full asks ≡ is → Places is asks
  place-is is same = subst (λ (b : Bool). Places b asks) same (place-by _ _ refl refl)

  -- and the other way round
  pub is_full-not : HasPlace asks → is_full asks ≡ false
  is_full-not place =
      let many : nat_lt (most_asks - 1) (length asks) ≡ false = grind (arith, nat_tests, place.few) in
      let heavy : nat_le most_asked (asked_len asks) ≡ false = grind (arith, nat_tests, place.light) in
      rw (many, heavy) refl

  pub is_full-is : IsFull asks → is_full asks ≡ true
  is_full-is (inl more) =
      let many : nat_lt (most_asks - 1) (length asks) ≡ true = grind (arith, nat_tests, more) in rw many refl
  is_full-is (inr more) =
      let heavy : nat_le most_asked (asked_len asks) ≡ true = grind (arith, nat_tests, more) in
      ap (λ (b : Bool). nat_lt (most_asks - 1) (length asks) || b) heavy ∙ or_true (nat_lt (most_asks - 1) (length asks))
    where
      or_true : (b : Bool) → (b || true) ≡ true
      or_true true = refl
      or_true false = refl

-- ---- an ask

module _ (under_way : UnderWay) where
  room-job : (spent : Bool) → (under_way.last_job == last_number) ≡ spent
      → HasPlace under_way.link.asks → under_way.link.last ≢ 2 ^ 64 - 1
      → under_way.link.state ≡ states.None
      → RoomFor under_way (if spent then Some JobsSpent else None)
  room-job true is place numbers none = no_job place numbers none (grind (arith, nat_tests))
  room-job false is place numbers none =
      free record { place = place; numbers = numbers; jobs = λ state spent. grind (arith, nat_tests) }

  room-helper : (link : LinkState) → under_way.link.state ≡ link → HasPlace under_way.link.asks
      → under_way.link.last ≢ 2 ^ 64 - 1 → RoomFor under_way (ask_fault_by false false link under_way.last_job)
  room-helper states.None is place numbers =
      room-job (under_way.last_job == last_number) refl place numbers is
  room-helper (states.Starting job) is place numbers =
      free record { place = place; numbers = numbers; jobs = λ none. absurd (cc) }
  room-helper (states.Linked port) is place numbers =
      free record { place = place; numbers = numbers; jobs = λ none. absurd (cc) }

  room-by : (full_up spent : Bool) → is_full under_way.link.asks ≡ full_up
      → (under_way.link.last == last_number) ≡ spent
      → RoomFor under_way (ask_fault_by full_up spent under_way.link.state under_way.last_job)
  room-by true spent more is_spent = full (place-is under_way.link.asks true more)
  room-by false true more is_spent = no_ask (place-is under_way.link.asks false more) (grind (arith, nat_tests))
  room-by false false more is_spent =
      room-helper under_way.link.state refl (place-is under_way.link.asks false more) (λ is. grind (arith, nat_tests))

  -- by what is under way
  pub room-of : RoomFor under_way (ask_fault under_way)
  room-of = room-by _ _ refl refl

  fault_of : (full_up spent : Bool) → is_full under_way.link.asks ≡ full_up
      → (under_way.link.last == last_number) ≡ spent
      → ask_fault under_way ≡ ask_fault_by full_up spent under_way.link.state under_way.last_job
  fault_of full_up spent more is_spent =
      ap (λ b. ask_fault_by b (under_way.link.last == last_number) under_way.link.state under_way.last_job) more
      ∙ ap (λ b. ask_fault_by full_up b under_way.link.state under_way.last_job) is_spent

  -- ---- the other way round

  pub room-free : HasRoom under_way → ask_fault under_way ≡ None
  room-free room = fault_of false false (is_full-not under_way.link.asks room.place) (grind (arith, nat_tests, room.numbers)) ∙ by_link under_way.link.state refl
    where
      by_link : (link : LinkState) → under_way.link.state ≡ link
          → ask_fault_by false false link under_way.last_job ≡ None
      by_link states.None is =
          let apart : under_way.last_job ≢ 2 ^ 64 - 1 = room.jobs is in
          let unspent : (under_way.last_job == last_number) ≡ false = grind (arith, nat_tests) in
          ap (λ b. if b then Some JobsSpent else None) unspent
      by_link (states.Starting job) is = refl
      by_link (states.Linked port) is = refl

  pub room-full : IsFull under_way.link.asks → ask_fault under_way ≡ Some TooManyAsks
  room-full more = fault_of true _ (is_full-is under_way.link.asks more) refl

  pub room-no_ask : HasPlace under_way.link.asks → under_way.link.last ≡ 2 ^ 64 - 1
      → ask_fault under_way ≡ Some AsksSpent
  room-no_ask place spent = fault_of false true (is_full-not under_way.link.asks place) (grind (arith, nat_tests))

  pub room-no_job : HasPlace under_way.link.asks → under_way.link.last ≢ 2 ^ 64 - 1
      → under_way.link.state ≡ states.None → under_way.last_job ≡ 2 ^ 64 - 1
      → ask_fault under_way ≡ Some JobsSpent
  room-no_job place numbers none last =
      let spent : (under_way.last_job == last_number) ≡ true = grind (arith, nat_tests) in
      fault_of false false (is_full-not under_way.link.asks place) (grind (arith, nat_tests))
      ∙ ap (λ l. ask_fault_by false false l under_way.last_job) none ∙ ap (λ b. if b then Some JobsSpent else None) spent
