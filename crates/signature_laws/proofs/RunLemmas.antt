-- Over runs: what comes of an ask is the signer's answer to what was put for it.
use Rattle.std.proofs.Common.{◌≡◌, ◌⊎◌, inl, inr, ◌==◌, ℕ, if◌then◌else◌, Bool, true, false, List, [], ◌∷◌, ◌++◌, refl, sym, ap, subst, ◌∙◌}
use Rattle.world_ports.specs.declared.Moment.{Moment}
use Rattle.wire_text.specs.Bounds.{longest_body}
use Rattle.wire_text.specs.Frames.{Split, split}
use Rattle.wire_text.proofs.SplitLemmas.{split-append}
use Rattle.child_msg.specs.Messages.{False, FromChildMessage, Refused, Signed, ToChildMessage, True}
use Rattle.helper_link.specs.declared.answer.Answer.{Answer}
use Rattle.helper_link.specs.declared.answer.Answer.TheVariants as answer
use Rattle.agent_model.specs.Actions.{Action, Answered, Asked, Granted, Lost, Over, Proved, Raised, Requested}
use Rattle.agent_model.specs.Events.{Happening, Timed}
use Rattle.agent_model.specs.Fates.{Fails, Fate, Gets, Unanswered, fate_of, fate_verdict, or_later}
use Rattle.agent_model.specs.Grants.{IsAmong}
use Rattle.agent_model.specs.Runs.{Stamped, history, run}
use Rattle.agent_model.specs.State.{Settings, State, first_state}
use Rattle.agent_model.specs.Step.{step}
use Rattle.agent_model.specs.Time.{at_moment, time_passes}
use Rattle.agent_model.proofs.TimeLemmas.{AreEnds, end, loss, no_more, one_more, time_passes-ends}
use Rattle.agent_laws.specs.Answered.{Says, said_fate}
use Rattle.agent_laws.specs.Puts.{messages_of}
use Rattle.agent_laws.proofs.AnsweredLemmas.{first-answered}
use Rattle.agent_laws.proofs.StreamLemmas.{step-only, step-said}
use Rattle.signature_laws.specs.Lives.{AreSigned, AreSigners, IsBySigner, IsForBinding, IsOwn, Lead, Life, life_at, new_life}
use Rattle.signature_laws.specs.Lives as lives
use Rattle.signature_laws.specs.Signatures.{AreBySigner, IsIn, IsOfItsAsk}
use Rattle.signature_laws.proofs.LifeLemmas.{IsFollowed, followed-at, followed-first, followed-lead, has-life, put-behind, put-lead}
use Rattle.signature_laws.proofs.SignatureLemmas.{binding-of-put, in-behind, of-put}
use Rattle.signature_laws.proofs.StreamLemmas.{heard-in}
use Rattle.signature_laws.proofs.ToldLemmas.{message_for, said-body}

-- what a moment brings answers nothing
ends-fate : (ask : ℕ) (given : Answer) {actions : List Action} → AreEnds actions → fate_of ask actions ≡ Gets given → ⊥
ends-fate ask given no_more gets = absurd (cc)
ends-fate ask given (one_more action later loss rest) gets = absurd (cc)
ends-fate ask given (one_more action later (end job) rest) gets = ends-fate ask given rest gets

-- the answer that an event makes of an ask is what the helper's bytes say of it
record IsSaid (ask : ℕ) (given : Answer) (state : State) (event : Happening) : Type 0 where
  bytes : List ℕ
  says : Says state event bytes
  is : said_fate ask bytes state.under_way.link ≡ Gets given

is-said : (ask : ℕ) (given : Answer) (state : State) (moment : Moment) (event : Happening)
    → fate_of ask (step state moment event).actions ≡ Gets given → IsSaid ask given (at_moment moment state) event
is-said ask given state moment event gets = record {
  bytes = brought.0;
  says = brought.1;
  is = by_early (fate_of ask (time_passes moment state).actions) refl
      (sym (step-said ask brought.0 state moment event brought.1) ∙ gets);
}
  where
    brought : (bytes : List ℕ) × Says (at_moment moment state) event bytes
    brought = step-only ask given state moment event gets

    by_early : (early : Fate) → fate_of ask (time_passes moment state).actions ≡ early
        → or_later early (said_fate ask brought.0 (at_moment moment state).under_way.link) ≡ Gets given
        → said_fate ask brought.0 (at_moment moment state).under_way.link ≡ Gets given
    by_early Unanswered is later = later
    by_early (Gets other) is later = absurd (ends-fate ask other (time_passes-ends moment state) is)
    by_early Fails is later = absurd (cc)

-- what is put in a life is put in the run
put-run : (settings : Settings) (before : List Timed) (moment : Moment) (life : Life)
    → Lead (first_state settings) new_life before life → (message : ToChildMessage)
    → IsIn message (life_at (run (first_state settings) before) moment life).put
    → IsIn message (messages_of (first_state settings) before)
put-run settings before moment life lead message there = by_place (put-lead message lead (put-behind _ life message there))
  where
    by_place : IsIn message [] ⊎ IsIn message (messages_of (first_state settings) before)
        → IsIn message (messages_of (first_state settings) before)
    by_place (inl nowhere) = absurd nowhere
    by_place (inr put) = put

-- a body in what came is one of all that the helper said
body-in : (said bytes heard body : List ℕ) → heard ≡ (split longest_body said).rest
    → IsIn body (split longest_body (heard ++ bytes)).bodies → IsIn body (split longest_body (said ++ bytes)).bodies
body-in said bytes heard body is there =
    let parts : Split = split longest_body said in
    subst (IsIn body) (sym (ap (λ (s : Split). s.bodies) (split-append longest_body said bytes)))
    (in-behind body parts.bodies (split longest_body (parts.rest ++ bytes)).bodies
    (subst (λ (l : List ℕ). IsIn body (split longest_body (l ++ bytes)).bodies) is there))

-- a loss fails an ask
lost-among : (ask : ℕ) (actions : List Action) → fate_of ask actions ≡ Fails → IsAmong Lost actions
lost-among ask [] fails = absurd (cc)
lost-among ask (Requested requesting ∷ later) fails = inr (lost-among ask later fails)
lost-among ask (Asked asking ∷ later) fails = inr (lost-among ask later fails)
lost-among ask (Answered one ∷ later) fails = inr (by_test (one.ask == ask) (lost-among ask later) fails)
  where
    by_test : (is : Bool) → (fate_of ask later ≡ Fails → IsAmong Lost later)
        → or_later (if is then Gets one.answer else Unanswered) (fate_of ask later) ≡ Fails → IsAmong Lost later
    by_test true rest answered = absurd (cc)
    by_test false rest unanswered = rest unanswered
lost-among ask (Proved proving ∷ later) fails = inr (lost-among ask later fails)
lost-among ask (Raised raising ∷ later) fails = inr (lost-among ask later fails)
lost-among ask (Granted job ∷ later) fails = inr (lost-among ask later fails)
lost-among ask (Over job ∷ later) fails = inr (lost-among ask later fails)
lost-among ask (Lost ∷ later) fails = inl refl

-- what is to be said of an answer that is its ask's own
abbrev IsIts : List Stamped → ℕ → Answer → Type 0
IsIts actions ask (answer.Signed text) = IsOfItsAsk actions ask (Signed ask text)
IsIts actions ask answer.Refused = IsOfItsAsk actions ask (Refused ask)
IsIts actions ask answer.True = IsForBinding actions ask
IsIts actions ask answer.False = IsForBinding actions ask

module _ (settings : Settings) (events : List Timed) (signers : AreSigners (first_state settings) events) where
  abbrev start : State
  start = first_state settings

  -- the signer gave the answer, to what was put in the run before
  record IsAnswer (before : List Timed) (message : FromChildMessage) : Type 0 where
    life : Life
    moment : Moment
    bytes : List ℕ
    lead : Lead start new_life before life
    by : IsBySigner (life_at (run start before) moment life) bytes
    there : IsIn message by.answers

  is-answer : (before : List Timed) (one : Timed) (later : List Timed) (ask : ℕ) (given : Answer)
      → before ++ one ∷ later ≡ events → fate_of ask (step (run start before) one.moment one.event).actions ≡ Gets given
      → IsAnswer before (message_for ask given)
  is-answer before one later ask given whole gets =
      let state : State = run start before in
      let opened : State = at_moment one.moment state in
      let said = is-said ask given state one.moment one.event gets in
      let found = has-life start new_life before in
      let life : Life = life_at state one.moment found.last in
      let by = signers.each before one later found.last said.bytes whole found.lead said.says in
      let followed : IsFollowed opened life = followed-at state one.moment found.last (followed-lead found.lead (followed-first start refl)) in
      let body = said-body ask given said.bytes opened.under_way.link said.is in
      record {
        life = found.last;
        moment = one.moment;
        bytes = said.bytes;
        lead = found.lead;
        by = by;
        there = heard-in by.answers (life.said ++ said.bytes) body.body (message_for ask given) by.heard
            (body-in life.said said.bytes opened.under_way.link.heard body.body followed body.there) body.read;
      }

  -- this is the signature of its message, or a refusal where there is none, or of an ask for a binding
  is-its : (before : List Timed) (one : Timed) (later : List Timed) (ask : ℕ) (given : Answer)
      → before ++ one ∷ later ≡ events → fate_of ask (step (run start before) one.moment one.event).actions ≡ Gets given
      → IsIts (history start before) ask given
  is-its before one later ask given whole gets =
      let found = is-answer before one later ask given whole gets in
      let life : Life = life_at (run start before) found.moment found.life in
      by_answer given found.there (put-run settings before found.moment found.life found.lead) found.by.by
    where
      by_answer : {messages : List ToChildMessage} {answers : List FromChildMessage} (what : Answer)
          → IsIn (message_for ask what) answers
          → ((message : ToChildMessage) → IsIn message messages → IsIn message (messages_of start before))
          → AreBySigner messages answers → IsIts (history start before) ask what
      by_answer {messages} {answers} (answer.Signed text) there put by =
          of-put settings before messages answers ask (Signed ask text) put by there refl
      by_answer {messages} {answers} answer.Refused there put by =
          of-put settings before messages answers ask (Refused ask) put by there refl
      by_answer {messages} {answers} answer.True there put by =
          binding-of-put settings before messages answers ask (True ask) put by there refl
      by_answer {messages} {answers} answer.False there put by =
          binding-of-put settings before messages answers ask (False ask) put by there refl

  -- what comes of an ask, by what becomes of it
  is-own : (before : List Timed) (one : Timed) (later : List Timed) (ask : ℕ) → before ++ one ∷ later ≡ events
      → (fate : Fate) → fate_of ask (step (run start before) one.moment one.event).actions ≡ fate
      → IsOwn (history start before) (step (run start before) one.moment one.event).actions ask (fate_verdict fate ask)
  is-own before one later ask whole Unanswered is = lives.waits is
  is-own before one later ask whole (Gets (answer.Signed text)) is =
      lives.signature text (is-its before one later ask (answer.Signed text) whole is)
  is-own before one later ask whole (Gets answer.Refused) is =
      lives.refusal (is-its before one later ask answer.Refused whole is)
  is-own before one later ask whole (Gets answer.True) is =
      lives.right (is-its before one later ask answer.True whole is)
  is-own before one later ask whole (Gets answer.False) is =
      lives.wrong (is-its before one later ask answer.False whole is)
  is-own before one later ask whole Fails is =
      lives.loss (lost-among ask (step (run start before) one.moment one.event).actions is)

  pub are-signed : AreSigned start events
  are-signed = record {
    signed = λ before one later ask text whole gets. is-its before one later ask (answer.Signed text) whole gets;
    refused = λ before one later ask whole gets. is-its before one later ask answer.Refused whole gets;
    told = λ before one later number ask whole waits other untaken. record {
      verdict = fate_verdict (fate_of ask (step (run start before) one.moment one.event).actions) ask;
      told = ((first-answered settings events).steps before one later whole).told number ask waits other untaken;
      own = is-own before one later ask whole (fate_of ask (step (run start before) one.moment one.event).actions) refl;
    };
  }
