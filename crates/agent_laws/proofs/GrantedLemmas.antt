-- The user's consent puts what is due behind it, and the end of a confirmation agrees with the past.
use Rattle.std.proofs.Common.{◌≡◌, ◌≢◌, ℕ, ◌+◌, ◌-◌, ◌^◌, ◌<◌, List, [], ◌∷◌, ◌++◌, refl, ap, arith, sym, subst, ◌∙◌, Option, Some, None, IsSomeAnd, Bool, true, false, is_some, not, ◌&&◌, ◌==◌, if◌then◌else◌}
use Rattle.std.specs.Option.{is_none, option_map}
use Rattle.std.proofs.lemmas.Bool.{false_from_ne_true}
use Rattle.std.proofs.lemmas.Bool.Decides.{nat_tests}
use Rattle.agent_msg.specs.Requests.{Signing}
use Rattle.confirm_desk.specs.Confirmations.{Confirmation, remove_job}
use Rattle.dest_rule.specs.Rules.{denial_under}
use Rattle.key_purposes.specs.Messages.{let_sign}
use Rattle.dest_rule.specs.declared.binding.Binding.{Binding}
use Rattle.dest_rule.specs.declared.denial.Denial.{Denial}
use Rattle.helper_link.specs.HelperLink.{is_full}
use Rattle.identity_table.specs.Identities.{HeldKey, find_identity, find_number}
use Rattle.identity_table.proofs.FindLemmas.{found_has, if_alive}
use Rattle.identity_table.proofs.NumberLaws.{blob_of_numbered, number_of_found}
use Rattle.identity_table.proofs.NumberLemmas.{found_has_number}
use Rattle.agent_model.specs.Actions.{Granted, Over, Raising, Work, settles}
use Rattle.agent_model.specs.Askable.{HasPlace, IsGrantable}
use Rattle.agent_model.specs.Asking.{JobsRise}
use Rattle.agent_model.specs.Consents.{grant_concluded, over, signing_of, without_confirmation}
use Rattle.agent_model.specs.Errands.{Signs, asking_of, message_of, put_unless}
use Rattle.agent_model.specs.KeyStates.{KeyState, after_use}
use Rattle.agent_model.specs.Objections.{objection}
use Rattle.agent_model.specs.Runs.{Stamped}
use Rattle.agent_model.specs.State.{Port, State, UnderWay, find_port}
use Rattle.agent_model.specs.Verdicts.{Cause, NoLongerAllowed, Refuses}
use Rattle.agent_model.proofs.GrantLemmas.{IsGranted, allowed, disallowed, unasked}
use Rattle.agent_model.proofs.JobLemmas.{IsIn, in-found}
use Rattle.agent_model.proofs.RoomLemmas.{RoomFor, free, full, is_full-is, is_full-not, no_ask, no_job, room-of}
use Rattle.agent_model.proofs.SizeLemmas.{size_of}
use Rattle.agent_laws.specs.Dues.{Claim, due_signing, is_met, is_place, met_by, open_asks, proved_of, raised_at}
use Rattle.agent_laws.specs.Past.{PastAddition, held_by}
use Rattle.agent_laws.specs.Puts.{IsMessage, asks, passes}
use Rattle.agent_laws.specs.Puts as puts
use Rattle.agent_laws.proofs.DueLemmas.{all_pass, as_one, met_with, third_fails}
use Rattle.agent_laws.proofs.HoldsLemmas.{Facts, Holds, Made, facts_of, key_of, made_of, numbers-used, used-holds}
use Rattle.agent_laws.proofs.MessageLemmas.{private-held, puts-silent, sign-message}
use Rattle.agent_laws.proofs.PastLemmas.{stamp}
use Rattle.agent_laws.proofs.RaisedLemmas.{AllRaised, IsRaised, all_raised-kept, all_raised-more, all_raised-over}
use Rattle.agent_laws.proofs.PlaceLemmas.{parts_of, place-same}
use Rattle.agent_laws.proofs.StepLemmas.{Agrees, Goes, Opened, due_as, parts-append}

-- ---- a confirmation ends

not_over : (over job : ℕ) → over ≢ job → (over == job) ≡ false
not_over over job other = grind (arith, nat_tests)

pub over-agrees : {N : Type 0} (life : Option ℕ) (past : List Stamped) (confirmation : Confirmation) (state : State)
    → JobsRise 0 state.under_way.confirmations state.under_way.last_job → Opened N life past state
    → Agrees N life state.moment.mono (stamp state.moment (Over confirmation.job) ∷ past) state.held state.under_way.link.asks (remove_job confirmation.job state.under_way.confirmations)
over-agrees life past confirmation state order opened =
    let holds = opened.agrees.holds in
    record {
      holds = record { locked = holds.locked; count = holds.count; default = holds.default; own = holds.own; numbers = holds.numbers; found = holds.found };
      opens = opened.agrees.opens;
      raised = all_raised-over past _ state.held confirmation.job 0 state.under_way.last_job state.under_way.confirmations order
          (λ job other. ap (λ b. if b then None else raised_at job past) (not_over confirmation.job job other)) opened.agrees.raised;
      idle = λ n. refl;
    }

-- ---- consent

pub all_parts : (a b c d : Bool) → (a && (b && (c && d))) ≡ true
    → (a ≡ true) × (b ≡ true) × (c ≡ true) × (d ≡ true)
all_parts true true true true is = (refl, refl, refl, refl)
all_parts true true true false is = absurd (cc)
all_parts true true false d is = absurd (cc)
all_parts true false c d is = absurd (cc)
all_parts false b c d is = absurd (cc)

-- what a consent claims: what the user was asked for, of the very addition
abbrev pub claimed_by : Raising → Claim
claimed_by raising = record { port = raising.port; addition = Some raising.addition; signing = raising.signing }

pub none_if_permitted : (result : Option Denial) → is_none result ≡ true → result ≡ None
none_if_permitted None is = refl
none_if_permitted (Some denial) is = absurd (cc)

none_objects : (result : Option Cause) → is_none result ≡ true → result ≡ None
none_objects None is = refl
none_objects (Some cause) is = absurd (cc)

none_if_not : (lock : Option (List ℕ)) → not (is_some lock) ≡ true → lock ≡ None
none_if_not None is = refl
none_if_not (Some passphrase) is = absurd (cc)

module _ (life : Option ℕ) (second wall : ℕ) (facts : Facts) (held : KeyState) (under_way : UnderWay) (opens : List (ℕ × ℕ)) (chain : List Binding) (confirmation : Confirmation) (holds : Holds life second facts held) (fresh : (blob : List ℕ) → if_alive second (find_identity blob held.table.identities) ≡ find_identity blob held.table.identities) (same : opens ≡ parts_of under_way.link.asks) (raising : Raising) (addition : raising.addition ≡ confirmation.addition) (message : raising.signing.message ≡ confirmation.message) (flags : raising.signing.flags ≡ confirmation.flags) (blob : (key : HeldKey) → find_number confirmation.addition held.table.identities ≡ Some key → key.blob ≡ raising.signing.blob) where
  abbrev claim : Claim
  claim =
      record { port = raising.port; addition = Some raising.addition; signing = raising.signing }

  abbrev held_now : Option PastAddition
  held_now = held_by (facts.last raising.signing.blob) life second

  abbrev is_due : Option PastAddition → Bool
  is_due past = is_met past claim chain wall opens facts.locked

  abbrev due : Option Claim
  due = if is_due held_now then Some claim else None

  abbrev permits : HeldKey → Bool
  permits key =
      is_none (objection key raising.signing.blob chain raising.signing.message raising.signing.flags wall)

  abbrev few : Bool
  few = is_place opens

  told : find_identity raising.signing.blob held.table.identities ≡ option_map (key_of life) held_now
  told = sym (fresh raising.signing.blob) ∙ holds.found raising.signing.blob second (omega arith)

  -- what the addition's number finds was so made, and is of that addition
  made : (key : HeldKey) → find_number confirmation.addition held.table.identities ≡ Some key
      → Made life held_now key
  made key found =
      made_of life held_now key
      (sym (ap (λ b. find_identity b held.table.identities) (sym (blob key found)) ∙ blob_of_numbered confirmation.addition held.table.identities key holds.own found) ∙ told)

  numbered : (key : HeldKey) → find_number confirmation.addition held.table.identities ≡ Some key
      → (made : Made life held_now key) → (made.past.number == raising.addition) ≡ true
  numbered key found made =
      let is : made.past.number ≡ key.number = ap (λ (k : HeldKey). k.number) made.is in
      let of_key : key.number ≡ confirmation.addition = found_has_number confirmation.addition held.table.identities key found in
      grind (arith, nat_tests, is, of_key, addition)

  -- of a past addition, the tests are those of its key
  by_key : (past : PastAddition)
      → is_due (Some past) ≡ ((past.number == raising.addition) && (permits (key_of life past) && (few && not facts.locked)))
  by_key past =
      as_one (past.number == raising.addition) (let_sign past.addition.terms.purposes raising.signing.message raising.signing.blob raising.signing.flags)
      (denial_under past.addition.terms.rules raising.signing.blob chain raising.signing.message wall) (few && not facts.locked)

  by_made : (key : HeldKey) (made : Made life held_now key)
      → is_due held_now ≡ ((made.past.number == raising.addition) && (permits key && (few && not facts.locked)))
  by_made key made = ap is_due made.now ∙ by_key made.past ∙ ap (λ (k : HeldKey). (made.past.number == raising.addition) && (permits k && (few && not facts.locked))) made.is

  few_is : few ≡ not (is_full under_way.link.asks)
  few_is = ap is_place same ∙ place-same under_way.link.asks

  denies_as : (key : HeldKey) → key.blob ≡ raising.signing.blob
      → objection key raising.signing.blob chain raising.signing.message raising.signing.flags wall ≡ objection key key.blob chain confirmation.message confirmation.flags wall
  denies_as key is =
      ap (λ b. objection key b chain raising.signing.message raising.signing.flags wall) (sym is) ∙ ap (λ m. objection key key.blob chain m raising.signing.flags wall) message
      ∙ ap (λ f. objection key key.blob chain confirmation.message f wall) flags

  -- what may be granted is due
  grantable-due : (key : HeldKey)
      → IsGrantable key chain confirmation.addition confirmation.message confirmation.flags wall held
      → HasPlace under_way.link.asks → due ≡ Some claim
  grantable-due key may room =
      let by = made key may.found in
      let unlocked : facts.locked ≡ false = holds.locked ∙ ap is_some may.unlocked in
      let some : few ≡ true = few_is ∙ ap not (is_full-not under_way.link.asks room) in
      ap (λ b. if b then Some claim else None) (by_made key by
      ∙ all_pass (by.past.number == raising.addition) (permits key) few (not facts.locked) (numbered key may.found by)
      (ap is_none (denies_as key (blob key may.found) ∙ may.permitted)) some (ap not unlocked))

  -- what is due may be granted
  due-grantable : (now : Option PastAddition) → held_now ≡ now → is_due now ≡ true
      → (key : HeldKey) × IsGrantable key chain confirmation.addition confirmation.message confirmation.flags wall held
  due-grantable None is met = absurd (cc)
  due-grantable (Some past) is met =
      let key : HeldKey = key_of life past in
      let parts = all_parts (past.number == raising.addition) (permits key) few (not facts.locked) (sym (by_key past) ∙ met) in
      let found : find_identity raising.signing.blob held.table.identities ≡ Some key = told ∙ ap (option_map (key_of life)) is in
      let by_number = number_of_found raising.signing.blob held.table.last held.table.identities key holds.numbers found in
      let number : past.number ≡ confirmation.addition = grind (arith, nat_tests, parts.0, addition) in
      let its_blob : key.blob ≡ raising.signing.blob = found_has raising.signing.blob held.table.identities key found in (
        key,
        record {
          unlocked = none_if_not held.lock (ap not (sym holds.locked) ∙ parts.3);
          found = ap (λ n. find_number n held.table.identities) (sym number) ∙ by_number.1;
          permitted = sym (denies_as key its_blob) ∙ none_objects _ parts.1;
        },
      )

  never-due : ((key : HeldKey) → IsGrantable key chain confirmation.addition confirmation.message confirmation.flags wall held → ⊥)
      → due ≡ None
  never-due never =
      ap (λ b. if b then Some claim else None) (false_from_ne_true (is_due held_now) (λ met. let may = due-grantable held_now refl met in never may.0 may.1))

  -- where an ask can't be put it is for want of room alone
  full-not : {N : Type 0} → (N → under_way.link.last < 2 ^ 64 - 1)
      → (N → under_way.last_job < 2 ^ 64 - 1) → (key : HeldKey)
      → IsGrantable key chain confirmation.addition confirmation.message confirmation.flags wall held → {cause : Cause}
      → RoomFor under_way (Some cause) → N → due ≡ None
  full-not left jobs key may (full more) n =
      let by = made key may.found in
      let many : few ≡ false = few_is ∙ ap not (is_full-is under_way.link.asks more) in
      ap (λ b. if b then Some claim else None) (by_made key by ∙ third_fails (by.past.number == raising.addition) (permits key) few (not facts.locked) many)
  full-not left jobs key may (no_ask few_asks spent) n = absurd (omega (arith, left n, spent))
  full-not left jobs key may (no_job few_asks numbers none spent) n =
      absurd (omega (arith, jobs n, spent))

module _ {N : Type 0} (life : Option ℕ) (past : List Stamped) (confirmation : Confirmation) (port : Port) (state : State) (order : JobsRise 0 state.under_way.confirmations state.under_way.last_job) (there : IsIn confirmation state.under_way.confirmations) (found : find_port confirmation.asker state.ports ≡ Some port) (opened : Opened N life past state) where
  abbrev left_over : UnderWay
  left_over = without_confirmation confirmation.job state.under_way

  abbrev raised : IsRaised past state.held confirmation
  raised = opened.agrees.raised confirmation.job confirmation (in-found confirmation 0 state.under_way.last_job order there)

  abbrev behind : List Stamped
  behind = stamp state.moment (Granted confirmation.job) ∷ past

  abbrev due_now : Option Claim
  due_now = due life state.moment.mono state.moment.wall (facts_of past) state.held left_over (open_asks past) port.chain confirmation opened.agrees.holds opened.fresh opened.agrees.opens raised.raising raised.addition raised.message raised.flags raised.blob

  -- what is due behind the consent is what was raised
  due_behind : due_signing life behind ≡ due_now
  due_behind =
      let one : Claim = record { port = raised.raising.port; addition = Some raised.raising.addition; signing = raised.raising.signing } in
      let chain : proved_of raised.raising.port past ≡ port.chain = ap (λ n. proved_of n past) raised.port ∙ opened.chains confirmation.asker port found in
      ap (λ r. met_by (option_map claimed_by r) life state.moment behind) raised.is
      ∙ due_as (Some one) life state.moment behind
      ∙ ap (λ c. met_with (Some one) life state.moment.mono state.moment.wall (facts_of past) (λ n. c) (open_asks past)) chain

  holds_behind : Holds life state.moment.mono (facts_of behind) state.held
  holds_behind = let holds = opened.agrees.holds in
      record { locked = holds.locked; count = holds.count; default = holds.default; own = holds.own; numbers = holds.numbers; found = holds.found }

  raised_behind : AllRaised behind state.held (remove_job confirmation.job state.under_way.confirmations)
  raised_behind =
      all_raised-over past behind state.held confirmation.job 0 state.under_way.last_job state.under_way.confirmations order
      (λ job other. ap (λ b. if b then None else raised_at job past) (not_over confirmation.job job other)) opened.agrees.raised

  -- nothing is put, as nothing is due
  goes-refused : (cause : Cause) → (N → due_now ≡ None)
      → Goes N life past state (grant_concluded (settles (Refuses cause) left_over) confirmation state)
  goes-refused cause none = record {
    lawful = (opened.agrees.idle, λ n. due_behind ∙ none n);
    agrees = record { holds = holds_behind; opens = opened.agrees.opens; raised = raised_behind; idle = λ n. due_behind ∙ none n };
    moment = refl;
    puts = puts-silent state.moment past (Granted confirmation.job ∷ []) (tt, tt);
  }

  -- what is put is what was raised
  same_signing : (key : HeldKey) → key.blob ≡ raised.raising.signing.blob
      → raised.raising.signing ≡ signing_of key confirmation
  same_signing key is =
      let s : Signing = raised.raising.signing in
      ap (λ b. let t : Signing = record { blob = b; message = s.message; flags = s.flags } in t) (sym is)
      ∙ ap (λ m. let t : Signing = record { blob = key.blob; message = m; flags = s.flags } in t) raised.message
      ∙ ap (λ f. let t : Signing = record { blob = key.blob; message = confirmation.message; flags = f } in t) raised.flags

  few_asks : RoomFor left_over None → HasPlace state.under_way.link.asks
  few_asks (free room) = room.place

  -- with the private string of that addition
  granted_message : (key : HeldKey)
      → IsGrantable key port.chain confirmation.addition confirmation.message confirmation.flags state.moment.wall state.held
      → IsMessage behind (asking_of (Signs key (signing_of key confirmation)) confirmation.asker (state.under_way.link.last + 1)) (message_of (Signs key (signing_of key confirmation)) (state.under_way.link.last + 1))
  granted_message key may =
      let found = blob_of_numbered confirmation.addition state.held.table.identities key holds_behind.own may.found in
      sign-message behind key (signing_of key confirmation) confirmation.asker (state.under_way.link.last + 1) refl
      (private-held life state.moment.mono behind state.held key.blob key holds_behind (opened.fresh key.blob) found)

  goes-put : (key : HeldKey)
      → IsGrantable key port.chain confirmation.addition confirmation.message confirmation.flags state.moment.wall state.held
      → HasPlace state.under_way.link.asks
      → Goes N life past state (grant_concluded (put_unless None (Signs key (signing_of key confirmation)) confirmation.asker left_over) confirmation state)
  goes-put key may room =
      let is = grantable-due life state.moment.mono state.moment.wall (facts_of past) state.held left_over (open_asks past) port.chain confirmation opened.agrees.holds opened.fresh opened.agrees.opens raised.raising raised.addition raised.message raised.flags raised.blob key may room in
      record {
        lawful = (opened.agrees.idle, (subst (λ d. IsSomeAnd d (λ one. (one.port ≡ confirmation.asker) × (one.signing ≡ signing_of key confirmation))) (sym (due_behind ∙ is)) (raised.port, same_signing key (raised.blob key may.found)), λ n. refl));
        agrees = record {
          holds = used-holds life state.moment.mono (facts_of behind) state.held key.blob key (blob_of_numbered confirmation.addition state.held.table.identities key holds_behind.own may.found) holds_behind;
          opens = ap (λ all. all ++ (state.under_way.link.last + 1, size_of (Signs key (signing_of key confirmation)) (state.under_way.link.last + 1)) ∷ []) opened.agrees.opens ∙ sym (parts-append state.under_way.link.asks _);
          raised = all_raised-more behind _ (after_use (Some key.number) state.held) _ (λ job. refl)
              (all_raised-kept behind state.held (after_use (Some key.number) state.held) _ (numbers-used key.number state.held holds_behind.numbers) raised_behind);
          idle = λ n. refl;
        };
        moment = refl;
        puts = passes past (stamp state.moment (Granted confirmation.job)) _ _ (λ asking no. absurd (cc))
            (asks behind state.moment (asking_of (Signs key (signing_of key confirmation)) confirmation.asker (state.under_way.link.last + 1)) [] _ [] (granted_message key may) refl (puts.none _));
      }

  pub goes-granted : {work : Work}
      → IsGranted port.chain confirmation state.moment.wall state.held left_over work
      → Goes N life past state (grant_concluded work confirmation state)
  goes-granted (disallowed never) =
      goes-refused NoLongerAllowed (λ n. never-due life state.moment.mono state.moment.wall (facts_of past) state.held left_over (open_asks past) port.chain confirmation opened.agrees.holds opened.fresh opened.agrees.opens raised.raising raised.addition raised.message raised.flags raised.blob never)
  goes-granted (unasked cause key may fault) =
      goes-refused cause (full-not life state.moment.mono state.moment.wall (facts_of past) state.held left_over (open_asks past) port.chain confirmation opened.agrees.holds opened.fresh opened.agrees.opens raised.raising raised.addition raised.message raised.flags raised.blob opened.left opened.jobs key may (subst (RoomFor left_over) fault (room-of left_over)))
  goes-granted (allowed key may unspent) =
      goes-put key may (few_asks (subst (RoomFor left_over) unspent (room-of left_over)))
