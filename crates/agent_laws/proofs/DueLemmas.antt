-- What a request puts to the helper is what is due behind it.
use Rattle.std.proofs.Common.{◌≡◌, ℕ, ◌-◌, ◌^◌, ◌<◌, List, refl, ap, arith, sym, subst, ◌∙◌, Option, Some, None, IsSomeAnd, Bool, true, false, is_some, not, ◌&&◌, Result, Ok, Err, inl, inr, if◌then◌else◌}
use Rattle.std.specs.Option.{is_none, option_map}
use Rattle.agent_msg.specs.declared.fault.MsgFault.{MsgFault}
use Rattle.agent_msg.specs.Requests.{ClientRequest, Signing, ListIdentities, Sign, Add, Remove, RemoveAll, Lock, Unlock, Bind, OtherExtension, Unsupported}
use Rattle.dest_rule.specs.Rules.{denial_under}
use Rattle.dest_rule.specs.declared.denial.Denial.{Denial}
use Rattle.key_purposes.specs.Messages.{let_sign}
use Rattle.dest_rule.specs.declared.binding.Binding.{Binding}
use Rattle.helper_link.specs.HelperLink.{is_full}
use Rattle.identity_table.specs.Identities.{HeldKey, find_identity}
use Rattle.identity_table.proofs.FindLemmas.{if_alive}
use Rattle.agent_model.specs.Actions.{Work, settles}
use Rattle.agent_model.specs.Askable.{HasRoom, IsRefusedFor, IsUsable}
use Rattle.agent_model.specs.Dispatch.{Asker, Served, host_for, serve, unread}
use Rattle.agent_model.specs.Errands.{Errand, Signs, Verifies, purpose_of, put_unless, raise_unless}
use Rattle.agent_model.specs.KeyStates.{KeyState}
use Rattle.agent_model.specs.Objections.{objection}
use Rattle.agent_model.specs.State.{UnderWay}
use Rattle.agent_model.specs.Verdicts.{AsksSpent, Cause, DestinationDenied, Identities, JobsSpent, Locked, NotHeld, OtherPurpose, Refuses, Replies, Success, TooManyAsks, TooManyConfirmations, Verdict}
use Rattle.agent_model.proofs.RoomLemmas.{is_full-is, is_full-not}
use Rattle.agent_model.proofs.SignLemmas.{Comes, comes-of, put, raises, refused}
use Rattle.agent_model.proofs.ServeLemmas.{Serves, adds, confirms, denies, empties, lists, locks, removes, serves-any, signs, unlocks, verifies}
use Rattle.agent_laws.specs.Dues.{Claim, claim_of_request, is_consented, is_met, is_place}
use Rattle.agent_laws.specs.History.{IsDue}
use Rattle.agent_laws.specs.Past.{PastAddition, done_of_request, held_by}
use Rattle.agent_laws.proofs.PlaceLemmas.{parts_of, place-same}
use Rattle.agent_laws.proofs.HoldsLemmas.{Facts, Holds, Made, facts_after, key_of, made_of}

-- what comes of a request behind which this is due: it is put to the helper, or the user is asked, or neither
pub data Acts (N : Type 0) (due : Option Claim) (asker : Asker) (held : KeyState) (under_way : UnderWay) : Work → Type 0 where
  silent : (verdict : Verdict) → (N → due ≡ None)
      → Acts N due asker held under_way (settles verdict under_way)
  asks : (errand : Errand) → IsDue (purpose_of errand) asker.port due
      → Acts N due asker held under_way (put_unless None errand asker.port under_way)
  raises_it : (key : HeldKey) (signing : Signing)
      → find_identity signing.blob held.table.identities ≡ Some key → (N → due ≡ None)
      → Acts N due asker held under_way (raise_unless None key (host_for asker key signing) signing asker.port under_way)

-- the claim, where it is met by what the past tells
abbrev pub met_with : Option Claim → Option ℕ → ℕ → ℕ → Facts → (ℕ → List Binding) → List (ℕ × ℕ)
    → Option Claim
met_with None life second wall facts chains opens = None
met_with (Some claim) life second wall facts chains opens =
    if is_met (held_by (facts.last claim.signing.blob) life second) claim (chains claim.port) wall opens facts.locked then Some claim else None

-- ---- four tests, of which the second is two

pub as_one : (first lets : Bool) (denial : Option Denial) (rest : Bool)
    → (first && (lets && (is_none denial && rest)))
    ≡ (first && (is_none (if lets then option_map DestinationDenied denial else Some OtherPurpose) && rest))
as_one first true None rest = refl
as_one first true (Some denial) rest = refl
as_one first false denial rest = refl

pub all_pass : (a b c d : Bool) → a ≡ true → b ≡ true → c ≡ true → d ≡ true
    → (a && (b && (c && d))) ≡ true
all_pass a b c d a_is b_is c_is d_is = rw (a_is, b_is, c_is, d_is) refl

first_fails : (a b c d : Bool) → a ≡ false → (a && (b && (c && d))) ≡ false
first_fails a b c d is = rw is refl

second_fails : (a b c d : Bool) → b ≡ false → (a && (b && (c && d))) ≡ false
second_fails true b c d is = rw is refl
second_fails false b c d is = refl

pub third_fails : (a b c d : Bool) → c ≡ false → (a && (b && (c && d))) ≡ false
third_fails true true c d is = rw is refl
third_fails true false c d is = refl
third_fails false b c d is = refl

fourth_fails : (a b c d : Bool) → d ≡ false → (a && (b && (c && d))) ≡ false
fourth_fails true true true d is = is
fourth_fails true true false d is = refl
fourth_fails true false c d is = refl
fourth_fails false b c d is = refl

module _ (life : Option ℕ) (asker : Asker) (facts : Facts) (held : KeyState) (under_way : UnderWay) (opens : List (ℕ × ℕ)) (holds : Holds life asker.mono facts held) (fresh : (blob : List ℕ) → if_alive asker.mono (find_identity blob held.table.identities) ≡ find_identity blob held.table.identities) (same : opens ≡ parts_of under_way.link.asks) where
  -- ---- a signature

  module _ (signing : Signing) where
    abbrev claim : Claim
    claim = record { port = asker.port; addition = None; signing = signing }

    abbrev held_now : Option PastAddition
    held_now = held_by (facts.last signing.blob) life asker.mono

    abbrev is_due : Option PastAddition → Bool
    is_due past = is_met past claim asker.chain asker.wall opens facts.locked

    abbrev due : Option Claim
    due = if is_due held_now then Some claim else None

    -- what is held is what the past tells
    told : find_identity signing.blob held.table.identities ≡ option_map (key_of life) held_now
    told = sym (fresh signing.blob) ∙ holds.found signing.blob asker.mono (omega arith)

    made : (key : HeldKey) → find_identity signing.blob held.table.identities ≡ Some key
        → Made life held_now key
    made key found = made_of life held_now key (sym found ∙ told)

    not_due : is_due held_now ≡ false → due ≡ None
    not_due fails = ap (λ b. if b then Some claim else None) fails

    -- the four tests, the first two by the key
    abbrev permits : HeldKey → Bool
    permits key =
        is_none (objection key signing.blob asker.chain signing.message signing.flags asker.wall)

    abbrev few : Bool
    few = is_place opens

    -- of a past addition, the four tests are those of its key
    by_key : (past : PastAddition)
        → is_due (Some past) ≡ (is_consented None past && (permits (key_of life past) && (few && not facts.locked)))
    by_key past =
        as_one (is_consented None past) (let_sign past.addition.terms.purposes signing.message signing.blob signing.flags)
        (denial_under past.addition.terms.rules signing.blob asker.chain signing.message asker.wall) (few && not facts.locked)

    -- what is due is by the parts of the key
    by_made : (key : HeldKey) (made : Made life held_now key)
        → is_due held_now ≡ (not key.confirm && (permits key && (few && not facts.locked)))
    by_made key made = ap is_due made.now ∙ by_key made.past ∙ ap (λ (k : HeldKey). not k.confirm && (permits k && (few && not facts.locked))) made.is

    few_is : few ≡ not (is_full under_way.link.asks)
    few_is = ap is_place same ∙ place-same under_way.link.asks

    usable-due : (usable : IsUsable signing false asker held) → HasRoom under_way → due ≡ Some claim
    usable-due usable room =
        let key : HeldKey = usable.permitted.key in
        let unlocked : facts.locked ≡ false = holds.locked ∙ ap is_some usable.permitted.unlocked in
        let some : few ≡ true = few_is ∙ ap not (is_full-not under_way.link.asks room.place) in
        ap (λ b. if b then Some claim else None) (by_made key (made key usable.permitted.found)
        ∙ all_pass (not key.confirm) (permits key) few (not facts.locked) (ap not usable.confirm) (ap is_none usable.permitted.judged) some (ap not unlocked))

    locked_fails : (past : Option PastAddition) → facts.locked ≡ true → is_due past ≡ false
    locked_fails None is = refl
    locked_fails (Some past) is = by_key past ∙ fourth_fails (is_consented None past) (permits (key_of life past)) few (not facts.locked) (ap not is)

    -- a key that asks for confirmation isn't used by a request
    consent_first : (usable : IsUsable signing true asker held) → due ≡ None
    consent_first usable =
        let key : HeldKey = usable.permitted.key in
        not_due (by_made key (made key usable.permitted.found) ∙ first_fails (not key.confirm) (permits key) few (not facts.locked) (ap not usable.confirm))

    refused-not : {N : Type 0} → (N → under_way.link.last < 2 ^ 64 - 1)
        → (N → under_way.last_job < 2 ^ 64 - 1) → (cause : Cause)
        → IsRefusedFor cause signing asker held under_way → N → due ≡ None
    refused-not left jobs Locked why n = not_due (locked_fails held_now (holds.locked ∙ why))
    refused-not left jobs NotHeld why n = not_due (by_none held_now refl (sym why.1 ∙ told))
      where
        by_none : (now : Option PastAddition) → held_now ≡ now → None ≡ option_map (key_of life) now
            → is_due held_now ≡ false
        by_none None is none = ap is_due is
        by_none (Some past) is none = absurd (cc)
    refused-not left jobs OtherPurpose why n =
        not_due (by_made why.key (made why.key why.found) ∙ second_fails (not why.key.confirm) (permits why.key) few (not facts.locked) (ap is_none why.judged))
    refused-not left jobs (DestinationDenied denial) why n =
        not_due (by_made why.key (made why.key why.found) ∙ second_fails (not why.key.confirm) (permits why.key) few (not facts.locked) (ap is_none why.judged))
    refused-not left jobs TooManyConfirmations why n = consent_first why.0
    refused-not left jobs TooManyAsks why n =
        let key : HeldKey = why.0.permitted.key in
        let many : few ≡ false = few_is ∙ ap not (is_full-is under_way.link.asks why.1) in
        not_due (by_made key (made key why.0.permitted.found)
        ∙ third_fails (not key.confirm) (permits key) few (not facts.locked) many)
    refused-not left jobs AsksSpent why n = absurd (omega (arith, left n, why.2))
    refused-not left jobs JobsSpent (inl why) n = absurd (omega (arith, jobs n, why.4))
    refused-not left jobs JobsSpent (inr why) n = absurd (omega (arith, jobs n, why.2))
    refused-not left jobs other why n = absurd why

    acts-sign : {N : Type 0} → (N → under_way.link.last < 2 ^ 64 - 1)
        → (N → under_way.last_job < 2 ^ 64 - 1) → {work : Work}
        → Comes signing asker held under_way work → Acts N due asker held under_way work
    acts-sign left jobs (refused cause why) =
        silent (Refuses cause) (refused-not left jobs cause why)
    acts-sign left jobs (raises usable room) =
        raises_it usable.permitted.key signing usable.permitted.found (λ n. consent_first usable)
    acts-sign left jobs (put usable room) =
        asks (Signs usable.permitted.key signing) (subst (λ d. IsSomeAnd d (λ one. (one.port ≡ asker.port) × (one.signing ≡ signing))) (sym (usable-due usable room)) (refl, refl))

  -- ---- the other requests

  abbrev Quiet : Type 0 → Work → Type 0
  Quiet N work = Acts N None asker held under_way work

  quiet-served : {N : Type 0} (read : Result ClientRequest MsgFault) →
      ((signing : Signing) → read ≡ Ok (Sign signing) → ⊥) → {served : Served} →
      Serves read asker held under_way served → Quiet N served.work
  quiet-served read other (denies cause) = silent (Refuses cause) (λ n. refl)
  quiet-served read other (lists identities is) =
      silent (Replies (Identities identities)) (λ n. refl)
  quiet-served read other (adds addition is) = silent (Replies Success) (λ n. refl)
  quiet-served read other (removes blob is) = silent (Replies Success) (λ n. refl)
  quiet-served read other (empties is) = silent (Replies Success) (λ n. refl)
  quiet-served read other (locks passphrase is) = silent (Replies Success) (λ n. refl)
  quiet-served read other (unlocks passphrase is) = silent (Replies Success) (λ n. refl)
  quiet-served read other (signs signing key is found confirm free) = absurd (other signing is)
  quiet-served read other (confirms signing key is found free) = absurd (other signing is)
  quiet-served read other (verifies bind is_new is stands free) = asks (Verifies bind is_new) refl

  quiet-any : {N : Type 0} (read : Result ClientRequest MsgFault) →
      ((signing : Signing) → read ≡ Ok (Sign signing) → ⊥) →
      Quiet N (serve read asker held under_way).work
  quiet-any read other = quiet-served read other (serves-any read asker held under_way)

  -- what is due behind a request
  abbrev pub due_read : Result ClientRequest MsgFault → Verdict → Option Claim
  due_read read verdict = met_with (claim_of_request read asker.port) life asker.mono asker.wall (facts_after (done_of_request read verdict) asker.mono facts) (λ port. asker.chain) opens

  module _ {N : Type 0} (left : N → under_way.link.last < 2 ^ 64 - 1) (jobs : N → under_way.last_job < 2 ^ 64 - 1) where
    -- whatever is asked, what it puts to the helper is what is due behind it
    pub acts-served : (read : Result ClientRequest MsgFault)
        → Acts N (due_read read (serve read asker held under_way).work.verdict) asker held under_way (serve read asker held under_way).work
    acts-served (Err fault) = silent (Refuses (unread fault held.lock)) (λ n. refl)
    acts-served (Ok ListIdentities) = quiet-any (Ok ListIdentities) (λ signing is. absurd (cc))
    acts-served (Ok (Sign signing)) =
        acts-sign signing left jobs (comes-of signing asker held under_way)
    acts-served (Ok (Add addition)) = quiet-any (Ok (Add addition)) (λ signing is. absurd (cc))
    acts-served (Ok (Remove blob)) = quiet-any (Ok (Remove blob)) (λ signing is. absurd (cc))
    acts-served (Ok RemoveAll) = quiet-any (Ok RemoveAll) (λ signing is. absurd (cc))
    acts-served (Ok (Lock passphrase)) =
        quiet-any (Ok (Lock passphrase)) (λ signing is. absurd (cc))
    acts-served (Ok (Unlock passphrase)) =
        quiet-any (Ok (Unlock passphrase)) (λ signing is. absurd (cc))
    acts-served (Ok (Bind bind)) = quiet-any (Ok (Bind bind)) (λ signing is. absurd (cc))
    acts-served (Ok (OtherExtension name)) =
        quiet-any (Ok (OtherExtension name)) (λ signing is. absurd (cc))
    acts-served (Ok (Unsupported number)) =
        quiet-any (Ok (Unsupported number)) (λ signing is. absurd (cc))
