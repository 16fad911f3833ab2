-- Answers go to who asked, and leave the other asks.
use Rattle.std.proofs.Common.{◌≡◌, ◌==◌, ◌||◌, ℕ, ◌≤◌, Bool, true, false, cond, List, [], ◌∷◌, length, Option, Some, None, Result, Ok, Err, refl, sym, ap, subst, ◌∙◌, arith}
use Rattle.wire_text.specs.Bounds.{longest_body}
use Rattle.lists.specs.Keyed.{NeverFallBy, has_key}
use Rattle.lists.proofs.KeyedLemmas.{found_key}
use Rattle.lists.proofs.NeverFallLemmas.{never_fall-remove}
use Rattle.wire_text.specs.Frames.{Front, Whole, Bad, More, front, split}
use Rattle.child_msg.specs.Messages.{FromChildMessage, Hello, Signed, Refused, True, False, Granted, Denied}
use Rattle.child_msg.specs.Reading.{from_child_of}
use Rattle.child_msg.specs.declared.fault.ChildFault.{ChildFault}
use Rattle.helper_link.specs.Answered.{LeadTo, is_answered, kind_answered}
use Rattle.helper_link.specs.HelperLink.{ask_of, asked_len, second_of}
use Rattle.helper_link.specs.Settling.{Verdict, Settles, Stops, Settling, find_ask, number_of, remove_ask, same_kind, settled_ask, answer_found, message_verdict, reading_verdict, verdict, settling, settle, after_verdict, at_rest}
use Rattle.helper_link.specs.Sound.{RiseTo}
use Rattle.helper_link.specs.declared.answer.Answer.{Answer}
use Rattle.helper_link.specs.declared.answer.Answer.TheVariants as answer
use Rattle.helper_link.specs.declared.answer.Settled.{Settled}
use Rattle.helper_link.specs.declared.ask.Ask.{Ask}
use Rattle.helper_link.specs.declared.ask.AskKind.{AskKind}
use Rattle.helper_link.specs.declared.ask.AskKind.TheVariants.{Signing, Verifying}
use Rattle.helper_link.specs.declared.fault.LinkFault.TheVariants.{WrongKind}
use Rattle.helper_link.proofs.OrderLemmas.{find-remove, remove_fewer, remove_lighter, remove_rises}

-- ---- a frame

-- a frame that settles an ask leads from the asks to those left
abbrev Leads : Verdict → List Ask → Type 0
Leads (Settles one left) asks = LeadTo (one ∷ []) asks left
Leads (Stops fault) asks = Unit {0}

-- the kinds that pass the test are the same
kinds_are : (a b : AskKind) → same_kind a b ≡ true → b ≡ a
kinds_are Signing Signing is = refl
kinds_are Signing Verifying is = absurd cc
kinds_are Verifying Signing is = absurd cc
kinds_are Verifying Verifying is = refl

-- by the ask that is found
found_leads : (kind : AskKind) (number : ℕ) (answer : Answer) (found : Option Ask)
    (asks : List Ask) → kind ≡ kind_answered answer →
    find_ask number asks ≡ found → Leads (answer_found kind number answer found asks) asks
found_leads kind number answer None asks is at = tt
found_leads kind number answer (Some ask) asks is at = by_test (same_kind kind ask.kind) refl
  where
    by_test : (test : Bool) → same_kind kind ask.kind ≡ test →
        Leads (cond test (Settles (settled_ask number ask.asker answer) (remove_ask number asks))
        (Stops (WrongKind number))) asks
    by_test true same = (
      record {
        blob = ask.blob;
        put_at = ask.put_at;
        size = ask.size;
        found =
            at ∙ ap (λ (n : ℕ). Some (ask_of n ask.asker ask.kind ask.blob ask.put_at ask.size))
            (found_key number_of number asks ask at)
            ∙ ap (λ (k : AskKind). Some (ask_of number ask.asker k ask.blob ask.put_at ask.size))
            (kinds_are kind ask.kind same ∙ is);
      },
      refl,
    )
    by_test false same = tt

-- by the message
message_leads : (message : FromChildMessage) (asks : List Ask) →
    Leads (message_verdict message asks) asks
message_leads (Hello job ticket) asks = tt
message_leads (Signed ask signature) asks =
    found_leads Signing ask (answer.Signed signature) (find_ask ask asks) asks refl refl
message_leads (Refused ask) asks =
    found_leads Signing ask answer.Refused (find_ask ask asks) asks refl refl
message_leads (True ask) asks =
    found_leads Verifying ask answer.True (find_ask ask asks) asks refl refl
message_leads (False ask) asks =
    found_leads Verifying ask answer.False (find_ask ask asks) asks refl refl
message_leads (Granted job) asks = tt
message_leads (Denied job) asks = tt

-- by what is read
reading_leads : (reading : Result FromChildMessage ChildFault) (asks : List Ask) →
    Leads (reading_verdict reading asks) asks
reading_leads (Ok message) asks = message_leads message asks
reading_leads (Err fault) asks = tt

-- a frame leads from the asks to those left
verdict_leads : (body : List ℕ) (asks : List Ask) → Leads (verdict body asks) asks
unfolding verdict
verdict_leads body asks = reading_leads (from_child_of body) asks

-- ---- a stream

-- what is settled leads from the asks to those left
abbrev pub SettlingLeads : Settling → List Ask → Type 0
SettlingLeads settling asks = LeadTo settling.settled asks settling.asks

-- a frame, and then what follows it
after_leads : (v : Verdict) (later : List Ask → Settling) (asks : List Ask) → Leads v asks →
    ((left : List Ask) → SettlingLeads (later left) left) →
    SettlingLeads (after_verdict v later asks) asks
after_leads (Settles one left) later asks leads keeps = (
  leads.0,
  subst (λ (all : List Ask). LeadTo (later left).settled all (later left).asks) leads.1
      (keeps left),
)
after_leads (Stops fault) later asks leads keeps = refl

-- all frames, and then what follows them
settle_leads : (bodies : List (List ℕ)) (later : List Ask → Settling) →
    ((left : List Ask) → SettlingLeads (later left) left) →
    (asks : List Ask) → SettlingLeads (settle bodies later asks) asks
settle_leads [] later keeps asks = keeps asks
settle_leads (body ∷ bodies) later keeps asks =
    after_leads (verdict body asks) (settle bodies later) asks (verdict_leads body asks)
    (settle_leads bodies later keeps)

-- the end of the stream leaves the asks as they are
rest_leads : (answer : Front) (rest : List ℕ) (asks : List Ask) →
    SettlingLeads (at_rest answer rest asks) asks
rest_leads (Whole body_len) rest asks = refl
rest_leads (Bad announced) rest asks = refl
rest_leads More rest asks = refl

-- a stream leads from the asks to those left
pub settling_leads : (bytes : List ℕ) (asks : List Ask) → SettlingLeads (settling bytes asks) asks
unfolding settling
settling_leads bytes asks =
    let parts = split longest_body bytes in
    settle_leads parts.bodies (at_rest (front longest_body parts.rest) parts.rest)
    (rest_leads (front longest_body parts.rest) parts.rest) asks

-- ---- the asks that are left

-- they are no more
pub lead_fewer : (settled : List Settled) (asks left : List Ask) → LeadTo settled asks left →
    length left ≤ length asks
lead_fewer [] asks left leads =
    let same : length left ≡ length asks = ap (λ (all : List Ask). length all) leads in omega arith
lead_fewer (one ∷ later) asks left leads =
    let later_fewer = lead_fewer later (remove_ask one.ask asks) left leads.1 in
    omega (arith, remove_fewer one.ask asks, later_fewer)

-- and their bodies have no more bytes together
pub lead_lighter : (settled : List Settled) (asks left : List Ask) → LeadTo settled asks left →
    asked_len left ≤ asked_len asks
lead_lighter [] asks left leads = let same : asked_len left ≡ asked_len asks = ap asked_len leads in omega arith
lead_lighter (one ∷ later) asks left leads =
    let later_lighter = lead_lighter later (remove_ask one.ask asks) left leads.1 in
    omega (arith, remove_lighter one.ask asks, later_lighter)

-- they stay in order
pub lead_rise : (settled : List Settled) (asks left : List Ask) (below last : ℕ) →
    LeadTo settled asks left → RiseTo below asks last →
    RiseTo below left last
lead_rise [] asks left below last leads rise =
    subst (λ (all : List Ask). RiseTo below all last) (sym leads) rise
lead_rise (one ∷ later) asks left below last leads rise =
    lead_rise later (remove_ask one.ask asks) left below last leads.1
    (remove_rises one.ask below asks last rise)

-- none of them was put before the one that stands before it
pub lead_seconds : (settled : List Settled) (asks left : List Ask) (since : ℕ) →
    LeadTo settled asks left → NeverFallBy second_of since asks → NeverFallBy second_of since left
lead_seconds [] asks left since leads climb =
    subst (λ (all : List Ask). NeverFallBy second_of since all) (sym leads) climb
lead_seconds (one ∷ later) asks left since leads climb =
    lead_seconds later (remove_ask one.ask asks) left since leads.1
    (never_fall-remove second_of (has_key number_of one.ask) since asks climb)

-- a number that was answered finds none of them, and others find what they found
pub lead_others : (number : ℕ) (settled : List Settled) (asks left : List Ask) (below last : ℕ) →
    LeadTo settled asks left →
    RiseTo below asks last →
    find_ask number left ≡ cond (is_answered number settled) None (find_ask number asks)
lead_others number [] asks left below last leads rise = ap (find_ask number) leads
lead_others number (one ∷ later) asks left below last leads rise =
    lead_others number later (remove_ask one.ask asks) left below last leads.1
    (remove_rises one.ask below asks last rise)
    ∙ ap (cond (is_answered number later) None) (find-remove number one.ask below asks last rise)
    ∙ by_tests (one.ask == number) (is_answered number later)
  where
    by_tests : (is answered : Bool) →
        cond answered None (cond is None (find_ask number asks)) ≡ cond (is || answered) None
        (find_ask number asks)
    by_tests true true = refl
    by_tests true false = refl
    by_tests false true = refl
    by_tests false false = refl
