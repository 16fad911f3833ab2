-- Which second no ask was put after: it stays so, whatever is called.
use Rattle.std.proofs.Common.{ℕ, ◌≤◌, List, [], ◌∷◌, ◌++◌, ◌+◌, length, subst, sym, arith}
use Rattle.lists.specs.Keyed.{has_key}
use Rattle.lists.proofs.NeverFallLemmas.{up_to-higher, up_to-push, up_to-remove}
use Rattle.child_msg.specs.ChildFrames.{to_child_body}
use Rattle.child_msg.specs.Messages.{ToChildMessage}
use Rattle.helper_link.specs.Answered.{LeadTo}
use Rattle.helper_link.specs.HelperLink.{ArePutBy, HelperLink, ask_of, second_of, submitted}
use Rattle.helper_link.specs.Settling.{number_of, remove_ask, settling}
use Rattle.helper_link.specs.Telling.{telling}
use Rattle.helper_link.specs.declared.answer.Settled.{Settled}
use Rattle.helper_link.specs.declared.ask.Ask.{Ask}
use Rattle.helper_link.specs.declared.ask.AskKind.{AskKind}
use Rattle.helper_link.proofs.AnswerLemmas.{settling_leads}

-- what was put by a second was put by each later one
pub put_by_later : (now later : ℕ) (asks : List Ask) → now ≤ later → ArePutBy now asks →
    ArePutBy later asks
put_by_later now later asks before put = up_to-higher second_of now later asks before put

-- one ask more, put by then
pub put_by_push : (now second number asker size : ℕ) (kind : AskKind) (blob : List ℕ) (asks : List Ask) → second ≤ now →
    ArePutBy now asks → ArePutBy now (asks ++ (ask_of number asker kind blob second size ∷ []))
put_by_push now second number asker size kind blob asks before put =
    up_to-push second_of now asks (ask_of number asker kind blob second size) before put

pub put_by_submitted : (kind : AskKind) (asker : ℕ) (blob : List ℕ) (request : ℕ → ToChildMessage) (now : ℕ)
    (link : HelperLink) → ArePutBy now link.asks →
    ArePutBy now (submitted kind asker blob request now link).asks
put_by_submitted kind asker blob request now link put =
    put_by_push now now (link.last + 1) asker (length (to_child_body (request (link.last + 1)))) kind blob link.asks (omega arith) put

-- one ask less
pub put_by_remove : (now number : ℕ) (asks : List Ask) → ArePutBy now asks →
    ArePutBy now (remove_ask number asks)
put_by_remove now number asks put = up_to-remove second_of (has_key number_of number) now asks put

-- the asks that answers leave
pub put_by_lead : (now : ℕ) (settled : List Settled) (asks left : List Ask) →
    LeadTo settled asks left → ArePutBy now asks → ArePutBy now left
put_by_lead now [] asks left leads put = subst (ArePutBy now) (sym leads) put
put_by_lead now (one ∷ later) asks left leads put =
    put_by_lead now later (remove_ask one.ask asks) left leads.1 (put_by_remove now one.ask asks put)

pub put_by_telling : (now : ℕ) (piece : List ℕ) (link : HelperLink) → ArePutBy now link.asks →
    ArePutBy now (telling piece link).link.asks
put_by_telling now piece link put =
    let all = settling (link.heard ++ piece) link.asks in
    put_by_lead now all.settled link.asks all.asks (settling_leads (link.heard ++ piece) link.asks) put
