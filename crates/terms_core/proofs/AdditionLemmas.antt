-- Lemmas on specs/Additions.antt.
use Rattle.std.proofs.Common.{◌≡◌, ◌∙◌, ℕ, Bool, true, false, List, [], Option, Some, None, Result, Err, length, nat_lt, drop, refl, sym, ap, subst, inl, inr, ◌⊎◌, if◌then◌else◌}
use Rattle.std.proofs.lemmas.List.{append-nil}
use Rattle.agent_msg.specs.Reading.{request_of}
use Rattle.agent_msg.specs.Requests.{ClientRequest}
use Rattle.agent_msg.specs.declared.fault.MsgFault.{MsgFault}
use Rattle.agent_msg.specs.declared.fault.MsgFault.TheVariants as why
use Rattle.terms_core.specs.Additions.{Refuses, refusal, repeat_by, repeat_in, too_long, with_terms}
use Rattle.terms_core.specs.declared.fault.BodyFault.{BodyFault}
use Rattle.terms_core.specs.declared.fault.BodyFault.TheVariants.{TooLong, Twice, Memory}
use Rattle.wire_text.specs.Bounds.{longest_body}
use Rattle.wire_text.specs.Wire.{string}
use Rattle.wire_text.proofs.WireLemmas.{drop-string}

-- the text of a string stands behind its length
pub drop_length : (text : List ℕ) → drop 4 (string text) ≡ text
drop_length text = ap (drop 4) (sym (append-nil (string text))) ∙ drop-string text [] ∙ append-nil text

short : (long : Bool) (later : Option BodyFault) → (if long then Some TooLong else None) ≡ None
    → (if long then Some TooLong else later) ≡ later
short true later is = absurd (cc is)
short false later is = refl

-- a request that isn't too long is refused for a repeat alone
pub refused_short : (terms body : List ℕ) → too_long terms body ≡ None
    → refusal terms body ≡ repeat_in (request_of (with_terms terms body))
refused_short terms body is =
    short (nat_lt longest_body (length (with_terms terms body))) (repeat_in (request_of (with_terms terms body))) is

long : (is_long : Bool) (later : Option BodyFault) → (if is_long then Some TooLong else None) ≡ Some TooLong
    → (if is_long then Some TooLong else later) ≡ Some TooLong
long true later is = refl
long false later is = absurd (cc is)

never_twice : (is_long : Bool) → (if is_long then Some TooLong else None) ≡ Some Twice → ⊥
never_twice true is = cc is
never_twice false is = cc is

-- a request that is too long is refused
pub refused_long : (fault : BodyFault) (terms body : List ℕ) → Refuses (Err fault) (too_long terms body)
    → Refuses (Err fault) (refusal terms body)
refused_long TooLong terms body is =
    long (nat_lt longest_body (length (with_terms terms body))) (repeat_in (request_of (with_terms terms body))) is
refused_long Twice terms body is = absurd (never_twice (nat_lt longest_body (length (with_terms terms body))) is)
refused_long Memory terms body is = tt

-- what is made of a fault is made of the request that has it
pub refused_fault : (result : Result Unit BodyFault) (fault : MsgFault) (request : Result ClientRequest MsgFault)
    → Refuses result (repeat_by fault) → (fault ≡ why.Memory → result ≡ Err Memory)
    → (fault ≡ why.Memory) ⊎ (request ≡ Err fault) → Refuses result (repeat_in request)
refused_fault result fault request refuses memory (inl is) =
    subst (λ (r : Result Unit BodyFault). Refuses r (repeat_in request)) (sym (memory is)) tt
refused_fault result fault request refuses memory (inr is) =
    subst (λ (r : Result ClientRequest MsgFault). Refuses result (repeat_in r)) (sym is) refuses
