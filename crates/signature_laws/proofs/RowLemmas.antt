-- The literal rows, computed.
use Rattle.std.proofs.Common.{◌≡◌, [], ◌∷◌, length, None, Ok, refl, sym, subst, arith}
use Rattle.wire_text.specs.Wire.{string, uint32, uint64}
use Rattle.wire_core.specs.Fields.{string_at, string_len}
use Rattle.child_msg.specs.ChildFrames.{ToChildFits, from_child_body, to_child_body}
use Rattle.child_msg.specs.Messages.{Refused}
use Rattle.ecdsa_wire.specs.Names.{type_of as ecdsa_type_of}
use Rattle.rsa_wire.specs.Names.{type_of as rsa_type_of}
use Rattle.helper_core.specs.Laws.{IsAnswerBy}
use Rattle.helper_core.specs.Routes.{Route, counted}
use Rattle.signer_keys.specs.Answers.{route_to}
use Rattle.signer_keys.specs.Types.{type_of}
use Rattle.signature_laws.specs.Rows.{to_sign}
use Rattle.signature_laws.specs.Signatures.{AreBySigner}
use Rattle.signature_laws.specs.Streams.{AreHeard, AreRead}
use Rattle.signature_laws.proofs.SignatureLemmas.{routed}

fits : ToChildFits to_sign
fits = (omega arith, omega arith, omega arith, omega arith, omega arith)

by-route : IsAnswerBy (route_to (Ok to_sign)) (Refused 1)
unfolding type_of ecdsa_type_of rsa_type_of string_at string_len counted
by-route = (None, refl)

pub by : AreBySigner (to_sign ∷ []) (Refused 1 ∷ [])
by = record {
  fit = (fits, tt);
  each = (subst (λ (r : Route). IsAnswerBy r (Refused 1)) (sym (routed to_sign fits)) by-route, tt);
}

-- the bodies have 25 bytes and 9
asked-len : length (to_child_body to_sign) ≡ 25
unfolding string uint32 uint64
asked-len = refl

refused-len : length (from_child_body (Refused 1)) ≡ 9
unfolding uint64
refused-len = refl

pub read : AreRead (to_sign ∷ []) (0 ∷ 0 ∷ 0 ∷ 25 ∷ 1 ∷ [])
unfolding string uint32 uint64
read = record {
  fit = (fits, tt);
  bodies = (record { some = omega (arith, asked-len); within = omega (arith, asked-len) }, tt);
  unread = 0 ∷ 0 ∷ 0 ∷ 0 ∷ 0 ∷ 0 ∷ 0 ∷ 1 ∷ 0 ∷ 0 ∷ 0 ∷ 0 ∷ 0 ∷ 0 ∷ 0 ∷ 0 ∷ 0 ∷ 0 ∷ 0 ∷ 0 ∷ 0 ∷ 0 ∷ 0 ∷ 0 ∷ [];
  front = refl;
}

pub heard : AreHeard (Refused 1 ∷ []) (0 ∷ 0 ∷ 0 ∷ 9 ∷ 102 ∷ [])
unfolding string uint32 uint64
heard = record {
  fit = (omega arith, tt);
  bodies = (record { some = omega (arith, refused-len); within = omega (arith, refused-len) }, tt);
  unheard = 0 ∷ 0 ∷ 0 ∷ 0 ∷ 0 ∷ 0 ∷ 0 ∷ 1 ∷ [];
  front = refl;
}
