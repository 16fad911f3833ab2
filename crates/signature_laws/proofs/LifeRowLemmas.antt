-- The rows of a helper's life, computed.
use Rattle.std.proofs.Common.{◌≡◌, ℕ, List, [], ◌∷◌, ◌++◌, length, map, Some, None, Ok, refl, sym, ap, subst, ◌∙◌, arith}
use Rattle.std.specs.Option.{option_map}
use Rattle.world_ports.specs.declared.Door.TheVariants.{Children, Clients}
use Rattle.child_msg.specs.ChildFrames.{ToChildFits, from_child_body}
use Rattle.child_msg.specs.Messages.{Refused}
use Rattle.ecdsa_wire.specs.Names.{type_named as ecdsa_type_named, type_of as ecdsa_type_of}
use Rattle.rsa_wire.specs.Names.{type_named as rsa_type_named, type_of as rsa_type_of}
use Rattle.helper_core.specs.Laws.{IsAnswerBy}
use Rattle.helper_core.specs.Routes.{Route, counted}
use Rattle.helper_link.specs.declared.state.LinkState.TheVariants as states
use Rattle.signer_keys.specs.Answers.{route_to}
use Rattle.signer_keys.specs.Types.{type_of}
use Rattle.agent_model.specs.ChildRows.{helper_job, ticket}
use Rattle.agent_model.specs.Events.{Happening, Heard, Timed}
use Rattle.agent_model.specs.Runs.{run}
use Rattle.agent_model.specs.State.{Port, State, find_port, first_state, new_port, no_settings}
use Rattle.agent_model.specs.Step.{handle, step}
use Rattle.agent_model.specs.Time.{at_moment}
use Rattle.agent_laws.specs.Answered.{Says, begins}
use Rattle.agent_laws.specs.AnsweredRows.{sign_message}
use Rattle.agent_laws.specs.Deciding.{at}
use Rattle.signature_laws.specs.Lives.{AreSigners, Brings, IsBySigner, Lead, Life, life_after, life_at, new_life}
use Rattle.signature_laws.specs.Lives as lives
use Rattle.signature_laws.specs.Rows.{begins_to_refuse, one_life, refused_later}
use Rattle.signature_laws.proofs.HeardLemmas.{says-one, says-piece, spoken}
use Rattle.signature_laws.proofs.LifeLemmas.{brings-one}
use Rattle.signature_laws.proofs.SignatureLemmas.{routed}
use Rattle.agent_msg.specs.Reading.{request_of_number, request_of, is_addition}
use Rattle.agent_msg.specs.Requests.{session_bind, bind_front, names_bind}
use Rattle.child_msg.specs.Reading.{from_child_of_kind, from_child_of}
use Rattle.constraint_rec.specs.Constraints.{restrict_destination, uses_name}
use Rattle.constraint_rec.specs.Reading.{kind_at, contents_at, next_at, terms_up_to, terms_of}
use Rattle.dest_rule.specs.Chains.{judge}
use Rattle.dest_rule.specs.Rules.{visible, denial, bad_place, is_hop}
use Rattle.helper_link.specs.Settling.{verdict, settling}
use Rattle.identity_table.specs.Identities.{find_identity, put_identity, remove_identity, spend_identity, alive_at, entries_len, kept_len}
use Rattle.key_blob.specs.AddedKeys.{blob_fields_at, certificate_blob_at, blob_at, added_key_at, private_at}
use Rattle.key_blob.specs.KeyTypes.{form_named}
use Rattle.key_blob.specs.PublicKeys.{public_key_of}
use Rattle.key_blob.specs.Reading.{field_at, fields_at, after_fields, form_at}
use Rattle.wire_core.specs.Fields.{uint32_at, uint64_at, string_len, string_at}
use Rattle.wire_text.specs.Frames.{front, split_up_to, split}
use Rattle.wire_text.specs.Wire.{uint32, uint64, string, announced_len}

-- ---- what brings nothing

no-client : (state : State) (number : ℕ) (piece : List ℕ)
    → option_map (λ (port : Port). port.door) (find_port number state.ports) ≡ Some Clients
    → (bytes : List ℕ) → Says state (Heard number piece) bytes → ⊥
no-client state number piece client bytes says =
    let at_port = spoken (Heard number piece) state bytes says number piece refl in
    let same : Some Clients ≡ Some at_port.port.door = sym client ∙ ap (option_map (λ (port : Port). port.door)) at_port.found in
    let child : at_port.port.door ≡ Children = at_port.door in
    absurd (cc)

no-other : (event : Happening) (state : State) → ((number : ℕ) (piece : List ℕ) → event ≡ Heard number piece → ⊥)
    → (bytes : List ℕ) → Says state event bytes → ⊥
no-other event state other bytes says =
    let at_port = says-piece event state bytes says in other at_port.number at_port.piece at_port.is

-- ---- the premise over a run, event by event

-- the helpers are the signer from this state and this life on
data Sign : State → Life → List Timed → Type 0 where
  ended : (state : State) (life : Life) → Sign state life []
  silent : (state : State) (life : Life) (one : Timed) (later : List Timed)
      → ((bytes : List ℕ) → Says (at_moment one.moment state) one.event bytes → ⊥)
      → Sign (step state one.moment one.event).state
      (life_after (handle one.event (at_moment one.moment state)) [] (life_at state one.moment life)) later
      → Sign state life (one ∷ later)
  brought : (state : State) (life : Life) (one : Timed) (later : List Timed) (bytes : List ℕ)
      → Says (at_moment one.moment state) one.event bytes → IsBySigner (life_at state one.moment life) bytes
      → Sign (step state one.moment one.event).state
      (life_after (handle one.event (at_moment one.moment state)) bytes (life_at state one.moment life)) later
      → Sign state life (one ∷ later)

sign-each : (state : State) (life : Life) (before : List Timed) (one : Timed) (later : List Timed) (last : Life) (bytes : List ℕ)
    → Sign state life (before ++ one ∷ later) → Lead state life before last
    → Says (at_moment one.moment (run state before)) one.event bytes
    → IsBySigner (life_at (run state before) one.moment last) bytes
sign-each state life [] one later last bytes (silent state_in life_in one_in later_in never rest) (lives.stays state_too life_too) says =
    absurd (never bytes says)
sign-each state life [] one later last bytes (brought state_in life_in one_in later_in some known by rest) (lives.stays state_too life_too) says =
    subst (IsBySigner (life_at state one.moment life)) (says-one one.event (at_moment one.moment state) some bytes known says) by
sign-each state life (first ∷ before) one later last bytes (silent state_in life_in one_in later_in never rest) (lives.goes_on state_too life_too first_too before_too other last_too brings lead) says =
    let opened : State = at_moment first.moment state in
    let same : [] ≡ other = brings-one first.event opened [] other (lives.none never) brings in
    sign-each (step state first.moment first.event).state (life_after (handle first.event opened) other (life_at state first.moment life)) before one later last bytes
    (subst (λ (l : List ℕ). Sign (step state first.moment first.event).state (life_after (handle first.event opened) l (life_at state first.moment life)) (before ++ one ∷ later)) same rest) lead says
sign-each state life (first ∷ before) one later last bytes (brought state_in life_in one_in later_in some known by rest) (lives.goes_on state_too life_too first_too before_too other last_too brings lead) says =
    let opened : State = at_moment first.moment state in
    let same : some ≡ other = brings-one first.event opened some other (lives.some some known) brings in
    sign-each (step state first.moment first.event).state (life_after (handle first.event opened) other (life_at state first.moment life)) before one later last bytes
    (subst (λ (l : List ℕ). Sign (step state first.moment first.event).state (life_after (handle first.event opened) l (life_at state first.moment life)) (before ++ one ∷ later)) same rest) lead says

-- ---- the run

pub led : Lead (first_state no_settings) new_life (map (at 0) begins_to_refuse) one_life
unfolding front split_up_to split uint32 uint64 string announced_len uint32_at uint64_at string_len string_at blob_fields_at certificate_blob_at blob_at added_key_at private_at form_named public_key_of field_at fields_at after_fields form_at restrict_destination uses_name kind_at contents_at next_at terms_up_to terms_of request_of_number request_of is_addition session_bind bind_front names_bind find_identity put_identity remove_identity spend_identity alive_at entries_len kept_len visible denial bad_place is_hop judge from_child_of_kind from_child_of verdict settling
led =
    lives.goes_on _ _ _ _ [] _ (lives.none (no-other _ _ (λ number piece is. absurd (cc))))
    (lives.goes_on _ _ _ _ [] _ (lives.none (no-client _ _ _ refl))
    (lives.goes_on _ _ _ _ [] _ (lives.none (no-other _ _ (λ number piece is. absurd (cc))))
    (lives.goes_on _ _ _ _ [] _ (lives.none (no-client _ _ _ refl))
    (lives.goes_on _ _ _ _ [] _ (lives.none (no-other _ _ (λ number piece is. absurd (cc))))
    (lives.goes_on _ _ _ _ [] _ (lives.none (no-other _ _ (λ number piece is. absurd (cc))))
    (lives.goes_on _ _ _ _ (0 ∷ 0 ∷ 0 ∷ 9 ∷ 102 ∷ []) _
    (lives.some _ (begins 2 _ _ (new_port 2 Children) refl refl record {
      unlinked = λ is. let unlinked : states.Starting 1 ≡ states.Linked 2 = is in absurd (cc);
      free = refl;
      body_len = 29;
      whole = refl;
      behind = refl;
      job = 1;
      ticket = ticket 9;
      hello = refl;
      one = record { job = helper_job 1; ticket = ticket 9 };
      started = refl;
      kind = refl;
      same = refl;
    }))
    (lives.stays _ _)))))))

-- ---- the premise

fits : ToChildFits (sign_message 1 17)
unfolding uint32 string
fits = (omega arith, omega arith, omega arith, omega arith, omega arith)

by-route : IsAnswerBy (route_to (Ok (sign_message 1 17))) (Refused 1)
unfolding type_of ecdsa_type_of ecdsa_type_named rsa_type_of rsa_type_named announced_len string_at string_len counted
by-route = (None, refl)

refused-len : length (from_child_body (Refused 1)) ≡ 9
unfolding uint64
refused-len = refl

pub by : IsBySigner one_life refused_later
unfolding string uint32 uint64
by = record {
  answers = Refused 1 ∷ [];
  by = record {
    fit = (fits, tt);
    each = (subst (λ (r : Route). IsAnswerBy r (Refused 1)) (sym (routed (sign_message 1 17) fits)) by-route, tt);
  };
  heard = record {
    fit = (omega arith, tt);
    bodies = (record { some = omega (arith, refused-len); within = omega (arith, refused-len) }, tt);
    unheard = [];
    front = refl;
  };
}

-- ---- the run, in which the helper is the signer so far

begins-by : IsBySigner (record { put = sign_message 1 17 ∷ []; said = [] }) (0 ∷ 0 ∷ 0 ∷ 9 ∷ 102 ∷ [])
unfolding by
begins-by = record {
  answers = by.answers;
  by = by.by;
  heard = record { fit = by.heard.fit; bodies = by.heard.bodies; unheard = refused_later; front = by.heard.front };
}

signs : Sign (first_state no_settings) new_life (map (at 0) begins_to_refuse)
unfolding front split_up_to split uint32 uint64 string announced_len uint32_at uint64_at string_len string_at blob_fields_at certificate_blob_at blob_at added_key_at private_at form_named public_key_of field_at fields_at after_fields form_at restrict_destination uses_name kind_at contents_at next_at terms_up_to terms_of request_of_number request_of is_addition session_bind bind_front names_bind find_identity put_identity remove_identity spend_identity alive_at entries_len kept_len visible denial bad_place is_hop judge from_child_of_kind from_child_of verdict settling
signs =
    silent _ _ _ _ (no-other _ _ (λ number piece is. absurd (cc)))
    (silent _ _ _ _ (no-client _ _ _ refl)
    (silent _ _ _ _ (no-other _ _ (λ number piece is. absurd (cc)))
    (silent _ _ _ _ (no-client _ _ _ refl)
    (silent _ _ _ _ (no-other _ _ (λ number piece is. absurd (cc)))
    (silent _ _ _ _ (no-other _ _ (λ number piece is. absurd (cc)))
    (brought _ _ _ _ (0 ∷ 0 ∷ 0 ∷ 9 ∷ 102 ∷ []) (begins 2 _ _ (new_port 2 Children) refl refl record {
      unlinked = λ is. let unlinked : states.Starting 1 ≡ states.Linked 2 = is in absurd (cc);
      free = refl;
      body_len = 29;
      whole = refl;
      behind = refl;
      job = 1;
      ticket = ticket 9;
      hello = refl;
      one = record { job = helper_job 1; ticket = ticket 9 };
      started = refl;
      kind = refl;
      same = refl;
    }) begins-by
    (ended _ _)))))))

pub signers : AreSigners (first_state no_settings) (map (at 0) begins_to_refuse)
signers = record {
  each = λ before one later life bytes whole lead says.
      sign-each (first_state no_settings) new_life before one later life bytes
      (subst (Sign (first_state no_settings) new_life) (sym whole) signs) lead says;
}
