-- Lemmas on specs/Claims.antt: how a relay ends.
use Rattle.std.proofs.Common.{◌≡◌, inl, inr, ℕ, List, [], ◌∷◌, None, Err, refl, ap, subst, arith}
use Rattle.terms_core.specs.Additions.{Refuses, refusal, with_terms}
use Rattle.terms_core.specs.Claims.{Ends}
use Rattle.terms_core.specs.Hearing.{HearsFrame, end_of}
use Rattle.terms_core.specs.Relays.{Both, IsRelayed}
use Rattle.terms_core.specs.Stops.{refused_status, reply_status, request_status}
use Rattle.terms_core.specs.declared.fault.BodyFault.{BodyFault}
use Rattle.terms_core.specs.declared.fault.BodyFault.TheVariants as bodies
use Rattle.terms_core.specs.declared.fault.HearStop.{HearStop}
use Rattle.terms_core.specs.declared.fault.HearStop.TheVariants as stops
use Rattle.terms_core.specs.declared.status.TermsStatus.TheVariants.{WriteFault}
use Rattle.terms_core.proofs.RelayLemmas.{both, broken-asked, broken-given, broken-relayed, broken-replied, broken-sent, relayed-asked, relayed-replied}
use Rattle.wire_text.specs.Bounds.{longest_body}
use Rattle.wire_text.specs.Frames.{Whole, front, front_body}
use Rattle.wire_text.specs.Wire.{string}
use Rattle.world_ports.specs.Causes.{Rose}
use Rattle.world_ports.specs.Streams.{OnlyReads, OnlyWrites, StreamView, WritesPart}

-- an end between two frames, of which nothing was heard
end_is_nil : (heard : List ℕ) → end_of heard ≡ stops.End → heard ≡ []
end_is_nil [] is = refl
end_is_nil (byte ∷ heard) is = absurd (cc is)

-- an end within a frame
torn_is_some : (heard : List ℕ) → end_of heard ≡ stops.Torn → heard ≡ [] → ⊥
torn_is_some heard is nil = cc (ap end_of nil, is)

-- no request came
pub ends_unasked : (stop : HearStop) (terms asked now replied : List ℕ) (start : Both) (client new agent : StreamView)
    → IsRelayed terms 0 asked replied start (both client agent)
    → HearsFrame (Err stop) asked now client new → OnlyReads client new
    → Ends (request_status stop) terms start (both new agent)
ends_unasked stops.Bad terms asked now replied start client new agent is hears only = record {
  asked = now;
  announced = hears.announced;
  at = record { replied = replied; relayed = relayed-asked terms 0 asked now replied start client new agent is hears.hears.on only; is = hears.hears.is };
}
ends_unasked stops.End terms asked now replied start client new agent is hears only = record {
  replied = replied;
  relayed = subst (λ (a : List ℕ). IsRelayed terms 0 a replied start (both new agent)) (end_is_nil now hears.which)
      (relayed-asked terms 0 asked now replied start client new agent is hears.hears.on only);
  end = hears.end;
}
ends_unasked stops.Torn terms asked now replied start client new agent is hears only = record {
  asked = now;
  at = record { replied = replied; relayed = relayed-asked terms 0 asked now replied start client new agent is hears.hears.on only; is = hears.hears.is };
  some = torn_is_some now hears.which;
  end = hears.end;
}
ends_unasked stops.Failed terms asked now replied start client new agent is hears only = record {
  broken = broken-asked terms 0 asked now replied start client new agent (omega arith) is hears.more only;
  cause = inl (subst (λ (n : ℕ). Rose n new.read_faults) is.calm.client_reads hears.cause);
}
ends_unasked stops.Memory terms asked now replied start client new agent is hears only =
    broken-asked terms 0 asked now replied start client new agent (omega arith) is hears.more only

-- no reply came
pub ends_unreplied : (stop : HearStop) (terms asked replied now : List ℕ) (start : Both) (client agent new : StreamView)
    → IsRelayed terms 1 asked replied start (both client agent)
    → HearsFrame (Err stop) replied now agent new → OnlyReads agent new
    → Ends (reply_status stop) terms start (both client new)
ends_unreplied stops.Bad terms asked replied now start client agent new is hears only = record {
  announced = hears.announced;
  at = record { asked = asked; replied = now; relayed = relayed-replied terms 1 asked replied now start client agent new is hears.hears.on only; is = hears.hears.is };
}
ends_unreplied stops.End terms asked replied now start client agent new is hears only = record {
  at = record { asked = asked; replied = now; relayed = relayed-replied terms 1 asked replied now start client agent new is hears.hears.on only; is = hears.hears.is };
  end = hears.end;
}
ends_unreplied stops.Torn terms asked replied now start client agent new is hears only = record {
  at = record { asked = asked; replied = now; relayed = relayed-replied terms 1 asked replied now start client agent new is hears.hears.on only; is = hears.hears.is };
  end = hears.end;
}
ends_unreplied stops.Failed terms asked replied now start client agent new is hears only = record {
  broken = broken-replied terms 1 asked replied now start client agent new (omega arith) is hears.more only;
  cause = inr (subst (λ (n : ℕ). Rose n new.read_faults) is.calm.agent_reads hears.cause);
}
ends_unreplied stops.Memory terms asked replied now start client agent new is hears only =
    broken-replied terms 1 asked replied now start client agent new (omega arith) is hears.more only

-- the request in front isn't passed on
pub ends_refused : (fault : BodyFault) (terms asked replied : List ℕ) (start now : Both) (body_len : ℕ)
    → IsRelayed terms 0 asked replied start now → front longest_body asked ≡ Whole body_len
    → Refuses (Err fault) (refusal terms (front_body body_len asked))
    → Ends (refused_status fault) terms start now
ends_refused bodies.TooLong terms asked replied start now body_len is found refuses = record {
  asked = asked;
  body_len = body_len;
  at = record { replied = replied; relayed = is; is = found };
  refused = refuses;
}
ends_refused bodies.Twice terms asked replied start now body_len is found refuses = record {
  asked = asked;
  body_len = body_len;
  at = record { replied = replied; relayed = is; is = found };
  refused = refuses;
}
ends_refused bodies.Memory terms asked replied start now body_len is found refuses =
    broken-relayed terms 0 asked replied start now (omega arith) is

-- of the request in front a front was sent
pub ends_unsent : (terms asked replied : List ℕ) (start : Both) (client agent new : StreamView) (body_len : ℕ)
    → IsRelayed terms 0 asked replied start (both client agent) → front longest_body asked ≡ Whole body_len
    → refusal terms (front_body body_len asked) ≡ None
    → WritesPart (string (with_terms terms (front_body body_len asked))) agent new
    → Rose agent.write_faults new.write_faults → OnlyWrites agent new
    → Ends WriteFault terms start (both client new)
ends_unsent terms asked replied start client agent new body_len is found none part rose only = record {
  broken = broken-sent terms asked replied start client agent new body_len is found none part only;
  cause = inr (subst (λ (n : ℕ). Rose n new.write_faults) is.calm.agent_writes rose);
}

-- of the reply in front a front was given back
pub ends_ungiven : (terms asked replied : List ℕ) (start : Both) (client new agent : StreamView) (body_len : ℕ)
    → IsRelayed terms 1 asked replied start (both client agent) → front longest_body replied ≡ Whole body_len
    → WritesPart (string (front_body body_len replied)) client new
    → Rose client.write_faults new.write_faults → OnlyWrites client new
    → Ends WriteFault terms start (both new agent)
ends_ungiven terms asked replied start client new agent body_len is found part rose only = record {
  broken = broken-given terms asked replied start client new agent body_len is found part only;
  cause = inl (subst (λ (n : ℕ). Rose n new.write_faults) is.calm.client_writes rose);
}
