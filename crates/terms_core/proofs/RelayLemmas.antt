-- Lemmas on specs/Relays.antt: the steps of a relay, and what it has done where a call fails.
use Rattle.std.proofs.Common.{◌≡◌, ◌≤◌, ℕ, List, [], ◌∷◌, ◌++◌, map, All, None, refl, sym, ◌∙◌, subst, arith, length-append}
use Rattle.std.proofs.lemmas.List.{append-nil, map-append}
use Rattle.std.proofs.lemmas.List.Elements.{All-append, All-nil, All-cons}
use Rattle.std.proofs.KnownBytes.{Appends-nil, Appends-trans}
use Rattle.std.specs.Io.KnownBytes.{Appends}
use Rattle.child_peer.specs.Talk.{HasRead}
use Rattle.child_peer.proofs.TalkLemmas.{Appends-same, HasRead-nil, HasRead-same}
use Rattle.terms_core.specs.Additions.{refusal, with_terms}
use Rattle.terms_core.specs.Hearing.{HearsMore, HearsOn}
use Rattle.terms_core.specs.Relays.{AreWritten, Both, IsBroken, IsCutTo, IsRelayed}
use Rattle.terms_core.proofs.CutLemmas.{IsCutTo-front, IsCutTo-more, frames-last, frames-map_last, frames-one}
use Rattle.wire_text.specs.Bounds.{longest_body}
use Rattle.wire_text.specs.Frames.{Whole, after_front, frames, front, front_body}
use Rattle.wire_text.specs.Wire.{string}
use Rattle.std.proofs.KnownBytes.{Consumes-trans}
use Rattle.world_ports.specs.Streams.{OnlyReads, OnlyWrites, StreamView, WritesPart}

-- both connections
abbrev pub both : StreamView → StreamView → Both
both client agent = record { client = client; agent = agent }

-- reads one after another
HasRead-trans : (old mid new : StreamView) (bytes more : List ℕ) → HasRead old mid bytes → HasRead mid new more → HasRead old new (bytes ++ more)
HasRead-trans old mid new bytes more first second = record {
  taken = Appends-trans old.taken mid.taken new.taken bytes more first.taken second.taken;
  left = Consumes-trans old.left mid.left new.left bytes more first.left second.left;
}

-- at the start
pub relayed-nil : (terms : List ℕ) (start : Both) → IsRelayed terms 0 [] [] start start
relayed-nil terms start = record {
  requests = [];
  replies = [];
  said = [];
  read = HasRead-nil start.client;
  first = refl;
  passed = All-nil (λ body. refusal terms body ≡ None);
  sent = Appends-nil start.agent.written;
  answered = [];
  heard = HasRead-nil start.agent;
  first_replies = refl;
  given = Appends-nil start.client.written;
  even = refl;
  calm = record { client_reads = refl; client_writes = refl; agent_reads = refl; agent_writes = refl };
}

-- more was read of the client
pub relayed-asked : (terms : List ℕ) (owed : ℕ) (asked now replied : List ℕ) (start : Both) (client new agent : StreamView)
    → IsRelayed terms owed asked replied start (both client agent) → HearsOn asked now client new → OnlyReads client new
    → IsRelayed terms owed now replied start (both new agent)
relayed-asked terms owed asked now replied start client new agent is on only = record {
  requests = is.requests;
  replies = is.replies;
  said = is.said ++ on.more.bytes;
  read = HasRead-trans start.client client new is.said on.more.bytes is.read on.more.read;
  first = subst (IsCutTo (is.said ++ on.more.bytes) is.requests) (sym on.more.heard) (IsCutTo-more is.said is.requests asked on.more.bytes is.first);
  passed = is.passed;
  sent = is.sent;
  answered = is.answered;
  heard = is.heard;
  first_replies = is.first_replies;
  given = Appends-same start.client.written client.written new.written (frames is.replies) is.given only.written;
  even = is.even;
  calm = record {
    client_reads = on.reads ∙ is.calm.client_reads;
    client_writes = only.write_faults ∙ is.calm.client_writes;
    agent_reads = is.calm.agent_reads;
    agent_writes = is.calm.agent_writes;
  };
}

-- more was read of the agent
pub relayed-replied : (terms : List ℕ) (owed : ℕ) (asked replied now : List ℕ) (start : Both) (client agent new : StreamView)
    → IsRelayed terms owed asked replied start (both client agent) → HearsOn replied now agent new → OnlyReads agent new
    → IsRelayed terms owed asked now start (both client new)
relayed-replied terms owed asked replied now start client agent new is on only = record {
  requests = is.requests;
  replies = is.replies;
  said = is.said;
  read = is.read;
  first = is.first;
  passed = is.passed;
  sent = Appends-same start.agent.written agent.written new.written (frames (map (with_terms terms) is.requests)) is.sent only.written;
  answered = is.answered ++ on.more.bytes;
  heard = HasRead-trans start.agent agent new is.answered on.more.bytes is.heard on.more.read;
  first_replies = subst (IsCutTo (is.answered ++ on.more.bytes) is.replies) (sym on.more.heard) (IsCutTo-more is.answered is.replies replied on.more.bytes is.first_replies);
  given = is.given;
  even = is.even;
  calm = record {
    client_reads = is.calm.client_reads;
    client_writes = is.calm.client_writes;
    agent_reads = on.reads ∙ is.calm.agent_reads;
    agent_writes = only.write_faults ∙ is.calm.agent_writes;
  };
}

-- one body more, of which it holds
All-last : {A : Type 0} (P : A → Type 0) (xs : List A) (x : A) → All P xs → P x → All P (xs ++ (x ∷ []))
All-last P xs x all holds = All-append P xs (x ∷ []) all (All-cons P x [] holds (All-nil P))

-- the request in front was sent
pub relayed-sent : (terms asked replied : List ℕ) (start : Both) (client agent new : StreamView) (body_len : ℕ)
    → IsRelayed terms 0 asked replied start (both client agent) → front longest_body asked ≡ Whole body_len
    → refusal terms (front_body body_len asked) ≡ None
    → Appends agent.written new.written (string (with_terms terms (front_body body_len asked)))
    → new.write_faults ≡ agent.write_faults → OnlyWrites agent new
    → IsRelayed terms 1 (after_front body_len asked) replied start (both client new)
relayed-sent terms asked replied start client agent new body_len is found none wrote writes only =
    let body = front_body body_len asked in
    record {
      requests = is.requests ++ (body ∷ []);
      replies = is.replies;
      said = is.said;
      read = is.read;
      first = IsCutTo-front is.said is.requests asked body_len is.first found;
      passed = All-last (λ (b : List ℕ). refusal terms b ≡ None) is.requests body is.passed none;
      sent = subst (Appends start.agent.written new.written) (sym (frames-map_last (with_terms terms) is.requests body))
          (Appends-trans start.agent.written agent.written new.written (frames (map (with_terms terms) is.requests)) (string (with_terms terms body)) is.sent wrote);
      answered = is.answered;
      heard = HasRead-same start.agent agent new is.answered is.heard only.taken only.left;
      first_replies = is.first_replies;
      given = is.given;
      even = omega (arith, is.even, length-append is.requests (body ∷ []));
      calm = record {
        client_reads = is.calm.client_reads;
        client_writes = is.calm.client_writes;
        agent_reads = only.read_faults ∙ is.calm.agent_reads;
        agent_writes = writes ∙ is.calm.agent_writes;
      };
    }

-- the reply in front was given back
pub relayed-given : (terms asked replied : List ℕ) (start : Both) (client new agent : StreamView) (body_len : ℕ)
    → IsRelayed terms 1 asked replied start (both client agent) → front longest_body replied ≡ Whole body_len
    → Appends client.written new.written (string (front_body body_len replied))
    → new.write_faults ≡ client.write_faults → OnlyWrites client new
    → IsRelayed terms 0 asked (after_front body_len replied) start (both new agent)
relayed-given terms asked replied start client new agent body_len is found wrote writes only =
    let body = front_body body_len replied in
    record {
      requests = is.requests;
      replies = is.replies ++ (body ∷ []);
      said = is.said;
      read = HasRead-same start.client client new is.said is.read only.taken only.left;
      first = is.first;
      passed = is.passed;
      sent = is.sent;
      answered = is.answered;
      heard = is.heard;
      first_replies = IsCutTo-front is.answered is.replies replied body_len is.first_replies found;
      given = subst (Appends start.client.written new.written) (sym (frames-last is.replies body))
          (Appends-trans start.client.written client.written new.written (frames is.replies) (string body) is.given wrote);
      even = omega (arith, is.even, length-append is.replies (body ∷ []));
      calm = record {
        client_reads = only.read_faults ∙ is.calm.client_reads;
        client_writes = writes ∙ is.calm.client_writes;
        agent_reads = is.calm.agent_reads;
        agent_writes = is.calm.agent_writes;
      };
    }

-- ---- where a call fails

-- all was written
all_written : (bodies : List (List ℕ)) → AreWritten bodies (frames bodies)
all_written bodies = record {
  whole = bodies;
  last = [];
  part = [];
  order = sym (append-nil bodies);
  one = omega arith;
  is = sym (append-nil (frames bodies));
  front = record { more = []; is = refl };
}

-- of one body more a front was written
part_written : (bodies : List (List ℕ)) (body part rest : List ℕ) → part ++ rest ≡ string body
    → AreWritten (bodies ++ (body ∷ [])) (frames bodies ++ part)
part_written bodies body part rest is = record {
  whole = bodies;
  last = body ∷ [];
  part = part;
  order = refl;
  one = omega arith;
  is = refl;
  front = record { more = rest; is = is ∙ sym (frames-one body) };
}

-- so far nothing has failed
pub broken-relayed : (terms : List ℕ) (owed : ℕ) (asked replied : List ℕ) (start now : Both) → owed ≤ 1
    → IsRelayed terms owed asked replied start now → IsBroken terms start now
broken-relayed terms owed asked replied start now at_most is = record {
  requests = is.requests;
  replies = is.replies;
  asked = asked;
  said = is.said;
  read = is.read;
  first = is.first;
  passed = is.passed;
  out = frames (map (with_terms terms) is.requests);
  sent = is.sent;
  sent_is = all_written (map (with_terms terms) is.requests);
  replied = replied;
  answered = is.answered;
  heard = is.heard;
  first_replies = is.first_replies;
  back = frames is.replies;
  given = is.given;
  given_is = all_written is.replies;
  replies_behind = omega (arith, is.even);
  one_ahead = omega (arith, is.even, at_most);
}

-- more was read of the client
pub broken-asked : (terms : List ℕ) (owed : ℕ) (asked now replied : List ℕ) (start : Both) (client new agent : StreamView) → owed ≤ 1
    → IsRelayed terms owed asked replied start (both client agent) → HearsMore asked now client new → OnlyReads client new
    → IsBroken terms start (both new agent)
broken-asked terms owed asked now replied start client new agent at_most is more only = record {
  requests = is.requests;
  replies = is.replies;
  asked = now;
  said = is.said ++ more.bytes;
  read = HasRead-trans start.client client new is.said more.bytes is.read more.read;
  first = subst (IsCutTo (is.said ++ more.bytes) is.requests) (sym more.heard) (IsCutTo-more is.said is.requests asked more.bytes is.first);
  passed = is.passed;
  out = frames (map (with_terms terms) is.requests);
  sent = is.sent;
  sent_is = all_written (map (with_terms terms) is.requests);
  replied = replied;
  answered = is.answered;
  heard = is.heard;
  first_replies = is.first_replies;
  back = frames is.replies;
  given = Appends-same start.client.written client.written new.written (frames is.replies) is.given only.written;
  given_is = all_written is.replies;
  replies_behind = omega (arith, is.even);
  one_ahead = omega (arith, is.even, at_most);
}

-- more was read of the agent
pub broken-replied : (terms : List ℕ) (owed : ℕ) (asked replied now : List ℕ) (start : Both) (client agent new : StreamView) → owed ≤ 1
    → IsRelayed terms owed asked replied start (both client agent) → HearsMore replied now agent new → OnlyReads agent new
    → IsBroken terms start (both client new)
broken-replied terms owed asked replied now start client agent new at_most is more only = record {
  requests = is.requests;
  replies = is.replies;
  asked = asked;
  said = is.said;
  read = is.read;
  first = is.first;
  passed = is.passed;
  out = frames (map (with_terms terms) is.requests);
  sent = Appends-same start.agent.written agent.written new.written (frames (map (with_terms terms) is.requests)) is.sent only.written;
  sent_is = all_written (map (with_terms terms) is.requests);
  replied = now;
  answered = is.answered ++ more.bytes;
  heard = HasRead-trans start.agent agent new is.answered more.bytes is.heard more.read;
  first_replies = subst (IsCutTo (is.answered ++ more.bytes) is.replies) (sym more.heard) (IsCutTo-more is.answered is.replies replied more.bytes is.first_replies);
  back = frames is.replies;
  given = is.given;
  given_is = all_written is.replies;
  replies_behind = omega (arith, is.even);
  one_ahead = omega (arith, is.even, at_most);
}

-- of the request in front a front was sent
pub broken-sent : (terms asked replied : List ℕ) (start : Both) (client agent new : StreamView) (body_len : ℕ)
    → IsRelayed terms 0 asked replied start (both client agent) → front longest_body asked ≡ Whole body_len
    → refusal terms (front_body body_len asked) ≡ None
    → WritesPart (string (with_terms terms (front_body body_len asked))) agent new → OnlyWrites agent new
    → IsBroken terms start (both client new)
broken-sent terms asked replied start client agent new body_len is found none part only =
    let body = front_body body_len asked in
    let before = map (with_terms terms) is.requests in
    record {
      requests = is.requests ++ (body ∷ []);
      replies = is.replies;
      asked = after_front body_len asked;
      said = is.said;
      read = is.read;
      first = IsCutTo-front is.said is.requests asked body_len is.first found;
      passed = All-last (λ (b : List ℕ). refusal terms b ≡ None) is.requests body is.passed none;
      out = frames before ++ part.1.front;
      sent = Appends-trans start.agent.written agent.written new.written (frames before) part.1.front is.sent part.1.written;
      sent_is = subst (λ (bodies : List (List ℕ)). AreWritten bodies (frames before ++ part.1.front)) (sym (map-append (with_terms terms) is.requests (body ∷ [])))
          (part_written before (with_terms terms body) part.1.front part.0 part.1.whole);
      replied = replied;
      answered = is.answered;
      heard = HasRead-same start.agent agent new is.answered is.heard only.taken only.left;
      first_replies = is.first_replies;
      back = frames is.replies;
      given = is.given;
      given_is = all_written is.replies;
      replies_behind = omega (arith, is.even, length-append is.requests (body ∷ []));
      one_ahead = omega (arith, is.even, length-append is.requests (body ∷ []));
    }

-- of the reply in front a front was given back
pub broken-given : (terms asked replied : List ℕ) (start : Both) (client new agent : StreamView) (body_len : ℕ)
    → IsRelayed terms 1 asked replied start (both client agent) → front longest_body replied ≡ Whole body_len
    → WritesPart (string (front_body body_len replied)) client new → OnlyWrites client new
    → IsBroken terms start (both new agent)
broken-given terms asked replied start client new agent body_len is found part only =
    let body = front_body body_len replied in
    record {
      requests = is.requests;
      replies = is.replies ++ (body ∷ []);
      asked = asked;
      said = is.said;
      read = HasRead-same start.client client new is.said is.read only.taken only.left;
      first = is.first;
      passed = is.passed;
      out = frames (map (with_terms terms) is.requests);
      sent = is.sent;
      sent_is = all_written (map (with_terms terms) is.requests);
      replied = after_front body_len replied;
      answered = is.answered;
      heard = is.heard;
      first_replies = IsCutTo-front is.answered is.replies replied body_len is.first_replies found;
      back = frames is.replies ++ part.1.front;
      given = Appends-trans start.client.written client.written new.written (frames is.replies) part.1.front is.given part.1.written;
      given_is = part_written is.replies body part.1.front part.0 part.1.whole;
      replies_behind = omega (arith, is.even, length-append is.replies (body ∷ []));
      one_ahead = omega (arith, is.even, length-append is.replies (body ∷ []));
    }
