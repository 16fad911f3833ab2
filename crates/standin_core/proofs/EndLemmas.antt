-- Lemmas on specs/Serving.antt and specs/Claims.antt: steps of a talk, and its ends.
use Rattle.std.proofs.Common.{◌≡◌, ℕ, ◌+◌, List, [], ◌∷◌, ◌++◌, drop, Some, None, refl, ap, sym, ◌∙◌, subst, append_assoc}
use Rattle.std.proofs.lemmas.List.{append-nil}
use Rattle.std.proofs.KnownBytes.{Appends-trans}
use Rattle.std.specs.Io.KnownBytes.{Appends, IsAtEnd}
use Rattle.child_msg.specs.ChildFrames.{from_child_body}
use Rattle.child_msg.specs.Messages.{FromChildMessage}
use Rattle.child_peer.specs.Hearing.{HearsPiece, HearsNothing}
use Rattle.child_peer.specs.Talk.{IsFront}
use Rattle.child_peer.proofs.TalkLemmas.{holds_of, holds_at_end, HasRead-piece, HasRead-kept, HasRead-same, Appends-same}
use Rattle.standin_core.specs.Answers.{answer_of}
use Rattle.standin_core.specs.Claims.{Ends, EndsAs}
use Rattle.standin_core.specs.Hosts.{Host}
use Rattle.standin_core.specs.Serving.{IsUnderWay}
use Rattle.standin_core.specs.Transcript.{Transcript, after, ended, served, torn_or_done}
use Rattle.standin_core.specs.declared.status.HelperStatus.{HelperStatus}
use Rattle.standin_core.specs.declared.status.HelperStatus.TheVariants.{BadFrame, Done, TornEnd, Memory, ReadFault, WriteFault}
use Rattle.standin_core.proofs.ServeLemmas.{after-after, after-ended, served-bad, served-more, served-no_request, served-request}
use Rattle.wire_text.specs.Bounds.{longest_to_child}
use Rattle.wire_text.specs.Frames.{Whole, Bad, More, front, front_body}
use Rattle.wire_text.specs.Wire.{string}
use Rattle.world_ports.specs.Causes.{Rose}
use Rattle.world_ports.specs.Streams.{OnlyReads, OnlyWrites, StreamView, WritesPart}

-- ---- ends

-- whatever follows, this is the end
ends_now : (hosts : List Host) (whole : List ℕ → Transcript) (start now : StreamView) (heard : List ℕ) (status : HelperStatus)
    → IsUnderWay hosts whole start now heard
    → ((more : List ℕ) → served hosts (heard ++ more) ≡ ended status) → EndsAs status whole start now
ends_now hosts whole start now heard status under is = record {
  bytes = under.bytes;
  read = under.read;
  sent = under.sent;
  wrote = under.wrote;
  is = holds_of now.left under.bytes (λ stream. whole stream ≡ record { sent = under.sent; status = status }) (λ more.
      under.goes more ∙ ap (after under.sent) (is more) ∙ after-ended under.sent status);
  reads = under.reads;
  writes = under.writes;
}

pub ends_bad_length : (hosts : List Host) (whole : List ℕ → Transcript) (start now : StreamView) (heard : List ℕ) (announced : ℕ)
    → IsUnderWay hosts whole start now heard
    → front longest_to_child heard ≡ Bad announced → Ends BadFrame whole start now
unfolding Ends
ends_bad_length hosts whole start now heard announced under found =
    ends_now hosts whole start now heard BadFrame under (λ more. served-bad hosts heard more announced found)

pub ends_bad_body : (hosts : List Host) (whole : List ℕ → Transcript) (start now : StreamView) (heard : List ℕ) (body_len : ℕ)
    → IsUnderWay hosts whole start now heard
    → front longest_to_child heard ≡ Whole body_len → answer_of hosts (front_body body_len heard) ≡ None → Ends BadFrame whole start now
unfolding Ends
ends_bad_body hosts whole start now heard body_len under found none =
    ends_now hosts whole start now heard BadFrame under (λ more. served-no_request hosts heard more body_len found none)

-- what follows the bytes that were read
goes_nil : (hosts : List Host) (whole : List ℕ → Transcript) (start now : StreamView) (heard : List ℕ) (under : IsUnderWay hosts whole start now heard)
    → whole under.bytes ≡ after under.sent (served hosts heard)
goes_nil hosts whole start now heard under =
    ap whole (sym (append-nil under.bytes)) ∙ under.goes [] ∙ ap (λ (h : List ℕ). after under.sent (served hosts h)) (append-nil heard)

-- nothing follows
ends_at_end : (hosts : List Host) (whole : List ℕ → Transcript) (start now new : StreamView) (heard after_heard : List ℕ)
    → IsUnderWay hosts whole start now heard
    → front longest_to_child heard ≡ More → HearsNothing heard after_heard now new → IsAtEnd new.left → new.read_faults ≡ now.read_faults → OnlyReads now new
    → EndsAs (torn_or_done heard) whole start new
ends_at_end hosts whole start now new heard after_heard under found nothing end same only = record {
  bytes = under.bytes;
  read = HasRead-kept start now new under.bytes under.read nothing.taken nothing.left;
  sent = under.sent;
  wrote = Appends-same start.written now.written new.written under.sent under.wrote only.written;
  is = holds_at_end new.left under.bytes (λ stream. whole stream ≡ record { sent = under.sent; status = torn_or_done heard }) end
      (goes_nil hosts whole start now heard under ∙ ap (after under.sent) (served-more hosts heard found) ∙ after-ended under.sent (torn_or_done heard));
  reads = same ∙ under.reads;
  writes = only.write_faults ∙ under.writes;
}

-- between two frames
pub ends_done : (hosts : List Host) (whole : List ℕ → Transcript) (start now new : StreamView) (heard after_heard : List ℕ)
    → IsUnderWay hosts whole start now heard
    → front longest_to_child heard ≡ More → HearsNothing heard after_heard now new → IsAtEnd new.left → new.read_faults ≡ now.read_faults → OnlyReads now new
    → after_heard ≡ [] → Ends Done whole start new
unfolding Ends
ends_done hosts whole start now new heard after_heard under found nothing end same only empty =
    subst (λ (h : List ℕ). EndsAs (torn_or_done h) whole start new) (sym nothing.heard ∙ empty)
    (ends_at_end hosts whole start now new heard after_heard under found nothing end same only)

torn : (heard : List ℕ) → (heard ≡ [] → ⊥) → torn_or_done heard ≡ TornEnd
torn [] some = absurd (some refl)
torn (byte ∷ bytes) some = refl

-- within a frame
pub ends_torn : (hosts : List Host) (whole : List ℕ → Transcript) (start now new : StreamView) (heard after_heard : List ℕ)
    → IsUnderWay hosts whole start now heard
    → front longest_to_child heard ≡ More → HearsNothing heard after_heard now new → IsAtEnd new.left → new.read_faults ≡ now.read_faults → OnlyReads now new
    → (after_heard ≡ [] → ⊥) → Ends TornEnd whole start new
unfolding Ends
ends_torn hosts whole start now new heard after_heard under found nothing end same only some =
    subst (λ (s : HelperStatus). EndsAs s whole start new) (torn heard (λ empty. some (nothing.heard ∙ empty)))
    (ends_at_end hosts whole start now new heard after_heard under found nothing end same only)

-- what was sent stands in front
front_sent : (hosts : List Host) (whole : List ℕ → Transcript) (start now : StreamView) (heard : List ℕ) (under : IsUnderWay hosts whole start now heard)
    → (more : List ℕ) → IsFront under.sent (whole (under.bytes ++ more)).sent
front_sent hosts whole start now heard under more = record {
  more = (served hosts (heard ++ more)).sent;
  is = sym (ap (λ (t : Transcript). t.sent) (under.goes more));
}

-- memory ran out, and nothing was done since
pub ends_early : (hosts : List Host) (whole : List ℕ → Transcript) (start now : StreamView) (heard : List ℕ)
    → IsUnderWay hosts whole start now heard → Ends Memory whole start now
unfolding Ends
ends_early hosts whole start now heard under = record {
  bytes = under.bytes;
  read = under.read;
  sent = under.sent;
  wrote = under.wrote;
  front = holds_of now.left under.bytes (λ stream. IsFront under.sent (whole stream).sent) (front_sent hosts whole start now heard under);
}

-- a talk that is under way stays so where nothing was read
pub under_way-kept : (hosts : List Host) (whole : List ℕ → Transcript) (start now new : StreamView) (heard after_heard : List ℕ)
    → IsUnderWay hosts whole start now heard
    → HearsNothing heard after_heard now new → new.read_faults ≡ now.read_faults → OnlyReads now new → IsUnderWay hosts whole start new after_heard
under_way-kept hosts whole start now new heard after_heard under nothing same only = record {
  bytes = under.bytes;
  read = HasRead-kept start now new under.bytes under.read nothing.taken nothing.left;
  sent = under.sent;
  wrote = Appends-same start.written now.written new.written under.sent under.wrote only.written;
  goes = λ more. under.goes more ∙ ap (λ (h : List ℕ). after under.sent (served hosts (h ++ more))) (sym nothing.heard);
  reads = same ∙ under.reads;
  writes = only.write_faults ∙ under.writes;
}

-- a read failed
pub ends_unread : (hosts : List Host) (whole : List ℕ → Transcript) (start now new : StreamView) (heard after_heard : List ℕ)
    → IsUnderWay hosts whole start now heard
    → front longest_to_child heard ≡ More → HearsNothing heard after_heard now new → Rose now.read_faults new.read_faults → OnlyReads now new → Ends ReadFault whole start new
unfolding Ends
ends_unread hosts whole start now new heard after_heard under found nothing rose only =
    let all : under.sent ≡ (whole under.bytes).sent =
    sym (ap (λ (t : Transcript). t.sent) (goes_nil hosts whole start now heard under ∙ ap (after under.sent) (served-more hosts heard found)) ∙ append-nil under.sent) in
    record {
      bytes = under.bytes;
      read = HasRead-kept start now new under.bytes under.read nothing.taken nothing.left;
      wrote = subst (Appends start.written new.written) all (Appends-same start.written now.written new.written under.sent under.wrote only.written);
      front = holds_of new.left under.bytes (λ stream. IsFront (whole under.bytes).sent (whole stream).sent) (λ more.
          subst (λ (s : List ℕ). IsFront s (whole (under.bytes ++ more)).sent) all (front_sent hosts whole start now heard under more));
      cause = subst (λ (n : ℕ). Rose n new.read_faults) under.reads rose;
      writes = only.write_faults ∙ under.writes;
    }

-- ---- steps

-- a piece was read
pub under_way-piece : (hosts : List Host) (whole : List ℕ → Transcript) (start now new : StreamView) (heard after_heard : List ℕ)
    → IsUnderWay hosts whole start now heard
    → HearsPiece heard after_heard now new → OnlyReads now new → IsUnderWay hosts whole start new after_heard
under_way-piece hosts whole start now new heard after_heard under piece only = record {
  bytes = under.bytes ++ piece.piece;
  read = HasRead-piece start now new under.bytes piece.piece under.read piece.taken piece.left;
  sent = under.sent;
  wrote = Appends-same start.written now.written new.written under.sent under.wrote only.written;
  goes = λ more.
      ap whole (append_assoc under.bytes piece.piece more) ∙ under.goes (piece.piece ++ more)
      ∙ ap (λ (h : List ℕ). after under.sent (served hosts h)) (sym (append_assoc heard piece.piece more) ∙ ap (λ (h : List ℕ). h ++ more) (sym piece.heard));
  reads = piece.faults ∙ under.reads;
  writes = only.write_faults ∙ under.writes;
}

-- a request was answered
pub under_way-answered : (hosts : List Host) (whole : List ℕ → Transcript) (start now new : StreamView) (heard : List ℕ) (body_len : ℕ) (answer : FromChildMessage) (frame : List ℕ)
    → IsUnderWay hosts whole start now heard → front longest_to_child heard ≡ Whole body_len → answer_of hosts (front_body body_len heard) ≡ Some answer
    → frame ≡ string (from_child_body answer) → Appends now.written new.written frame → new.write_faults ≡ now.write_faults → OnlyWrites now new
    → IsUnderWay hosts whole start new (drop (4 + body_len) heard)
under_way-answered hosts whole start now new heard body_len answer frame under found is framed wrote same only = record {
  bytes = under.bytes;
  read = HasRead-same start now new under.bytes under.read only.taken only.left;
  sent = under.sent ++ frame;
  wrote = Appends-trans start.written now.written new.written under.sent frame under.wrote wrote;
  goes = λ more.
      under.goes more ∙ ap (after under.sent) (served-request hosts heard more body_len answer found is)
      ∙ after-after under.sent (string (from_child_body answer)) (served hosts (drop (4 + body_len) heard ++ more))
      ∙ ap (λ (f : List ℕ). after (under.sent ++ f) (served hosts (drop (4 + body_len) heard ++ more))) (sym framed);
  reads = only.read_faults ∙ under.reads;
  writes = same ∙ under.writes;
}

-- a write failed
pub ends_unwritten : (hosts : List Host) (whole : List ℕ → Transcript) (start now new : StreamView) (heard : List ℕ) (body_len : ℕ) (answer : FromChildMessage) (frame : List ℕ)
    → IsUnderWay hosts whole start now heard → front longest_to_child heard ≡ Whole body_len → answer_of hosts (front_body body_len heard) ≡ Some answer
    → frame ≡ string (from_child_body answer) → WritesPart frame now new → Rose now.write_faults new.write_faults → OnlyWrites now new
    → Ends WriteFault whole start new
unfolding Ends
ends_unwritten hosts whole start now new heard body_len answer frame under found is framed part rose only = record {
  early = record {
    bytes = under.bytes;
    read = HasRead-same start now new under.bytes under.read only.taken only.left;
    sent = under.sent ++ part.1.front;
    wrote = Appends-trans start.written now.written new.written under.sent part.1.front under.wrote part.1.written;
    front = holds_of new.left under.bytes (λ stream. IsFront (under.sent ++ part.1.front) (whole stream).sent) (λ more. record {
      more = part.0 ++ (served hosts (drop (4 + body_len) heard ++ more)).sent;
      is =
          let later = (served hosts (drop (4 + body_len) heard ++ more)).sent in
          append_assoc under.sent part.1.front (part.0 ++ later)
          ∙ ap (λ (l : List ℕ). under.sent ++ l) (sym (append_assoc part.1.front part.0 later) ∙ ap (λ (f : List ℕ). f ++ later) (part.1.whole ∙ framed))
          ∙ sym (ap (λ (t : Transcript). t.sent) (under.goes more ∙ ap (after under.sent) (served-request hosts heard more body_len answer found is)));
    });
  };
  cause = subst (λ (n : ℕ). Rose n new.write_faults) under.writes rose;
  reads = only.read_faults ∙ under.reads;
}
