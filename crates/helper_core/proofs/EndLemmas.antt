-- Lemmas on specs/Serving.antt and specs/Claims.antt: steps of a talk, and its ends.
use Rattle.std.proofs.Common.{◌≡◌, ℕ, ◌+◌, List, [], ◌∷◌, ◌++◌, drop, Option, Some, refl, ap, sym, ◌∙◌, subst, append_assoc}
use Rattle.std.proofs.lemmas.List.{append-nil}
use Rattle.std.proofs.KnownBytes.{Appends-trans}
use Rattle.std.specs.Io.KnownBytes.{Appends, IsAtEnd}
use Rattle.child_peer.specs.Hearing.{HearsPiece, HearsNothing}
use Rattle.child_peer.proofs.TalkLemmas.{holds_of, holds_at_end, HasRead-piece, HasRead-kept, HasRead-same, Appends-same}
use Rattle.helper_core.specs.Claims.{Begins, Ends, EndsAs, EndsEarly, HasDone, Seen, Talk}
use Rattle.helper_core.specs.declared.behind.Exchange.{Exchange}
use Rattle.helper_core.specs.declared.status.HelperStatus.{HelperStatus}
use Rattle.helper_core.specs.declared.status.HelperStatus.TheVariants.{BadFrame, Done, TornEnd, Memory, ReadFault, WriteFault}
use Rattle.helper_core.specs.Routes.{Route, NoRequest}
use Rattle.helper_core.specs.Serving.{IsUnderWay, PutsAnswer, PutsNothing}
use Rattle.helper_core.specs.Transcript.{Replies, Transcript, after, ended, replies_of, served, then_served, torn_or_done}
use Rattle.helper_core.proofs.ServeLemmas.{served-bad, served-front, served-more}
use Rattle.helper_core.proofs.StepLemmas.{after-after, after-ended, after-parts, grows_more, replies_of-append}
use Rattle.wire_text.specs.Bounds.{longest_to_child}
use Rattle.wire_text.specs.Frames.{Whole, Bad, More, front, front_body}
use Rattle.world_ports.specs.Causes.{Rose}
use Rattle.world_ports.specs.Streams.{OnlyReads, OnlyWrites, StreamView, WritesPart}

-- what is told at one time
abbrev pub at : Option (List Exchange) → StreamView → Seen
at behind peer = record { behind = behind; peer = peer }

-- no reply follows
goes_on : (route : List ℕ → Route) (talk : Talk) (start now : Seen) (heard : List ℕ) (under : IsUnderWay route talk start now heard) (more : List ℕ)
    → talk (replies_of under.handed) (under.bytes ++ more) ≡ after under.sent under.handed (served route [] (heard ++ more))
goes_on route talk start now heard under more =
    ap (λ (r : Replies). talk r (under.bytes ++ more)) (sym (append-nil (replies_of under.handed))) ∙ under.goes [] more

-- nothing follows at all
goes_nil : (route : List ℕ → Route) (talk : Talk) (start now : Seen) (heard : List ℕ) (under : IsUnderWay route talk start now heard)
    → talk (replies_of under.handed) under.bytes ≡ after under.sent under.handed (served route [] heard)
goes_nil route talk start now heard under =
    ap (talk (replies_of under.handed)) (sym (append-nil under.bytes)) ∙ goes_on route talk start now heard under []
    ∙ ap (λ (h : List ℕ). after under.sent under.handed (served route [] h)) (append-nil heard)

-- ---- ends

-- whatever follows, this is the end
ends_now : (route : List ℕ → Route) (talk : Talk) (start now : Seen) (heard : List ℕ) (status : HelperStatus)
    → IsUnderWay route talk start now heard
    → ((more : List ℕ) → served route [] (heard ++ more) ≡ ended status) → EndsAs status talk start now
ends_now route talk start now heard status under is = record {
  bytes = under.bytes;
  handed = under.handed;
  sent = under.sent;
  done = under.done;
  is = holds_of now.peer.left under.bytes (λ stream. talk (replies_of under.handed) stream ≡ record { sent = under.sent; handed = under.handed; end = Some status }) (λ more.
      goes_on route talk start now heard under more ∙ ap (after under.sent under.handed) (is more) ∙ after-ended under.sent under.handed status);
  reads = under.reads;
  writes = under.writes;
}

pub ends_bad_length : (route : List ℕ → Route) (talk : Talk) (start now : Seen) (heard : List ℕ) (announced : ℕ)
    → IsUnderWay route talk start now heard
    → front longest_to_child heard ≡ Bad announced → Ends BadFrame talk start now
unfolding Ends
ends_bad_length route talk start now heard announced under found =
    ends_now route talk start now heard BadFrame under (λ more. served-bad route heard more announced [] found)

none_served : (given : Route) (body : List ℕ) (rest : Replies → Transcript) → given ≡ NoRequest
    → then_served given body [] rest ≡ ended BadFrame
unfolding then_served
none_served given body rest none = ap (λ (r : Route). then_served r body [] rest) none

pub ends_bad_body : (route : List ℕ → Route) (talk : Talk) (start now : Seen) (heard : List ℕ) (body_len : ℕ)
    → IsUnderWay route talk start now heard
    → front longest_to_child heard ≡ Whole body_len → route (front_body body_len heard) ≡ NoRequest → Ends BadFrame talk start now
unfolding Ends
ends_bad_body route talk start now heard body_len under found none =
    ends_now route talk start now heard BadFrame under (λ more. served-front route heard more body_len [] found
    ∙ none_served (route (front_body body_len heard)) (front_body body_len heard) (λ r. served route r (drop (4 + body_len) heard ++ more)) none)

-- nothing was read
done_kept : (start : Seen) (behind : Option (List Exchange)) (now new : StreamView) (bytes : List ℕ) (handed : List Exchange) (sent heard after_heard : List ℕ)
    → HasDone start (at behind now) bytes handed sent → HearsNothing heard after_heard now new → OnlyReads now new → HasDone start (at behind new) bytes handed sent
done_kept start behind now new bytes handed sent heard after_heard done nothing only = record {
  read = HasRead-kept start.peer now new bytes done.read nothing.taken nothing.left;
  grew = done.grew;
  wrote = Appends-same start.peer.written now.written new.written sent done.wrote only.written;
}

-- nothing follows
ends_at_end : (route : List ℕ → Route) (talk : Talk) (start : Seen) (behind : Option (List Exchange)) (now new : StreamView) (heard after_heard : List ℕ)
    → IsUnderWay route talk start (at behind now) heard → front longest_to_child heard ≡ More → HearsNothing heard after_heard now new → IsAtEnd new.left
    → new.read_faults ≡ now.read_faults → OnlyReads now new → EndsAs (torn_or_done heard) talk start (at behind new)
ends_at_end route talk start behind now new heard after_heard under found nothing end same only = record {
  bytes = under.bytes;
  handed = under.handed;
  sent = under.sent;
  done = done_kept start behind now new under.bytes under.handed under.sent heard after_heard under.done nothing only;
  is = holds_at_end new.left under.bytes (λ stream. talk (replies_of under.handed) stream ≡ record { sent = under.sent; handed = under.handed; end = Some (torn_or_done heard) }) end
      (goes_nil route talk start (at behind now) heard under ∙ ap (after under.sent under.handed) (served-more route heard [] found)
      ∙ after-ended under.sent under.handed (torn_or_done heard));
  reads = same ∙ under.reads;
  writes = only.write_faults ∙ under.writes;
}

-- between two frames
pub ends_done : (route : List ℕ → Route) (talk : Talk) (start : Seen) (behind : Option (List Exchange)) (now new : StreamView) (heard after_heard : List ℕ)
    → IsUnderWay route talk start (at behind now) heard → front longest_to_child heard ≡ More → HearsNothing heard after_heard now new → IsAtEnd new.left
    → new.read_faults ≡ now.read_faults → OnlyReads now new → after_heard ≡ [] → Ends Done talk start (at behind new)
unfolding Ends
ends_done route talk start behind now new heard after_heard under found nothing end same only empty =
    subst (λ (h : List ℕ). EndsAs (torn_or_done h) talk start (at behind new)) (sym nothing.heard ∙ empty)
    (ends_at_end route talk start behind now new heard after_heard under found nothing end same only)

torn : (heard : List ℕ) → (heard ≡ [] → ⊥) → torn_or_done heard ≡ TornEnd
torn [] some = absurd (some refl)
torn (byte ∷ bytes) some = refl

-- within a frame
pub ends_torn : (route : List ℕ → Route) (talk : Talk) (start : Seen) (behind : Option (List Exchange)) (now new : StreamView) (heard after_heard : List ℕ)
    → IsUnderWay route talk start (at behind now) heard → front longest_to_child heard ≡ More → HearsNothing heard after_heard now new → IsAtEnd new.left
    → new.read_faults ≡ now.read_faults → OnlyReads now new → (after_heard ≡ [] → ⊥) → Ends TornEnd talk start (at behind new)
unfolding Ends
ends_torn route talk start behind now new heard after_heard under found nothing end same only some =
    subst (λ (s : HelperStatus). EndsAs s talk start (at behind new)) (torn heard (λ empty. some (nothing.heard ∙ empty)))
    (ends_at_end route talk start behind now new heard after_heard under found nothing end same only)

-- memory ran out, and nothing was done since
early_kept : (route : List ℕ → Route) (talk : Talk) (start now : Seen) (heard : List ℕ)
    → IsUnderWay route talk start now heard → EndsEarly talk start now
early_kept route talk start now heard under = record {
  bytes = under.bytes;
  handed = under.handed;
  sent = under.sent;
  done = under.done;
  begins = holds_of now.peer.left under.bytes (λ stream. Begins under.sent under.handed (talk (replies_of under.handed) stream)) (λ more.
      record { later = served route [] (heard ++ more); is = goes_on route talk start now heard under more });
}

pub ends_early : (route : List ℕ → Route) (talk : Talk) (start now : Seen) (heard : List ℕ)
    → IsUnderWay route talk start now heard → Ends Memory talk start now
unfolding Ends
ends_early = early_kept

-- a talk that is under way stays so where nothing was read
pub under_way-kept : (route : List ℕ → Route) (talk : Talk) (start : Seen) (behind : Option (List Exchange)) (now new : StreamView) (heard after_heard : List ℕ)
    → IsUnderWay route talk start (at behind now) heard → HearsNothing heard after_heard now new → new.read_faults ≡ now.read_faults → OnlyReads now new
    → IsUnderWay route talk start (at behind new) after_heard
under_way-kept route talk start behind now new heard after_heard under nothing same only = record {
  bytes = under.bytes;
  handed = under.handed;
  sent = under.sent;
  done = done_kept start behind now new under.bytes under.handed under.sent heard after_heard under.done nothing only;
  goes = λ later more. under.goes later more ∙ ap (λ (h : List ℕ). after under.sent under.handed (served route later (h ++ more))) (sym nothing.heard);
  reads = same ∙ under.reads;
  writes = only.write_faults ∙ under.writes;
}

-- a read failed
pub ends_unread : (route : List ℕ → Route) (talk : Talk) (start : Seen) (behind : Option (List Exchange)) (now new : StreamView) (heard after_heard : List ℕ)
    → IsUnderWay route talk start (at behind now) heard → front longest_to_child heard ≡ More → HearsNothing heard after_heard now new
    → Rose now.read_faults new.read_faults → OnlyReads now new → Ends ReadFault talk start (at behind new)
unfolding Ends
ends_unread route talk start behind now new heard after_heard under found nothing rose only =
    let all = goes_nil route talk start (at behind now) heard under ∙ ap (after under.sent under.handed) (served-more route heard [] found)
    ∙ after-ended under.sent under.handed (torn_or_done heard) in
    record {
      early = record {
        bytes = under.bytes;
        handed = under.handed;
        sent = under.sent;
        done = done_kept start behind now new under.bytes under.handed under.sent heard after_heard under.done nothing only;
        begins = holds_of new.left under.bytes (λ stream. Begins under.sent under.handed (talk (replies_of under.handed) stream)) (λ more.
            record { later = served route [] (heard ++ more); is = goes_on route talk start (at behind now) heard under more });
      };
      sent = sym (ap (λ (t : Transcript). t.sent) all);
      handed = sym (ap (λ (t : Transcript). t.handed) all);
      cause = subst (λ (n : ℕ). Rose n new.read_faults) under.reads rose;
      writes = only.write_faults ∙ under.writes;
    }

-- ---- steps

-- a piece was read
pub under_way-piece : (route : List ℕ → Route) (talk : Talk) (start : Seen) (behind : Option (List Exchange)) (now new : StreamView) (heard after_heard : List ℕ)
    → IsUnderWay route talk start (at behind now) heard → HearsPiece heard after_heard now new → OnlyReads now new → IsUnderWay route talk start (at behind new) after_heard
under_way-piece route talk start behind now new heard after_heard under piece only = record {
  bytes = under.bytes ++ piece.piece;
  handed = under.handed;
  sent = under.sent;
  done = record {
    read = HasRead-piece start.peer now new under.bytes piece.piece under.done.read piece.taken piece.left;
    grew = under.done.grew;
    wrote = Appends-same start.peer.written now.written new.written under.sent under.done.wrote only.written;
  };
  goes = λ later more.
      ap (talk (replies_of under.handed ++ later)) (append_assoc under.bytes piece.piece more) ∙ under.goes later (piece.piece ++ more)
      ∙ ap (λ (h : List ℕ). after under.sent under.handed (served route later h)) (sym (append_assoc heard piece.piece more) ∙ ap (λ (h : List ℕ). h ++ more) (sym piece.heard));
  reads = piece.faults ∙ under.reads;
  writes = only.write_faults ∙ under.writes;
}

-- the talk behind a body that is in front
goes_step : (route : List ℕ → Route) (talk : Talk) (start now : Seen) (heard : List ℕ) (body_len : ℕ) (under : IsUnderWay route talk start now heard)
    (handed : List Exchange) (frame : List ℕ) (later : Replies) (more : List ℕ) (then : Transcript) → front longest_to_child heard ≡ Whole body_len
    → then_served (route (front_body body_len heard)) (front_body body_len heard) (replies_of handed ++ later) (λ r. served route r (drop (4 + body_len) heard ++ more)) ≡ after frame handed then
    → talk (replies_of (under.handed ++ handed) ++ later) (under.bytes ++ more) ≡ after (under.sent ++ frame) (under.handed ++ handed) then
goes_step route talk start now heard body_len under handed frame later more then found is =
    ap (λ (r : Replies). talk r (under.bytes ++ more)) (ap (λ (r : Replies). r ++ later) (replies_of-append under.handed handed) ∙ append_assoc (replies_of under.handed) (replies_of handed) later)
    ∙ under.goes (replies_of handed ++ later) more
    ∙ ap (after under.sent under.handed) (served-front route heard more body_len (replies_of handed ++ later) found ∙ is)
    ∙ after-after under.sent frame under.handed handed then

-- the same where no reply follows
goes_last : (route : List ℕ → Route) (talk : Talk) (start now : Seen) (heard : List ℕ) (body_len : ℕ) (under : IsUnderWay route talk start now heard)
    (handed : List Exchange) (frame : List ℕ) (more : List ℕ) (then : Transcript) → front longest_to_child heard ≡ Whole body_len
    → then_served (route (front_body body_len heard)) (front_body body_len heard) (replies_of handed ++ []) (λ r. served route r (drop (4 + body_len) heard ++ more)) ≡ after frame handed then
    → talk (replies_of (under.handed ++ handed)) (under.bytes ++ more) ≡ after (under.sent ++ frame) (under.handed ++ handed) then
goes_last route talk start now heard body_len under handed frame more then found is =
    ap (λ (r : Replies). talk r (under.bytes ++ more)) (sym (append-nil (replies_of (under.handed ++ handed))))
    ∙ goes_step route talk start now heard body_len under handed frame [] more then found is

-- a request was answered
pub under_way-answered : (route : List ℕ → Route) (talk : Talk) (start : Seen) (behind now_behind : Option (List Exchange)) (now new : StreamView) (heard : List ℕ) (body_len : ℕ) (out : List ℕ)
    → IsUnderWay route talk start (at behind now) heard → front longest_to_child heard ≡ Whole body_len
    → PutsAnswer (route (front_body body_len heard)) (front_body body_len heard) behind now_behind [] out
    → Appends now.written new.written out → new.write_faults ≡ now.write_faults → OnlyWrites now new
    → IsUnderWay route talk start (at now_behind new) (drop (4 + body_len) heard)
under_way-answered route talk start behind now_behind now new heard body_len out under found puts wrote same only = record {
  bytes = under.bytes;
  handed = under.handed ++ puts.handed;
  sent = under.sent ++ puts.frame;
  done = record {
    read = HasRead-same start.peer now new under.bytes under.done.read only.taken only.left;
    grew = grows_more start.behind behind now_behind under.handed puts.handed under.done.grew puts.grew;
    wrote = Appends-trans start.peer.written now.written new.written under.sent puts.frame under.done.wrote (subst (Appends now.written new.written) puts.appended wrote);
  };
  goes = λ later more.
      goes_step route talk start (at behind now) heard body_len under puts.handed puts.frame later more (served route later (drop (4 + body_len) heard ++ more)) found
      (puts.step later (λ r. served route r (drop (4 + body_len) heard ++ more)));
  reads = only.read_faults ∙ under.reads;
  writes = same ∙ under.writes;
}

-- a write failed
pub ends_unwritten : (route : List ℕ → Route) (talk : Talk) (start : Seen) (behind now_behind : Option (List Exchange)) (now new : StreamView) (heard : List ℕ) (body_len : ℕ) (out : List ℕ)
    → IsUnderWay route talk start (at behind now) heard → front longest_to_child heard ≡ Whole body_len
    → PutsAnswer (route (front_body body_len heard)) (front_body body_len heard) behind now_behind [] out
    → WritesPart out now new → Rose now.write_faults new.write_faults → OnlyWrites now new → Ends WriteFault talk start (at now_behind new)
unfolding Ends
ends_unwritten route talk start behind now_behind now new heard body_len out under found puts part rose only = record {
  early = record {
    bytes = under.bytes;
    handed = under.handed ++ puts.handed;
    sent = under.sent ++ part.1.front;
    done = record {
      read = HasRead-same start.peer now new under.bytes under.done.read only.taken only.left;
      grew = grows_more start.behind behind now_behind under.handed puts.handed under.done.grew puts.grew;
      wrote = Appends-trans start.peer.written now.written new.written under.sent part.1.front under.done.wrote part.1.written;
    };
    begins = holds_of new.left under.bytes (λ stream. Begins (under.sent ++ part.1.front) (under.handed ++ puts.handed) (talk (replies_of (under.handed ++ puts.handed)) stream)) (λ more.
        let then = served route [] (drop (4 + body_len) heard ++ more) in
        record {
          later = after part.0 [] then;
          is =
              goes_last route talk start (at behind now) heard body_len under puts.handed puts.frame more then found
              (puts.step [] (λ r. served route r (drop (4 + body_len) heard ++ more)))
              ∙ after-parts under.sent part.1.front part.0 puts.frame (under.handed ++ puts.handed) then (part.1.whole ∙ puts.appended);
        });
  };
  cause = subst (λ (n : ℕ). Rose n new.write_faults) under.writes rose;
  reads = only.read_faults ∙ under.reads;
}

-- memory ran out as a request was answered
pub ends_unanswered : (route : List ℕ → Route) (talk : Talk) (start : Seen) (behind now_behind : Option (List Exchange)) (now : StreamView) (heard : List ℕ) (body_len : ℕ)
    → IsUnderWay route talk start (at behind now) heard → front longest_to_child heard ≡ Whole body_len
    → PutsNothing (route (front_body body_len heard)) (front_body body_len heard) behind now_behind → Ends Memory talk start (at now_behind now)
unfolding Ends
ends_unanswered route talk start behind now_behind now heard body_len under found puts = record {
  bytes = under.bytes;
  handed = under.handed ++ puts.handed;
  sent = under.sent;
  done = record {
    read = under.done.read;
    grew = grows_more start.behind behind now_behind under.handed puts.handed under.done.grew puts.grew;
    wrote = under.done.wrote;
  };
  begins = holds_of now.left under.bytes (λ stream. Begins under.sent (under.handed ++ puts.handed) (talk (replies_of (under.handed ++ puts.handed)) stream)) (λ more.
      let begins = puts.begins [] (λ r. served route r (drop (4 + body_len) heard ++ more)) in
      record {
        later = begins.later;
        is =
            goes_last route talk start (at behind now) heard body_len under puts.handed [] more begins.later found begins.is
            ∙ ap (λ (s : List ℕ). after s (under.handed ++ puts.handed) begins.later) (append-nil under.sent);
      });
}
