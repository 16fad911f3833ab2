-- Lemmas on specs/Apart.antt: what an outsider is replied.
use Rattle.std.proofs.Common.{◌≡◌, ℕ, List, [], ◌∷◌, refl, ap, sym, subst, ◌∙◌, Option, Some, None, Bool, true, false, Result, Ok, Err, ◌==◌, ◌+◌, if◌then◌else◌}
use Rattle.std.specs.Option.{IfSome}
use Rattle.std.specs.Str.{bytes_eq}
use Rattle.agent_msg.specs.Requests.{Addition, BindRequest, ClientRequest, Signing, ListIdentities, Sign, Add, Remove, RemoveAll, Lock, Unlock, Bind, OtherExtension, Unsupported}
use Rattle.agent_msg.specs.declared.fault.MsgFault.{MsgFault}
use Rattle.dest_rule.specs.Chains.{judge}
use Rattle.dest_rule.specs.Rules.{denial_under}
use Rattle.key_purposes.specs.Messages.{let_sign}
use Rattle.dest_rule.specs.declared.fault.Next.{Next as Judgement}
use Rattle.dest_rule.specs.declared.fault.Next.TheVariants.{New, Refuse, Same}
use Rattle.identity_table.specs.Deaths.{death_of}
use Rattle.identity_table.specs.Identities.{HeldKey, find_identity, identities_with, identity_of, is_full}
use Rattle.world_ports.specs.declared.Moment.{Moment}
use Rattle.agent_model.specs.Actions.{Work, settles}
use Rattle.agent_model.specs.Dispatch.{Asker, Served, add_by, add_fault, add_seen, add_unless, bind_by, refuses, remove_by, remove_seen, sees, serve, serve_by, serve_locked, serve_unlocked, sign_by, sign_unless, uses, answers}
use Rattle.agent_model.specs.Errands.{Errand, Signs, ask_fault, put_unless}
use Rattle.agent_model.specs.KeyStates.{KeyState, after_use}
use Rattle.agent_model.specs.Limits.{last_number}
use Rattle.agent_model.specs.Objections.{objection}
use Rattle.agent_model.specs.State.{Port, UnderWay}
use Rattle.agent_model.specs.Step.{asker_at}
use Rattle.agent_model.specs.Unseen.{IsSameReply}
use Rattle.agent_model.specs.Verdicts.{Cause, Identities, NotHeld, Refuses, Replies, verdict_text, Success, WrongPassphrase}
use Rattle.agent_model.proofs.ObjectionLemmas.{both_permit}
use Rattle.agent_model.proofs.UnseenLemmas.{both_fail, same_work, unseen-denied}
use Rattle.agent_laws.specs.Apart.{AreUnseen, Insiders, IsAlikeHeld, SaysNoMore, none}
use Rattle.agent_laws.proofs.ApartKeyLemmas.{FindsAlike, finds-alike, found, listed-alike, neither, put-alike, removed-alike, renumbered, spent-alike, unseen-found}
use Rattle.agent_laws.proofs.KeyLemmas.{kept-added, kept-emptied, kept-removed, kept-used}

-- the client gets the same, the same is under way, what is held is alike, and nothing more is to be confirmed
pub record ServesAlike (who : Insiders) (under_way : UnderWay) (one two : Served) : Type 0 where
  pub held : IsAlikeHeld who one.held two.held
  pub reply : IsSameReply one.work two.work
  pub calm : one.work.under_way.confirmations ≡ under_way.confirmations

-- an ask leaves what is to be confirmed
put_unless-calm : (fault : Option Cause) (errand : Errand) (asker : ℕ) (under_way : UnderWay)
    → (put_unless fault errand asker under_way).under_way.confirmations ≡ under_way.confirmations
put_unless-calm None errand asker under_way = refl
put_unless-calm (Some cause) errand asker under_way = refl

module _ (who : Insiders) (moment : Moment) (port : Port) (one two : KeyState) (under_way : UnderWay) (alike : IsAlikeHeld who one two) (unseen : AreUnseen who port moment.wall one.table.identities) (unseen_two : AreUnseen who port moment.wall two.table.identities) where
  abbrev asker : Asker
  asker = asker_at moment port

  abbrev Alike : Served → Served → Type 0
  Alike first second = ServesAlike who under_way first second

  -- what is held stays, and this comes of both
  stays-alike : (work : Work) → work.under_way.confirmations ≡ under_way.confirmations
      → Alike (record { held = one; work = work }) (record { held = two; work = work })
  stays-alike work calm = record { held = alike; reply = same_work work; calm = calm }

  refuses-alike : (cause other : Cause)
      → Alike (refuses cause one under_way) (refuses other two under_way)
  refuses-alike cause other =
      record { held = alike; reply = both_fail cause other under_way; calm = refl }

  -- ---- requests to sign

  -- what comes of a key that isn't seen, or of none
  unsigned : (found_key : Option HeldKey) → IfSome found_key (λ key. sees asker key ≡ false)
      → (signing : Signing)
      → (cause : Cause) × (sign_by found_key asker signing under_way ≡ settles (Refuses cause) under_way)
  unsigned None hidden signing = (NotHeld, refl)
  unsigned (Some key) hidden signing = by_objection (objection key signing.blob port.chain signing.message signing.flags moment.wall) refl
    where
      by_objection : (result : Option Cause)
          → objection key signing.blob port.chain signing.message signing.flags moment.wall ≡ result
          → (cause : Cause) × (sign_unless result key.confirm asker key signing under_way ≡ settles (Refuses cause) under_way)
      by_objection None is = absurd (unseen-denied key.rules signing.blob port.chain signing.message moment.wall port.attempted hidden
          (both_permit (let_sign key.purposes signing.message signing.blob signing.flags)
          (denial_under key.rules signing.blob port.chain signing.message moment.wall) is).1)
      by_objection (Some cause) is = (cause, refl)

  both_unsigned : (first second : Work) (a b : Cause) → first ≡ settles (Refuses a) under_way
      → second ≡ settles (Refuses b) under_way → Alike (uses one first) (uses two second)
  both_unsigned first second a b is_first is_second =
      subst (λ w. Alike (uses one w) (uses two second)) (sym is_first)
      (subst (λ w. Alike (uses one (settles (Refuses a) under_way)) (uses two w)) (sym is_second)
      record { held = alike; reply = both_fail a b under_way; calm = refl })

  module _ (signing : Signing) (open_one : who.is_hidden signing.blob ≡ false) where
    -- the identity that is found is used in both
    used_alike : (first second : HeldKey)
        → find_identity signing.blob one.table.identities ≡ Some first
        → find_identity signing.blob two.table.identities ≡ Some second
        → IsAlikeHeld who (after_use (Some first.number) one) (after_use (Some second.number) two)
    used_alike first second is is_two = record {
      lock = alike.lock;
      first_own = (kept-used (Some first.number) one alike.first_own).own;
      second_own = (kept-used (Some second.number) two alike.second_own).own;
      life = alike.life;
      greatest = alike.greatest;
      keys = spent-alike who signing.blob open_one first second one.table.last two.table.last alike.keys alike.first_own.numbers alike.second_own.numbers is is_two;
    }

    signed_with : (confirm : Bool) (key : HeldKey) (number : ℕ)
        → find_identity signing.blob one.table.identities ≡ Some key
        → find_identity signing.blob two.table.identities ≡ Some (renumbered number key)
        → confirm ≡ false
        → Alike (uses one (sign_unless None confirm asker key signing under_way)) (uses two (sign_unless None confirm asker (renumbered number key) signing under_way))
    signed_with true key number is is_two plain = absurd (cc)
    signed_with false key number is is_two plain = by_fault (ask_fault under_way)
      where
        by_fault : (fault : Option Cause)
            → Alike (uses one (put_unless fault (Signs key signing) port.number under_way)) (uses two (put_unless fault (Signs (renumbered number key) signing) port.number under_way))
        by_fault None = record { held = used_alike key (renumbered number key) is is_two; reply = record { text = refl; waits = refl; under_way = refl; put = refl }; calm = refl }
        by_fault (Some cause) =
            record { held = alike; reply = both_fail cause cause under_way; calm = refl }

    signed_unless : (result : Option Cause) (key : HeldKey) (number : ℕ)
        → find_identity signing.blob one.table.identities ≡ Some key
        → find_identity signing.blob two.table.identities ≡ Some (renumbered number key)
        → key.confirm ≡ false
        → Alike (uses one (sign_unless result key.confirm asker key signing under_way)) (uses two (sign_unless result key.confirm asker (renumbered number key) signing under_way))
    signed_unless (Some cause) key number is is_two plain =
        record { held = alike; reply = both_fail _ _ under_way; calm = refl }
    signed_unless None key number is is_two plain =
        signed_with key.confirm key number is is_two plain

    signed-by : {first second : Option HeldKey}
        → find_identity signing.blob one.table.identities ≡ first
        → find_identity signing.blob two.table.identities ≡ second → FindsAlike who first second
        → Alike (uses one (sign_by first asker signing under_way)) (uses two (sign_by second asker signing under_way))
    signed-by is is_two neither = record { held = alike; reply = same_work _; calm = refl }
    signed-by is is_two (found key number plain) = signed_unless (objection key signing.blob port.chain signing.message signing.flags moment.wall) key number is is_two plain

  signs-alike : (signing : Signing)
      → Alike (serve_unlocked (Sign signing) asker one under_way) (serve_unlocked (Sign signing) asker two under_way)
  signs-alike signing = by_hidden (who.is_hidden signing.blob) refl
    where
      by_hidden : (hidden : Bool) → who.is_hidden signing.blob ≡ hidden
          → Alike (serve_unlocked (Sign signing) asker one under_way) (serve_unlocked (Sign signing) asker two under_way)
      by_hidden false is =
          signed-by signing is refl refl (finds-alike who signing.blob is alike.keys)
      by_hidden true is =
          let first = unsigned (find_identity signing.blob one.table.identities) (unseen-found who port moment.wall signing.blob is one.table.identities unseen) signing in
          let second = unsigned (find_identity signing.blob two.table.identities) (unseen-found who port moment.wall signing.blob is two.table.identities unseen_two) signing in
          both_unsigned _ _ first.0 second.0 first.1 second.1

  -- ---- removals

  unremoved : (found_key : Option HeldKey) → IfSome found_key (λ key. sees asker key ≡ false)
      → (blob : List ℕ) (held : KeyState)
      → (cause : Cause) × (remove_by found_key asker blob held under_way ≡ refuses cause held under_way)
  unremoved None hidden blob held = (NotHeld, refl)
  unremoved (Some key) hidden blob held =
      (_, ap (λ seen. remove_seen seen blob held under_way) hidden)

  removed_seen : (seen : Bool) (blob : List ℕ) → who.is_hidden blob ≡ false
      → Alike (remove_seen seen blob one under_way) (remove_seen seen blob two under_way)
  removed_seen false blob open_one = refuses-alike _ _
  removed_seen true blob open_one = record {
    held = record {
      lock = alike.lock;
      first_own = (kept-removed blob one.table alike.first_own).own;
      second_own = (kept-removed blob two.table alike.second_own).own;
      life = alike.life;
      greatest = alike.greatest;
      keys = removed-alike who blob open_one alike.keys;
    };
    reply = same_work _;
    calm = refl;
  }

  removed-by : {first second : Option HeldKey} (blob : List ℕ) → who.is_hidden blob ≡ false
      → FindsAlike who first second
      → Alike (remove_by first asker blob one under_way) (remove_by second asker blob two under_way)
  removed-by blob open_one neither = refuses-alike NotHeld NotHeld
  removed-by blob open_one (found key number plain) = removed_seen (sees asker key) blob open_one

  removes-alike : (blob : List ℕ)
      → Alike (serve_unlocked (Remove blob) asker one under_way) (serve_unlocked (Remove blob) asker two under_way)
  removes-alike blob = by_hidden (who.is_hidden blob) refl
    where
      by_hidden : (hidden : Bool) → who.is_hidden blob ≡ hidden
          → Alike (serve_unlocked (Remove blob) asker one under_way) (serve_unlocked (Remove blob) asker two under_way)
      by_hidden false is = removed-by blob is (finds-alike who blob is alike.keys)
      by_hidden true is =
          let first = unremoved (find_identity blob one.table.identities) (unseen-found who port moment.wall blob is one.table.identities unseen) blob one in
          let second = unremoved (find_identity blob two.table.identities) (unseen-found who port moment.wall blob is two.table.identities unseen_two) blob two in
          subst (λ s. Alike s (serve_unlocked (Remove blob) asker two under_way)) (sym first.1)
          (subst (Alike (refuses first.0 one under_way)) (sym second.1) (refuses-alike first.0 second.0))

  -- ---- additions

  module _ (addition : Addition) (no_more : SaysNoMore who addition moment.mono one.table two.table) where
    abbrev new_of : Option ℕ → ℕ → HeldKey
    new_of life number = identity_of number addition.key addition.comment (death_of moment.mono addition.terms.life life) addition.terms

    add_with : (fault : Option Cause)
        → Alike (add_unless fault addition moment.mono one under_way) (add_unless fault addition moment.mono two under_way)
    add_with (Some cause) = refuses-alike cause cause
    add_with None = record {
      held = record {
        lock = alike.lock;
        first_own = (kept-added addition moment.mono one.table alike.first_own).own;
        second_own = (kept-added addition moment.mono two.table alike.second_own).own;
        life = alike.life;
        greatest = refl;
        keys = rw alike.life (put-alike who (new_of one.table.life (one.table.last + 1)) (two.table.last + 1) no_more.shown no_more.plain alike.keys);
      };
      reply = same_work _;
      calm = refl;
    }

    add_seen_so : (seen : Bool)
        → Alike (add_seen seen addition moment.mono one under_way) (add_seen seen addition moment.mono two under_way)
    add_seen_so false = refuses-alike _ _
    add_seen_so true =
        let fault_of : Bool → Bool → Option Cause = λ full spent. add_fault full spent in
        let full : Bool = is_full (identities_with two.table addition.key addition.terms addition.comment moment.mono) in
        let spent : Bool = two.table.last == last_number in
        let same : fault_of (is_full (identities_with one.table addition.key addition.terms addition.comment moment.mono)) (one.table.last == last_number) ≡ fault_of full spent =
        ap (λ f. fault_of f (one.table.last == last_number)) no_more.room ∙ ap (fault_of full) no_more.numbers in
        subst (λ f. Alike (add_unless f addition moment.mono one under_way) (add_unless (fault_of full spent) addition moment.mono two under_way)) (sym same) (add_with (fault_of full spent))

    added-by : {first second : Option HeldKey} → FindsAlike who first second
        → Alike (add_by first asker addition one under_way) (add_by second asker addition two under_way)
    added-by neither = add_seen_so true
    added-by (found key number plain) = add_seen_so (sees asker key)

    adds-alike : Alike (serve_unlocked (Add addition) asker one under_way) (serve_unlocked (Add addition) asker two under_way)
    adds-alike = added-by (finds-alike who addition.key.blob no_more.shown alike.keys)

  -- ---- the others

  locks-alike : (passphrase : List ℕ)
      → Alike (serve_unlocked (Lock passphrase) asker one under_way) (serve_unlocked (Lock passphrase) asker two under_way)
  locks-alike [] = refuses-alike _ _
  locks-alike (byte ∷ bytes) = record {
    held = record { lock = refl; first_own = alike.first_own; second_own = alike.second_own; life = alike.life; greatest = alike.greatest; keys = alike.keys };
    reply = same_work _;
    calm = refl;
  }

  -- by whether the passphrase is the one that locked the agent
  abbrev unlocked_by : Bool → KeyState → Served
  unlocked_by is_right held =
      if is_right then answers Success (record held { lock = None }) under_way else refuses WrongPassphrase held under_way

  unlocks-alike : (same : Bool) → Alike (unlocked_by same one) (unlocked_by same two)
  unlocks-alike false = refuses-alike _ _
  unlocks-alike true = record {
    held = record { lock = refl; first_own = alike.first_own; second_own = alike.second_own; life = alike.life; greatest = alike.greatest; keys = alike.keys };
    reply = same_work _;
    calm = refl;
  }

  bound_calm : (judgement : Judgement) (bind : BindRequest)
      → (bind_by judgement asker bind under_way).under_way.confirmations ≡ under_way.confirmations
  bound_calm (Refuse fault) bind = refl
  bound_calm Same bind = put_unless-calm (ask_fault under_way) _ port.number under_way
  bound_calm New bind = put_unless-calm (ask_fault under_way) _ port.number under_way

  unlocked-alike : (request : ClientRequest)
      → ((addition : Addition) → request ≡ Add addition → SaysNoMore who addition moment.mono one.table two.table)
      → Alike (serve_unlocked request asker one under_way) (serve_unlocked request asker two under_way)
  unlocked-alike ListIdentities no_more = record {
    held = alike;
    reply = record {
      text = ap (λ all. verdict_text (Replies (Identities all))) (listed-alike who port moment.wall alike.keys unseen unseen_two);
      waits = refl;
      under_way = refl;
      put = refl;
    };
    calm = refl;
  }
  unlocked-alike (Sign signing) no_more = signs-alike signing
  unlocked-alike (Add addition) no_more = adds-alike addition (no_more addition refl)
  unlocked-alike (Remove blob) no_more = removes-alike blob
  unlocked-alike RemoveAll no_more = record {
    held = record { lock = alike.lock; first_own = (kept-emptied one.table).own; second_own = (kept-emptied two.table).own; life = alike.life; greatest = alike.greatest; keys = none };
    reply = same_work _;
    calm = refl;
  }
  unlocked-alike (Lock passphrase) no_more = locks-alike passphrase
  unlocked-alike (Unlock passphrase) no_more = refuses-alike _ _
  unlocked-alike (Bind bind) no_more =
      stays-alike _ (bound_calm (judge bind.host_key bind.session port.chain) bind)
  unlocked-alike (OtherExtension name) no_more = refuses-alike _ _
  unlocked-alike (Unsupported number) no_more = refuses-alike _ _

  locked-alike : (passphrase : List ℕ) (request : ClientRequest)
      → Alike (serve_locked passphrase request one under_way) (serve_locked passphrase request two under_way)
  locked-alike passphrase ListIdentities = record { held = alike; reply = same_work _; calm = refl }
  locked-alike passphrase (Sign signing) = refuses-alike _ _
  locked-alike passphrase (Add addition) = refuses-alike _ _
  locked-alike passphrase (Remove blob) = refuses-alike _ _
  locked-alike passphrase RemoveAll = refuses-alike _ _
  locked-alike passphrase (Lock other) = refuses-alike _ _
  locked-alike passphrase (Unlock other) = unlocks-alike (bytes_eq passphrase other)
  locked-alike passphrase (Bind bind) = refuses-alike _ _
  locked-alike passphrase (OtherExtension name) = refuses-alike _ _
  locked-alike passphrase (Unsupported number) = refuses-alike _ _

  by_lock : (lock : Option (List ℕ)) (request : ClientRequest)
      → ((addition : Addition) → request ≡ Add addition → SaysNoMore who addition moment.mono one.table two.table)
      → Alike (serve_by lock request asker one under_way) (serve_by lock request asker two under_way)
  by_lock None request no_more = unlocked-alike request no_more
  by_lock (Some passphrase) request no_more = locked-alike passphrase request

  -- a request, as its body reads
  pub serves-alike : (read : Result ClientRequest MsgFault)
      → ((addition : Addition) → read ≡ Ok (Add addition) → SaysNoMore who addition moment.mono one.table two.table)
      → Alike (serve read asker one under_way) (serve read asker two under_way)
  serves-alike (Err fault) no_more = refuses-alike _ _
  serves-alike (Ok request) no_more =
      subst (λ lock. Alike (serve_by one.lock request asker one under_way) (serve_by lock request asker two under_way)) (sym alike.lock)
      (by_lock one.lock request (λ addition is. no_more addition (ap (λ r. Ok r) is)))
