-- What is held behind a request is what the past and it tell.
use Rattle.std.proofs.Common.{◌≡◌, ℕ, ◌+◌, ◌≤◌, ◌&&◌, IfOk, IfSome, List, [], refl, ap, arith, sym, subst, ◌∙◌, Option, Some, None, Bool, true, false, cond, is_some, ◌==◌, Result, Ok, Err}
use Rattle.std.specs.Option.{option_map}
use Rattle.std.specs.Str.{bytes_eq}
use Rattle.std.proofs.lemmas.Bool.Decides.{nat_tests}
use Rattle.agent_msg.specs.declared.fault.MsgFault.{MsgFault}
use Rattle.agent_msg.specs.Requests.{Addition, ClientRequest, Signing, ListIdentities, Sign, Add, Remove, RemoveAll, Lock, Unlock, Bind, OtherExtension, Unsupported}
use Rattle.identity_table.specs.Deaths.{death_of, lives_at}
use Rattle.identity_table.specs.Identities.{HeldKey, find_identity, find_number, identity_of, new_identity, remove_identity, added}
use Rattle.identity_table.proofs.FindLemmas.{find-put, find-remove, if_alive, own_blobs-put, own_blobs-remove}
use Rattle.identity_table.proofs.NumberLaws.{find_number-put, find_number-remove, unless_blob}
use Rattle.identity_table.proofs.NumberLemmas.{own_numbers-put, own_numbers-remove}
use Rattle.agent_model.specs.Actions.{Action}
use Rattle.agent_model.specs.Dispatch.{Asker, Served, serve, with_identities}
use Rattle.agent_model.specs.KeyStates.{KeyState, after_use}
use Rattle.agent_model.specs.State.{UnderWay}
use Rattle.agent_model.specs.Verdicts.{Cause, Refuses, Verdict}
use Rattle.agent_model.proofs.ServeLemmas.{Serves, adds, confirms, denies, empties, lists, locks, removes, serves-any, signs, unlocks, verifies}
use Rattle.agent_laws.specs.Past.{DidAdd, DidLock, DidNothing, DidRemove, DidRemoveAll, DidUnlock, DidUse, Done, PastAddition, done_of_request, has_uses, held_by, is_alive, locked_by}
use Rattle.agent_laws.proofs.UsableLemmas.{IsUsable}
use Rattle.agent_laws.proofs.UseLemmas.{was_held}
use Rattle.agent_laws.proofs.HoldsLemmas.{Facts, Holds, NumbersKept, own_none, no_numbers, found_none, none_numbered, same_numbers, of_unless, uses_new, has_new, and_true, facts_after, facts_then, key_of, numbers-used, used-holds}

-- what is held behind a request, and behind the actions that it leads to, is what the past and they tell, and numbers are kept
pub record HoldsAfter (life : Option ℕ) (asker : Asker) (facts : Facts) (held : KeyState) (done : Done) (actions : List Action) (after : KeyState) : Type 0 where
  pub holds : Holds life asker.mono (facts_then actions asker.mono (facts_after done asker.mono facts)) after
  pub kept : NumbersKept held after

module _ (life : Option ℕ) (asker : Asker) (facts : Facts) (held : KeyState) (under_way : UnderWay) (holds : Holds life asker.mono facts held) where
  abbrev After : Done → KeyState → Type 0
  After done after = HoldsAfter life asker facts held done [] after

  abbrev AfterAll : Done → List Action → KeyState → Type 0
  AfterAll done actions after = HoldsAfter life asker facts held done actions after

  nothing_done : After DidNothing held
  nothing_done = record {
    holds = record { locked = holds.locked; count = holds.count; default = holds.default; own = holds.own; numbers = holds.numbers; found = holds.found };
    kept = same_numbers held held refl;
  }

  abbrev Told : Done → KeyState → Type 0
  Told done after = Holds life asker.mono (facts_after done asker.mono facts) after

  -- ---- additions

  added_holds : (addition : Addition) → IfSome addition.terms.uses (λ uses. 1 ≤ uses)
      → Told (DidAdd addition) (record held { table = added held.table addition.key addition.terms addition.comment asker.mono })
  added_holds addition usable = record {
    locked = holds.locked;
    count = ap (λ n. n + 1) holds.count;
    default = holds.default;
    own = own_blobs-put new held.table.identities holds.own;
    numbers = own_numbers-put held.table.last new held.table.identities refl holds.numbers;
    found = λ blob later after.
        ap (if_alive later) (find-put blob new held.table.identities) ∙ by_test blob later after (bytes_eq addition.key.blob blob);
  }
    where
      new : HeldKey
      new = new_identity held.table addition.key addition.terms addition.comment asker.mono

      past : PastAddition
      past = record { number = facts.count + 1; second = asker.mono; addition = addition; uses = 0 }

      is_new : key_of life past ≡ new
      is_new =
          ap (λ u. let key : HeldKey = record (identity_of (facts.count + 1) addition.key addition.comment (death_of asker.mono addition.terms.life life) addition.terms) { uses = u } in key) (uses_new addition.terms.uses)
          ∙ ap (λ n. identity_of (n + 1) addition.key addition.comment (death_of asker.mono addition.terms.life life) addition.terms) holds.count
          ∙ ap (λ l. identity_of (held.table.last + 1) addition.key addition.comment (death_of asker.mono addition.terms.life l) addition.terms) (sym holds.default)

      by_life : (later : ℕ) (lives : Bool)
          → cond lives (Some new) None ≡ option_map (key_of life) (cond lives (Some past) None)
      by_life later true = ap Some (sym is_new)
      by_life later false = refl

      same_life : (later : ℕ) → lives_at later new.death ≡ is_alive life later past
      same_life later =
          ap (λ l. lives_at later (death_of asker.mono addition.terms.life l)) holds.default

      by_test : (blob : List ℕ) (later : ℕ) → asker.mono ≤ later → (same : Bool)
          → if_alive later (cond same (Some new) (find_identity blob held.table.identities)) ≡ option_map (key_of life) (held_by (cond same (Some past) (facts.last blob)) life later)
      by_test blob later after true =
          let has : (is_alive life later past && has_uses addition.terms.uses 0) ≡ is_alive life later past =
          ap (λ b. is_alive life later past && b) (has_new addition.terms.uses usable) ∙ and_true (is_alive life later past) in
          ap (λ b. cond b (Some new) None) (same_life later) ∙ by_life later (is_alive life later past)
          ∙ ap (λ b. option_map (key_of life) (cond b (Some past) None)) (sym has)
      by_test blob later after false = holds.found blob later after

  -- ---- removals

  removed_holds : (removed : List ℕ)
      → Told (DidRemove removed) (with_identities (remove_identity removed held.table.identities) held)
  removed_holds removed = record {
    locked = holds.locked;
    count = holds.count;
    default = holds.default;
    own = own_blobs-remove removed held.table.identities holds.own;
    numbers = own_numbers-remove held.table.last removed held.table.identities holds.numbers;
    found = λ blob later after.
        ap (if_alive later) (find-remove blob removed held.table.identities holds.own) ∙ by_test blob later after (bytes_eq removed blob);
  }
    where
      by_test : (blob : List ℕ) (later : ℕ) → asker.mono ≤ later → (same : Bool)
          → if_alive later (cond same None (find_identity blob held.table.identities)) ≡ option_map (key_of life) (held_by (cond same None (facts.last blob)) life later)
      by_test blob later after true = refl
      by_test blob later after false = holds.found blob later after

  all_holds : Told DidRemoveAll (with_identities [] held)
  all_holds = record { locked = holds.locked; count = holds.count; default = holds.default; own = own_none; numbers = no_numbers held.table.last; found = λ blob later after. found_none blob later }

  -- numbers are kept by an addition and by removals
  added_done : (addition : Addition) → IfSome addition.terms.uses (λ uses. 1 ≤ uses)
      → After (DidAdd addition) (record held { table = added held.table addition.key addition.terms addition.comment asker.mono })
  added_done addition usable = record {
    holds = added_holds addition usable;
    kept = record {
      last = omega arith;
      found = λ number key within found.
          let new : HeldKey = new_identity held.table addition.key addition.terms addition.comment asker.mono in
          let other : (held.table.last + 1 == number) ≡ false = grind (arith, nat_tests, within) in
          was_held number held.table.identities key (of_unless new.blob (find_number number held.table.identities) key
          (ap (λ b. cond b (Some new) (unless_blob new.blob (find_number number held.table.identities))) (sym other)
          ∙ sym (find_number-put number held.table.last new held.table.identities holds.own holds.numbers refl) ∙ found));
    };
  }

  removed_done : (removed : List ℕ)
      → After (DidRemove removed) (with_identities (remove_identity removed held.table.identities) held)
  removed_done removed = record {
    holds = removed_holds removed;
    kept = record {
      last = omega arith;
      found = λ number key within found.
          was_held number held.table.identities key (of_unless removed (find_number number held.table.identities) key (sym (find_number-remove number held.table.last removed held.table.identities holds.own holds.numbers) ∙ found));
    };
  }

  all_removed : After DidRemoveAll (with_identities [] held)
  all_removed = record { holds = all_holds; kept = record { last = omega arith; found = λ number key within found. absurd (none_numbered number key found) } }

  -- ---- the table of requests

  nothing_by : (read : Result ClientRequest MsgFault) (cause : Cause)
      → done_of_request read (Refuses cause) ≡ DidNothing
  nothing_by (Err fault) cause = refl
  nothing_by (Ok ListIdentities) cause = refl
  nothing_by (Ok (Sign signing)) cause = refl
  nothing_by (Ok (Add addition)) cause = refl
  nothing_by (Ok (Remove blob)) cause = refl
  nothing_by (Ok RemoveAll) cause = refl
  nothing_by (Ok (Lock passphrase)) cause = refl
  nothing_by (Ok (Unlock passphrase)) cause = refl
  nothing_by (Ok (Bind bind)) cause = refl
  nothing_by (Ok (OtherExtension name)) cause = refl
  nothing_by (Ok (Unsupported number)) cause = refl

  lock_changed : (lock : Option (List ℕ)) (done : Done) → locked_by done facts.locked ≡ is_some lock
      → facts_after done asker.mono facts ≡ record facts { locked = locked_by done facts.locked }
      → After done (record held { lock = lock })
  lock_changed lock done locked same = record {
    holds = subst (λ f. Holds life asker.mono f (record held { lock = lock })) (sym same)
        record { locked = locked; count = holds.count; default = holds.default; own = holds.own; numbers = holds.numbers; found = holds.found };
    kept = same_numbers held _ refl;
  }

  -- what is used is of the key that was found
  used_done : (signing : Signing) (key : HeldKey) (actions : List Action)
      → find_identity signing.blob held.table.identities ≡ Some key
      → facts_then actions asker.mono (facts_after DidNothing asker.mono facts) ≡ facts_after (DidUse signing.blob) asker.mono facts
      → AfterAll DidNothing actions (after_use (Some key.number) held)
  used_done signing key actions found same = record {
    holds = subst (λ f. Holds life asker.mono f (after_use (Some key.number) held)) (sym same) (used-holds life asker.mono facts held signing.blob key found holds);
    kept = numbers-used key.number held holds.numbers;
  }

  module _ (read : Result ClientRequest MsgFault) (usable : IfOk read IsUsable) where
    as_read : (request : ClientRequest) (verdict : Verdict) (actions : List Action) (after : KeyState)
        → read ≡ Ok request →
        AfterAll (done_of_request (Ok request) verdict) actions after → AfterAll (done_of_request read verdict) actions after
    as_read request verdict actions after is =
        subst (λ r. AfterAll (done_of_request r verdict) actions after) (sym is)

    done-served : {served : Served} → Serves read asker held under_way served →
        AfterAll (done_of_request read served.work.verdict) served.work.actions served.held
    done-served (denies cause) =
        subst (λ done. After done held) (sym (nothing_by read cause)) nothing_done
    done-served (lists identities is) = as_read ListIdentities _ _ held is nothing_done
    done-served (adds addition is) = as_read (Add addition) _ _ _ is (added_done addition (subst (λ r. IfOk r IsUsable) is usable))
    done-served (removes blob is) = as_read (Remove blob) _ _ _ is (removed_done blob)
    done-served (empties is) = as_read RemoveAll _ _ _ is all_removed
    done-served (locks passphrase is) =
        as_read (Lock passphrase) _ _ _ is (lock_changed (Some passphrase) DidLock refl refl)
    done-served (unlocks passphrase is) =
        as_read (Unlock passphrase) _ _ _ is (lock_changed None DidUnlock refl refl)
    done-served (signs signing key is found asks free) =
        as_read (Sign signing) _ _ _ is (used_done signing key _ found refl)
    done-served (confirms signing key is found free) = as_read (Sign signing) _ _ held is record { holds = nothing_done.holds; kept = nothing_done.kept }
    done-served (verifies bind is_new is stands free) = as_read (Bind bind) _ _ held is record { holds = nothing_done.holds; kept = nothing_done.kept }

    -- whatever is asked, what is held behind it is what the past and it tell
    pub holds-served : AfterAll (done_of_request read (serve read asker held under_way).work.verdict) (serve read asker held under_way).work.actions (serve read asker held under_way).held
    holds-served = done-served (serves-any read asker held under_way)
