-- The words of `serve` are none of `replay`, and what the status of `serve` says.
use Rattle.std.proofs.Common.{◌≡◌, ◌∙◌, ◌⊎◌, ℕ, List, [], ◌∷◌, ◌++◌, append-nil, Ok, refl, subst, sym, Option, Some, None, Bool, true, false, inl, inr, codes}
use Rattle.std.specs.Str.{bytes_eq}
use Rattle.std.specs.declared.string.String.{String}
use Rattle.std.specs.declared.alloc.Global.{Global}
use Rattle.std.proofs.lemmas.Slice.Eq.{bytes_eq-Decides}
use Rattle.std.proofs.lemmas.List.{append_cancel_left}
use Rattle.world_ports.specs.declared.answers.Polled.TheVariants as polled
use Rattle.world_ports.specs.declared.entry.Entry.{Entry}
use Rattle.world_ports.specs.Journal.{Grows}
use Rattle.agent_model.specs.State.{State, first_state}
use Rattle.replay_run.specs.Choices.{served_with}
use Rattle.serve_words.specs.Serve.{begins, is_set, life_in, limit_in, value_of}
use Rattle.loop_model.specs.Fitting.{AreTyped}
use Rattle.ready_loop.specs.Serving.{Runs, RunsOut, RunsUntilIdle, RunsUpTo, RunsUpToPoll, Serves, Setting, Stage, Unbound}
use Rattle.ready_loop.specs.declared.outcome.ServeEnd.{ServeEnd}
use Rattle.ready_loop.specs.declared.outcome.ServeEnd.TheVariants as ends
use Rattle.agent_top.specs.ServeLaw.{AreAdded}
use Rattle.agent_top.specs.ServeProgram.{ServesExactly, status_of_serving}
use Rattle.agent_top.specs.declared.status.Status.{Status}
use Rattle.agent_top.specs.declared.status.Status.TheVariants as status
use Rattle.agent_top.specs.Words.{IsServe, replay_settings, texts_of}

-- a word isn't both
not_both : (word : List ℕ) → bytes_eq word (codes "serve") ≡ true → bytes_eq word (codes "replay") ≡ false
not_both word is = rw ((bytes_eq-Decides word (codes "serve")).0 is) refl

-- words of `serve` ask for no schedule
pub no_replay : (words : List (List ℕ)) → begins words ≡ true → replay_settings words ≡ None
no_replay [] is = refl
no_replay (word ∷ words) is = rw (not_both word is) refl

-- each end says what its status says
pub serves_by : (is_recorded : Bool) (end : ServeEnd) (setting : Setting) (old new : Option (List Entry))
    → Serves end setting Unbound old new
    → ServesExactly is_recorded setting (status_of_serving end) old new
serves_by is_recorded ends.Over setting old new serves = inl serves
serves_by is_recorded ends.Idle setting old new serves = inr serves
serves_by is_recorded ends.BindFault setting old new serves = serves
serves_by is_recorded ends.PollFault setting old new serves = serves
serves_by is_recorded ends.Memory setting old new serves = serves

some_same : {one other : List ℕ} → Some one ≡ Some other → one ≡ other
some_same same = cc

-- the words say this setting
said : (words : List (String Global)) (setting : Setting) (path : List ℕ) (until_idle : Bool) (life limit : Option ℕ) → IsServe words setting → Some path ≡ value_of (codes "path") (texts_of words) → until_idle ≡ is_set (value_of (codes "until-idle") (texts_of words)) → life ≡ life_in (texts_of words) → limit ≡ limit_in (texts_of words) → record { path = path; until_idle = until_idle; state = first_state (served_with life limit) } ≡ setting
said words setting path until_idle life limit is at idle lives limits =
    let paths : path ≡ setting.path = some_same (at ∙ is.path) in
    let begun : first_state (served_with life limit) ≡ setting.state = rw (lives, limits) (sym is.state) in
    rw (paths, idle, begun, ← is.until_idle) refl

-- what is said of the loop's end is said of the words' setting
pub serves_words : (is_recorded : Bool) (words : List (String Global)) (setting : Setting) (path : List ℕ) (until_idle : Bool) (life limit : Option ℕ) (state : State) (result : Status) (old new : Option (List Entry)) → IsServe words setting → Some path ≡ value_of (codes "path") (texts_of words) → until_idle ≡ is_set (value_of (codes "until-idle") (texts_of words)) → life ≡ life_in (texts_of words) → limit ≡ limit_in (texts_of words) → state ≡ first_state (served_with life limit) → ServesExactly is_recorded (record { path = path; until_idle = until_idle; state = state }) result old new → ServesExactly is_recorded setting result old new
serves_words is_recorded words setting path until_idle life limit state result old new is at idle lives limits begun serves =
    subst (λ (s : Setting). ServesExactly is_recorded s result old new) (said words setting path until_idle life limit is at idle lives limits)
    (subst (λ (s : State). ServesExactly is_recorded (record { path = path; until_idle = until_idle; state = s }) result old new) begun serves)

-- no call was made
pub no_call : (setting : Setting) (journal : Option (List Entry))
    → RunsOut setting Unbound journal journal
no_call setting journal = record {
  to = Unbound;
  calls = record {
    added = [];
    told =
        elim journal as (λ j. Grows j j []) [ None ↦ tt | Some entries ↦ sym (append-nil entries) ];
    legal = refl;
    typed = tt;
  };
}

-- ---- the numbers of calls

-- the calls that were added are no others
same_added : (old new : Option (List Entry)) (added calls : List Entry) → Grows old new added → AreTyped added
    → AreAdded old new calls → AreTyped calls
same_added None new added calls told typed are = are
same_added (Some before) None added calls told typed are = absurd told
same_added (Some before) (Some now) added calls told typed are =
    subst AreTyped (append_cancel_left before added calls (sym told ∙ are)) typed

run-typed : (setting : Setting) (from to : Stage) (old new : Option (List Entry)) → Runs setting from old new to
    → (calls : List Entry) → AreAdded old new calls → AreTyped calls
run-typed setting from to old new runs calls = same_added old new runs.added calls runs.told runs.typed

upto-typed : (setting : Setting) (from : Stage) (last : Entry) (old new : Option (List Entry))
    → RunsUpTo setting from old new last → (calls : List Entry) → AreAdded old new calls → AreTyped calls
upto-typed setting from last old new runs calls =
    same_added old new (runs.before ++ last ∷ []) calls runs.told runs.typed

done-typed : (setting : Setting) (old new : Option (List Entry))
    → (RunsUpToPoll setting Unbound old new (Ok polled.Over) ⊎ RunsUntilIdle setting Unbound old new)
    → (calls : List Entry) → AreAdded old new calls → AreTyped calls
done-typed setting old new (inl over) = upto-typed setting Unbound _ old new over.calls
done-typed setting old new (inr idle) = run-typed setting Unbound _ old new idle.calls

-- they have the numbers of their types, however the loop ended
pub added-typed : (is_recorded : Bool) (setting : Setting) (result : Status) (old new : Option (List Entry))
    → ServesExactly is_recorded setting result old new
    → (calls : List Entry) → AreAdded old new calls → AreTyped calls
added-typed is_recorded setting status.Done old new serves = done-typed setting old new serves
added-typed is_recorded setting (status.ScheduleRefused line fault) old new serves = absurd serves
added-typed is_recorded setting status.Usage old new serves = absurd serves
added-typed is_recorded setting status.BindFault old new serves = upto-typed setting Unbound _ old new serves
added-typed is_recorded setting status.PollFault old new serves = upto-typed setting Unbound _ old new serves.calls
added-typed is_recorded setting status.Memory old new serves = run-typed setting Unbound serves.to old new serves.calls
added-typed is_recorded setting status.ReadFault old new serves = absurd serves
added-typed is_recorded setting status.WriteFault old new serves = done-typed setting old new serves.1
added-typed is_recorded setting status.RecordFault old new serves =
    run-typed setting Unbound serves.1.to old new serves.1.calls
