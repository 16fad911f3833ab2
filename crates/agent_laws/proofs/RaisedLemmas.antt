-- What waits for the user's consent was raised in the past.
use Rattle.std.proofs.Common.{◌≡◌, ◌≢◌, ℕ, ◌+◌, ◌≤◌, List, [], ◌∷◌, ◌++◌, refl, ap, arith, sym, subst, ◌∙◌, ◌==◌, Some, None, Bool, true, false, cond, inl, inr, if◌then◌else◌}
use Rattle.std.proofs.lemmas.Bool.Decides.{nat_tests}
use Rattle.world_ports.specs.declared.Moment.{Moment}
use Rattle.agent_msg.specs.Requests.{Signing}
use Rattle.confirm_desk.specs.Confirmations.{Confirmation, change_job, confirmation_of, find_job, remove_job}
use Rattle.identity_table.specs.Identities.{HaveOwnNumbers, HeldKey, find_identity, find_number}
use Rattle.identity_table.proofs.FindLemmas.{found_has}
use Rattle.identity_table.proofs.NumberLaws.{number_of_found}
use Rattle.agent_model.specs.Actions.{Raised, Raising}
use Rattle.agent_model.specs.Asking.{JobsRise}
use Rattle.agent_model.specs.Errands.{held_for}
use Rattle.agent_model.specs.KeyStates.{KeyState}
use Rattle.agent_model.specs.Runs.{Stamped}
use Rattle.agent_model.proofs.JobLemmas.{changed_back, find_job-push, find_job-remove, job_within}
use Rattle.agent_model.proofs.MakeLemmas.{Kept, altered, unchanged}
use Rattle.agent_laws.specs.Dues.{raised_at}
use Rattle.agent_laws.proofs.HoldsLemmas.{NumbersKept}

-- this confirmation was raised so, and is not over; the key that its addition's number finds has the blob that was asked for
pub record IsRaised (past : List Stamped) (held : KeyState) (one : Confirmation) : Type 0 where
  pub raising : Raising
  pub is : raised_at one.job past ≡ Some raising
  pub port : raising.port ≡ one.asker
  pub addition : raising.addition ≡ one.addition
  pub message : raising.signing.message ≡ one.message
  pub flags : raising.signing.flags ≡ one.flags
  pub within : one.addition ≤ held.table.last
  pub blob : (key : HeldKey) → find_number one.addition held.table.identities ≡ Some key
      → key.blob ≡ raising.signing.blob

-- each one that is waited for
abbrev pub AllRaised : List Stamped → KeyState → List Confirmation → Type 0
AllRaised past held confirmations =
    (job : ℕ) (one : Confirmation) → find_job job confirmations ≡ Some one → IsRaised past held one

-- more is done that raises nothing and ends nothing
pub raised-more : (past more : List Stamped) (held : KeyState) (one : Confirmation)
    → raised_at one.job more ≡ raised_at one.job past → IsRaised past held one
    → IsRaised more held one
raised-more past more held one same raised = record {
  raising = raised.raising;
  is = same ∙ raised.is;
  port = raised.port;
  addition = raised.addition;
  message = raised.message;
  flags = raised.flags;
  within = raised.within;
  blob = raised.blob;
}

pub all_raised-more : (past more : List Stamped) (held : KeyState) (confirmations : List Confirmation)
    → ((job : ℕ) → raised_at job more ≡ raised_at job past) → AllRaised past held confirmations
    → AllRaised more held confirmations
all_raised-more past more held confirmations same all job one found =
    raised-more past more held one (same one.job) (all job one found)

-- keys come and go
pub all_raised-kept : (past : List Stamped) (old new : KeyState) (confirmations : List Confirmation)
    → NumbersKept old new → AllRaised past old confirmations → AllRaised past new confirmations
all_raised-kept past old new confirmations kept all job one found =
    let raised = all job one found in
    record {
      raising = raised.raising;
      is = raised.is;
      port = raised.port;
      addition = raised.addition;
      message = raised.message;
      flags = raised.flags;
      within = omega (arith, raised.within, kept.last);
      blob = λ key there.
          let was = kept.found one.addition key raised.within there in
          ap (λ (k : HeldKey). k.blob) was.used.same ∙ raised.blob was.was was.found;
    }

-- a change of a confirmation that leaves what is to be signed and for whom
pub record IsLight (f : Confirmation → Confirmation) : Type 0 where
  pub job : (c : Confirmation) → (f c).job ≡ c.job
  pub asker : (c : Confirmation) → (f c).asker ≡ c.asker
  pub addition : (c : Confirmation) → (f c).addition ≡ c.addition
  pub message : (c : Confirmation) → (f c).message ≡ c.message
  pub flags : (c : Confirmation) → (f c).flags ≡ c.flags

-- at most one confirmation is changed so
pub data Stays (old : List Confirmation) : List Confirmation → Type 0 where
  as_it_is : Stays old old
  lightly : (job : ℕ) (f : Confirmation → Confirmation) → IsLight f
      → Stays old (change_job job f old)

pub stays-kept : {old new : List Confirmation} → Kept old new → Stays old new
stays-kept unchanged = as_it_is
stays-kept (altered job f same) =
    lightly job f record { job = same.job; asker = same.asker; addition = same.addition; message = same.message; flags = same.flags }

-- such a confirmation was raised as it was
faint : (past : List Stamped) (held : KeyState) (f : Confirmation → Confirmation) (one : Confirmation)
    → IsLight f → IsRaised past held one → IsRaised past held (f one)
faint past held f one same raised = record {
  raising = raised.raising;
  is = ap (λ job. raised_at job past) (same.job one) ∙ raised.is;
  port = raised.port ∙ sym (same.asker one);
  addition = raised.addition ∙ sym (same.addition one);
  message = raised.message ∙ sym (same.message one);
  flags = raised.flags ∙ sym (same.flags one);
  within = omega (arith, raised.within, same.addition one);
  blob = λ key there. raised.blob key (ap (λ n. find_number n held.table.identities) (sym (same.addition one)) ∙ there);
}

pub all_raised-altered : (past : List Stamped) (held : KeyState) (at : ℕ) (f : Confirmation → Confirmation) (confirmations : List Confirmation)
    → IsLight f → AllRaised past held confirmations
    → AllRaised past held (change_job at f confirmations)
all_raised-altered past held at f confirmations same all job one found =
    let was = changed_back job at f confirmations one same.job found in
    elim was.2 [
      | inl is ↦ subst (IsRaised past held) (sym is) (all job was.0 was.1)
      | inr is ↦ subst (IsRaised past held) (sym is) (faint past held f was.0 same (all job was.0 was.1))
    ]

pub all_raised-same : (past : List Stamped) (held : KeyState) {old new : List Confirmation}
    → Stays old new → AllRaised past held old → AllRaised past held new
all_raised-same past held as_it_is all = all
all_raised-same past held {old = old} (lightly job f same) all =
    all_raised-altered past held job f old same all

-- one that is over: the others are not
pub all_raised-over : (past more : List Stamped) (held : KeyState) (over low last : ℕ) (confirmations : List Confirmation)
    → JobsRise low confirmations last
    → ((job : ℕ) → over ≢ job → raised_at job more ≡ raised_at job past)
    → AllRaised past held confirmations → AllRaised more held (remove_job over confirmations)
all_raised-over past more held over low last confirmations order same all job one found =
    by_test (over == job) refl (sym (find_job-remove job over low confirmations last order) ∙ found)
  where
    by_test : (equal : Bool) → (over == job) ≡ equal
        → cond equal None (find_job job confirmations) ≡ Some one → IsRaised more held one
    by_test true is there = absurd (cc)
    by_test false is there =
        let within = job_within job low confirmations last one order there in
        let other : over ≢ one.job = λ e. (let equal : (over == job) ≡ true = grind (arith, nat_tests, within.2) in absurd (cc)) in
        raised-more past more held one (same one.job other) (all job one there)

-- one more: the key that is held is of the addition that is told
module _ (moment : Moment) (past : List Stamped) (held : KeyState) (asker : ℕ) (key : HeldKey) (signing : Signing) (prompt : List ℕ) (last second : ℕ) (confirmations : List Confirmation) (order : JobsRise 0 confirmations last) (numbers : HaveOwnNumbers held.table.last held.table.identities) (found : find_identity signing.blob held.table.identities ≡ Some key) where
  abbrev raising_now : Raising
  raising_now = record { job = last + 1; port = asker; addition = key.number; signing = signing }

  abbrev new : Confirmation
  new = confirmation_of (last + 1) (held_for asker key signing) prompt second

  abbrev more : List Stamped
  more = record { moment = moment; action = Raised raising_now } ∷ past

  is_raised_new : IsRaised more held new
  is_raised_new =
      let here : (last + 1 == last + 1) ≡ true = grind (arith, nat_tests) in
      let numbered = number_of_found signing.blob held.table.last held.table.identities key numbers found in
      record {
        raising = raising_now;
        is = ap (λ b. if b then Some raising_now else raised_at (last + 1) past) here;
        port = refl;
        addition = refl;
        message = refl;
        flags = refl;
        within = numbered.0;
        blob = λ other there.
            let same : Some key ≡ Some other = sym numbered.1 ∙ there in
            let equal : key ≡ other = cc in
            ap (λ (k : HeldKey). k.blob) (sym equal) ∙ found_has signing.blob held.table.identities key found;
      }

  pub all_raised-push : AllRaised past held confirmations
      → AllRaised more held (confirmations ++ new ∷ [])
  all_raised-push all job one there = by_test (last + 1 == job) refl (sym (find_job-push job 0 new confirmations last order (omega arith)) ∙ there)
    where
      by_test : (equal : Bool) → (last + 1 == job) ≡ equal
          → cond equal (Some new) (find_job job confirmations) ≡ Some one → IsRaised more held one
      by_test true is some =
          let same : new ≡ one = cc in subst (IsRaised more held) same is_raised_new
      by_test false is some =
          let within = job_within job 0 confirmations last one order some in
          let other : (last + 1 == one.job) ≡ false = grind (arith, nat_tests, within.1, within.2) in
          raised-more past more held one (ap (λ b. if b then Some raising_now else raised_at one.job past) other) (all job one some)
