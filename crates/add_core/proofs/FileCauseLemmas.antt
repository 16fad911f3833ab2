-- Lemmas on specs/FileCauses.antt: the file that failed.
use Rattle.std.proofs.Common.{◌≡◌, ◌<◌, ◌≤◌, ◌+◌, ℕ, List, [], ◌∷◌, ◌++◌, take, drop, length, get_or, Option, Result, Ok, Err, sym, ap, subst, ◌∙◌, arith}
use Rattle.std.specs.Borrow.{Bor}
use Rattle.std.specs.Result.{IsErrAnd}
use Rattle.std.proofs.lemmas.List.{drop_more, length-map, length-take-le, map-append, take-append-drop}
use Rattle.world_ports.specs.Files.{FilesView}
use Rattle.world_ports.specs.Journal.{Grows}
use Rattle.add_core.specs.declared.fault.AddFault.TheVariants.{File}
use Rattle.add_core.specs.declared.fault.Stop.{Stop}
use Rattle.add_core.specs.declared.fault.Stop.TheVariants.{Fault}
use Rattle.add_core.specs.FileCauses.{FailsAmong, FailsAt, HasCauseAt, HasFileCause}
use Rattle.add_core.specs.Sendings.{place_of}
use Rattle.add_core.proofs.FileLemmas.{lent}
use Rattle.add_core.proofs.TalkLemmas.{rose_earlier}

-- a call failed behind others that didn't
pub fails_earlier : (path : List ℕ) (f0 f1 f2 : FilesView) → f1.failed ≡ f0.failed
    → f0.faults ≤ f1.faults → FailsAt path f1 f2 → FailsAt path f0 f2
fails_earlier path f0 f1 f2 same later fails = record {
  failed = subst (λ (failed : Option (List (List ℕ))). Grows failed f2.failed (path ∷ [])) same fails.failed;
  cause = rose_earlier f0.faults f1.faults f2.faults later fails.cause;
}

-- the paths in front of a place, the one at it, and those behind it
parted : (paths : List (Bor (List ℕ))) (n : ℕ) (d : Bor (List ℕ)) → n < length paths
    → lent paths ≡ lent (take n paths) ++ (get_or paths n d).now ∷ lent (drop (n + 1) paths)
parted paths n d more =
    ap lent (sym (take-append-drop n paths) ∙ ap (λ (left : List (Bor (List ℕ))). take n paths ++ left) (drop_more paths n d more))
    ∙ map-append (λ (path : Bor (List ℕ)). path.now) (take n paths) (get_or paths n d ∷ drop (n + 1) paths)

length_before : (paths : List (Bor (List ℕ))) (n : ℕ) → n < length paths
    → length (lent (take n paths)) ≡ n
length_before paths n more = length-map (take n paths) (λ (path : Bor (List ℕ)). path.now) ∙ length-take-le n paths (omega (arith, more))

-- a call that failed behind others that didn't is the one at its place
pub fails_among : (paths : List (Bor (List ℕ))) (n : ℕ) (d : Bor (List ℕ)) (place at : ℕ) (f0 f1 f2 : FilesView)
    → n < length paths → at ≡ n
    → f1.failed ≡ f0.failed → f0.faults ≤ f1.faults → (place ≡ place_of at) × FailsAt (get_or paths n d).now f1 f2 → FailsAmong (lent paths) place f0 f2
fails_among paths n d place at f0 f1 f2 more at_is same later fails = record {
  earlier = lent (take n paths);
  path = (get_or paths n d).now;
  later = lent (drop (n + 1) paths);
  stands = parted paths n d more;
  place_is = fails.0 ∙ ap place_of (at_is ∙ sym (length_before paths n more));
  fails = fails_earlier (get_or paths n d).now f0 f1 f2 same later fails.1;
}

-- the same of files that were read behind others that didn't fail
pub fails_among_later : (paths : List (List ℕ)) (place : ℕ) (f0 f1 f2 : FilesView)
    → f1.failed ≡ f0.failed → f0.faults ≤ f1.faults
    → FailsAmong paths place f1 f2 → FailsAmong paths place f0 f2
fails_among_later paths place f0 f1 f2 same later among = record {
  earlier = among.earlier;
  path = among.path;
  later = among.later;
  stands = among.stands;
  place_is = among.place_is;
  fails = fails_earlier among.path f0 f1 f2 same later among.fails;
}

-- what a step stops with is what its call stopped with
pub same_stop : {T : Type 0} (result : Result T Stop) (stop why : Stop)
    → IsErrAnd result (λ own. own ≡ stop) → result ≡ Err why → stop ≡ why
same_stop (Ok value) stop why from is = absurd from
same_stop (Err own) stop why from is = let own_is : own ≡ why = cc in sym from ∙ own_is

-- a reading that stops behind others that didn't fail
pub has_cause_late : {T U : Type 0} (result : Result U Stop) (stop : Stop) (paths : List (Bor (List ℕ))) (n : ℕ) (d : Bor (List ℕ)) (at : ℕ)
    (f0 f1 f2 : FilesView) → n < length paths → at ≡ n → f1.failed ≡ f0.failed → f0.faults ≤ f1.faults → IsErrAnd result (λ own. own ≡ stop)
    → HasCauseAt {T = T} (get_or paths n d).now at (Err stop) f1 f2 → HasFileCause {T = U} (lent paths) result f0 f2
has_cause_late {T = T} {U = U} (Ok value) stop paths n d at f0 f1 f2 more at_is same earlier from cause = absurd from
has_cause_late {T = T} {U = U} (Err own) stop paths n d at f0 f1 f2 more at_is same earlier from cause = record {
  later = omega (arith, earlier, cause.later);
  kept = tt;
  fault = λ place is.
      let stopped = same_stop {T = U} (Err own) stop (Fault (File place)) from is in
      let one_is = ap (λ (why : Stop). let one : Result T Stop = Err why in one) stopped in
      fails_among paths n d place at f0 f1 f2 more at_is same earlier (cause.fault place one_is);
}
