-- Files, one after another.
use Rattle.std.proofs.Common.{◌≡◌, ◌<◌, ◌+◌, ℕ, List, drop, map, length, get_or, Option, ◌≤◌, Ok, Err, sym, ap, subst, ◌∙◌}
use Rattle.std.specs.Borrow.{Bor}
use Rattle.std.proofs.lemmas.List.{drop_more, drop_all}
use Rattle.world_ports.specs.Streams.{StreamView}
use Rattle.add_core.specs.declared.fault.Stop.{Stop}
use Rattle.add_core.specs.declared.sending.FileTask.{FileTask}
use Rattle.add_core.specs.Sendings.{file_step, each_file}
use Rattle.add_core.specs.Steps.{Step, followed, Stops, IsWhole}
use Rattle.add_core.proofs.StepLemmas.{stops_in_front, goes_on, followed-assoc, followed-nothing}

-- the paths that words lend
abbrev pub lent : List (Bor (List ℕ)) → List (List ℕ)
lent paths = map (λ path. path.now) paths

-- the first of the files that are left stands in front
next_file : (all made : Step) (task : FileTask) (held : List ℕ → Option (List ℕ)) (place : ℕ) (paths : List (Bor (List ℕ))) (n : ℕ)
    (d : Bor (List ℕ)) → n < length paths → all ≡ followed made (each_file task held place (lent (drop n paths)))
    → all ≡ followed (followed made (file_step task held place (get_or paths n d).now)) (each_file task held (place + 1) (lent (drop (n + 1) paths)))
next_file all made task held place paths n d more is =
    is ∙ ap (λ (left : List (Bor (List ℕ))). followed made (each_file task held place (lent left))) (drop_more paths n d more)
    ∙ sym (followed-assoc made (file_step task held place (get_or paths n d).now) (each_file task held (place + 1) (lent (drop (n + 1) paths))))

-- it stops there
pub stopped_file : (stop : Stop) (all made : Step) (task : FileTask) (held : List ℕ → Option (List ℕ)) (place : ℕ) (paths : List (Bor (List ℕ)))
    (n : ℕ) (d : Bor (List ℕ)) (p0 p1 p2 e0 e1 e2 : StreamView) → n < length paths
    → all ≡ followed made (each_file task held place (lent (drop n paths))) → IsWhole made p0 p1 e0 e1
    → Stops stop (file_step task held place (get_or paths n d).now made.left) p1 p2 e1 e2 → Stops stop all p0 p2 e0 e2
stopped_file stop all made task held place paths n d p0 p1 p2 e0 e1 e2 more is whole stops =
    let step = file_step task held place (get_or paths n d).now in
    let later = each_file task held (place + 1) (lent (drop (n + 1) paths)) in
    subst (λ (x : Step). Stops stop x p0 p2 e0 e2) (sym (next_file all made task held place paths n d more is))
    (stops_in_front stop (followed made step) later p0 p2 e0 e2 (goes_on {T = Unit {0}} (Err stop) made step p0 p1 p2 e0 e1 e2 whole stops))

-- it goes on behind it
pub made_file : (all made : Step) (task : FileTask) (held : List ℕ → Option (List ℕ)) (place : ℕ) (paths : List (Bor (List ℕ)))
    (n : ℕ) (d : Bor (List ℕ)) (p0 p1 p2 e0 e1 e2 : StreamView) → n < length paths
    → all ≡ followed made (each_file task held place (lent (drop n paths))) → IsWhole made p0 p1 e0 e1
    → IsWhole (file_step task held place (get_or paths n d).now made.left) p1 p2 e1 e2
    → (next : Step) × IsWhole next p0 p2 e0 e2 × (all ≡ followed next (each_file task held (place + 1) (lent (drop (n + 1) paths))))
made_file all made task held place paths n d p0 p1 p2 e0 e1 e2 more is whole sent =
    let step = file_step task held place (get_or paths n d).now in (
      followed made step,
      goes_on {T = Unit {0}} (Ok tt) made step p0 p1 p2 e0 e1 e2 whole sent,
      next_file all made task held place paths n d more is,
    )

-- no file is left
pub no_file : (all made : Step) (task : FileTask) (held : List ℕ → Option (List ℕ)) (place : ℕ) (paths : List (Bor (List ℕ))) (n : ℕ)
    (p0 p1 e0 e1 : StreamView) → length paths ≤ n → all ≡ followed made (each_file task held place (lent (drop n paths)))
    → IsWhole made p0 p1 e0 e1 → IsWhole all p0 p1 e0 e1
no_file all made task held place paths n p0 p1 e0 e1 none is whole =
    let same : all ≡ made =
    is ∙ ap (λ (left : List (Bor (List ℕ))). followed made (each_file task held place (lent left))) (drop_all n paths none)
    ∙ followed-nothing made whole.goes_on in
    subst (λ (x : Step). IsWhole x p0 p1 e0 e1) (sym same) whole
