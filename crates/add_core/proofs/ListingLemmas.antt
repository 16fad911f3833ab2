-- Lists of identities, a line each.
use Rattle.std.proofs.Common.{◌≡◌, ◌<◌, ◌+◌, ℕ, List, [], ◌∷◌, ◌++◌, Some, refl, subst, arith, drop, map, length, get_or, sym, ap, ◌∙◌, append_assoc}
use Rattle.std.specs.Borrow.{Bor}
use Rattle.std.proofs.lemmas.List.{drop_more}
use Rattle.std.specs.Io.KnownBytes.{Appends}
use Rattle.std.proofs.KnownBytes.{Appends-nil}
use Rattle.agent_msg.specs.ReplyReading.{lent}
use Rattle.world_ports.specs.Streams.{StreamView, WritesPart}
use Rattle.add_core.specs.declared.fault.AddFault.TheVariants.{NoIdentities}
use Rattle.add_core.specs.declared.listing.Listing.{Listing}
use Rattle.add_core.specs.Listings.{identity_line, lines_of, listed, none_line}
use Rattle.add_core.specs.Steps.{Step, telling, IsCut, IsStopped}
use Rattle.add_core.proofs.StepLemmas.{no_front, told_cut}

-- one identity more
pub next_line : (listing : Listing) (before after start all : List ℕ) (identities : List (Bor (List ℕ) × Bor (List ℕ))) (n : ℕ)
    (d : Bor (List ℕ) × Bor (List ℕ)) → n < length identities → before ++ lines_of listing (map lent (drop n identities)) ≡ start ++ all
    → after ≡ before ++ identity_line listing (lent (get_or identities n d))
    → after ++ lines_of listing (map lent (drop (n + 1) identities)) ≡ start ++ all
next_line listing before after start all identities n d more so_far is =
    let line = identity_line listing (lent (get_or identities n d)) in
    let others = lines_of listing (map lent (drop (n + 1) identities)) in
    ap (λ (l : List ℕ). l ++ others) is ∙ append_assoc before line others
    ∙ ap (λ (l : List (Bor (List ℕ) × Bor (List ℕ))). before ++ lines_of listing (map lent l)) (sym (drop_more identities n d more)) ∙ so_far

-- no identity is listed
none_listed : (listing : Listing) (identities : List (Bor (List ℕ) × Bor (List ℕ))) (left : List ℕ)
    → length identities ≡ 0
    → listed listing (map lent identities) left ≡ record { sent = []; told = none_line; left = []; fault = Some NoIdentities }
none_listed listing [] left none = refl
none_listed listing (identity ∷ identities) left none = absurd (omega (arith, none))

some_listed : (listing : Listing) (identities : List (Bor (List ℕ) × Bor (List ℕ))) (left : List ℕ)
    → 0 < length identities
    → listed listing (map lent identities) left ≡ telling (lines_of listing (map lent identities)) left
some_listed listing [] left some = absurd (omega (arith, some))
some_listed listing (identity ∷ identities) left some = refl

-- that there is none was written
pub none_told : (listing : Listing) (identities : List (Bor (List ℕ) × Bor (List ℕ))) (left : List ℕ) (p o0 o1 : StreamView)
    → length identities ≡ 0
    → Appends o0.written o1.written none_line → IsStopped NoIdentities (listed listing (map lent identities) left) p p o0 o1
none_told listing identities left p o0 o1 none written =
    subst (λ (x : Step). IsStopped NoIdentities x p p o0 o1) (sym (none_listed listing identities left none)) record {
      fault_is = refl;
      made = record { sent = Appends-nil p.written; told = written };
    }

-- or a front of it
pub none_cut : (listing : Listing) (identities : List (Bor (List ℕ) × Bor (List ℕ))) (left : List ℕ) (p o0 o1 : StreamView)
    → length identities ≡ 0
    → WritesPart none_line o0 o1 → IsCut (listed listing (map lent identities) left) p p o0 o1
none_cut listing identities left p o0 o1 none part =
    subst (λ (x : Step). IsCut x p p o0 o1) (sym (none_listed listing identities left none)) record { sent = no_front [] p; told = part }

-- a front of the lines was written
pub lines_cut : (listing : Listing) (identities : List (Bor (List ℕ) × Bor (List ℕ))) (left text : List ℕ) (p o0 o1 : StreamView)
    → 0 < length identities
    → text ≡ lines_of listing (map lent identities) → WritesPart text o0 o1 → IsCut (listed listing (map lent identities) left) p p o0 o1
lines_cut listing identities left text p o0 o1 some is part =
    subst (λ (x : Step). IsCut x p p o0 o1) (ap (λ (t : List ℕ). telling t left) is ∙ sym (some_listed listing identities left some))
    (told_cut text left p o0 o1 part)
