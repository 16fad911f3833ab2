-- Files of known hosts, one after another, and what a fault of them means.
use Rattle.std.proofs.Common.{◌≡◌, ◌<◌, ◌≤◌, ◌+◌, ℕ, List, [], ◌∷◌, ◌++◌, drop, length, get_or, Option, None, Some, Result, Ok, Err, refl, sym, ap, ◌∙◌, append_assoc}
use Rattle.std.specs.Borrow.{Bor}
use Rattle.std.specs.Prelude.{IfSome}
use Rattle.std.proofs.lemmas.List.{append-nil, drop_more, drop_all}
use Rattle.constraint_rec.specs.Constraints.{IsUseCount}
use Rattle.add_words.specs.Counts.{IsCount}
use Rattle.add_core.specs.declared.fault.AddFault.{AddFault}
use Rattle.add_core.specs.declared.fault.AddFault.TheVariants as why
use Rattle.add_core.specs.declared.fault.Stop.{Stop}
use Rattle.add_core.specs.declared.fault.Stop.TheVariants.{Fault, Memory}
use Rattle.add_core.specs.Exchanges.{Refuses}
use Rattle.add_core.specs.Restrictions.{with_text, hosts_held}
use Rattle.add_core.specs.Sendings.{place_of, text_held}
use Rattle.add_core.proofs.FileLemmas.{lent}

-- a count of the words is a number of uses that a constraint may have
pub is_use_count : (uses : Option ℕ) → IsCount uses → IfSome uses IsUseCount
is_use_count None count = tt
is_use_count (Some uses) count = record { some = count.0; short = count.1 }

-- a fault of a part is one of the whole
pub refuses_on : {A B : Type 0} (stop : Stop) (part : Result A AddFault) (whole : Result B AddFault)
    → ((fault : AddFault) → part ≡ Err fault → whole ≡ Err fault) → Refuses stop part → Refuses stop whole
refuses_on Memory part whole on h = tt
refuses_on (Fault (why.File place)) part whole on h = tt
refuses_on (Fault why.PeerFault) part whole on h = tt
refuses_on (Fault why.InputFault) part whole on h = tt
refuses_on (Fault why.OutputFault) part whole on h = tt
refuses_on (Fault why.Usage) part whole on h = on why.Usage h
refuses_on (Fault (why.FileTooLong place)) part whole on h = on (why.FileTooLong place) h
refuses_on (Fault (why.Body fault)) part whole on h = on (why.Body fault) h
refuses_on (Fault (why.Public fault)) part whole on h = on (why.Public fault) h
refuses_on (Fault (why.Destination fault)) part whole on h = on (why.Destination fault) h
refuses_on (Fault (why.Purpose fault)) part whole on h = on (why.Purpose fault) h
refuses_on (Fault why.EmptyPassphrase) part whole on h = on why.EmptyPassphrase h
refuses_on (Fault why.LongPassphrase) part whole on h = on why.LongPassphrase h
refuses_on (Fault why.TooLong) part whole on h = on why.TooLong h
refuses_on (Fault why.Refused) part whole on h = on why.Refused h
refuses_on (Fault why.BadReply) part whole on h = on why.BadReply h
refuses_on (Fault why.NoIdentities) part whole on h = on why.NoIdentities h

-- texts in front of others
abbrev pub in_front : List (List ℕ) → Result (List (List ℕ)) AddFault
    → Result (List (List ℕ)) AddFault
in_front texts (Ok others) = Ok (texts ++ others)
in_front texts (Err fault) = Err fault

pub none_in_front : (others : Result (List (List ℕ)) AddFault) → others ≡ in_front [] others
none_in_front (Ok texts) = refl
none_in_front (Err fault) = refl

one_in_front : (texts : List (List ℕ)) (text : List ℕ) (others : Result (List (List ℕ)) AddFault)
    → in_front texts (with_text (Ok text) others) ≡ in_front (texts ++ text ∷ []) others
one_in_front texts text (Ok others) = ap (λ (l : List (List ℕ)). Ok l) (sym (append_assoc texts (text ∷ []) others))
one_in_front texts text (Err fault) = refl

-- the first of the files that are left stands in front
next_hosts : (all : Result (List (List ℕ)) AddFault) (texts : List (List ℕ)) (held : List ℕ → Option (List ℕ)) (place : ℕ) (paths : List (Bor (List ℕ)))
    (n : ℕ) (d : Bor (List ℕ)) → n < length paths → all ≡ in_front texts (hosts_held held place (lent (drop n paths)))
    → all ≡ in_front texts (with_text (text_held (place_of place) 16777216 (held (get_or paths n d).now)) (hosts_held held (place + 1) (lent (drop (n + 1) paths))))
next_hosts all texts held place paths n d more is =
    is ∙ ap (λ (left : List (Bor (List ℕ))). in_front texts (hosts_held held place (lent left))) (drop_more paths n d more)

pub made_hosts : (all : Result (List (List ℕ)) AddFault) (texts : List (List ℕ)) (held : List ℕ → Option (List ℕ)) (place : ℕ) (paths : List (Bor (List ℕ)))
    (n : ℕ) (d : Bor (List ℕ)) (text : List ℕ) → n < length paths → all ≡ in_front texts (hosts_held held place (lent (drop n paths)))
    → text_held (place_of place) 16777216 (held (get_or paths n d).now) ≡ Ok text
    → all ≡ in_front (texts ++ text ∷ []) (hosts_held held (place + 1) (lent (drop (n + 1) paths)))
made_hosts all texts held place paths n d text more is read =
    let others = hosts_held held (place + 1) (lent (drop (n + 1) paths)) in
    next_hosts all texts held place paths n d more is
    ∙ ap (λ (r : Result (List ℕ) AddFault). in_front texts (with_text r others)) read ∙ one_in_front texts text others

pub fault_hosts : (all : Result (List (List ℕ)) AddFault) (texts : List (List ℕ)) (held : List ℕ → Option (List ℕ)) (place : ℕ) (paths : List (Bor (List ℕ)))
    (n : ℕ) (d : Bor (List ℕ)) → n < length paths → all ≡ in_front texts (hosts_held held place (lent (drop n paths)))
    → (fault : AddFault) → text_held (place_of place) 16777216 (held (get_or paths n d).now) ≡ Err fault → all ≡ Err fault
fault_hosts all texts held place paths n d more is fault read =
    next_hosts all texts held place paths n d more is
    ∙ ap (λ (r : Result (List ℕ) AddFault). in_front texts (with_text r (hosts_held held (place + 1) (lent (drop (n + 1) paths))))) read

-- no file is left
pub no_hosts : (all : Result (List (List ℕ)) AddFault) (texts : List (List ℕ)) (held : List ℕ → Option (List ℕ)) (place : ℕ) (paths : List (Bor (List ℕ)))
    (n : ℕ) → length paths ≤ n → all ≡ in_front texts (hosts_held held place (lent (drop n paths))) → all ≡ Ok texts
no_hosts all texts held place paths n none is =
    is ∙ ap (λ (left : List (Bor (List ℕ))). in_front texts (hosts_held held place (lent left))) (drop_all n paths none)
    ∙ ap (λ (l : List (List ℕ)). Ok l) (append-nil texts)
