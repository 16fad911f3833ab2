-- Questions are about what is held: it stays so, whatever is called.
use Rattle.std.proofs.Common.{ℕ, ◌+◌, List, [], ◌∷◌, ◌++◌, drop, refl, ap, ◌∙◌, Bool, true, false, if◌then◌else◌, Option, Some, None}
use Rattle.std.proofs.lemmas.List.{drop-drop}
use Rattle.std.specs.List.{AllByRecursion}
use Rattle.lists.specs.Firsts.{change_first, remove_first}
use Rattle.lists.specs.Keyed.{has_key}
use Rattle.key_purposes.specs.declared.purpose.Purpose.{Purpose}
use Rattle.confirm_desk.specs.Calls.{telling, telling_by, telling_if, took_at, took_by}
use Rattle.confirm_desk.specs.Confirmations.{Confirmation, Consent, Held, NotYet, Yes, No, consent, find_linked, heard_more, job_of, linked, linked_at, lose, raise, took_some}
use Rattle.confirm_desk.specs.Lines.{AskAboutThem, AsksAboutIt}
use Rattle.confirm_desk.specs.Prompt.{prompt_for}

-- ---- what holds of each of a list

each-push : (P : Confirmation → Type 0) (all : List Confirmation) (one : Confirmation) → P one
    → AllByRecursion P all → AllByRecursion P (all ++ one ∷ [])
each-push P [] one is each = (is, tt)
each-push P (first ∷ others) one is each = (each.0, each-push P others one is each.1)

each-change : (P : Confirmation → Type 0) (test : Confirmation → Bool) (f : Confirmation → Confirmation)
    (all : List Confirmation) → ((one : Confirmation) → P one → P (f one)) → AllByRecursion P all
    → AllByRecursion P (change_first test f all)
each-change P test f [] keeps each = tt
each-change P test f (one ∷ others) keeps each = by_test (test one) (each-change P test f others keeps each.1)
  where
    by_test : (is : Bool) → AllByRecursion P (change_first test f others)
        → AllByRecursion P (if is then f one ∷ others else one ∷ change_first test f others)
    by_test true changed = (keeps one each.0, each.1)
    by_test false changed = (each.0, changed)

each-remove : (P : Confirmation → Type 0) (test : Confirmation → Bool) (all : List Confirmation)
    → AllByRecursion P all → AllByRecursion P (remove_first test all)
each-remove P test [] each = tt
each-remove P test (one ∷ others) each = by_test (test one) (each-remove P test others each.1)
  where
    by_test : (is : Bool) → AllByRecursion P (remove_first test others)
        → AllByRecursion P (if is then others else one ∷ remove_first test others)
    by_test true removed = each.1
    by_test false removed = (each.0, removed)

-- ---- one confirmation

asks-linked : (port : ℕ) (one : Confirmation) → AsksAboutIt one → AsksAboutIt (linked_at port one)
asks-linked port one asks = record {
  comment = asks.comment;
  blob = asks.blob;
  purposes = asks.purposes;
  host = asks.host;
  taken = asks.taken;
  owed = asks.owed;
}

asks-took : (count : ℕ) (one : Confirmation) → AsksAboutIt one → AsksAboutIt (took_some count one)
asks-took count one asks = record {
  comment = asks.comment;
  blob = asks.blob;
  purposes = asks.purposes;
  host = asks.host;
  taken = asks.taken + count;
  owed = ap (drop count) asks.owed ∙ drop-drop count asks.taken _;
}

asks-heard : (piece : List ℕ) (one : Confirmation) → AsksAboutIt one → AsksAboutIt (heard_more piece one)
asks-heard piece one asks = record {
  comment = asks.comment;
  blob = asks.blob;
  purposes = asks.purposes;
  host = asks.host;
  taken = asks.taken;
  owed = asks.owed;
}

-- ---- calls

pub asks-raised : (job : ℕ) (held : Held) (comment blob : List ℕ) (purposes : List Purpose) (host : Option (List ℕ)) (now : ℕ)
    (all : List Confirmation) → AskAboutThem all
    → AskAboutThem (raise job held (prompt_for comment blob purposes host held.message) now all)
asks-raised job held comment blob purposes host now all asks =
    each-push AsksAboutIt all _ (record { comment = comment; blob = blob; purposes = purposes; host = host; taken = 0; owed = refl }) asks

pub asks-link : (job port : ℕ) (all : List Confirmation) → AskAboutThem all → AskAboutThem (linked job port all)
asks-link job port all asks =
    each-change AsksAboutIt (has_key job_of job) (linked_at port) all (asks-linked port) asks

pub asks-lose : (job : ℕ) (all : List Confirmation) → AskAboutThem all → AskAboutThem (lose job all)
asks-lose job all asks = each-remove AsksAboutIt (has_key job_of job) all asks

asks-took_by : (found : Option Confirmation) (count : ℕ) (all : List Confirmation) → AskAboutThem all
    → AskAboutThem (took_by found count all)
asks-took_by None count all asks = asks
asks-took_by (Some one) count all asks =
    each-change AsksAboutIt (has_key job_of one.job) (took_some count) all (asks-took count) asks

pub asks-took_at : (port count : ℕ) (all : List Confirmation) → AskAboutThem all → AskAboutThem (took_at port count all)
asks-took_at port count all asks = asks-took_by (find_linked port all) count all asks

asks-telling_by : (answer : Consent) (one : Confirmation) (piece : List ℕ) (all : List Confirmation) → AskAboutThem all
    → AskAboutThem (telling_by answer one piece all).desk
asks-telling_by NotYet one piece all asks =
    each-change AsksAboutIt (has_key job_of one.job) (heard_more piece) all (asks-heard piece) asks
asks-telling_by Yes one piece all asks = asks-lose one.job all asks
asks-telling_by No one piece all asks = asks-lose one.job all asks

asks-telling_if : (found : Option Confirmation) (piece : List ℕ) (all : List Confirmation) → AskAboutThem all
    → AskAboutThem (telling_if found piece all).desk
asks-telling_if None piece all asks = asks
asks-telling_if (Some one) piece all asks = asks-telling_by (consent one.job (one.heard ++ piece)) one piece all asks

pub asks-telling : (port : ℕ) (piece : List ℕ) (all : List Confirmation) → AskAboutThem all
    → AskAboutThem (telling port piece all).desk
asks-telling port piece all asks = asks-telling_if (find_linked port all) piece all asks
