-- Lemmas on specs/Hosts.antt.
use Rattle.std.proofs.Common.{◌≡◌, ◌≢◌, true, false, Bool, ℕ, zero, suc, ◌<◌, ◌≤◌, List, [], ◌∷◌, ◌++◌, length, drop, take, get_or, option_map, Option, Some, None, Result, Ok, Err, MatchResult, if◌then◌else◌, refl, ap, sym, ◌∙◌, subst, append_assoc, arith, eqb}
use Rattle.std.specs.List.{flat_map}
use Rattle.std.specs.Result.{result_ok}
use Rattle.std.specs.Str.{bytes_eq}
use Rattle.std.specs.Cmp.Lexicographic.{pointwise}
use Rattle.std.proofs.lemmas.Bool.Decides.{nat_tests, Decides-eqb}
use Rattle.std.proofs.lemmas.Grind.{common_steps}
use Rattle.std.proofs.lemmas.List.{append-nil, drop_at, take_at, length-append, length-drop}
use Rattle.std.proofs.lemmas.List.Concat.{flat_map-append}
use Rattle.std.proofs.lemmas.List.Elements.{All-nil, All-cons, All-head, All-tail, All-append}
use Rattle.std.proofs.lemmas.Slice.Eq.{bytes_eq-Decides, slice_eq-Decides}
use Rattle.standin_core.specs.Hosts.{Host, ArePairs, IsSized, pair_of, host_at, host_with, hosts_of, hosts_up_to, key_bytes, secret_for, then_hosts}
use Rattle.standin_core.specs.Reading.{HoldsPair, IsLooking, IsReading, ReadsLine}

-- ---- a line

-- the host of these two
abbrev pub host_of : List ℕ → List ℕ → Host
host_of tag secret = record { tag = tag; secret = secret }

-- what a decoding gave
pub decoded : {E : Type 0} (read : Result (List ℕ) E) (good : Bool) (now : List ℕ)
    → MatchResult read (λ bytes. (good ≡ true) × (now ≡ bytes)) (λ _. good ≡ false) → good ≡ true → result_ok read ≡ Some now
decoded (Ok bytes) good now is right = ap (λ (b : List ℕ). Some b) (sym is.1)
decoded (Err e) good now is right = cc (is, right)

pub not_decoded : {E : Type 0} (read : Result (List ℕ) E) (good : Bool) (now : List ℕ)
    → MatchResult read (λ bytes. (good ≡ true) × (now ≡ bytes)) (λ _. good ≡ false) → good ≡ false → result_ok read ≡ None
not_decoded (Ok bytes) good now is wrong = cc (is.0, wrong)
not_decoded (Err e) good now is wrong = refl

pub host_at-some : (line tag secret : List ℕ) → get_or line 64 0 ≡ 32 → get_or line 129 0 ≡ 10
    → key_bytes (take 64 line) ≡ Some tag
    → key_bytes (take 64 (drop 65 line)) ≡ Some secret → host_at line ≡ Some (host_of tag secret)
unfolding host_at
host_at-some line tag secret space lf tag_is secret_is =
    grind (arith, nat_tests, space, lf, tag_is, secret_is)

pub host_at-no_space : (line : List ℕ) → get_or line 64 0 ≢ 32 → host_at line ≡ None
unfolding host_at
host_at-no_space line other = grind (arith, nat_tests, other)

pub host_at-no_lf : (line : List ℕ) → get_or line 129 0 ≢ 10 → host_at line ≡ None
unfolding host_at
host_at-no_lf line other = grind (arith, nat_tests, other)

-- no host without one of the two
host_with-none : (tag : Option (List ℕ)) → host_with tag None ≡ None
host_with-none None = refl
host_with-none (Some tag) = refl

pub host_at-no_tag : (line : List ℕ) → key_bytes (take 64 line) ≡ None → host_at line ≡ None
unfolding host_at
host_at-no_tag line none = grind (arith, nat_tests, none)

pub host_at-no_secret : (line : List ℕ) → key_bytes (take 64 (drop 65 line)) ≡ None
    → host_at line ≡ None
unfolding host_at
host_at-no_secret line none =
    grind (arith, nat_tests, none, host_with-none (key_bytes (take 64 line)))

-- a line that is too short
pub host_at-short : (line : List ℕ) → length line < 130 → host_at line ≡ None
host_at-short line short = host_at-no_lf line (let past : get_or line 129 0 ≡ 0 = grind (arith, common_steps) in omega (arith, past))

-- ---- lines

-- a count past the number of bytes changes nothing
hosts_up_to-enough : (count more : ℕ) (text : List ℕ) → length text ≤ count → length text ≤ more
    → hosts_up_to count text ≡ hosts_up_to more text
unfolding hosts_up_to
hosts_up_to-enough count more [] fits fits_more = refl
hosts_up_to-enough zero more (byte ∷ text) fits fits_more = absurd (omega arith)
hosts_up_to-enough (suc count) zero (byte ∷ text) fits fits_more = absurd (omega arith)
hosts_up_to-enough (suc count) (suc more) (byte ∷ text) fits fits_more =
    let less = length-drop 130 (byte ∷ text) in
    ap (then_hosts (host_at (byte ∷ text))) (hosts_up_to-enough count more (drop 130 (byte ∷ text)) (omega arith) (omega arith))

-- a line, and those behind it
pub hosts_of-next : (text : List ℕ) → 0 < length text
    → hosts_of text ≡ then_hosts (host_at text) (hosts_of (drop 130 text))
unfolding hosts_of hosts_up_to
hosts_of-next [] some = absurd (omega arith)
hosts_of-next (byte ∷ text) some =
    let less = length-drop 130 (byte ∷ text) in
    ap (then_hosts (host_at (byte ∷ text))) (hosts_up_to-enough (length text) (length (drop 130 (byte ∷ text))) (drop 130 (byte ∷ text)) (omega arith) (omega arith))

pub hosts_of-nil : (text : List ℕ) → text ≡ [] → hosts_of text ≡ Some []
unfolding hosts_of hosts_up_to
hosts_of-nil text none = ap hosts_of none

-- ---- reading them

no_more : (hosts : Option (List Host)) → option_map (λ later. [] ++ later) hosts ≡ hosts
no_more None = refl
no_more (Some hosts) = refl

pub ArePairs-nil : ArePairs [] []
ArePairs-nil = record { whole = refl; sized = All-nil IsSized }

one_more : (before : List Host) (host : Host) (later : Option (List Host))
    → option_map (λ l. before ++ l) (then_hosts (Some host) later) ≡ option_map (λ l. (before ++ host ∷ []) ++ l) later
one_more before host None = refl
one_more before host (Some later) =
    ap (λ (l : List Host). Some l) (sym (append_assoc before (host ∷ []) later))

-- one host more
pub reading-next : (text rest pairs after_tag after_secret : List ℕ) (host : Host)
    → IsReading text rest pairs → 0 < length rest → host_at rest ≡ Some host
    → length host.tag ≡ 32 → length host.secret ≡ 32 → after_tag ≡ pairs ++ host.tag → after_secret ≡ after_tag ++ host.secret
    → IsReading text (drop 130 rest) after_secret
reading-next text rest pairs after_tag after_secret host reading some is tag_sized secret_sized tag secret = record {
  before = reading.before ++ host ∷ [];
  are = record {
    whole =
        secret ∙ ap (λ (p : List ℕ). p ++ host.secret) tag ∙ append_assoc pairs host.tag host.secret
        ∙ ap (λ (p : List ℕ). p ++ pair_of host) reading.are.whole
        ∙ ap (λ (p : List ℕ). flat_map pair_of reading.before ++ p) (sym (append-nil (pair_of host)))
        ∙ sym (flat_map-append pair_of reading.before (host ∷ []));
    sized = All-append IsSized reading.before (host ∷ []) reading.are.sized (All-cons IsSized host [] (record { tag = tag_sized; secret = secret_sized }) (All-nil IsSized));
  };
  goes =
      reading.goes ∙ ap (option_map (λ (later : List Host). reading.before ++ later)) (hosts_of-next rest some ∙ ap (λ (h : Option Host). then_hosts h (hosts_of (drop 130 rest))) is)
      ∙ one_more reading.before host (hosts_of (drop 130 rest));
}

-- a line that is none
pub reading-bad : (text rest pairs : List ℕ) → IsReading text rest pairs → 0 < length rest
    → host_at rest ≡ None → hosts_of text ≡ None
reading-bad text rest pairs reading some none =
    reading.goes ∙ ap (option_map (λ (later : List Host). reading.before ++ later)) (hosts_of-next rest some ∙ ap (λ (h : Option Host). then_hosts h (hosts_of (drop 130 rest))) none)

-- the end
pub reading-end : (text rest pairs : List ℕ) (reading : IsReading text rest pairs) → rest ≡ []
    → hosts_of text ≡ Some reading.before
reading-end text rest pairs reading none =
    reading.goes ∙ ap (option_map (λ (later : List Host). reading.before ++ later)) (hosts_of-nil rest none)
    ∙ ap (λ (hosts : List Host). Some hosts) (append-nil reading.before)

-- ---- looking for one

-- a pair in front
pub record HasPair (rest : List ℕ) (host : Host) (later : List Host) : Type 0 where
  pub tag : take 32 (take 64 rest) ≡ host.tag
  pub secret : drop 32 (take 64 rest) ≡ host.secret
  pub are : ArePairs (drop 64 rest) later
  pub long : 64 ≤ length rest

has_pair : (rest : List ℕ) (host : Host) (later : List Host) → ArePairs rest (host ∷ later)
    → HasPair rest host later
has_pair rest host later are =
    let sized = All-head IsSized host later are.sized in
    let both : length (pair_of host) ≡ 64 = omega (arith, length-append host.tag host.secret, sized.tag, sized.secret) in
    let front : take 64 rest ≡ pair_of host = ap (take 64) are.whole ∙ take_at (pair_of host) (flat_map pair_of later) 64 both in
    record {
      tag = ap (take 32) front ∙ take_at host.tag host.secret 32 sized.tag;
      secret = ap (drop 32) front ∙ drop_at host.tag host.secret 32 sized.tag;
      are = record {
        whole = ap (drop 64) are.whole ∙ drop_at (pair_of host) (flat_map pair_of later) 64 both;
        sized = All-tail IsSized host later are.sized;
      };
      long = omega (arith, ap length are.whole, length-append (pair_of host) (flat_map pair_of later), both);
    }

pub looking-start : (hosts : List Host) (tag pairs : List ℕ) → ArePairs pairs hosts
    → IsLooking hosts tag pairs
looking-start hosts tag pairs are = record { left = hosts; are = are; same = refl }

-- the first host left, by whether it has the tag
first_left : (hosts left : List Host) (tag rest : List ℕ) → ArePairs rest left
    → secret_for tag hosts ≡ secret_for tag left → 64 ≤ length rest
    → (host : Host) × (later : List Host) × HasPair rest host later × (secret_for tag hosts ≡ secret_for tag (host ∷ later))
first_left hosts [] tag rest are same long = absurd (omega (arith, ap length are.whole))
first_left hosts (host ∷ later) tag rest are same long =
    (host, later, has_pair rest host later are, same)

-- it has it
pub looking-found : (hosts : List Host) (tag rest front back : List ℕ) (same : Bool)
    → IsLooking hosts tag rest → 64 ≤ length rest
    → front ≡ take 32 (take 64 rest) → back ≡ drop 32 (take 64 rest) → same ≡ pointwise eqb front tag → same ≡ true → secret_for tag hosts ≡ Some back
looking-found hosts tag rest front back same looking long front_is back_is test right =
    let first = first_left hosts looking.left tag rest looking.are looking.same long in
    let is : front ≡ tag = (slice_eq-Decides Decides-eqb front tag same test).0 right in
    let equal : bytes_eq first.0.tag tag ≡ true = (bytes_eq-Decides first.0.tag tag).1 (sym first.2.tag ∙ sym front_is ∙ is) in
    first.3 ∙ ap (λ (b : Bool). if b then Some first.0.secret else secret_for tag first.1) equal ∙ ap (λ (s : List ℕ). Some s) (sym first.2.secret ∙ sym back_is)

-- it has another
pub looking-next : (hosts : List Host) (tag rest front later : List ℕ) (same : Bool)
    → IsLooking hosts tag rest → 64 ≤ length rest
    → front ≡ take 32 (take 64 rest) → later ≡ drop 64 rest → same ≡ pointwise eqb front tag → same ≡ false → IsLooking hosts tag later
looking-next hosts tag rest front later same looking long front_is later_is test wrong =
    let first = first_left hosts looking.left tag rest looking.are looking.same long in
    let differ : bytes_eq first.0.tag tag ≡ false =
    sym (ap (λ (f : List ℕ). pointwise eqb f tag) (front_is ∙ first.2.tag)) ∙ sym test ∙ wrong in
    record {
      left = first.1;
      are = subst (λ (r : List ℕ). ArePairs r first.1) (sym later_is) first.2.are;
      same = first.3 ∙ ap (λ (b : Bool). if b then Some first.0.secret else secret_for tag first.1) differ;
    }

-- none is left
none_left : (left : List Host) (tag rest : List ℕ) → ArePairs rest left → length rest < 64
    → secret_for tag left ≡ None
none_left [] tag rest are short = refl
none_left (host ∷ later) tag rest are short =
    let has = has_pair rest host later are in absurd (omega (arith, has.long))

pub looking-end : (hosts : List Host) (tag rest : List ℕ) → IsLooking hosts tag rest
    → length rest < 64 → secret_for tag hosts ≡ None
looking-end hosts tag rest looking short =
    looking.same ∙ none_left looking.left tag rest looking.are short

-- ---- a line that is read

-- the last decoding tells whether the line is a host's
pub reads_by : {E : Type 0} (line tag secret : List ℕ) (read : Result (List ℕ) E) (good : Bool)
    → get_or line 64 0 ≡ 32 → get_or line 129 0 ≡ 10
    → key_bytes (take 64 line) ≡ Some tag → result_ok read ≡ key_bytes (take 64 (drop 65 line))
    → MatchResult read (λ bytes. (good ≡ true) × (secret ≡ bytes)) (λ _. good ≡ false) → ReadsLine good line tag secret
reads_by line tag secret read true space lf tag_is secret_is value = record {
  host = host_of tag secret;
  read = host_at-some line tag secret space lf tag_is (sym secret_is ∙ decoded read true secret value refl);
  tag_is = refl;
  secret_is = refl;
}
reads_by line tag secret read false space lf tag_is secret_is value =
    host_at-no_secret line (sym secret_is ∙ not_decoded read false secret value refl)

-- one line more
pub reading-line : (text rest pairs after_tag after_secret tag secret : List ℕ)
    → IsReading text rest pairs → 0 < length rest → HoldsPair rest tag secret
    → length tag ≡ 32 → length secret ≡ 32 → after_tag ≡ pairs ++ tag → after_secret ≡ after_tag ++ secret → IsReading text (drop 130 rest) after_secret
reading-line text rest pairs after_tag after_secret tag secret reading some holds tag_sized secret_sized tag_pushed secret_pushed =
    reading-next text rest pairs after_tag after_secret holds.host reading some holds.read
    (ap length holds.tag_is ∙ tag_sized) (ap length holds.secret_is ∙ secret_sized)
    (tag_pushed ∙ ap (λ (t : List ℕ). pairs ++ t) (sym holds.tag_is)) (secret_pushed ∙ ap (λ (s : List ℕ). after_tag ++ s) (sym holds.secret_is))
