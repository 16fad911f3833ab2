-- Two states that are equal but for what is hidden are equal, where nothing that is hidden differs.
use Rattle.std.proofs.Common.{◌≡◌, ℕ, List, [], ◌∷◌, map, refl, sym, ap, subst, ◌∙◌, Bool, true, false, cond, Some, None}
use Rattle.std.specs.Prelude.{IsSome}
use Rattle.std.specs.List.{AllByRecursion}
use Rattle.std.specs.Str.{bytes_eq}
use Rattle.std.proofs.lemmas.Slice.Eq.{bytes_eq-Decides}
use Rattle.world_ports.specs.declared.Door.{Door}
use Rattle.world_ports.specs.declared.Door.TheVariants.{Clients, Children}
use Rattle.identity_table.specs.Identities.{HaveOwnBlobs, HeldKey, find_identity}
use Rattle.agent_model.specs.Events.{Timed}
use Rattle.agent_model.specs.Runs.{AllFit}
use Rattle.agent_model.specs.State.{Port, Settings, State, first_state}
use Rattle.agent_secrecy.specs.Alike.{AreAlike}
use Rattle.agent_secrecy.specs.Hiding.{hide_heard, hide_key, hide_port, hide_ports}
use Rattle.agent_secrecy.specs.Secrets.{blank, hidden}
use Rattle.agent_secrecy.proofs.LookLemmas.{blanked}
use Rattle.agent_secrecy.proofs.RunLemmas.{without_secrets}
use Rattle.agent_laws.proofs.KeyLemmas.{first-own, run-kept}
use Rattle.removal_laws.specs.Removals.{HoldTheSame, IsDrained, IsTaken, end_of}
use Rattle.removal_laws.proofs.HeldLemmas.{held_as_added}
use Rattle.removal_laws.proofs.PairLemmas.{ends_alike}

-- ---- bytes

-- as many bytes as none
blank-none : (one other : List ℕ) → one ≡ [] → blank one ≡ blank other → other ≡ []
blank-none one [] none same = refl
blank-none one (byte ∷ other) none same =
    let no : [] ≡ blank (byte ∷ other) = ap blank (sym none) ∙ same in absurd (cc)

-- ---- held keys

-- two that are equal but for their private strings, which are equal too
same-key : (one other : HeldKey) → hide_key hidden one ≡ hide_key hidden other → one.private ≡ other.private → one ≡ other
same-key one other same private =
    let one_is : HeldKey = record (hide_key hidden one) { private = one.private } in
    ap (λ (k : HeldKey). let made : HeldKey = record k { private = one.private } in made) same
    ∙ ap (λ bytes. let made : HeldKey = record (hide_key hidden other) { private = bytes } in made) private

-- the same blob finds one private string in both
abbrev FindOne : List HeldKey → List HeldKey → Type 0
FindOne ones others = (blob : List ℕ) (one other : HeldKey) → find_identity blob ones ≡ Some one
    → find_identity blob others ≡ Some other → one.private ≡ other.private

finds-first : (key : HeldKey) (keys : List HeldKey) → find_identity key.blob (key ∷ keys) ≡ Some key
unfolding find_identity
finds-first key keys = ap (λ b. cond b (Some key) (find_identity key.blob keys)) ((bytes_eq-Decides key.blob key.blob).1 refl)

finds-later : (key : HeldKey) (keys : List HeldKey) → HaveOwnBlobs (key ∷ keys) → (blob : List ℕ) (one : HeldKey)
    → find_identity blob keys ≡ Some one → find_identity blob (key ∷ keys) ≡ Some one
unfolding find_identity HaveOwnBlobs
finds-later key keys own blob one found = by_test (bytes_eq key.blob blob) refl
  where
    by_test : (same : Bool) → bytes_eq key.blob blob ≡ same → cond same (Some key) (find_identity blob keys) ≡ Some one
    by_test true same =
        let none : find_identity blob keys ≡ None = subst (λ b. find_identity b keys ≡ None) ((bytes_eq-Decides key.blob blob).0 same) own.0 in
        absurd (cc)
    by_test false same = found

own_rest : (key : HeldKey) (keys : List HeldKey) → HaveOwnBlobs (key ∷ keys) → HaveOwnBlobs keys
unfolding HaveOwnBlobs
own_rest key keys own = own.1

same-keys : (ones others : List HeldKey) → map (hide_key hidden) ones ≡ map (hide_key hidden) others
    → HaveOwnBlobs ones → HaveOwnBlobs others → FindOne ones others → ones ≡ others
same-keys [] [] same own other_own finds = refl
same-keys [] (other ∷ others) same own other_own finds = absurd (cc)
same-keys (one ∷ ones) [] same own other_own finds = absurd (cc)
same-keys (one ∷ ones) (other ∷ others) same own other_own finds =
    let first : hide_key hidden one ≡ hide_key hidden other = cc in
    let rest : map (hide_key hidden) ones ≡ map (hide_key hidden) others = cc in
    let blob : one.blob ≡ other.blob = ap (λ (k : HeldKey). k.blob) first in
    let private : one.private ≡ other.private =
    finds one.blob one other (finds-first one ones) (ap (λ b. find_identity b (other ∷ others)) blob ∙ finds-first other others) in
    ap (λ k. k ∷ ones) (same-key one other first private)
    ∙ ap (λ keys. other ∷ keys) (same-keys ones others rest (own_rest one ones own) (own_rest other others other_own)
    (λ b k j at at_other. finds b k j (finds-later one ones own b k at) (finds-later other others other_own b j at_other)))

-- ---- ports

-- what a client sent was taken in the one, and so in the other
same-heard : (door : Door) (number : ℕ) (one other : List ℕ) → (door ≡ Clients → one ≡ [])
    → hide_heard blanked door number one ≡ hide_heard blanked door number other → one ≡ other
same-heard Clients number one other taken same = taken refl ∙ sym (blank-none one other (taken refl) same)
same-heard Children number one other taken same = same

same-port : (one other : Port) → hide_port blanked one ≡ hide_port blanked other → IsTaken one → one ≡ other
same-port one other same taken =
    let heard : one.heard ≡ other.heard =
    same-heard one.door one.number one.heard other.heard taken
    (ap (λ (p : Port). p.heard) same ∙ ap (λ (p : Port). hide_heard blanked p.door p.number other.heard) (sym same)) in
    ap (λ (p : Port). let made : Port = record p { heard = one.heard } in made) same
    ∙ ap (λ bytes. let made : Port = record (hide_port blanked other) { heard = bytes } in made) heard

same-ports : (ones others : List Port) → hide_ports blanked ones ≡ hide_ports blanked others → AllByRecursion IsTaken ones → ones ≡ others
same-ports [] [] same taken = refl
same-ports [] (other ∷ others) same taken = absurd (cc)
same-ports (one ∷ ones) [] same taken = absurd (cc)
same-ports (one ∷ ones) (other ∷ others) same taken =
    let first : hide_port blanked one ≡ hide_port blanked other = cc in
    let rest : hide_ports blanked ones ≡ hide_ports blanked others = cc in
    ap (λ p. p ∷ ones) (same-port one other first taken.0)
    ∙ ap (λ ports. other ∷ ports) (same-ports ones others rest taken.1)

-- ---- states

-- a state without secrets, with these in place of what was hidden
abbrev with_these : List HeldKey → List ℕ → List Port → State → State
with_these identities owed ports state = record state {
  held = record state.held { table = record state.held.table { identities = identities } };
  under_way = record state.under_way { link = record state.under_way.link { owed = owed } };
  ports = ports;
}

same-state : (s t : State) → without_secrets s ≡ without_secrets t
    → s.held.table.identities ≡ t.held.table.identities → IsDrained s → s ≡ t
same-state s t same keys drained =
    let owed : t.under_way.link.owed ≡ [] = blank-none s.under_way.link.owed t.under_way.link.owed drained.owed (ap (λ (x : State). x.under_way.link.owed) same) in
    ap (with_these s.held.table.identities s.under_way.link.owed s.ports) same
    ∙ ap (λ ids. with_these ids s.under_way.link.owed s.ports (without_secrets t)) keys
    ∙ ap (λ bytes. with_these t.held.table.identities bytes s.ports (without_secrets t)) (drained.owed ∙ sym owed)
    ∙ ap (λ ports. with_these t.held.table.identities t.under_way.link.owed ports (without_secrets t)) (same-ports s.ports t.ports (ap (λ (x : State). x.ports) same) drained.taken)

-- ---- runs

module _ (settings : Settings) (one other : List Timed) (alike : AreAlike one other) (fit : AllFit (first_state settings) one) (drained : IsDrained (end_of settings one)) where
  abbrev s : State
  s = end_of settings one

  abbrev t : State
  t = end_of settings other

  same : without_secrets s ≡ without_secrets t
  same = (ends_alike settings one other alike fit).same

  own : (events : List Timed) → HaveOwnBlobs (end_of settings events).held.table.identities
  own events = (run-kept (first_state settings) events (first-own settings)).own.blobs

  pub gone-all : s.held.table.identities ≡ [] → s ≡ t
  gone-all none = same-state s t same (none ∙ sym (none_too t.held.table.identities (sym (ap (map (hide_key hidden)) none) ∙ ap (λ (x : State). x.held.table.identities) same))) drained
    where
      none_too : (keys : List HeldKey) → [] ≡ map (hide_key hidden) keys → keys ≡ []
      none_too [] is = refl
      none_too (key ∷ keys) is = absurd (cc)

  pub gone-others : HoldTheSame settings one other → s ≡ t
  gone-others hold = same-state s t same
      (same-keys s.held.table.identities t.held.table.identities (ap (λ (x : State). x.held.table.identities) same) (own one) (own other)
      (λ blob k j at at_other.
      let both : Some k.private ≡ Some j.private =
      sym (held_as_added settings one blob k at) ∙ hold blob (subst (λ found. IsSome found) (sym at) refl) ∙ held_as_added settings other blob j at_other in
      cc)) drained
