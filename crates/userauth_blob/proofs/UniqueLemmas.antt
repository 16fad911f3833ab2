-- A message is signed by one key and for one login at most.
use Rattle.std.proofs.Common.{◌≡◌, ℕ, ◌^◌, ◌<◌, List, [], ◌∷◌, ◌++◌, length, Option, Some, None, refl, sym, ap, subst, ◌∙◌, lit<, arith}
use Rattle.wire_text.proofs.WireLemmas.{same_string}
use Rattle.key_blob.specs.PublicKeys.{IsPublicKey, KeyParts}
use Rattle.key_blob.proofs.PublicLemmas.{public_is_unique}
use Rattle.userauth_blob.specs.UserAuths.{Login, connection, method_name, host_field, IsUserAuth}
use Rattle.userauth_blob.specs.Logins.{IsLogin, IsSameKey, IsShortHost}
use Rattle.userauth_blob.proofs.LoginLemmas.{bound_is_login}

-- the same byte in front
behind_byte : (a b : ℕ) (s t : List ℕ) → a ∷ s ≡ b ∷ t → s ≡ t
behind_byte a b s t same = cc

method_is_short : (host_key : Option (List ℕ)) → length (method_name host_key) < 2 ^ 32
method_is_short None = lit< tt
method_is_short (Some host_key) = lit< tt

-- a host key by the name of its method and its field
same_host : (a b : Option (List ℕ)) → IsShortHost a → IsShortHost b → method_name a ≡ method_name b → host_field a ≡ host_field b → a ≡ b
same_host None None is_a is_b name field = refl
same_host None (Some b) is_a is_b name field = let sizes : length (method_name None) ≡ length (method_name (Some b)) = ap length name in absurd (omega (arith, sizes))
same_host (Some a) None is_a is_b name field = let sizes : length (method_name (Some a)) ≡ length (method_name None) = ap length name in absurd (omega (arith, sizes))
same_host (Some a) (Some b) is_a is_b name field =
    ap (λ (key : List ℕ). Some key) (same_string a b [] [] is_a is_b (ap (λ (bytes : List ℕ). bytes ++ []) field)).0

same_login : (a b : Login) → a.session ≡ b.session → a.user ≡ b.user → a.host_key ≡ b.host_key → a ≡ b
same_login a b session user host_key =
    ap (λ (x : List ℕ). record { session = x; user = a.user; host_key = a.host_key }) session
    ∙ ap (λ (x : List ℕ). record { session = b.session; user = x; host_key = a.host_key }) user
    ∙ ap (λ (x : Option (List ℕ)). record { session = b.session; user = b.user; host_key = x }) host_key

-- what is signed names one blob, for one login
named_once : (message blob other_blob : List ℕ) (auth other : Login) (a : IsLogin message blob auth) (b : IsLogin message other_blob other)
    → (a.named ≡ b.named) × (auth ≡ other)
named_once message blob other_blob auth other a b =
    let session = same_string auth.session other.session _ _ a.short_session b.short_session (sym a.text ∙ b.text) in
    let user = same_string auth.user other.user _ _ a.short_user b.short_user (behind_byte _ _ _ _ session.1) in
    let service = same_string connection connection _ _ (lit< tt) (lit< tt) user.1 in
    let method = same_string (method_name auth.host_key) (method_name other.host_key) _ _ (method_is_short auth.host_key) (method_is_short other.host_key)
    service.1 in
    let algorithm = same_string a.algorithm b.algorithm _ _ a.short_algorithm b.short_algorithm (behind_byte _ _ _ _ method.1) in
    let key = same_string a.named b.named _ _ a.short_named b.short_named algorithm.1 in
    (key.0, same_login auth other session.0 user.0 (same_host auth.host_key other.host_key a.host b.host method.0 key.1))

-- by its own blob
pub signed_once : (message blob other_blob : List ℕ) (auth other : Login) → IsUserAuth message blob auth → IsUserAuth message other_blob other →
    (blob ≡ other_blob) × (auth ≡ other)
unfolding bound_is_login
signed_once message blob other_blob auth other a b =
    named_once message blob other_blob auth other (bound_is_login message blob auth a) (bound_is_login message other_blob other b)

-- keys that have one blob in common are one key
one_key : (blob other named other_named : List ℕ) → named ≡ other_named → IsSameKey blob named → IsSameKey other other_named → IsSameKey blob other
one_key blob other named other_named is a b =
    let shared : a.two ≡ b.two = public_is_unique named a.two b.two a.is_two (subst (λ (bytes : List ℕ). IsPublicKey bytes b.two) (sym is) b.is_two) in
    record {
      one = a.one;
      two = b.one;
      is_one = a.is_one;
      is_two = b.is_one;
      kind = a.kind ∙ ap (λ (key : KeyParts). key.kind) shared ∙ sym b.kind;
      fields = a.fields ∙ ap (λ (key : KeyParts). key.fields) shared ∙ sym b.fields;
    }

-- by any blob of its key
pub login_once : (message blob other_blob : List ℕ) (auth other : Login) → IsLogin message blob auth → IsLogin message other_blob other
    → IsSameKey blob other_blob × (auth ≡ other)
login_once message blob other_blob auth other a b =
    let both = named_once message blob other_blob auth other a b in
    (one_key blob other_blob a.named b.named both.0 a.same b.same, both.1)
