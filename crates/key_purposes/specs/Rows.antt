-- Literal messages and words (ours). Lengths and numbers are written out, so that a wrong definition can't agree with itself.
use Rattle.std.specs.Prelude.{ℕ, List, [], ◌∷◌, ◌++◌, Option, codes, replicate}
use Rattle.userauth_blob.specs.UserAuths.{Login}

-- the blob of a key with a public tag of 32 equal bytes
abbrev pub blob : ℕ → List ℕ
blob tag = 0 ∷ 0 ∷ 0 ∷ 24 ∷ (codes "keyed-sha256@example.com" ++ 0 ∷ 0 ∷ 0 ∷ 32 ∷ replicate 32 tag)

-- ---- logins

-- the session 1, with its length
abbrev pub session : List ℕ
session = 0 ∷ 0 ∷ 0 ∷ 1 ∷ 1 ∷ []

-- the service and the methods, with their lengths
abbrev pub connection : List ℕ
connection = 0 ∷ 0 ∷ 0 ∷ 14 ∷ codes "ssh-connection"

abbrev pub publickey : List ℕ
publickey = 0 ∷ 0 ∷ 0 ∷ 9 ∷ codes "publickey"

abbrev pub hostbound : List ℕ
hostbound = 0 ∷ 0 ∷ 0 ∷ 35 ∷ codes "publickey-hostbound-v00@openssh.com"

abbrev pub hostbased : List ℕ
hostbased = 0 ∷ 0 ∷ 0 ∷ 9 ∷ codes "hostbased"

-- the algorithm and the blob of the key of tag 17, with their lengths
abbrev pub keyed : List ℕ
keyed = 0 ∷ 0 ∷ 0 ∷ 24 ∷ (codes "keyed-sha256@example.com" ++ 0 ∷ 0 ∷ 0 ∷ 64 ∷ blob 17)

-- a request to log in as u: what stands for the session, then the number 50, user, service, method, flag and key
abbrev pub login_by : List ℕ → List ℕ → List ℕ → ℕ → List ℕ → List ℕ
login_by session service method flag key = session ++ 50 ∷ 0 ∷ 0 ∷ 0 ∷ 1 ∷ 117 ∷ (service ++ (method ++ flag ∷ key))

-- what the key of tag 17 signs to log in as u, in the session 1
abbrev pub login : List ℕ
login = login_by session connection publickey 1 keyed

-- that login, bound to a host with this host key where there is one
abbrev pub as_u : Option (List ℕ) → Login
as_u host_key = record { session = 1 ∷ []; user = 117 ∷ []; host_key = host_key }

-- ---- files

-- what a key signs for a file in the namespace git
abbrev pub commit : List ℕ
commit =
    codes "SSHSIG" ++ 0 ∷ 0 ∷ 0 ∷ 3 ∷ (codes "git" ++ 0 ∷ 0 ∷ 0 ∷ 0 ∷ 0 ∷ 0 ∷ 0 ∷ 6 ∷ (codes "sha256"
    ++ 0 ∷ 0 ∷ 0 ∷ 32 ∷ replicate 32 7))

-- ---- certificates

-- the blob of an Ed25519 key
abbrev pub ed25519 : List ℕ
ed25519 = 0 ∷ 0 ∷ 0 ∷ 11 ∷ (codes "ssh-ed25519" ++ 0 ∷ 0 ∷ 0 ∷ 32 ∷ replicate 32 17)

-- the name of its certificates' type, with its length
abbrev pub certified : List ℕ
certified = 0 ∷ 0 ∷ 0 ∷ 32 ∷ codes "ssh-ed25519-cert-v01@openssh.com"

-- a user's certificate of it up to the signature: no nonce, the key, serial number 0, type 1, no name, no principals,
-- from the first second to the last, no options and no signer, 128 bytes
abbrev pub unsigned : List ℕ
unsigned =
    certified ++ (replicate 4 0 ++ 0 ∷ 0 ∷ 0 ∷ 32 ∷ (replicate 32 17 ++ (replicate 8 0 ++ 0 ∷ 0 ∷ 0 ∷ 1 ∷ (replicate 16 0
    ++ (replicate 8 255 ++ replicate 16 0)))))

-- the certificate, with an empty signature
abbrev pub certificate : List ℕ
certificate = unsigned ++ replicate 4 0

-- ---- an RSA key

-- the blob of an RSA key with e = 3 and n = 5
abbrev pub rsa : List ℕ
rsa = 0 ∷ 0 ∷ 0 ∷ 7 ∷ (codes "ssh-rsa" ++ 0 ∷ 0 ∷ 0 ∷ 1 ∷ 3 ∷ 0 ∷ 0 ∷ 0 ∷ 1 ∷ 5 ∷ [])
