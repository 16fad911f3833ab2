-- The padded block, byte by byte.
use Rattle.std.proofs.Common.{◌≡◌, ◌<◌, ◌≤◌, ◌+◌, ◌-◌, ℕ, List, length, get_or, replicate, bit_xor, ap, subst, ◌∙◌, arith}
use Rattle.std.proofs.lemmas.List.{get_or-append-add, get_or-replicate, get_or-map, length-replicate, length-append}
use Rattle.hmac_core.specs.Hmac.{padded}
use Rattle.hmac_wide.specs.Hmac.{filled}

-- a key that fits fills a block
pub length-filled : (key : List ℕ) → length key ≤ 128 → length (filled key) ≡ 128
length-filled key fits = omega (arith, length-append key (replicate (128 - length key) 0), length-replicate {A = ℕ} (128 - length key) 0)

-- behind the key the block is zero
pub filled-behind : (key : List ℕ) (place : ℕ) → length key ≤ place → place < 128 → get_or (filled key) place 0 ≡ 0
filled-behind key place behind within =
    let zero_there : get_or (replicate (128 - length key) 0) (place - length key) 0 ≡ 0 =
    get_or-replicate {A = ℕ} (128 - length key) (place - length key) 0 0 (omega arith) in
    let there : get_or (filled key) (length key + (place - length key)) 0 ≡ 0 =
    get_or-append-add {A = ℕ} key (replicate (128 - length key) 0) (place - length key) 0 ∙ zero_there in
    let sum : length key + (place - length key) ≡ place = omega arith in
    let P : ℕ → Type 0 = λ i. get_or (filled key) i 0 ≡ 0 in
    subst P sum there

-- behind the key the padded block is the pad
pub padded-behind : (pad : ℕ) (key : List ℕ) (place : ℕ) → length key ≤ place → place < 128
    → get_or (padded pad (filled key)) place 0 ≡ pad
padded-behind pad key place behind within =
    get_or-map (λ byte. bit_xor byte pad) (filled key) place 0 0 (omega (arith, length-filled key (omega arith)))
    ∙ ap (λ byte. bit_xor byte pad) (filled-behind key place behind within)
