-- The 43 steps of the addition, each as a difference of two polynomials.
use Rattle.std.proofs.Common.{◌≡◌, ◌<◌, ◌≤◌, ◌-◌, ℕ, ◌+◌, ◌*◌, ◌%◌, arith}
use Rattle.curve_laws.proofs.DifferenceLemmas.{IsDifference, itself, told, sum, difference, product, fits}

-- the products that the steps up to the eighteenth make, of coordinates that are x1 to z2 modulo m
pub record AreProducts (m x1 y1 z1 x2 y2 z2 t0 t1 t2 t3b t4d y3b : ℕ) : Type 0 where
  pub xx : IsDifference m t0 (x1 * x2) 0
  pub yy : IsDifference m t1 (y1 * y2) 0
  pub zz : IsDifference m t2 (z1 * z2) 0
  pub xy : IsDifference m t3b (x1 * y2 + y1 * x2) 0
  pub yz : IsDifference m t4d (y1 * z2 + z1 * y2) 0
  pub xz : IsDifference m y3b (x1 * z2 + z1 * x2) 0

first-steps : (m x1 y1 z1 x2 y2 z2 px py pz qx qy qz t0 t1 t2 t3 t4 t3a t4a t3b t4b x3 t4c x3a t4d x3b y3 x3c y3a y3b : ℕ)
    → 0 < m
    → IsDifference m px x1 0 → IsDifference m py y1 0 → IsDifference m pz z1 0
    → IsDifference m qx x2 0 → IsDifference m qy y2 0 → IsDifference m qz z2 0
    → t0 ≡ (px * qx) % m → t1 ≡ (py * qy) % m → t2 ≡ (pz * qz) % m → t3 ≡ (px + py) % m
    → t4 ≡ (qx + qy) % m → t3a ≡ (t3 * t4) % m → t4a ≡ (t0 + t1) % m → t3b ≡ (t3a + (m - t4a)) % m
    → t4b ≡ (py + pz) % m → x3 ≡ (qy + qz) % m → t4c ≡ (t4b * x3) % m → x3a ≡ (t1 + t2) % m
    → t4d ≡ (t4c + (m - x3a)) % m → x3b ≡ (px + pz) % m → y3 ≡ (qx + qz) % m → x3c ≡ (x3b * y3) % m
    → y3a ≡ (t0 + t2) % m → y3b ≡ (x3c + (m - y3a)) % m
    → AreProducts m x1 y1 z1 x2 y2 z2 t0 t1 t2 t3b t4d y3b
first-steps m x1 y1 z1 x2 y2 z2 px py pz qx qy qz t0 t1 t2 t3 t4 t3a t4a t3b t4b x3 t4c x3a t4d x3b y3 x3c y3a y3b some px_at py_at pz_at qx_at qy_at qz_at t0_is t1_is t2_is t3_is t4_is t3a_is t4a_is t3b_is t4b_is x3_is t4c_is x3a_is t4d_is x3b_is y3_is x3c_is y3a_is y3b_is =
    let t0_at : IsDifference m t0 (x1 * x2) 0 = told some (product t0_is px_at qx_at) (omega arith) in
    let t1_at : IsDifference m t1 (y1 * y2) 0 = told some (product t1_is py_at qy_at) (omega arith) in
    let t2_at : IsDifference m t2 (z1 * z2) 0 = told some (product t2_is pz_at qz_at) (omega arith) in
    let t3_at : IsDifference m t3 (x1 + y1) 0 = told some (sum t3_is px_at py_at) (omega arith) in
    let t4_at : IsDifference m t4 (x2 + y2) 0 = told some (sum t4_is qx_at qy_at) (omega arith) in
    let t3a_at : IsDifference m t3a (x1 * x2 + x1 * y2 + y1 * x2 + y1 * y2) 0 = told some (product t3a_is t3_at t4_at) (omega arith) in
    let t4a_at : IsDifference m t4a (x1 * x2 + y1 * y2) 0 = told some (sum t4a_is t0_at t1_at) (omega arith) in
    let t3b_at : IsDifference m t3b (x1 * y2 + y1 * x2) 0 = told some (difference (fits some _ t4a_is) t3b_is t3a_at t4a_at) (omega arith) in
    let t4b_at : IsDifference m t4b (y1 + z1) 0 = told some (sum t4b_is py_at pz_at) (omega arith) in
    let x3_at : IsDifference m x3 (y2 + z2) 0 = told some (sum x3_is qy_at qz_at) (omega arith) in
    let t4c_at : IsDifference m t4c (y1 * y2 + y1 * z2 + z1 * y2 + z1 * z2) 0 = told some (product t4c_is t4b_at x3_at) (omega arith) in
    let x3a_at : IsDifference m x3a (y1 * y2 + z1 * z2) 0 = told some (sum x3a_is t1_at t2_at) (omega arith) in
    let t4d_at : IsDifference m t4d (y1 * z2 + z1 * y2) 0 = told some (difference (fits some _ x3a_is) t4d_is t4c_at x3a_at) (omega arith) in
    let x3b_at : IsDifference m x3b (x1 + z1) 0 = told some (sum x3b_is px_at pz_at) (omega arith) in
    let y3_at : IsDifference m y3 (x2 + z2) 0 = told some (sum y3_is qx_at qz_at) (omega arith) in
    let x3c_at : IsDifference m x3c (x1 * x2 + x1 * z2 + z1 * x2 + z1 * z2) 0 = told some (product x3c_is x3b_at y3_at) (omega arith) in
    let y3a_at : IsDifference m y3a (x1 * x2 + z1 * z2) 0 = told some (sum y3a_is t0_at t2_at) (omega arith) in
    let y3b_at : IsDifference m y3b (x1 * z2 + z1 * x2) 0 = told some (difference (fits some _ y3a_is) y3b_is x3c_at y3a_at) (omega arith) in
    record { xx = t0_at; yy = t1_at; zz = t2_at; xy = t3b_at; yz = t4d_at; xz = y3b_at }

-- the coordinates of the sum, by those products
pub record IsSum (m b xx yy zz xy yz xz x3 y3 z3 : ℕ) : Type 0 where
  pub x : IsDifference m x3 (3 * xx * yz + yy * xy + 9 * zz * yz + 3 * xy * xz) (3 * b * zz * xy + 3 * b * yz * xz)
  pub y : IsDifference m y3 (9 * b * xx * xz + 9 * b * zz * xz + yy * yy + 27 * zz * zz) (9 * b * b * zz * zz + 9 * xx * xx + 18 * xx * zz + 9 * xz * xz)
  pub z : IsDifference m z3 (3 * b * zz * yz + 3 * xx * xy + yy * yz) (3 * zz * xy + 3 * yz * xz)

later-steps : (m b xx yy zz xy yz xz t0 t1 t2 t3b t4d y3b z3 x3d z3a x3e z3b x3f y3c t1a t2a y3d y3e t1b y3f t1c t0a t0b t1d t2b y3g y3h x3g x3h z3c t1e z3d : ℕ)
    → 0 < m → t0 ≤ m
    → IsDifference m t0 xx 0 → IsDifference m t1 yy 0 → IsDifference m t2 zz 0
    → IsDifference m t3b xy 0 → IsDifference m t4d yz 0 → IsDifference m y3b xz 0
    → z3 ≡ (b * t2) % m → x3d ≡ (y3b + (m - z3)) % m → z3a ≡ (x3d + x3d) % m → x3e ≡ (x3d + z3a) % m
    → z3b ≡ (t1 + (m - x3e)) % m → x3f ≡ (t1 + x3e) % m → y3c ≡ (b * y3b) % m → t1a ≡ (t2 + t2) % m
    → t2a ≡ (t1a + t2) % m → y3d ≡ (y3c + (m - t2a)) % m → y3e ≡ (y3d + (m - t0)) % m
    → t1b ≡ (y3e + y3e) % m → y3f ≡ (t1b + y3e) % m → t1c ≡ (t0 + t0) % m → t0a ≡ (t1c + t0) % m
    → t0b ≡ (t0a + (m - t2a)) % m → t1d ≡ (t4d * y3f) % m → t2b ≡ (t0b * y3f) % m
    → y3g ≡ (x3f * z3b) % m → y3h ≡ (y3g + t2b) % m → x3g ≡ (t3b * x3f) % m
    → x3h ≡ (x3g + (m - t1d)) % m → z3c ≡ (t4d * z3b) % m → t1e ≡ (t3b * t0b) % m
    → z3d ≡ (z3c + t1e) % m
    → IsSum m b xx yy zz xy yz xz x3h y3h z3d
later-steps m b xx yy zz xy yz xz t0 t1 t2 t3b t4d y3b z3 x3d z3a x3e z3b x3f y3c t1a t2a y3d y3e t1b y3f t1c t0a t0b t1d t2b y3g y3h x3g x3h z3c t1e z3d some t0_fits t0_at t1_at t2_at t3b_at t4d_at y3b_at z3_is x3d_is z3a_is x3e_is z3b_is x3f_is y3c_is t1a_is t2a_is y3d_is y3e_is t1b_is y3f_is t1c_is t0a_is t0b_is t1d_is t2b_is y3g_is y3h_is x3g_is x3h_is z3c_is t1e_is z3d_is =
    let b_at = itself m b in
    let z3_at : IsDifference m z3 (b * zz) 0 = told some (product z3_is b_at t2_at) (omega arith) in
    let x3d_at : IsDifference m x3d xz (b * zz) = told some (difference (fits some _ z3_is) x3d_is y3b_at z3_at) (omega arith) in
    let z3a_at : IsDifference m z3a (2 * xz) (2 * b * zz) = told some (sum z3a_is x3d_at x3d_at) (omega arith) in
    let x3e_at : IsDifference m x3e (3 * xz) (3 * b * zz) = told some (sum x3e_is x3d_at z3a_at) (omega arith) in
    let z3b_at : IsDifference m z3b (3 * b * zz + yy) (3 * xz) = told some (difference (fits some _ x3e_is) z3b_is t1_at x3e_at) (omega arith) in
    let x3f_at : IsDifference m x3f (yy + 3 * xz) (3 * b * zz) = told some (sum x3f_is t1_at x3e_at) (omega arith) in
    let y3c_at : IsDifference m y3c (b * xz) 0 = told some (product y3c_is b_at y3b_at) (omega arith) in
    let t1a_at : IsDifference m t1a (2 * zz) 0 = told some (sum t1a_is t2_at t2_at) (omega arith) in
    let t2a_at : IsDifference m t2a (3 * zz) 0 = told some (sum t2a_is t1a_at t2_at) (omega arith) in
    let y3d_at : IsDifference m y3d (b * xz) (3 * zz) = told some (difference (fits some _ t2a_is) y3d_is y3c_at t2a_at) (omega arith) in
    let y3e_at : IsDifference m y3e (b * xz) (xx + 3 * zz) = told some (difference t0_fits y3e_is y3d_at t0_at) (omega arith) in
    let t1b_at : IsDifference m t1b (2 * b * xz) (2 * xx + 6 * zz) = told some (sum t1b_is y3e_at y3e_at) (omega arith) in
    let y3f_at : IsDifference m y3f (3 * b * xz) (3 * xx + 9 * zz) = told some (sum y3f_is t1b_at y3e_at) (omega arith) in
    let t1c_at : IsDifference m t1c (2 * xx) 0 = told some (sum t1c_is t0_at t0_at) (omega arith) in
    let t0a_at : IsDifference m t0a (3 * xx) 0 = told some (sum t0a_is t1c_at t0_at) (omega arith) in
    let t0b_at : IsDifference m t0b (3 * xx) (3 * zz) = told some (difference (fits some _ t2a_is) t0b_is t0a_at t2a_at) (omega arith) in
    let t1d_at : IsDifference m t1d (3 * b * yz * xz) (3 * xx * yz + 9 * zz * yz) = told some (product t1d_is t4d_at y3f_at) (omega arith) in
    let t2b_at : IsDifference m t2b (9 * b * xx * xz + 27 * zz * zz) (9 * b * zz * xz + 9 * xx * xx + 18 * xx * zz) = told some (product t2b_is t0b_at y3f_at) (omega arith) in
    let y3g_at : IsDifference m y3g (18 * b * zz * xz + yy * yy) (9 * b * b * zz * zz + 9 * xz * xz) = told some (product y3g_is x3f_at z3b_at) (omega arith) in
    let y3h_at : IsDifference m y3h (9 * b * xx * xz + 9 * b * zz * xz + yy * yy + 27 * zz * zz) (9 * b * b * zz * zz + 9 * xx * xx + 18 * xx * zz + 9 * xz * xz) = told some (sum y3h_is y3g_at t2b_at) (omega arith) in
    let x3g_at : IsDifference m x3g (yy * xy + 3 * xy * xz) (3 * b * zz * xy) = told some (product x3g_is t3b_at x3f_at) (omega arith) in
    let x3h_at : IsDifference m x3h (3 * xx * yz + yy * xy + 9 * zz * yz + 3 * xy * xz) (3 * b * zz * xy + 3 * b * yz * xz) = told some (difference (fits some _ t1d_is) x3h_is x3g_at t1d_at) (omega arith) in
    let z3c_at : IsDifference m z3c (3 * b * zz * yz + yy * yz) (3 * yz * xz) = told some (product z3c_is t4d_at z3b_at) (omega arith) in
    let t1e_at : IsDifference m t1e (3 * xx * xy) (3 * zz * xy) = told some (product t1e_is t3b_at t0b_at) (omega arith) in
    let z3d_at : IsDifference m z3d (3 * b * zz * yz + 3 * xx * xy + yy * yz) (3 * zz * xy + 3 * yz * xz) = told some (sum z3d_is z3c_at t1e_at) (omega arith) in
    record { x = x3h_at; y = y3h_at; z = z3d_at }

-- all steps
pub sum-steps : (m b x1 y1 z1 x2 y2 z2 px py pz qx qy qz : ℕ) {t0 t1 t2 t3 t4 t3a t4a t3b t4b x3 t4c x3a t4d x3b y3 x3c y3a y3b z3 x3d z3a x3e z3b x3f y3c t1a t2a y3d y3e t1b y3f t1c t0a t0b t1d t2b y3g y3h x3g x3h z3c t1e z3d : ℕ}
    → 0 < m
    → IsDifference m px x1 0 → IsDifference m py y1 0 → IsDifference m pz z1 0
    → IsDifference m qx x2 0 → IsDifference m qy y2 0 → IsDifference m qz z2 0
    → t0 ≡ (px * qx) % m → t1 ≡ (py * qy) % m → t2 ≡ (pz * qz) % m → t3 ≡ (px + py) % m
    → t4 ≡ (qx + qy) % m → t3a ≡ (t3 * t4) % m → t4a ≡ (t0 + t1) % m → t3b ≡ (t3a + (m - t4a)) % m
    → t4b ≡ (py + pz) % m → x3 ≡ (qy + qz) % m → t4c ≡ (t4b * x3) % m → x3a ≡ (t1 + t2) % m
    → t4d ≡ (t4c + (m - x3a)) % m → x3b ≡ (px + pz) % m → y3 ≡ (qx + qz) % m → x3c ≡ (x3b * y3) % m
    → y3a ≡ (t0 + t2) % m → y3b ≡ (x3c + (m - y3a)) % m
    → z3 ≡ (b * t2) % m → x3d ≡ (y3b + (m - z3)) % m → z3a ≡ (x3d + x3d) % m → x3e ≡ (x3d + z3a) % m
    → z3b ≡ (t1 + (m - x3e)) % m → x3f ≡ (t1 + x3e) % m → y3c ≡ (b * y3b) % m → t1a ≡ (t2 + t2) % m
    → t2a ≡ (t1a + t2) % m → y3d ≡ (y3c + (m - t2a)) % m → y3e ≡ (y3d + (m - t0)) % m
    → t1b ≡ (y3e + y3e) % m → y3f ≡ (t1b + y3e) % m → t1c ≡ (t0 + t0) % m → t0a ≡ (t1c + t0) % m
    → t0b ≡ (t0a + (m - t2a)) % m → t1d ≡ (t4d * y3f) % m → t2b ≡ (t0b * y3f) % m
    → y3g ≡ (x3f * z3b) % m → y3h ≡ (y3g + t2b) % m → x3g ≡ (t3b * x3f) % m
    → x3h ≡ (x3g + (m - t1d)) % m → z3c ≡ (t4d * z3b) % m → t1e ≡ (t3b * t0b) % m
    → z3d ≡ (z3c + t1e) % m
    → IsSum m b (x1 * x2) (y1 * y2) (z1 * z2) (x1 * y2 + y1 * x2) (y1 * z2 + z1 * y2) (x1 * z2 + z1 * x2) x3h y3h z3d
sum-steps m b x1 y1 z1 x2 y2 z2 px py pz qx qy qz {t0} {t1} {t2} {t3} {t4} {t3a} {t4a} {t3b} {t4b} {x3} {t4c} {x3a} {t4d} {x3b} {y3} {x3c} {y3a} {y3b} {z3} {x3d} {z3a} {x3e} {z3b} {x3f} {y3c} {t1a} {t2a} {y3d} {y3e} {t1b} {y3f} {t1c} {t0a} {t0b} {t1d} {t2b} {y3g} {y3h} {x3g} {x3h} {z3c} {t1e} {z3d} some px_at py_at pz_at qx_at qy_at qz_at t0_is t1_is t2_is t3_is t4_is t3a_is t4a_is t3b_is t4b_is x3_is t4c_is x3a_is t4d_is x3b_is y3_is x3c_is y3a_is y3b_is z3_is x3d_is z3a_is x3e_is z3b_is x3f_is y3c_is t1a_is t2a_is y3d_is y3e_is t1b_is y3f_is t1c_is t0a_is t0b_is t1d_is t2b_is y3g_is y3h_is x3g_is x3h_is z3c_is t1e_is z3d_is =
    let parts = first-steps m x1 y1 z1 x2 y2 z2 px py pz qx qy qz t0 t1 t2 t3 t4 t3a t4a t3b t4b x3 t4c x3a t4d x3b y3 x3c y3a y3b some px_at py_at pz_at qx_at qy_at qz_at t0_is t1_is t2_is t3_is t4_is t3a_is t4a_is t3b_is t4b_is x3_is t4c_is x3a_is t4d_is x3b_is y3_is x3c_is y3a_is y3b_is in
    later-steps m b (x1 * x2) (y1 * y2) (z1 * z2) (x1 * y2 + y1 * x2) (y1 * z2 + z1 * y2) (x1 * z2 + z1 * x2) t0 t1 t2 t3b t4d y3b z3 x3d z3a x3e z3b x3f y3c t1a t2a y3d y3e t1b y3f t1c t0a t0b t1d t2b y3g y3h x3g x3h z3c t1e z3d some (fits some _ t0_is) parts.xx parts.yy parts.zz parts.xy parts.yz parts.xz z3_is x3d_is z3a_is x3e_is z3b_is x3f_is y3c_is t1a_is t2a_is y3d_is y3e_is t1b_is y3f_is t1c_is t0a_is t0b_is t1d_is t2b_is y3g_is y3h_is x3g_is x3h_is z3c_is t1e_is z3d_is
