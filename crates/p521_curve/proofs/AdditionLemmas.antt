-- The steps of the addition make the sum.
use Rattle.std.proofs.Common.{◌≡◌, ℕ}
use Rattle.p521_field.specs.Field.{field_add, field_sub, field_mul}
use Rattle.p521_curve.specs.declared.point.Point.{Point}
use Rattle.p521_curve.specs.Points.{curve_b, point_add}

abbrev sum_of : ℕ → ℕ → ℕ → Point
sum_of x y z = record { x = x; y = y; z = z }

pub point_add-made : (p q : Point) (b t0 t1 t2 t3 t4 t3a t4a t3b t4b x3 t4c x3a t4d x3b y3 x3c y3a y3b z3 x3d z3a x3e z3b x3f y3c t1a t2a y3d y3e t1b y3f t1c t0a t0b t1d t2b y3g y3h x3g x3h z3c t1e z3d : ℕ) → b ≡ curve_b
    → t0 ≡ field_mul p.x q.x → t1 ≡ field_mul p.y q.y → t2 ≡ field_mul p.z q.z → t3 ≡ field_add p.x p.y → t4 ≡ field_add q.x q.y → t3a ≡ field_mul t3 t4 → t4a ≡ field_add t0 t1 → t3b ≡ field_sub t3a t4a → t4b ≡ field_add p.y p.z → x3 ≡ field_add q.y q.z → t4c ≡ field_mul t4b x3 → x3a ≡ field_add t1 t2 → t4d ≡ field_sub t4c x3a → x3b ≡ field_add p.x p.z → y3 ≡ field_add q.x q.z → x3c ≡ field_mul x3b y3 → y3a ≡ field_add t0 t2 → y3b ≡ field_sub x3c y3a → z3 ≡ field_mul b t2 → x3d ≡ field_sub y3b z3 → z3a ≡ field_add x3d x3d → x3e ≡ field_add x3d z3a → z3b ≡ field_sub t1 x3e → x3f ≡ field_add t1 x3e → y3c ≡ field_mul b y3b → t1a ≡ field_add t2 t2 → t2a ≡ field_add t1a t2 → y3d ≡ field_sub y3c t2a → y3e ≡ field_sub y3d t0 → t1b ≡ field_add y3e y3e → y3f ≡ field_add t1b y3e → t1c ≡ field_add t0 t0 → t0a ≡ field_add t1c t0 → t0b ≡ field_sub t0a t2a → t1d ≡ field_mul t4d y3f → t2b ≡ field_mul t0b y3f → y3g ≡ field_mul x3f z3b → y3h ≡ field_add y3g t2b → x3g ≡ field_mul t3b x3f → x3h ≡ field_sub x3g t1d → z3c ≡ field_mul t4d z3b → t1e ≡ field_mul t3b t0b → z3d ≡ field_add z3c t1e
    → sum_of x3h y3h z3d ≡ point_add p q
unfolding point_add
point_add-made p q b t0 t1 t2 t3 t4 t3a t4a t3b t4b x3 t4c x3a t4d x3b y3 x3c y3a y3b z3 x3d z3a x3e z3b x3f y3c t1a t2a y3d y3e t1b y3f t1c t0a t0b t1d t2b y3g y3h x3g x3h z3c t1e z3d b_is t0_is t1_is t2_is t3_is t4_is t3a_is t4a_is t3b_is t4b_is x3_is t4c_is x3a_is t4d_is x3b_is y3_is x3c_is y3a_is y3b_is z3_is x3d_is z3a_is x3e_is z3b_is x3f_is y3c_is t1a_is t2a_is y3d_is y3e_is t1b_is y3f_is t1c_is t0a_is t0b_is t1d_is t2b_is y3g_is y3h_is x3g_is x3h_is z3c_is t1e_is z3d_is =
    cc
