-- Steps of a reading that didn't fail.
use Rattle.std.proofs.Common.{◌≡◌, Bool, true, false, cond, Option, Some, None, Result, Ok, Err, refl}
use Rattle.std.specs.Option.{ok_or}
use Rattle.key_file.specs.declared.fault.KeyFileFault.{KeyFileFault}
use Rattle.key_file.specs.declared.fault.PubFault.{PubFault}
use Rattle.key_file.specs.BodyReading as body
use Rattle.key_file.specs.PublicLines as line

pub bind_ok : {A B : Type 0} (r : Result A KeyFileFault) (f : A → Result B KeyFileFault) (y : B)
    → body.◌>>=◌ r f ≡ Ok y → (x : A) × (r ≡ Ok x) × (f x ≡ Ok y)
bind_ok (Ok x) f y e = (x, refl, e)
bind_ok (Err fault) f y e = absurd cc

pub line_bind_ok : {A B : Type 0} (r : Result A PubFault) (f : A → Result B PubFault) (y : B)
    → line.◌>>=◌ r f ≡ Ok y → (x : A) × (r ≡ Ok x) × (f x ≡ Ok y)
line_bind_ok (Ok x) f y e = (x, refl, e)
line_bind_ok (Err fault) f y e = absurd cc

pub ok_or_ok : {A F : Type 0} (o : Option A) (fault : F) (x : A) → ok_or o fault ≡ Ok x → o ≡ Some x
ok_or_ok (Some y) fault x e = cc
ok_or_ok None fault x e = absurd cc

pub guard_ok : {A F : Type 0} (b : Bool) (fault : F) (x y : A) → cond b (Ok x) (Err fault) ≡ Ok y
    → (b ≡ true) × (x ≡ y)
guard_ok true fault x y e = (refl, cc)
guard_ok false fault x y e = absurd cc
