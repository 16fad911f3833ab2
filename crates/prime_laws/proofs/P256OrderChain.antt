-- A chain of primes, the last of which is P-256's n. The numbers are computed, and the checker computes with them again.
use Rattle.std.proofs.Common.{[], ◌∷◌, refl}
use Rattle.prime_laws.specs.Primes.{IsPrime}
use Rattle.prime_laws.proofs.PrimeLemmas.{prime-by-order, prime-by-trial}

prime-104471 : IsPrime 104471
prime-104471 = prime-by-trial 104471 322 refl refl

prime-3969899 : IsPrime 3969899
prime-3969899 =
    prime-by-order 3969899 17 2100184
    ((104471, 2243650) ∷ [])
    (prime-104471, tt) refl refl

prime-1002328039319 : IsPrime 1002328039319
prime-1002328039319 =
    prime-by-order 1002328039319 22 221842812587
    ((3969899, 718861591819) ∷ [])
    (prime-3969899, tt) refl refl

prime-3023 : IsPrime 3023
prime-3023 = prime-by-trial 3023 53 refl refl

prime-155317 : IsPrime 155317
prime-155317 = prime-by-trial 155317 393 refl refl

prime-191039911 : IsPrime 191039911
prime-191039911 =
    prime-by-order 191039911 18 76243073
    ((155317, 69522358) ∷ [])
    (prime-155317, tt) refl refl

prime-208150935158385979 : IsPrime 208150935158385979
prime-208150935158385979 =
    prime-by-order 208150935158385979 40 21745587066933326
    ((191039911, 133855595432530999) ∷ (3023, 70005499209399486) ∷ [])
    (prime-191039911, (prime-3023, tt)) refl refl

prime-of-92-bits : IsPrime 0x87b23e9d09d3e637b2aa341
prime-of-92-bits =
    prime-by-order 0x87b23e9d09d3e637b2aa341 58 0x7abdbdcd50b580e230e79
    ((208150935158385979, 0x693de961c10a589c336a85a) ∷ [])
    (prime-208150935158385979, tt) refl refl

pub prime-of-256-bits : IsPrime 0xffffffff00000000ffffffffffffffffbce6faada7179e84f3b9cac2fc632551
prime-of-256-bits =
    prime-by-order 0xffffffff00000000ffffffffffffffffbce6faada7179e84f3b9cac2fc632551 131 0x49e49b3801afda5b5fcfd19e634a6a614501e3f47de8937e698db30531953047
    ((0x87b23e9d09d3e637b2aa341, 0x72ca5f0d48545c9059c0d962203775545c6248bf5ec7809bba828ec3264e8033) ∷ (1002328039319, 0x154af5d0cc57479fbc9811f668d2d15a1df4a0b040822adf2503fef7b3e6719e) ∷ [])
    (prime-of-92-bits, (prime-1002328039319, tt)) refl refl
