-- A chain of primes, the last of which is P-256's p. The numbers are computed, and the checker computes with them again.
use Rattle.std.proofs.Common.{[], ◌∷◌, refl}
use Rattle.prime_laws.specs.Primes.{IsPrime}
use Rattle.prime_laws.proofs.PrimeLemmas.{prime-by-order, prime-by-trial}

prime-197 : IsPrime 197
prime-197 = prime-by-trial 197 13 refl refl

prime-3677 : IsPrime 3677
prime-3677 = prime-by-trial 3677 59 refl refl

prime-66417393611 : IsPrime 66417393611
prime-66417393611 =
    prime-by-order 66417393611 20 53548402212
    ((3677, 49445954925) ∷ (197, 51215684949) ∷ [])
    (prime-3677, (prime-197, tt)) refl refl

prime-11290956913871 : IsPrime 11290956913871
prime-11290956913871 =
    prime-by-order 11290956913871 36 11005834445932
    ((66417393611, 4247528171144) ∷ [])
    (prime-66417393611, tt) refl refl

prime-78283 : IsPrime 78283
prime-78283 = prime-by-trial 78283 278 refl refl

prime-704251 : IsPrime 704251
prime-704251 = prime-by-trial 704251 838 refl refl

prime-46076956964474543 : IsPrime 46076956964474543
prime-46076956964474543 =
    prime-by-order 46076956964474543 36 13930916888883706
    ((704251, 14499061334772664) ∷ (78283, 41560644167870315) ∷ [])
    (prime-704251, (prime-78283, tt)) refl refl

prime-of-150-bits : IsPrime 0x22b559b5c816ae00f2378e18df38c5410ed597
prime-of-150-bits =
    prime-by-order 0x22b559b5c816ae00f2378e18df38c5410ed597 99 0x1efd94eae6545baeee572aee922683ab22f9a9
    ((46076956964474543, 0x1c57608cca63bd0dec0bb61f90d77cc342f96e) ∷ (11290956913871, 0xe62dfc289b94889baf37a7ecd87a1cba8a4a8) ∷ [])
    (prime-46076956964474543, (prime-11290956913871, tt)) refl refl

prime-of-160-bits : IsPrime 0x926d1276e41fae13fdda5f78edb7802a76951509
prime-of-160-bits =
    prime-by-order 0x926d1276e41fae13fdda5f78edb7802a76951509 150 0x84f6174410b13b7c641bfb1c0429a24ea8e8db82
    ((0x22b559b5c816ae00f2378e18df38c5410ed597, 0x915a3c97e1f064769fa3c1c13714e947fde75b95) ∷ [])
    (prime-of-150-bits, tt) refl refl

pub prime-of-256-bits : IsPrime 0xffffffff00000001000000000000000000000000ffffffffffffffffffffffff
prime-of-256-bits =
    prime-by-order 0xffffffff00000001000000000000000000000000ffffffffffffffffffffffff 160 0x6e2de1e253b630ab90fb6c14c9913e3f79353ced1be9c68ed42e7ee18b96074e
    ((0x926d1276e41fae13fdda5f78edb7802a76951509, 0x4f5b418eca523fb75369a24772ba6e620c00261d7f768df08143595c559af3ce) ∷ [])
    (prime-of-160-bits, tt) refl refl
