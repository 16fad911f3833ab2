-- A chain of primes, the last of which is 2 ^ 255 - 19. The numbers are computed, and the checker computes with them again.
use Rattle.std.proofs.Common.{[], ◌∷◌, refl}
use Rattle.prime_laws.specs.Primes.{IsPrime}
use Rattle.prime_laws.proofs.PrimeLemmas.{prime-by-order, prime-by-trial}

prime-4153 : IsPrime 4153
prime-4153 = prime-by-trial 4153 63 refl refl

prime-430751 : IsPrime 430751
prime-430751 = prime-by-trial 430751 655 refl refl

prime-31757755568855353 : IsPrime 31757755568855353
prime-31757755568855353 =
    prime-by-order 31757755568855353 31 26222887164197666
    ((430751, 15419847897348699) ∷ (4153, 25117532289192573) ∷ [])
    (prime-430751, (prime-4153, tt)) refl refl

prime-569003 : IsPrime 569003
prime-569003 = prime-by-trial 569003 753 refl refl

prime-2773320623 : IsPrime 2773320623
prime-2773320623 =
    prime-by-order 2773320623 20 2039232613
    ((569003, 2440407146) ∷ [])
    (prime-569003, tt) refl refl

prime-72106336199 : IsPrime 72106336199
prime-72106336199 =
    prime-by-order 72106336199 32 67108864
    ((2773320623, 8149528284) ∷ [])
    (prime-2773320623, tt) refl refl

prime-127 : IsPrime 127
prime-127 = prime-by-trial 127 10 refl refl

prime-103 : IsPrime 103
prime-103 = prime-by-trial 103 9 refl refl

prime-991 : IsPrime 991
prime-991 = prime-by-trial 991 30 refl refl

prime-8574133 : IsPrime 8574133
prime-8574133 =
    prime-by-order 8574133 17 5087997
    ((991, 1014251) ∷ (103, 3531099) ∷ [])
    (prime-991, (prime-103, tt)) refl refl

prime-1919519569386763 : IsPrime 1919519569386763
prime-1919519569386763 =
    prime-by-order 1919519569386763 31 354538099852037
    ((8574133, 1290547218147893) ∷ (127, 1870148777187772) ∷ [])
    (prime-8574133, (prime-127, tt)) refl refl

prime-of-116-bits : IsPrime 0xe87c2a477b815a1793787395b23e1
prime-of-116-bits =
    prime-by-order 0xe87c2a477b815a1793787395b23e1 87 0x487a89b1473f186439b1cc93e40ae
    ((1919519569386763, 0xe5e342b4c0a3d507894bab5f20e8b) ∷ (72106336199, 0xac749d1f719e470b108286ca314a7) ∷ [])
    (prime-1919519569386763, (prime-72106336199, tt)) refl refl

prime-of-236-bits : IsPrime 0xabaf8c6b094fd0f32c2ccabab864dbecd99144679c1adf804898fb2042b
prime-of-236-bits =
    prime-by-order 0xabaf8c6b094fd0f32c2ccabab864dbecd99144679c1adf804898fb2042b 171 0x4c4f7e737e48daecd864da497a10de27396dd51460910bd5a1ff3acadf6
    ((0xe87c2a477b815a1793787395b23e1, 0xa35a14fb1452ddd0fca6eef50ac9bd9a369cab894104fc366d4fa595e38) ∷ (31757755568855353, 0x2a4458bec3d1a61af2b119b565e8d5fad2a6b7b3a83995d56db70cdb977) ∷ [])
    (prime-of-116-bits, (prime-31757755568855353, tt)) refl refl

pub prime-of-255-bits : IsPrime 0x7fffffffffffffffffffffffffffffffffffffffffffffffffffffffffffffed
prime-of-255-bits =
    prime-by-order 0x7fffffffffffffffffffffffffffffffffffffffffffffffffffffffffffffed 236 0xf1ba0c491eeef83c49fc1b744331bb096d4893142c187431f7b03e61a75a49
    ((0xabaf8c6b094fd0f32c2ccabab864dbecd99144679c1adf804898fb2042b, 0x7acaff384090e983b641a51e1df0807078e467d06ab8164555f0f7fd51653bdc) ∷ [])
    (prime-of-236-bits, tt) refl refl
