-- A chain of primes, the last of which is P-521's p. The numbers are computed, and the checker computes with them again.
use Rattle.std.proofs.Common.{[], ◌∷◌, refl}
use Rattle.prime_laws.specs.Primes.{IsPrime}
use Rattle.prime_laws.proofs.PrimeLemmas.{prime-by-order, prime-by-trial}

prime-49481 : IsPrime 49481
prime-49481 = prime-by-trial 49481 221 refl refl

prime-308761441 : IsPrime 308761441
prime-308761441 =
    prime-by-order 308761441 16 201156783
    ((49481, 43610143) ∷ [])
    (prime-49481, tt) refl refl

prime-347 : IsPrime 347
prime-347 = prime-by-trial 347 17 refl refl

prime-1663 : IsPrime 1663
prime-1663 = prime-by-trial 1663 39 refl refl

prime-2400573761 : IsPrime 2400573761
prime-2400573761 =
    prime-by-order 2400573761 20 375525651
    ((1663, 1534051064) ∷ (347, 1288538855) ∷ [])
    (prime-1663, (prime-347, tt)) refl refl

prime-11 : IsPrime 11
prime-11 = prime-by-trial 11 2 refl refl

prime-397 : IsPrime 397
prime-397 = prime-by-trial 397 18 refl refl

prime-2995763 : IsPrime 2995763
prime-2995763 =
    prime-by-order 2995763 13 444555
    ((397, 1007766) ∷ (11, 2974989) ∷ [])
    (prime-397, (prime-11, tt)) refl refl

prime-65427463921 : IsPrime 65427463921
prime-65427463921 =
    prime-by-order 65427463921 22 42122182386
    ((2995763, 11681146965) ∷ [])
    (prime-2995763, tt) refl refl

prime-1433 : IsPrime 1433
prime-1433 = prime-by-trial 1433 36 refl refl

prime-23609 : IsPrime 23609
prime-23609 = prime-by-trial 23609 152 refl refl

prime-108140989558681 : IsPrime 108140989558681
prime-108140989558681 =
    prime-by-order 108140989558681 26 79135004317931
    ((23609, 10679667100567) ∷ (1433, 104633227636071) ∷ [])
    (prime-23609, (prime-1433, tt)) refl refl

prime-151 : IsPrime 151
prime-151 = prime-by-trial 151 11 refl refl

prime-223 : IsPrime 223
prime-223 = prime-by-trial 223 13 refl refl

prime-8620289 : IsPrime 8620289
prime-8620289 =
    prime-by-order 8620289 16 7404945
    ((223, 4776110) ∷ (151, 5838524) ∷ [])
    (prime-223, (prime-151, tt)) refl refl

prime-2534364967 : IsPrime 2534364967
prime-2534364967 =
    prime-by-order 2534364967 24 2527690082
    ((8620289, 1080576377) ∷ [])
    (prime-8620289, tt) refl refl

prime-145295143558111 : IsPrime 145295143558111
prime-145295143558111 =
    prime-by-order 145295143558111 32 69216082370409
    ((2534364967, 75121499342418) ∷ [])
    (prime-2534364967, tt) refl refl

prime-7 : IsPrime 7
prime-7 = prime-by-trial 7 1 refl refl

prime-2437 : IsPrime 2437
prime-2437 = prime-by-trial 2437 48 refl refl

prime-9211861 : IsPrime 9211861
prime-9211861 =
    prime-by-order 9211861 15 3264897
    ((2437, 5788243) ∷ (7, 3946268) ∷ [])
    (prime-2437, (prime-7, tt)) refl refl

prime-24098228377 : IsPrime 24098228377
prime-24098228377 =
    prime-by-order 24098228377 24 7249217957
    ((9211861, 20243037454) ∷ [])
    (prime-9211861, tt) refl refl

prime-674750394557 : IsPrime 674750394557
prime-674750394557 =
    prime-by-order 674750394557 35 268435456
    ((24098228377, 430257804336) ∷ [])
    (prime-24098228377, tt) refl refl

prime-361725589517273017 : IsPrime 361725589517273017
prime-361725589517273017 =
    prime-by-order 361725589517273017 40 206817309394499644
    ((674750394557, 184089148017814789) ∷ [])
    (prime-674750394557, tt) refl refl

prime-of-88-bits : IsPrime 0x8f5b78263ad9207eb2b101
prime-of-88-bits =
    prime-by-order 0x8f5b78263ad9207eb2b101 59 0x798bcaeab59ab7676e172
    ((361725589517273017, 0x5d70dfa09c480dce00e4a0) ∷ [])
    (prime-361725589517273017, tt) refl refl

pub prime-of-521-bits : IsPrime 0x1ffffffffffffffffffffffffffffffffffffffffffffffffffffffffffffffffffffffffffffffffffffffffffffffffffffffffffffffffffffffffffffffffff
prime-of-521-bits =
    prime-by-order 0x1ffffffffffffffffffffffffffffffffffffffffffffffffffffffffffffffffffffffffffffffffffffffffffffffffffffffffffffffffffffffffffffffffff 277 0x1c866ccf26518115b38dae24b7acb8163caf24dfb99674a13455f14cc4c9f9e0bef1c3ea8470e8b7e5eee514677d6ae9dc2f42c12d4d6a424f2cda6ecb23be584b0
    ((0x8f5b78263ad9207eb2b101, 0x1cd3a3d555493f4cdb68256a83050006d7bc2c0012a405e0f0ba9d928d8a5e577a1f7cf4698528c35e196b115b4e38c62c5c4503fc0eb328a4766c94bf353cd68e2) ∷ (145295143558111, 0xdf40916fc8cdfed6316d6b80414168e9696dee17ee158480ea56a05a853268a492529b829e6fa782b24cc5dfae84248822c508a78c49375b3b8fdd756a449ed92e) ∷ (108140989558681, 0x1463bcded12b42c3b47de33cb1b32a8dcfde9ee13bf6402773ab735833918c8e79b656cd5788f6b61defc509bb0365b1497364f708d5ff64d96c047f1fea90de196) ∷ (65427463921, 0x73e8149415c6fbbc5cfc5785d5a922c1d0728c899daab5a816a91bba5aabd3205655088ddd9b9744926471aa14aaba5e56593710306ab3a9ed44b8991417793922) ∷ (2400573761, 0xbbfed28d6e5c104bacea69490a667b425b32daea5ccfdaf5cc2192377461ffad1ad70975bf589051edd91a347140f54de595e9a09a4c27c3b5585fa747f049ac4c) ∷ (308761441, 0x10bd29e066c558fd01f751da3696329cfeb304f767d952ffe0d198cae1433bb14f18a3a0dfae36fce9822d8afb283c404982bab634e70b63f23b4e831688c072ae5) ∷ [])
    (prime-of-88-bits, (prime-145295143558111, (prime-108140989558681, (prime-65427463921, (prime-2400573761, (prime-308761441, tt)))))) refl refl
