-- A chain of primes, the last of which is P-384's n. The numbers are computed, and the checker computes with them again.
use Rattle.std.proofs.Common.{[], ◌∷◌, refl}
use Rattle.prime_laws.specs.Primes.{IsPrime}
use Rattle.prime_laws.proofs.PrimeLemmas.{prime-by-order, prime-by-trial}

prime-311 : IsPrime 311
prime-311 = prime-by-trial 311 16 refl refl

prime-881 : IsPrime 881
prime-881 = prime-by-trial 881 28 refl refl

prime-9863677 : IsPrime 9863677
prime-9863677 =
    prime-by-order 9863677 19 9102754
    ((881, 2715823) ∷ (311, 3050820) ∷ [])
    (prime-881, (prime-311, tt)) refl refl

prime-37344768852931 : IsPrime 37344768852931
prime-37344768852931 =
    prime-by-order 37344768852931 24 872691691968
    ((9863677, 16534501050212) ∷ [])
    (prime-9863677, tt) refl refl

prime-55942463741690639 : IsPrime 55942463741690639
prime-55942463741690639 =
    prime-by-order 55942463741690639 46 16681160088318800
    ((37344768852931, 19671609748915252) ∷ [])
    (prime-37344768852931, tt) refl refl

prime-233 : IsPrime 233
prime-233 = prime-by-trial 233 14 refl refl

prime-421 : IsPrime 421
prime-421 = prime-by-trial 421 19 refl refl

prime-272109983 : IsPrime 272109983
prime-272109983 =
    prime-by-order 272109983 17 154772539
    ((421, 7756922) ∷ (233, 163678795) ∷ [])
    (prime-421, (prime-233, tt)) refl refl

prime-228572385721 : IsPrime 228572385721
prime-228572385721 =
    prime-by-order 228572385721 29 228249034435
    ((272109983, 195783320097) ∷ [])
    (prime-272109983, tt) refl refl

prime-23314383343543 : IsPrime 23314383343543
prime-23314383343543 =
    prime-by-order 23314383343543 38 20351814924465
    ((228572385721, 1293503794781) ∷ [])
    (prime-228572385721, tt) refl refl

prime-of-69-bits : IsPrime 0x1720b72947fc8b45d9
prime-of-69-bits =
    prime-by-order 0x1720b72947fc8b45d9 45 0x2ecdb56f00bd7d8b0
    ((23314383343543, 0x367b9b8f15f607b0b) ∷ [])
    (prime-23314383343543, tt) refl refl

prime-of-91-bits : IsPrime 0x4d4ccc69f97d91fa4d43bdf
prime-of-91-bits =
    prime-by-order 0x4d4ccc69f97d91fa4d43bdf 69 0x26b85938dfa0df5b5c921b3
    ((0x1720b72947fc8b45d9, 0x8a083581996092bfc8ced2) ∷ [])
    (prime-of-69-bits, tt) refl refl

prime-of-94-bits : IsPrime 0x39f9994f7b1e2d7bb9f2ce75
prime-of-94-bits =
    prime-by-order 0x39f9994f7b1e2d7bb9f2ce75 91 4096
    ((0x4d4ccc69f97d91fa4d43bdf, 0x91330c10c452d5101d9ad0a) ∷ [])
    (prime-of-91-bits, tt) refl refl

prime-of-200-bits : IsPrime 0xa8c55f664384d6fe203ca16a45d7238cad2d61237ce2fa5933
prime-of-200-bits =
    prime-by-order 0xa8c55f664384d6fe203ca16a45d7238cad2d61237ce2fa5933 150 0x403c5048ecfe6e99df7035e623bbf1e19d0fb596290da7d333
    ((0x39f9994f7b1e2d7bb9f2ce75, 0x9f033fdff044d44917e757865665a77176730e432e113fee9b) ∷ (55942463741690639, 0x7d303affd5356dd5590b98597f81f92e269884ff82f35d03a1) ∷ [])
    (prime-of-94-bits, (prime-55942463741690639, tt)) refl refl

prime-of-281-bits : IsPrime 0x192a43d8f8a55b860e20c52b200024fbdd5c39850b80be9fa08e6156d781713c6b252c7
prime-of-281-bits =
    prime-by-order 0x192a43d8f8a55b860e20c52b200024fbdd5c39850b80be9fa08e6156d781713c6b252c7 200 0xbbb00701618e7c9e8c8a52dc4db42bde18282f2b92e43bc9405c6785bf3310d537bb
    ((0xa8c55f664384d6fe203ca16a45d7238cad2d61237ce2fa5933, 0x1657228959274c36038698ade4979e616abff3f2c42499d97fcf5b1d900953f0e90af51) ∷ [])
    (prime-of-200-bits, tt) refl refl

pub prime-of-384-bits : IsPrime 0xffffffffffffffffffffffffffffffffffffffffffffffffc7634d81f4372ddf581a0db248b0a77aecec196accc52973
prime-of-384-bits =
    prime-by-order 0xffffffffffffffffffffffffffffffffffffffffffffffffc7634d81f4372ddf581a0db248b0a77aecec196accc52973 281 0xc1c311fe41c771ea98a50b660b15b27a82d7161575cd1e190d03219146d0c45f3a4774115e4d3906d3e23e4c0a292f05
    ((0x192a43d8f8a55b860e20c52b200024fbdd5c39850b80be9fa08e6156d781713c6b252c7, 0x2b78e1961b91dbb816ba41c28e1064448e9c0d800b52e1a4bcf9862944aa360d5dbd3150f705e597a8ce1b9703432111) ∷ [])
    (prime-of-281-bits, tt) refl refl
