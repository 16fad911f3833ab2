-- A chain of primes, the last of which is P-521's n. The numbers are computed, and the checker computes with them again.
use Rattle.std.proofs.Common.{[], ◌∷◌, refl}
use Rattle.prime_laws.specs.Primes.{IsPrime}
use Rattle.prime_laws.proofs.PrimeLemmas.{prime-by-order, prime-by-trial}

prime-777241 : IsPrime 777241
prime-777241 = prime-by-trial 777241 880 refl refl

prime-17467 : IsPrime 17467
prime-17467 = prime-by-trial 17467 131 refl refl

prime-19353437 : IsPrime 19353437
prime-19353437 =
    prime-by-order 19353437 15 15172986
    ((17467, 8883568) ∷ [])
    (prime-17467, tt) refl refl

prime-60018716061994831 : IsPrime 60018716061994831
prime-60018716061994831 =
    prime-by-order 60018716061994831 44 51731333948169809
    ((19353437, 13896743239042879) ∷ (777241, 6603800760833999) ∷ [])
    (prime-19353437, (prime-777241, tt)) refl refl

prime-of-72-bits : IsPrime 0xe5d44c3fe9cf001873
prime-of-72-bits =
    prime-by-order 0xe5d44c3fe9cf001873 56 0x2f0cc804937cea75f7
    ((60018716061994831, 0xc8b06e5560c381a414) ∷ [])
    (prime-60018716061994831, tt) refl refl

prime-of-123-bits : IsPrime 0x59692038853ba2a39463b0149af3859
prime-of-123-bits =
    prime-by-order 0x59692038853ba2a39463b0149af3859 72 0x72ee058f7a21d7fc517dd062934e51
    ((0xe5d44c3fe9cf001873, 0x10622dc8f422635ba6b9322dc7e0e01) ∷ [])
    (prime-of-72-bits, tt) refl refl

prime-of-184-bits : IsPrime 0xa6fc66f961355bf57299eadf799cfd92769c4db1923363
prime-of-184-bits =
    prime-by-order 0xa6fc66f961355bf57299eadf799cfd92769c4db1923363 123 0xa509d4657a082246039e9985e1363d0ac0fa7c60112d00
    ((0x59692038853ba2a39463b0149af3859, 0x5693297deab2551b7683d4b47af9c4a3cb1e951c3b8e93) ∷ [])
    (prime-of-123-bits, tt) refl refl

prime-of-361-bits : IsPrime 0x18c61e9d6f5364020bfb6e04363013a05dc6efa02ece541f304622ec35a464bdcd07d18a2ce4ee8b39c6438bdbf
prime-of-361-bits =
    prime-by-order 0x18c61e9d6f5364020bfb6e04363013a05dc6efa02ece541f304622ec35a464bdcd07d18a2ce4ee8b39c6438bdbf 184 0xf374016e5c0ebd752177df8d5866e02a80c2f2d4c0e3c50548a79143de9d4004e7a8cd99a93e9a366582478cb0
    ((0xa6fc66f961355bf57299eadf799cfd92769c4db1923363, 0x16d1a3a6c2657fbfe1240f4fdd91295bf11dc1d1d03a8760057514c4cfb776581b34d24d647748e006bff4d20f1) ∷ [])
    (prime-of-184-bits, tt) refl refl

prime-of-391-bits : IsPrime 0x5bc065010a97a162f78b610a077bb97b53886bb266481d591d2d02fd6aa2bf7392c391499b2d8f744518c799a7c35911a7
prime-of-391-bits =
    prime-by-order 0x5bc065010a97a162f78b610a077bb97b53886bb266481d591d2d02fd6aa2bf7392c391499b2d8f744518c799a7c35911a7 361 0x413bfc8ca544964e035e758391193d138589554e0e4971fd1ffd37789c3641451ad29a36689b031d72039001e20a8fceb2
    ((0x18c61e9d6f5364020bfb6e04363013a05dc6efa02ece541f304622ec35a464bdcd07d18a2ce4ee8b39c6438bdbf, 0x13b906616140b4e60d6197286c78189363c5177b052b810e1e75119733ddd7c913b0e8c39cc12d0f60ecc48ce3fa022fb1) ∷ [])
    (prime-of-361-bits, tt) refl refl

pub prime-of-521-bits : IsPrime 0x1fffffffffffffffffffffffffffffffffffffffffffffffffffffffffffffffffa51868783bf2f966b7fcc0148f709a5d03bb5c9b8899c47aebb6fb71e91386409
prime-of-521-bits =
    prime-by-order 0x1fffffffffffffffffffffffffffffffffffffffffffffffffffffffffffffffffa51868783bf2f966b7fcc0148f709a5d03bb5c9b8899c47aebb6fb71e91386409 391 0x406a6812060171c3933203bb24d6ec58995efb8f87d6bd3039222bea3312ba7a686ba08dfce724a5f2384a75a25b39165077724d35cce35eafa2ad833d31760a55
    ((0x5bc065010a97a162f78b610a077bb97b53886bb266481d591d2d02fd6aa2bf7392c391499b2d8f744518c799a7c35911a7, 0x1d690b1243840378c9bf1f9be465718d3f2bb891e373769ccfb72ea07f8084e561420dc0bb445ecc3be50f9b6de47fd3514d6a26152b77d3663927d44b0efa1bfce) ∷ [])
    (prime-of-391-bits, tt) refl refl
