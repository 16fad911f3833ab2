-- A chain of primes, the last of which is P-384's p. The numbers are computed, and the checker computes with them again.
use Rattle.std.proofs.Common.{[], ◌∷◌, refl}
use Rattle.prime_laws.specs.Primes.{IsPrime}
use Rattle.prime_laws.proofs.PrimeLemmas.{prime-by-order, prime-by-trial}

prime-38557 : IsPrime 38557
prime-38557 = prime-by-trial 38557 195 refl refl

prime-312289 : IsPrime 312289
prime-312289 = prime-by-trial 312289 557 refl refl

prime-363557 : IsPrime 363557
prime-363557 = prime-by-trial 363557 601 refl refl

prime-532247449 : IsPrime 532247449
prime-532247449 =
    prime-by-order 532247449 19 56715986
    ((363557, 202966419) ∷ [])
    (prime-363557, tt) refl refl

prime-44925942675193 : IsPrime 44925942675193
prime-44925942675193 =
    prime-by-order 44925942675193 29 9006975509753
    ((532247449, 29404327213793) ∷ [])
    (prime-532247449, tt) refl refl

prime-of-75-bits : IsPrime 0x788dfeed61e9c29d3cf
prime-of-75-bits =
    prime-by-order 0x788dfeed61e9c29d3cf 46 0x51b4a8e8e6ae29c7073
    ((44925942675193, 0x785650db2e2a78b1d77) ∷ [])
    (prime-44925942675193, tt) refl refl

prime-of-95-bits : IsPrime 0x4d6f0fac5c0e3050743c3537
prime-of-95-bits =
    prime-by-order 0x4d6f0fac5c0e3050743c3537 75 0x1cf2213931e429a22a8a5c6
    ((0x788dfeed61e9c29d3cf, 0x23bda0296127b9ea14cfe1bc) ∷ [])
    (prime-of-75-bits, tt) refl refl

prime-of-100-bits : IsPrime 0xae39e343cf1fecb5058777bbd
prime-of-100-bits =
    prime-by-order 0xae39e343cf1fecb5058777bbd 95 68719476736
    ((0x4d6f0fac5c0e3050743c3537, 0x76cce68a3cc150bd8522df38d) ∷ [])
    (prime-of-95-bits, tt) refl refl

prime-of-105-bits : IsPrime 0x10556d4e5b6afe30f884b3399b9
prime-of-105-bits =
    prime-by-order 0x10556d4e5b6afe30f884b3399b9 100 16777216
    ((0xae39e343cf1fecb5058777bbd, 0x784304d49dd84c58d711efba7e) ∷ [])
    (prime-of-100-bits, tt) refl refl

prime-of-139-bits : IsPrime 0x4be6ab2c80713e4d5142229baecfe3abc0f
prime-of-139-bits =
    prime-by-order 0x4be6ab2c80713e4d5142229baecfe3abc0f 105 0x1f4d7c55f7b6c261d30c446e74cc05e573f
    ((0x10556d4e5b6afe30f884b3399b9, 0x1f88f6be77e1fcb96444a211464591ad522) ∷ [])
    (prime-of-105-bits, tt) refl refl

prime-of-144-bits : IsPrime 0x8e5080f370d454d0f85c00e3e7c5cae209c3
prime-of-144-bits =
    prime-by-order 0x8e5080f370d454d0f85c00e3e7c5cae209c3 139 1073741824
    ((0x4be6ab2c80713e4d5142229baecfe3abc0f, 0x37a560fe025d74070319dcb8d2405df6d02) ∷ [])
    (prime-of-139-bits, tt) refl refl

prime-of-334-bits : IsPrime 0x23108c4e1b4108ec0ae7f9ac9f118677a6c53e44fd12fcacc07b805145240aae82349d3ce0e376778bd1
prime-of-334-bits =
    prime-by-order 0x23108c4e1b4108ec0ae7f9ac9f118677a6c53e44fd12fcacc07b805145240aae82349d3ce0e376778bd1 177 0x46d85789727c0e5d28fe3af65f39f171fd08b960f21370d852c3bca3e4601fdf6b6af3fd06904df6ddc
    ((0x8e5080f370d454d0f85c00e3e7c5cae209c3, 0x91477ba640c09af1076f71701f4a5985c683785cb2fb2b59e2589dee5a213149b62d13402fc628c7526) ∷ (312289, 0x201a6389fee4c9a281e1ba85734371f0859a37f04e5eea4869b73e24562388c3e12b9a43051d6b347b18) ∷ (38557, 0x12e8a86c0eef7c7c3cec3dd6c56e40a471f91ad03f40cac491dc1af1eb7c537a8772720aa81cfaf2f7ac) ∷ [])
    (prime-of-144-bits, (prime-312289, (prime-38557, tt))) refl refl

pub prime-of-384-bits : IsPrime 0xfffffffffffffffffffffffffffffffffffffffffffffffffffffffffffffffeffffffff0000000000000000ffffffff
prime-of-384-bits =
    prime-by-order 0xfffffffffffffffffffffffffffffffffffffffffffffffffffffffffffffffeffffffff0000000000000000ffffffff 334 0x85c53119b9b248f2347795dd822483d348932e7b61d2aae93e5394fdcec98fc38fa82227982ea38e458ad625d2706fcd
    ((0x23108c4e1b4108ec0ae7f9ac9f118677a6c53e44fd12fcacc07b805145240aae82349d3ce0e376778bd1, 0xbee9087bb8daf2a63d4170ccd09fbb036323d186069ddc422019a92579f90d5d9abf2cd7419800e75fc95c24019c068d) ∷ [])
    (prime-of-334-bits, tt) refl refl
