pub mod ByteLemmas
pub mod NumberLemmas
pub mod P256AcceptedLemmas
pub mod P384AcceptedLemmas
pub mod P521AcceptedLemmas
pub mod P256SignedLemmas
pub mod P384SignedLemmas
pub mod P521SignedLemmas
