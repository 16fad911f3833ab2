pub mod RisingLemmas
pub mod Places
pub mod FirstLemmas
pub mod KeyedLemmas
pub mod NeverFallLemmas
pub mod SearchLemmas
