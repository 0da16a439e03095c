pub mod SettleLemmas
pub mod LayLemmas
pub mod OneLemmas
pub mod WorkLemmas
pub mod IdleLemmas
pub mod SteadyLemmas
pub mod FirstLemmas
pub mod Laws
