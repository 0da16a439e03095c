pub mod Decodable
pub mod Refusals
pub mod Chains
pub mod Sites
