pub mod AddressLemmas
pub mod CountLemmas
pub mod ListedLemmas
pub mod SaysLemmas
pub mod EndingLemmas
