-- What other crates rest on.

-- facts on lists

-- an element of a mapped list, and back
pub use Rattle.bus_core.proofs.ListLemmas.{get_map, map_get}
