-- What other crates rest on.

-- before the first event, and where only what is told differs; one event more is Happened
pub use Rattle.audit_landings.proofs.StandLemmas.{landings_first, same_stand}
-- nothing was told before the first event, and what was told goes over to a table with the same numbers
pub use Rattle.audit_landings.proofs.StandLemmas.{tolds_first, tolds_over}
-- which writes landed whole, and what those in a dword tell
pub use Rattle.audit_landings.proofs.StandLemmas.{whole_has, word_told}
-- what an event brings to a dword is what its writes are said to bring; a step that brings nothing
pub use Rattle.audit_landings.proofs.HitLemmas.{event_hit, none_landed}
