-- What a well-formed board is, condition by condition: what other crates rest on.

-- each test of form and the record beside it
pub use Rattle.board_model.proofs.FormLemmas.{Within-parts, Within-from, Window-parts, Window-from, Bridge-parts, Bridge-from, Block-parts, Block-from, Target-parts, Target-from, Write-parts, Write-from, Master-parts, Master-from, Few-parts, Few-from, WellFormed-parts, WellFormed-from}
-- the operation that a name names
pub use Rattle.board_model.proofs.OpLemmas.{op_tries, op_phases, op_there, op_formed, op_limits}
