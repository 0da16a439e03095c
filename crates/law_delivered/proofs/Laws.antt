-- What the law of delivery states, and what other crates may rest on besides.

-- a flag that is clear delivers
pub use Rattle.law_delivered.proofs.DeliverLemmas.{clear_delivers}
-- where a target claims a memory request on some bus, its way ends there from every bus
pub use Rattle.law_delivered.proofs.EndLemmas.{one_end}
-- what landed whole brought a data phase to each word that it names
pub use Rattle.law_delivered.proofs.NamedLemmas.{named_lands}
-- a read that was told returns what it was told of, and what landed beside it; and what its word held
pub use Rattle.law_delivered.proofs.left.Laws.{told_lands, told_left, returned_held}
