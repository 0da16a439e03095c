-- What the law of the table states, and what other crates rest on besides.

-- what may not be passed is a posted write, and all else may be passed
pub use Rattle.order_table.proofs.WayLemmas.{posted_alone, others_pass}
