-- What the law of the largest table states, and what other crates may rest on besides.

-- a table is consistent where each poll has at most what the tests say
pub use Rattle.safe_model.proofs.largest.ConsistentLemmas.{PassesTests, consistent_passes, passes_consistent}
-- by a greater table more may be known: so a fall from the top stays above all that are consistent, and ends at the largest
pub use Rattle.safe_model.proofs.largest.ConsistentLemmas.{most_known_grows, stays_above, passes_largest}
-- the tests are the relations
pub use Rattle.safe_model.proofs.largest.TestLemmas.{before_is, is_before_so, no_more_is, is_no_more, left_is, is_left, opens_is, is_opens, firm_is, is_firm_so}
-- by the largest table what is known rises along a program, and who counts an operation counts all that it comes after
pub use Rattle.safe_model.proofs.largest.RiseLemmas.{Rises, rows_rise, clock_rises, largest_rises, largest_is_closed, clocks_closed, knows_all}
-- a fall from the top keeps a table rising along programs
pub use Rattle.safe_model.proofs.largest.RiseLemmas.{top_rises, lowered_rises}
-- what lands no more once another does that lands no more once a third does, lands no more once that does
pub use Rattle.safe_model.proofs.largest.RiseLemmas.{no_more_through}
