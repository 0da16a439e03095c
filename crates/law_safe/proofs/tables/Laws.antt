-- What the law of tables states, and what other crates may rest on besides.

-- the greater of two consistent tables is consistent
pub use Rattle.safe_model.proofs.tables.TableLemmas.{greater_consistent}
-- by a greater table more comes before and more is known
pub use Rattle.safe_model.proofs.tables.TableLemmas.{AtMost, clock_more, with_more, before_more, is_known_more}
