-- What the laws of what no run does state, and what other crates may rest on besides.

-- what comes before itself has no event, and so lands nowhere
pub use Rattle.law_safe.proofs.vain.VainLemmas.{no_event, no_landing}
-- a vain poll is not met
pub use Rattle.law_safe.proofs.vain.VainLemmas.{never_met}
