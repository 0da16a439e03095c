use Rattle.plain_audit.proofs.chains.+chain_to.Given as goal

-- one step fewer each time
abbrev pub decreases-chain_to : goal.decreases-chain_to
decreases-chain_to l = l.steps
