use Rattle.std.proofs.Common.{sym, ◌∙◌}
use Rattle.plain_decode.proofs.claims.claim_by_bridge.Goals as goal

pub returns-in-None : goal.returns-in-None
returns-in-None c =
    let none = rw c.as_slice-bridges.ensures at (sym c.child_at.ensures ∙ c.in-None.is) in
    rw (c.claim_upwards.ensures, c.as_slice-bridges.ensures, none)
