use Rattle.std.proofs.Common.{sym, ◌∙◌}
use Rattle.plain_decode.specs.ReadBack.{IsReadBack}
use Rattle.plain_decode.proofs.FoundLemmas.{found_is}
use Rattle.plain_decode.proofs.claims.claim_upwards.Goals as goal

pub claim_up-requires-clause-well_formed : goal.claim_up-requires-clause-well_formed
claim_up-requires-clause-well_formed c =
    (found_is IsReadBack _ _ _ c.requires.decodable (sym c.bridge_to.ensures ∙ c.in-Some.is)).well_formed

pub claim_up-requires-clause-numbered : goal.claim_up-requires-clause-numbered
claim_up-requires-clause-numbered c =
    (found_is IsReadBack _ _ _ c.requires.decodable (sym c.bridge_to.ensures ∙ c.in-Some.is)).numbered
