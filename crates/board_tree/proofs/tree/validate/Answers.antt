use Rattle.std.proofs.Common.{◌≤◌, refl, sym, ◌∙◌}
use Rattle.board_model.specs.Ways.{bound_of}
use Rattle.board_tree.proofs.ValidLemmas.{IsDecodable-passed, IsValid-passed}
use Rattle.board_tree.proofs.BoundLemmas.{bound_of-small}
use Rattle.board_tree.proofs.tree.validate.Goals as goal

pub of-sites-requires : goal.of-sites-requires
of-sites-requires c =
    IsDecodable-passed c.args.board c.requires (sym c.first_fault.ensures ∙ c.in_default.is)

pub bound_of-bound-requires-clause-decodable : goal.bound_of-bound-requires-clause-decodable
bound_of-bound-requires-clause-decodable c =
    IsDecodable-passed c.args.board c.requires (sym c.first_fault.ensures ∙ c.in_default.is)

pub bound_of-bound-requires-clause-fits : goal.bound_of-bound-requires-clause-fits
bound_of-bound-requires-clause-fits c =
    bound_of-small c.args.board c.requires (IsDecodable-passed c.args.board c.requires (sym c.first_fault.ensures ∙ c.in_default.is))

pub invariant_of-result : goal.invariant_of-result
invariant_of-result c =
    let short : bound_of c.args.board ≤ 500000 = rw (← c.bound_of-bound.ensures) c.if-bound-gt-MOST_EVENTS.false in
    (IsValid-passed c.args.board c.requires (sym c.first_fault.ensures ∙ c.in_default.is) short, c.bound_of-bound.ensures, c.of-sites.ensures)

pub returns-clause-valid : goal.returns-clause-valid
returns-clause-valid c =
    let short : bound_of c.args.board ≤ 500000 = rw (← c.bound_of-bound.ensures) c.if-bound-gt-MOST_EVENTS.false in
    (λ _. IsValid-passed c.args.board c.requires (sym c.first_fault.ensures ∙ c.in_default.is) short, λ _. refl)
