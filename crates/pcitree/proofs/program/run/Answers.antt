use denote.Param.Send.{sendable}
use Rattle.std.proofs.Common.{sym, ◌∙◌}
use Rattle.pcitree.proofs.GivenLemmas.{form_is_of, same_form}
use Rattle.pcitree.proofs.program.run.Goals as goal

pub serve-requires : goal.serve-requires
serve-requires g c = (search sendable, (search sendable, form_is_of _ _ (sym c.form_of.ensures ∙ c.in-Some.is)))

pub returns-in-Some-clause-unasked : goal.returns-in-Some-clause-unasked
returns-in-Some-clause-unasked g c = λ form found. same_form _ _ _ form _ (sym c.form_of.ensures ∙ c.in-Some.is) found c.serve.ensures.unasked
