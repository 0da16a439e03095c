use Rattle.machine_steps.proofs.SameLemmas.{same_request_tests}
use Rattle.untagged_apart.proofs.meet.are_same.Goals as goal

pub returns : goal.returns
returns c = same_request_tests c.args.a.now c.args.b.now c.same_request.result c.same_request.ensures
