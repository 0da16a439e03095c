use Rattle.bus_face.proofs.ReplyLemmas.{replies_of_lanes}
use Rattle.bus_face.proofs.face.Face.respond.Goals as goal

pub returns-clause-lanes : goal.returns-clause-lanes
returns-clause-lanes c = replies_of_lanes c.args.self.now c.args.tag c.args.op c.args.request.now c.reply.result c.reply.new.self c.reply.ensures
