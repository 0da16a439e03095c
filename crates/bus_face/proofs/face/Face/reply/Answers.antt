use Rattle.std.proofs.Common.{sym, ◌∙◌}
use Rattle.bus_face.proofs.DelayLemmas.{reply_posted}
use Rattle.bus_face.proofs.face.Face.reply.Goals as goal

pub returns-then-is_posted : goal.returns-then-is_posted
returns-then-is_posted c = reply_posted c.args.self.now c.args.tag c.args.op c.args.request.now c.post.result c.post.new.self (sym c.is_posted.ensures ∙ c.if-is_posted.true) c.post.ensures
