use Rattle.untagged_run.proofs.TableLemmas.{noted_there}
use Rattle.untagged_run.proofs.origins.OriginTable.note.Goals as goal

pub returns : goal.returns
returns c = λ q. rw (← c.self.view_is) (noted_there c.args.key q c.args.got c.self.inside.made.entries c.insert.new.self.entries (c.in_ok-insert.ensures.updates.0 q))
