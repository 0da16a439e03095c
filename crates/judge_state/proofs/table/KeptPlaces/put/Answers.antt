use Rattle.judge_state.proofs.TableLemmas.{put_there}
use Rattle.judge_state.proofs.table.KeptPlaces.put.Goals as goal

pub returns : goal.returns
returns c = λ q. rw (← c.self.view_is) (put_there c.args.word q c.args.place c.self.inside.places.entries c.insert.new.self.entries (c.in_ok-insert.ensures.updates.0 q))
