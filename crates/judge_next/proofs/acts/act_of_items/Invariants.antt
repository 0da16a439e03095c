use Rattle.std.proofs.Common.{◌≡◌, drop}
use Rattle.history_model.specs.Next.{first_in}
use Rattle.judge_next.specs.Now.{item_now}
use Rattle.judge_next.proofs.acts.act_of_items.Given as goal

-- the first of all is the first of those to come
abbrev pub invariant-loop-item : goal.invariant-loop-item
invariant-loop-item l = first_in (item_now l.board l.kept l.bus l.lane) (drop l.item-index l.standing) ≡ first_in (item_now l.board l.kept l.bus l.lane) l.standing
