use Rattle.std.proofs.Common.{◌≡◌, drop}
use Rattle.history_model.specs.Runs.{history_of}
use Rattle.history_model.specs.Next.{first_in, act_of_item}
use Rattle.plain_replay.proofs.acts.act_of_items.Given as goal

-- the first of the items to come is the first of all
abbrev pub invariant-loop-item : goal.invariant-loop-item
invariant-loop-item l =
    first_in (act_of_item l.board (history_of l.before) l.bus l.lane) (drop l.item-index l.standing)
    ≡ first_in (act_of_item l.board (history_of l.before) l.bus l.lane) l.standing
