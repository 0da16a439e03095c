use Rattle.std.proofs.Common.{◌≡◌, take}
use Rattle.history_model.specs.Words.{value_of}
use Rattle.history_model.specs.Runs.{history_of}
use Rattle.plain_replay.proofs.words.value_of.Given as goal

-- the value after the events so far
abbrev pub invariant-loop-index : goal.invariant-loop-index
invariant-loop-index l =
    l.value ≡ value_of l.board (history_of (take l.index l.before)) (record { target = l.word.target; space = l.word.space; address = l.word.address })
