use Rattle.std.proofs.Common.{take}
use Rattle.std.specs.List.{AllByRecursion}
use Rattle.judge_state.specs.Words.{WordsKnown, StillThere, KnowsRead}
use Rattle.judge_state.proofs.words.KeptWords.know_reads.Given as goal

-- the words of the reads so far are kept
abbrev pub invariant-loop-op : goal.invariant-loop-op
invariant-loop-op l =
    WordsKnown l.board l.self × StillThere l.fn.self.places l.self.places × AllByRecursion (KnowsRead l.board l.bus l.self.places) (take l.op-index l.ops)
