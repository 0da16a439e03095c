use Rattle.std.proofs.Common.{take}
use Rattle.std.specs.List.{AllByRecursion}
use Rattle.judge_state.specs.Words.{WordsKnown, KnowsProgram}
use Rattle.judge_state.proofs.words.KeptWords.new.Given as goal

-- the words of the programs so far are kept, as they open
abbrev pub invariant-loop-master : goal.invariant-loop-master
invariant-loop-master l = record {
  known : WordsKnown l.board l.words;
  reads : AllByRecursion (KnowsProgram l.board l.words.places) (take l.master-index l.board.masters);
}
