use Rattle.std.proofs.Common.{◌≡◌, ◌*◌, ◌++◌, length, take, drop}
use Rattle.board_statements.specs.Words.{in_pairs}
use Rattle.board_statements.proofs.kinds.in_pairs.Given as goal

-- the bytes so far, and then those of the digits that are left
abbrev pub invariant-loop-i : goal.invariant-loop-i
invariant-loop-i l = record {
  size : length l.bytes ≡ 64;
  pairs : take l.i l.bytes ++ in_pairs (drop (2 * l.i) l.word) ≡ in_pairs l.word;
}
