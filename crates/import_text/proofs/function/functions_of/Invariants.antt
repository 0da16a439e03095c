use Rattle.std.proofs.Common.{◌≡◌, ◌+◌, ◌++◌, length}
use Rattle.import_text.specs.Functions.{functions_of}
use Rattle.import_text.proofs.function.functions_of.Given as goal

-- the functions so far, and then those of the lines that are left
abbrev pub invariant-loop-left : goal.invariant-loop-left
invariant-loop-left l = record {
  counted : l.line + length l.left ≡ length l.entries + 1;
  functions : l.functions.items ++ functions_of l.line l.left ≡ functions_of 1 l.entries;
}

abbrev pub decreases-loop-left : goal.decreases-loop-left
decreases-loop-left l = length l.left
