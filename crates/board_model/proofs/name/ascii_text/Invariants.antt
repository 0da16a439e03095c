use Rattle.std.proofs.Common.{◌≡◌, take}
use Rattle.board_model.proofs.name.ascii_text.Given as goal

-- the text so far
abbrev pub invariant-loop-byte : goal.invariant-loop-byte
invariant-loop-byte l = l.text.bytes ≡ take l.byte-index l.bytes
