use Rattle.std.proofs.Common.{◌≡◌, ◌&&◌, drop}
use Rattle.std.specs.List.{list_all}
use Rattle.observe_log.specs.Plain.{is_plain}
use Rattle.observe_log.proofs.plain.are_plain.Given as goal

-- all so far, and all of those that are left
abbrev pub invariant-loop-byte : goal.invariant-loop-byte
invariant-loop-byte l = (l.all && list_all is_plain (drop l.byte-index l.bytes)) ≡ list_all is_plain l.bytes
