use Rattle.std.proofs.Common.{◌≡◌, [], take, drop}
use Rattle.std.specs.List.{list_any}
use Rattle.std.specs.BTreeSet.{contains}
use Rattle.import_text.specs.declared.slot.DeviceAddress.{DeviceAddress}
use Rattle.import_text.specs.Functions.{has_slot, repeated_after}
use Rattle.import_text.proofs.SlotLemmas.{order}
use Rattle.import_text.proofs.read.repeated.Given as goal

-- none of those so far has the slot of one before, and their slots were seen, no others
abbrev pub invariant-loop-function : goal.invariant-loop-function
invariant-loop-function l = record {
  none : repeated_after [] l.functions ≡ repeated_after (take l.function-index l.functions) (drop l.function-index l.functions);
  seen : (slot : DeviceAddress) → contains order l.seen slot ≡ list_any (has_slot slot) (take l.function-index l.functions);
}
