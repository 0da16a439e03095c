-- Combining and byte merging of two memory writes in front of a bus: PCI Local Bus Specification 2.2, section
-- 3.2.6 (from memory).
use Rattle.std.specs.Prelude.{ℕ, Bool, ◌+◌, ◌*◌, ◌-◌, ◌/◌, ◌%◌, ◌^◌, ◌∷◌, ◌++◌, length, take, drop, Option, Some, None, ◌&&◌, ◌==◌, if◌then◌else◌, slice_get, bit_and, bit_or}
use Rattle.std.specs.List.{list_any}
use Rattle.std.specs.Option.{option_map}
use Rattle.pci_command.specs.declared.command.Space.TheVariants.{Mem}
use Rattle.pci_command.specs.declared.phases.Phase.{Phase}
use Rattle.board_model.specs.declared.bridge.Bridge.{Bridge}
use Rattle.board_model.specs.declared.op.Op.{Op}
use Rattle.board_model.specs.declared.board.Board.{Board}
use Rattle.board_model.specs.Claims.{window_holds}
use Rattle.board_model.specs.WellFormed.{is_burst_in}
use Rattle.write_combining.specs.Writes.{MemoryWrite, memory_write, op_of_write}

-- byte 0 to 3 of a dword, and whether a data phase writes it
abbrev pub byte_of : ℕ → ℕ → ℕ
byte_of value byte = value / 2 ^ (8 * byte) % 2 ^ 8

-- the data phase writes that byte
abbrev pub is_enabled : ℕ → ℕ → Bool
is_enabled enables byte = enables / 2 ^ byte % 2 == 1

-- combining: the dwords of the later write follow those of the earlier, all lie in one aligned block of 64 bytes, and
-- there are at most eight
abbrev pub may_combine : MemoryWrite → MemoryWrite → Bool
may_combine earlier later =
    later.address == earlier.address + 4 * length earlier.phases
    && is_burst_in Mem earlier.address (length earlier.phases + length later.phases)

-- the dwords of both, one behind the other
abbrev pub combined_write : MemoryWrite → MemoryWrite → MemoryWrite
combined_write earlier later = record { address = earlier.address; phases = earlier.phases ++ later.phases }

-- the address lies in a prefetchable window of some bridge of the board
abbrev pub is_prefetchable : Board → ℕ → Bool
is_prefetchable board address = list_any (λ (bridge : Bridge). window_holds address bridge.pref) board.bridges

-- no byte is enabled in both
abbrev pub are_apart : Phase → Phase → Bool
are_apart a b = bit_and a.enables b.enables == 0

-- merging: the first dword of the later write is the last of the earlier, it is prefetchable, no byte of it is written
-- twice, all dwords lie in one block, and there are at most eight
abbrev pub may_merge : Board → MemoryWrite → MemoryWrite → Phase → Phase → Bool
may_merge board earlier later last first =
    later.address + 4 == earlier.address + 4 * length earlier.phases
    && is_burst_in Mem earlier.address (length earlier.phases + length later.phases - 1)
    && is_prefetchable board later.address && are_apart last first

-- the bytes that either phase writes, and 0 in the others
abbrev pub merged_byte : Phase → Phase → ℕ → ℕ
merged_byte last first byte =
    if is_enabled last.enables byte then byte_of last.value byte
    else if is_enabled first.enables byte then byte_of first.value byte
    else 0

-- one data phase with the bytes of both
abbrev pub merged_phase : Phase → Phase → Phase
merged_phase last first =
    record {
      value = merged_byte last first 0 + 2 ^ 8 * merged_byte last first 1 + 2 ^ 16 * merged_byte last first 2 + 2 ^ 24 * merged_byte last first 3;
      enables = bit_or last.enables first.enables;
    }

-- the dwords of both, with the one that they share merged
abbrev pub merged_write : MemoryWrite → MemoryWrite → Phase → Phase → MemoryWrite
merged_write earlier later last first =
    record {
      address = earlier.address;
      phases = take (length earlier.phases - 1) earlier.phases ++ merged_phase last first ∷ drop 1 later.phases;
    }

-- the merged write, where both have a dword and the rule allows it
abbrev pub merge_by : Board → MemoryWrite → MemoryWrite → Option Phase → Option Phase → Option MemoryWrite
merge_by board earlier later (Some last) (Some first) =
    if may_merge board earlier later last first then Some (merged_write earlier later last first) else None
merge_by board earlier later (Some last) None = None
merge_by board earlier later None first = None

-- the joined write, if a rule allows it
abbrev pub join_writes : Board → MemoryWrite → MemoryWrite → Option MemoryWrite
join_writes board earlier later =
    if may_combine earlier later
    then Some (combined_write earlier later)
    else merge_by board earlier later (slice_get earlier.phases (length earlier.phases - 1)) (slice_get later.phases 0)

-- the same of operations that may be memory writes
abbrev pub join_by : Board → Option MemoryWrite → Option MemoryWrite → Option MemoryWrite
join_by board (Some earlier) (Some later) = join_writes board earlier later
join_by board (Some earlier) None = None
join_by board None later = None

-- two neighbouring operations joined, where both are memory writes and a rule allows it
abbrev pub join_of : Board → Op → Op → Option Op
join_of board p q = option_map op_of_write (join_by board (memory_write p) (memory_write q))
