-- What each line of the text is: a slot, a row, a region, a capability, or passed over.
use Rattle.std.specs.Prelude.{ℕ, ◌-◌, List, Option, Some, None, map, take, length, slice_index, ◌==◌, ◌&&◌, nat_lt, if◌then◌else◌}
use Rattle.board_text.specs.Lines.{lines_of}
use Rattle.import_text.specs.declared.slot.DeviceAddress.{DeviceAddress}
use Rattle.import_text.specs.declared.capability.CapabilityKind.{CapabilityKind}
use Rattle.import_text.specs.declared.entry.Entry.{Entry}
use Rattle.import_text.specs.declared.entry.Entry.TheVariants.{Slot, Row, Region, Capability, Other}
use Rattle.import_text.specs.Slots.{slot_of, name_of}
use Rattle.import_text.specs.Rows.{is_row, offset_of, row_bytes}
use Rattle.import_text.specs.Regions.{region_size, region_number}
use Rattle.import_text.specs.Capabilities.{kind_of}

-- a carriage return before the newline is taken off
abbrev pub without_return : List ℕ → List ℕ
without_return line =
    if nat_lt 0 (length line) && slice_index line (length line - 1) == 13 then take (length line - 1) line else line

-- a line that is no slot, row or region: a capability, or passed over
abbrev pub capability_entry : Option CapabilityKind → Entry
capability_entry None = Other
capability_entry (Some found) = Capability found

-- a line that is no slot or row: a region with a size, else as above
abbrev pub region_entry : Option ℕ → List ℕ → Entry
region_entry None line = capability_entry (kind_of line)
region_entry (Some told) line = Region (region_number line) told

-- a slot, else a row, else as above
abbrev pub slot_entry : Option DeviceAddress → List ℕ → Entry
slot_entry None line = if is_row line then Row (offset_of line) (row_bytes line) else region_entry (region_size line) line
slot_entry (Some place) line = Slot place (name_of line)

-- the first of these that a line fits
abbrev pub entry_of : List ℕ → Entry
entry_of line = slot_entry (slot_of line) line

-- what each line is, its carriage return taken off
abbrev pub entries_of : List (List ℕ) → List Entry
entries_of lines = map (λ line. entry_of (without_return line)) lines

-- what each line of the text is
unfoldable pub entries_read : List ℕ → List Entry
entries_read text = entries_of (lines_of text)
