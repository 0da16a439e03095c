-- The functions of a text, or its first fault.
use Rattle.std.specs.Prelude.{◌≡◌, ℕ, Bool, true, false, ◌+◌, List, [], ◌∷◌, ◌++◌, length, take, find, Option, Some, None, Result, Ok, Err, ◌==◌, ◌&&◌, not, nat_lt, if◌then◌else◌}
use Rattle.std.specs.List.{position_or_len, list_any}
use Rattle.import_text.specs.declared.slot.DeviceAddress.{DeviceAddress}
use Rattle.import_text.specs.declared.capability.CapabilityKind.{CapabilityKind}
use Rattle.import_text.specs.declared.entry.Entry.{Entry}
use Rattle.import_text.specs.declared.entry.Entry.TheVariants.{Slot, Row, Region, Capability, Other}
use Rattle.import_text.specs.declared.function.Function.{Function}
use Rattle.text_faults.specs.declared.lspci.LspciFault.{LspciFault}
use Rattle.text_faults.specs.declared.lspci.LspciFault.TheVariants.{NoSlot, Repeated, NoRow, HighDevice}
use Rattle.text_faults.specs.declared.at_line.AtLine.{AtLine}
use Rattle.text_faults.specs.declared.or_no_memory.OrNoMemory.{OrNoMemory}
use Rattle.text_faults.specs.declared.or_no_memory.OrNoMemory.TheVariants.{Fault, NoMemory}
use Rattle.import_text.specs.Entries.{entries_read}

-- a slot, with which a function begins
abbrev pub is_slot : Entry → Bool
is_slot (Slot place text) = true
is_slot (Row place text) = false
is_slot (Region place told) = false
is_slot (Capability found) = false
is_slot Other = false

-- a row with this offset
abbrev pub is_row_at : ℕ → Entry → Bool
is_row_at wanted (Row place text) = place == wanted
is_row_at wanted (Slot place text) = false
is_row_at wanted (Region place told) = false
is_row_at wanted (Capability found) = false
is_row_at wanted Other = false

-- the region of this number
abbrev pub is_region_of : ℕ → Entry → Bool
is_region_of wanted (Region place told) = place == wanted
is_region_of wanted (Slot place text) = false
is_region_of wanted (Row place text) = false
is_region_of wanted (Capability found) = false
is_region_of wanted Other = false

-- a capability that tells the kind of PCI
abbrev pub is_capability : Entry → Bool
is_capability (Capability found) = true
is_capability (Slot place text) = false
is_capability (Row place text) = false
is_capability (Region place told) = false
is_capability Other = false

-- the bytes of a row that was found
abbrev pub bytes_told : Option Entry → List ℕ
bytes_told (Some (Row place text)) = text
bytes_told _ = []

-- the size of a region that was found
abbrev pub size_told : Option Entry → Option ℕ
size_told (Some (Region place told)) = Some told
size_told _ = None

-- the kind of a capability that was found
abbrev pub kind_told : Option Entry → Option CapabilityKind
kind_told (Some (Capability found)) = Some found
kind_told _ = None

-- of two rows with one offset the first counts
abbrev pub row_at : ℕ → List Entry → List ℕ
row_at wanted entries = bytes_told (find (is_row_at wanted) entries)

-- the bytes of the rows 00, 10, 20 and 30
abbrev pub header_in : List Entry → List ℕ
header_in entries = row_at 0 entries ++ (row_at 16 entries ++ (row_at 32 entries ++ row_at 48 entries))

-- of two regions with one number the first counts
abbrev pub size_of : ℕ → List Entry → Option ℕ
size_of wanted entries = size_told (find (is_region_of wanted) entries)

-- the sizes of regions 0 to 5
abbrev pub sizes_in : List Entry → List (Option ℕ)
sizes_in entries = size_of 0 entries ∷ size_of 1 entries ∷ size_of 2 entries ∷ size_of 3 entries ∷ size_of 4 entries ∷ size_of 5 entries ∷ []

-- of two capabilities the first counts
abbrev pub kind_in : List Entry → Option CapabilityKind
kind_in entries = kind_told (find is_capability entries)

-- what stands before the next slot line
abbrev pub own_entries : List Entry → List Entry
own_entries behind = take (position_or_len is_slot behind) behind

-- a function, by its slot line and what belongs to it
abbrev pub function_of : ℕ → DeviceAddress → List ℕ → List Entry → Function
function_of number place text own = record {
  line = number;
  slot = place;
  name = text;
  header = header_in own;
  sizes = sizes_in own;
  kind = kind_in own;
}

-- a slot line begins a function, and any other none
abbrev pub with_entry : ℕ → Entry → List Entry → List Function → List Function
with_entry number (Slot place text) behind more = function_of number place text (own_entries behind) ∷ more
with_entry number (Row place text) behind more = more
with_entry number (Region place told) behind more = more
with_entry number (Capability found) behind more = more
with_entry number Other behind more = more

-- the functions of these lines, of which the first has this number
abbrev pub functions_of : ℕ → List Entry → List Function
functions_of number [] = []
functions_of number (entry ∷ behind) = with_entry number entry behind (functions_of (number + 1) behind)

-- domain, bus, device and function are the same
abbrev pub is_same_slot : DeviceAddress → DeviceAddress → Bool
is_same_slot one other =
    one.domain == other.domain && (one.bus == other.bus && (one.device == other.device && one.function == other.function))

-- the function has this slot
abbrev pub has_slot : DeviceAddress → Function → Bool
has_slot place function = is_same_slot place function.slot

-- the line of the first function that has the slot of one before
abbrev pub repeated_after : List Function → List Function → Option ℕ
repeated_after before [] = None
repeated_after before (function ∷ more) =
    if list_any (has_slot function.slot) before then Some function.line else repeated_after (before ++ function ∷ []) more

-- whether one of the four rows is missing
abbrev pub lacks_row : Function → Bool
lacks_row function = not (length function.header == 64)

-- the line of a function that was found
abbrev pub line_told : Option Function → Option ℕ
line_told None = None
line_told (Some function) = Some function.line

-- the line of the first that lacks a row
abbrev pub lacking : List Function → Option ℕ
lacking functions = line_told (find lacks_row functions)

-- a device number above 1f, which no bus has
abbrev pub has_high_device : Function → Bool
has_high_device function = nat_lt 31 function.slot.device

-- the line of the first that has one
abbrev pub high : List Function → Option ℕ
high functions = line_told (find has_high_device functions)

-- the functions, unless one has
abbrev pub read_or_high : Option ℕ → List Function → Result (List Function) (ℕ × LspciFault)
read_or_high (Some line) functions = Err (line, HighDevice)
read_or_high None functions = Ok functions

-- a function that lacks a row is told before that
abbrev pub read_or_lacking : Option ℕ → List Function → Result (List Function) (ℕ × LspciFault)
read_or_lacking (Some line) functions = Err (line, NoRow)
read_or_lacking None functions = read_or_high (high functions) functions

-- a slot that was there before is told before that
abbrev pub read_or_repeated : Option ℕ → List Function → Result (List Function) (ℕ × LspciFault)
read_or_repeated (Some line) functions = Err (line, Repeated)
read_or_repeated None functions = read_or_lacking (lacking functions) functions

-- no slot line at all, told of the line behind the last; then a slot that was there before; then a row that is missing;
-- then a device number that no bus has
abbrev pub judged : ℕ → List Function → Result (List Function) (ℕ × LspciFault)
judged lines functions =
    if length functions == 0 then Err (lines + 1, NoSlot) else read_or_repeated (repeated_after [] functions) functions

-- what a text reads as
abbrev pub functions_read : List ℕ → Result (List Function) (ℕ × LspciFault)
functions_read text = judged (length (entries_read text)) (functions_of 1 (entries_read text))

-- the functions or the fault are told exactly where the text reads so, unless there was no memory
abbrev pub Tells : Result (List Function) (OrNoMemory (AtLine LspciFault)) → Result (List Function) (ℕ × LspciFault)
    → Type 0
Tells (Ok functions) reading = reading ≡ Ok functions
Tells (Err (Fault found)) reading = reading ≡ Err (found.line, found.fault)
Tells (Err NoMemory) reading = Unit {0}
