-- A capability line: a tab or eight spaces, `Capabilities: [`, 2 or 3 digits, `] `, then `Express` or `PCI-X`.
use Rattle.std.specs.Prelude.{ℕ, Bool, ◌+◌, List, Option, Some, None, codes, drop, slice_index, ◌==◌, ◌&&◌, ◌||◌, if◌then◌else◌}
use Rattle.import_text.specs.declared.capability.CapabilityKind.{CapabilityKind}
use Rattle.import_text.specs.declared.capability.CapabilityKind.TheVariants.{Express, PciX}
use Rattle.import_text.specs.Digits.{hex_length}
use Rattle.import_text.specs.Regions.{begins_with, indented}

-- 2 or 3 digits, `] `
abbrev pub has_offset : List ℕ → Bool
has_offset text =
    (hex_length text == 2 || hex_length text == 3)
    && (slice_index text (hex_length text) == 93 && slice_index text (hex_length text + 1) == 32)

-- the kind that the text begins with, if it is one of the two
abbrev pub kind_named : List ℕ → Option CapabilityKind
kind_named text =
    if begins_with (codes "Express") text then Some Express else if begins_with (codes "PCI-X") text then Some PciX else None

-- behind `Capabilities: [`
abbrev pub kind_behind : List ℕ → Option CapabilityKind
kind_behind text = if has_offset text then kind_named (drop (hex_length text + 2) text) else None

-- the kind that a line tells, if it is a line of a capability
abbrev pub kind_of : List ℕ → Option CapabilityKind
kind_of line =
    if begins_with (codes "Capabilities: [") (indented line) then kind_behind (drop 15 (indented line)) else None
