-- The ordering table of the bridges here, after PCI Local Bus Specification 2.2, appendix E. It is stated once, and
-- asked of everything that may pass: what a lane presents, and the completion that a bridge gives.
use Rattle.std.specs.Prelude.{Bool, true, false}
use Rattle.pci_command.specs.declared.command.Kind.{Kind}
use Rattle.pci_command.specs.declared.command.Kind.TheVariants.{Pmw, Drr, Dwr, Drc, Dwc}
use Rattle.order_table.specs.declared.Entry.{Entry}
use Rattle.order_table.specs.declared.Entry.TheVariants.{No, Yes, YesOrNo}

-- a row of the table: its entry in each column, from left to right
abbrev pub columns : Entry → Entry → Entry → Entry → Entry → Kind → Entry
columns pmw drr dwr drc dwc Pmw = pmw
columns pmw drr dwr drc dwc Drr = drr
columns pmw drr dwr drc dwc Dwr = dwr
columns pmw drr dwr drc dwc Drc = drc
columns pmw drr dwr drc dwc Dwc = dwc

-- may a transaction of the row pass an older one of the column, both going the same way through
-- one bridge? The columns are PMW, DRR, DWR, DRC and DWC, from left to right
abbrev pub table : Kind → Kind → Entry
table Pmw = columns No Yes Yes Yes Yes
table Drr = columns No YesOrNo YesOrNo YesOrNo YesOrNo
table Dwr = columns No YesOrNo YesOrNo YesOrNo YesOrNo
table Drc = columns No Yes Yes YesOrNo YesOrNo
table Dwc = columns YesOrNo Yes Yes YesOrNo YesOrNo

-- whether a bridge that passes wherever the table leaves it the choice passes here
abbrev pub passes : Entry → Bool
passes No = false
passes Yes = true
passes YesOrNo = true

-- whether a transaction of the row may pass an older one of the column
abbrev pub may_pass : Kind → Kind → Bool
may_pass row column = passes (table row column)
