-- Posted writes alone are in the way: by the table each column but theirs may be passed in each row.
use Rattle.std.proofs.Common.{◌≡◌, true, false, refl, sym, ◌∙◌}
use Rattle.pci_command.specs.declared.command.Kind.{Kind}
use Rattle.pci_command.specs.declared.command.Kind.TheVariants.{Pmw, Drr, Dwr, Drc, Dwc}
use Rattle.order_table.specs.Order.{may_pass}

-- all but posted writes
abbrev pub IsNotPosted : Kind → Type 0
IsNotPosted Pmw = ⊥
IsNotPosted Drr = Unit {0}
IsNotPosted Dwr = Unit {0}
IsNotPosted Drc = Unit {0}
IsNotPosted Dwc = Unit {0}

pub others_pass : (row column : Kind) → IsNotPosted column → may_pass row column ≡ true
others_pass row Pmw other = absurd other
others_pass Pmw Drr other = refl
others_pass Pmw Dwr other = refl
others_pass Pmw Drc other = refl
others_pass Pmw Dwc other = refl
others_pass Drr Drr other = refl
others_pass Drr Dwr other = refl
others_pass Drr Drc other = refl
others_pass Drr Dwc other = refl
others_pass Dwr Drr other = refl
others_pass Dwr Dwr other = refl
others_pass Dwr Drc other = refl
others_pass Dwr Dwc other = refl
others_pass Drc Drr other = refl
others_pass Drc Dwr other = refl
others_pass Drc Drc other = refl
others_pass Drc Dwc other = refl
others_pass Dwc Drr other = refl
others_pass Dwc Dwr other = refl
others_pass Dwc Drc other = refl
others_pass Dwc Dwc other = refl

pub posted_alone : (row column : Kind) → may_pass row column ≡ false → column ≡ Pmw
posted_alone row Pmw stops = refl
posted_alone row Drr stops = let pass = others_pass row Drr tt in let wrong : true ≡ false = sym pass ∙ stops in cc
posted_alone row Dwr stops = let pass = others_pass row Dwr tt in let wrong : true ≡ false = sym pass ∙ stops in cc
posted_alone row Drc stops = let pass = others_pass row Drc tt in let wrong : true ≡ false = sym pass ∙ stops in cc
posted_alone row Dwc stops = let pass = others_pass row Dwc tt in let wrong : true ≡ false = sym pass ∙ stops in cc
