-- How the operations of a chain tell each other.
use Rattle.std.specs.Prelude.{◌≡◌, true, List, [], ◌∷◌}
use Rattle.pci_command.specs.declared.op_id.OpId.{OpId}
use Rattle.board_model.specs.declared.board.Board.{Board}
use Rattle.history_model.specs.declared.event.Event.{Event}
use Rattle.history_model.specs.Knowledge.{tells}

-- an operation tells the first of these, each of them tells the next, and the last is `r`
abbrev pub Leads : Board → List Event → OpId → List OpId → OpId → Type 0
Leads board h p [] r = p ≡ r
Leads board h p (q ∷ rest) r = (tells board h p q ≡ true) × Leads board h q rest r

-- the chain begins with the write, each operation of it tells the next, and the last is `r`
abbrev pub IsChain : Board → List Event → OpId → OpId → List OpId → Type 0
IsChain board h w r [] = ⊥
IsChain board h w r (first ∷ rest) = (first ≡ w) × Leads board h first rest r
