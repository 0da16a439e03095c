-- How an operation came to be told of a write.
use Rattle.std.specs.Prelude.{ℕ, zero, suc, List, [], ◌∷◌, ◌++◌, length, Option, Some, None, if◌then◌else◌}
use Rattle.std.specs.List.{find}
use Rattle.pci_command.specs.declared.op_id.OpId.{OpId}
use Rattle.pci_command.specs.Same.{same_op}
use Rattle.board_model.specs.declared.board.Board.{Board}
use Rattle.history_model.specs.declared.event.Event.{Event}
use Rattle.history_model.specs.Words.{Landing, landed}
use Rattle.history_model.specs.Knowledge.{Reading, got}
use Rattle.law_fresh.specs.Aware.{Aware, shows, aware_of}
use Rattle.law_fresh.specs.Told.{was_told}

-- the write of a landing
abbrev pub op_in : Option Landing → Option OpId
op_in None = None
op_in (Some landing) = Some landing.op

-- of the writes that a read saw and that are the write or were told of it, that whose first landing is earliest
abbrev pub shown_by : Board → OpId → Aware → Option Reading → Option OpId
shown_by board w aware None = None
shown_by board w aware (Some reading) = op_in (find (shows w aware reading.before) (landed board reading.before reading.word))

-- the same of what a read got that ended with a value
abbrev pub first_shown : Board → OpId → List Event → OpId → Option OpId
first_shown board w h q = shown_by board w (aware_of board w h) (got board h q)

-- an operation behind others; one that would follow itself is written once
abbrev pub joined : List OpId → OpId → OpId → List OpId
joined chain last q = if same_op last q then chain else chain ++ q ∷ []

-- the chain to the operation with which its master came to know of the write, and then the write that was seen
abbrev pub to_seen : (OpId → List OpId) → Option OpId → OpId → List OpId
to_seen before None v = v ∷ []
to_seen before (Some p) v = joined (before p) p v

-- the chain to a read that came to know by what it saw
abbrev pub to_reader : (OpId → List OpId) → (ℕ → Option OpId) → OpId → Option OpId → List OpId
to_reader before since q None = q ∷ []
to_reader before since q (Some v) = to_seen before (since v.master) v ++ q ∷ []

-- the chain from the write to an operation with which its master came to know of it, over at most so many masters
abbrev pub chain_to : ℕ → Board → OpId → List Event → OpId → List OpId
chain_to zero board w h q = []
chain_to (suc n) board w h q =
    if same_op q w then w ∷ []
    else to_reader (λ p. chain_to n board w h p) (aware_of board w h).since q (first_shown board w h q)

-- the chain over the operation with which the master came to know of the write, to a later one of it
abbrev pub chain_from : Board → OpId → List Event → OpId → Option OpId → List OpId
chain_from board w h r None = []
chain_from board w h r (Some q) = joined (chain_to (length board.masters) board w h q) q r

-- how the operation was told of the write; none where it was not
abbrev pub chain_of : Board → List Event → OpId → OpId → Option (List OpId)
chain_of board h w r =
    if was_told board h w r then Some (chain_from board w h r ((aware_of board w h).since r.master)) else None
