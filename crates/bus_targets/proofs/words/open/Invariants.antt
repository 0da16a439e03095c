use Rattle.std.proofs.Common.{◌≡◌, ℕ, take, map}
use Rattle.history_model.specs.Words.{opens_as}
use Rattle.bus_targets.proofs.words.open.Given as goal

-- the words so far
abbrev pub invariant-loop-address : goal.invariant-loop-address
invariant-loop-address l =
    l.values.items ≡ map (λ (address : ℕ). opens_as l.board (record { target = l.target; space = l.space; address = address })) (take l.address-index l.addresses)
