-- Lanes on which nothing is, bridge by bridge.
use Rattle.std.proofs.Common.{ℕ, true, false, ◌+◌, ◌<◌, ◌↔◌, List, length, drop, get_or, subst, sym}
use Rattle.std.specs.List.{AllByRecursion}
use Rattle.std.proofs.lemmas.List.{drop_more}
use Rattle.board_model.specs.declared.bridge.Bridge.{Bridge}
use Rattle.board_model.specs.declared.board.Board.{Board}
use Rattle.history_model.specs.declared.event.Event.{Event}
use Rattle.history_model.specs.World.{world_of}
use Rattle.history_model.specs.Runs.{IsIdle}

-- both lanes of the bridge are idle
abbrev pub IsIdleAt : Board → List Event → Bridge → Type 0
IsIdleAt board h bridge =
    IsIdle (world_of board h (record { bus = bridge.bus; up = false })) × IsIdle (world_of board h (record { bus = bridge.bus; up = true }))

-- the next of a list, and those behind it
pub next_of : {X : Type 0} (P : X → Type 0) (xs : List X) (i : ℕ) (d : X) → i < length xs →
    AllByRecursion P (drop i xs) ↔ (P (get_or xs i d) × AllByRecursion P (drop (i + 1) xs))
next_of {X = X} P xs i d within =
    let Q : List X → Type 0 = λ ys. AllByRecursion P ys in
    let more = drop_more xs i d within in
    (λ all. subst Q more all, λ parts. subst Q (sym more) parts)
