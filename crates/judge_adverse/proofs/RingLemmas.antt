-- The ring has each initiator that can act.
use Rattle.std.proofs.Common.{◌≡◌, ap, ◌∙◌, ◌+◌, ℕ, zero, suc, ◌<◌, List, [], ◌∷◌, ◌++◌, map, Some, refl, sym, subst, slice_get, ⊎_elim, arith}
use Rattle.std.specs.Prelude.{Result, Ok, Err, IsErr, IfOk, OnOk}
use Rattle.std.specs.List.{AllByRecursion}
use Rattle.board_model.specs.declared.bridge.Lane.{Lane as BridgeLane}
use Rattle.board_model.specs.declared.board.Board.{Board}
use Rattle.law_lanes.proofs.progress.NextFirstLemmas.{below_or}
use Rattle.judge_next.specs.Lines.{BusLines, lines_of}
use Rattle.judge_next.proofs.EachLineLemmas.{each_front, each_back}
use Rattle.judge_adverse.specs.declared.ring.Initiator.{Initiator}
use Rattle.judge_adverse.specs.declared.ring.Initiator.TheVariants.{Lane as LaneOn, Master as MasterOn}
use Rattle.judge_adverse.specs.Turns.{initiators_on, ring_below}

-- what holds at each place holds of each
pub each_placed : {X : Type 0} (P : X → Type 0) (xs : List X) → ((k : ℕ) (x : X) → slice_get xs k ≡ Some x → P x) → AllByRecursion P xs
each_placed P [] at = tt
each_placed P (x ∷ xs) at = (at 0 x refl, each_placed P xs (λ k y is. at (suc k) y is))

-- what holds of each that is made holds of each of which it is made
each_made : {X Y : Type 0} (P : Y → Type 0) (make : X → Y) (xs : List X) → AllByRecursion P (map make xs) → AllByRecursion (λ x. P (make x)) xs
each_made P make [] each = tt
each_made P make (x ∷ xs) each = (each.0, each_made P make xs each.1)

-- of each initiator of the ring, so of each of a bus
on_bus : (P : Initiator → Type 0) (board : Board) (n bus : ℕ) → AllByRecursion P (ring_below n board) → bus < n → AllByRecursion P (initiators_on bus (lines_of board bus))
on_bus P board zero bus each below = absurd (omega (arith, below))
on_bus P board (suc n) bus each below =
    ⊎_elim {C = AllByRecursion P (initiators_on bus (lines_of board bus))}
    (λ (less : bus < n). on_bus P board n bus (each_front P (ring_below n board) (initiators_on n (lines_of board n)) each) less)
    (λ (same : bus ≡ n).
    subst (λ (b : ℕ). AllByRecursion P (initiators_on b (lines_of board b))) (sym same) (each_back P (ring_below n board) (initiators_on n (lines_of board n)) each))
    (below_or bus n below)

-- of each of its lanes, and of each of its masters
pub lanes_on : (P : Initiator → Type 0) (board : Board) (bus : ℕ) → AllByRecursion P (ring_below 256 board) → bus < 256 → AllByRecursion (λ (lane : BridgeLane). P (LaneOn bus lane)) (lines_of board bus).lanes
lanes_on P board bus each below =
    let lines = lines_of board bus in
    each_made P (LaneOn bus) lines.lanes (each_front P (map (LaneOn bus) lines.lanes) (map (MasterOn bus) lines.masters) (on_bus P board 256 bus each below))

pub masters_on : (P : Initiator → Type 0) (board : Board) (bus : ℕ) → AllByRecursion P (ring_below 256 board) → bus < 256 → AllByRecursion (λ (master : ℕ). P (MasterOn bus master)) (lines_of board bus).masters
masters_on P board bus each below =
    let lines = lines_of board bus in
    each_made P (MasterOn bus) lines.masters (each_back P (map (LaneOn bus) lines.lanes) (map (MasterOn bus) lines.masters) (on_bus P board 256 bus each below))

-- with the initiators of one bus more it is the ring of one bus more
pub ring_more : (board : Board) (bus : ℕ) (all more : List Initiator) → all ≡ ring_below bus board → more ≡ all ++ initiators_on bus (lines_of board bus) → more ≡ ring_below (bus + 1) board
ring_more board bus all more so_far is =
    let next : suc bus ≡ bus + 1 = omega arith in
    let here : more ≡ ring_below (suc bus) board = is ∙ ap (λ (xs : List Initiator). xs ++ initiators_on bus (lines_of board bus)) so_far in
    subst (λ (n : ℕ). more ≡ ring_below n board) next here

-- what is to hold where it went well holds where it did not
pub on_err : {A B : Type 0} (r : Result A B) (P : Type 0) → IsErr r → OnOk r P
on_err (Ok a) P is = cc
on_err (Err b) P is = tt

-- and what is to hold of what comes of it
pub if_ok_on_err : {A B : Type 0} (r : Result A B) (P : A → Type 0) → IsErr r → IfOk r P
if_ok_on_err (Ok a) P is = cc
if_ok_on_err (Err b) P is = tt

-- these lines are those of the bus
pub with_lines : {A B : Type 0} (r : Result A B) (before now : List Initiator) (bus : ℕ) (lines of_bus : BusLines) → lines ≡ of_bus → OnOk r (now ≡ before ++ initiators_on bus lines) → OnOk r (now ≡ before ++ initiators_on bus of_bus)
with_lines r before now bus lines of_bus same done = subst (λ (of : BusLines). OnOk r (now ≡ before ++ initiators_on bus of)) same done
