-- The bridge of a lane, and the ends of lanes of a board, bus by bus.
use Rattle.std.proofs.Common.{◌≡◌, ℕ, suc, ◌+◌, ◌<◌, true, List, [], ◌∷◌, ◌++◌, length, map, get_or, take, Option, Some, None, is_some, Bor, refl, sym, ap, ◌∙◌, slice_get}
use Rattle.std.specs.List.{AllByRecursion, find}
use Rattle.std.specs.Option.{option_copied}
use Rattle.std.proofs.lemmas.List.{length-map, map-append, take_more}
use Rattle.list_facts.proofs.EachLemmas.{Each-find}
use Rattle.list_facts.proofs.TestLemmas.{Each-list_all}
use Rattle.board_model.specs.declared.bridge.Bridge.{Bridge}
use Rattle.board_model.specs.declared.bridge.Lane.{Lane as BridgeLane}
use Rattle.board_model.specs.declared.board.Board.{Board}
use Rattle.board_model.specs.WellFormed.{is_well_formed, is_well_formed_bridge, has_bus, IsWellFormedBridge}
use Rattle.board_model.proofs.Laws.{WellFormed-parts, Bridge-parts}
use Rattle.engine_segments.specs.First.{buses_of, lanes_to, AreEndsOf, ends_alike}

pub found_some : (found : Option (Bor Bridge)) (y : Bridge) → option_copied found ≡ Some y → is_some found ≡ true
found_some None y is = cc
found_some (Some r) y is = refl

-- a bridge of a well-formed board that is found is well formed
pub found_formed : (board : Board) (bus : ℕ) (bridge : Bridge) → is_well_formed board ≡ true → find (has_bus bus) board.bridges ≡ Some bridge → IsWellFormedBridge bridge
found_formed board bus bridge formed found =
    Bridge-parts bridge (Each-find (λ (b : Bridge). is_well_formed_bridge b ≡ true) (has_bus bus) board.bridges bridge (Each-list_all is_well_formed_bridge board.bridges (WellFormed-parts board formed).bridges) found)

-- what holds at each place holds of each
pub each_at : {X : Type 0} (P : X → Type 0) (xs : List X) → ((n : ℕ) (x : X) → slice_get xs n ≡ Some x → P x) → AllByRecursion P xs
each_at P [] at = tt
each_at P (x ∷ xs) at = (at 0 x refl, each_at P xs (λ n y there. at (suc n) y there))

-- Ends of lanes, bus by bus.

pub ends_more : {End : Type 0} (ends_on : ℕ → List End) (buses : List ℕ) (n : ℕ) (before : List (List End)) (here : List End) → n < length buses → before ≡ map ends_on (take n buses)
    → here ≡ ends_on (get_or buses n 0) → before ++ here ∷ [] ≡ map ends_on (take (n + 1) buses)
ends_more {End} ends_on buses n before here within are is =
    let push : List (List End) → List End → List (List End) = λ l e. l ++ e ∷ [] in
    ap (λ l. push l here) are
    ∙ (ap (push (map ends_on (take n buses))) is
    ∙ (sym (map-append ends_on (take n buses) (get_or buses n 0 ∷ [])) ∙ ap (map ends_on) (sym (take_more buses n 0 within))))

-- one for each lane, all alike, are as many as there are lanes
alike_on : {End : Type 0} (board : Board) (end : End) (buses : List ℕ) → map length (map (λ bus. map (λ lane. end) (lanes_to board bus)) buses) ≡ map (λ bus. length (lanes_to board bus)) buses
alike_on board end [] = refl
alike_on {End} board end (bus ∷ buses) =
    let F : ℕ → List ℕ → List ℕ = λ n l. n ∷ l in
    let end_at : BridgeLane → End = λ lane. end in
    ap (λ (n : ℕ). F n (map length (map (λ b. map end_at (lanes_to board b)) buses))) (length-map (lanes_to board bus) end_at)
    ∙ ap (F (length (lanes_to board bus))) (alike_on board end buses)

pub alike_fit : {End : Type 0} (board : Board) (end : End) → AreEndsOf board (ends_alike board end)
alike_fit board end = alike_on board end (buses_of board)
