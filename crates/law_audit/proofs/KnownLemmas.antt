-- What an operation that began knows stays the same to the end of a run.
use Rattle.std.proofs.Common.{◌≡◌, true, Bool, List, [], ◌∷◌, ◌++◌, refl, subst}
use Rattle.std.specs.List.{find, AllByRecursion}
use Rattle.pci_command.specs.declared.op_id.OpId.{OpId}
use Rattle.board_model.specs.declared.board.Board.{Board}
use Rattle.history_model.specs.declared.event.Event.{Event}
use Rattle.history_model.specs.Runs.{Run}
use Rattle.law_fresh.specs.Aware.{knows, aware_of}
use Rattle.law_fresh.proofs.Laws.{Begun, knows_kept, Front, knew_before}
use Rattle.law_audit.proofs.ClockLemmas.{bool_same}

pub knows_later : (board : Board) (w q : OpId) (later g : List Event) → knows (aware_of board w g) q ≡ true → knows (aware_of board w (later ++ g)) q ≡ true
knows_later board w q [] g is = is
knows_later board w q (e ∷ later) g is = knows_kept board w e (later ++ g) q (knows_later board w q later g is)

-- what an operation that began knows at the end it knew then
pub same_knows : (board : Board) (w q : OpId) (g h : List Event) → Front g h → Run board h → Begun board g q → knows (aware_of board w h) q ≡ knows (aware_of board w g) q
same_knows board w q g h front run begun =
    bool_same (knows (aware_of board w h) q) (knows (aware_of board w g) q) (knew_before board w q g h front run begun)
    (λ is. subst (λ k. knows (aware_of board w k) q ≡ true) front.is (knows_later board w q front.later g is))

-- two tests that agree on all of a list find the same there
pub find_same : {X : Type 0} (f g : X → Bool) (xs : List X) → AllByRecursion (λ x. f x ≡ g x) xs → find f xs ≡ find g xs
find_same f g [] each = refl
find_same f g (x ∷ xs) each = let here = each.0 in let later = find_same f g xs each.1 in cc
