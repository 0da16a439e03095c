-- What a board has beside the target or master that began last.
use Rattle.std.proofs.Common.{◌≡◌, ℕ, Bool, true, false, cond, List, [], ◌∷◌, ◌++◌, Option, Some, None, refl, sym, ap, ◌∙◌, append-nil}
use Rattle.std.specs.List.{find}
use Rattle.board_model.specs.declared.agents.Target.{Target}
use Rattle.board_model.specs.declared.board.Board.{Board}
use Rattle.board_model.specs.Valid.{is_bus}
use Rattle.board_model.specs.WellFormed.{is_target_named}
use Rattle.board_parser.specs.declared.draft.draft.Draft.{Draft}
use Rattle.board_parser.specs.declared.draft.draft.AgentPlace.{AgentPlace}
use Rattle.board_parser.specs.declared.draft.draft.AgentPlace.TheVariants.{Nobody, OfTarget, OfMaster}
use Rattle.board_parser.specs.draft.Drafts.{with_owner, board_of}
use Rattle.board_parser.specs.draft.Targets.{bus_in, bus_of_target, owned}

pub owner_bus : (board : Board) (owner : AgentPlace) (bus : ℕ) → is_bus board bus ≡ is_bus (with_owner board owner) bus
owner_bus board Nobody bus = refl
owner_bus board (OfTarget target) bus = refl
owner_bus board (OfMaster master) bus = refl

targets_with : (board : Board) (owner : AgentPlace) → (with_owner board owner).targets ≡ board.targets ++ owned owner
targets_with board Nobody = sym (append-nil board.targets)
targets_with board (OfTarget target) = refl
targets_with board (OfMaster master) = sym (append-nil board.targets)

-- found before, or else behind
abbrev either : Option ℕ → Option ℕ → Option ℕ
either None other = other
either (Some bus) other = Some bus

find_both : (test : Target → Bool) (xs ys : List Target) (found : Option ℕ) → bus_in (find test xs) ≡ found → bus_in (find test (xs ++ ys)) ≡ either found (bus_in (find test ys))
find_both test [] ys None is = refl
find_both test [] ys (Some bus) is = cc
find_both test (x ∷ xs) ys found is =
    let P : Bool → Type 0 = λ b. bus_in (cond b (Some x) (find test xs)) ≡ found → bus_in (cond b (Some x) (find test (xs ++ ys))) ≡ either found (bus_in (find test ys)) in
    (elim (test x) as P [ true ↦ of_first found | false ↦ λ later. find_both test xs ys found later ]) is
  where
    of_first : (f : Option ℕ) → bus_in (Some x) ≡ f → bus_in (Some x) ≡ either f (bus_in (find test ys))
    of_first None e = cc
    of_first (Some bus) e = e

pub bus_before : (draft : Draft) (name : List ℕ) (bus : ℕ) → Some bus ≡ bus_in (find (is_target_named name) draft.board.targets) → Some bus ≡ bus_of_target (board_of draft) name
bus_before draft name bus is =
    sym (ap (λ ts. bus_in (find (is_target_named name) ts)) (targets_with draft.board draft.owner) ∙ find_both (is_target_named name) draft.board.targets (owned draft.owner) (Some bus) (sym is))

pub bus_behind : (draft : Draft) (name : List ℕ) → None ≡ bus_in (find (is_target_named name) draft.board.targets) → bus_in (find (is_target_named name) (owned draft.owner)) ≡ bus_of_target (board_of draft) name
bus_behind draft name is =
    sym (ap (λ ts. bus_in (find (is_target_named name) ts)) (targets_with draft.board draft.owner) ∙ find_both (is_target_named name) draft.board.targets (owned draft.owner) None (sym is))
