-- What is looked up once for all lines of a trace: where each name stands, and the bridges.
use Rattle.std.specs.Prelude.{◌≡◌, ℕ, ◌<◌, List, Option, Some, None, Bool, slice_index_or, IfSome}
use Rattle.std.specs.Borrow.{Bor}
use Rattle.std.specs.Option.{option_map}
use Rattle.std.specs.List.{position, find}
use Rattle.std.specs.BTreeMap.{BTreeMap, get_by}
use Rattle.std.specs.Cmp.Lexicographic.{slice_cmp}
use Rattle.std.specs.Ordering.{nat_cmp}
use Rattle.board_model.specs.declared.board.Board.{Board}
use Rattle.board_model.specs.declared.bridge.Bridge.{Bridge}
use Rattle.board_model.specs.WellFormed.{has_bus, is_master_named, is_target_named}
use Rattle.trace_reader.specs.lines.Words.{only_where}

-- places by names
abbrev pub Places : Type 0
Places = BTreeMap (Bor (List ℕ)) ℕ

-- the place of a name
abbrev pub place_of : Places → List ℕ → Option ℕ
place_of places word = get_by (λ k. slice_cmp nat_cmp word k.now) places

-- the first place of a name, where it may stand at a last one too
abbrev pub also_at : Option ℕ → Bool → ℕ → Option ℕ
also_at (Some place) here last = Some place
also_at None here last = only_where here (Some last)

-- the bus above the bridge to a bus, where there is a bridge
abbrev pub above : Board → ℕ → Option ℕ
above board bus = option_map (λ (bridge : Bridge). bridge.parent) (find (has_bus bus) board.bridges)

-- names with their places, some of those that a table has
abbrev pub Guesses : Type 0
Guesses = List (Option (Bor (List ℕ) × ℕ))

-- each guess is right of its own name
abbrev pub AreRight : Places → Guesses → Type 0
AreRight places guesses =
    (at : ℕ) → IfSome (slice_index_or guesses at None) (λ guess. place_of places guess.0.now ≡ Some guess.1)

-- each name of the board is found where it stands first, each guess is right, and each bridge is found by its
-- secondary bus
pub record Knows (board : Board) (by_master by_target : Places) (likely_masters likely_targets : Guesses) (by_bus : List (Option ℕ)) : Type 0 where
  pub masters : (word : List ℕ) → place_of by_master word ≡ position (is_master_named word) board.masters
  pub targets : (word : List ℕ) → place_of by_target word ≡ position (is_target_named word) board.targets
  pub right_masters : AreRight by_master likely_masters
  pub right_targets : AreRight by_target likely_targets
  pub bridges : (bus : ℕ) → bus < 256 → slice_index_or by_bus bus None ≡ above board bus
