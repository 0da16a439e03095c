-- The merge of what the buses did: the events of all parts in the order of their stamps, and those of equal stamps in
-- the order of the parts, each part in its own order. In parts and merge the oldest event stands first.
use Rattle.std.specs.Prelude.{◌≡◌, ◌≢◌, ℕ, List, [], ◌∷◌, ◌++◌, reverse, nat_le, ◌==◌, if◌then◌else◌}
use Rattle.std.specs.List.{AllByRecursion}
use Rattle.board_model.specs.declared.board.Board.{Board}
use Rattle.history_model.specs.declared.event.Stamped.{Stamped}
use Rattle.history_model.specs.Local.{bus_of}
use Rattle.law_local.specs.Stamps.{NeverFall, stamped_on}

-- in front of the first event whose stamp is as high or higher
abbrev pub put_event : Stamped → List Stamped → List Stamped
put_event e [] = e ∷ []
put_event e (f ∷ later) = if nat_le e.stamp f.stamp then e ∷ f ∷ later else f ∷ put_event e later

-- in the order of the stamps; events of equal stamps keep their order
abbrev pub in_order : List Stamped → List Stamped
in_order [] = []
in_order (e ∷ later) = put_event e (in_order later)

-- part after part
abbrev pub all_events : List (List Stamped) → List Stamped
all_events [] = []
all_events (part ∷ parts) = part ++ all_events parts

-- the merge
abbrev pub merged : List (List Stamped) → List Stamped
merged parts = in_order (all_events parts)

-- the parts hold of each bus what it did (`part`, newest first), in the order of its stamps
pub record HoldsParts (board : Board) (part : ℕ → List Stamped) (parts : List (List Stamped)) : Type 0 where
  pub has_part : (bus : ℕ) → stamped_on board bus (reverse (all_events parts)) ≡ part bus
  pub never_fall : (bus : ℕ) → NeverFall (part bus)

-- the first part is of the first bus, and so on; no two are of one bus, and in each the stamps never fall
abbrev pub AreOwnParts : Board → List ℕ → List (List Stamped) → Type 0
AreOwnParts board [] [] = Unit {0}
AreOwnParts board [] (part ∷ parts) = ⊥
AreOwnParts board (bus ∷ buses) [] = ⊥
AreOwnParts board (bus ∷ buses) (part ∷ parts) =
    AllByRecursion (λ (s : Stamped). bus_of board s.event ≡ bus) part × NeverFall (reverse part) × AllByRecursion (λ (other : ℕ). other ≢ bus) buses × AreOwnParts board buses parts

-- what a bus did, newest first: its part, and nothing of a bus without one
abbrev pub part_of : List ℕ → List (List Stamped) → ℕ → List Stamped
part_of [] parts bus = []
part_of (own ∷ buses) [] bus = []
part_of (own ∷ buses) (part ∷ parts) bus = if own == bus then reverse part else part_of buses parts bus
