-- What is kept beside the journeys: the places of those under way.
use Rattle.std.specs.Prelude.{◌≡◌, ℕ, ◌+◌, Bool, true, false, not, ◌&&◌, ◌||◌, ◌==◌, List, [], ◌∷◌, Option, Some, None, if◌then◌else◌, slice_get}
use Rattle.board_model.specs.declared.bridge.Lane.{Lane as BridgeLane}
use Rattle.draw_items.specs.declared.journey.Journey.{Journey}
use Rattle.draw_items.specs.Journeys.{can_stand, stands}

-- it is in flight, or stands
abbrev pub is_under_way : Journey → Bool
is_under_way j = j.came == 0 || (not j.marked && (can_stand j.carried && j.left == 0))

-- the places of those that pass, the first of all of them having this number
abbrev pub places_from : {X : Type 0} → ℕ → (X → Bool) → List X → List ℕ
places_from n test [] = []
places_from n test (x ∷ xs) = if test x then n ∷ places_from (n + 1) test xs else places_from (n + 1) test xs

-- these are the places of the journeys under way, in the order of sending
abbrev pub IsListed : List Journey → List ℕ → Type 0
IsListed js places = places ≡ places_from 0 is_under_way js

-- one is there, and passes
abbrev pub passes : {X : Type 0} → (X → Bool) → Option X → Bool
passes test None = false
passes test (Some x) = test x

-- what is at the place, if it is one, is under way
abbrev pub IsThere : List Journey → Option ℕ → Type 0
IsThere js None = Unit {0}
IsThere js (Some place) = passes is_under_way (slice_get js place) ≡ true

-- the track of one that stands at the end of the lane
abbrev pub track_on : BridgeLane → Option Journey → List ℕ
track_on lane None = []
track_on lane (Some j) = if stands lane j then j.track ∷ [] else []
