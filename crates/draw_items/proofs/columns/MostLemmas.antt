-- The tracks that are used, item by item.
use Rattle.std.proofs.Common.{◌≡◌, ℕ, zero, suc, ◌+◌, ◌*◌, ◌<◌, Bool, true, false, cond, ◌&&◌, ◌==◌, List, [], ◌∷◌, ◌++◌, length, max, replicate, refl, sym, ap, ◌∙◌, arith, slice_index}
use Rattle.std.proofs.Math.ListN.{set, length-set}
use Rattle.std.proofs.lemmas.Bool.Decides.{nat_tests}
use Rattle.list_facts.specs.Lists.{greatest}
use Rattle.board_model.specs.declared.bridge.Lane.{Lane as BridgeLane}
use Rattle.history_model.specs.World.{same_direction, same_lane}
use Rattle.draw_items.specs.declared.journey.Journey.{Journey}
use Rattle.draw_items.specs.Journeys.{has_stood}
use Rattle.draw_items.specs.columns.Sums.{plus}
use Rattle.draw_items.specs.columns.Places.{tracks_used, most}
use Rattle.draw_items.specs.columns.Kept.{slot_of, with_item, IsMost}

max_zero : (n : ℕ) → max n 0 ≡ n
max_zero n = omega arith

greatest_push : {X : Type 0} (weight : X → ℕ) (xs : List X) (x : X) → greatest weight (xs ++ x ∷ []) ≡ max (greatest weight xs) (weight x)
greatest_push weight [] x = omega arith
greatest_push weight (y ∷ xs) x = ap (λ n. max (weight y) n) (greatest_push weight xs x) ∙ omega arith

-- no two lanes have one number
slots_by : (a b : ℕ) (up down : Bool) → (a == b && same_direction up down) ≡ false → cond up (2 * a + 1) (2 * a) ≡ cond down (2 * b + 1) (2 * b) → ⊥
slots_by a b true true other same = grind (arith, nat_tests)
slots_by a b true false other same = omega arith
slots_by a b false true other same = omega arith
slots_by a b false false other same = grind (arith, nat_tests)

slots_same : (a b : ℕ) (up down : Bool) → (a == b && same_direction up down) ≡ true → cond up (2 * a + 1) (2 * a) ≡ cond down (2 * b + 1) (2 * b)
slots_same a b true true same = grind (arith, nat_tests)
slots_same a b true false same = grind (arith, nat_tests)
slots_same a b false true same = grind (arith, nat_tests)
slots_same a b false false same = grind (arith, nat_tests)

slot_by : (bus : ℕ) (up : Bool) → bus < 256 → cond up (2 * bus + 1) (2 * bus) < 512
slot_by bus true within = omega arith
slot_by bus false within = omega arith

pub slot_within : (lane : BridgeLane) → lane.bus < 256 → slot_of lane < 512
slot_within lane within = slot_by lane.bus lane.up within

index_set : (xs : List ℕ) (k n : ℕ) → k < length xs → slice_index (set xs k n) k ≡ n
index_set [] k n within = absurd (omega arith)
index_set (x ∷ xs) zero n within = refl
index_set (x ∷ xs) (suc k) n within = index_set xs k n (omega (arith, within))

index_other : (xs : List ℕ) (k m n : ℕ) → (k ≡ m → ⊥) → slice_index (set xs k n) m ≡ slice_index xs m
index_other [] k m n differ = refl
index_other (x ∷ xs) zero zero n differ = absurd (differ refl)
index_other (x ∷ xs) zero (suc m) n differ = refl
index_other (x ∷ xs) (suc k) zero n differ = refl
index_other (x ∷ xs) (suc k) (suc m) n differ = index_other xs k m n (λ e. differ (ap suc e))

index_none : (n k : ℕ) → slice_index (replicate n 0) k ≡ 0
index_none zero k = refl
index_none (suc n) zero = refl
index_none (suc n) (suc k) = index_none n k

length_none : (n : ℕ) → length {A = ℕ} (replicate n 0) ≡ n
length_none zero = refl
length_none (suc n) = ap suc (length_none n)

-- no item
pub most_none : (tracks : List ℕ) → tracks ≡ replicate 512 0 → IsMost [] tracks
most_none tracks is = record {
  all = ap (λ (l : List ℕ). length l) is ∙ length_none 512;
  each = λ lane within. ap (λ (l : List ℕ). slice_index l (slot_of lane)) is ∙ index_none 512 (slot_of lane);
}

-- at a lane, where the item stood
stood_more : (items : List Journey) (item : Journey) (tracks : List ℕ) → item.lane.bus < 256 → IsMost items tracks → has_stood item ≡ true → (lane : BridgeLane) → lane.bus < 256
    → slice_index (set tracks (slot_of item.lane) (max (slice_index tracks (slot_of item.lane)) (plus item.track 1))) (slot_of lane) ≡ most (items ++ item ∷ []) lane
stood_more items item tracks on most_is so lane within =
    let s : ℕ = slot_of item.lane in
    let n : ℕ = max (slice_index tracks s) (plus item.track 1) in
    let there : s < length tracks = omega (arith, slot_within item.lane on, most_is.all) in
    let pushed : most (items ++ item ∷ []) lane ≡ max (most items lane) (cond (same_lane item.lane lane) (plus item.track 1) 0) =
    greatest_push (tracks_used lane) items item ∙ ap (λ b. max (most items lane) (cond (b && same_lane item.lane lane) (plus item.track 1) 0)) so in
    let P : Bool → Type 0 = λ b. same_lane item.lane lane ≡ b → slice_index (set tracks s n) (slot_of lane) ≡ max (most items lane) (cond b (plus item.track 1) 0) in
    let by_lane : slice_index (set tracks s n) (slot_of lane) ≡ max (most items lane) (cond (same_lane item.lane lane) (plus item.track 1) 0) =
    (elim (same_lane item.lane lane) as P [
      | true ↦ λ same.
          let slots : s ≡ slot_of lane = slots_same item.lane.bus lane.bus item.lane.up lane.up same in
          ap (λ k. slice_index (set tracks s n) k) (sym slots) ∙ index_set tracks s n there ∙ ap (λ k. max (slice_index tracks k) (plus item.track 1)) slots ∙ ap (λ k. max k (plus item.track 1)) (most_is.each lane within)
      | false ↦ λ other.
          index_other tracks s (slot_of lane) n (slots_by item.lane.bus lane.bus item.lane.up lane.up other) ∙ most_is.each lane within ∙ sym (max_zero (most items lane))
    ]) refl in
    by_lane ∙ sym pushed

-- one item more
pub most_more : (items : List Journey) (item : Journey) (tracks : List ℕ) → item.lane.bus < 256 → IsMost items tracks → IsMost (items ++ item ∷ []) (with_item item tracks)
most_more items item tracks on most_is =
    let P : Bool → Type 0 = λ b. has_stood item ≡ b → IsMost (items ++ item ∷ []) (cond b (set tracks (slot_of item.lane) (max (slice_index tracks (slot_of item.lane)) (plus item.track 1))) tracks) in
    (elim (has_stood item) as P [
      | false ↦ λ not_so. record {
        all = most_is.all;
        each = λ lane within.
            most_is.each lane within ∙ sym (greatest_push (tracks_used lane) items item ∙ ap (λ b. max (most items lane) (cond (b && same_lane item.lane lane) (plus item.track 1) 0)) not_so ∙ max_zero (most items lane));
      }
      | true ↦ λ so. record {
        all = length-set tracks (slot_of item.lane) (max (slice_index tracks (slot_of item.lane)) (plus item.track 1)) ∙ most_is.all;
        each = λ lane within. stood_more items item tracks on most_is so lane within;
      }
    ]) refl
