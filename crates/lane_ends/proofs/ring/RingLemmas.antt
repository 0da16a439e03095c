-- A lane over a ring: lists of what was in hand, pushed, popped, known to be in the ring, and waiting.
use Rattle.std.proofs.Common.{◌≡◌, ℕ, zero, suc, ◌+◌, ◌-◌, ◌<◌, ◌≤◌, List, [], ◌∷◌, ◌++◌, length, take, drop, ap, sym, ◌∙◌, arith, append_assoc, length-append}
use Rattle.std.proofs.lemmas.List.{append_cancel_left}
use Rattle.std.proofs.Math.Seq.{take-append_seam, drop-append_seam, drop-length}
use Rattle.std.proofs.Common.{Global}
use Rattle.arrayvec.specs.ArrayVec.{ArrayVec}
use Rattle.rtrb.specs.declared.AnyItems.{AnyItems}
use Rattle.rtrb.specs.declared.consumer.Consumer.{Consumer}
use Rattle.rtrb.specs.Ring.{sent, received, known_items, SameConsumer}
use Rattle.lane_ends.specs.declared.ring.outward.Outward.{Outward}
use Rattle.lane_ends.specs.declared.ring.inward.Inward.{Inward}
use Rattle.lane_ends.specs.ring.Ends.{sent_out, got_in, AreOneLane, KnowsAll, Looked}
use Rattle.lane_items.specs.declared.item.Item.{Item}
use Rattle.lane_items.specs.Lane.{GotInOrder, Crosses, passed_on, kept_back, left_count}

module _ {A : Type 0} where
  -- one more popped of what was known
  pub next_known : (k : ℕ) (all left : List A) (x : A) → drop k all ≡ x ∷ left → (drop (suc k) all ≡ left) × (take (suc k) all ≡ take k all ++ x ∷ [])
  next_known zero [] left x e = absurd (cc)
  next_known zero (y ∷ ys) left x e = let a : y ≡ x = cc in let b : ys ≡ left = cc in (b, ap (λ (z : A). z ∷ []) a)
  next_known (suc k) [] left x e = absurd (cc)
  next_known (suc k) (y ∷ ys) left x e =
      let rest = next_known k ys left x e in (rest.0, ap (λ (zs : List A). y ∷ zs) rest.1)

  -- what was popped in the phase and what is known is what was pushed in the phase
  pub of_phase : (received_before popped known sent_before pushed received sent : List A) →
      received ≡ received_before ++ popped → sent ≡ sent_before ++ pushed → sent_before ≡ received_before →
      received ++ known ≡ sent → popped ++ known ≡ pushed
  of_phase received_before popped known sent_before pushed received sent r s same all =
      append_cancel_left received_before (popped ++ known) pushed
      (sym (append_assoc received_before popped known) ∙ ap (λ (xs : List A). xs ++ known) (sym r) ∙ all ∙ s ∙ ap (λ (xs : List A). xs ++ pushed) same)

  -- nothing is popped as long as the hand is not empty, so what was got and what is left come in the order of the lane
  pub in_lane : (had pushed popped known : List A) (taken : ℕ) → taken ≤ length had → (taken < length had → popped ≡ []) → popped ++ known ≡ pushed →
      (take taken had ++ popped) ++ (drop taken had ++ known) ≡ had ++ pushed
  in_lane [] pushed popped known zero in_hand first all = all
  in_lane [] pushed popped known (suc k) in_hand first all = absurd (omega arith)
  in_lane (y ∷ ys) pushed popped known zero in_hand first all =
      let none : popped ≡ [] = first (omega arith) in
      let same : known ≡ pushed = ap (λ (xs : List A). xs ++ known) (sym none) ∙ all in
      ap (λ (xs : List A). xs ++ (y ∷ (ys ++ known))) none ∙ ap (λ (xs : List A). y ∷ (ys ++ xs)) same
  in_lane (y ∷ ys) pushed popped known (suc k) in_hand first all =
      ap (λ (xs : List A). y ∷ xs) (in_lane ys pushed popped known k (omega arith) (λ more. first (omega arith)) all)

-- the last items of a list of two parts, and what stands before them
passed_on-parts : (pushed waiting : List Item) → passed_on (pushed ++ waiting) (length waiting) ≡ pushed
passed_on-parts pushed waiting =
    let n : length (pushed ++ waiting) - length waiting ≡ length pushed = omega (arith, length-append pushed waiting) in
    ap (λ (k : ℕ). take k (pushed ++ waiting)) n ∙ take-append_seam pushed waiting

kept_back-parts : (pushed waiting : List Item) → kept_back (pushed ++ waiting) (length waiting) ≡ waiting
kept_back-parts pushed waiting =
    let n : length (pushed ++ waiting) - length waiting ≡ length pushed = omega (arith, length-append pushed waiting) in
    ap (λ (k : ℕ). drop k (pushed ++ waiting)) n ∙ drop-append_seam pushed waiting

-- the lane brought its items in order
pub ring_in_order : (had got left pushed waiting : List Item) → got ++ left ≡ had ++ pushed → GotInOrder had got (pushed ++ waiting) (length waiting)
ring_in_order had got left pushed waiting all =
    (left, all ∙ ap (λ (xs : List Item). had ++ xs) (sym (passed_on-parts pushed waiting)))

-- how many items are left
pub ring_left : (had got left pushed waiting : List Item) → got ++ left ≡ had ++ pushed → left_count had got (pushed ++ waiting) ≡ length left + length waiting
ring_left had got left pushed waiting all =
    omega (arith, length-append got left, length-append had pushed, length-append pushed waiting, ap length all)

-- what is left comes into hand, and behind it what waits
pub ring_crosses : (had got left pushed waiting hand : List Item) → got ++ left ≡ had ++ pushed → hand ≡ left ++ waiting →
    Crosses had got (pushed ++ waiting) (length waiting) hand
ring_crosses had got left pushed waiting hand all is =
    record {
      in_order = ap (λ (xs : List Item). got ++ xs) is ∙ sym (append_assoc got left waiting) ∙ ap (λ (xs : List Item). xs ++ waiting) all ∙ append_assoc had pushed waiting;
      kept_crossed = (left, is ∙ ap (λ (xs : List Item). left ++ xs) (sym (kept_back-parts pushed waiting)));
    }

pub same_consumer : (a b c : Consumer Item Global AnyItems) → SameConsumer a b → SameConsumer b c → SameConsumer a c
same_consumer a b c first then =
    ((then.0.0 ∙ first.0.0, then.0.1 ∙ first.0.1, then.0.2 ∙ first.0.2, then.0.3 ∙ first.0.3), then.1 ∙ first.1)

-- what the lane of a ring brings, by the facts that its two ends keep
pub lane_lists : (near : Outward) (far : Inward) → AreOneLane near far → KnowsAll near far →
    got_in far ++ (drop far.taken far.hand.items ++ known_items far.ring) ≡ far.hand.items ++ drop (length (sent near.begun.value)) (sent near.ring)
lane_lists near far lane all =
    let popped = drop (length (received far.begun.value)) (received far.ring) in
    let pushed = drop (length (sent near.begun.value)) (sent near.ring) in
    let phase : popped ++ known_items far.ring ≡ pushed =
    of_phase (received far.begun.value) popped (known_items far.ring) (sent near.begun.value) pushed (received far.ring) (sent near.ring) far.grew near.grew lane.1 all
    in
    in_lane far.hand.items pushed popped (known_items far.ring) far.taken far.in_hand
    (λ more. ap (λ (xs : List Item). drop (length (received far.begun.value)) xs) (far.hand_first more) ∙ drop-length (received far.begun.value)) phase

pub lane_in_order : (near : Outward) (far : Inward) → AreOneLane near far → KnowsAll near far →
    GotInOrder far.hand.items (got_in far) (sent_out near) (length near.waiting.items)
lane_in_order near far lane all =
    ring_in_order far.hand.items (got_in far) (drop far.taken far.hand.items ++ known_items far.ring) (drop (length (sent near.begun.value)) (sent near.ring)) near.waiting.items (lane_lists near far lane all)

pub lane_left : (near : Outward) (far : Inward) → AreOneLane near far → KnowsAll near far →
    left_count far.hand.items (got_in far) (sent_out near) ≡ length (drop far.taken far.hand.items ++ known_items far.ring) + length near.waiting.items
lane_left near far lane all =
    ring_left far.hand.items (got_in far) (drop far.taken far.hand.items ++ known_items far.ring) (drop (length (sent near.begun.value)) (sent near.ring)) near.waiting.items (lane_lists near far lane all)

pub lane_crosses : (near : Outward) (far : Inward) (hand : List Item) → AreOneLane near far → KnowsAll near far →
    hand ≡ (drop far.taken far.hand.items ++ known_items far.ring) ++ near.waiting.items →
    Crosses far.hand.items (got_in far) (sent_out near) (length near.waiting.items) hand
lane_crosses near far hand lane all is =
    ring_crosses far.hand.items (got_in far) (drop far.taken far.hand.items ++ known_items far.ring) (drop (length (sent near.begun.value)) (sent near.ring)) near.waiting.items hand (lane_lists near far lane all) is

-- the same of the lane before it was looked at
pub looked_in_order : (near : Outward) (far : Inward) (near' : Outward) (far' : Inward) → Looked near far near' far' →
    GotInOrder far.hand.items (got_in far) (sent_out near) (length near.waiting.items)
looked_in_order near far near' far' look =
    let after = lane_in_order near' far' look.lane look.all in (
      after.0,
      ap (λ (xs : List Item). xs ++ after.0) (sym look.got) ∙ after.1
          ∙ ap (λ (h : ArrayVec Item). h.items ++ passed_on (sent_out near') (length near'.waiting.items)) look.hand
          ∙ ap (λ (xs : List Item). far.hand.items ++ passed_on xs (length near'.waiting.items)) look.sent
          ∙ ap (λ (w : ArrayVec Item). far.hand.items ++ passed_on (sent_out near) (length w.items)) look.waiting,
    )

pub looked_left : (near : Outward) (far : Inward) (near' : Outward) (far' : Inward) → Looked near far near' far' →
    left_count far'.hand.items (got_in far') (sent_out near') ≡ left_count far.hand.items (got_in far) (sent_out near)
looked_left near far near' far' look =
    ap (λ (h : ArrayVec Item). left_count h.items (got_in far') (sent_out near')) look.hand
    ∙ ap (λ (xs : List Item). left_count far.hand.items xs (sent_out near')) look.got
    ∙ ap (λ (xs : List Item). left_count far.hand.items (got_in far) xs) look.sent
