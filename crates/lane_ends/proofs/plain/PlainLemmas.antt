-- A lane whose near end keeps all that it sends until it is settled.
use Rattle.std.proofs.Common.{◌≡◌, ℕ, ◌+◌, ◌-◌, ◌≤◌, List, [], ◌++◌, length, take, drop, ap, sym, ◌∙◌, arith, append-nil, append_assoc, length-append}
use Rattle.std.proofs.Math.Seq.{drop-append_seam}
use Rattle.lane_items.specs.declared.item.Item.{Item}
use Rattle.lane_items.specs.Lane.{in_hand, GotInOrder, Crosses, passed_on, kept_back, left_count}

no_less : (sent : List Item) → length sent - length sent ≡ 0
no_less sent = omega arith

passed_on-all : (sent : List Item) → passed_on sent (length sent) ≡ []
passed_on-all sent = ap (λ (n : ℕ). take n sent) (no_less sent)

kept_back-all : (sent : List Item) → kept_back sent (length sent) ≡ sent
kept_back-all sent = ap (λ (n : ℕ). drop n sent) (no_less sent)

-- what is in hand
pub plain_hand : (got hand : List Item) → in_hand (got ++ hand) got ≡ hand
plain_hand got hand = drop-append_seam got hand

pub plain_front : (got hand : List Item) → got ++ in_hand (got ++ hand) got ≡ got ++ hand
plain_front got hand = ap (λ (rest : List Item). got ++ rest) (plain_hand got hand)

-- what was got came in order, as it was in hand
pub plain_in_order : (got hand sent : List Item) → GotInOrder (got ++ hand) got sent (length sent)
plain_in_order got hand sent =
    (hand, sym (append-nil (got ++ hand)) ∙ ap (λ behind. (got ++ hand) ++ behind) (sym (passed_on-all sent)))

-- what is left is in hand or was sent
plain_left : (got hand sent : List Item) → left_count (got ++ hand) got sent ≡ length hand + length sent
plain_left got hand sent = omega (arith, length-append got hand)

-- what is left of both lanes has room in hand
pub plain_fits : (got_a hand_a sent_a got_b hand_b sent_b : List Item) →
    (GotInOrder (got_b ++ hand_b) got_b sent_a (length sent_a) → GotInOrder (got_a ++ hand_a) got_a sent_b (length sent_b) →
    (left_count (got_b ++ hand_b) got_b sent_a ≤ 32) × (left_count (got_a ++ hand_a) got_a sent_b ≤ 32)) →
    (length hand_b + length sent_a ≤ 32) × (length hand_a + length sent_b ≤ 32)
plain_fits got_a hand_a sent_a got_b hand_b sent_b fits =
    let both = fits (plain_in_order got_b hand_b sent_a) (plain_in_order got_a hand_a sent_b) in
    (omega (arith, both.0, plain_left got_b hand_b sent_a), omega (arith, both.1, plain_left got_a hand_a sent_b))

-- what was sent comes behind what is in hand
pub plain_crosses : (got hand sent new : List Item) → new ≡ hand ++ sent → Crosses (got ++ hand) got sent (length sent) new
plain_crosses got hand sent new is =
    record {
      in_order = ap (λ items. got ++ items) is ∙ sym (append_assoc got hand sent);
      kept_crossed = (hand, is ∙ ap (λ back. hand ++ back) (sym (kept_back-all sent)));
    }
