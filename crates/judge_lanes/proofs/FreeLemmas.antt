-- The lowest free number, looked for from 0 on.
use Rattle.std.proofs.Common.{◌≡◌, ℕ, suc, ◌+◌, ◌-◌, ◌<◌, ◌≤◌, List, length, ap, arith, if◌then◌else◌}
use Rattle.std.specs.List.{list_any}
use Rattle.history_model.specs.declared.item.Slot.{Slot}
use Rattle.history_model.specs.Lanes.{has_number, lowest_free_from}

-- one more number is looked at
pub one_more : (held : List Slot) (index number : ℕ) → index < length held →
    lowest_free_from (length held - index) number held
    ≡ (if list_any (has_number number) held then lowest_free_from (length held - (index + 1)) (number + 1) held else number)
one_more held index number within =
    let left : length held - index ≡ suc (length held - (index + 1)) = omega arith in
    ap (λ (n : ℕ). lowest_free_from n number held) left

-- all are held
pub all_held : (held : List Slot) (index number : ℕ) → length held ≤ index → lowest_free_from (length held - index) number held ≡ number
all_held held index number past =
    let left : length held - index ≡ 0 = omega arith in
    ap (λ (n : ℕ). lowest_free_from n number held) left
