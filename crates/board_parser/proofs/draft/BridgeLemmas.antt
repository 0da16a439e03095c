-- A bridge that is added is well formed.
use Rattle.std.proofs.Common.{◌≡◌, ℕ, ◌^◌, true, false, not, refl}
use Rattle.std.specs.Prelude.{Option, Some, None}
use Rattle.std.proofs.lemmas.Bool.{and_parts, and_from, not-false}
use Rattle.board_model.specs.declared.bridge.Window.{Window}
use Rattle.board_model.specs.declared.bridge.Bridge.{Bridge}
use Rattle.board_model.specs.WellFormed.{is_window, is_well_formed_bridge}
use Rattle.board_parser.specs.draft.Bridges.{is_whole, are_windows_whole, is_ordered, are_windows_ordered}
use Rattle.board_parser.specs.draft.Formed.{ends_within, is_formed_bridge}

window_by : (unit end : ℕ) (window : Option Window) → is_whole unit window ≡ true → is_ordered window ≡ true → ends_within end window ≡ true → is_window unit end window ≡ true
window_by unit end None whole ordered within = refl
window_by unit end (Some window) whole ordered within =
    let parts = and_parts _ _ whole in
    and_from _ _ (and_from _ _ (and_from _ _ ordered parts.0) parts.1) within

pub bridge_formed : (bridge : Bridge) → is_formed_bridge bridge ≡ true → not (are_windows_whole bridge) ≡ false → not (are_windows_ordered bridge) ≡ false → is_well_formed_bridge bridge ≡ true
bridge_formed bridge formed unaligned unordered =
    let f6 = and_parts _ _ formed in
    let f5 = and_parts _ _ f6.0 in
    let f4 = and_parts _ _ f5.0 in
    let w2 = and_parts _ _ (not-false _ unaligned) in
    let w1 = and_parts _ _ w2.0 in
    let o2 = and_parts _ _ (not-false _ unordered) in
    let o1 = and_parts _ _ o2.0 in
    and_from _ _
    (and_from _ _
    (and_from _ _ f4.0 (window_by (2 ^ 20) (2 ^ 32) bridge.mem w1.0 o1.0 f4.1))
    (window_by (2 ^ 20) (2 ^ 64) bridge.pref w1.1 o1.1 f5.1))
    (window_by (2 ^ 12) (2 ^ 32) bridge.io w2.1 o2.1 f6.1)
