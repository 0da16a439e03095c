-- Things are the same where their parts are.
use Rattle.std.proofs.Common.{◌≡◌, ℕ, ◌≤◌, Bool, Option}
use Rattle.pci_command.specs.declared.command.Space.{Space}
use Rattle.board_model.specs.Limits.{most_posted}
use Rattle.board_model.specs.declared.agents.Range.{Range}
use Rattle.board_model.specs.declared.agents.Opening.{Opening}
use Rattle.board_model.specs.declared.bridge.Window.{Window}
use Rattle.board_model.specs.declared.bridge.Bridge.{Bridge}
use Rattle.observe_log.specs.SeenBoards.{IsRaised, SameNumbers, SameWindows}

pub window_from : (one other : Window) → one.base ≡ other.base → one.limit ≡ other.limit → one ≡ other
window_from one other base limit =
    let made : ℕ → ℕ → Window = λ b l. record { base = b; limit = l } in
    let same : made one.base one.limit ≡ made other.base other.limit = cc in
    same

pub range_from : (one other : Range) → one.space ≡ other.space → one.base ≡ other.base → one.size ≡ other.size → one ≡ other
range_from one other space base size =
    let made : Space → ℕ → ℕ → Range = λ s b z. record { space = s; base = b; size = z } in
    let same : made one.space one.base one.size ≡ made other.space other.base other.size = cc in
    same

pub opening_from : (one other : Opening) → one.space ≡ other.space → one.address ≡ other.address → one.value ≡ other.value → one ≡ other
opening_from one other space address value =
    let made : Space → ℕ → ℕ → Opening = λ s a v. record { space = s; address = a; value = v } in
    let same : made one.space one.address one.value ≡ made other.space other.address other.value = cc in
    same

pub raised_from : (seen raised : Bridge) → SameNumbers seen raised → SameWindows seen raised → seen.posted ≤ raised.posted → raised.posted ≤ most_posted → IsRaised seen raised
raised_from seen raised numbers windows more most = record {
  same =
      let made : ℕ → ℕ → ℕ → ℕ → Option Window → Option Window → Option Window → ℕ → ℕ → Bool → Bridge =
      λ bus parent device last mem pref io posted delayed mode.
      record { bus = bus; parent = parent; device = device; last = last; mem = mem; pref = pref; io = io; posted = posted; delayed = delayed; mode = mode } in
      let bus : raised.bus ≡ seen.bus = numbers.bus in
      let parent : raised.parent ≡ seen.parent = numbers.parent in
      let device : raised.device ≡ seen.device = numbers.device in
      let last : raised.last ≡ seen.last = numbers.last in
      let delayed : raised.delayed ≡ seen.delayed = numbers.delayed in
      let mode : raised.mode ≡ seen.mode = numbers.mode in
      let mem : raised.mem ≡ seen.mem = windows.mem in
      let pref : raised.pref ≡ seen.pref = windows.pref in
      let io : raised.io ≡ seen.io = windows.io in
      let same : made raised.bus raised.parent raised.device raised.last raised.mem raised.pref raised.io raised.posted raised.delayed raised.mode
      ≡ made seen.bus seen.parent seen.device seen.last seen.mem seen.pref seen.io raised.posted seen.delayed seen.mode = cc in
      same;
  more = more;
  most = most;
}
