-- Equal requests among those that stand.
use Rattle.std.proofs.Common.{◌≡◌, ℕ, ◌+◌, ◌<◌, List, length, get_or, take, drop, Some, refl, sym, ap, ◌∙◌, inl, inr, arith}
use Rattle.std.specs.List.{Any}
use Rattle.std.specs.Option.{option_map}
use Rattle.std.proofs.lemmas.List.{get_or-take, get_or-drop, length-take-le}
use Rattle.std.proofs.lemmas.Option.{slice_get-get_or, slice_get_cases, slice_get_read, same_Some}
use Rattle.pci_command.specs.declared.request.Request.{Request}
use Rattle.lane_items.specs.declared.requests.ask_table.Ask.{Ask}
use Rattle.lane_items.specs.requests.Asks.{request_at, HasOlderEqual}

-- the request at a place is that of the first of those from there on
pub request_at-drop : (asks : List Ask) (place : ℕ) (none : Ask) → place < length asks → request_at asks place ≡ Some (get_or (drop place asks) 0 none).request
request_at-drop asks place none within =
    let same : place + 0 ≡ place = omega arith in
    rw (get_or-drop place asks 0 none, same, slice_get-get_or asks place none within) refl

-- where one before a place has the request at it, that one is older and equal
pub HasOlderEqual-from_Any : (asks : List Ask) (place : ℕ) (request : Request) → place < length asks → request_at asks place ≡ Some request → Any (λ older. older.request ≡ request) (take place asks) → HasOlderEqual asks place
HasOlderEqual-from_Any asks place request within here (at, older, before, there, same) =
    let front = length-take-le place asks (omega arith) in
    let below : at < place = omega arith in
    let found : older ≡ get_or asks at older = sym (sym (get_or-take place asks at older below) ∙ there) in
    let read = slice_get_read asks (length asks) at older refl (omega arith) found in
    (at, below, ap (option_map (λ ask. ask.request)) read ∙ ap Some same ∙ sym here)

-- and the other way round
pub Any-from_HasOlderEqual : (asks : List Ask) (place : ℕ) (request : Request) → place < length asks → request_at asks place ≡ Some request → HasOlderEqual asks place → Any (λ older. older.request ≡ request) (take place asks)
Any-from_HasOlderEqual asks place request within here (at, below, same) =
    let front = length-take-le place asks (omega arith) in
    elim (slice_get_cases asks at).1 [
      | inl w ↦ (
        at,
        w.0,
        omega arith,
        get_or-take place asks at w.0 below ∙ w.3,
        same_Some w.0.request request (sym (ap (option_map (λ ask. ask.request)) w.2) ∙ same ∙ here),
      )
      | inr w ↦ absurd (omega arith)
    ]
