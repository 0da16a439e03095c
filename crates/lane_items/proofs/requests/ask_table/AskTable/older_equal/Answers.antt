use Rattle.std.proofs.Common.{◌≡◌, get_or, Some, ap}
use Rattle.lane_items.specs.requests.Asks.{request_at}
use Rattle.lane_items.proofs.requests.AskLemmas.{request_at-drop, HasOlderEqual-from_Any, Any-from_HasOlderEqual}
use Rattle.lane_items.proofs.requests.ask_table.AskTable.older_equal.Goals as goal

pub returns-clause-older : goal.returns-clause-older
returns-clause-older c =
    let asks = c.args.self.now.asks in
    let ask = c.index-others-0.result in
    let request = (get_or c.split_at.result.1.now 0 ask).request in
    let all : c.as_slice-asks.result.now ≡ asks = rw (c.as_slice-asks.ensures.value) (ap (λ t. t.asks) c.self.view_is) in
    let here : request_at asks c.args.place ≡ Some request =
    rw (c.split_at.ensures.back, all) (request_at-drop asks c.args.place ask c.requires) in
    let any = c.any_same.ensures in (
      λ found. HasOlderEqual-from_Any asks c.args.place request c.requires here (rw (← all, ← c.split_at.ensures.front) (any.0 found)),
      λ older. any.1 (rw (c.split_at.ensures.front, all) (Any-from_HasOlderEqual asks c.args.place request c.requires here older)),
    )
