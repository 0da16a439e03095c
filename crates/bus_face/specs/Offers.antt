-- What half a bridge presents on its bus, by its tables: by the ordering table a posted write goes before no older
-- posted write, a delayed request before no posted write, and of two equal ones the younger waits.
use Rattle.std.specs.Prelude.{◌≡◌, ℕ, ◌<◌, Bool, true, false, not, List, [], ◌∷◌, ◌++◌, length, drop, Option, Some, None, ◌&&◌, nat_lt, if◌then◌else◌}
use Rattle.std.specs.List.{list_any, remove}
use Rattle.list_facts.specs.Lists.{less}
use Rattle.pci_command.specs.declared.op_id.OpId.{OpId}
use Rattle.pci_command.specs.declared.op_id.Outcome.{Outcome}
use Rattle.pci_command.specs.declared.request.Request.{Request}
use Rattle.pci_command.specs.Same.{same_op, same_request}
use Rattle.history_model.specs.declared.item.Carried.{Carried}
use Rattle.history_model.specs.declared.item.Carried.TheVariants.{Post, Ask}
use Rattle.lane_items.specs.declared.item.Item.{Item}
use Rattle.lane_items.specs.declared.item.Item.TheVariants.{Done as DoneItem, Room as RoomItem}
use Rattle.lane_items.specs.declared.posts.posted_table.Post.{Post as PostEntry}
use Rattle.lane_items.specs.declared.requests.ask_table.Ask.{Ask as AskEntry}
use Rattle.bus_face.specs.declared.offer.Offer.{Offer}
use Rattle.bus_face.specs.State.{FaceState}

-- it came before the posted write that came first, or none stands
abbrev pub came_before : ℕ → List PostEntry → Bool
came_before arrival [] = true
came_before arrival (post ∷ later) = nat_lt arrival post.arrival

-- one of these has the same request
abbrev pub has_equal : Request → List AskEntry → Bool
has_equal request asks = list_any (λ other. same_request request other.request) asks

-- a delayed request goes before all that is older: these delayed requests, and no posted write
abbrev pub is_offered : List PostEntry → List AskEntry → AskEntry → Bool
is_offered posts older ask = came_before ask.arrival posts && not (has_equal ask.request older)

-- a delayed request as it is offered
abbrev pub ask_offer : AskEntry → Offer
ask_offer ask = record { op = ask.op; ask = true; slot = ask.slot }

-- an offer, where it is made
abbrev pub offer_where : Bool → Offer → List Offer
offer_where offered offer = if offered then offer ∷ [] else []

-- the delayed requests that are presented, behind these older ones
abbrev pub ask_offers : List PostEntry → List AskEntry → List AskEntry → List Offer
ask_offers posts older [] = []
ask_offers posts older (ask ∷ later) = offer_where (is_offered posts older ask) (ask_offer ask) ++ ask_offers posts (older ++ ask ∷ []) later

-- the posted write that came first
abbrev pub post_offers : List PostEntry → List Offer
post_offers [] = []
post_offers (post ∷ later) = record { op = post.op; ask = false; slot = 0 } ∷ []

-- all that is presented, in the order of arrival
abbrev pub offers_of : FaceState → List Offer
offers_of face = ask_offers face.posts.posts [] face.asks.asks ++ post_offers face.posts.posts

-- the item that is offered
abbrev pub offered_item : Offer → Carried
offered_item offer = if offer.ask then Ask offer.op offer.slot else Post offer.op

-- it is an offer of this operation
abbrev pub is_offer_of : OpId → Offer → Bool
is_offer_of o offer = same_op o offer.op

-- a delayed request of the operation
abbrev pub is_ask_for : OpId → AskEntry → Bool
is_ask_for o ask = same_op o ask.op

-- what is kept after the item that was offered ended
abbrev pub left_by : FaceState → Offer → FaceState
left_by face offer =
    if offer.ask
    then record face { asks = record (face.asks) { asks = less (is_ask_for offer.op) face.asks.asks } }
    else record face { posts = record (face.posts) { posts = drop 1 face.posts.posts } }

-- what goes back for it: the completion of a delayed request, a credit for a posted write
abbrev pub answered_with : Offer → Outcome → ℕ → Item
answered_with offer outcome stamp = if offer.ask then DoneItem offer.op offer.slot outcome stamp else RoomItem stamp

-- what is left without the first that passes, by its place
abbrev pub LessAt : {X : Type 0} → (X → Bool) → List X → Option ℕ → Type 0
LessAt test xs None = less test xs ≡ xs
LessAt test xs (Some place) = (place < length xs) × (less test xs ≡ remove xs place)
