-- The credits after each move, and in every run.
use Rattle.std.proofs.Common.{◌≡◌, ℕ, ◌+◌, Bool, true, false, List, [], ◌∷◌, Option, Some, None, refl, ap, arith}
use Rattle.std.specs.List.{find}
use Rattle.list_facts.specs.Lists.{total}
use Rattle.list_facts.proofs.TotalLemmas.{found, total-less, total-append, total-push}
use Rattle.list_facts.proofs.FindLemmas.{find_passes}
use Rattle.pci_command.specs.declared.op_id.OpId.{OpId}
use Rattle.pci_command.specs.declared.op_id.Outcome.{Outcome}
use Rattle.history_model.specs.declared.event.By.{By}
use Rattle.history_model.specs.declared.event.Mark.{Mark}
use Rattle.history_model.specs.declared.item.Carried.{Carried}
use Rattle.history_model.specs.declared.item.Carried.TheVariants.{Post, Ask, Done, Room, Gone}
use Rattle.board_model.specs.declared.bridge.Lane.{Lane as BridgeLane}
use Rattle.board_model.specs.declared.board.Board.{Board}
use Rattle.history_model.specs.declared.event.Event.{Event}
use Rattle.history_model.specs.declared.rule.Rule.{Rule}
use Rattle.history_model.specs.declared.rule.Rule.TheVariants.{Tagged}
use Rattle.history_model.specs.World.{both, world_of, noted, world_by}
use Rattle.history_model.specs.Runs.{RunBy, Run}
use Rattle.history_model.specs.Lanes.{Both, lowest_free, is_of, is_done_for, reply_to, post_enters, ask_enters, item_ends, slot_taken, Effect, Stands, Credits as CreditsBack, Frees, Drops, effect_of, takes_effect, came_off, arrives_first}
use Rattle.law_lanes.specs.Credits.{post_count, room_count, Credits}
use Rattle.law_lanes.specs.Standing.{CanStand}
use Rattle.history_model.proofs.facts.BridgeLemmas.{flip}
use Rattle.law_lanes.proofs.EffectLemmas.{IsRoom, IsLastOf, IsAskOf, Fits, effect_fits}
use Rattle.history_model.proofs.facts.KeptLemmas.{KeptBy, runs_keep_by}

-- a credit goes back for a posted write, and nothing that is posted goes back
reply-room_count : (outcome : Outcome) (item : Option Carried) → total room_count (reply_to outcome item) ≡ found post_count item
reply-room_count outcome None = refl
reply-room_count outcome (Some (Post op)) = refl
reply-room_count outcome (Some (Ask op slot)) = refl
reply-room_count outcome (Some (Done op slot given)) = refl
reply-room_count outcome (Some Room) = refl
reply-room_count outcome (Some (Gone slot)) = refl

reply-post_count : (outcome : Outcome) (item : Option Carried) → total post_count (reply_to outcome item) ≡ 0
reply-post_count outcome None = refl
reply-post_count outcome (Some (Post op)) = refl
reply-post_count outcome (Some (Ask op slot)) = refl
reply-post_count outcome (Some (Done op slot given)) = refl
reply-post_count outcome (Some Room) = refl
reply-post_count outcome (Some (Gone slot)) = refl

done_for-post_count : (number : ℕ) (item : Option Carried) → ((y : Carried) → item ≡ Some y → is_done_for number y ≡ true) → found post_count item ≡ 0
done_for-post_count number None passes = refl
done_for-post_count number (Some (Post op)) passes = let e : false ≡ true = passes (Post op) refl in cc
done_for-post_count number (Some (Ask op slot)) passes = refl
done_for-post_count number (Some (Done op slot outcome)) passes = refl
done_for-post_count number (Some Room) passes = refl
done_for-post_count number (Some (Gone slot)) passes = refl

-- by what they do when they arrive
stands-room_count : (item : Carried) → CanStand item → room_count item ≡ 0
stands-room_count (Post op) fits = refl
stands-room_count (Ask op slot) fits = refl
stands-room_count (Done op slot outcome) fits = refl
stands-room_count Room fits = absurd fits
stands-room_count (Gone slot) fits = refl

room-counts : (item : Carried) → IsRoom item → (post_count item ≡ 0) × (room_count item ≡ 1)
room-counts (Post op) fits = absurd fits
room-counts (Ask op slot) fits = absurd fits
room-counts (Done op slot outcome) fits = absurd fits
room-counts Room fits = (refl, refl)
room-counts (Gone slot) fits = absurd fits

last-counts : (number : ℕ) (item : Carried) → IsLastOf number item → (post_count item ≡ 0) × (room_count item ≡ 0)
last-counts number (Post op) fits = absurd fits
last-counts number (Ask op slot) fits = absurd fits
last-counts number (Done op slot outcome) fits = (refl, refl)
last-counts number Room fits = absurd fits
last-counts number (Gone slot) fits = (refl, refl)

ask-counts : (number : ℕ) (item : Carried) → IsAskOf number item → (post_count item ≡ 0) × (room_count item ≡ 0)
ask-counts number (Post op) fits = absurd fits
ask-counts number (Ask op slot) fits = (refl, refl)
ask-counts number (Done op slot outcome) fits = absurd fits
ask-counts number Room fits = absurd fits
ask-counts number (Gone slot) fits = absurd fits

Credits-post_enters : (o : OpId) (x : Both) → Credits x × Credits (flip x) → Credits (post_enters o x) × Credits (flip (post_enters o x))
Credits-post_enters o x old = (
  record { owed = omega (arith, old.0.owed, total-push post_count x.here.flight (Post o)) },
  record { owed = omega (arith, old.1.owed, total-push room_count x.here.flight (Post o)) },
)

Credits-ask_enters : (by : By) (o : OpId) (x : Both) → Credits x × Credits (flip x) → Credits (ask_enters by o x) × Credits (flip (ask_enters by o x))
Credits-ask_enters by o x old =
    let ask : Carried = Ask o (lowest_free x.here.held) in (
      record { owed = omega (arith, old.0.owed, total-push post_count x.here.flight ask) },
      record { owed = omega (arith, old.1.owed, total-push room_count x.here.flight ask) },
    )

Credits-item_ends : (o : OpId) (outcome : Outcome) (x : Both) → Credits x × Credits (flip x) → Credits (item_ends o outcome x) × Credits (flip (item_ends o outcome x))
Credits-item_ends o outcome x old =
    let item : Option Carried = find (is_of o) x.here.standing in
    let reply : List Carried = reply_to outcome item in (
      record { owed = omega (arith, old.0.owed, total-less post_count (is_of o) x.here.standing, total-append room_count x.back.flight reply, reply-room_count outcome item) },
      record { owed = omega (arith, old.1.owed, total-append post_count x.back.flight reply, reply-post_count outcome item) },
    )

Credits-slot_taken : (number : ℕ) (x : Both) → Credits x × Credits (flip x) → Credits (slot_taken number x) × Credits (flip (slot_taken number x))
Credits-slot_taken number x old =
    let test : Carried → Bool = is_done_for number in
    let none = done_for-post_count number (find test x.back.standing) (λ y some. find_passes test x.back.standing y some) in
    (record { owed = old.0.owed }, record { owed = omega (arith, old.1.owed, total-less post_count test x.back.standing) })

-- after the oldest item in flight came off
effect-keeps : (effect : Effect) (item : Carried) (x : Both) → Fits effect item
    → x.here.owed ≡ total post_count x.here.flight + total post_count x.here.standing + total room_count x.back.flight + post_count item
    → x.back.owed ≡ total post_count x.back.flight + total post_count x.back.standing + total room_count x.here.flight + room_count item
    → Credits (takes_effect effect item x) × Credits (flip (takes_effect effect item x))
effect-keeps Stands item x fits here back =
    (record { owed = omega (arith, total-push post_count x.here.standing item) }, record { owed = omega (arith, stands-room_count item fits) })
effect-keeps CreditsBack item x fits here back =
    let counts = room-counts item fits in
    (record { owed = omega arith }, record { owed = omega arith })
effect-keeps (Frees slot) item x fits here back =
    let counts = last-counts slot item fits in
    (record { owed = omega arith }, record { owed = omega arith })
effect-keeps (Drops slot) item x fits here back =
    let counts = ask-counts slot item fits in
    (record { owed = omega (arith, total-push room_count x.back.flight (Gone slot)) }, record { owed = omega (arith, total-push post_count x.back.flight (Gone slot)) })

arrives_first-keeps : (mark : Mark) (flight : List Carried) (x : Both) → x.here.flight ≡ flight → Credits x × Credits (flip x) → Credits (arrives_first mark flight x) × Credits (flip (arrives_first mark flight x))
arrives_first-keeps mark [] x same old = old
arrives_first-keeps mark (item ∷ rest) x same old =
    let posts = ap (total post_count) same in
    let rooms = ap (total room_count) same in
    effect-keeps (effect_of mark item) item (record x { here = came_off item rest x.here }) (effect_fits mark item) (omega (arith, old.0.owed)) (omega (arith, old.1.owed))

Credits-kept : (rule : Rule) (board : Board) → KeptBy rule board (λ lane x. Credits x)
Credits-kept rule board =
    record {
      empty = λ lane. record { owed = refl };
      accepts = λ h on by o lane _ _ _ old. Credits-post_enters o (both (world_by rule board h) lane) old;
      latches = λ h on by o lane _ _ _ old. Credits-ask_enters (noted rule by) o (both (world_by rule board h) lane) old;
      takes = λ lane number op slot outcome x stands old. Credits-slot_taken number x old;
      ends = λ lane o outcome x old. Credits-item_ends o outcome x old;
      comes = λ lane mark x old. arrives_first-keeps mark x.here.flight x refl old;
    }

pub Credits-run_by : (rule : Rule) (board : Board) (h : List Event) (lane : BridgeLane) → RunBy rule board h → Credits (both (world_by rule board h) lane)
Credits-run_by rule board h lane run = runs_keep_by rule board (λ lane x. Credits x) (Credits-kept rule board) h run lane

pub Credits-run : (board : Board) (h : List Event) (lane : BridgeLane) → Run board h → Credits (both (world_of board h) lane)
Credits-run board h lane run = Credits-run_by Tagged board h lane run
