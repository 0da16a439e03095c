-- What is on a lane or landed names an operation that began.
use Rattle.std.proofs.Common.{◌≡◌, ℕ, true, List, [], ◌∷◌}
use Rattle.std.specs.List.{AllByRecursion}
use Rattle.pci_command.specs.declared.op_id.OpId.{OpId}
use Rattle.board_model.specs.declared.board.Board.{Board}
use Rattle.board_model.specs.Ways.{Dword}
use Rattle.history_model.specs.declared.event.By.{By}
use Rattle.history_model.specs.declared.event.By.TheVariants.{Master, Lane as ByLane}
use Rattle.history_model.specs.declared.event.Event.{Event}
use Rattle.history_model.specs.declared.event.Event.TheVariants.{Act, Arrive}
use Rattle.history_model.specs.declared.item.Carried.{Carried}
use Rattle.history_model.specs.declared.rule.Rule.{Rule}
use Rattle.history_model.specs.Words.{Landing, landed}
use Rattle.history_model.specs.Runs.{RunBy}
use Rattle.history_model.specs.Answers.{wants_by}
use Rattle.history_model.specs.World.{world_by}
use Rattle.law_fresh.proofs.BehindLemmas.{Begun, Begun-turn, Begun-kept}
use Rattle.law_fresh.proofs.MoveLemmas.{WorldHas}
use Rattle.law_fresh.proofs.NamedLemmas.{Names, Entry, lane_named, items_after, landings_after}
use Rattle.history_model.proofs.facts.WantsLemmas.{wants-turn}

-- the item names an operation that began
abbrev pub ItemBegun : Board → List Event → Carried → Type 0
ItemBegun board h = Names (Begun board h)

-- who presents an operation began it
begun_entry : (rule : Rule) (board : Board) (e : Event) (h : List Event) → RunBy rule board (e ∷ h) → Entry (Begun board (e ∷ h)) e
begun_entry rule board (Act on Master o step place) h run = Begun-kept rule board (Act on Master o step place) h o run (Begun-turn board h o (wants-turn board h on o run.0.0))
begun_entry rule board (Act on (ByLane k) o step place) h run = tt
begun_entry rule board (Arrive lane mark) h run = tt

-- every item on a lane names an operation that began
pub ItemsBegun-run : (rule : Rule) (board : Board) (h : List Event) → RunBy rule board h → WorldHas (ItemBegun board h) (world_by rule board h)
ItemsBegun-run rule board [] run = λ lane. (tt, tt)
ItemsBegun-run rule board (e ∷ h) run =
    items_after rule board h (Begun board h) (Begun board (e ∷ h)) (λ q old. Begun-kept rule board e h q run old) (ItemsBegun-run rule board h run.1) e run (begun_entry rule board e h run)

-- so does what presents one
pub Begun-wanted : (rule : Rule) (board : Board) (h : List Event) (on : ℕ) (by : By) (o : OpId) → RunBy rule board h → wants_by rule board h on by o ≡ true → Begun board h o
Begun-wanted rule board h on Master o run wanted = Begun-turn board h o (wants-turn board h on o wanted)
Begun-wanted rule board h on (ByLane k) o run wanted = lane_named rule board h (Begun board h) (ItemsBegun-run rule board h run) on k o wanted

abbrev pub LandingBegun : Board → List Event → Landing → Type 0
LandingBegun board h = λ (landing : Landing). Begun board h landing.op

-- every write of which a data phase landed began
pub LandingsBegun-run : (rule : Rule) (board : Board) (h : List Event) (word : Dword) → RunBy rule board h → AllByRecursion (LandingBegun board h) (landed board h word)
LandingsBegun-run rule board [] word run = tt
LandingsBegun-run rule board (e ∷ h) word run =
    landings_after rule board h (Begun board h) (Begun board (e ∷ h)) (λ q old. Begun-kept rule board e h q run old) (ItemsBegun-run rule board h run.1) e word run (begun_entry rule board e h run)
    (LandingsBegun-run rule board h word run.1)
