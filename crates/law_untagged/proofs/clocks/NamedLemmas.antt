-- What is on the lanes, and what landed, its master presented: what that knew then is noted, and stays.
use Rattle.std.proofs.Common.{◌≡◌, ℕ, Bool, true, false, ◌==◌, cond, List, [], ◌∷◌, Option, Some, None, is_some, refl, ap, subst, ◌∙◌}
use Rattle.std.specs.List.{AllByRecursion}
use Rattle.std.proofs.lemmas.Bool.{and_parts}
use Rattle.pci_command.specs.declared.op_id.OpId.{OpId}
use Rattle.pci_command.specs.Same.{same_op}
use Rattle.board_model.specs.declared.board.Board.{Board}
use Rattle.board_model.specs.Ways.{Dword}
use Rattle.history_model.specs.declared.event.By.TheVariants.{Master, Lane as ByLane}
use Rattle.history_model.specs.declared.event.Event.{Event}
use Rattle.history_model.specs.declared.event.Event.TheVariants.{Act, Arrive}
use Rattle.history_model.specs.declared.rule.Rule.TheVariants.{Untagged}
use Rattle.history_model.specs.Knowledge.{is_land_of, is_land_step, has_landed}
use Rattle.history_model.specs.World.{world_by}
use Rattle.history_model.specs.Words.{Landing, landed}
use Rattle.history_model.proofs.facts.RequestLemmas.{same_op_true, same_op_self}
use Rattle.law_untagged.specs.Untagged.{UntaggedRun}
use Rattle.law_untagged.specs.clocks.Clocks.{Clocks, first_start, clocks_of}
use Rattle.law_fresh.proofs.Laws.{WorldHas, Names, Entry, presents_named, items_after, landings_after, or_either}

-- its master presented it: what that knew then is noted
abbrev pub Started : Board → List Event → OpId → Type 0
Started board h q = is_some ((clocks_of board h).start q) ≡ true

-- what is noted stays
pub start_stays : (board : Board) (e : Event) (h : List Event) (q : OpId) → Started board h q → (clocks_of board (e ∷ h)).start q ≡ (clocks_of board h).start q
start_stays board (Act on Master o step place) h q started =
    let clocks : Clocks = clocks_of board h in
    let S : Option (ℕ → ℕ) → Type 0 = λ found. is_some found ≡ true → first_start found (clocks.known q.master) ≡ found in
    let first : first_start (clocks.start q) (clocks.known q.master) ≡ clocks.start q = (elim (clocks.start q) as S [ None ↦ λ f. cc | Some start ↦ λ _. refl ]) started in
    let P : Bool → Type 0 = λ b. cond b (first_start (clocks.start q) (clocks.known q.master)) (clocks.start q) ≡ clocks.start q in
    elim (same_op o q) as P [ true ↦ first | false ↦ refl ]
start_stays board (Act on (ByLane lane) o step place) h q started = refl
start_stays board (Arrive lane mark) h q started = refl

pub started_stays : (board : Board) (e : Event) (h : List Event) (q : OpId) → Started board h q → Started board (e ∷ h) q
started_stays board e h q started = ap is_some (start_stays board e h q started) ∙ started

-- who presents an operation started it
started_entry : (board : Board) (e : Event) (h : List Event) → Entry (Started board (e ∷ h)) e
started_entry board (Act on Master o step place) h =
    let clocks : Clocks = clocks_of board h in
    let self : same_op o o ≡ true = same_op_self o in
    let S : Option (ℕ → ℕ) → Type 0 = λ found. is_some (first_start found (clocks.known o.master)) ≡ true in
    let there : is_some (first_start (clocks.start o) (clocks.known o.master)) ≡ true = elim (clocks.start o) as S [ None ↦ refl | Some start ↦ refl ] in
    let here : Started board (Act on Master o step place ∷ h) o = rw self there in
    here
started_entry board (Act on (ByLane k) o step place) h = tt
started_entry board (Arrive lane mark) h = tt

pub items_started : (board : Board) (h : List Event) → UntaggedRun board h → WorldHas (Names (Started board h)) (world_by Untagged board h)
items_started board [] run = λ lane. (tt, tt)
items_started board (e ∷ h) run = items_after Untagged board h (Started board h) (Started board (e ∷ h)) (started_stays board e h) (items_started board h run.1) e run (started_entry board e h)

pub landings_started : (board : Board) (h : List Event) (word : Dword) → UntaggedRun board h → AllByRecursion (λ (l : Landing). Started board h l.op) (landed board h word)
landings_started board [] word run = tt
landings_started board (e ∷ h) word run =
    landings_after Untagged board h (Started board h) (Started board (e ∷ h)) (started_stays board e h) (items_started board h run.1) e word run (started_entry board e h) (landings_started board h word run.1)

land_started : (board : Board) (e : Event) (h : List Event) (w : OpId) → UntaggedRun board (e ∷ h) → is_land_of w e ≡ true → Started board (e ∷ h) w
land_started board (Act on by o step place) h w run is =
    let e : Event = Act on by o step place in
    let named : Started board (e ∷ h) o = presents_named Untagged board h (Started board h) (Started board (e ∷ h)) (started_stays board e h) (items_started board h run.1) on by o step place run (started_entry board e h) in
    subst (Started board (e ∷ h)) (same_op_true o w (and_parts (same_op o w) (is_land_step step) is).0) named
land_started board (Arrive lane mark) h w run is = cc

pub landed_started : (board : Board) (h : List Event) (w : OpId) → UntaggedRun board h → has_landed h w ≡ true → Started board h w
landed_started board [] w run is = cc
landed_started board (e ∷ h) w run is =
    or_either (Started board (e ∷ h) w) (is_land_of w e) (has_landed h w)
    (λ here. land_started board e h w run here)
    (λ older. started_stays board e h w (landed_started board h w run.1 older)) is
