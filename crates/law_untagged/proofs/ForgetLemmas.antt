-- What moves on lanes, moves alike whether or not local masters are noted down.
use Rattle.std.proofs.Common.{◌≡◌, ℕ, zero, suc, ◌+◌, Bool, true, false, ◌||◌, ◌==◌, cond, List, [], ◌∷◌, ◌++◌, map, length, Option, Some, None, refl, sym, ap, subst, ◌∙◌, option_map}
use Rattle.std.specs.List.{find, list_any, AllByRecursion}
use Rattle.list_facts.specs.Lists.{less}
use Rattle.pci_command.specs.declared.op_id.OpId.{OpId}
use Rattle.pci_command.specs.declared.op_id.Outcome.{Outcome}
use Rattle.board_model.specs.declared.bridge.Lane.{Lane as BridgeLane}
use Rattle.board_model.specs.declared.board.Board.{Board}
use Rattle.history_model.specs.declared.event.By.{By}
use Rattle.history_model.specs.declared.event.By.TheVariants.{Master, Lane as ByLane}
use Rattle.history_model.specs.declared.event.Mark.{Mark}
use Rattle.history_model.specs.declared.event.Step.{Step}
use Rattle.history_model.specs.declared.event.Step.TheVariants.{Land, Part, Read, Accept, Latch, Take, Stall, MasterAbort, TargetAbort}
use Rattle.history_model.specs.declared.item.Carried.{Carried}
use Rattle.history_model.specs.declared.item.Carried.TheVariants.{Post, Ask, Done, Room, Gone}
use Rattle.history_model.specs.declared.item.Slot.{Slot}
use Rattle.history_model.specs.Lanes.{LaneState, Both, has_number, lowest_free_from, lowest_free, post_enters, ask_enters, item_ends, slot_taken, Effect, Stands, Credits, Frees, Drops, effect_of, takes_effect, came_off, arrives_first, arrives}
use Rattle.board_model.specs.Ways.{lane_back}
use Rattle.history_model.specs.World.{anyone, World, same_lane, both, put, moved, is_own, slot_found, enters, lane_outcome, leaves}
use Rattle.law_untagged.specs.Forgets.{unnamed, forget, forget_both}

-- Lists of slots.

less_unnamed : (number : ℕ) (held : List Slot) → less (has_number number) (map unnamed held) ≡ map unnamed (less (has_number number) held)
less_unnamed number [] = refl
less_unnamed number (slot ∷ held) =
    let P : Bool → Type 0 = λ b. cond b (map unnamed held) (unnamed slot ∷ less (has_number number) (map unnamed held)) ≡ map unnamed (cond b held (slot ∷ less (has_number number) held)) in
    elim (has_number number slot) as P [ true ↦ refl | false ↦ ap (λ rest. unnamed slot ∷ rest) (less_unnamed number held) ]

any_unnamed : (number : ℕ) (held : List Slot) → list_any (has_number number) (map unnamed held) ≡ list_any (has_number number) held
any_unnamed number [] = refl
any_unnamed number (slot ∷ held) = ap (λ b. has_number number slot || b) (any_unnamed number held)

pub length_unnamed : (held : List Slot) → length (map unnamed held) ≡ length held
length_unnamed [] = refl
length_unnamed (slot ∷ held) = ap suc (length_unnamed held)

free_from_unnamed : (more number : ℕ) (held : List Slot) → lowest_free_from more number (map unnamed held) ≡ lowest_free_from more number held
free_from_unnamed zero number held = refl
free_from_unnamed (suc more) number held =
    let there = any_unnamed number held in
    let next = free_from_unnamed more (number + 1) held in
    rw (there, next) refl

free_unnamed : (held : List Slot) → lowest_free (map unnamed held) ≡ lowest_free held
free_unnamed held = ap (λ n. lowest_free_from n 0 (map unnamed held)) (length_unnamed held) ∙ free_from_unnamed (length held) 0 held

push_unnamed : (held : List Slot) (slot : Slot) → map unnamed (held ++ slot ∷ []) ≡ map unnamed held ++ unnamed slot ∷ []
push_unnamed [] slot = refl
push_unnamed (first ∷ held) slot = ap (λ rest. unnamed first ∷ rest) (push_unnamed held slot)

-- the same slots are own ones, whether or not the local master counts
abbrev pub Alike : Board → ℕ → By → OpId → List Slot → Type 0
Alike board on by o held = AllByRecursion (λ (slot : Slot). is_own board on anyone o (unnamed slot) ≡ is_own board on by o slot) held

pub own_unnamed : (board : Board) (on : ℕ) (by : By) (o : OpId) (held : List Slot) → Alike board on by o held → find (is_own board on anyone o) (map unnamed held) ≡ option_map unnamed (find (is_own board on by o) held)
own_unnamed board on by o [] alike = refl
own_unnamed board on by o (slot ∷ held) alike =
    let P : Bool → Type 0 = λ b. cond b (Some (unnamed slot)) (find (is_own board on anyone o) (map unnamed held)) ≡ option_map unnamed (cond b (Some slot) (find (is_own board on by o) held)) in
    let here : P (is_own board on by o slot) = elim (is_own board on by o slot) as P [ true ↦ refl | false ↦ own_unnamed board on by o held alike.1 ] in
    let F : Bool → Type 0 = λ b. cond b (Some (unnamed slot)) (find (is_own board on anyone o) (map unnamed held)) ≡ option_map unnamed (cond (is_own board on by o slot) (Some slot) (find (is_own board on by o) held)) in
    subst F (sym alike.0) here

-- Moves.

ask_forget : (by : By) (o : OpId) (x : Both) → ask_enters anyone o (forget_both x) ≡ forget_both (ask_enters by o x)
ask_forget by o x =
    let number : ℕ = lowest_free x.here.held in
    let free = free_unnamed x.here.held in
    let pushed = push_unnamed x.here.held (record { number = number; by = by; op = o }) in
    let entered : ℕ → Both = λ n. record {
      here = record (x.here) { flight = x.here.flight ++ Ask o n ∷ []; held = map unnamed x.here.held ++ record { number = n; by = anyone; op = o } ∷ [] };
      back = forget x.back;
    } in
    let holding : List Slot → Both = λ held. record { here = record (x.here) { flight = x.here.flight ++ Ask o number ∷ []; held = held }; back = forget x.back } in
    ap entered free ∙ ap holding (sym pushed)

pub taken_forget : (number : ℕ) (x : Both) → slot_taken number (forget_both x) ≡ forget_both (slot_taken number x)
taken_forget number x =
    let freed : List Slot → Both = λ held. record { here = record (x.here) { held = held }; back = (slot_taken number (forget_both x)).back } in
    ap freed (less_unnamed number x.here.held)

effect_forget : (effect : Effect) (item : Carried) (x : Both) → takes_effect effect item (forget_both x) ≡ forget_both (takes_effect effect item x)
effect_forget Stands item x = refl
effect_forget Credits item x = refl
effect_forget (Frees slot) item x =
    let freed : List Slot → Both = λ held. record { here = forget x.here; back = record (x.back) { held = held } } in
    ap freed (less_unnamed slot x.back.held)
effect_forget (Drops slot) item x = refl

first_forget : (mark : Mark) (flight : List Carried) (x : Both) → arrives_first mark flight (forget_both x) ≡ forget_both (arrives_first mark flight x)
first_forget mark [] x = refl
first_forget mark (item ∷ rest) x = effect_forget (effect_of mark item) item (record x { here = came_off item rest x.here })

arrives_forget : (mark : Mark) (x : Both) → arrives mark (forget_both x) ≡ forget_both (arrives mark x)
arrives_forget mark x = first_forget mark x.here.flight x

found_forget : (own : Option Slot) (x : Both) → slot_found (option_map unnamed own) (forget_both x) ≡ forget_both (slot_found own x)
found_forget None x = refl
found_forget (Some slot) x = taken_forget slot.number x

-- what a step does where it is claimed; of a completion that is taken, where the same slots are own ones
pub enters_forget : (board : Board) (on : ℕ) (by : By) (o : OpId) (step : Step) (x : Both) → ((outcome : Outcome) → step ≡ Take outcome → Alike board on by o x.here.held)
    → enters board on anyone o step (forget_both x) ≡ forget_both (enters board on by o step x)
enters_forget board on by o Land x alike = refl
enters_forget board on by o (Part phases) x alike = refl
enters_forget board on by o (Read value) x alike = refl
enters_forget board on by o Accept x alike = refl
enters_forget board on by o Latch x alike = ask_forget by o x
enters_forget board on by o (Take outcome) x alike =
    ap (λ own. slot_found own (forget_both x)) (own_unnamed board on by o x.here.held (alike outcome refl)) ∙ found_forget (find (is_own board on by o) x.here.held) x
enters_forget board on by o Stall x alike = refl
enters_forget board on by o MasterAbort x alike = refl
enters_forget board on by o TargetAbort x alike = refl

-- Worlds.

-- one world is the other, without local masters
abbrev pub Forgets : World → World → Type 0
Forgets plain world = (lane : BridgeLane) → plain lane ≡ forget (world lane)

pub moved_forget : (plain_move move : Both → Both) (lane : BridgeLane) (plain world : World) → Forgets plain world
    → plain_move (forget_both (both world lane)) ≡ forget_both (move (both world lane)) → Forgets (moved plain_move lane plain) (moved move lane world)
moved_forget plain_move move lane plain world forgets same other =
    let pair : LaneState → LaneState → Both = λ here back. record { here = here; back = back } in
    let before : both plain lane ≡ forget_both (both world lane) = ap (λ here. pair here (plain (lane_back lane))) (forgets lane) ∙ ap (λ back. pair (forget (world lane)) back) (forgets (lane_back lane)) in
    let now : plain_move (both plain lane) ≡ forget_both (move (both world lane)) = ap plain_move before ∙ same in
    let x0 : Both = plain_move (both plain lane) in
    let x : Both = move (both world lane) in
    let here : x0.here ≡ forget x.here = ap (λ (y : Both). y.here) now in
    let back : x0.back ≡ forget x.back = ap (λ (y : Both). y.back) now in
    let Q : Bool → Type 0 = λ b. cond b x0.back (plain other) ≡ forget (cond b x.back (world other)) in
    let behind : Q (same_lane other (lane_back lane)) = elim (same_lane other (lane_back lane)) as Q [ true ↦ back | false ↦ forgets other ] in
    let P : Bool → Type 0 = λ b. cond b x0.here (cond (same_lane other (lane_back lane)) x0.back (plain other)) ≡ forget (cond b x.here (cond (same_lane other (lane_back lane)) x.back (world other))) in
    elim (same_lane other lane) as P [ true ↦ here | false ↦ behind ]

pub leaves_forget : (lane : BridgeLane) (o : OpId) (outcome : Option Outcome) (plain world : World) → Forgets plain world → Forgets (leaves lane o outcome plain) (leaves lane o outcome world)
leaves_forget lane o None plain world forgets = forgets
leaves_forget lane o (Some outcome) plain world forgets = moved_forget (item_ends o outcome) (item_ends o outcome) lane plain world forgets refl

pub arrival_forget : (mark : Mark) (lane : BridgeLane) (plain world : World) → Forgets plain world → Forgets (moved (arrives mark) lane plain) (moved (arrives mark) lane world)
arrival_forget mark lane plain world forgets = moved_forget (arrives mark) (arrives mark) lane plain world forgets (arrives_forget mark (both world lane))
