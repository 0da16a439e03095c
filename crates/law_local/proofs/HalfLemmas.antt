-- Each move of a bus keeps that it knows its half of a bridge.
use Rattle.std.proofs.Common.{◌≡◌, ◌≢◌, ℕ, ◌+◌, ◌-◌, List, [], ◌∷◌, ◌++◌, Option, Some, None, refl, sym, ap, subst, ◌∙◌}
use Rattle.std.specs.List.{find}
use Rattle.std.proofs.lemmas.List.{append-nil}
use Rattle.list_facts.specs.Lists.{less}
use Rattle.pci_command.specs.declared.op_id.OpId.{OpId}
use Rattle.pci_command.specs.declared.op_id.Outcome.{Outcome}
use Rattle.board_model.specs.declared.board.Board.{Board}
use Rattle.history_model.specs.declared.event.By.{By}
use Rattle.history_model.specs.declared.event.Mark.{Mark}
use Rattle.history_model.specs.declared.event.Step.{Step}
use Rattle.history_model.specs.declared.event.Step.TheVariants.{Land, Part, Read, Accept, Latch, Take, Stall, MasterAbort, TargetAbort}
use Rattle.history_model.specs.declared.item.Carried.{Carried}
use Rattle.history_model.specs.declared.item.Carried.TheVariants.{Post, Ask, Gone}
use Rattle.history_model.specs.declared.item.Slot.{Slot}
use Rattle.history_model.specs.Lanes.{Both, has_number, is_of, is_done_for, lowest_free, post_enters, ask_enters, reply_to, item_ends, slot_taken, Effect, Stands, Credits, Frees, Drops, effect_of, takes_effect, asks_in, dones_in, came_off, arrives_first, arrives}
use Rattle.history_model.specs.World.{is_own, slot_found, enters}
use Rattle.history_model.proofs.facts.BridgeLemmas.{flip}

-- a bus knows its half of a bridge: `here` is the lane that begins on the bus, `back` the lane that ends there;
-- `later` is what will still be sent to it
pub record Half (later : List Carried) (world local : Both) : Type 0 where
  pub held : world.here.held ≡ local.here.held
  pub owed : world.here.owed ≡ local.here.owed
  pub asks : world.back.asks ≡ local.back.asks
  pub dones : world.back.dones ≡ local.back.dones
  pub standing : world.back.standing ≡ local.back.standing
  pub flight : world.back.flight ++ later ≡ local.back.flight

-- what a move of the bus leaves alone of the bridge, and what it sends
pub record Sends (world moved local known : Both) : Type 0 where
  pub items : List Carried
  pub sent : moved.here.flight ≡ world.here.flight ++ items
  pub sent_locally : known.here.flight ≡ local.here.flight ++ items
  pub asks : moved.here.asks ≡ world.here.asks
  pub dones : moved.here.dones ≡ world.here.dones
  pub standing : moved.here.standing ≡ world.here.standing
  pub held : moved.back.held ≡ world.back.held
  pub owed : moved.back.owed ≡ world.back.owed

-- a move of the bus keeps that it knows its half, and changes the other half only by what it sends
abbrev pub MovesHalf : List Carried → Both → Both → Both → Both → Type 0
MovesHalf later world moved local known = Half later moved known × Sends world moved local known

-- nothing happens to the bridge
pub half_stays : (later : List Carried) (w x : Both) → Half later w x → MovesHalf later w w x x
half_stays later w x half = (
  half,
  record {
    items = [];
    sent = sym (append-nil w.here.flight);
    sent_locally = sym (append-nil x.here.flight);
    asks = refl;
    dones = refl;
    standing = refl;
    held = refl;
    owed = refl;
  },
)

-- a posted write enters the lane that begins on the bus
pub post_half : (o : OpId) (later : List Carried) (w x : Both) → Half later w x → MovesHalf later w (post_enters o w) x (post_enters o x)
post_half o later w x half = (
  record { held = half.held; owed = ap (λ n. n + 1) half.owed; asks = half.asks; dones = half.dones; standing = half.standing; flight = half.flight },
  record { items = Post o ∷ []; sent = refl; sent_locally = refl; asks = refl; dones = refl; standing = refl; held = refl; owed = refl },
)

-- a delayed request does
pub ask_half : (by : By) (o : OpId) (later : List Carried) (w x : Both) → Half later w x → MovesHalf later w (ask_enters by o w) x (ask_enters by o x)
ask_half by o later w x half =
    let holds : List Slot → List Slot = λ held. held ++ record { number = lowest_free held; by = by; op = o } ∷ [] in (
      record { held = ap holds half.held; owed = half.owed; asks = half.asks; dones = half.dones; standing = half.standing; flight = half.flight },
      record {
        items = Ask o (lowest_free w.here.held) ∷ [];
        sent = refl;
        sent_locally = ap (λ held. x.here.flight ++ Ask o (lowest_free held) ∷ []) (sym half.held);
        asks = refl;
        dones = refl;
        standing = refl;
        held = refl;
        owed = refl;
      },
    )

-- a completion is taken, and its slot freed
pub taken_half : (number : ℕ) (later : List Carried) (w x : Both) → Half later w x → MovesHalf later w (slot_taken number w) x (slot_taken number x)
taken_half number later w x half = (
  record {
    held = ap (less (has_number number)) half.held;
    owed = half.owed;
    asks = half.asks;
    dones = half.dones;
    standing = ap (less (is_done_for number)) half.standing;
    flight = half.flight;
  },
  record {
    items = [];
    sent = sym (append-nil w.here.flight);
    sent_locally = sym (append-nil x.here.flight);
    asks = refl;
    dones = refl;
    standing = refl;
    held = refl;
    owed = refl;
  },
)

-- the lane that presented the item ends on the bus: it is the lane back of the one that begins there
pub ends_half : (o : OpId) (outcome : Outcome) (later : List Carried) (w x : Both) → Half later w x
    → MovesHalf later w (flip (item_ends o outcome (flip w))) x (flip (item_ends o outcome (flip x)))
ends_half o outcome later w x half = (
  record {
    held = half.held;
    owed = half.owed;
    asks = half.asks;
    dones = half.dones;
    standing = ap (less (is_of o)) half.standing;
    flight = half.flight;
  },
  record {
    items = reply_to outcome (find (is_of o) w.back.standing);
    sent = refl;
    sent_locally = ap (λ standing. x.here.flight ++ reply_to outcome (find (is_of o) standing)) (sym half.standing);
    asks = refl;
    dones = refl;
    standing = refl;
    held = refl;
    owed = refl;
  },
)

-- the oldest item came off the lane that ends on the bus
off_half : (item : Carried) (rest later : List Carried) (w x : Both) → Half later w x
    → Half later (record w { back = came_off item rest w.back }) (record x { back = came_off item (rest ++ later) x.back })
off_half item rest later w x half =
    record {
      held = half.held;
      owed = half.owed;
      asks = ap (λ n. n + asks_in item) half.asks;
      dones = ap (λ n. n + dones_in item) half.dones;
      standing = half.standing;
      flight = refl;
    }

-- what the item does where it arrives
effect_half : (effect : Effect) (item : Carried) (later : List Carried) (w x : Both) → Half later w x
    → MovesHalf later w (flip (takes_effect effect item (flip w))) x (flip (takes_effect effect item (flip x)))
effect_half Stands item later w x half = (
  record {
    held = half.held;
    owed = half.owed;
    asks = half.asks;
    dones = half.dones;
    standing = ap (λ standing. standing ++ item ∷ []) half.standing;
    flight = half.flight;
  },
  record {
    items = [];
    sent = sym (append-nil w.here.flight);
    sent_locally = sym (append-nil x.here.flight);
    asks = refl;
    dones = refl;
    standing = refl;
    held = refl;
    owed = refl;
  },
)
effect_half Credits item later w x half = (
  record { held = half.held; owed = ap (λ n. n - 1) half.owed; asks = half.asks; dones = half.dones; standing = half.standing; flight = half.flight },
  record {
    items = [];
    sent = sym (append-nil w.here.flight);
    sent_locally = sym (append-nil x.here.flight);
    asks = refl;
    dones = refl;
    standing = refl;
    held = refl;
    owed = refl;
  },
)
effect_half (Frees slot) item later w x half = (
  record { held = ap (less (has_number slot)) half.held; owed = half.owed; asks = half.asks; dones = half.dones; standing = half.standing; flight = half.flight },
  record {
    items = [];
    sent = sym (append-nil w.here.flight);
    sent_locally = sym (append-nil x.here.flight);
    asks = refl;
    dones = refl;
    standing = refl;
    held = refl;
    owed = refl;
  },
)
effect_half (Drops slot) item later w x half = (
  record { held = half.held; owed = half.owed; asks = half.asks; dones = half.dones; standing = half.standing; flight = half.flight },
  record { items = Gone slot ∷ []; sent = refl; sent_locally = refl; asks = refl; dones = refl; standing = refl; held = refl; owed = refl },
)

-- what a move leaves alone is left alone too by the item that came off before it
off_sends : (item : Carried) (rest more : List Carried) (w v x z : Both) → Sends (record w { back = came_off item rest w.back }) v (record x { back = came_off item more x.back }) z → Sends w v x z
off_sends item rest more w v x z sends =
    record {
      items = sends.items;
      sent = sends.sent;
      sent_locally = sends.sent_locally;
      asks = sends.asks;
      dones = sends.dones;
      standing = sends.standing;
      held = sends.held;
      owed = sends.owed;
    }

-- the oldest item in flight arrives
first_half : (mark : Mark) (flight : List Carried) (later : List Carried) (w x : Both) → flight ≢ [] → w.back.flight ≡ flight → Half later w x
    → MovesHalf later w (flip (arrives_first mark flight (flip w))) x (flip (arrives mark (flip x)))
first_half mark [] later w x some is half = absurd (some refl)
first_half mark (item ∷ rest) later w x some is half =
    let moved = effect_half (effect_of mark item) item later (record w { back = came_off item rest w.back }) (record x { back = came_off item (rest ++ later) x.back }) (off_half item rest later w x half) in
    let known : x.back.flight ≡ item ∷ (rest ++ later) = sym half.flight ∙ ap (λ flight. flight ++ later) is in
    let Goal : List Carried → Type 0 = λ flight. MovesHalf later w (flip (arrives_first mark (item ∷ rest) (flip w))) x (flip (arrives_first mark flight (flip x))) in
    subst Goal (sym known) (moved.0, off_sends item rest (rest ++ later) w (flip (arrives_first mark (item ∷ rest) (flip w))) x (flip (arrives_first mark (item ∷ (rest ++ later)) (flip x))) moved.1)

-- an item arrives, where one is in flight
pub arrives_half : (mark : Mark) (later : List Carried) (w x : Both) → w.back.flight ≢ [] → Half later w x
    → MovesHalf later w (flip (arrives mark (flip w))) x (flip (arrives mark (flip x)))
arrives_half mark later w x some half = first_half mark w.back.flight later w x some refl half

-- what a step does at the lane that claimed
pub enters_half : (board : Board) (bus : ℕ) (by : By) (o : OpId) (step : Step) (later : List Carried) (w x : Both) → Half later w x
    → MovesHalf later w (enters board bus by o step w) x (enters board bus by o step x)
enters_half board bus by o Land later w x half = half_stays later w x half
enters_half board bus by o (Part phases) later w x half = half_stays later w x half
enters_half board bus by o (Read value) later w x half = half_stays later w x half
enters_half board bus by o Accept later w x half = post_half o later w x half
enters_half board bus by o Latch later w x half = ask_half by o later w x half
enters_half board bus by o (Take outcome) later w x half =
    let own : List Slot → Option Slot = find (is_own board bus by o) in
    let P : Option Slot → Type 0 = λ slot. MovesHalf later w (slot_found slot w) x (slot_found slot x) in
    let Goal : List Slot → Type 0 = λ held. MovesHalf later w (slot_found (own w.here.held) w) x (slot_found (own held) x) in
    subst Goal half.held (elim (own w.here.held) as P [ None ↦ half_stays later w x half | Some slot ↦ taken_half slot.number later w x half ])
enters_half board bus by o Stall later w x half = half_stays later w x half
enters_half board bus by o MasterAbort later w x half = half_stays later w x half
enters_half board bus by o TargetAbort later w x half = half_stays later w x half
