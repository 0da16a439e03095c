-- What the moves of posted writes and credits change on the lanes of a bridge.
use Rattle.std.proofs.Common.{◌≡◌, ℕ, ◌+◌, true, false, List, [], ◌∷◌, ◌++◌, Some, refl, sym, ap, subst, ◌∙◌, arith}
use Rattle.std.specs.List.{find, list_any}
use Rattle.list_facts.specs.Lists.{less, total}
use Rattle.list_facts.proofs.TotalLemmas.{found, total-push, total-less}
use Rattle.pci_command.specs.declared.op_id.OpId.{OpId}
use Rattle.pci_command.specs.declared.op_id.Outcome.{Outcome}
use Rattle.board_model.specs.declared.bridge.Bridge.{Bridge}
use Rattle.board_model.specs.declared.bridge.Lane.{Lane as BridgeLane}
use Rattle.board_model.specs.declared.board.Board.{Board}
use Rattle.history_model.specs.declared.event.Event.{Event}
use Rattle.history_model.specs.declared.event.Mark.{Mark}
use Rattle.history_model.specs.declared.item.Carried.{Carried}
use Rattle.history_model.specs.declared.item.Carried.TheVariants.{Post, Room}
use Rattle.history_model.specs.Lanes.{Both, is_of, is_done_for, post_enters, reply_to, item_ends, arrives_first, arrives}
use Rattle.history_model.specs.World.{World, same_lane, both, moved}
use Rattle.board_model.specs.Ways.{lane_back}
use Rattle.history_model.specs.Answers.{bridge_to}
use Rattle.history_model.specs.Local.{is_ask_of, is_gone_of}
use Rattle.history_model.specs.Left.{flying_left, standing_left}
use Rattle.law_lanes.specs.Depths.{DifferentNumbers}
use Rattle.history_model.proofs.facts.BridgeLemmas.{same_lane_self, same_lane_back}
use Rattle.history_model.proofs.facts.MovedLemmas.{moved_each}
use Rattle.law_lanes.proofs.order.Laws.{over-moved}
use Rattle.law_bound.proofs.posted.AlikeLemmas.{Alike, AlikeWorlds, Alike-self}
use Rattle.law_bound.proofs.posted.ProgramLemmas.{lane_weight, world_weight}
use Rattle.list_facts.proofs.AnyLemmas.{any-push_other, any-less_found}

-- A posted write enters: it is in flight.

-- nothing else changes
pub enters_alike : (o : OpId) (lane : BridgeLane) (world : World) → AlikeWorlds (moved (post_enters o) lane world) world
enters_alike o lane world =
    let flight : List Carried = (world lane).flight in
    let here : Alike (post_enters o (both world lane)).here (world lane) = record {
      held = refl;
      asks = refl;
      dones = refl;
      asks_flying = λ number. any-push_other (is_ask_of number) flight (Post o) refl;
      asks_standing = λ number. refl;
      dones_flying = λ number. any-push_other (is_done_for number) flight (Post o) refl;
      dones_standing = λ number. refl;
      gones_flying = λ number. any-push_other (is_gone_of number) flight (Post o) refl;
    } in
    moved_each (λ l s. Alike s (world l)) (post_enters o) lane world (λ l _ _. Alike-self (world l)) here (Alike-self (world (lane_back lane)))

-- nothing else stands than before
pub enters_stands : (o : OpId) (lane : BridgeLane) (world : World) (l : BridgeLane) → (moved (post_enters o) lane world l).standing ≡ (world l).standing
enters_stands o lane world l = moved_each (λ l s. s.standing ≡ (world l).standing) (post_enters o) lane world (λ l _ _. refl) refl refl l

-- A posted write that stands leaves, and its credit goes back.

-- nothing else changes
pub leaves_alike : (o : OpId) (outcome : Outcome) (lane : BridgeLane) (world : World) → find (is_of o) (world lane).standing ≡ Some (Post o) → AlikeWorlds (moved (item_ends o outcome) lane world) world
leaves_alike o outcome lane world is =
    let back : BridgeLane = lane_back lane in
    let standing : List Carried = (world lane).standing in
    let flight : List Carried = (world back).flight in
    let replied : flight ++ reply_to outcome (find (is_of o) standing) ≡ flight ++ Room ∷ [] = ap (λ found. flight ++ reply_to outcome found) is in
    let here : Alike (item_ends o outcome (both world lane)).here (world lane) = record {
      held = refl;
      asks = refl;
      dones = refl;
      asks_flying = λ number. refl;
      asks_standing = λ number. any-less_found (is_ask_of number) (is_of o) standing (Post o) is refl;
      dones_flying = λ number. refl;
      dones_standing = λ number. any-less_found (is_done_for number) (is_of o) standing (Post o) is refl;
      gones_flying = λ number. refl;
    } in
    let there : Alike (item_ends o outcome (both world lane)).back (world back) = record {
      held = refl;
      asks = refl;
      dones = refl;
      asks_flying = λ number. ap (list_any (is_ask_of number)) replied ∙ any-push_other (is_ask_of number) flight Room refl;
      asks_standing = λ number. refl;
      dones_flying = λ number. ap (list_any (is_done_for number)) replied ∙ any-push_other (is_done_for number) flight Room refl;
      dones_standing = λ number. refl;
      gones_flying = λ number. ap (list_any (is_gone_of number)) replied ∙ any-push_other (is_gone_of number) flight Room refl;
    } in
    moved_each (λ l s. Alike s (world l)) (item_ends o outcome) lane world (λ l _ _. Alike-self (world l)) here there

-- A posted write, or a credit, arrives.

-- what is on the lane and on the lane back is much the same
abbrev AlikePair : Both → Both → Type 0
AlikePair x y = Alike x.here y.here × Alike x.back y.back

-- nothing more
plus_none : (n : ℕ) → n + 0 ≡ n
plus_none n = omega arith

-- nothing else changes where a posted write comes
first_posts : (o : OpId) (mark : Mark) (flight rest : List Carried) (x : Both) → flight ≡ Post o ∷ rest → x.here.flight ≡ flight → AlikePair (arrives_first mark flight x) x
first_posts o mark flight rest x is same =
    let F : List Carried → Type 0 = λ xs. AlikePair (arrives_first mark xs x) x in
    let flying : x.here.flight ≡ Post o ∷ rest = same ∙ is in
    let there : F (Post o ∷ rest) = (
      record {
        held = refl;
        asks = plus_none x.here.asks;
        dones = plus_none x.here.dones;
        asks_flying = λ number. sym (ap (list_any (is_ask_of number)) flying);
        asks_standing = λ number. any-push_other (is_ask_of number) x.here.standing (Post o) refl;
        dones_flying = λ number. sym (ap (list_any (is_done_for number)) flying);
        dones_standing = λ number. any-push_other (is_done_for number) x.here.standing (Post o) refl;
        gones_flying = λ number. sym (ap (list_any (is_gone_of number)) flying);
      },
      Alike-self x.back,
    ) in
    subst F (sym is) there

-- nor where a credit comes
first_rooms : (mark : Mark) (flight rest : List Carried) (x : Both) → flight ≡ Room ∷ rest → x.here.flight ≡ flight → AlikePair (arrives_first mark flight x) x
first_rooms mark flight rest x is same =
    let F : List Carried → Type 0 = λ xs. AlikePair (arrives_first mark xs x) x in
    let flying : x.here.flight ≡ Room ∷ rest = same ∙ is in
    let there : F (Room ∷ rest) = (
      record {
        held = refl;
        asks = plus_none x.here.asks;
        dones = plus_none x.here.dones;
        asks_flying = λ number. sym (ap (list_any (is_ask_of number)) flying);
        asks_standing = λ number. refl;
        dones_flying = λ number. sym (ap (list_any (is_done_for number)) flying);
        dones_standing = λ number. refl;
        gones_flying = λ number. sym (ap (list_any (is_gone_of number)) flying);
      },
      record {
        held = refl;
        asks = refl;
        dones = refl;
        asks_flying = λ number. refl;
        asks_standing = λ number. refl;
        dones_flying = λ number. refl;
        dones_standing = λ number. refl;
        gones_flying = λ number. refl;
      },
    ) in
    subst F (sym is) there

-- so on every lane
pair_alike : (move : Both → Both) (lane : BridgeLane) (world : World) → AlikePair (move (both world lane)) (both world lane) → AlikeWorlds (moved move lane world) world
pair_alike move lane world pair = moved_each (λ l s. Alike s (world l)) move lane world (λ l _ _. Alike-self (world l)) pair.0 pair.1

-- where a posted write comes, the lanes are much the same
pub posts_come_alike : (o : OpId) (mark : Mark) (rest : List Carried) (lane : BridgeLane) (world : World) → (world lane).flight ≡ Post o ∷ rest → AlikeWorlds (moved (arrives mark) lane world) world
posts_come_alike o mark rest lane world is = pair_alike (arrives mark) lane world (first_posts o mark (world lane).flight rest (both world lane) is refl)

-- so they are where a credit comes
pub rooms_come_alike : (mark : Mark) (rest : List Carried) (lane : BridgeLane) (world : World) → (world lane).flight ≡ Room ∷ rest → AlikeWorlds (moved (arrives mark) lane world) world
rooms_come_alike mark rest lane world is = pair_alike (arrives mark) lane world (first_rooms mark (world lane).flight rest (both world lane) is refl)

-- The weight of the lanes after a move of one bridge.

module _ (board : Board) (h : List Event) (distinct : DifferentNumbers board) where
  -- what a lane and the lane back weigh
  abbrev pair_weight : BridgeLane → Both → ℕ
  pair_weight lane x = lane_weight board h lane x.here + lane_weight board h (lane_back lane) x.back

  -- all lanes change as these two do
  moved_weight : (move : Both → Both) (lane : BridgeLane) (world : World) (bridge : Bridge) → bridge_to board lane.bus ≡ Some bridge
      → world_weight board h (moved move lane world) + pair_weight lane (both world lane) ≡ world_weight board h world + pair_weight lane (move (both world lane))
  moved_weight move lane world bridge is =
      let back : BridgeLane = lane_back lane in
      let f : BridgeLane → ℕ = λ l. lane_weight board h l (moved move lane world l) in
      let g : BridgeLane → ℕ = λ l. lane_weight board h l (world l) in
      let self : same_lane lane lane ≡ true = same_lane_self lane in
      let self_back : same_lane back back ≡ true = same_lane_self back in
      let apart : same_lane back lane ≡ false = same_lane_back lane in
      let here : f lane ≡ lane_weight board h lane (move (both world lane)).here = rw self refl in
      let there : f back ≡ lane_weight board h back (move (both world lane)).back = rw (apart, self_back) refl in
      omega (arith, over-moved f g board lane bridge distinct is (λ l no no_back. rw (no, no_back) refl), here, there)

  -- a posted write that enters adds its weight in flight
  pub enters_weight : (o : OpId) (lane : BridgeLane) (world : World) (bridge : Bridge) → bridge_to board lane.bus ≡ Some bridge
      → world_weight board h (moved (post_enters o) lane world) ≡ world_weight board h world + flying_left board h lane (Post o)
  enters_weight o lane world bridge is =
      omega (arith, moved_weight (post_enters o) lane world bridge is, total-push (flying_left board h lane) (world lane).flight (Post o))

  -- one that leaves takes its weight away, and a credit in flight weighs one
  pub leaves_weight : (o : OpId) (outcome : Outcome) (lane : BridgeLane) (world : World) (bridge : Bridge) → bridge_to board lane.bus ≡ Some bridge → find (is_of o) (world lane).standing ≡ Some (Post o)
      → world_weight board h (moved (item_ends o outcome) lane world) + standing_left board h lane (Post o) ≡ world_weight board h world + 1
  leaves_weight o outcome lane world bridge is stands =
      let back : BridgeLane = lane_back lane in
      let standing : List Carried = (world lane).standing in
      let flight : List Carried = (world back).flight in
      let W : Carried → ℕ = standing_left board h lane in
      let V : Carried → ℕ = flying_left board h back in
      let replied : total V (flight ++ reply_to outcome (find (is_of o) standing)) ≡ total V (flight ++ Room ∷ []) = ap (λ item. total V (flight ++ reply_to outcome item)) stands in
      let took : total W (less (is_of o) standing) + W (Post o) ≡ total W standing =
      ap (λ item. total W (less (is_of o) standing) + found W item) (sym stands) ∙ total-less W (is_of o) standing in
      omega (arith, moved_weight (item_ends o outcome) lane world bridge is, replied, took, total-push V flight Room)

  -- a posted write that arrives weighs one less, and a credit that arrives nothing more
  pub posts_come_weight : (o : OpId) (mark : Mark) (rest : List Carried) (lane : BridgeLane) (world : World) (bridge : Bridge) → bridge_to board lane.bus ≡ Some bridge → (world lane).flight ≡ Post o ∷ rest
      → world_weight board h (moved (arrives mark) lane world) + 1 ≡ world_weight board h world
  posts_come_weight o mark rest lane world bridge is flies =
      let x : Both = both world lane in
      let V : Carried → ℕ = flying_left board h lane in
      let W : Carried → ℕ = standing_left board h lane in
      let comes : pair_weight lane (arrives mark x) ≡ pair_weight lane (arrives_first mark (Post o ∷ rest) x) = ap (λ flight. pair_weight lane (arrives_first mark flight x)) flies in
      let flew : total V (world lane).flight ≡ V (Post o) + total V rest = ap (total V) flies in
      omega (arith, moved_weight (arrives mark) lane world bridge is, comes, flew, total-push W (world lane).standing (Post o))

  -- so does a credit
  pub rooms_come_weight : (mark : Mark) (rest : List Carried) (lane : BridgeLane) (world : World) (bridge : Bridge) → bridge_to board lane.bus ≡ Some bridge → (world lane).flight ≡ Room ∷ rest
      → world_weight board h (moved (arrives mark) lane world) + 1 ≡ world_weight board h world
  rooms_come_weight mark rest lane world bridge is flies =
      let x : Both = both world lane in
      let V : Carried → ℕ = flying_left board h lane in
      let comes : pair_weight lane (arrives mark x) ≡ pair_weight lane (arrives_first mark (Room ∷ rest) x) = ap (λ flight. pair_weight lane (arrives_first mark flight x)) flies in
      let flew : total V (world lane).flight ≡ 1 + total V rest = ap (total V) flies in
      omega (arith, moved_weight (arrives mark) lane world bridge is, comes, flew)
