-- An arrival changes nothing of what the lanes carry, be the item dropped or discarded: what will be is not counted.
use Rattle.std.proofs.Common.{◌≡◌, ℕ, ◌+◌, Bool, true, false, cond, List, [], ◌∷◌, ◌++◌, append-nil, Some, refl, sym, ap, subst, ◌∙◌, arith}
use Rattle.std.proofs.lemmas.List.{append_assoc}
use Rattle.std.specs.List.{list_any}
use Rattle.list_facts.specs.Lists.{total}
use Rattle.list_facts.proofs.TotalLemmas.{total-append}
use Rattle.board_model.specs.declared.bridge.Lane.{Lane as BridgeLane}
use Rattle.board_model.specs.declared.board.Board.{Board}
use Rattle.board_model.specs.Ways.{lane_back}
use Rattle.history_model.specs.declared.event.Mark.{Mark}
use Rattle.history_model.specs.declared.event.Mark.TheVariants.{Plain, Discard, Drop}
use Rattle.history_model.specs.declared.event.Event.TheVariants.{Arrive}
use Rattle.history_model.specs.declared.item.Carried.{Carried}
use Rattle.history_model.specs.declared.item.Carried.TheVariants.{Post, Ask, Done, Room, Gone}
use Rattle.history_model.specs.Lanes.{LaneState, Both, asks_in, dones_in, came_off, arrives_first, arrives}
use Rattle.history_model.specs.World.{World, both, after}
use Rattle.history_model.specs.Runs.{names, mark_of, mark_of_first, next_mark_in}
use Rattle.history_model.proofs.facts.MovedLemmas.{moved_each}
use Rattle.law_early.proofs.CargoLemmas.{bare, bares, bares-append, stays, stay, cargo-more, Alike, AllAlike, AlikeBoth, alike-self}

-- word of a dropped request is sent
word_sent : (board : Board) (lane : BridgeLane) (s : LaneState) (number : ℕ) → Alike board lane s (record s { flight = s.flight ++ Gone number ∷ [] })
word_sent board lane s number =
    let asks = total-append asks_in s.flight (Gone number ∷ []) in
    let dones = total-append dones_in s.flight (Gone number ∷ []) in
    record { items = sym (cargo-more board lane s (Gone number ∷ []) ∙ append-nil (bares s.standing ++ stay board lane s.asks s.dones s.flight)); asks = omega (arith, asks); dones = omega (arith, dones) }

module _ (board : Board) (lane : BridgeLane) where
  -- the item stands
  here_stands : (s : LaneState) (item : Carried) (rest : List Carried) → s.flight ≡ item ∷ rest → stays board lane s.asks s.dones item ≡ bare item ∷ []
      → Alike board lane s (record (came_off item rest s) { standing = s.standing ++ item ∷ [] })
  here_stands s item rest flies stands =
      let later : List Carried = stay board lane (s.asks + asks_in item) (s.dones + dones_in item) rest in
      let asks = ap (total asks_in) flies in
      let dones = ap (total dones_in) flies in
      record {
        items = ap (λ f. bares s.standing ++ stay board lane s.asks s.dones f) flies ∙ (ap (λ l. bares s.standing ++ (l ++ later)) stands
            ∙ (sym (append_assoc (bares s.standing) (bare item ∷ []) later) ∙ ap (λ l. l ++ later) (sym (bares-append s.standing (item ∷ [])))));
        asks = omega (arith, asks);
        dones = omega (arith, dones);
      }

  -- it does not
  here_off : (s : LaneState) (item : Carried) (rest : List Carried) → s.flight ≡ item ∷ rest → stays board lane s.asks s.dones item ≡ [] → Alike board lane s (came_off item rest s)
  here_off s item rest flies off =
      let later : List Carried = stay board lane (s.asks + asks_in item) (s.dones + dones_in item) rest in
      let asks = ap (total asks_in) flies in
      let dones = ap (total dones_in) flies in
      record {
        items = ap (λ f. bares s.standing ++ stay board lane s.asks s.dones f) flies ∙ ap (λ l. bares s.standing ++ (l ++ later)) off;
        asks = omega (arith, asks);
        dones = omega (arith, dones);
      }

  first_alike : (x : Both) (item : Carried) (rest : List Carried) (mark : Mark) → x.here.flight ≡ item ∷ rest → mark_of board lane x.here item ≡ mark → AlikeBoth board lane x (arrives_first mark (item ∷ rest) x)
  first_alike x (Post op) rest mark flies is =
      let here = here_stands x.here (Post op) rest flies refl in
      record { here = record { items = here.items; asks = here.asks; dones = here.dones }; back = alike-self board (lane_back lane) x.back }
  first_alike x (Ask op slot) rest mark flies is =
      let P : Bool → Type 0 = λ b. list_any (names lane (x.here.asks + 1)) board.drops ≡ b → cond b Drop Plain ≡ mark → AlikeBoth board lane x (arrives_first mark (Ask op slot ∷ rest) x) in
      let G : Mark → Type 0 = λ m. AlikeBoth board lane x (arrives_first m (Ask op slot ∷ rest) x) in
      (elim (list_any (names lane (x.here.asks + 1)) board.drops) as P [
        | true ↦ λ dropped e.
            let here = here_off x.here (Ask op slot) rest flies (ap (λ b. cond b [] (Ask op 0 ∷ [])) dropped) in
            let back = word_sent board (lane_back lane) x.back slot in
            let drop : G Drop = record { here = record { items = here.items; asks = here.asks; dones = here.dones }; back = record { items = back.items; asks = back.asks; dones = back.dones } } in
            subst G e drop
        | false ↦ λ kept e.
            let here = here_stands x.here (Ask op slot) rest flies (ap (λ b. cond b [] (Ask op 0 ∷ [])) kept) in
            let plain : G Plain = record { here = record { items = here.items; asks = here.asks; dones = here.dones }; back = alike-self board (lane_back lane) x.back } in
            subst G e plain
      ]) refl is
  first_alike x (Done op slot outcome) rest mark flies is =
      let P : Bool → Type 0 = λ b. list_any (names lane (x.here.dones + 1)) board.discards ≡ b → cond b Discard Plain ≡ mark → AlikeBoth board lane x (arrives_first mark (Done op slot outcome ∷ rest) x) in
      let G : Mark → Type 0 = λ m. AlikeBoth board lane x (arrives_first m (Done op slot outcome ∷ rest) x) in
      (elim (list_any (names lane (x.here.dones + 1)) board.discards) as P [
        | true ↦ λ thrown e.
            let here = here_off x.here (Done op slot outcome) rest flies (ap (λ b. cond b [] (Done op 0 outcome ∷ [])) thrown) in
            let discard : G Discard = record { here = record { items = here.items; asks = here.asks; dones = here.dones }; back = record { items = refl; asks = refl; dones = refl } } in
            subst G e discard
        | false ↦ λ kept e.
            let here = here_stands x.here (Done op slot outcome) rest flies (ap (λ b. cond b [] (Done op 0 outcome ∷ [])) kept) in
            let plain : G Plain = record { here = record { items = here.items; asks = here.asks; dones = here.dones }; back = alike-self board (lane_back lane) x.back } in
            subst G e plain
      ]) refl is
  first_alike x Room rest mark flies is =
      let here = here_off x.here Room rest flies refl in
      record { here = record { items = here.items; asks = here.asks; dones = here.dones }; back = record { items = refl; asks = refl; dones = refl } }
  first_alike x (Gone slot) rest mark flies is =
      let here = here_off x.here (Gone slot) rest flies refl in
      record { here = record { items = here.items; asks = here.asks; dones = here.dones }; back = record { items = refl; asks = refl; dones = refl } }

  next_alike : (x : Both) (flight : List Carried) (mark : Mark) → x.here.flight ≡ flight → mark_of_first board lane x.here flight ≡ Some mark → AlikeBoth board lane x (arrives_first mark flight x)
  next_alike x [] mark flies next = cc
  next_alike x (item ∷ rest) mark flies next = let is : mark_of board lane x.here item ≡ mark = cc in first_alike x item rest mark flies is

pub arrive_alike : (board : Board) (world : World) (lane : BridgeLane) (mark : Mark) → next_mark_in board world lane ≡ Some mark → AllAlike board world (after board world (Arrive lane mark))
arrive_alike board world lane mark next =
    let arrived = next_alike board lane (both world lane) (world lane).flight mark refl next in
    moved_each (λ l s. Alike board l (world l) s) (arrives mark) lane world (λ l _ _. alike-self board l (world l)) arrived.here arrived.back
