-- What the moves of a bridge leave as it was for an operation.
use Rattle.std.proofs.Common.{◌≡◌, ℕ, Bool, true, false, ◌||◌, eqb, List, [], ◌∷◌, ◌++◌, Option, Some, None, refl, sym, ap, subst, ◌∙◌, arith}
use Rattle.std.specs.List.{find, list_any}
use Rattle.std.proofs.lemmas.Bool.{eqb-true}
use Rattle.std.proofs.lemmas.Bool.Decides.{nat_tests}
use Rattle.pci_command.specs.declared.op_id.OpId.{OpId}
use Rattle.pci_command.specs.declared.op_id.Outcome.{Outcome}
use Rattle.pci_command.specs.Same.{same_op}
use Rattle.board_model.specs.declared.bridge.Lane.{Lane as BridgeLane}
use Rattle.history_model.specs.declared.event.By.{By}
use Rattle.history_model.specs.declared.item.Carried.{Carried}
use Rattle.history_model.specs.declared.item.Carried.TheVariants.{Post, Ask, Done, Room, Gone}
use Rattle.history_model.specs.declared.item.Slot.{Slot}
use Rattle.history_model.specs.Lanes.{Both, is_of, is_done_for, has_number, lowest_free, ask_enters, reply_to, item_ends, slot_taken, Stands, Frees, Drops, takes_effect, came_off}
use Rattle.history_model.specs.World.{World, both, moved}
use Rattle.board_model.specs.Ways.{lane_back}
use Rattle.history_model.specs.Local.{is_ask_of, is_gone_of}
use Rattle.history_model.specs.Left.{is_slot_of}
use Rattle.history_model.proofs.facts.BridgeLemmas.{flip, both_back, moved_keeps}
use Rattle.law_lanes.proofs.Laws.{lowest_free-free}
use Rattle.list_facts.proofs.AnyLemmas.{any-push_other, any-less_found, any-less_kind, find-push_other, find-less_same, found_fails}
use Rattle.law_bound.specs.stages.Stages.{stage}

-- the lane has brought the operation as far
abbrev pub Same : OpId → Both → Both → Type 0
Same o x y = (rest : ℕ) → stage rest y.here y.back (find (is_slot_of o) y.here.held) ≡ stage rest x.here x.back (find (is_slot_of o) x.here.held)

-- the items with a number are in the same places
record Alike (number : ℕ) (x y : Both) : Type 0 where
  asks_flying : list_any (is_ask_of number) y.here.flight ≡ list_any (is_ask_of number) x.here.flight
  asks_standing : list_any (is_ask_of number) y.here.standing ≡ list_any (is_ask_of number) x.here.standing
  dones_flying : list_any (is_done_for number) y.back.flight ≡ list_any (is_done_for number) x.back.flight
  dones_standing : list_any (is_done_for number) y.back.standing ≡ list_any (is_done_for number) x.back.standing
  gones : list_any (is_gone_of number) y.back.flight ≡ list_any (is_gone_of number) x.back.flight

-- where the slot of the operation is the same, and the items with its number are in the same places
same_by : (o : OpId) (x y : Both) → find (is_slot_of o) y.here.held ≡ find (is_slot_of o) x.here.held → ((slot : Slot) → find (is_slot_of o) x.here.held ≡ Some slot → Alike slot.number x y) → Same o x y
same_by o x y found alike rest =
    let Q : Option Slot → Type 0 = λ own. find (is_slot_of o) x.here.held ≡ own → stage rest y.here y.back own ≡ stage rest x.here x.back own in
    ap (stage rest y.here y.back) found ∙ (elim (find (is_slot_of o) x.here.held) as Q [
      | None ↦ λ _. refl
      | Some slot ↦ λ is.
          let same = alike slot is in
          let a = same.asks_flying in
          let b = same.asks_standing in
          let c = same.dones_flying in
          let d = same.dones_standing in
          let e = same.gones in
          rw (a, b, c, d, e) refl
    ]) refl

-- the slot of an operation, if it has one, has another number
abbrev pub Others : OpId → List Slot → ℕ → Type 0
Others o held number = (slot : Slot) → find (is_slot_of o) held ≡ Some slot → eqb number slot.number ≡ false

-- a test of two numbers goes both ways
turned : (a b : ℕ) → eqb a b ≡ false → eqb b a ≡ false
turned a b other = grind (arith, nat_tests)

-- items with another number are of another kind
done_apart : (number other : ℕ) → eqb number other ≡ false → (item : Carried) → is_done_for number item ≡ true → is_done_for other item ≡ false
done_apart number other apart (Post op) is = refl
done_apart number other apart (Ask op slot) is = refl
-- completions of another number
done_apart number other apart (Done op slot outcome) is = let same : slot ≡ number = eqb-true slot number is in subst (λ n. eqb n other ≡ false) (sym same) apart
done_apart number other apart Room is = refl
done_apart number other apart (Gone slot) is = refl

-- a completion is no request
done_no_ask : (number other : ℕ) (item : Carried) → is_done_for number item ≡ true → is_ask_of other item ≡ false
done_no_ask number other (Post op) is = refl
done_no_ask number other (Ask op slot) is = cc
done_no_ask number other (Done op slot outcome) is = refl
done_no_ask number other Room is = refl
done_no_ask number other (Gone slot) is = refl

module _ (o : OpId) (x : Both) where
  -- a delayed request of another operation is latched
  pub latch_here : (by : By) (p : OpId) → same_op p o ≡ false → Same o x (ask_enters by p x)
  latch_here by p other =
      let number : ℕ = lowest_free x.here.held in
      same_by o x (ask_enters by p x) (find-push_other (is_slot_of o) x.here.held (record { number = number; by = by; op = p }) other)
      (λ slot is.
      let fails : eqb slot.number number ≡ false = found_fails (is_slot_of o) (has_number number) x.here.held slot is (lowest_free-free x.here.held) in
      record { asks_flying = any-push_other (is_ask_of slot.number) x.here.flight (Ask p number) (turned slot.number number fails); asks_standing = refl; dones_flying = refl; dones_standing = refl; gones = refl })

  -- on the lane back nothing of a slot changes
  pub latch_back : (by : By) (p : OpId) → Same o (flip x) (flip (ask_enters by p x))
  latch_back by p =
      let item : Carried = Ask p (lowest_free x.here.held) in
      same_by o (flip x) (flip (ask_enters by p x)) refl
      (λ slot is. record {
        asks_flying = refl;
        asks_standing = refl;
        dones_flying = any-push_other (is_done_for slot.number) x.here.flight item refl;
        dones_standing = refl;
        gones = any-push_other (is_gone_of slot.number) x.here.flight item refl;
      })

  -- another slot is freed as its completion is taken
  pub taken_here : (number : ℕ) → Others o x.here.held number → Same o x (slot_taken number x)
  taken_here number others =
      same_by o x (slot_taken number x) (find-less_same (is_slot_of o) (has_number number) x.here.held (λ slot is. turned number slot.number (others slot is)))
      (λ slot is. record {
        asks_flying = refl;
        asks_standing = refl;
        dones_flying = refl;
        dones_standing = any-less_kind (is_done_for slot.number) (is_done_for number) (done_apart number slot.number (others slot is)) x.back.standing;
        gones = refl;
      })

  -- on the lane back nothing of a slot changes
  pub taken_back : (number : ℕ) → Same o (flip x) (flip (slot_taken number x))
  taken_back number =
      same_by o (flip x) (flip (slot_taken number x)) refl
      (λ slot is. record {
        asks_flying = refl;
        asks_standing = any-less_kind (is_ask_of slot.number) (is_done_for number) (done_no_ask number slot.number) x.back.standing;
        dones_flying = refl;
        dones_standing = refl;
        gones = refl;
      })

  -- another delayed request ends, and its completion goes back
  pub ends_here : (p : OpId) (outcome : Outcome) (number : ℕ) → find (is_of p) x.here.standing ≡ Some (Ask p number) → Others o x.here.held number → Same o x (item_ends p outcome x)
  ends_here p outcome number stands others =
      let item : Carried = Done p number outcome in
      let reply : x.back.flight ++ reply_to outcome (find (is_of p) x.here.standing) ≡ x.back.flight ++ item ∷ [] = ap (λ found. x.back.flight ++ reply_to outcome found) stands in
      same_by o x (item_ends p outcome x) refl
      (λ slot is. record {
        asks_flying = refl;
        asks_standing = any-less_found (is_ask_of slot.number) (is_of p) x.here.standing (Ask p number) stands (others slot is);
        dones_flying = ap (list_any (is_done_for slot.number)) reply ∙ any-push_other (is_done_for slot.number) x.back.flight item (others slot is);
        dones_standing = refl;
        gones = ap (list_any (is_gone_of slot.number)) reply ∙ any-push_other (is_gone_of slot.number) x.back.flight item refl;
      })

  -- on the lane back nothing of a slot changes
  pub ends_back : (p : OpId) (outcome : Outcome) (number : ℕ) → find (is_of p) x.here.standing ≡ Some (Ask p number) → Same o (flip x) (flip (item_ends p outcome x))
  ends_back p outcome number stands =
      let item : Carried = Done p number outcome in
      let reply : x.back.flight ++ reply_to outcome (find (is_of p) x.here.standing) ≡ x.back.flight ++ item ∷ [] = ap (λ found. x.back.flight ++ reply_to outcome found) stands in
      same_by o (flip x) (flip (item_ends p outcome x)) refl
      (λ slot is. record {
        asks_flying = ap (list_any (is_ask_of slot.number)) reply ∙ any-push_other (is_ask_of slot.number) x.back.flight item refl;
        asks_standing = refl;
        dones_flying = refl;
        dones_standing = any-less_found (is_done_for slot.number) (is_of p) x.here.standing (Ask p number) stands refl;
        gones = refl;
      })

  -- what comes off the lane
  module _ (rest : List Carried) where
    -- an item that a test does not count
    off : (item : Carried) (test : Carried → Bool) → x.here.flight ≡ item ∷ rest → test item ≡ false → list_any test rest ≡ list_any test x.here.flight
    off item test is fails = let F : Bool → Type 0 = λ b. list_any test rest ≡ (b || list_any test rest) in let there : F (test item) = subst F (sym fails) refl in there ∙ sym (ap (list_any test) is)

    -- another delayed request comes to stand
    pub ask_here : (p : OpId) (number : ℕ) → x.here.flight ≡ Ask p number ∷ rest → Others o x.here.held number → Same o x (takes_effect Stands (Ask p number) (record x { here = came_off (Ask p number) rest x.here }))
    ask_here p number is others =
        let item : Carried = Ask p number in
        same_by o x (takes_effect Stands item (record x { here = came_off item rest x.here })) refl
        (λ slot found. record {
          asks_flying = off item (is_ask_of slot.number) is (others slot found);
          asks_standing = any-push_other (is_ask_of slot.number) x.here.standing item (others slot found);
          dones_flying = refl;
          dones_standing = refl;
          gones = refl;
        })

    -- on the lane back nothing of a slot changes
    pub ask_back : (p : OpId) (number : ℕ) → x.here.flight ≡ Ask p number ∷ rest → Same o (flip x) (flip (takes_effect Stands (Ask p number) (record x { here = came_off (Ask p number) rest x.here })))
    ask_back p number is =
        let item : Carried = Ask p number in
        same_by o (flip x) (flip (takes_effect Stands item (record x { here = came_off item rest x.here }))) refl
        (λ slot found. record {
          asks_flying = refl;
          asks_standing = refl;
          dones_flying = off item (is_done_for slot.number) is refl;
          dones_standing = any-push_other (is_done_for slot.number) x.here.standing item refl;
          gones = off item (is_gone_of slot.number) is refl;
        })

    -- another delayed request is dropped
    pub drop_here : (p : OpId) (number : ℕ) → x.here.flight ≡ Ask p number ∷ rest → Others o x.here.held number → Same o x (takes_effect (Drops number) (Ask p number) (record x { here = came_off (Ask p number) rest x.here }))
    drop_here p number is others =
        let item : Carried = Ask p number in
        same_by o x (takes_effect (Drops number) item (record x { here = came_off item rest x.here })) refl
        (λ slot found. record {
          asks_flying = off item (is_ask_of slot.number) is (others slot found);
          asks_standing = refl;
          dones_flying = any-push_other (is_done_for slot.number) x.back.flight (Gone number) refl;
          dones_standing = refl;
          gones = any-push_other (is_gone_of slot.number) x.back.flight (Gone number) (others slot found);
        })

    -- on the lane back nothing of a slot changes
    pub drop_back : (p : OpId) (number : ℕ) → x.here.flight ≡ Ask p number ∷ rest → Same o (flip x) (flip (takes_effect (Drops number) (Ask p number) (record x { here = came_off (Ask p number) rest x.here })))
    drop_back p number is =
        let item : Carried = Ask p number in
        same_by o (flip x) (flip (takes_effect (Drops number) item (record x { here = came_off item rest x.here }))) refl
        (λ slot found. record {
          asks_flying = any-push_other (is_ask_of slot.number) x.back.flight (Gone number) refl;
          asks_standing = refl;
          dones_flying = off item (is_done_for slot.number) is refl;
          dones_standing = refl;
          gones = off item (is_gone_of slot.number) is refl;
        })

    -- another completion comes to stand
    pub done_here : (p : OpId) (number : ℕ) (outcome : Outcome) → x.here.flight ≡ Done p number outcome ∷ rest → Same o x (takes_effect Stands (Done p number outcome) (record x { here = came_off (Done p number outcome) rest x.here }))
    done_here p number outcome is =
        let item : Carried = Done p number outcome in
        same_by o x (takes_effect Stands item (record x { here = came_off item rest x.here })) refl
        (λ slot found. record {
          asks_flying = off item (is_ask_of slot.number) is refl;
          asks_standing = any-push_other (is_ask_of slot.number) x.here.standing item refl;
          dones_flying = refl;
          dones_standing = refl;
          gones = refl;
        })

    -- on the lane back, where its slot is held, nothing of another slot changes
    pub done_back : (p : OpId) (number : ℕ) (outcome : Outcome) → x.here.flight ≡ Done p number outcome ∷ rest → Others o x.back.held number
        → Same o (flip x) (flip (takes_effect Stands (Done p number outcome) (record x { here = came_off (Done p number outcome) rest x.here })))
    done_back p number outcome is others =
        let item : Carried = Done p number outcome in
        same_by o (flip x) (flip (takes_effect Stands item (record x { here = came_off item rest x.here }))) refl
        (λ slot found. record {
          asks_flying = refl;
          asks_standing = refl;
          dones_flying = off item (is_done_for slot.number) is (others slot found);
          dones_standing = any-push_other (is_done_for slot.number) x.here.standing item (others slot found);
          gones = off item (is_gone_of slot.number) is refl;
        })

    -- another slot of the lane back is freed by what came off
    pub frees_here : (item : Carried) (number : ℕ) → x.here.flight ≡ item ∷ rest → ((other : ℕ) → is_ask_of other item ≡ false) → Same o x (takes_effect (Frees number) item (record x { here = came_off item rest x.here }))
    frees_here item number is no_ask =
        same_by o x (takes_effect (Frees number) item (record x { here = came_off item rest x.here })) refl
        (λ slot found. record { asks_flying = off item (is_ask_of slot.number) is (no_ask slot.number); asks_standing = refl; dones_flying = refl; dones_standing = refl; gones = refl })

    -- on the lane back, where the slot is held, nothing of another slot changes
    pub frees_back : (item : Carried) (number : ℕ) → x.here.flight ≡ item ∷ rest
        → ((other : ℕ) → eqb number other ≡ false → is_done_for other item ≡ false) → ((other : ℕ) → eqb number other ≡ false → is_gone_of other item ≡ false) → Others o x.back.held number
        → Same o (flip x) (flip (takes_effect (Frees number) item (record x { here = came_off item rest x.here })))
    frees_back item number is no_done no_gone others =
        same_by o (flip x) (flip (takes_effect (Frees number) item (record x { here = came_off item rest x.here })))
        (find-less_same (is_slot_of o) (has_number number) x.back.held (λ slot found. turned number slot.number (others slot found)))
        (λ slot found. record {
          asks_flying = refl;
          asks_standing = refl;
          dones_flying = off item (is_done_for slot.number) is (no_done slot.number (others slot found));
          dones_standing = refl;
          gones = off item (is_gone_of slot.number) is (no_gone slot.number (others slot found));
        })

-- a move that leaves both lanes of its bridge as they were, but for lanes that are not looked at, leaves every lane so
pub moved_same : (o : OpId) (skip : BridgeLane → Bool) (move : Both → Both) (lane : BridgeLane) (world : World)
    → (skip lane ≡ false → Same o (both world lane) (move (both world lane)))
    → (skip (lane_back lane) ≡ false → Same o (flip (both world lane)) (flip (move (both world lane))))
    → (l : BridgeLane) → skip l ≡ false → Same o (both world l) (both (moved move lane world) l)
moved_same o skip move lane world here back l looked =
    let P : BridgeLane → Both → Type 0 = λ k y. skip k ≡ false → Same o (both world k) y in
    let there : P (lane_back lane) (flip (move (both world lane))) = λ seen. subst (λ x. Same o x (flip (move (both world lane)))) (sym (both_back world lane)) (back seen) in
    moved_keeps P move lane world (λ k _ rest. refl) here there l looked
