-- What an operation has before it, by how far each lane of its way has brought it.
use Rattle.std.proofs.Common.{◌≡◌, ℕ, ◌+◌, ◌*◌, ◌-◌, ◌≤◌, Bool, true, false, ◌||◌, cond, Some, refl, arith, ◌⊎◌, inl, inr}
use Rattle.std.specs.List.{list_any}
use Rattle.list_facts.specs.Lists.{total}
use Rattle.history_model.specs.declared.item.Carried.{Carried}
use Rattle.history_model.specs.declared.item.Carried.TheVariants.{Post, Ask, Done, Room, Gone}
use Rattle.history_model.specs.declared.item.Slot.{Slot}
use Rattle.history_model.specs.Lanes.{Both, is_done_for}
use Rattle.history_model.specs.Local.{is_ask_of, is_gone_of}
use Rattle.law_bound.specs.stages.Stages.{stage}
use Rattle.law_lanes.specs.Slots.{hit, ask_weight, done_weight, gone_weight, ItemOf, ask_flies, ask_stands, done_flies, done_stands, gone_flies, HasOneItem}
use Rattle.list_facts.proofs.AnyLemmas.{find_any, weigh_none, any_weighs}

-- what is left by the furthest slot and how far its lane has brought it
pub chain : (long far rest : ℕ) (a b c d e : Bool) → far + rest ≡ long → 1 ≤ far → (a || (b || (c || (d || e)))) ≡ true
    → cond a (4 * (long - far) + 2 * far + 2) (cond b (4 * (long - far) + 2 * far + 1) (cond c (2 * far) (cond d (2 * far - 1) (cond e (4 * (long - far) + 2 * far + 4) (4 * long + 1)))))
    + cond a 2 (cond b 3 (cond c (4 * rest + 4) (cond d (4 * rest + 5) (cond e 0 1)))) + 2 * far ≡ 4 * long + 4
chain long far rest true b c d e sum some one = omega arith
chain long far rest false true c d e sum some one = omega arith
chain long far rest false false true d e sum some one = omega arith
chain long far rest false false false true e sum some one = omega arith
chain long far rest false false false false true sum some one = omega arith
chain long far rest false false false false false sum some one = cc

-- one of five
pub some_one : (a b c d e : Bool) → (a ≡ true) ⊎ ((b ≡ true) ⊎ ((c ≡ true) ⊎ ((d ≡ true) ⊎ (e ≡ true)))) → (a || (b || (c || (d || e)))) ≡ true
some_one true b c d e some = refl
some_one false true c d e some = refl
some_one false false true d e some = refl
some_one false false false true e some = refl
some_one false false false false true some = refl
some_one false false false false false some = elim some [ inl i ↦ cc | inr (inl i) ↦ cc | inr (inr (inl i)) ↦ cc | inr (inr (inr (inl i))) ↦ cc | inr (inr (inr (inr i))) ↦ cc ]

-- the item of a slot is somewhere
pub somewhere : (x : Both) (slot : Slot) → ItemOf slot x
    → (list_any (is_ask_of slot.number) x.here.flight ≡ true) ⊎ ((list_any (is_ask_of slot.number) x.here.standing ≡ true)
    ⊎ ((list_any (is_done_for slot.number) x.back.flight ≡ true) ⊎ ((list_any (is_done_for slot.number) x.back.standing ≡ true) ⊎ (list_any (is_gone_of slot.number) x.back.flight ≡ true))))
somewhere x slot (ask_flies is) = inl (find_any (is_ask_of slot.number) x.here.flight (Ask slot.op slot.number) is)
somewhere x slot (ask_stands is) = inr (inl (find_any (is_ask_of slot.number) x.here.standing (Ask slot.op slot.number) is))
somewhere x slot (done_flies outcome is) = inr (inr (inl (find_any (is_done_for slot.number) x.back.flight (Done slot.op slot.number outcome) is)))
somewhere x slot (done_stands outcome is) = inr (inr (inr (inl (find_any (is_done_for slot.number) x.back.standing (Done slot.op slot.number outcome) is))))
somewhere x slot (gone_flies is) = inr (inr (inr (inr (find_any (is_gone_of slot.number) x.back.flight (Gone slot.number) is))))

-- an item with a number weighs by it
ask_weighs : (number : ℕ) (item : Carried) → is_ask_of number item ≡ true → 1 ≤ ask_weight (hit number) item
ask_weighs number (Post op) is = cc
ask_weighs number (Ask op slot) is = rw is (omega arith)
ask_weighs number (Done op slot outcome) is = cc
ask_weighs number Room is = cc
ask_weighs number (Gone slot) is = cc

-- so does a completion
done_weighs : (number : ℕ) (item : Carried) → is_done_for number item ≡ true → 1 ≤ done_weight (hit number) item
done_weighs number (Post op) is = cc
done_weighs number (Ask op slot) is = cc
done_weighs number (Done op slot outcome) is = rw is (omega arith)
done_weighs number Room is = cc
done_weighs number (Gone slot) is = cc

-- and the word that a request was dropped
gone_weighs : (number : ℕ) (item : Carried) → is_gone_of number item ≡ true → 1 ≤ gone_weight (hit number) item
gone_weighs number (Post op) is = cc
gone_weighs number (Ask op slot) is = cc
gone_weighs number (Done op slot outcome) is = cc
gone_weighs number Room is = cc
gone_weighs number (Gone slot) is = rw is (omega arith)

-- the stage of a lane by the one place of the item
module _ (x : Both) (slot : Slot) (has : HasOneItem x slot) (rest : ℕ) where
  -- where no request weighs in flight, none is
  no_ask_flies : total (ask_weight (hit slot.number)) x.here.flight ≡ 0 → list_any (is_ask_of slot.number) x.here.flight ≡ false
  no_ask_flies none = weigh_none (is_ask_of slot.number) (ask_weight (hit slot.number)) (ask_weighs slot.number) x.here.flight none

  -- where no request weighs standing, none stands
  no_ask_stands : total (ask_weight (hit slot.number)) x.here.standing ≡ 0 → list_any (is_ask_of slot.number) x.here.standing ≡ false
  no_ask_stands none = weigh_none (is_ask_of slot.number) (ask_weight (hit slot.number)) (ask_weighs slot.number) x.here.standing none

  -- where no completion weighs in flight, none is
  no_done_flies : total (done_weight (hit slot.number)) x.back.flight ≡ 0 → list_any (is_done_for slot.number) x.back.flight ≡ false
  no_done_flies none = weigh_none (is_done_for slot.number) (done_weight (hit slot.number)) (done_weighs slot.number) x.back.flight none

  -- where no completion weighs standing, none stands
  no_done_stands : total (done_weight (hit slot.number)) x.back.standing ≡ 0 → list_any (is_done_for slot.number) x.back.standing ≡ false
  no_done_stands none = weigh_none (is_done_for slot.number) (done_weight (hit slot.number)) (done_weighs slot.number) x.back.standing none

  -- the request is in flight
  pub stage_ask_flies : list_any (is_ask_of slot.number) x.here.flight ≡ true → stage rest x.here x.back (Some slot) ≡ 2
  stage_ask_flies is = rw is refl

  -- the request stands
  pub stage_ask_stands : list_any (is_ask_of slot.number) x.here.standing ≡ true → stage rest x.here x.back (Some slot) ≡ 3
  stage_ask_stands is =
      let weighs = any_weighs (is_ask_of slot.number) (ask_weight (hit slot.number)) (ask_weighs slot.number) x.here.standing is in
      let a = no_ask_flies (omega (arith, has.one)) in
      rw (a, is) refl

  -- the completion is in flight
  pub stage_done_flies : list_any (is_done_for slot.number) x.back.flight ≡ true → stage rest x.here x.back (Some slot) ≡ 4 * rest + 4
  stage_done_flies is =
      let weighs = any_weighs (is_done_for slot.number) (done_weight (hit slot.number)) (done_weighs slot.number) x.back.flight is in
      let a = no_ask_flies (omega (arith, has.one)) in
      let b = no_ask_stands (omega (arith, has.one)) in
      rw (a, b, is) refl

  -- the completion stands
  pub stage_done_stands : list_any (is_done_for slot.number) x.back.standing ≡ true → stage rest x.here x.back (Some slot) ≡ 4 * rest + 5
  stage_done_stands is =
      let weighs = any_weighs (is_done_for slot.number) (done_weight (hit slot.number)) (done_weighs slot.number) x.back.standing is in
      let a = no_ask_flies (omega (arith, has.one)) in
      let b = no_ask_stands (omega (arith, has.one)) in
      let c = no_done_flies (omega (arith, has.one)) in
      rw (a, b, c, is) refl

  -- the word that the request was dropped is in flight
  pub stage_gone_flies : list_any (is_gone_of slot.number) x.back.flight ≡ true → stage rest x.here x.back (Some slot) ≡ 0
  stage_gone_flies is =
      let weighs = any_weighs (is_gone_of slot.number) (gone_weight (hit slot.number)) (gone_weighs slot.number) x.back.flight is in
      let a = no_ask_flies (omega (arith, has.one)) in
      let b = no_ask_stands (omega (arith, has.one)) in
      let c = no_done_flies (omega (arith, has.one)) in
      let d = no_done_stands (omega (arith, has.one)) in
      rw (a, b, c, d, is) refl
