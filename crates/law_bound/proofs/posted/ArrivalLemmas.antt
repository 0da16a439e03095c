-- The arrival of a posted write or of a credit lowers what is left.
use Rattle.std.proofs.Common.{◌≡◌, ◌+◌, ◌≤◌, true, List, [], ◌∷◌, refl, sym, ap, ◌∙◌, arith}
use Rattle.list_facts.specs.Lists.{total}
use Rattle.board_model.specs.declared.bridge.Lane.{Lane as BridgeLane}
use Rattle.board_model.specs.declared.board.Board.{Board}
use Rattle.history_model.specs.declared.event.Event.{Event}
use Rattle.history_model.specs.declared.event.Event.TheVariants.{Arrive}
use Rattle.history_model.specs.declared.event.Mark.{Mark}
use Rattle.history_model.specs.declared.item.Carried.{Carried}
use Rattle.history_model.specs.declared.item.Carried.TheVariants.{Post, Ask, Done, Room, Gone}
use Rattle.history_model.specs.Lanes.{LaneState, arrives}
use Rattle.history_model.specs.World.{moved, world_of}
use Rattle.history_model.specs.Runs.{Run}
use Rattle.history_model.specs.Left.{bridge_left, left_of}
use Rattle.law_lanes.specs.Depths.{DifferentNumbers}
use Rattle.law_bound.specs.posted.PostedEvents.{first_is_post_or_room}
use Rattle.law_bound.proofs.posted.AlikeLemmas.{AlikeWorlds}
use Rattle.law_bound.proofs.posted.ProgramLemmas.{world_weight, programs_fall, lanes_fall, stalls_fall, left_falls}
use Rattle.law_bound.proofs.posted.MoveLemmas.{posts_come_alike, rooms_come_alike, posts_come_weight, rooms_come_weight}
use Rattle.law_bound.proofs.posted.PostLemmas.{OfBridge, of_bridge}

module _ (board : Board) (h : List Event) (run : Run board h) (distinct : DifferentNumbers board) (lane : BridgeLane) (mark : Mark) where
  -- it changes the lanes alone, and they weigh one less
  comes_lower : AlikeWorlds (moved (arrives mark) lane (world_of board h)) (world_of board h) → world_weight board h (moved (arrives mark) lane (world_of board h)) + 1 ≡ world_weight board h (world_of board h)
      → left_of board (Arrive lane mark ∷ h) + 1 ≤ left_of board h
  comes_lower alike weight =
      let e : Event = Arrive lane mark in
      let before : total (bridge_left board h) board.bridges ≡ world_weight board h (world_of board h) = refl in
      left_falls board h e alike 0 1 0 0
      (omega (arith, programs_fall board h e alike (λ i. refl)))
      (omega (arith, lanes_fall board h e alike, weight, before))
      (omega (arith, stalls_fall board h e alike))
      (omega arith)

  -- a lane with something in flight is one of a bridge
  flies_bridge : (item : Carried) (rest : List Carried) → (world_of board h lane).flight ≡ item ∷ rest → OfBridge board lane
  flies_bridge item rest flies =
      of_bridge board h lane run
      (λ empty. let none : (world_of board h lane).flight ≡ [] = ap (λ (s : LaneState). s.flight) empty in let both : item ∷ rest ≡ [] = sym flies ∙ none in cc)

  -- by the oldest item in flight
  pub arrivals_lower : (flight : List Carried) → (world_of board h lane).flight ≡ flight → first_is_post_or_room flight ≡ true → left_of board (Arrive lane mark ∷ h) + 1 ≤ left_of board h
  arrivals_lower [] flies is = cc
  arrivals_lower (Post op ∷ rest) flies is =
      let of = flies_bridge (Post op) rest flies in
      comes_lower (posts_come_alike op mark rest lane (world_of board h) flies) (posts_come_weight board h distinct op mark rest lane (world_of board h) of.bridge of.is_bridge flies)
  arrivals_lower (Ask op slot ∷ rest) flies is = cc
  arrivals_lower (Done op slot outcome ∷ rest) flies is = cc
  arrivals_lower (Room ∷ rest) flies is =
      let of = flies_bridge Room rest flies in
      comes_lower (rooms_come_alike mark rest lane (world_of board h) flies) (rooms_come_weight board h distinct mark rest lane (world_of board h) of.bridge of.is_bridge flies)
  arrivals_lower (Gone slot ∷ rest) flies is = cc
