-- What an arrival does to what is in flight, on any board: its lane has one item less, and all that it can send is word
-- that a request was dropped, whose arrival sends nothing.
use Rattle.std.proofs.Common.{◌≡◌, Bool, true, false, List, [], ◌∷◌, Some, None, refl, sym, ap, subst, ◌∙◌}
use Rattle.std.specs.List.{list_any}
use Rattle.list_facts.proofs.AnyLemmas.{any-push_other}
use Rattle.board_model.specs.declared.bridge.Lane.{Lane as BridgeLane}
use Rattle.board_model.specs.declared.board.Board.{Board}
use Rattle.board_model.specs.Ways.{lane_back}
use Rattle.history_model.specs.declared.event.Mark.{Mark}
use Rattle.history_model.specs.declared.event.Event.TheVariants.{Arrive}
use Rattle.history_model.specs.declared.item.Carried.{Carried}
use Rattle.history_model.specs.declared.item.Carried.TheVariants.{Post, Ask, Done, Room, Gone}
use Rattle.history_model.specs.Lanes.{LaneState, Both, Effect, Stands, Credits, Frees, Drops, effect_of, takes_effect, came_off, arrives_first, arrives}
use Rattle.history_model.specs.World.{World, same_lane, both, after}
use Rattle.history_model.specs.Runs.{mark_of_first, next_mark_in}
use Rattle.history_model.proofs.facts.BridgeLemmas.{same_lane_self, same_lane_back}
use Rattle.history_model.proofs.facts.MovedLemmas.{moved_each}

-- no word that a request was dropped
abbrev pub is_sent : Carried → Bool
is_sent (Post op) = true
is_sent (Ask op slot) = true
is_sent (Done op slot outcome) = true
is_sent Room = true
is_sent (Gone slot) = false

-- nothing but such words
abbrev pub OnlyWords : List Carried → Type 0
OnlyWords flight = list_any is_sent flight ≡ false

pub record Next (flight : List Carried) : Type 0 where
  pub item : Carried
  pub rest : List Carried
  pub flies : flight ≡ item ∷ rest

first_next : (board : Board) (lane : BridgeLane) (state : LaneState) (flight : List Carried) (mark : Mark) → mark_of_first board lane state flight ≡ Some mark → Next flight
first_next board lane state [] mark next = cc
first_next board lane state (item ∷ rest) mark next = record { item = item; rest = rest; flies = refl }

pub next_flies : (board : Board) (world : World) (lane : BridgeLane) (mark : Mark) → next_mark_in board world lane ≡ Some mark → Next (world lane).flight
next_flies board world lane mark next = first_next board lane (world lane) (world lane).flight mark next

pub none_flies : (board : Board) (lane : BridgeLane) (state : LaneState) (flight : List Carried) → mark_of_first board lane state flight ≡ None → flight ≡ []
none_flies board lane state [] none = refl
none_flies board lane state (item ∷ rest) none = cc

effect_here : (effect : Effect) (item : Carried) (x : Both) → (takes_effect effect item x).here.flight ≡ x.here.flight
effect_here Stands item x = refl
effect_here Credits item x = refl
effect_here (Frees slot) item x = refl
effect_here (Drops slot) item x = refl

effect_words : (effect : Effect) (item : Carried) (x : Both) → OnlyWords x.back.flight → OnlyWords (takes_effect effect item x).back.flight
effect_words Stands item x words = words
effect_words Credits item x words = words
effect_words (Frees slot) item x words = words
effect_words (Drops slot) item x words = any-push_other is_sent x.back.flight (Gone slot) refl ∙ words

word_back : (mark : Mark) (item : Carried) (x : Both) → is_sent item ≡ false → (takes_effect (effect_of mark item) item x).back.flight ≡ x.back.flight
word_back mark (Post op) x word = cc
word_back mark (Ask op slot) x word = cc
word_back mark (Done op slot outcome) x word = cc
word_back mark Room x word = cc
word_back mark (Gone slot) x word = refl

first_word : (item : Carried) (rest : List Carried) → OnlyWords (item ∷ rest) → (is_sent item ≡ false) × OnlyWords rest
first_word (Post op) rest words = cc
first_word (Ask op slot) rest words = cc
first_word (Done op slot outcome) rest words = cc
first_word Room rest words = cc
first_word (Gone slot) rest words = (refl, words)

-- of both lanes
pub record Off (rest : List Carried) (x z : Both) : Type 0 where
  pub here : z.here.flight ≡ rest
  pub words : OnlyWords x.back.flight → OnlyWords z.back.flight
  pub quiet : OnlyWords x.here.flight → z.back.flight ≡ x.back.flight

first_off : (mark : Mark) (item : Carried) (rest : List Carried) (x : Both) → x.here.flight ≡ item ∷ rest → Off rest x (arrives_first mark (item ∷ rest) x)
first_off mark item rest x flies =
    let y : Both = record x { here = came_off item rest x.here } in
    record {
      here = effect_here (effect_of mark item) item y;
      words = effect_words (effect_of mark item) item y;
      quiet = λ words. word_back mark item y (first_word item rest (sym (ap (list_any is_sent) flies) ∙ words)).0;
    }

off_at : (world : World) (lane : BridgeLane) (mark : Mark) → (next : Next (world lane).flight) → Off next.rest (both world lane) (arrives mark (both world lane))
off_at world lane mark next =
    let x : Both = both world lane in
    subst (λ f. Off next.rest x (arrives_first mark f x)) (sym next.flies) (first_off mark next.item next.rest x next.flies)

-- of the lane one item less is in flight
pub arrive_here : (board : Board) (world : World) (lane : BridgeLane) (mark : Mark) → (next : Next (world lane).flight) → (after board world (Arrive lane mark) lane).flight ≡ next.rest
arrive_here board world lane mark next =
    let off = off_at world lane mark next in
    let P : BridgeLane → LaneState → Type 0 = λ l s. same_lane l lane ≡ true → s.flight ≡ next.rest in
    moved_each P (arrives mark) lane world (λ l apart _ same. let no : same_lane l lane ≡ false = apart in cc) (λ _. off.here)
    (λ same. let no : same_lane (lane_back lane) lane ≡ false = same_lane_back lane in cc) lane (same_lane_self lane)

-- where only words were in flight, only words are
pub arrive_words : (board : Board) (world : World) (lane : BridgeLane) (mark : Mark) → Next (world lane).flight → (l : BridgeLane) → OnlyWords (world l).flight → OnlyWords (after board world (Arrive lane mark) l).flight
arrive_words board world lane mark next =
    let off = off_at world lane mark next in
    let here : OnlyWords (world lane).flight → OnlyWords (arrives mark (both world lane)).here.flight =
    λ words. ap (list_any is_sent) off.here ∙ (first_word next.item next.rest (sym (ap (list_any is_sent) next.flies) ∙ words)).1 in
    moved_each (λ l s. OnlyWords (world l).flight → OnlyWords s.flight) (arrives mark) lane world (λ l _ _ words. words) here off.words

-- where on its lane only words were in flight, it puts nothing in flight
pub arrive_empty : (board : Board) (world : World) (lane : BridgeLane) (mark : Mark) → Next (world lane).flight → OnlyWords (world lane).flight
    → (l : BridgeLane) → (world l).flight ≡ [] → (after board world (Arrive lane mark) l).flight ≡ []
arrive_empty board world lane mark next words =
    let off = off_at world lane mark next in
    let here : (world lane).flight ≡ [] → (arrives mark (both world lane)).here.flight ≡ [] = λ empty. let flies = next.flies in cc in
    moved_each (λ l s. (world l).flight ≡ [] → s.flight ≡ []) (arrives mark) lane world (λ l _ _ e. e) here (λ e. off.quiet words ∙ e)
