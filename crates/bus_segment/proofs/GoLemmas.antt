-- A segment goes on: nothing, and one thing after another.
use Rattle.std.proofs.Common.{◌≡◌, ℕ, List, [], ◌++◌, refl, sym, subst}
use Rattle.std.proofs.lemmas.List.{append-nil, append_assoc}
use Rattle.board_model.specs.declared.bridge.Lane.{Lane as BridgeLane}
use Rattle.board_model.specs.declared.board.Board.{Board}
use Rattle.history_model.specs.declared.event.Stamped.{Stamped}
use Rattle.lane_items.specs.declared.item.Item.{Item}
use Rattle.bus_segment.specs.Segment.{SegmentView, PortPast, SegmentPast, SegmentGoes}

-- the same of equal lists
pub past_as : (board : Board) (came : BridgeLane → List Item) (p : List Stamped) (s : SegmentView) (rest left sent put : ℕ → List Item)
    → ((n : ℕ) → rest n ≡ left n) → ((n : ℕ) → sent n ≡ put n) → SegmentPast board came p s rest sent → SegmentPast board came p s left put
past_as board came p s rest left sent put same_rest same_sent past =
    record {
      run = past.run;
      bridges = past.bridges;
      never_fall = past.never_fall;
      up_to = past.up_to;
      in_time = past.in_time;
      ports = λ n lane is.
          let L : List Item → Type 0 = λ r. PortPast board came p lane r (put n) in
          let S : List Item → Type 0 = λ s. PortPast board came p lane (rest n) s in
          subst L (same_rest n) (subst S (same_sent n) (past.ports n lane is));
      keeps = past.keeps;
    }

pub segment_none : (board : Board) (s : SegmentView) → SegmentGoes board s s [] (λ n. []) (λ n. [])
segment_none board s =
    record { goes = λ came p rest sent past. past_as board came p s (λ n. [] ++ rest n) rest sent (λ n. sent n ++ []) (λ n. refl) (λ n. sym (append-nil (sent n))) past }

pub segment_further : (board : Board) (old mid new : SegmentView) (first second : List Stamped) (some more puts others : ℕ → List Item)
    → SegmentGoes board old mid first some puts → SegmentGoes board mid new second more others → SegmentGoes board old new (second ++ first) (λ n. some n ++ more n) (λ n. puts n ++ others n)
segment_further board old mid new first second some more puts others one two =
    record {
      goes = λ came p rest sent past.
          let began = past_as board came p old (λ n. (some n ++ more n) ++ rest n) (λ n. some n ++ (more n ++ rest n)) sent sent (λ n. append_assoc (some n) (more n) (rest n)) (λ n. refl) past in
          let half = one.goes came p (λ n. more n ++ rest n) sent began in
          let whole = two.goes came (first ++ p) rest (λ n. sent n ++ puts n) half in
          let P : List Stamped → Type 0 = λ q. SegmentPast board came q new rest (λ n. sent n ++ (puts n ++ others n)) in
          subst P (sym (append_assoc second first p))
          (past_as board came (second ++ (first ++ p)) new rest rest (λ n. (sent n ++ puts n) ++ others n) (λ n. sent n ++ (puts n ++ others n)) (λ n. refl) (λ n. append_assoc (sent n) (puts n) (others n)) whole);
    }
