-- Bridge by bridge all lanes are settled.
use Rattle.std.proofs.Common.{◌≡◌, ◌≢◌, ℕ, ◌+◌, ◌<◌, ◌≤◌, ◌==◌, Bool, true, false, List, length, Some, refl, sym, ap, subst, ◌∙◌, arith, slice_get}
use Rattle.std.proofs.lemmas.Bool.{eqb-true, eqb-false}
use Rattle.std.proofs.lemmas.Option.{slice_get_within}
use Rattle.board_model.specs.Limits.{most_waiting}
use Rattle.board_model.specs.declared.bridge.Lane.{Lane as BridgeLane}
use Rattle.board_model.specs.Ways.{lane_back}
use Rattle.lane_items.specs.declared.item.Item.{Item}
use Rattle.lane_items.specs.Lane.{GotInOrder, left_count}
use Rattle.bus_core.specs.Bus.{shape_of}
use Rattle.bus_segment.specs.Segment.{SegmentView}
use Rattle.bus_segment.specs.Stands.{WorkerView}
use Rattle.bus_segment.proofs.Laws.{there_at}
use Rattle.engine_phases.specs.Workers.{EndAt}
use Rattle.engine_phases.specs.Phase.{OnlyEnds, LaneSettled, AllMaySettle, AllSettled}
use Rattle.engine_phases.proofs.Laws.{same_there, same_port}
use Rattle.engine_runs.specs.declared.settling.Above.{Above}
use Rattle.engine_segments.specs.First.{down_to, up_from}
use Rattle.engine_runs.specs.Settling.{IsAbove, AreAbove, AreLaidOut, CanMeet, SettlesOne, SettledSoFar}

-- the same end, at a worker whose ends alone changed
only_none : {End : Type 0} (w : WorkerView End) → OnlyEnds w w
only_none w = record { segment = refl; events = refl; many = refl }

only_more : {End : Type 0} (a b c : WorkerView End) → OnlyEnds a b → OnlyEnds b c → OnlyEnds a c
only_more a b c one two = record { segment = two.segment ∙ one.segment; events = two.events ∙ one.events; many = two.many ∙ one.many }

lane_moved : {End : Type 0} (v u : WorkerView End) → OnlyEnds v u → (n : ℕ) (lane : BridgeLane) → slice_get (shape_of v.segment.bus).lanes n ≡ Some lane → slice_get (shape_of u.segment.bus).lanes n ≡ Some lane
lane_moved v u only n lane here = ap (λ (s : SegmentView). slice_get (shape_of s.bus).lanes n) only.segment ∙ here

-- a number is this one or another
is_same : (P : Type 0) (a b : ℕ) → (a ≡ b → P) → (a ≢ b → P) → P
is_same P a b here other =
    let Q : Bool → Type 0 = λ t. (a == b) ≡ t → P in
    (elim (a == b) as Q [ true ↦ λ same. here (eqb-true a b same) | false ↦ λ differ. other (eqb-false a b differ) ]) refl

module _ {End : Type 0} (had sent got : End → List Item) (kept : End → ℕ) (paired : End → End → Type 0) (both_ways : (a b : End) → paired a b → paired b a) (old : List (WorkerView End)) (above : List Above)
    (laid : AreLaidOut old) (are_above : AreAbove old above) where
  -- a lane has one place
  one_place : (k m : ℕ) (w v : WorkerView End) (n i : ℕ) (lane : BridgeLane) → slice_get old k ≡ Some w → slice_get old m ≡ Some v → slice_get (shape_of w.segment.bus).lanes n ≡ Some lane
      → slice_get (shape_of v.segment.bus).lanes i ≡ Some lane → (k ≡ m) × (n ≡ i)
  one_place k m w v n i lane here there at also =
      let buses : w.segment.bus.bus ≡ v.segment.bus.bus = sym (laid.are.ends_there k w n lane here at) ∙ laid.are.ends_there m v i lane there also in
      let places : k ≡ m = laid.apart.apart k m w v here there buses in
      let one : w ≡ v = same_there old m w v (sym (ap (slice_get old) places) ∙ here) there in
      let at_v : slice_get (shape_of v.segment.bus).lanes n ≡ Some lane = subst (λ (x : WorkerView End). slice_get (shape_of x.segment.bus).lanes n ≡ Some lane) one at in
      (places, same_port laid.board (shape_of v.segment.bus) lane n i (laid.are.of_board m v there) at_v also)

  -- nothing is settled yet
  pub settled_none : SettledSoFar had sent got kept paired 0 old old
  settled_none = record {
    same_many = refl;
    each = λ k w here. (w, here, only_none w);
    done = λ j u few here. absurd (omega (arith, few));
    rest = λ k w w_after lane end end_after here there at also others.
        let same : w ≡ w_after = same_there old k w w_after here there in
        let back : EndAt w lane end_after = subst (λ (x : WorkerView End). EndAt x lane end_after) (sym same) also in
        let port = same_port laid.board (shape_of w.segment.bus) lane back.port at.port (laid.are.of_board k w here) back.lane_is at.lane_is in
        same_there w.ends at.port end_after end (ap (slice_get w.ends) (sym port) ∙ back.end_is) at.end_is;
  }

  module _ (i : ℕ) (mid : List (WorkerView End)) (up : Above) (so_far : SettledSoFar had sent got kept paired i old mid) (listed : slice_get above i ≡ Some up) where
    is_above : IsAbove old (i + 1) up
    is_above = are_above.each i up listed

    -- the lanes of this bridge were not settled before
    not_before : (lane : BridgeLane) → lane.bus ≡ is_above.lower.segment.bus.bus → (j : ℕ) (u : WorkerView End) → j < i → slice_get old (j + 1) ≡ Some u → lane.bus ≢ u.segment.bus.bus
    not_before lane own j u few here same =
        let one : j + 1 ≡ i + 1 = laid.apart.apart (j + 1) (i + 1) u is_above.lower here is_above.lower_is (sym same ∙ own) in
        omega (arith, one, few)

    -- the worker at a place now
    pub now_at : (k : ℕ) (w : WorkerView End) → slice_get old k ≡ Some w → (v : WorkerView End) × (slice_get mid k ≡ Some v) × OnlyEnds w v
    now_at = so_far.each

    -- an end at a port of it
    end_mid : (k : ℕ) (w v : WorkerView End) (lane : BridgeLane) (end : End) → slice_get old k ≡ Some w → OnlyEnds w v → (at : EndAt w lane end) → (e : End) × EndAt v lane e × (slice_get v.ends at.port ≡ Some e)
    end_mid k w v lane end here only at =
        let within = slice_get_within w.ends at.port end at.end_is in
        let many = only.many in
        let found = there_at v.ends at.port (omega (arith, within, many)) in
        (found.0, record { port = at.port; lane_is = lane_moved w v only at.port lane at.lane_is; end_is = found.1 }, found.1)

    pub can_meet : AllMaySettle had sent got kept paired old → CanMeet had sent got kept paired mid up (i + 1)
    can_meet may =
        let upper = now_at up.worker is_above.upper is_above.upper_is in
        let lower = now_at (i + 1) is_above.lower is_above.lower_is in
        let bus : ℕ = is_above.lower.segment.bus.bus in
        let up_within = slice_get_within (shape_of is_above.upper.segment.bus).lanes up.port (up_from bus) is_above.up in
        let up_many = laid.apart.one_a_port up.worker is_above.upper is_above.upper_is in
        let down_within = slice_get_within (shape_of is_above.lower.segment.bus).lanes 0 (down_to bus) is_above.down in
        let down_many = laid.apart.one_a_port (i + 1) is_above.lower is_above.lower_is in
        let upper_many = upper.2.many in
        let lower_many = lower.2.many in
        let first = there_at is_above.upper.ends up.port (omega (arith, up_within, up_many)) in
        let second = there_at is_above.lower.ends 0 (omega (arith, down_within, down_many)) in
        let first_at : EndAt is_above.upper (up_from bus) first.0 = record { port = up.port; lane_is = is_above.up; end_is = first.1 } in
        let second_at : EndAt is_above.lower (down_to bus) second.0 = record { port = 0; lane_is = is_above.down; end_is = second.1 } in
        let first_same : (e : End) → slice_get upper.0.ends up.port ≡ Some e → first.0 ≡ e = λ e there.
        sym (so_far.rest up.worker is_above.upper upper.0 (up_from bus) first.0 e is_above.upper_is upper.1 first_at
        (record { port = up.port; lane_is = lane_moved is_above.upper upper.0 upper.2 up.port (up_from bus) is_above.up; end_is = there }) (not_before (up_from bus) refl)) in
        let second_same : (e : End) → slice_get lower.0.ends 0 ≡ Some e → second.0 ≡ e = λ e there.
        sym (so_far.rest (i + 1) is_above.lower lower.0 (down_to bus) second.0 e is_above.lower_is lower.1 second_at
        (record { port = 0; lane_is = lane_moved is_above.lower lower.0 lower.2 0 (down_to bus) is_above.down; end_is = there }) (not_before (down_to bus) refl)) in
        record {
          earlier = is_above.earlier;
          upper = upper.0;
          lower = lower.0;
          upper_is = upper.1;
          lower_is = lower.1;
          upper_port = omega (arith, up_within, up_many, upper_many);
          lower_port = omega (arith, down_within, down_many, lower_many);
          may = record {
            pairs = λ a b here there.
                let P : End → End → Type 0 = λ x y. paired x y in
                subst (λ x. P x b) (first_same a here) (subst (P first.0) (second_same b there)
                (may.pairs up.worker (i + 1) is_above.upper is_above.lower (up_from bus) first.0 second.0 is_above.upper_is is_above.lower_is first_at second_at));
            fits = λ a b here there.
                let P : End → End → Type 0 = λ x y. GotInOrder (had y) (got y) (sent x) (kept x) → GotInOrder (had x) (got x) (sent y) (kept y)
                → (left_count (had y) (got y) (sent x) ≤ most_waiting) × (left_count (had x) (got x) (sent y) ≤ most_waiting) in
                let fits : P first.0 second.0 =
                may.fits (i + 1) up.worker is_above.lower is_above.upper (down_to bus) second.0 first.0 is_above.lower_is is_above.upper_is second_at first_at in
                subst (λ x. P x b) (first_same a here) (subst (P first.0) (second_same b there) fits);
          };
        }

    module _ (new : List (WorkerView End)) (one : SettlesOne had sent got kept paired mid up (i + 1) new) where
      -- a worker after it
      each_one : (k : ℕ) (v : WorkerView End) → slice_get mid k ≡ Some v → (x : WorkerView End) × (slice_get new k ≡ Some x) × OnlyEnds v x
      each_one k v here =
          let Goal : Type 0 = (x : WorkerView End) × (slice_get new k ≡ Some x) × OnlyEnds v x in
          is_same Goal k up.worker
          (λ same.
          let is : one.upper ≡ v = same_there mid k one.upper v (ap (slice_get mid) same ∙ one.upper_was) here in
          (one.upper_after, ap (slice_get new) same ∙ one.upper_is, subst (λ (y : WorkerView End). OnlyEnds y one.upper_after) is one.upper_only))
          (λ other.
          is_same Goal k (i + 1)
          (λ same.
          let is : one.lower ≡ v = same_there mid k one.lower v (ap (slice_get mid) same ∙ one.lower_was) here in
          (one.lower_after, ap (slice_get new) same ∙ one.lower_is, subst (λ (y : WorkerView End). OnlyEnds y one.lower_after) is one.lower_only))
          (λ apart. (v, one.others k other apart ∙ here, only_none v)))

      only_new : (k : ℕ) (v x : WorkerView End) → slice_get mid k ≡ Some v → slice_get new k ≡ Some x → OnlyEnds v x
      only_new k v x was is =
          let found = each_one k v was in
          subst (λ (y : WorkerView End). OnlyEnds v y) (same_there new k found.0 x found.1 is) found.2

      -- an end that is none of the two stays
      end_stays : (k : ℕ) (v x : WorkerView End) (n : ℕ) (e e_after : End) → slice_get mid k ≡ Some v → slice_get new k ≡ Some x → slice_get v.ends n ≡ Some e → slice_get x.ends n ≡ Some e_after
          → (k ≡ up.worker → n ≡ up.port → ⊥) → (k ≡ i + 1 → n ≡ 0 → ⊥) → e_after ≡ e
      end_stays k v x n e e_after here there at after no_upper no_lower =
          is_same (e_after ≡ e) k up.worker
          (λ same.
          let was : one.upper ≡ v = same_there mid k one.upper v (ap (slice_get mid) same ∙ one.upper_was) here in
          let is : one.upper_after ≡ x = same_there new k one.upper_after x (ap (slice_get new) same ∙ one.upper_is) there in
          let then : slice_get one.upper.ends n ≡ Some e = ap (λ (y : WorkerView End). slice_get y.ends n) was ∙ at in
          let now : slice_get one.upper_after.ends n ≡ Some e_after = ap (λ (y : WorkerView End). slice_get y.ends n) is ∙ after in
          same_there one.upper_after.ends n e_after e now (one.settles.here_one.others n (no_upper same) ∙ then))
          (λ other.
          is_same (e_after ≡ e) k (i + 1)
          (λ same.
          let was : one.lower ≡ v = same_there mid k one.lower v (ap (slice_get mid) same ∙ one.lower_was) here in
          let is : one.lower_after ≡ x = same_there new k one.lower_after x (ap (slice_get new) same ∙ one.lower_is) there in
          let then : slice_get one.lower.ends n ≡ Some e = ap (λ (y : WorkerView End). slice_get y.ends n) was ∙ at in
          let now : slice_get one.lower_after.ends n ≡ Some e_after = ap (λ (y : WorkerView End). slice_get y.ends n) is ∙ after in
          same_there one.lower_after.ends n e_after e now (one.settles.there_one.others n (no_lower same) ∙ then))
          (λ apart.
          let is : x ≡ v = same_there new k x v there (one.others k other apart ∙ here) in
          let now : slice_get v.ends n ≡ Some e_after = ap (λ (y : WorkerView End). slice_get y.ends n) (sym is) ∙ after in
          same_there v.ends n e_after e now at))

      -- so do the ends of the lanes of other bridges
      lane_stays : (k : ℕ) (w v x : WorkerView End) (lane : BridgeLane) (e e_after : End) → slice_get old k ≡ Some w → slice_get mid k ≡ Some v → slice_get new k ≡ Some x → OnlyEnds w v → OnlyEnds v x
          → EndAt v lane e → EndAt x lane e_after → lane.bus ≢ is_above.lower.segment.bus.bus → e_after ≡ e
      lane_stays k w v x lane e e_after was here there only more at after apart =
          let bus : ℕ = is_above.lower.segment.bus.bus in
          let whole = only_more w v x only more in
          let at_w : slice_get (shape_of w.segment.bus).lanes at.port ≡ Some lane = ap (λ (s : SegmentView). slice_get (shape_of s.bus).lanes at.port) (sym only.segment) ∙ at.lane_is in
          let after_w : slice_get (shape_of w.segment.bus).lanes after.port ≡ Some lane = ap (λ (s : SegmentView). slice_get (shape_of s.bus).lanes after.port) (sym whole.segment) ∙ after.lane_is in
          let port : after.port ≡ at.port = same_port laid.board (shape_of w.segment.bus) lane after.port at.port (laid.are.of_board k w was) after_w at_w in
          let now : slice_get x.ends at.port ≡ Some e_after = ap (slice_get x.ends) (sym port) ∙ after.end_is in
          end_stays k v x at.port e e_after here there at.end_is now
          (λ same place.
          let there_w : is_above.upper ≡ w = same_there old k is_above.upper w (ap (slice_get old) same ∙ is_above.upper_is) was in
          let is : slice_get (shape_of w.segment.bus).lanes at.port ≡ Some (up_from bus) =
          ap (slice_get (shape_of w.segment.bus).lanes) place ∙ (ap (λ (y : WorkerView End). slice_get (shape_of y.segment.bus).lanes up.port) (sym there_w) ∙ is_above.up) in
          let one_lane : lane ≡ up_from bus = same_there (shape_of w.segment.bus).lanes at.port lane (up_from bus) at_w is in
          apart (ap (λ (l : BridgeLane). l.bus) one_lane))
          (λ same place.
          let there_w : is_above.lower ≡ w = same_there old k is_above.lower w (ap (slice_get old) same ∙ is_above.lower_is) was in
          let is : slice_get (shape_of w.segment.bus).lanes at.port ≡ Some (down_to bus) =
          ap (slice_get (shape_of w.segment.bus).lanes) place ∙ (ap (λ (y : WorkerView End). slice_get (shape_of y.segment.bus).lanes 0) (sym there_w) ∙ is_above.down) in
          let one_lane : lane ≡ down_to bus = same_there (shape_of w.segment.bus).lanes at.port lane (down_to bus) at_w is in
          apart (ap (λ (l : BridgeLane). l.bus) one_lane))

      -- the ends of this bridge are those that were settled
      met : (place port : ℕ) (u u_mid u_new : WorkerView End) (lane : BridgeLane) (a a_after : End) → slice_get old place ≡ Some u → slice_get mid place ≡ Some u_mid → slice_get new place ≡ Some u_new
          → OnlyEnds u u_mid → OnlyEnds u_mid u_new → slice_get (shape_of u.segment.bus).lanes port ≡ Some lane → slice_get u_mid.ends port ≡ Some a → slice_get u_new.ends port ≡ Some a_after
          → lane.bus ≡ is_above.lower.segment.bus.bus → (k : ℕ) (w x : WorkerView End) (e e_after : End) → slice_get old k ≡ Some w → slice_get new k ≡ Some x → EndAt w lane e → EndAt x lane e_after
          → (e ≡ a) × (e_after ≡ a_after)
      met place port u u_mid u_new lane a a_after u_was u_then u_is only more here a_was a_is own k w x e e_after was is at after =
          let places = one_place k place w u at.port port lane was u_was at.lane_is here in
          let w_is : w ≡ u = same_there old place w u (ap (slice_get old) (sym places.0) ∙ was) u_was in
          let x_is : x ≡ u_new = same_there new place x u_new (ap (slice_get new) (sym places.0) ∙ is) u_is in
          let e_there : slice_get u.ends port ≡ Some e = ap (slice_get u.ends) (sym places.1) ∙ (ap (λ (y : WorkerView End). slice_get y.ends at.port) (sym w_is) ∙ at.end_is) in
          let at_u : EndAt u lane e = record { port = port; lane_is = here; end_is = e_there } in
          let at_mid : EndAt u_mid lane a = record { port = port; lane_is = lane_moved u u_mid only port lane here; end_is = a_was } in
          let first : a ≡ e = so_far.rest place u u_mid lane e a u_was u_then at_u at_mid (not_before lane own) in
          let whole = only_more u u_mid u_new only more in
          let after_u : slice_get (shape_of u.segment.bus).lanes after.port ≡ Some lane =
          ap (λ (s : SegmentView). slice_get (shape_of s.bus).lanes after.port) (sym whole.segment) ∙ (ap (λ (y : WorkerView End). slice_get (shape_of y.segment.bus).lanes after.port) (sym x_is) ∙ after.lane_is) in
          let ports : after.port ≡ port = same_port laid.board (shape_of u.segment.bus) lane after.port port (laid.are.of_board place u u_was) after_u here in
          let after_there : slice_get u_new.ends port ≡ Some e_after = ap (slice_get u_new.ends) (sym ports) ∙ (ap (λ (y : WorkerView End). slice_get y.ends after.port) (sym x_is) ∙ after.end_is) in
          (sym first, same_there u_new.ends port e_after a_after after_there a_is)

      only_then : (place : ℕ) (u u_mid : WorkerView End) → slice_get old place ≡ Some u → slice_get mid place ≡ Some u_mid → OnlyEnds u u_mid
      only_then place u u_mid was is =
          let found = now_at place u was in
          subst (λ (y : WorkerView End). OnlyEnds u y) (same_there mid place found.0 u_mid found.1 is) found.2

      abbrev Own : ℕ
      Own = is_above.lower.segment.bus.bus

      met_above : (k : ℕ) (w x : WorkerView End) (e e_after : End) → slice_get old k ≡ Some w → slice_get new k ≡ Some x → EndAt w (up_from Own) e → EndAt x (up_from Own) e_after → (e ≡ one.settles.a) × (e_after ≡ one.settles.a_after)
      met_above k w x e e_after was is at after =
          met up.worker up.port is_above.upper one.upper one.upper_after (up_from Own) one.settles.a one.settles.a_after is_above.upper_is one.upper_was one.upper_is
          (only_then up.worker is_above.upper one.upper is_above.upper_is one.upper_was) one.upper_only is_above.up one.settles.here_one.was one.settles.here_one.is refl k w x e e_after was is at after

      met_below : (k : ℕ) (w x : WorkerView End) (e e_after : End) → slice_get old k ≡ Some w → slice_get new k ≡ Some x → EndAt w (down_to Own) e → EndAt x (down_to Own) e_after → (e ≡ one.settles.b) × (e_after ≡ one.settles.b_after)
      met_below k w x e e_after was is at after =
          met (i + 1) 0 is_above.lower one.lower one.lower_after (down_to Own) one.settles.b one.settles.b_after is_above.lower_is one.lower_was one.lower_is
          (only_then (i + 1) is_above.lower one.lower is_above.lower_is one.lower_was) one.lower_only is_above.down one.settles.there_one.was one.settles.there_one.is refl k w x e e_after was is at after

      -- its two lanes
      abbrev IsSettled : BridgeLane → Type 0
      IsSettled lane =
          (k m : ℕ) (w v w_after v_after : WorkerView End) (far near far_after near_after : End) → slice_get old k ≡ Some w → slice_get old m ≡ Some v → slice_get new k ≡ Some w_after → slice_get new m ≡ Some v_after
          → EndAt w lane far → EndAt v (lane_back lane) near → EndAt w_after lane far_after → EndAt v_after (lane_back lane) near_after → LaneSettled had sent got kept paired far near far_after near_after

      abbrev Four : End → End → End → End → Type 0
      Four far near far_after near_after = LaneSettled had sent got kept paired far near far_after near_after

      four_same : (a b c d e f g h : End) → e ≡ a → f ≡ b → g ≡ c → h ≡ d → Four a b c d → Four e f g h
      four_same a b c d e f g h one_is two_is three_is four_is settled =
          subst (λ x. Four x f g h) (sym one_is) (subst (λ x. Four a x g h) (sym two_is) (subst (λ x. Four a b x h) (sym three_is) (subst (λ x. Four a b c x) (sym four_is) settled)))

      up_settled : IsSettled (up_from Own)
      up_settled k m w v w_after v_after far near far_after near_after here there now_here now_there at back after after_back =
          let mine = met_above k w w_after far far_after here now_here at after in
          let other = met_below m v v_after near near_after there now_there back after_back in
          four_same one.settles.a one.settles.b one.settles.a_after one.settles.b_after far near far_after near_after mine.0 other.0 mine.1 other.1
          (record { crosses = one.settles.settled.to_a; emptied = one.settles.settled.a_emptied; pairs = one.settles.settled.pairs })

      down_settled : IsSettled (down_to Own)
      down_settled k m w v w_after v_after far near far_after near_after here there now_here now_there at back after after_back =
          let mine = met_below k w w_after far far_after here now_here at after in
          let other = met_above m v v_after near near_after there now_there back after_back in
          four_same one.settles.b one.settles.a one.settles.b_after one.settles.a_after far near far_after near_after mine.0 other.0 mine.1 other.1
          (record { crosses = one.settles.settled.to_b; emptied = one.settles.settled.b_emptied; pairs = both_ways one.settles.a_after one.settles.b_after one.settles.settled.pairs })

      own_settled : (lane : BridgeLane) → lane.bus ≡ Own → IsSettled lane
      own_settled lane own =
          let Rebuilt : ℕ → Bool → BridgeLane = λ n u. record { bus = n; up = u } in
          let P : Bool → Type 0 = λ u. lane.up ≡ u → IsSettled lane in
          (elim lane.up as P [
            | true ↦ λ is. let same : lane ≡ up_from Own = ap (λ n. Rebuilt n lane.up) own ∙ ap (Rebuilt Own) is in subst IsSettled (sym same) up_settled
            | false ↦ λ is. let same : lane ≡ down_to Own = ap (λ n. Rebuilt n lane.up) own ∙ ap (Rebuilt Own) is in subst IsSettled (sym same) down_settled
          ]) refl

      -- the lanes of a bridge that was settled before stay so
      still_settled : (j : ℕ) (u : WorkerView End) → j < i → slice_get old (j + 1) ≡ Some u → (lane : BridgeLane) → lane.bus ≡ u.segment.bus.bus → IsSettled lane
      still_settled j u few listed_u lane own k m w v w_after v_after far near far_after near_after here there now_here now_there at back after after_back =
          let apart : lane.bus ≢ Own = λ same.
          let one_bus : j + 1 ≡ i + 1 = laid.apart.apart (j + 1) (i + 1) u is_above.lower listed_u is_above.lower_is (sym own ∙ same) in omega (arith, one_bus, few) in
          let w_mid = now_at k w here in
          let v_mid = now_at m v there in
          let far_mid = end_mid k w w_mid.0 lane far here w_mid.2 at in
          let near_mid = end_mid m v v_mid.0 (lane_back lane) near there v_mid.2 back in
          let settled = (so_far.done j u few listed_u).lanes k m w v w_mid.0 v_mid.0 lane far near far_mid.0 near_mid.0 here there w_mid.1 v_mid.1 at back far_mid.1 near_mid.1 own in
          let far_same = lane_stays k w w_mid.0 w_after lane far_mid.0 far_after here w_mid.1 now_here w_mid.2 (only_new k w_mid.0 w_after w_mid.1 now_here) far_mid.1 after apart in
          let near_same = lane_stays m v v_mid.0 v_after (lane_back lane) near_mid.0 near_after there v_mid.1 now_there v_mid.2 (only_new m v_mid.0 v_after v_mid.1 now_there) near_mid.1 after_back apart in
          four_same far near far_mid.0 near_mid.0 far near far_after near_after refl refl far_same near_same settled

      pub settled_more : SettledSoFar had sent got kept paired (i + 1) old new
      settled_more = record {
        same_many = one.many ∙ so_far.same_many;
        each = λ k w here.
            let mine = now_at k w here in
            let next = each_one k mine.0 mine.1 in
            (next.0, next.1, only_more w mine.0 next.0 mine.2 next.2);
        done = λ j u few here. record {
          lanes = λ k m w v w_after v_after lane far near far_after near_after was were is are at back after after_back own.
              let Goal : Type 0 = Four far near far_after near_after in
              is_same Goal j i
              (λ same.
              let lower : u ≡ is_above.lower = same_there old (j + 1) u is_above.lower here (ap (λ n. slice_get old (n + 1)) same ∙ is_above.lower_is) in
              own_settled lane (own ∙ ap (λ (y : WorkerView End). y.segment.bus.bus) lower) k m w v w_after v_after far near far_after near_after was were is are at back after after_back)
              (λ apart. still_settled j u (omega (arith, few, apart)) here lane own k m w v w_after v_after far near far_after near_after was were is are at back after after_back);
        };
        rest = λ k w x lane e e_after was is at after others.
            let mine = now_at k w was in
            let mid_end = end_mid k w mine.0 lane e was mine.2 at in
            let before = so_far.rest k w mine.0 lane e mid_end.0 was mine.1 at mid_end.1 (λ j u few listed_u. others j u (omega (arith, few)) listed_u) in
            let stays = lane_stays k w mine.0 x lane mid_end.0 e_after was mine.1 is mine.2 (only_new k mine.0 x mine.1 is) mid_end.1 after (others i is_above.lower (omega arith) is_above.lower_is) in
            stays ∙ before;
      }

  -- all bridges
  pub settled_all : (many : ℕ) (new : List (WorkerView End)) → many ≡ length above → SettledSoFar had sent got kept paired many old new → AllSettled had sent got kept paired old new
  settled_all many new all so_far = record {
    each = so_far.each;
    many = so_far.same_many;
    lanes = λ k m w v w_after v_after lane far near far_after near_after was were is are at back after after_back.
        let found = laid.hang.below k w at.port lane was at.lane_is in
        let within = slice_get_within old (found.0 + 1) found.1 found.2 in
        let count = are_above.many in
        (so_far.done found.0 found.1 (omega (arith, within, count, all)) found.2).lanes k m w v w_after v_after lane far near far_after near_after was were is are at back after after_back found.3;
  }
