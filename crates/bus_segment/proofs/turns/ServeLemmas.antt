-- Initiators are served, one after another.
use Rattle.std.proofs.Common.{◌≡◌, ◌≢◌, ℕ, ◌+◌, ◌<◌, ◌≤◌, Bool, true, false, ◌==◌, ◌||◌, List, [], ◌∷◌, ◌++◌, length, take, Option, Some, None, IfSome, refl, sym, ap, subst, ◌∙◌, arith, slice_get}
use Rattle.std.specs.Int.{bit_at}
use Rattle.std.specs.List.{find, list_any, Contains}
use Rattle.std.proofs.lemmas.Bool.{eqb-true, eqb-false}
use Rattle.std.proofs.lemmas.Option.{slice_get_within, get_or_from_slice_get}
use Rattle.std.proofs.lemmas.List.{take_more}
use Rattle.std.proofs.lemmas.List.Folds.{list_any-append, find_at}
use Rattle.list_facts.proofs.FindLemmas.{find_passes, find-none_any}
use Rattle.pci_command.specs.declared.op_id.OpId.{OpId}
use Rattle.board_model.specs.Limits.{most_ports, most_lines}
use Rattle.board_model.specs.declared.board.Board.{Board}
use Rattle.history_model.specs.declared.event.By.{By}
use Rattle.history_model.specs.declared.event.By.TheVariants.{Master, Lane as ByLane}
use Rattle.history_model.specs.declared.event.Stamped.{Stamped}
use Rattle.history_model.specs.Answers.{wants_in}
use Rattle.history_model.proofs.facts.RequestLemmas.{same_op_true}
use Rattle.lane_items.specs.declared.item.Item.{Item}
use Rattle.bus_face.specs.declared.offer.Offer.{Offer}
use Rattle.bus_face.specs.Offers.{is_offer_of, offers_of}
use Rattle.bus_core.specs.port.Port.{PortView}
use Rattle.bus_core.specs.Bus.{BusView, Shape, shape_of, arrivals_at}
use Rattle.bus_core.specs.Serves.{BusOffers}
use Rattle.bus_segment.specs.Turn.{Does}
use Rattle.bus_segment.specs.Steps.{StampsRise, GetsRetry, IsOfMaster, IsOfLane, Retries}
use Rattle.bus_segment.specs.turns.Works.{seen, Works, HasLine, IsOfPort, IsRetried, AreAsked, AllRetried}
use Rattle.bus_segment.proofs.turns.WorkLemmas.{same_arrived, retry_before, does_grows}

-- One initiator.
module _ {End : Type 0} (had sent got : End → List Item) (kept : End → ℕ) (paired : End → End → Type 0) (board : Board) where
  pub serve_works : (old new : BusView) (stamp new_stamp : ℕ) (was stopped : Bool) (ends after : List End) (events all : List Stamped) → was ≡ false → Does had sent got kept paired board (seen old stamp false) (seen new stamp stopped) ends after events all
      → shape_of new ≡ shape_of old → arrivals_at new ≡ arrivals_at old → new_stamp ≡ stamp → StampsRise sent got stamp new_stamp ends after → length all ≤ length events + 1
      → Works had sent got kept paired board 1 (seen old stamp was) (seen new new_stamp stopped) ends after events all
  serve_works old new stamp new_stamp was stopped ends after events all going does shape arrivals same_stamp stamps most =
      let grows = does_grows had sent got kept paired board (seen old stamp false) (seen new stamp stopped) ends after events all does in
      record {
        does = subst (λ b. Does had sent got kept paired board (seen old stamp b) (seen new new_stamp stopped) ends after events all) (sym going)
            (subst (λ t. Does had sent got kept paired board (seen old stamp false) (seen new t stopped) ends after events all) (sym same_stamp) does);
        shape = shape;
        stamps = stamps;
        counts = λ on up. same_arrived (length events) (length all) old new grows arrivals up;
        grows = grows;
        most = most;
      }

-- What a lane presents.

-- one of these things that were offered at the port of the place
pub record IsAmong (shape : Shape) (place : ℕ) (offers : List Offer) (by : By) (o : OpId) : Type 0 where
  pub of_port : IsOfPort shape place by o
  pub among : list_any (is_offer_of o) offers ≡ true

-- what is found is among them
pub found_among : (op : OpId) (offers : List Offer) (offer : Offer) → find (is_offer_of op) offers ≡ Some offer → Contains offers offer
found_among op offers offer found =
    let there = sym (find_at (is_offer_of op) offers) ∙ found in
    (_, slice_get_within offers _ offer there, get_or_from_slice_get offers _ offer offer there)

pub offered_there : (s : BusView) (place : ℕ) (op : OpId) (offers : List Offer) (offer : Offer) → IfSome (slice_get s.ports place) (λ port. offers ≡ offers_of port.face) → find (is_offer_of op) offers ≡ Some offer
    → IfSome (slice_get s.ports place) (λ port. Contains (offers_of port.face) offer)
offered_there s place op offers offer kept found =
    let P : Option PortView → Type 0 = λ at. IfSome at (λ port. offers ≡ offers_of port.face) → IfSome at (λ port. Contains (offers_of port.face) offer) in
    (elim (slice_get s.ports place) as P [
      | None ↦ λ _. tt
      | Some port ↦ λ same. subst (λ l. Contains l offer) same (found_among op offers offer found)
    ]) kept

-- so is each that is shown of them, as long as the bus is as it was
pub offered_still : (old new : BusView) (place index : ℕ) (offers shown : List Offer) (offer : Offer) → new ≡ old → shown ≡ offers → IfSome (slice_get old.ports place) (λ port. offers ≡ offers_of port.face) → slice_get shown index ≡ Some offer
    → IfSome (slice_get new.ports place) (λ port. Contains (offers_of port.face) offer)
offered_still old new place index offers shown offer same all kept there =
    let among : Contains shown offer = (index, slice_get_within shown index offer there, get_or_from_slice_get shown index offer offer there) in
    let P : Option PortView → Type 0 = λ at. IfSome at (λ port. offers ≡ offers_of port.face) → IfSome at (λ port. Contains (offers_of port.face) offer) in
    let here : IfSome (slice_get old.ports place) (λ port. Contains (offers_of port.face) offer) = (elim (slice_get old.ports place) as P [
      | None ↦ λ _. tt
      | Some port ↦ λ is. subst (λ l. Contains l offer) (all ∙ is) among
    ]) kept in
    subst (λ (s : BusView). IfSome (slice_get s.ports place) (λ port. Contains (offers_of port.face) offer)) (sym same) here

pub found_op : (op : OpId) (offers : List Offer) (offer : Offer) → find (is_offer_of op) offers ≡ Some offer → op ≡ offer.op
found_op op offers offer found = same_op_true op offer.op (find_passes (is_offer_of op) offers offer found)

module _ {End : Type 0} (board : Board) where
  pub retries_none : (s : BusView) (ends : List End) (shape : Shape) (place : ℕ) → Retries board s s ends ends (IsAmong shape place [])
  retries_none s ends shape place = record { same_ends = refl; same_bus = refl; retried = λ by o is. let wrong = is.among in cc }

  -- what is not offered any more is not presented
  pub not_offered : (s : BusView) (ends : List End) (place : ℕ) (op : OpId) (offers : List Offer) → BusOffers place s offers → find (is_offer_of op) offers ≡ None → Retries board s s ends ends (IsOfLane (shape_of s) place op)
  not_offered s ends place op offers all none =
      record {
        same_ends = refl;
        same_bus = refl;
        retried = λ by o is.
            record {
              retry = λ tags world p stands wants.
                  let lane_wants = subst (λ b. wants_in board world p s.bus b o ≡ true) is.is_by wants in
                  let offered = sym (all.wanted board tags world p is.lane o is.there stands) ∙ lane_wants in
                  let absent = find-none_any (is_offer_of op) offers none in
                  let same : list_any (is_offer_of o) offers ≡ list_any (is_offer_of op) offers = ap (λ x. list_any (is_offer_of x) offers) is.same in
                  let wrong : true ≡ false = sym offered ∙ (same ∙ absent) in
                  cc;
            };
      }

  -- one more of them
  pub retries_more : (old mid new : BusView) (ends between after : List End) (place index next : ℕ) (offers : List Offer) (offer : Offer) → shape_of mid ≡ shape_of old → next ≡ index + 1 → slice_get offers index ≡ Some offer
      → Retries board old mid ends between (IsAmong (shape_of old) place (take index offers)) → Retries board mid new between after (IsOfLane (shape_of mid) place offer.op)
      → Retries board old new ends after (IsAmong (shape_of old) place (take next offers))
  retries_more old mid new ends between after place index next offers offer shape more there one two =
      record {
        same_ends = two.same_ends ∙ one.same_ends;
        same_bus = two.same_bus ∙ one.same_bus;
        retried = λ by o is.
            let taken : take next offers ≡ take index offers ++ offer ∷ [] =
            ap (λ n. take n offers) more ∙ (take_more offers index offer (slice_get_within offers index offer there) ∙ ap (λ x. take index offers ++ x ∷ []) (get_or_from_slice_get offers index offer offer there)) in
            let both : (list_any (is_offer_of o) (take index offers) || list_any (is_offer_of o) (offer ∷ [])) ≡ true =
            sym (list_any-append (is_offer_of o) (take index offers) (offer ∷ [])) ∙ (ap (list_any (is_offer_of o)) (sym taken) ∙ is.among) in
            let P : Bool → Type 0 = λ b. list_any (is_offer_of o) (take index offers) ≡ b → (b || list_any (is_offer_of o) (offer ∷ [])) ≡ true → GetsRetry board old by o in
            (elim (list_any (is_offer_of o) (take index offers)) as P [
              | true ↦ λ before _. one.retried by o (record { of_port = is.of_port; among = before })
              | false ↦ λ _ last.
                  let Q : Bool → Type 0 = λ b. is_offer_of o offer ≡ b → (b || false) ≡ true → o ≡ offer.op in
                  let same : o ≡ offer.op = (elim (is_offer_of o offer) as Q [ true ↦ λ passes _. same_op_true o offer.op passes | false ↦ λ _ wrong. cc ]) refl last in
                  retry_before board old mid by o one.same_bus (two.retried by o (record {
                    lane = is.of_port.lane;
                    there = ap (λ (s : Shape). slice_get s.lanes place) shape ∙ is.of_port.there;
                    is_by = is.of_port.is_by;
                    same = same;
                  }))
            ]) refl both;
      }

  -- all of them are all that it presents
  pub retries_port : (old new : BusView) (ends after : List End) (place : ℕ) (offers : List Offer) → BusOffers place old offers → Retries board old new ends after (IsAmong (shape_of old) place offers)
      → Retries board old new ends after (IsOfPort (shape_of old) place)
  retries_port old new ends after place offers all one =
      record {
        same_ends = one.same_ends;
        same_bus = one.same_bus;
        retried = λ by o is.
            record {
              retry = λ tags world p stands wants.
                  let lane_wants = subst (λ b. wants_in board world p old.bus b o ≡ true) is.is_by wants in
                  let offered = sym (all.wanted board tags world p is.lane o is.there stands) ∙ lane_wants in
                  (one.retried by o (record { of_port = is; among = offered })).retry tags world p stands wants;
            };
      }

  -- Request lines.
  pub port_line : (old new : BusView) (ends after : List End) (line : ℕ) → line < most_ports → Retries board old new ends after (IsOfPort (shape_of old) line)
      → Retries board old new ends after (HasLine (shape_of old) line)
  port_line old new ends after line low one =
      let has : (by : By) (o : OpId) → HasLine (shape_of old) line by o → GetsRetry board old by o = λ by o is.
      let P : By → Type 0 = λ b. HasLine (shape_of old) line b o → GetsRetry board old b o in
      (elim by as P [
        | Master ↦ λ at. absurd (omega (arith, at.1, low))
        | ByLane lane ↦ λ at. one.retried (ByLane lane) o (record { lane = lane; there = at; is_by = refl })
      ]) is in
      record { same_ends = one.same_ends; same_bus = one.same_bus; retried = has }

  pub master_line : (old new : BusView) (ends after : List End) (line place : ℕ) → line ≡ most_ports + place → length (shape_of old).lanes ≤ most_ports
      → Retries board old new ends after (IsOfMaster (shape_of old) place)
      → Retries board old new ends after (HasLine (shape_of old) line)
  master_line old new ends after line place high few one =
      let has : (by : By) (o : OpId) → HasLine (shape_of old) line by o → GetsRetry board old by o = λ by o is.
      let P : By → Type 0 = λ b. HasLine (shape_of old) line b o → GetsRetry board old b o in
      (elim by as P [
        | Master ↦ λ at.
            let same : at.0 ≡ place = omega (arith, at.1, high) in
            one.retried Master o (record { is_by = refl; master = subst (λ n. slice_get (shape_of old).masters n ≡ Some o.master) same at.2 })
        | ByLane lane ↦ λ at. absurd (let within = slice_get_within (shape_of old).lanes line lane at in omega (arith, within, few, high))
      ]) is in
      record { same_ends = one.same_ends; same_bus = one.same_bus; retried = has }

  -- All initiators.
  pub all_silent : (s : BusView) (ends : List End) (lines : ℕ) → AreAsked s lines → AllRetried board lines s s ends ends
  all_silent s ends lines asked =
      record {
        same_ends = refl;
        same_bus = refl;
        retried = λ line low bit.
            record {
              retried = λ by o is.
                  record {
                    retry = λ tags world p stands wants.
                        let never = ((asked.silent line low bit).silent by o is).never board tags world p stands in
                        let wrong : true ≡ false = sym wants ∙ never in
                        cc;
                  };
            };
      }

  pub all_further : (old mid new : BusView) (ends between after : List End) (lines left line : ℕ) → shape_of mid ≡ shape_of old
      → ((n : ℕ) → n < most_lines → n ≢ line → bit_at left n ≡ bit_at lines n) → AllRetried board lines old mid ends between
      → Retries board mid new between after (HasLine (shape_of mid) line) → AllRetried board left old new ends after
  all_further old mid new ends between after lines left line shape same one two =
      record {
        same_ends = two.same_ends ∙ one.same_ends;
        same_bus = two.same_bus ∙ one.same_bus;
        retried = λ n low bit.
            let P : Bool → Type 0 = λ b. (n == line) ≡ b → IsRetried board old n in
            (elim (n == line) as P [
              | true ↦ λ here.
                  let number : n ≡ line = eqb-true n line here in
                  record {
                    retried = λ by o is.
                        let at : HasLine (shape_of mid) line by o = subst (λ m. HasLine (shape_of mid) m by o) number (subst (λ s. HasLine s n by o) (sym shape) is) in
                        retry_before board old mid by o one.same_bus (two.retried by o at);
                  }
              | false ↦ λ apart. one.retried n low (sym (same n low (eqb-false n line apart)) ∙ bit)
            ]) refl;
      }
