-- Under either rule of the bridge no initiator has two slots of a lane for one request.
use Rattle.std.proofs.Common.{◌≡◌, ℕ, ◌≤◌, Bool, true, false, cond, List, [], ◌∷◌, ◌++◌, Some, None, refl, sym, ap, subst, ◌∙◌, arith}
use Rattle.std.specs.List.{find, AllByRecursion}
use Rattle.list_facts.specs.Lists.{less, total}
use Rattle.list_facts.proofs.EachLemmas.{Each-push, Each-less, Each-both, Each-weaker}
use Rattle.list_facts.proofs.AnyLemmas.{total_each}
use Rattle.list_facts.proofs.TotalLemmas.{total-less}
use Rattle.pci_command.specs.declared.op_id.OpId.{OpId}
use Rattle.pci_command.specs.Same.{same_op}
use Rattle.board_model.specs.declared.bridge.Lane.{Lane as BridgeLane}
use Rattle.board_model.specs.declared.board.Board.{Board}
use Rattle.board_model.specs.Requests.{request_of, same_requests}
use Rattle.board_model.specs.Ways.{lane_back, start_of}
use Rattle.history_model.specs.declared.event.By.{By}
use Rattle.history_model.specs.declared.event.Mark.{Mark}
use Rattle.history_model.specs.declared.event.Event.{Event}
use Rattle.history_model.specs.declared.item.Carried.{Carried}
use Rattle.history_model.specs.declared.item.Slot.{Slot}
use Rattle.history_model.specs.declared.rule.Rule.{Rule}
use Rattle.history_model.specs.declared.rule.Rule.TheVariants.{Untagged}
use Rattle.history_model.specs.Lanes.{Both, has_number, lowest_free, Effect, Stands, Credits, Frees, Drops, effect_of, takes_effect, came_off, arrives_first}
use Rattle.history_model.specs.World.{is_own, anyone, noted, world_by}
use Rattle.history_model.specs.Words.{through, without}
use Rattle.history_model.specs.Runs.{RunBy}
use Rattle.history_model.proofs.facts.EqualLemmas.{same_requests-self}
use Rattle.history_model.proofs.facts.KeptLemmas.{KeptBy, runs_keep_by}
use Rattle.history_model.proofs.facts.RequestLemmas.{same_op_true}
use Rattle.law_lanes.specs.Depths.{DifferentNumbers}
use Rattle.law_lanes.specs.Owners.{own_count}
use Rattle.law_lanes.proofs.Laws.{claim_starts}
use Rattle.law_lanes.proofs.OwnersLatchLemmas.{one_own-push}
use Rattle.law_bound.specs.reach.Reach.{slots_of}

-- the slots of a lane: no initiator has two for one request, each is held for a request, and bridges that keep no local
-- master note one name for all
pub record OneEach (rule : Rule) (board : Board) (lane : BridgeLane) (held : List Slot) : Type 0 where
  pub one_own : (by : By) (o : OpId) → total (own_count board (start_of board lane) by o) held ≤ 1
  pub requests : AllByRecursion (λ (slot : Slot). same_requests board (start_of board lane) slot.op slot.op ≡ true) held
  pub names : rule ≡ Untagged → AllByRecursion (λ (slot : Slot). slot.by ≡ anyone) held

module _ (rule : Rule) (board : Board) (distinct : DifferentNumbers board) where
  abbrev Q : BridgeLane → List Slot → Type 0
  Q lane held = OneEach rule board lane held

  one_less : (lane : BridgeLane) (number : ℕ) (held : List Slot) → Q lane held → Q lane (less (has_number number) held)
  one_less lane number held old =
      record {
        one_own = λ by o. let once = old.one_own by o in let sum = total-less (own_count board (start_of board lane) by o) (has_number number) held in omega (arith, once, sum);
        requests = Each-less (λ (slot : Slot). same_requests board (start_of board lane) slot.op slot.op ≡ true) (has_number number) held old.requests;
        names = λ e. Each-less (λ (slot : Slot). slot.by ≡ anyone) (has_number number) held (old.names e);
      }

  effect_one : (lane : BridgeLane) (effect : Effect) (item : Carried) (x : Both) → Q lane x.here.held → Q (lane_back lane) x.back.held → Q lane (takes_effect effect item x).here.held × Q (lane_back lane) (takes_effect effect item x).back.held
  effect_one lane Stands item x here back = (here, back)
  effect_one lane Credits item x here back = (here, back)
  effect_one lane (Frees slot) item x here back = (here, one_less (lane_back lane) slot x.back.held back)
  effect_one lane (Drops slot) item x here back = (here, back)

  comes_one : (lane : BridgeLane) (mark : Mark) (flight : List Carried) (x : Both) → Q lane x.here.held → Q (lane_back lane) x.back.held → Q lane (arrives_first mark flight x).here.held × Q (lane_back lane) (arrives_first mark flight x).back.held
  comes_one lane mark [] x here back = (here, back)
  comes_one lane mark (item ∷ rest) x here back = effect_one lane (effect_of mark item) item (record x { here = came_off item rest x.here }) here back

  one_kept : KeptBy rule board (λ lane x. Q lane x.here.held)
  one_kept =
      record {
        empty = λ lane. record { one_own = λ by o. omega arith; requests = tt; names = λ _. tt };
        accepts = λ h on by o lane _ _ at old. old;
        latches = λ h on by o lane _ _ at old.
            let held : List Slot = (world_by rule board h lane).held in
            let starts : start_of board lane ≡ on = claim_starts board on (without (through h o) at.request) lane distinct at.claims in
            let slot : Slot = record { number = lowest_free held; by = noted rule by; op = o } in
            let none : find (is_own board (start_of board lane) (noted rule by) o) held ≡ None = subst (λ b. find (is_own board b (noted rule by) o) held ≡ None) (sym starts) at.gives.1 in
            let is_request : request_of board o (start_of board lane) ≡ Some at.request = subst (λ b. request_of board o b ≡ Some at.request) (sym starts) at.is_request in
            let new : Q lane (held ++ slot ∷ []) =
            record {
              one_own = one_own-push board (start_of board lane) held slot none old.0.one_own;
              requests = Each-push (λ (s : Slot). same_requests board (start_of board lane) s.op s.op ≡ true) held slot old.0.requests (same_requests-self board (start_of board lane) o at.request is_request);
              names = λ e. Each-push (λ (s : Slot). s.by ≡ anyone) held slot (old.0.names e) (ap (λ r. noted r by) e);
            } in
            (new, old.1);
        takes = λ lane number op slot outcome x stands old. (one_less lane number x.here.held old.0, old.1);
        ends = λ lane o outcome x old. old;
        comes = λ lane mark x old. comes_one lane mark x.here.flight x old.0 old.1;
      }

  pub one_each : (h : List Event) (lane : BridgeLane) → RunBy rule board h → OneEach rule board lane (world_by rule board h lane).held
  one_each h lane run = runs_keep_by rule board (λ l x. Q l x.here.held) one_kept h run lane

-- where bridges keep no local master, an operation has one slot of a lane
anyone_own : (board : Board) (on : ℕ) (o : OpId) (slot : Slot) → slot.by ≡ anyone → same_requests board on slot.op slot.op ≡ true → slots_of o slot ≤ own_count board on anyone o slot
anyone_own board on o slot is requests =
    let P : Bool → Type 0 = λ b. same_op slot.op o ≡ b → cond b 1 0 ≤ own_count board on anyone o slot in
    let I : By → OpId → ℕ = λ c q. own_count board on anyone q (record { number = slot.number; by = c; op = slot.op }) in
    (elim (same_op slot.op o) as P [
      | true ↦ λ same.
          let ops : slot.op ≡ o = same_op_true slot.op o same in
          let there : own_count board on anyone o slot ≡ I anyone slot.op = ap (λ c. I c o) is ∙ ap (I anyone) (sym ops) in
          let counts : I anyone slot.op ≡ 1 = rw requests refl in
          omega (arith, there, counts)
      | false ↦ λ _. omega arith
    ]) refl

pub untagged_once : (board : Board) (lane : BridgeLane) (held : List Slot) (o : OpId) → OneEach Untagged board lane held → total (slots_of o) held ≤ 1
untagged_once board lane held o each =
    let on : ℕ = start_of board lane in
    let A : Slot → Type 0 = λ (s : Slot). s.by ≡ anyone in
    let B : Slot → Type 0 = λ (s : Slot). same_requests board on s.op s.op ≡ true in
    let facts = Each-both A B held (each.names refl) each.requests in
    let less_each = Each-weaker (λ s. A s × B s) (λ s. slots_of o s ≤ own_count board on anyone o s) (λ s fact. anyone_own board on o s fact.0 fact.1) held facts in
    let fewer = total_each (slots_of o) (own_count board on anyone o) held less_each in
    let once = each.one_own anyone o in
    omega (arith, fewer, once)
