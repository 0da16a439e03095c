-- A sound board is well formed, and the board of a draft stays sound.
use Rattle.std.proofs.Common.{ap, ◌≡◌, ℕ, ◌+◌, ◌≤◌, ◌<◌, Bool, true, false, cond, ◌||◌, List, [], ◌∷◌, ◌++◌, length, refl, arith}
use Rattle.std.specs.Prelude.{Option, Some, None, ◌==◌, nat_le}
use Rattle.std.specs.List.{list_all, list_any}
use Rattle.std.proofs.lemmas.Bool.{and_from, or_parts, leb-false, le-leb, eqb-true}
use Rattle.list_facts.specs.Lists.{total}
use Rattle.list_facts.proofs.TotalLemmas.{total-push}
use Rattle.board_model.specs.Limits.{most_bridges, most_children, most_agents, most_tries, most_plans}
use Rattle.board_model.specs.declared.bridge.Bridge.{Bridge}
use Rattle.board_model.specs.declared.agents.Target.{Target}
use Rattle.board_model.specs.declared.agents.Master.{Master}
use Rattle.board_model.specs.declared.board.Board.{Board}
use Rattle.board_model.specs.declared.board.Planned.{Planned}
use Rattle.board_model.specs.Requests.{tries_of}
use Rattle.board_model.specs.WellFormed.{is_well_formed, is_well_formed_bridge, is_well_formed_target, is_well_formed_master, is_well_formed_plan, are_numbered_apart, are_targets_named_apart, are_masters_named_apart, is_target_named, is_master_named, has_bus, children_on, agents_on, operations_in}
use Rattle.text_faults.specs.declared.board_line.LineFault.{LineFault}
use Rattle.board_parser.specs.declared.draft.draft.AgentPlace.{AgentPlace}
use Rattle.board_parser.specs.declared.draft.draft.AgentPlace.TheVariants.{Nobody, OfTarget, OfMaster}
use Rattle.board_parser.specs.draft.Drafts.{with_owner}
use Rattle.board_parser.specs.draft.Targets.{is_name_used, agent_fault}
use Rattle.board_parser.proofs.draft.PushLemmas.{all-push, length-push, count-push, numbered-push, masters-push, targets-push, targets-beside}
use Rattle.board_model.proofs.Laws.{WellFormed-from}

pub record IsSound (board : Board) : Type 0 where
  pub few_bridges : length board.bridges ≤ most_bridges
  pub bridges : list_all is_well_formed_bridge board.bridges ≡ true
  pub numbered : are_numbered_apart board.bridges ≡ true
  pub targets : list_all is_well_formed_target board.targets ≡ true
  pub masters : list_all is_well_formed_master board.masters ≡ true
  pub children : (bus : ℕ) → children_on board bus ≤ most_children
  pub agents : (bus : ℕ) → agents_on board bus ≤ most_agents
  pub targets_named : are_targets_named_apart board.masters board.targets ≡ true
  pub masters_named : are_masters_named_apart board.masters ≡ true
  pub operations : operations_in board.masters ≤ most_tries
  pub few_discards : length board.discards ≤ most_plans
  pub discards : list_all is_well_formed_plan board.discards ≡ true
  pub few_drops : length board.drops ≤ most_plans
  pub drops : list_all is_well_formed_plan board.drops ≡ true

all_pass : {X : Type 0} (test : X → Bool) → ((x : X) → test x ≡ true) → (xs : List X) → list_all test xs ≡ true
all_pass test each [] = refl
all_pass test each (x ∷ xs) = and_from (test x) (list_all test xs) (each x) (all_pass test each xs)

pub well_formed_by : (board : Board) → IsSound board → is_well_formed board ≡ true
well_formed_by board sound =
    WellFormed-from board (record {
      bridges_fit = sound.few_bridges;
      bridges = sound.bridges;
      numbered_apart = sound.numbered;
      targets = sound.targets;
      masters = sound.masters;
      few = record {
        bridges = all_pass (λ (bridge : Bridge). nat_le (children_on board bridge.parent) most_children) (λ bridge. le-leb _ _ (sound.children bridge.parent)) board.bridges;
        targets = all_pass (λ (target : Target). nat_le (agents_on board target.bus) most_agents) (λ target. le-leb _ _ (sound.agents target.bus)) board.targets;
        masters = all_pass (λ (master : Master). nat_le (agents_on board master.bus) most_agents) (λ master. le-leb _ _ (sound.agents master.bus)) board.masters;
      };
      targets_named_apart = sound.targets_named;
      masters_named_apart = sound.masters_named;
      operations = sound.operations;
      discards_fit = sound.few_discards;
      discards = sound.discards;
      drops_fit = sound.few_drops;
      drops = sound.drops;
    })

-- What is open.

none-ok : (test : Bool) (fault : LineFault) (step : Option LineFault) → cond test (Some fault) step ≡ None → (test ≡ false) × (step ≡ None)
none-ok true fault step h = absurd (cc)
none-ok false fault step h = (refl, h)

pub record HasPlace (board : Board) (name : List ℕ) (bus : ℕ) : Type 0 where
  pub targets : list_any (is_target_named name) board.targets ≡ false
  pub masters : list_any (is_master_named name) board.masters ≡ false
  pub room : agents_on board bus < most_agents

pub place_by : (board : Board) (name : List ℕ) (bus : ℕ) → agent_fault board name bus ≡ None → HasPlace board name bus
place_by board name bus h =
    let first = none-ok (is_name_used board name) _ _ h in
    let second = none-ok (nat_le most_agents (agents_on board bus)) _ _ first.1 in
    let named = or_parts (list_any (is_target_named name) board.targets) (list_any (is_master_named name) board.masters) first.0 in
    record { targets = named.0; masters = named.1; room = leb-false _ _ second.0 }

pub record TargetSound (board : Board) (target : Target) : Type 0 where
  pub formed : is_well_formed_target target ≡ true
  pub place : HasPlace board target.name target.bus

pub record MasterSound (board : Board) (master : Master) : Type 0 where
  pub formed : is_well_formed_master master ≡ true
  pub place : HasPlace board master.name master.bus
  pub operations : operations_in board.masters + total tries_of master.ops ≤ most_tries

abbrev pub OwnerSound : Board → AgentPlace → Type 0
OwnerSound board Nobody = Unit {0}
OwnerSound board (OfTarget target) = TargetSound board target
OwnerSound board (OfMaster master) = MasterSound board master

pub one_more : (on : ℕ → ℕ) (at bus : ℕ) → ((b : ℕ) → on b ≤ most_agents) → on at < most_agents → on bus + cond (at == bus) 1 0 ≤ most_agents
one_more on at bus all room =
    let P : Bool → Type 0 = λ b. (at == bus) ≡ b → on bus + cond b 1 0 ≤ most_agents in
    (elim (at == bus) as P [
      | true ↦ λ same. let there : on at ≡ on bus = ap on (eqb-true at bus same) in omega (arith, there, room)
      | false ↦ λ _. let few = all bus in omega (arith, few)
    ]) refl

with_target : (board : Board) (target : Target) → IsSound board → TargetSound board target → IsSound (record board { targets = board.targets ++ target ∷ [] })
with_target board target sound more = record {
  few_bridges = sound.few_bridges;
  bridges = sound.bridges;
  numbered = sound.numbered;
  masters = sound.masters;
  children = sound.children;
  masters_named = sound.masters_named;
  operations = sound.operations;
  few_discards = sound.few_discards;
  discards = sound.discards;
  few_drops = sound.few_drops;
  drops = sound.drops;
  targets = all-push is_well_formed_target board.targets target sound.targets more.formed;
  agents = λ bus.
      let counted = count-push (λ (t : Target). t.bus == bus) board.targets target in
      let few = one_more (agents_on board) target.bus bus sound.agents more.place.room in
      omega (arith, counted, few);
  targets_named = targets-push board.masters board.targets target sound.targets_named more.place.targets more.place.masters;
}

with_master : (board : Board) (master : Master) → IsSound board → MasterSound board master → IsSound (record board { masters = board.masters ++ master ∷ [] })
with_master board master sound more = record {
  few_bridges = sound.few_bridges;
  bridges = sound.bridges;
  numbered = sound.numbered;
  targets = sound.targets;
  children = sound.children;
  few_discards = sound.few_discards;
  discards = sound.discards;
  few_drops = sound.few_drops;
  drops = sound.drops;
  masters = all-push is_well_formed_master board.masters master sound.masters more.formed;
  agents = λ bus.
      let counted = count-push (λ (m : Master). m.bus == bus) board.masters master in
      let few = one_more (agents_on board) master.bus bus sound.agents more.place.room in
      omega (arith, counted, few);
  targets_named = targets-beside board.masters master board.targets sound.targets_named more.place.targets;
  masters_named = masters-push board.masters master sound.masters_named more.place.masters;
  operations =
      let counted = total-push (λ (m : Master). total tries_of m.ops) board.masters master in
      let few = more.operations in
      omega (arith, counted, few);
}

pub owner_closed : (board : Board) (owner : AgentPlace) → IsSound board → OwnerSound board owner → IsSound (with_owner board owner)
owner_closed board Nobody sound more = sound
owner_closed board (OfTarget target) sound more = with_target board target sound more
owner_closed board (OfMaster master) sound more = with_master board master sound more

pub with_bridge : (board : Board) (bridge : Bridge) → IsSound board → is_well_formed_bridge bridge ≡ true → list_any (has_bus bridge.bus) board.bridges ≡ false
    → (nat_le most_bridges (length board.bridges) || nat_le most_children (children_on board bridge.parent)) ≡ false → IsSound (record board { bridges = board.bridges ++ bridge ∷ [] })
with_bridge board bridge sound formed apart few = record {
  numbered = numbered-push board.bridges bridge sound.numbered apart;
  targets = sound.targets;
  masters = sound.masters;
  agents = sound.agents;
  targets_named = sound.targets_named;
  masters_named = sound.masters_named;
  operations = sound.operations;
  few_discards = sound.few_discards;
  discards = sound.discards;
  few_drops = sound.few_drops;
  drops = sound.drops;
  few_bridges =
      let fewer = leb-false most_bridges (length board.bridges) (or_parts _ _ few).0 in
      let counted = length-push board.bridges bridge in
      omega (arith, fewer, counted);
  bridges = all-push is_well_formed_bridge board.bridges bridge sound.bridges formed;
  children = λ bus.
      let counted = count-push (λ (b : Bridge). b.parent == bus) board.bridges bridge in
      let fewer = one_more (children_on board) bridge.parent bus sound.children (leb-false _ _ (or_parts _ _ few).1) in
      omega (arith, counted, fewer);
}

pub with_discard : (board : Board) (planned : Planned) → IsSound board → is_well_formed_plan planned ≡ true → nat_le most_plans (length board.discards) ≡ false
    → IsSound (record board { discards = board.discards ++ planned ∷ [] })
with_discard board planned sound formed few = record {
  few_bridges = sound.few_bridges;
  bridges = sound.bridges;
  numbered = sound.numbered;
  targets = sound.targets;
  masters = sound.masters;
  children = sound.children;
  agents = sound.agents;
  targets_named = sound.targets_named;
  masters_named = sound.masters_named;
  operations = sound.operations;
  few_drops = sound.few_drops;
  drops = sound.drops;
  few_discards =
      let fewer = leb-false most_plans (length board.discards) few in
      let counted = length-push board.discards planned in
      omega (arith, fewer, counted);
  discards = all-push is_well_formed_plan board.discards planned sound.discards formed;
}

pub with_drop : (board : Board) (planned : Planned) → IsSound board → is_well_formed_plan planned ≡ true → nat_le most_plans (length board.drops) ≡ false
    → IsSound (record board { drops = board.drops ++ planned ∷ [] })
with_drop board planned sound formed few = record {
  few_bridges = sound.few_bridges;
  bridges = sound.bridges;
  numbered = sound.numbered;
  targets = sound.targets;
  masters = sound.masters;
  children = sound.children;
  agents = sound.agents;
  targets_named = sound.targets_named;
  masters_named = sound.masters_named;
  operations = sound.operations;
  few_discards = sound.few_discards;
  discards = sound.discards;
  few_drops =
      let fewer = leb-false most_plans (length board.drops) few in
      let counted = length-push board.drops planned in
      omega (arith, fewer, counted);
  drops = all-push is_well_formed_plan board.drops planned sound.drops formed;
}
