-- A target stands for no events, as it opens.
use Rattle.std.proofs.Common.{◌≡◌, ℕ, true, List, [], Option, Some, None, refl, sym, ap, subst, ◌∙◌, arith, get_or, inl, inr}
use Rattle.std.specs.Prelude.{slice_get, is_some}
use Rattle.std.specs.Option.{option_map, IsSome}
use Rattle.std.specs.List.{Contains}
use Rattle.std.proofs.lemmas.Option.{slice_get-map, slice_get_cases, slice_get-get_or}
use Rattle.list_facts.proofs.EachLemmas.{Each-slice_get}
use Rattle.pci_command.specs.declared.command.Space.{Space}
use Rattle.pci_command.specs.declared.command.Space.TheVariants.{Mem, Io, Cfg}
use Rattle.pci_command.specs.declared.request.Request.{Request}
use Rattle.pci_command.specs.Command.{space_of, is_read}
use Rattle.board_model.specs.declared.agents.Target.{Target as TargetAgent}
use Rattle.board_model.specs.declared.op.Op.{Op}
use Rattle.board_model.specs.declared.bridge.Place.TheVariants.{Target}
use Rattle.board_model.specs.declared.board.Board.{Board}
use Rattle.board_model.specs.Requests.{op_of, request_on, command_of, address_on}
use Rattle.board_model.specs.Claims.{claim}
use Rattle.board_model.specs.Ways.{address_in}
use Rattle.board_model.proofs.Laws.{op_there}
use Rattle.history_model.specs.Words.{opens_as}
use Rattle.bus_targets.specs.Words.{WordsOfSpace, place_in}
use Rattle.bus_targets.specs.Reads.{answers_at, KnowsRead, KnowsProgram}
use Rattle.bus_targets.specs.State.{TargetView, words_in}
use Rattle.bus_targets.specs.Stands.{TableStands, TableAtFirst, StandsAtFirst, FindsReads}
use Rattle.bus_targets.proofs.PlaceLemmas.{has_place}
use Rattle.bus_targets.proofs.ClaimLemmas.{target_claims}

opened : (board : Board) (agent : TargetAgent) (target : ℕ) (space : Space) (words : WordsOfSpace) → TableAtFirst board agent target space words → TableStands board [] target space words
opened board agent target space words first =
    let f : ℕ → ℕ = λ address. opens_as board (record { target = target; space = space; address = address }) in
    record {
      rises = first.rises;
      values = λ place address here.
          ap (λ (values : List ℕ). slice_get values place) first.opens ∙ slice_get-map f words.addresses place ∙ ap (option_map f) here;
    }

-- a target that is there, by its place
pub there_at : (targets : List TargetAgent) (place : ℕ) (agent : TargetAgent) → IsSome (slice_get targets place) → agent ≡ get_or targets place agent → slice_get targets place ≡ Some agent
there_at targets place agent some is =
    elim (slice_get_cases targets place).1 as (λ _. slice_get targets place ≡ Some agent) [
      | inl there ↦ slice_get-get_or targets place agent there.1 ∙ ap (λ (t : TargetAgent). Some t) (sym is)
      | inr past ↦ (let never : IsSome {T = TargetAgent} None = subst (λ (found : Option TargetAgent). IsSome found) past.1 some in cc)
    ]

-- a read that the target claims finds its word
finds : (board : Board) (agent : TargetAgent) (t : TargetView) → slice_get board.targets t.target ≡ Some agent → ((space : Space) → TableAtFirst board agent t.target space (words_in space t)) → FindsReads board t
finds board agent t there tables on o request named claimed reads =
    let P : Option Op → Type 0 = λ found. op_of board o ≡ found → option_map (λ (op : Op). request_on op on) found ≡ Some request → is_some (place_in (words_in (space_of request.command) t).addresses (address_in (space_of request.command) request.address)) ≡ true in
    (elim (op_of board o) as P [ None ↦ λ _ never. cc | Some op ↦ λ is e. let same : request_on op on ≡ request = cc in subst Q same (found op is) claimed reads ]) refl named where
      Q : Request → Type 0
      Q r = claim board on r ≡ Target t.target → is_read r.command ≡ true → is_some (place_in (words_in (space_of r.command) t).addresses (address_in (space_of r.command) r.address)) ≡ true

      found : (op : Op) → op_of board o ≡ Some op → Q (request_on op on)
      found op is claims read =
          let space : Space = space_of (command_of op) in
          let addresses : List ℕ = (words_in space t).addresses in
          let entry = op_there board o op is in
          let program = Each-slice_get (KnowsProgram agent space addresses) board.masters o.master entry.master (tables space).knows entry.is_master in
          let knows = Each-slice_get (KnowsRead agent space addresses) entry.master.ops o.index op program entry.is_op in
          let where_it_is = target_claims board on (request_on op on) t.target agent there claims in
          let R : ℕ → Type 0 = λ bus. answers_at agent space (address_on op bus) ≡ true → Contains addresses (address_in space (address_on op bus)) in
          let on_bus : R on = subst R where_it_is.0 (knows read refl) in
          has_place addresses (address_in space (address_on op on)) (on_bus where_it_is.1)

pub stands_first : (board : Board) (agent : TargetAgent) (t : TargetView) → slice_get board.targets t.target ≡ Some agent → t.stalls ≡ agent.stalls
    → TableAtFirst board agent t.target Mem t.memory → TableAtFirst board agent t.target Io t.ports → TableAtFirst board agent t.target Cfg t.registers → StandsAtFirst board t.target t
stands_first board agent t there stalls memory ports registers =
    record {
      is = refl;
      stands = record {
        agent = agent;
        there = there;
        stalls = omega (arith, stalls);
        words = λ space. opened board agent t.target space (words_in space t) (tables space);
        reads = finds board agent t there tables;
      };
    } where
      tables : (space : Space) → TableAtFirst board agent t.target space (words_in space t)
      tables Mem = memory
      tables Io = ports
      tables Cfg = registers
