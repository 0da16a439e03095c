-- The words of reads are kept, where each operation's word at the end of its way is.
use Rattle.std.proofs.Common.{◌≡◌, ℕ, true, false, ◌+◌, ◌*◌, Option, Some, None, refl, sym, ap, subst, ◌∙◌, arith}
use Rattle.std.specs.Prelude.{is_some}
use Rattle.std.specs.Option.{option_map}
use Rattle.pci_command.specs.declared.command.Command.{Command}
use Rattle.pci_command.specs.declared.command.Command.TheVariants.{IoRead, IoWrite, MemRead, MemWrite, CfgRead, CfgWrite, MemReadMultiple, MemReadLine, MemWriteInvalidate}
use Rattle.pci_command.specs.Command.{space_of, is_read}
use Rattle.pci_command.specs.Same.{same_command}
use Rattle.pci_command.specs.declared.request.Request.{Request}
use Rattle.board_model.specs.declared.bridge.Place.TheVariants.{Target}
use Rattle.board_model.specs.declared.op.Op.{Op}
use Rattle.board_model.specs.declared.board.Board.{Board}
use Rattle.board_model.specs.Requests.{op_of, command_of, request_on, is_posted}
use Rattle.board_model.specs.Claims.{claim}
use Rattle.board_model.specs.Ways.{route_of, address_in, is_lane}
use Rattle.board_model.specs.Valid.{IsValid}
use Rattle.history_model.specs.Words.{through, without}
use Rattle.history_model.specs.declared.rule.Rule.{Rule}
use Rattle.list_facts.proofs.EachLemmas.{Each-slice_get}
use Rattle.board_model.proofs.Laws.{op_there}
use Rattle.law_lanes.specs.Phases.{DelayedAreSingle}
use Rattle.law_lanes.proofs.rules.Laws.{delayed-not_parted_by}
use Rattle.judge_state.specs.State.{WordPlaces}
use Rattle.judge_state.specs.Words.{place_at, word_on, KnowsRead, KnowsProgram, KnowsReads}
use Rattle.judge_state.specs.Stands.{CoversBy}
use Rattle.judge_state.proofs.RouteLemmas.{RouteEnd, end_from, ends_there}

not_posted : (command : Command) → is_read command ≡ true → same_command command MemWrite ≡ false
not_posted IoRead reads = refl
not_posted IoWrite reads = refl
not_posted MemRead reads = refl
not_posted MemWrite reads = cc
not_posted CfgRead reads = refl
not_posted CfgWrite reads = refl
not_posted MemReadMultiple reads = refl
not_posted MemReadLine reads = refl
not_posted MemWriteInvalidate reads = refl

whole : (gone : ℕ) (request : Request) → gone ≡ 0 → without gone request ≡ request
whole gone request none =
    let address : request.address + 4 * 0 ≡ request.address = omega arith in
    ap (λ (n : ℕ). without n request) none ∙ ap (λ (n : ℕ). record { command = request.command; address = n; phases = request.phases }) address

pub covers_all : (rule : Rule) (board : Board) (places : WordPlaces) → IsValid board → DelayedAreSingle board → KnowsReads board places → CoversBy rule board places
covers_all rule board places valid single knows h on by o request place target run wanted requested claims is_target no_abort reads = of_op (op_of board o) refl requested where
  of_op : (found : Option Op) → op_of board o ≡ found → option_map (λ op. request_on op on) found ≡ Some request
      → is_some (place_at places (record { target = place; space = space_of request.command; address = address_in (space_of request.command) (without (through h o) request).address })) ≡ true
  of_op None is never = cc
  of_op (Some op) is same =
      let request_is : request_on op on ≡ request = cc in
      let its = op_there board o op is in
      let program : KnowsProgram board places its.master = Each-slice_get (KnowsProgram board places) board.masters o.master its.master knows its.is_master in
      let word : KnowsRead board its.master.bus places op = Each-slice_get (KnowsRead board its.master.bus places) its.master.ops o.index op program its.is_op in
      let read : is_read (command_of op) ≡ true = subst (λ (r : Request). is_read r.command ≡ true) (sym request_is) reads in
      let delayed : is_posted request ≡ false = not_posted request.command reads in
      let gone : through h o ≡ 0 = delayed-not_parted_by rule board h o on request single run requested delayed in
      let rest : without (through h o) request ≡ request = whole (through h o) request gone in
      let claimed : claim board on (request_on op on) ≡ Target place = ap (claim board on) (request_is ∙ sym rest) ∙ claims in
      let no_lane : is_lane (claim board on (request_on op on)) ≡ false = rw claimed refl in
      let ends : end_from board op its.master.bus ≡ record { bus = on; owner = claim board on (request_on op on) } =
      ends_there rule board valid h run o op its.master is its.is_master on by (not_posted (command_of op) read) wanted no_lane in
      let owner : (route_of board op its.master.bus).owner ≡ Target place = ap (λ (e : RouteEnd). e.owner) ends ∙ claimed in
      let bus : (route_of board op its.master.bus).bus ≡ on = ap (λ (e : RouteEnd). e.bus) ends in
      let there = word place read owner in
      let here : is_some (place_at places (word_on op on place)) ≡ true = subst (λ (n : ℕ). is_some (place_at places (word_on op n place)) ≡ true) bus there in
      let P : Request → Request → Type 0 = λ r s. is_some (place_at places (record { target = place; space = space_of r.command; address = address_in (space_of r.command) s.address })) ≡ true in
      subst (λ (s : Request). P request s) (sym rest) (subst (λ (r : Request). P r r) request_is here)
