-- A target answers as in the model, wherever it stands for the history.
use Rattle.std.proofs.Common.{◌≡◌, ℕ, Bool, true, false, ◌+◌, ◌*◌, length, List, Option, Some, None, refl, sym, ap, ◌∙◌, arith, if◌then◌else◌}
use Rattle.std.specs.Prelude.{slice_get, is_some, nat_lt}
use Rattle.std.proofs.lemmas.Bool.Decides.{nat_tests}
use Rattle.pci_command.specs.declared.command.Space.{Space}
use Rattle.pci_command.specs.declared.request.Request.{Request}
use Rattle.pci_command.specs.declared.op_id.OpId.{OpId}
use Rattle.pci_command.specs.Command.{space_of, is_read}
use Rattle.board_model.specs.declared.agents.Target.{Target as TargetAgent}
use Rattle.board_model.specs.declared.bridge.Place.TheVariants.{Target}
use Rattle.board_model.specs.declared.board.Board.{Board}
use Rattle.board_model.specs.Requests.{request_of}
use Rattle.board_model.specs.Ways.{aborts_at, address_in}
use Rattle.history_model.specs.declared.event.Step.{Step}
use Rattle.history_model.specs.declared.event.Step.TheVariants.{Land, Part as PartStep, Read, Stall as StallStep, TargetAbort}
use Rattle.history_model.specs.declared.event.Event.{Event}
use Rattle.history_model.specs.declared.item.Answer.TheVariants.{Gives}
use Rattle.history_model.specs.Words.{without, value_of}
use Rattle.history_model.specs.Answers.{stalls_used, target_step, target_answer}
use Rattle.bus_targets.specs.declared.access.Access.{Access}
use Rattle.bus_targets.specs.declared.access.Access.TheVariants.{Stall, Abort, Value, Part, Landed}
use Rattle.machine_steps.specs.Counts.{or_zero}
use Rattle.bus_targets.specs.Words.{WordsOfSpace, place_in, value_in, value_at}
use Rattle.bus_targets.specs.State.{TargetView, words_in, accessed_in, access_by, step_of}
use Rattle.bus_targets.specs.Stands.{TableStands, TargetStands, IsAccess}
use Rattle.bus_targets.proofs.PlaceLemmas.{found_place}

-- the same choices
chosen : (b1 b2 b3 b4 : Bool) (v w n : ℕ) → (b3 ≡ true → v ≡ w)
    → (if b1 then StallStep else if b2 then TargetAbort else if b3 then Read v else if b4 then PartStep n else Land)
    ≡ step_of (if b1 then Stall else if b2 then Abort else if b3 then Value w else if b4 then Part n else Landed)
chosen true b2 b3 b4 v w n same = refl
chosen false true b3 b4 v w n same = refl
chosen false false true b4 v w n same = ap (λ (x : ℕ). Read x) (same refl)
chosen false false false true v w n same = refl
chosen false false false false v w n same = refl

-- tokens are left where fewer were used than there are
tokens_left : (left used all : ℕ) → left + used ≡ all → nat_lt used all ≡ nat_lt 0 left
tokens_left left used all sum =
    let P : Bool → Type 0 = λ b. nat_lt 0 left ≡ b → nat_lt used all ≡ b in
    (elim (nat_lt 0 left) as P [
      | true ↦ λ some. grind (arith, nat_tests, some, sum)
      | false ↦ λ none. grind (arith, nat_tests, none, sum)
    ]) refl

-- all of a request is left of which no data phases went through
all_left : (whole : Request) → without 0 whole ≡ whole
all_left whole =
    let address : whole.address + 4 * 0 ≡ whole.address = omega arith in
    ap (λ (n : ℕ). record { command = whole.command; address = n; phases = whole.phases }) address

-- the word of a read
pub read_value : (board : Board) (p : List Event) (t : TargetView) (on : ℕ) (o : OpId) (request : Request) → TargetStands board p t → IsAccess board p t.target on o request → is_read request.command ≡ true
    → value_of board p (record { target = t.target; space = space_of request.command; address = address_in (space_of request.command) request.address })
    ≡ value_at (words_in (space_of request.command) t) (address_in (space_of request.command) request.address)
read_value board p t on o request stands access reads =
    let space : Space = space_of request.command in
    let at : ℕ = address_in space request.address in
    let words : WordsOfSpace = words_in space t in
    let rest : request ≡ access.whole = access.rest ∙ ap (λ (n : ℕ). without n access.whole) (access.read_whole reads) ∙ all_left access.whole in
    let named : request_of board o on ≡ Some request = access.named ∙ ap (λ (r : Request). Some r) (sym rest) in
    let some = stands.reads on o request named access.claimed reads in
    let P : Option ℕ → Type 0 = λ place. place_in words.addresses at ≡ place → is_some place ≡ true → value_of board p (record { target = t.target; space = space; address = at }) ≡ value_in words.values place in
    (elim (place_in words.addresses at) as P [
      | None ↦ λ _ never. cc
      | Some place ↦ λ found _.
          let table : TableStands board p t.target space words = stands.words space in
          sym (ap or_zero (table.values place at (found_place words.addresses at place found)))
    ]) refl some

pub same_step : (board : Board) (p : List Event) (t : TargetView) (on : ℕ) (o : OpId) (request : Request) (stands : TargetStands board p t) → IsAccess board p t.target on o request
    → target_step board p t.target request stands.agent ≡ step_of (accessed_in t request stands.agent)
same_step board p t on o request stands access =
    let agent : TargetAgent = stands.agent in
    let space : Space = space_of request.command in
    let v : ℕ = value_of board p (record { target = t.target; space = space; address = address_in space request.address }) in
    let rest : Step = if aborts_at agent request then TargetAbort else if is_read request.command then Read v else if nat_lt agent.burst (length request.phases) then PartStep agent.burst else Land in
    ap (λ (b : Bool). if b then StallStep else rest) (tokens_left t.stalls (stalls_used p t.target) agent.stalls stands.stalls)
    ∙ chosen (nat_lt 0 t.stalls) (aborts_at agent request) (is_read request.command) (nat_lt agent.burst (length request.phases)) v
    (value_at (words_in space t) (address_in space request.address)) agent.burst (λ reads. read_value board p t on o request stands access reads)

pub same_answer : (board : Board) (p : List Event) (t : TargetView) (on : ℕ) (o : OpId) (request : Request) (answer : Access) → answer ≡ access_by t request (slice_get board.targets t.target)
    → TargetStands board p t → IsAccess board p t.target on o request → target_answer board p t.target request (slice_get board.targets t.target) ≡ Gives (step_of answer) (Target t.target)
same_answer board p t on o request answer is stands access =
    let given : answer ≡ accessed_in t request stands.agent = is ∙ ap (access_by t request) stands.there in
    ap (target_answer board p t.target request) stands.there
    ∙ ap (λ (s : Step). Gives s (Target t.target)) (same_step board p t on o request stands access ∙ ap step_of (sym given))
