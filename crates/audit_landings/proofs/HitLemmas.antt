-- What lands in a dword is what an event brings to it.
use Rattle.std.proofs.Common.{◌≡◌, ◌≤◌, ℕ, zero, suc, ◌+◌, ◌*◌, ◌^◌, min, arith, Bool, true, false, ◌&&◌, ◌==◌, cond, map, length, append_assoc, append-nil, List, [], ◌∷◌, ◌++◌, Option, Some, None, refl, sym, ap, subst, ◌∙◌}
use Rattle.pci_command.specs.declared.command.Space.{Space}
use Rattle.pci_command.specs.declared.op_id.OpId.{OpId}
use Rattle.pci_command.specs.declared.phases.Phase.{Phase}
use Rattle.pci_command.specs.declared.request.Request.{Request}
use Rattle.pci_command.specs.Command.{space_of}
use Rattle.pci_command.specs.Same.{same_op, same_space}
use Rattle.board_model.specs.declared.bridge.Place.{Place}
use Rattle.board_model.specs.declared.bridge.Place.TheVariants.{Target, Header, Lane, Nobody}
use Rattle.board_model.specs.declared.board.Board.{Board}
use Rattle.board_model.specs.Requests.{request_of}
use Rattle.board_model.specs.Ways.{Dword, address_in}
use Rattle.history_model.specs.declared.event.By.{By}
use Rattle.history_model.specs.declared.event.Step.{Step}
use Rattle.history_model.specs.declared.event.Step.TheVariants.{Land, Part, Read, Accept, Latch, Take, Stall, MasterAbort, TargetAbort}
use Rattle.history_model.specs.declared.event.Event.{Event}
use Rattle.history_model.specs.declared.event.Event.TheVariants.{Act, Arrive}
use Rattle.history_model.specs.Words.{Landing, through, without, brings, landings_at, landings_in, landings_of, brought}
use Rattle.history_model.proofs.facts.RequestLemmas.{same_op_true}
use Rattle.board_model.specs.declared.word.Word.{Word}
use Rattle.audit_clocks.specs.Tables.{same_word, value_of, writes_in, Lands, Puts, dword}
use Rattle.audit_landings.specs.Hits.{hits, request_hits, found_hits, lands, place_hits, event_hits, few_of, count_of, Parted}
use Rattle.audit_landings.specs.Hits.{op_of_landing}

-- none so far, and one more
pub hits_none : (o : OpId) (target : ℕ) (space : Space) (at : ℕ) (old : List (Word × List OpId)) → Lands old old (λ word. hits word o target space at 0)
hits_none o target space at old = record { each = λ word. sym (append-nil (writes_in word old)) }

pub hits_more : (o : OpId) (target : ℕ) (space : Space) (at n address : ℕ) (old now next : List (Word × List OpId)) → address ≡ at + 4 * n → Lands old now (λ word. hits word o target space at n)
    → Lands now next (λ word. cond (same_word (record { target = target; space = space; address = address }) word) (o ∷ []) []) → Lands old next (λ word. hits word o target space at (n + 1))
hits_more o target space at n address old now next is so more =
    let one : n + 1 ≡ suc n = omega arith in
    record {
      each = λ word.
          let here : ℕ → List OpId = λ a. cond (same_word (record { target = target; space = space; address = a }) word) (o ∷ []) [] in
          more.each word
          ∙ ap (λ xs. xs ++ here address) (so.each word)
          ∙ append_assoc (writes_in word old) (hits word o target space at n) (here address)
          ∙ ap (λ a. writes_in word old ++ (hits word o target space at n ++ here a)) is
          ∙ ap (λ m. writes_in word old ++ hits word o target space at m) (sym one);
    }

-- the first of them apart
hits_first : (word : Word) (o : OpId) (target : ℕ) (space : Space) (at n : ℕ)
    → hits word o target space at (suc n) ≡ cond (same_word (record { target = target; space = space; address = at }) word) (o ∷ []) [] ++ hits word o target space (at + 4) n
hits_first word o target space at zero =
    let here : ℕ → List OpId = λ a. cond (same_word (record { target = target; space = space; address = a }) word) (o ∷ []) [] in
    let e : at + 4 * 0 ≡ at = omega arith in
    ap here e ∙ sym (append-nil (here at))
hits_first word o target space at (suc n) =
    let here : ℕ → List OpId = λ a. cond (same_word (record { target = target; space = space; address = a }) word) (o ∷ []) [] in
    let e : at + 4 * suc n ≡ at + 4 + 4 * n = omega arith in
    ap (λ xs. xs ++ here (at + 4 * suc n)) (hits_first word o target space at n)
    ∙ append_assoc (here at) (hits word o target space (at + 4) n) (here (at + 4 * suc n))
    ∙ ap (λ a. here at ++ (hits word o target space (at + 4) n ++ here a)) e

-- data phases of one target and space
phases_hit : (word : Word) (o : OpId) (target : ℕ) (space : Space) (at : ℕ) (phases : List Phase)
    → hits word o target space at (length phases) ≡ cond (target == word.target && same_space space word.space) (map op_of_landing (landings_at o word.address at phases)) []
phases_hit word o target space at [] =
    let none : List OpId = [] in
    let P : Bool → Type 0 = λ b. none ≡ cond b none none in
    elim (target == word.target && same_space space word.space) as P [ true ↦ refl | false ↦ refl ]
phases_hit word o target space at (phase ∷ phases) =
    let later = phases_hit word o target space (at + 4) phases in
    let rest : List Landing = landings_at o word.address (at + 4) phases in
    let mine : List OpId = hits word o target space (at + 4) (length phases) in
    let B : Bool → Type 0 = λ b. mine ≡ cond b (map op_of_landing rest) [] →
    (cond (b && at == word.address) (o ∷ []) [] ++ mine) ≡ cond b (map op_of_landing ((cond (at == word.address) (record { op = o; phase = phase } ∷ []) []) ++ rest)) [] in
    let A : Bool → Type 0 = λ a. mine ≡ map op_of_landing rest →
    (cond a (o ∷ []) [] ++ mine) ≡ map op_of_landing ((cond a (record { op = o; phase = phase } ∷ []) []) ++ rest) in
    hits_first word o target space at (length phases)
    ∙ (elim (target == word.target && same_space space word.space) as B [
      | true ↦ elim (at == word.address) as A [ true ↦ λ e. ap (λ zs. o ∷ zs) e | false ↦ λ e. e ]
      | false ↦ λ e. e
    ]) later

-- a step that brings nothing
pub none_landed : (o : OpId) (gone : ℕ) (word : Dword) (step : Step) (request : Option Request) → ((phases : List Phase) → brings step phases ≡ []) → landings_of o step gone word request ≡ []
none_landed o gone word step None none = refl
none_landed o gone word step (Some request) none =
    let rest : Request = without gone request in
    let P : List Phase → Type 0 = λ phases. landings_in o word (space_of rest.command) rest.address phases ≡ [] in
    let Q : Bool → Type 0 = λ b. cond b (landings_at o word.address (address_in (space_of rest.command) rest.address) []) [] ≡ [] in
    subst P (sym (none rest.phases)) (elim (same_space (space_of rest.command) word.space) as Q [ true ↦ refl | false ↦ refl ])

module _ (word : Word) (board : Board) (gone on : ℕ) (o : OpId) where
  abbrev There : Step → ℕ → Option Request → List OpId
  There step target request = map op_of_landing (cond (target == word.target) (landings_of o step gone (dword word) request) [])

  -- a step that lands
  found_hit : (step : Step) (target : ℕ) (request : Option Request) → found_hits gone o step target request word ≡ There step target request
  found_hit step target None =
      let none : List OpId = [] in
      let P : Bool → Type 0 = λ b. none ≡ map op_of_landing (cond b [] []) in
      elim (target == word.target) as P [ true ↦ refl | false ↦ refl ]
  found_hit step target (Some request) =
      let rest : Request = without gone request in
      let space : Space = space_of request.command in
      let at : ℕ = address_in space rest.address in
      let list : List Landing = landings_at o word.address at (brings step rest.phases) in
      let T : Bool → Type 0 = λ t. cond (t && same_space space word.space) (map op_of_landing list) [] ≡ map op_of_landing (cond t (cond (same_space space word.space) list []) []) in
      let S : Bool → Type 0 = λ s. cond s (map op_of_landing list) [] ≡ map op_of_landing (cond s list []) in
      phases_hit word o target space at (brings step rest.phases)
      ∙ (elim (target == word.target) as T [ true ↦ elim (same_space space word.space) as S [ true ↦ refl | false ↦ refl ] | false ↦ refl ])

  nothing_hit : (step : Step) (target : ℕ) → ((phases : List Phase) → brings step phases ≡ []) → (let nothing : List OpId = [] in nothing ≡ There step target (request_of board o on))
  nothing_hit step target none =
      let nothing : List OpId = [] in
      let L : List Landing → Type 0 = λ list. nothing ≡ map op_of_landing (cond (target == word.target) list []) in
      let P : Bool → Type 0 = λ b. nothing ≡ map op_of_landing (cond b [] []) in
      subst L (sym (none_landed o gone (dword word) step (request_of board o on) none)) (elim (target == word.target) as P [ true ↦ refl | false ↦ refl ])

  step_hit : (step : Step) (target : ℕ) → place_hits board gone on o step (Target target) word ≡ There step target (request_of board o on)
  step_hit Land target = found_hit Land target (request_of board o on)
  step_hit (Part phases) target = found_hit (Part phases) target (request_of board o on)
  step_hit (Read value) target = nothing_hit (Read value) target (λ _. refl)
  step_hit Accept target = nothing_hit Accept target (λ _. refl)
  step_hit Latch target = nothing_hit Latch target (λ _. refl)
  step_hit (Take outcome) target = nothing_hit (Take outcome) target (λ _. refl)
  step_hit Stall target = nothing_hit Stall target (λ _. refl)
  step_hit MasterAbort target = nothing_hit MasterAbort target (λ _. refl)
  step_hit TargetAbort target = nothing_hit TargetAbort target (λ _. refl)

place_hit : (word : Word) (board : Board) (h : List Event) (on : ℕ) (o : OpId) (step : Step) (place : Place) → place_hits board (through h o) on o step place word ≡ map op_of_landing (Rattle.history_model.specs.Words.landings_by board h on o step (dword word) place)
place_hit word board h on o step (Target target) = step_hit word board (through h o) on o step target
place_hit word board h on o step (Header bus) = refl
place_hit word board h on o step (Lane lane) = refl
place_hit word board h on o step Nobody = refl

pub event_hit : (word : Word) (board : Board) (h : List Event) (gone : List (OpId × ℕ)) (e : Event) → ((o : OpId) → few_of o gone ≡ through h o) → event_hits board gone e word ≡ map op_of_landing (brought board h (dword word) e)
event_hit word board h gone (Act on by o step place) few = ap (λ n. place_hits board n on o step place word) (few o) ∙ place_hit word board h on o step place
event_hit word board h gone (Arrive lane mark) few = refl

-- a part of a write went through too
pub parted_puts : (on : ℕ) (by : By) (p : OpId) (phases : ℕ) (place : Place) (count : ℕ) (old new : List (OpId × ℕ)) → count ≡ few_of p old + phases → phases ≤ 255 → Puts p count old new → Parted (Act on by p (Part phases) place) old new
parted_puts on by p phases place count old new is small puts =
    record {
      each = λ o at_most.
          let P : Bool → Type 0 = λ b. same_op p o ≡ b → Rattle.audit_landings.specs.Hits.or_zero (cond b (Some count) (value_of o old)) ≡ count_of o old + cond b phases 0 in
          ap Rattle.audit_landings.specs.Hits.or_zero (puts.each o)
          ∙ (elim (same_op p o) as P [
            | true ↦ λ same.
                let one : p ≡ o = same_op_true p o same in
                let few : few_of p old ≡ count_of o old = ap (λ q. few_of q old) one ∙ few_is (count_of o old) at_most in
                is ∙ ap (λ n. n + phases) few
            | false ↦ λ _. plus_none (count_of o old)
          ]) refl;
      small = λ o.
          let P : Bool → Type 0 = λ b. cond b phases 0 ≤ 255 in
          elim (same_op p o) as P [ true ↦ small | false ↦ omega arith ];
    }
  where
    few_is : (n : ℕ) → n ≤ 2 ^ 100 → min n (2 ^ 100) ≡ n
    few_is n at_most = omega (arith, at_most)

    plus_none : (n : ℕ) → n ≡ n + 0
    plus_none n = omega arith
