-- What a write through one key does to a look-up by another.
use Rattle.std.proofs.lemmas.List.{drop_more}
use Rattle.std.proofs.Common.{◌≡◌, ◌≢◌, ℕ, Bool, true, false, ◌+◌, ◌<◌, length, drop, get_or, ◌&&◌, ◌==◌, List, [], ◌∷◌, Option, None, Some, refl, sym, ap, subst, ◌∙◌, arith, if◌then◌else◌}
use Rattle.std.proofs.lemmas.Bool.Decides.{nat_tests}
use Rattle.pci_command.specs.declared.command.Space.{Space}
use Rattle.pci_command.specs.declared.command.Space.TheVariants.{Mem, Io, Cfg}
use Rattle.pci_command.specs.declared.phases.Phase.{Phase}
use Rattle.pci_command.specs.Same.{same_space}
use Rattle.board_model.specs.device.Registers.{merge_of}
use Rattle.board_model.specs.declared.word.Word.{Word}
use Rattle.std.specs.Prelude.{slice_get}
use Rattle.history_model.specs.Words.{mask_in}
use Rattle.machine_steps.specs.Values.{value_merged}
use Rattle.judge_state.specs.State.{WordPlaces}
use Rattle.list_facts.specs.Lists.{changed_at}
use Rattle.judge_state.proofs.PlaceLemmas.{changed_same, changed_other}
use Rattle.judge_state.specs.Words.{same_word, place_at, merged_at, landed_in}

space_same : (a b : Space) → same_space a b ≡ true → a ≡ b
space_same Mem Mem same = refl
space_same Mem Io same = cc
space_same Mem Cfg same = cc
space_same Io Mem same = cc
space_same Io Io same = refl
space_same Io Cfg same = cc
space_same Cfg Mem same = cc
space_same Cfg Io same = cc
space_same Cfg Cfg same = refl

space_self : (a : Space) → same_space a a ≡ true
space_self Mem = refl
space_self Io = refl
space_self Cfg = refl

both_true : (a b : Bool) → (a && b) ≡ true → (a ≡ true) × (b ≡ true)
both_true true true e = (refl, refl)
both_true true false e = cc
both_true false b e = cc

pub word_same : (a b : Word) → same_word a b ≡ true → a ≡ b
word_same a b same =
    let parts = both_true (a.target == b.target && same_space a.space b.space) (a.address == b.address) same in
    let front = both_true (a.target == b.target) (same_space a.space b.space) parts.0 in
    let rebuilt : ℕ → Space → ℕ → Word = λ target space address. record { target = target; space = space; address = address } in
    let targets : a.target ≡ b.target = grind (arith, nat_tests, front.0) in
    let spaces : a.space ≡ b.space = space_same a.space b.space front.1 in
    let addresses : a.address ≡ b.address = grind (arith, nat_tests, parts.1) in
    let joined : rebuilt a.target a.space a.address ≡ rebuilt b.target b.space b.address = cc in
    joined

pub word_self : (a : Word) → same_word a a ≡ true
word_self a =
    let t : (a.target == a.target) ≡ true = grind (arith, nat_tests) in
    let s : same_space a.space a.space ≡ true = space_self a.space in
    let d : (a.address == a.address) ≡ true = grind (arith, nat_tests) in
    rw (t, s, d)

-- one more data phase lands
pub lands_more : (places now : WordPlaces) (target : ℕ) (space : Space) (next : ℕ) (phases : List Phase) (i : ℕ) (d : Phase) (values after result : List ℕ) → i < length phases → now ≡ places
    → landed_in places target space next (drop i phases) values ≡ result
    → after ≡ merged_at now (record { target = target; space = space; address = next }) (get_or phases i d) values
    → landed_in places target space (next + 4) (drop (i + 1) phases) after ≡ result
lands_more places now target space next phases i d values after result within same old step =
    let more = drop_more phases i d within in
    let word : Word = record { target = target; space = space; address = next } in
    let stepped : after ≡ merged_at places word (get_or phases i d) values = step ∙ ap (λ (p : WordPlaces). merged_at p word (get_or phases i d) values) same in
    ap (λ (vs : List ℕ). landed_in places target space (next + 4) (drop (i + 1) phases) vs) stepped
    ∙ (sym (ap (λ (ps : List Phase). landed_in places target space next ps values) more) ∙ old)

-- the value of a word after data phases landed
abbrev pub hits : Word → ℕ → Space → Bool
hits word target space = word.target == target && same_space word.space space

abbrev pub landed_value : Word → ℕ → Space → ℕ → List Phase → ℕ → ℕ
landed_value word target space at phases value = if hits word target space then value_merged word.space word.address at value phases else value

-- one data phase, by whether it is for the word
one_phase : (places : WordPlaces) → ((a b : Word) (place : ℕ) → place_at places a ≡ Some place → place_at places b ≡ Some place → a ≡ b) → (word : Word) (place : ℕ) → place_at places word ≡ Some place
    → (target : ℕ) (space : Space) (at : ℕ) (phase : Phase) (values : List ℕ) (value : ℕ) → slice_get values place ≡ Some value
    → slice_get (merged_at places (record { target = target; space = space; address = at }) phase values) place
    ≡ Some (if hits word target space && at == word.address then merge_of value phase (mask_in word.space word.address) else value)
one_phase places apart word place is target space at phase values value there =
    let other : Word = record { target = target; space = space; address = at } in
    let put : ℕ = merge_of value phase (mask_in word.space word.address) in
    let hit : Bool = hits word target space && at == word.address in
    let P : Bool → Type 0 = λ b. hit ≡ b → slice_get (merged_at places other phase values) place ≡ Some (if b then put else value) in
    (elim hit as P [
      | true ↦ λ all.
          let same : word ≡ other = word_same word other (also_address all) in
          let Q : Word → Type 0 = λ w. slice_get (merged_at places w phase values) place ≡ Some put in
          let f : ℕ → ℕ = λ v. merge_of v phase (mask_in word.space word.address) in
          let R : Option ℕ → Type 0 = λ p. slice_get (changed_at f values p) place ≡ Some put in
          subst Q same (subst R (sym is) (changed_same f values place value there))
      | false ↦ λ not_all.
          let f : ℕ → ℕ = λ v. merge_of v phase (mask_in space at) in
          let R : Option ℕ → Type 0 = λ p. place_at places other ≡ p → slice_get (changed_at f values p) place ≡ Some value in
          (elim (place_at places other) as R [
            | None ↦ λ _. there
            | Some q ↦ λ found.
                let elsewhere : place ≢ q = λ one.
                (let same : other ≡ word = apart other word place (found ∙ ap (λ (n : ℕ). Some n) (sym one)) is in
                let S : Word → Type 0 = λ w. (word.target == w.target && same_space word.space w.space && w.address == word.address) ≡ false in
                let never = subst S same not_all in
                let self : (word.target == word.target && same_space word.space word.space && word.address == word.address) ≡ true = word_self word in
                absurd (cc)) in
                changed_other f values q place elsewhere ∙ there
          ]) refl
    ]) refl where
      also_address : (word.target == target && same_space word.space space && at == word.address) ≡ true → (word.target == target && same_space word.space space && word.address == at) ≡ true
      also_address all =
          let parts = both_true (word.target == target && same_space word.space space) (at == word.address) all in
          let turned : (word.address == at) ≡ true = grind (arith, nat_tests, parts.1) in
          rw (parts.0, turned)

pub landed_there : (places : WordPlaces) → ((a b : Word) (place : ℕ) → place_at places a ≡ Some place → place_at places b ≡ Some place → a ≡ b) → (word : Word) (place : ℕ) → place_at places word ≡ Some place
    → (target : ℕ) (space : Space) (at : ℕ) (phases : List Phase) (values : List ℕ) (value : ℕ) → slice_get values place ≡ Some value
    → slice_get (landed_in places target space at phases values) place ≡ Some (landed_value word target space at phases value)
landed_there places apart word place is target space at [] values value there =
    let P : Bool → Type 0 = λ b. slice_get values place ≡ Some (if b then value else value) in
    elim (hits word target space) as P [ true ↦ there | false ↦ there ]
landed_there places apart word place is target space at (phase ∷ phases) values value there =
    let put : ℕ = merge_of value phase (mask_in word.space word.address) in
    let next : ℕ = if hits word target space && at == word.address then put else value in
    let one = one_phase places apart word place is target space at phase values value there in
    let rest = landed_there places apart word place is target space (at + 4) phases (merged_at places (record { target = target; space = space; address = at }) phase values) next one in
    let P : Bool → Type 0 = λ b.
    (let then_value : ℕ = if b && at == word.address then put else value in if b then value_merged word.space word.address (at + 4) then_value phases else then_value)
    ≡ (if b then value_merged word.space word.address (at + 4) (if at == word.address then put else value) phases else value) in
    let same = elim (hits word target space) as P [ true ↦ refl | false ↦ refl ] in
    rest ∙ ap (λ (n : ℕ). Some n) same
