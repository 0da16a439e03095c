-- Whether a flag is clear, as it is looked up.
use Rattle.std.proofs.Common.{◌≡◌, ℕ, zero, suc, ◌+◌, ◌-◌, ◌%◌, ◌^◌, ◌<◌, ◌≤◌, Bool, true, false, ◌||◌, ◌==◌, cond, eqb, min, bit_and, filter, List, [], ◌∷◌, ◌++◌, length, take, drop, slice_index_or, refl, sym, ap, subst, ◌∙◌, arith}
use Rattle.std.specs.List.{list_all, list_any}
use Rattle.std.proofs.lemmas.Bool.Decides.{nat_tests}
use Rattle.std.proofs.lemmas.Nat.{and_mask}
use Rattle.std.proofs.lemmas.List.{take_all}
use Rattle.list_facts.specs.Lists.{total}
use Rattle.pci_command.specs.declared.command.Command.TheVariants.{MemWrite}
use Rattle.pci_command.specs.declared.phases.Phase.{Phase}
use Rattle.pci_command.specs.Same.{same_command}
use Rattle.board_model.specs.declared.agents.Target.{Target}
use Rattle.board_model.specs.declared.op.Op.{Op}
use Rattle.board_model.specs.Requests.{command_of, address_on, phases_of}
use Rattle.history_model.specs.Clear.{phases_at, written_at, brings_value, rings, is_whole, holds, opens_otherwise}

-- Counts up to two.

pub capped : (found here later : ℕ) → min (min (found + here) 2 + later) 2 ≡ min (found + (here + later)) 2
capped found here later = grind (arith, nat_tests)

pub uncapped : (found : ℕ) → found ≤ 2 → found ≡ min (found + 0) 2
uncapped found few = grind (arith, nat_tests)

pub one_of_capped : (n : ℕ) → (min n 2 == 1) ≡ (n == 1)
one_of_capped zero = refl
one_of_capped (suc zero) = refl
one_of_capped (suc (suc n)) = grind (arith, nat_tests)

-- A dword of 32 bits is its own value.

pub all_bits : (word : ℕ) → word < 2 ^ 32 → bit_and word 0xffff_ffff ≡ word
all_bits word below = let low : bit_and word 0xffff_ffff ≡ word % 2 ^ 32 = and_mask word 32 in omega (arith, low, below)

-- Targets.

none_left : (address : ℕ) (targets : List Target) → list_any (holds address) targets ≡ false → filter (holds address) targets ≡ []
none_left address [] none = refl
none_left address (target ∷ targets) none =
    let P : Bool → Type 0 = λ b. (b || list_any (holds address) targets) ≡ false → cond b (target ∷ filter (holds address) targets) (filter (holds address) targets) ≡ [] in
    (elim (holds address target) as P [ true ↦ λ e. cc | false ↦ λ e. none_left address targets e ]) none

one_left : (address value : ℕ) (target : Target) (targets : List Target) → list_any (holds address) targets ≡ true → opens_otherwise address value (target ∷ filter (holds address) targets) ≡ false
one_left address value target [] some = cc
one_left address value target (next ∷ targets) some =
    let P : Bool → Type 0 = λ b. (b || list_any (holds address) targets) ≡ true → opens_otherwise address value (target ∷ cond b (next ∷ filter (holds address) targets) (filter (holds address) targets)) ≡ false in
    (elim (holds address next) as P [ true ↦ λ _. refl | false ↦ λ e. one_left address value target targets e ]) some

-- the first holds the address: it opens otherwise, and no other holds it
pub here_alone : (address value : ℕ) (target : Target) (targets : List Target) → holds address target ≡ true → list_any (holds address) targets ≡ false → opens_otherwise address value (filter (holds address) (target ∷ targets)) ≡ opens_otherwise address value (target ∷ [])
here_alone address value target targets here none =
    let F : Bool → Type 0 = λ b. opens_otherwise address value (cond b (target ∷ filter (holds address) targets) (filter (holds address) targets)) ≡ opens_otherwise address value (target ∷ []) in
    let there : F true = ap (λ ts. opens_otherwise address value (target ∷ ts)) (none_left address targets none) in
    subst F (sym here) there

pub here_and_more : (address value : ℕ) (target : Target) (targets : List Target) → holds address target ≡ true → list_any (holds address) targets ≡ true → opens_otherwise address value (filter (holds address) (target ∷ targets)) ≡ false
here_and_more address value target targets here some =
    let F : Bool → Type 0 = λ b. opens_otherwise address value (cond b (target ∷ filter (holds address) targets) (filter (holds address) targets)) ≡ false in
    let there : F true = one_left address value target targets some in
    subst F (sym here) there

pub not_here : (address : ℕ) (target : Target) (targets : List Target) → holds address target ≡ false → filter (holds address) (target ∷ targets) ≡ filter (holds address) targets
not_here address target targets other =
    let F : Bool → Type 0 = λ b. cond b (target ∷ filter (holds address) targets) (filter (holds address) targets) ≡ filter (holds address) targets in
    let there : F false = refl in
    subst F (sym other) there

-- Data phases.

abbrev brings : ℕ → Phase → ℕ
brings value phase = cond (brings_value value phase) 1 0

pub phases_here : (address at : ℕ) (phase : Phase) (phases : List Phase) → at ≡ address → phases_at address at (phase ∷ phases) ≡ phase ∷ phases_at address (at + 4) phases
phases_here address at phase phases same =
    let here : eqb at address ≡ true = grind (arith, nat_tests) in
    let F : Bool → Type 0 = λ b. cond b (phase ∷ []) [] ++ phases_at address (at + 4) phases ≡ phase ∷ phases_at address (at + 4) phases in
    let there : F true = refl in
    subst F (sym here) there

pub phases_later : (address at : ℕ) (phase : Phase) (phases : List Phase) → eqb at address ≡ false → phases_at address at (phase ∷ phases) ≡ phases_at address (at + 4) phases
phases_later address at phase phases other =
    let F : Bool → Type 0 = λ b. cond b (phase ∷ []) [] ++ phases_at address (at + 4) phases ≡ phases_at address (at + 4) phases in
    let there : F false = refl in
    subst F (sym other) there

-- Operations.

written : (address : ℕ) (op : Op) (command : Bool) → same_command (command_of op) MemWrite ≡ command → written_at address op ≡ cond command (phases_at address (address_on op 0) (phases_of op)) []
written address op command is = ap (λ b. cond b (phases_at address (address_on op 0) (phases_of op)) []) is

pub write_rings : (address value : ℕ) (op : Op) → same_command (command_of op) MemWrite ≡ true → rings address value op ≡ total (brings value) (phases_at address (address_on op 0) (phases_of op))
write_rings address value op is = ap (total (brings value)) (written address op true is)

pub no_write_rings : (address value : ℕ) (op : Op) → same_command (command_of op) MemWrite ≡ false → rings address value op ≡ 0
no_write_rings address value op is = ap (total (brings value)) (written address op false is)

pub write_is_whole : (address : ℕ) (op : Op) → same_command (command_of op) MemWrite ≡ true → list_all is_whole (written_at address op) ≡ list_all is_whole (phases_at address (address_on op 0) (phases_of op))
write_is_whole address op is = ap (list_all is_whole) (written address op true is)

pub no_write_is_whole : (address : ℕ) (op : Op) → same_command (command_of op) MemWrite ≡ false → list_all is_whole (written_at address op) ≡ true
no_write_is_whole address op is = ap (list_all is_whole) (written address op false is)

-- The first of some targets, and the others.

all_others : (first : Target) (targets : List Target) → take (length (first ∷ targets) - 1) targets ≡ targets
all_others first targets = take_all (length (first ∷ targets) - 1) targets (omega arith)

pub first_alone : (address value : ℕ) (targets : List Target) (target : Target) (opens some : Bool) → 1 ≤ length targets → target ≡ slice_index_or targets 0 target → holds address target ≡ true → some ≡ list_any (holds address) (take (length targets - 1) (drop 1 targets)) → some ≡ false → opens ≡ opens_otherwise address value (target ∷ [])
    → opens ≡ opens_otherwise address value (filter (holds address) targets)
first_alone address value [] target opens some long is here others none said = absurd (omega (arith, long))
first_alone address value (first ∷ targets) target opens some long is here others none said =
    said
    ∙ ap (λ (t : Target). opens_otherwise address value (t ∷ [])) is
    ∙ sym (here_alone address value first targets (ap (holds address) (sym is) ∙ here) (ap (list_any (holds address)) (sym (all_others first targets)) ∙ sym others ∙ none))

pub first_of_more : (address value : ℕ) (targets : List Target) (target : Target) (some : Bool) → 1 ≤ length targets → target ≡ slice_index_or targets 0 target → holds address target ≡ true → some ≡ list_any (holds address) (take (length targets - 1) (drop 1 targets)) → some ≡ true
    → false ≡ opens_otherwise address value (filter (holds address) targets)
first_of_more address value [] target some long is here others more = absurd (omega (arith, long))
first_of_more address value (first ∷ targets) target some long is here others more =
    sym (here_and_more address value first targets (ap (holds address) (sym is) ∙ here) (ap (list_any (holds address)) (sym (all_others first targets)) ∙ sym others ∙ more))
