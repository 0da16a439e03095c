-- A data phase that lands twice changes what it changes once.
use Rattle.std.proofs.Common.{◌≡◌, ℕ, ◌+◌, ◌-◌, ◌*◌, ◌/◌, ◌%◌, ◌^◌, Bool, true, false, eqb, cond, refl, sym, ap, ◌∙◌, bit_and, bit_or}
use Rattle.std.specs.Int.Bits.{and_self, and_zero_r}
use Rattle.std.proofs.lemmas.Nat.{and_comm, or_comm, and_assoc, and_or_apart}
use Rattle.pci_command.specs.declared.command.Space.{Space}
use Rattle.pci_command.specs.declared.command.Space.TheVariants.{Mem, Io, Cfg}
use Rattle.pci_command.specs.declared.phases.Phase.{Phase}
use Rattle.board_model.specs.device.Registers.{enabled_bits, merge_of}
use Rattle.history_model.specs.Words.{mask_in}

abbrev pub bits : Bool → Bool → Bool → Bool → ℕ
bits a b c d = cond a (0xff * 2 ^ (8 * 0)) 0 + cond b (0xff * 2 ^ (8 * 1)) 0 + cond c (0xff * 2 ^ (8 * 2)) 0 + cond d (0xff * 2 ^ (8 * 3)) 0

-- what is taken and what is left of a dword have no bit in common
abbrev pub Apart : ℕ → Bool → Bool → Bool → Bool → Type 0
Apart mask a b c d = bit_and (bit_and (bits a b c d) mask) (0xffff_ffff - bit_and (bits a b c d) mask) ≡ 0

apart_all : (a b c d : Bool) → Apart 0xffff_ffff a b c d
apart_all true true true true = refl
apart_all true true true false = refl
apart_all true true false true = refl
apart_all true true false false = refl
apart_all true false true true = refl
apart_all true false true false = refl
apart_all true false false true = refl
apart_all true false false false = refl
apart_all false true true true = refl
apart_all false true true false = refl
apart_all false true false true = refl
apart_all false true false false = refl
apart_all false false true true = refl
apart_all false false true false = refl
apart_all false false false true = refl
apart_all false false false false = refl

apart_three : (a b c d : Bool) → Apart 0x0000_0007 a b c d
apart_three true true true true = refl
apart_three true true true false = refl
apart_three true true false true = refl
apart_three true true false false = refl
apart_three true false true true = refl
apart_three true false true false = refl
apart_three true false false true = refl
apart_three true false false false = refl
apart_three false true true true = refl
apart_three false true true false = refl
apart_three false true false true = refl
apart_three false true false false = refl
apart_three false false true true = refl
apart_three false false true false = refl
apart_three false false false true = refl
apart_three false false false false = refl

apart_byte : (a b c d : Bool) → Apart 0x0000_00ff a b c d
apart_byte true true true true = refl
apart_byte true true true false = refl
apart_byte true true false true = refl
apart_byte true true false false = refl
apart_byte true false true true = refl
apart_byte true false true false = refl
apart_byte true false false true = refl
apart_byte true false false false = refl
apart_byte false true true true = refl
apart_byte false true true false = refl
apart_byte false true false true = refl
apart_byte false true false false = refl
apart_byte false false true true = refl
apart_byte false false true false = refl
apart_byte false false false true = refl
apart_byte false false false false = refl

apart_none : (a b c d : Bool) → Apart 0 a b c d
apart_none true true true true = refl
apart_none true true true false = refl
apart_none true true false true = refl
apart_none true true false false = refl
apart_none true false true true = refl
apart_none true false true false = refl
apart_none true false false true = refl
apart_none true false false false = refl
apart_none false true true true = refl
apart_none false true true false = refl
apart_none false true false true = refl
apart_none false true false false = refl
apart_none false false true true = refl
apart_none false false true false = refl
apart_none false false false true = refl
apart_none false false false false = refl

abbrev pub byte : ℕ → ℕ → Bool
byte enables n = eqb (enables / 2 ^ n % 2) 1

pub apart_in : (space : Space) (address enables : ℕ) → Apart (mask_in space address) (byte enables 0) (byte enables 1) (byte enables 2) (byte enables 3)
apart_in Mem address enables = apart_all (byte enables 0) (byte enables 1) (byte enables 2) (byte enables 3)
apart_in Io address enables = apart_all (byte enables 0) (byte enables 1) (byte enables 2) (byte enables 3)
apart_in Cfg address enables =
    let register : ℕ = address / 4 in
    let F : ℕ → Type 0 = λ mask. Apart mask (byte enables 0) (byte enables 1) (byte enables 2) (byte enables 3) in
    let none : F 0 = apart_none (byte enables 0) (byte enables 1) (byte enables 2) (byte enables 3) in
    let three : F 0x0000_0007 = apart_three (byte enables 0) (byte enables 1) (byte enables 2) (byte enables 3) in
    let one : F 0x0000_00ff = apart_byte (byte enables 0) (byte enables 1) (byte enables 2) (byte enables 3) in
    let A : Bool → Type 0 = λ b. F (cond b 0x0000_00ff 0) in
    let a : A (eqb register 15) = elim (eqb register 15) as A [ true ↦ one | false ↦ none ] in
    let B : Bool → Type 0 = λ b. F (cond b 0x0000_00ff (cond (eqb register 15) 0x0000_00ff 0)) in
    let b : B (eqb register 3) = elim (eqb register 3) as B [ true ↦ one | false ↦ a ] in
    let C : Bool → Type 0 = λ c. F (cond c 0x0000_0007 (cond (eqb register 3) 0x0000_00ff (cond (eqb register 15) 0x0000_00ff 0))) in
    elim (eqb register 1) as C [ true ↦ three | false ↦ b ]

merge_apart : (old value taken left : ℕ) → bit_and taken left ≡ 0 → bit_or (bit_and (bit_or (bit_and old left) (bit_and value taken)) left) (bit_and value taken) ≡ bit_or (bit_and old left) (bit_and value taken)
merge_apart old value taken left apart =
    let none : bit_and (bit_and value taken) left ≡ 0 = and_assoc left value taken ∙ ap (bit_and value) apart ∙ and_zero_r value in
    let first : bit_and (bit_or (bit_and old left) (bit_and value taken)) left ≡ bit_and (bit_and old left) left = and_or_apart left (bit_and old left) (bit_and value taken) none in
    let same : bit_and (bit_and old left) left ≡ bit_and old left = and_assoc left old left ∙ ap (bit_and old) (and_self left) in
    ap (λ n. bit_or n (bit_and value taken)) (first ∙ same)

-- so it is of each
pub merge_twice : (space : Space) (address old : ℕ) (phase : Phase) → let mask = mask_in space address in merge_of (merge_of old phase mask) phase mask ≡ merge_of old phase mask
merge_twice space address old phase =
    let taken : ℕ = bit_and (enabled_bits phase.enables) (mask_in space address) in
    merge_apart old phase.value taken (0xffff_ffff - taken) (apart_in space address phase.enables)

-- what all bytes that a mask looks at are taken of is, under the mask, what was brought
pub merge_under : (mask old : ℕ) (phase : Phase) → bit_and (bit_and (enabled_bits phase.enables) 0xffff_ffff) mask ≡ mask → bit_and (merge_of old phase 0xffff_ffff) mask ≡ bit_and (bit_and phase.value 0xffff_ffff) mask
merge_under mask old phase covers =
    let all : ℕ = 0xffff_ffff in
    let value : ℕ = phase.value in
    let taken : ℕ = bit_and (enabled_bits phase.enables) all in
    let left : ℕ = 0xffff_ffff - taken in
    let apart : bit_and taken left ≡ 0 = apart_in Mem 0 phase.enables in
    let none : bit_and left mask ≡ 0 =
    and_comm left mask ∙ ap (λ m. bit_and m left) (sym covers) ∙ ap (λ m. bit_and m left) (and_comm taken mask) ∙ and_assoc left mask taken ∙ ap (bit_and mask) apart ∙ and_zero_r mask in
    let old_none : bit_and (bit_and old left) mask ≡ 0 = and_assoc mask old left ∙ ap (bit_and old) none ∙ and_zero_r old in
    let within : bit_and all taken ≡ taken = and_comm all taken ∙ and_assoc all (enabled_bits phase.enables) all ∙ ap (bit_and (enabled_bits phase.enables)) (and_self all) in
    let all_mask : bit_and all mask ≡ mask = ap (bit_and all) (sym covers) ∙ sym (and_assoc mask all taken) ∙ ap (λ t. bit_and t mask) within ∙ covers in
    let brought : bit_and (bit_and value taken) mask ≡ bit_and (bit_and value all) mask = and_assoc mask value taken ∙ ap (bit_and value) (covers ∙ sym all_mask) ∙ sym (and_assoc mask value all) in
    ap (λ n. bit_and n mask) (or_comm (bit_and old left) (bit_and value taken)) ∙ and_or_apart mask (bit_and value taken) (bit_and old left) old_none ∙ brought
