-- The enabled bytes of the writes of a put are its bytes.
use Rattle.std.proofs.Common.{◌≡◌, ℕ, zero, suc, ◌+◌, ◌-◌, ◌*◌, ◌/◌, ◌%◌, ◌^◌, ◌<◌, ◌≤◌, Bool, true, false, ◌&&◌, eqb, cond, nat_le, min, flat_map, List, [], ◌∷◌, ◌++◌, append_assoc, length, refl, sym, ap, ◌∙◌, arith}
use Rattle.std.specs.List.{list_all}
use Rattle.std.proofs.lemmas.Bool.{and_from, le-leb, leb-true}
use Rattle.std.proofs.lemmas.Bool.Decides.{nat_tests}
use Rattle.pci_command.specs.declared.phases.Phase.{Phase}
use Rattle.board_model.specs.Limits.{most_dwords}
use Rattle.board_model.specs.WellFormed.{is_within, is_well_formed_phase, is_well_formed_op}
use Rattle.board_parser.specs.draft.Formed.{is_formed_op}
use Rattle.dma_agents.specs.declared.put.Put.{Put}
use Rattle.dma_agents.specs.Put.{is_put, byte_at, lane_byte, lane_enable, phase_at, phases_from, first_in, dwords_in, write_in, writes_from, blocks_of, cut, Placed, enabled_byte, bytes_in, bytes_from, bytes_of, run_of, bytes_put}

-- one more of a list, of those to come
pub pushed : {X : Type 0} (new xs : List X) (x : X) (rest more all : List X) → new ≡ xs ++ x ∷ [] → more ≡ x ∷ rest → xs ++ more ≡ all → new ++ rest ≡ all
pushed new xs x rest more all is_new is_more told =
    ap (λ zs. zs ++ rest) is_new ∙ append_assoc xs (x ∷ []) rest ∙ ap (λ zs. xs ++ zs) (sym is_more) ∙ told

pub phases_step : (p : Put) (count place at : ℕ) → place < count → phases_from p (count - place) (at + 4 * place) ≡ phase_at p (at + 4 * place) ∷ phases_from p (count - (place + 1)) (at + 4 * (place + 1))
phases_step p count place at below =
    let more : count - place ≡ suc (count - (place + 1)) = omega (arith, below) in
    let further : at + 4 * place + 4 ≡ at + 4 * (place + 1) = omega arith in
    ap (λ n. phases_from p n (at + 4 * place)) more ∙ ap (λ a. phase_at p (at + 4 * place) ∷ phases_from p (count - (place + 1)) a) further

pub writes_step : (p : Put) (end block : ℕ) → block < end → writes_from p (end - block) block ≡ write_in p block ∷ writes_from p (end - (block + 1)) (block + 1)
writes_step p end block below =
    let more : end - block ≡ suc (end - (block + 1)) = omega (arith, below) in
    ap (λ n. writes_from p n block) more

-- Bytes between two addresses.

-- how many bytes of the put are below an address
abbrev below : Put → ℕ → ℕ
below p x = min p.length (x - p.address)

abbrev between : Put → ℕ → ℕ → List Placed
between p x y = run_of p (below p y - below p x) (p.address + below p x)

run_join : (p : Put) (a b x : ℕ) → run_of p a x ++ run_of p b (x + a) ≡ run_of p (a + b) x
run_join p zero b x =
    let same : x + 0 ≡ x = omega arith in
    let none : b ≡ 0 + b = omega arith in
    ap (run_of p b) same ∙ ap (λ n. run_of p n x) none
run_join p (suc a) b x =
    let next : x + suc a ≡ x + 1 + a = omega arith in
    let one : Placed = record { at = x; byte = byte_at p x } in
    let more : suc (a + b) ≡ suc a + b = omega arith in
    ap (λ ys. one ∷ ys) (ap (λ y. run_of p a (x + 1) ++ run_of p b y) next ∙ run_join p a b (x + 1)) ∙ ap (λ n. run_of p n x) more

join : (p : Put) (x y z : ℕ) → x ≤ y → y ≤ z → between p x y ++ between p y z ≡ between p x z
join p x y z first second =
    let a : ℕ = below p y - below p x in
    let b : ℕ = below p z - below p y in
    let start : ℕ = p.address + below p x in
    let here : p.address + below p y ≡ start + a = grind (arith, nat_tests, first) in
    let all : a + b ≡ below p z - below p x = grind (arith, nat_tests, first, second) in
    ap (λ s. run_of p a start ++ run_of p b s) here ∙ run_join p a b start ∙ ap (λ n. run_of p n start) all

-- the byte at an address alone
abbrev lone : Put → ℕ → List Placed
lone p x = cond (is_put p x) (record { at = x; byte = byte_at p x } ∷ []) []

lone_between : (p : Put) (x : ℕ) → lone p x ≡ between p x (x + 1)
lone_between p x =
    let P : Bool → Type 0 = λ b. is_put p x ≡ b → cond b (record { at = x; byte = byte_at p x } ∷ []) [] ≡ between p x (x + 1) in
    (elim (is_put p x) as P [
      | true ↦ λ is.
          let one : below p (x + 1) - below p x ≡ 1 = grind (arith, nat_tests, is) in
          let at : p.address + below p x ≡ x = grind (arith, nat_tests, is) in
          sym (ap (λ n. run_of p n (p.address + below p x)) one ∙ ap (run_of p 1) at)
      | false ↦ λ none.
          let no : below p (x + 1) - below p x ≡ 0 = grind (arith, nat_tests, none) in
          sym (ap (λ n. run_of p n (p.address + below p x)) no)
    ]) refl

byte_small : (p : Put) (x : ℕ) → lane_byte p x < 256
byte_small p x = let P : Bool → Type 0 = λ b. cond b (byte_at p x) 0 < 256 in elim (is_put p x) as P [ true ↦ omega arith | false ↦ omega arith ]

enable_small : (p : Put) (x : ℕ) → lane_enable p x ≤ 1
enable_small p x = let P : Bool → Type 0 = λ b. cond b 1 0 ≤ 1 in elim (is_put p x) as P [ true ↦ omega arith | false ↦ omega arith ]

-- a lane whose bit and byte are those of an address
lane_lone : (p : Put) (x enables value : ℕ) → enables ≡ lane_enable p x → value ≡ lane_byte p x → cond (eqb enables 1) (record { at = x; byte = value } ∷ []) [] ≡ lone p x
lane_lone p x enables value bit byte =
    let one : ℕ → Placed = λ v. record { at = x; byte = v } in
    let P : Bool → Type 0 = λ b. is_put p x ≡ b → cond (eqb (cond b 1 0) 1) (one (cond b (byte_at p x) 0) ∷ []) [] ≡ cond b (one (byte_at p x) ∷ []) [] in
    let F : ℕ → ℕ → List Placed = λ e v. cond (eqb e 1) (one v ∷ []) [] in
    ap (λ e. F e value) bit ∙ ap (F (lane_enable p x)) byte ∙ (elim (is_put p x) as P [ true ↦ λ _. refl | false ↦ λ _. refl ]) refl

phase_bytes : (p : Put) (at : ℕ) → bytes_in at (phase_at p at) ≡ between p at (at + 4)
phase_bytes p at =
    let e0 = enable_small p at in let e1 = enable_small p (at + 1) in let e2 = enable_small p (at + 2) in let e3 = enable_small p (at + 3) in
    let b0 = byte_small p at in let b1 = byte_small p (at + 1) in let b2 = byte_small p (at + 2) in let b3 = byte_small p (at + 3) in
    let f : Phase = phase_at p at in
    let whole : at + 0 ≡ at = omega arith in
    let x0 : f.enables / 2 ^ 0 % 2 ≡ lane_enable p (at + 0) = omega (arith, e0, e1, e2, e3, ap (lane_enable p) whole) in
    let x1 : f.enables / 2 ^ 1 % 2 ≡ lane_enable p (at + 1) = omega (arith, e0, e1, e2, e3) in
    let x2 : f.enables / 2 ^ 2 % 2 ≡ lane_enable p (at + 2) = omega (arith, e0, e1, e2, e3) in
    let x3 : f.enables / 2 ^ 3 % 2 ≡ lane_enable p (at + 3) = omega (arith, e0, e1, e2, e3) in
    let y0 : f.value / 2 ^ (8 * 0) % 256 ≡ lane_byte p (at + 0) = omega (arith, b0, b1, b2, b3, ap (lane_byte p) whole) in
    let y1 : f.value / 2 ^ (8 * 1) % 256 ≡ lane_byte p (at + 1) = omega (arith, b0, b1, b2, b3) in
    let y2 : f.value / 2 ^ (8 * 2) % 256 ≡ lane_byte p (at + 2) = omega (arith, b0, b1, b2, b3) in
    let y3 : f.value / 2 ^ (8 * 3) % 256 ≡ lane_byte p (at + 3) = omega (arith, b0, b1, b2, b3) in
    let z : (i : ℕ) → f.enables / 2 ^ i % 2 ≡ lane_enable p (at + i) → f.value / 2 ^ (8 * i) % 256 ≡ lane_byte p (at + i) → enabled_byte at f i ≡ between p (at + i) (at + i + 1)
    = λ i bit byte. lane_lone p (at + i) (f.enables / 2 ^ i % 2) (f.value / 2 ^ (8 * i) % 256) bit byte ∙ lone_between p (at + i) in
    let s0 : enabled_byte at f 0 ≡ between p at (at + 1) = z 0 x0 y0 ∙ ap (λ a. between p a (a + 1)) whole in
    let n1 : at + 1 + 1 ≡ at + 2 = omega arith in
    let n2 : at + 2 + 1 ≡ at + 3 = omega arith in
    let n3 : at + 3 + 1 ≡ at + 4 = omega arith in
    let s1 : enabled_byte at f 1 ≡ between p (at + 1) (at + 2) = z 1 x1 y1 ∙ ap (between p (at + 1)) n1 in
    let s2 : enabled_byte at f 2 ≡ between p (at + 2) (at + 3) = z 2 x2 y2 ∙ ap (between p (at + 2)) n2 in
    let s3 : enabled_byte at f 3 ≡ between p (at + 3) (at + 4) = z 3 x3 y3 ∙ ap (between p (at + 3)) n3 in
    four (enabled_byte at f 0) (enabled_byte at f 1) (enabled_byte at f 2) (enabled_byte at f 3) s0 s1 s2 s3
  where
    four : (a b c d : List Placed) → a ≡ between p at (at + 1) → b ≡ between p (at + 1) (at + 2) → c ≡ between p (at + 2) (at + 3) → d ≡ between p (at + 3) (at + 4) → a ++ b ++ c ++ d ≡ between p at (at + 4)
    four a b c d ea eb ec ed =
        let ab : a ++ b ≡ between p at (at + 2) = ap (λ y. y ++ b) ea ∙ ap (λ y. between p at (at + 1) ++ y) eb ∙ join p at (at + 1) (at + 2) (omega arith) (omega arith) in
        let abc : a ++ b ++ c ≡ between p at (at + 3) = ap (λ y. y ++ c) ab ∙ ap (λ y. between p at (at + 2) ++ y) ec ∙ join p at (at + 2) (at + 3) (omega arith) (omega arith) in
        ap (λ y. y ++ d) abc ∙ ap (λ y. between p at (at + 3) ++ y) ed ∙ join p at (at + 3) (at + 4) (omega arith) (omega arith)

phases_bytes : (p : Put) (count at : ℕ) → bytes_from at (phases_from p count at) ≡ between p at (at + 4 * count)
phases_bytes p zero at =
    let same : at + 4 * 0 ≡ at = omega arith in
    let none : below p at - below p at ≡ 0 = omega arith in
    sym (ap (between p at) same ∙ ap (λ n. run_of p n (p.address + below p at)) none)
phases_bytes p (suc count) at =
    let further : at + 4 + 4 * count ≡ at + 4 * suc count = omega arith in
    ap (λ ys. ys ++ bytes_from (at + 4) (phases_from p count (at + 4))) (phase_bytes p at)
    ∙ ap (λ ys. between p at (at + 4) ++ ys) (phases_bytes p count (at + 4))
    ∙ join p at (at + 4) (at + 4 + 4 * count) (omega arith) (omega arith)
    ∙ ap (between p at) further

-- the write of a block that the put touches
write_bytes : (p : Put) (block : ℕ) → 32 * block < p.address + p.length → p.address < 32 * block + 32 → bytes_of (write_in p block) ≡ between p (32 * block) (32 * block + 32)
write_bytes p block touched behind =
    let first : ℕ = first_in p block in
    let upto : ℕ = first + 4 * dwords_in p block in
    let starts : below p first ≡ below p (32 * block) = grind (arith, nat_tests, touched, behind) in
    let ends : below p upto ≡ below p (32 * block + 32) = grind (arith, nat_tests, touched, behind) in
    phases_bytes p (dwords_in p block) first
    ∙ ap (λ n. run_of p (below p upto - n) (p.address + n)) starts
    ∙ ap (λ n. run_of p (n - below p (32 * block)) (p.address + below p (32 * block))) ends

blocks_bytes : (p : Put) (count block : ℕ) → p.address < 32 * block + 32 → 32 * (block + count) < p.address + p.length + 32 → flat_map bytes_of (writes_from p count block) ≡ between p (32 * block) (32 * (block + count))
blocks_bytes p zero block behind within =
    let same : 32 * (block + 0) ≡ 32 * block = omega arith in
    let none : below p (32 * block) - below p (32 * block) ≡ 0 = omega arith in
    sym (ap (between p (32 * block)) same ∙ ap (λ n. run_of p n (p.address + below p (32 * block))) none)
blocks_bytes p (suc count) block behind within =
    let next : 32 * block + 32 ≡ 32 * (block + 1) = omega arith in
    let last : 32 * (block + 1 + count) ≡ 32 * (block + suc count) = omega arith in
    ap (λ ys. ys ++ flat_map bytes_of (writes_from p count (block + 1))) (write_bytes p block (omega (arith, within)) behind ∙ ap (between p (32 * block)) next)
    ∙ ap (λ ys. between p (32 * block) (32 * (block + 1)) ++ ys) (blocks_bytes p count (block + 1) (omega (arith, behind)) (omega (arith, within)))
    ∙ join p (32 * block) (32 * (block + 1)) (32 * (block + 1 + count)) (omega arith) (omega arith)
    ∙ ap (between p (32 * block)) last

-- the enabled bytes of all its writes
pub put_bytes : (p : Put) → 1 ≤ p.length → flat_map bytes_of (cut p) ≡ bytes_put p
put_bytes p some =
    let first : ℕ = p.address / 32 in
    let count : ℕ = blocks_of p in
    let starts : below p (32 * first) ≡ 0 = grind (arith, nat_tests) in
    let ends : below p (32 * (first + count)) ≡ p.length = grind (arith, nat_tests, some) in
    blocks_bytes p count first (omega arith) (omega (arith, some))
    ∙ ap (λ n. run_of p (below p (32 * (first + count)) - n) (p.address + n)) starts
    ∙ (let whole : below p (32 * (first + count)) - 0 ≡ p.length = omega (arith, ends) in let here : p.address + 0 ≡ p.address = omega arith in ap (λ n. run_of p n (p.address + 0)) whole ∙ ap (run_of p p.length) here)

-- Each write can stand in a program.

length_phases : (p : Put) (count at : ℕ) → length (phases_from p count at) ≡ count
length_phases p zero at = refl
length_phases p (suc count) at = let more = length_phases p count (at + 4) in omega (arith, more)

phases_formed : (p : Put) (count at : ℕ) → list_all is_well_formed_phase (phases_from p count at) ≡ true
phases_formed p zero at = refl
phases_formed p (suc count) at =
    let e0 = enable_small p at in let e1 = enable_small p (at + 1) in let e2 = enable_small p (at + 2) in let e3 = enable_small p (at + 3) in
    let few : (phase_at p at).enables ≤ 15 = omega (arith, e0, e1, e2, e3) in
    and_from _ _ (le-leb (phase_at p at).enables 15 few) (phases_formed p count (at + 4))

write_formed : (p : Put) (block : ℕ) → 1 ≤ p.length → 32 * block < p.address + p.length → p.address < 32 * block + 32 → is_well_formed_op (write_in p block) ≡ true
write_formed p block bytes touched behind =
    let first : ℕ = first_in p block in
    let count : ℕ = dwords_in p block in
    let long = length_phases p count first in
    let aligned : eqb (first % 4) 0 ≡ true = grind (arith, nat_tests) in
    let some : is_within 1 most_dwords count ≡ true = grind (arith, nat_tests, touched, behind, bytes) in
    let inside : nat_le (first % 64 + 4 * count) 64 ≡ true = grind (arith, nat_tests, touched, behind) in
    let F : ℕ → Bool = λ n. is_within 1 most_dwords n && nat_le (first % 64 + 4 * n) 64 in
    let burst : F (length (phases_from p count first)) ≡ true = ap F long ∙ and_from _ _ some inside in
    and_from _ _ (and_from _ _ aligned burst) (phases_formed p count first)

blocks_formed : (p : Put) (count block : ℕ) → 1 ≤ p.length → p.address < 32 * block + 32 → 32 * (block + count) < p.address + p.length + 32 → list_all is_well_formed_op (writes_from p count block) ≡ true
blocks_formed p zero block bytes behind within = refl
blocks_formed p (suc count) block bytes behind within =
    and_from _ _ (write_formed p block bytes (omega (arith, within)) behind) (blocks_formed p count (block + 1) bytes (omega (arith, behind)) (omega (arith, within)))

pub put_formed : (p : Put) → 1 ≤ p.length → list_all is_well_formed_op (cut p) ≡ true
put_formed p some = blocks_formed p (blocks_of p) (p.address / 32) some (omega arith) (omega (arith, some))

-- and was read so

write_read : (p : Put) (block : ℕ) → 1 ≤ p.length → 32 * block < p.address + p.length → p.address < 32 * block + 32 → is_formed_op (write_in p block) ≡ true
write_read p block bytes touched behind =
    let first : ℕ = first_in p block in
    let count : ℕ = dwords_in p block in
    let long = length_phases p count first in
    let some : is_within 1 most_dwords count ≡ true = grind (arith, nat_tests, touched, behind, bytes) in
    let F : ℕ → Bool = λ n. is_within 1 most_dwords n in
    and_from _ _ (ap F long ∙ some) (phases_formed p count first)

blocks_read : (p : Put) (count block : ℕ) → 1 ≤ p.length → p.address < 32 * block + 32 → 32 * (block + count) < p.address + p.length + 32 → list_all is_formed_op (writes_from p count block) ≡ true
blocks_read p zero block bytes behind within = refl
blocks_read p (suc count) block bytes behind within =
    and_from _ _ (write_read p block bytes (omega (arith, within)) behind) (blocks_read p count (block + 1) bytes (omega (arith, behind)) (omega (arith, within)))

pub cut_formed : (p : Put) → nat_le 1 p.length ≡ true → list_all is_formed_op (cut p) ≡ true
cut_formed p some =
    let bytes : 1 ≤ p.length = leb-true 1 p.length some in
    blocks_read p (blocks_of p) (p.address / 32) bytes (omega arith) (omega (arith, bytes))
