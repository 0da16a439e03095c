-- What lands in the order of some members, each at least once, leaves what the members leave.
use Rattle.std.proofs.Common.{◌≡◌, ℕ, Bool, true, false, ◌||◌, List, [], ◌∷◌, refl, sym, ap, subst, ◌∙◌, ◌⊎◌, ⊎_elim}
use Rattle.std.specs.List.{list_any, AllByRecursion}
use Rattle.pci_command.specs.declared.op_id.OpId.{OpId}
use Rattle.pci_command.specs.Same.{same_op}
use Rattle.board_model.specs.Ways.{Dword}
use Rattle.board_model.specs.device.Registers.{merge_of}
use Rattle.history_model.specs.Words.{Landing, mask_in, merged}
use Rattle.history_model.specs.Knowledge.{is_landing_of}
use Rattle.list_facts.proofs.EachLemmas.{Each-weaker}
use Rattle.history_model.proofs.facts.RequestLemmas.{same_op_true, same_op_self}
use Rattle.law_safe.specs.writes.InOrder.{NoneBehind}
use Rattle.law_safe.proofs.before.MergeLemmas.{merge_twice}

-- it is one of these
abbrev pub OneOf : List Landing → Landing → Type 0
OneOf [] landing = ⊥
OneOf (member ∷ members) landing = (landing ≡ member) ⊎ OneOf members landing

abbrev pub Has : List Landing → Landing → Type 0
Has landings member = list_any (is_landing_of member.op) landings ≡ true

-- one is another than the other, and lands no more once the other does
abbrev pub Apart : List Landing → Landing → Landing → Type 0
Apart landings a b = (same_op b.op a.op ≡ false) × NoneBehind a.op b.op false landings

abbrev pub AllApart : List Landing → List Landing → Type 0
AllApart landings [] = Unit {0}
AllApart landings (member ∷ members) = AllByRecursion (Apart landings member) members × AllApart landings members

-- what holds of each member
of_one : (P : Landing → Type 0) (members : List Landing) (landing : Landing) → AllByRecursion P members → OneOf members landing → P landing
of_one P [] landing each one = absurd one
of_one P (member ∷ members) landing each one =
    ⊎_elim {C = P landing} (λ (same : landing ≡ member). subst P (sym same) each.0) (λ (later : OneOf members landing). of_one P members landing each.1 later) one

none_more : (w x : OpId) (landings : List Landing) → NoneBehind w x true landings → list_any (is_landing_of w) landings ≡ false
none_more w x [] none = refl
none_more w x (landing ∷ landings) none =
    let later = none_more w x landings none.1 in
    let P : Bool → Type 0 = λ b. (b ≡ true → true ≡ false) → (b || list_any (is_landing_of w) landings) ≡ false in
    (elim (is_landing_of w landing) as P [ true ↦ λ f. let e : true ≡ false = f refl in cc | false ↦ λ _. later ]) none.0

-- a landing of another is skipped
skip : (w x : OpId) (landing : Landing) (landings : List Landing) → is_landing_of x landing ≡ false → NoneBehind w x false (landing ∷ landings) → NoneBehind w x false landings
skip w x landing landings other none = subst (λ b. NoneBehind w x b landings) other none.1

-- where it is the first, the other lands no more
behind_first : (w : OpId) (landing : Landing) (landings : List Landing) → NoneBehind w landing.op false (landing ∷ landings) → list_any (is_landing_of w) landings ≡ false
behind_first w landing landings none = none_more w landing.op landings (subst (λ b. NoneBehind w landing.op b landings) (same_op_self landing.op) none.1)

has_less : (landing : Landing) (landings : List Landing) (member : Landing) → is_landing_of member.op landing ≡ false → Has (landing ∷ landings) member → Has landings member
has_less landing landings member other has = subst (λ b. (b || list_any (is_landing_of member.op) landings) ≡ true) other has

other_way : (a b : OpId) → same_op b a ≡ false → same_op a b ≡ false
other_way a b other =
    let P : Bool → Type 0 = λ t. same_op a b ≡ t → t ≡ false in
    (elim (same_op a b) as P [
      | true ↦ λ same.
          let one : a ≡ b = same_op_true a b same in
          let self : same_op b a ≡ true = subst (λ c. same_op b c ≡ true) (sym one) (same_op_self b) in
          let e : true ≡ false = sym self ∙ other in
          cc
      | false ↦ λ _. refl
    ]) refl

-- of the landings behind one of the first member
apart_less : (first landing : Landing) (landings members : List Landing) → landing ≡ first → AllByRecursion (λ m. same_op m.op first.op ≡ false) members → AllApart (landing ∷ landings) members → AllApart landings members
apart_less first landing landings [] same others apart = tt
apart_less first landing landings (member ∷ members) same others apart =
    (each_less members others.1 apart.0, apart_less first landing landings members same others.1 apart.1)
  where
    each_less : (rest : List Landing) → AllByRecursion (λ m. same_op m.op first.op ≡ false) rest → AllByRecursion (Apart (landing ∷ landings) member) rest → AllByRecursion (Apart landings member) rest
    each_less [] other each = tt
    each_less (m ∷ rest) other each =
        let is_other : is_landing_of m.op landing ≡ false = subst (λ l. is_landing_of m.op l ≡ false) (sym same) (other_way first.op m.op other.0) in
        ((each.0.0, skip member.op m.op landing landings is_other each.0.1), each_less rest other.1 each.1)

first_less : (first landing : Landing) (landings members : List Landing) → landing ≡ first → AllByRecursion (Apart (landing ∷ landings) first) members → AllByRecursion (Apart landings first) members
first_less first landing landings [] same apart = tt
first_less first landing landings (m ∷ members) same apart =
    let is_other : is_landing_of m.op landing ≡ false = subst (λ l. is_landing_of m.op l ≡ false) (sym same) (other_way first.op m.op apart.0.0) in
    ((apart.0.0, skip first.op m.op landing landings is_other apart.0.1), first_less first landing landings members same apart.1)

has_each : (first landing : Landing) (landings members : List Landing) → landing ≡ first → AllByRecursion (Apart (landing ∷ landings) first) members → AllByRecursion (Has (landing ∷ landings)) members → AllByRecursion (Has landings) members
has_each first landing landings [] same apart has = tt
has_each first landing landings (m ∷ members) same apart has =
    let is_other : is_landing_of m.op landing ≡ false = subst (λ l. is_landing_of m.op l ≡ false) (sym same) (other_way first.op m.op apart.0.0) in
    (has_less landing landings m is_other has.0, has_each first landing landings members same apart.1 has.1)

-- those that are not of the first member are of the others
of_others : (first : Landing) (members landings : List Landing) → list_any (is_landing_of first.op) landings ≡ false → AllByRecursion (OneOf (first ∷ members)) landings → AllByRecursion (OneOf members) landings
of_others first members [] none each = tt
of_others first members (landing ∷ landings) none each =
    let P : Bool → Type 0 = λ b. is_landing_of first.op landing ≡ b → (b || list_any (is_landing_of first.op) landings) ≡ false → OneOf members landing × AllByRecursion (OneOf members) landings in
    let both = (elim (is_landing_of first.op landing) as P [
      | true ↦ λ _ e. cc
      | false ↦ λ other e. (
        ⊎_elim {C = OneOf members landing}
            (λ (same : landing ≡ first). let self : is_landing_of first.op landing ≡ true = subst (λ l. is_landing_of first.op l ≡ true) (sym same) (same_op_self first.op) in let f : true ≡ false = sym self ∙ other in cc)
            (λ (later : OneOf members landing). later) each.0,
        of_others first members landings e each.1,
      )
    ]) refl none in
    (both.0, both.1)

module _ (word : Dword) where
  abbrev step : ℕ → Landing → ℕ
  step value landing = merge_of value landing.phase (mask_in word.space word.address)

  -- behind a landing of the first member, which may land again
  behind_it : (first : Landing) (members : List Landing) → ((landings : List Landing) (value : ℕ) → AllByRecursion (OneOf members) landings → AllByRecursion (Has landings) members → AllApart landings members → merged word value landings ≡ merged word value members)
      → (landings : List Landing) (value : ℕ) → step value first ≡ value → AllByRecursion (OneOf (first ∷ members)) landings → AllByRecursion (Has landings) members → AllByRecursion (Apart landings first) members → AllApart landings members → merged word value landings ≡ merged word value members
  behind_it first members rest [] value twice each has apart others = rest [] value tt has others
  behind_it first members rest (landing ∷ landings) value twice each has apart others =
      ⊎_elim {C = merged word value (landing ∷ landings) ≡ merged word value members}
      (λ (same : landing ≡ first).
      let once : step value landing ≡ value = subst (λ l. step value l ≡ value) (sym same) twice in
      let others_of : AllByRecursion (λ m. same_op m.op first.op ≡ false) members = Each-weaker (Apart (landing ∷ landings) first) (λ m. same_op m.op first.op ≡ false) (λ m one. one.0) members apart in
      ap (λ v. merged word v landings) once
      ∙ behind_it first members rest landings value twice each.1 (has_each first landing landings members same apart has) (first_less first landing landings members same apart) (apart_less first landing landings members same others_of others))
      (λ (later : OneOf members landing).
      let here = of_one (Apart (landing ∷ landings) first) members landing apart later in
      let none : list_any (is_landing_of first.op) landings ≡ false = behind_first first.op landing landings here.1 in
      let others_each = of_others first members landings none each.1 in
      rest (landing ∷ landings) value (later, others_each) has others)
      each.0

  -- in the order of the members
  pub folds : (members landings : List Landing) (value : ℕ) → AllByRecursion (OneOf members) landings → AllByRecursion (Has landings) members → AllApart landings members → merged word value landings ≡ merged word value members
  folds [] [] value each has apart = refl
  folds [] (landing ∷ landings) value each has apart = absurd each.0
  folds (first ∷ members) [] value each has apart = let e : false ≡ true = has.0 in cc
  folds (first ∷ members) (landing ∷ landings) value each has apart =
      ⊎_elim {C = merged word value (landing ∷ landings) ≡ merged word value (first ∷ members)}
      (λ (same : landing ≡ first).
      let others_of : AllByRecursion (λ m. same_op m.op first.op ≡ false) members = Each-weaker (Apart (landing ∷ landings) first) (λ m. same_op m.op first.op ≡ false) (λ m one. one.0) members apart.0 in
      let twice : step (step value first) first ≡ step value first = merge_twice word.space word.address value first.phase in
      ap (λ l. merged word (step value l) landings) same
      ∙ behind_it first members (folds members) landings (step value first) twice each.1 (has_each first landing landings members same apart.0 has.1) (first_less first landing landings members same apart.0) (apart_less first landing landings members same others_of apart.1))
      (λ (later : OneOf members landing).
      let here = of_one (Apart (landing ∷ landings) first) members landing apart.0 later in
      let none : list_any (is_landing_of first.op) landings ≡ false = behind_first first.op landing landings here.1 in
      let other : is_landing_of first.op landing ≡ false = here.0 in
      let nothing : (is_landing_of first.op landing || list_any (is_landing_of first.op) landings) ≡ false = rw (other, none) refl in
      let e : true ≡ false = sym has.0 ∙ nothing in
      cc)
      each.0
