-- The equality that is derived for slots is that of the definitions.
use Rattle.std.proofs.Common.{◌≡◌, ℕ, Bool, true, false, ◌&&◌, ◌==◌, cond, eqb, [], ◌∷◌, Option, Some, refl, sym, ap, ◌∙◌, arith, if◌then◌else◌}
use Rattle.std.proofs.lemmas.Bool.Decides.{nat_tests}
use Rattle.std.specs.Map.{lookup}
use mathlib.Core.Bool.{beq}
use Rattle.history_model.specs.World.{same_direction}
use Rattle.untagged_run.specs.declared.got.Got.{Got}
use Rattle.untagged_run.specs.declared.origins.Key.{Key}
use Rattle.untagged_run.specs.Flat.{flat}
use Rattle.untagged_run.specs.Table.{Table, same_key, origin_at}

abbrev pub derived : Key → Key → Bool
derived a b = eqb a.bus b.bus && (beq a.up b.up && eqb a.number b.number)

directions : (a b : Bool) → beq a b ≡ same_direction a b
directions true true = refl
directions true false = refl
directions false true = refl
directions false false = refl

and_assoc : (a b c : Bool) → (a && (b && c)) ≡ ((a && b) && c)
and_assoc true b c = refl
and_assoc false b c = refl

eqb_same : (m n : ℕ) → eqb m n ≡ (m == n)
eqb_same m n =
    let P : Bool → Type 0 = λ b. (m == n) ≡ b → eqb m n ≡ b in
    (elim (m == n) as P [ true ↦ λ same. grind (arith, nat_tests) | false ↦ λ differ. grind (arith, nat_tests) ]) refl

derived_same : (a b : Key) → derived a b ≡ same_key a b
derived_same a b =
    ap (λ t. eqb a.bus b.bus && (t && eqb a.number b.number)) (directions a.up b.up)
    ∙ (and_assoc (eqb a.bus b.bus) (same_direction a.up b.up) (eqb a.number b.number)
    ∙ (ap (λ t. (t && same_direction a.up b.up) && eqb a.number b.number) (eqb_same a.bus b.bus)
    ∙ ap (λ t. (a.bus == b.bus && same_direction a.up b.up) && t) (eqb_same a.number b.number)))

lookup_agree : (f g : Key → Bool) → ((k : Key) → f k ≡ g k) → (es : Table) → lookup f es ≡ lookup g es
lookup_agree f g same [] = refl
lookup_agree f g same (e ∷ es) =
    ap (λ (b : Bool). cond b (Some e.1) (lookup f es)) (same e.0) ∙ ap (λ (r : Option (Option Got)). cond (g e.0) (Some e.1) r) (lookup_agree f g same es)

-- after an origin was noted down
pub noted_there : (key q : Key) (got : Option Got) (old new : Table) → lookup (derived q) new ≡ cond (derived key q) (Some got) (lookup (derived q) old)
    → origin_at new q ≡ (if same_key key q then got else origin_at old q)
noted_there key q got old new is =
    let now : origin_at new q ≡ flat (lookup (derived q) new) = ap (λ (r : Option (Option Got)). flat r) (sym (lookup_agree (derived q) (same_key q) (derived_same q) new)) in
    let was : flat (lookup (derived q) old) ≡ origin_at old q = ap (λ (r : Option (Option Got)). flat r) (lookup_agree (derived q) (same_key q) (derived_same q) old) in
    let P : Bool → Type 0 = λ b. flat (cond b (Some got) (lookup (derived q) old)) ≡ (if b then got else flat (lookup (derived q) old)) in
    let inside : P (derived key q) = elim (derived key q) as P [ true ↦ refl | false ↦ refl ] in
    now ∙ (ap (λ (r : Option (Option Got)). flat r) is ∙ (inside ∙ (ap (λ (b : Bool). if b then got else flat (lookup (derived q) old)) (derived_same key q) ∙ ap (λ (r : Option Got). if same_key key q then got else r) was)))
