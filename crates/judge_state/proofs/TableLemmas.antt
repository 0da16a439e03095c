-- The equality that is derived for words is that of the definitions.
use Rattle.std.proofs.Common.{◌≡◌, ℕ, Bool, true, false, ◌&&◌, ◌==◌, cond, eqb, [], ◌∷◌, Option, Some, refl, sym, ap, ◌∙◌, arith, if◌then◌else◌}
use Rattle.std.proofs.lemmas.Bool.Decides.{nat_tests}
use Rattle.std.specs.Map.{lookup}
use denote.Enum.Bare.{sameb}
use Rattle.pci_command.specs.contracts.command.Space.{the_type}
use Rattle.pci_command.specs.declared.command.Space.{Space}
use Rattle.pci_command.specs.declared.command.Space.TheVariants.{Mem, Io, Cfg}
use Rattle.pci_command.specs.Same.{same_space}
use Rattle.board_model.specs.declared.word.Word.{Word}
use Rattle.judge_state.specs.State.{WordPlaces}
use Rattle.judge_state.specs.Words.{same_word, place_at}

abbrev pub derived : Word → Word → Bool
derived a b = eqb a.target b.target && (sameb the_type a.space b.space && eqb a.address b.address)

spaces : (a b : Space) → sameb the_type a b ≡ same_space a b
spaces Mem Mem = refl
spaces Mem Io = refl
spaces Mem Cfg = refl
spaces Io Mem = refl
spaces Io Io = refl
spaces Io Cfg = refl
spaces Cfg Mem = refl
spaces Cfg Io = refl
spaces Cfg Cfg = refl

and_assoc : (a b c : Bool) → (a && (b && c)) ≡ ((a && b) && c)
and_assoc true b c = refl
and_assoc false b c = refl

eqb_same : (m n : ℕ) → eqb m n ≡ (m == n)
eqb_same m n =
    let P : Bool → Type 0 = λ b. (m == n) ≡ b → eqb m n ≡ b in
    (elim (m == n) as P [ true ↦ λ same. grind (arith, nat_tests) | false ↦ λ differ. grind (arith, nat_tests) ]) refl

pub derived_same : (a b : Word) → derived a b ≡ same_word a b
derived_same a b =
    rw (spaces a.space b.space) (and_assoc (eqb a.target b.target) (same_space a.space b.space) (eqb a.address b.address)
    ∙ (ap (λ t. (t && same_space a.space b.space) && eqb a.address b.address) (eqb_same a.target b.target)
    ∙ ap (λ t. (a.target == b.target && same_space a.space b.space) && t) (eqb_same a.address b.address)))

pub lookup_agree : (f g : Word → Bool) → ((w : Word) → f w ≡ g w) → (es : WordPlaces) → lookup f es ≡ lookup g es
lookup_agree f g same [] = refl
lookup_agree f g same (e ∷ es) =
    ap (λ (b : Bool). cond b (Some e.1) (lookup f es)) (same e.0) ∙ ap (λ (r : Option ℕ). cond (g e.0) (Some e.1) r) (lookup_agree f g same es)

-- after a place was put
pub put_there : (word q : Word) (place : ℕ) (old new : WordPlaces) → lookup (derived q) new ≡ cond (derived word q) (Some place) (lookup (derived q) old)
    → place_at new q ≡ (if same_word word q then Some place else place_at old q)
put_there word q place old new is =
    let now : place_at new q ≡ lookup (derived q) new = sym (lookup_agree (derived q) (same_word q) (derived_same q) new) in
    let was : lookup (derived q) old ≡ place_at old q = lookup_agree (derived q) (same_word q) (derived_same q) old in
    now ∙ (is ∙ (ap (λ (b : Bool). cond b (Some place) (lookup (derived q) old)) (derived_same word q) ∙ ap (λ (r : Option ℕ). cond (same_word word q) (Some place) r) was))
