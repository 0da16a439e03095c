-- What is shown has printing characters and newlines alone.
use Rattle.std.proofs.Common.{◌≡◌, ℕ, Bool, true, false, List, [], ◌∷◌, ◌++◌, map, IsTrue, refl, arith, sym, subst, ◌==◌, if◌then◌else◌}
use Rattle.std.specs.List.{list_all}
use Rattle.std.proofs.lemmas.List.Folds.{list_all-append}
use Rattle.program_pages.specs.shown.Shown.{is_printing, is_shown, shown, whole_line}

pick : (printing tab : Bool) (byte : ℕ) → printing ≡ is_printing byte → is_shown (if printing then byte else if tab then 32 else 63) ≡ true
pick true tab byte e = grind (arith, e)
pick false true byte e = refl
pick false false byte e = refl

all_of : (bytes : List ℕ) → list_all is_shown (map shown bytes) ≡ true
all_of [] = refl
all_of (byte ∷ bytes) = grind (arith, pick (is_printing byte) (byte == 9) byte refl, all_of bytes)

pub all_shown : (old text : List ℕ) → list_all is_shown old ≡ true → list_all is_shown (old ++ whole_line text) ≡ true
all_shown old text h =
    let line : list_all is_shown (whole_line text) ≡ true = rw (list_all-append is_shown (map shown text) (10 ∷ []), all_of text) in
    rw (list_all-append is_shown old (whole_line text), h, line)

-- whether there was memory for one more line or not
pub either_shown : (fits : Bool) (old text line new : List ℕ) → IsTrue (list_all is_shown old) → line ≡ whole_line text → new ≡ (if fits then old ++ line else old) → IsTrue (list_all is_shown new)
either_shown true old text line new h is e =
    subst (λ (l : List ℕ). IsTrue (list_all is_shown l)) (sym e) (subst (λ (l : List ℕ). IsTrue (list_all is_shown (old ++ l))) (sym is) (all_shown old text h))
either_shown false old text line new h is e = subst (λ (l : List ℕ). IsTrue (list_all is_shown l)) (sym e) h
