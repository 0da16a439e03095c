-- Who was looked up before is right.
use Rattle.std.proofs.Common.{◌≡◌, ℕ, ◌<◌, List, length, get_or, get_or-set_same, get_or-set_other, Option, Some, None, Ok, inl, inr, ap, sym, subst, ◌∙◌, arith}
use Rattle.std.specs.Prelude.{IfSome, replicate, true}
use Rattle.std.specs.Str.{bytes_eq}
use Rattle.std.proofs.Math.ListN.{set, length-set}
use Rattle.std.proofs.lemmas.Bool.{cases_eq}
use Rattle.std.proofs.lemmas.List.{get_or-replicate, length-replicate}
use Rattle.std.proofs.lemmas.Slice.Eq.{bytes_eq-Decides}
use Rattle.board_model.specs.declared.board.Board.{Board}
use Rattle.observe_log.specs.declared.line.initiators.Known.{Known}
use Rattle.observe_log.specs.Words.{who_in}
use Rattle.observe_log.specs.Initiators.{AreRight}

abbrev IsRight : Board → Option Known → Type 0
IsRight board likely = IfSome likely (λ known. who_in board known.bus known.word.now ≡ Ok known.who)

pub none_right : (board : Board) (likely : List (Option Known)) → likely ≡ replicate 256 None → AreRight board likely
none_right board likely is = record {
  places = ap length is ∙ length-replicate {A = Option Known} 256 None;
  right = λ at inside.
      let none : get_or likely at None ≡ None = ap (λ (all : List (Option Known)). get_or all at None) is ∙ get_or-replicate 256 at None None inside in
      subst (IsRight board) (sym none) tt;
}

-- one more
pub more_right : (board : Board) (likely : List (Option Known)) (known : Known) (i : ℕ) → i < 256 → who_in board known.bus known.word.now ≡ Ok known.who → AreRight board likely → AreRight board (set likely i (Some known))
more_right board likely known i small right so_far = record {
  places = length-set likely i (Some known) ∙ so_far.places;
  right = λ at inside.
      elim (cases_eq at i) as (λ _. IsRight board (get_or (set likely i (Some known)) at None)) [
        | inl same ↦
            let within : i < length likely = omega (arith, so_far.places) in
            let there : get_or (set likely i (Some known)) i None ≡ Some known = get_or-set_same likely i (Some known) None within in
            let here : get_or (set likely i (Some known)) at None ≡ Some known = ap (λ (n : ℕ). get_or (set likely i (Some known)) n None) same ∙ there in
            subst (IsRight board) (sym here) right
        | inr apart ↦
            let other : get_or (set likely i (Some known)) at None ≡ get_or likely at None = get_or-set_other likely i at (Some known) None apart in
            subst (IsRight board) (sym other) (so_far.right at inside)
      ];
}

-- of a word that it has it is right
pub known_holds : (board : Board) (likely : List (Option Known)) (known : Known) (at bus : ℕ) (word : List ℕ) → AreRight board likely → at < 256 → get_or likely at None ≡ Some known → known.bus ≡ bus → bytes_eq known.word.now word ≡ true → who_in board bus word ≡ Ok known.who
known_holds board likely known at bus word right inside there same_bus same_word =
    let one : known.word.now ≡ word = (bytes_eq-Decides known.word.now word).0 same_word in
    let holds : who_in board known.bus known.word.now ≡ Ok known.who = subst (IsRight board) there (right.right at inside) in
    ap (who_in board bus) (sym one) ∙ ap (λ (b : ℕ). who_in board b known.word.now) (sym same_bus) ∙ holds
