-- One try more is named.
use Rattle.std.proofs.Common.{◌≡◌, ℕ, Bool, true, false, cond, ◌||◌, ◌&&◌, ◌==◌, List, [], ◌∷◌, ◌++◌, max, nat_lt, refl, sym, ap, ◌∙◌, arith}
use Rattle.std.proofs.lemmas.List.Folds.{list_any-append}
use Rattle.std.proofs.lemmas.Bool.Decides.{nat_tests}
use Rattle.pci_command.specs.declared.op_id.OpId.{OpId}
use Rattle.board_model.specs.declared.bridge.Place.{Place}
use Rattle.history_model.specs.declared.event.By.{By}
use Rattle.history_model.specs.declared.event.Step.{Step}
use Rattle.history_model.specs.declared.event.Event.{Event}
use Rattle.history_model.specs.declared.event.Event.TheVariants.{Act}
use Rattle.draw_items.specs.Tries.{is_later_try, names_later_try, is_pale}
use Rattle.draw_items.specs.Kept.{last_of, Raises, TellsTries}

-- less than the greater of two is less than one of them
lt_max : (a x y : ℕ) → nat_lt a (max x y) ≡ (nat_lt a x || nat_lt a y)
lt_max a x y = grind (arith, nat_tests)

or_false : (b : Bool) → (b || false) ≡ b
or_false true = refl
or_false false = refl

one_more : (a b : Bool) (at old given : ℕ) → nat_lt at (cond (a && b && true) (max old given) old) ≡ (nat_lt at old || (a && (b && nat_lt at given)))
one_more true true at old given = lt_max at old given
one_more true false at old given = sym (or_false (nat_lt at old))
one_more false b at old given = sym (or_false (nat_lt at old))

-- an act of an operation
pub tries_more : (events : List Event) (old new : List (OpId × ℕ)) (on : ℕ) (by : By) (o : OpId) (step : Step) (place : Place) → TellsTries events old → Raises o old new → TellsTries (events ++ Act on by o step place ∷ []) new
tries_more events old new on by o step place tells raises = record {
  each = λ q.
      let e : Event = Act on by o step place in
      ap (λ n. nat_lt q.attempt n) (raises.each q)
      ∙ one_more (o.master == q.master) (o.index == q.index) q.attempt (last_of old q) o.attempt
      ∙ ap (λ b. b || is_later_try q o) (tells.each q)
      ∙ ap (λ b. is_pale events q || b) (sym (or_false (is_later_try q o)))
      ∙ sym (list_any-append (names_later_try q) events (e ∷ []));
}
