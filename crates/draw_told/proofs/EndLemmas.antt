-- Where operations were read and landed, event by event.
use Rattle.std.proofs.Common.{◌≡◌, ℕ, suc, Bool, true, false, cond, ◌&&◌, ◌==◌, List, ◌∷◌, length, refl, sym, ap, ◌∙◌}
use Rattle.pci_command.specs.declared.op_id.OpId.{OpId}
use Rattle.pci_command.specs.Same.{same_op}
use Rattle.board_model.specs.declared.bridge.Place.{Place}
use Rattle.board_model.specs.declared.bridge.Place.TheVariants.{Target}
use Rattle.board_model.specs.declared.bridge.Lane.{Lane as BridgeLane}
use Rattle.history_model.specs.declared.event.By.{By}
use Rattle.history_model.specs.declared.event.Mark.{Mark}
use Rattle.history_model.specs.declared.event.Step.{Step}
use Rattle.history_model.specs.declared.event.Step.TheVariants.{Land, Read}
use Rattle.history_model.specs.declared.event.Event.{Event}
use Rattle.history_model.specs.declared.event.Event.TheVariants.{Act, Arrive}
use Rattle.history_model.specs.Knowledge.{is_land_step, is_land_of}
use Rattle.draw_told.specs.Told.{is_read, is_target, is_read_of}
use Rattle.draw_told.specs.Told as told
use Rattle.draw_told.specs.Kept.{EndTables, TellsEnds, EndsNext, ReadsNow, LandsNow, number_of}

never : (b z : Bool) (n x : ℕ) → cond (b && false && z) n x ≡ x
never true z n x = refl
never false z n x = refl

not_so : (b : Bool) (n x : ℕ) → cond (b && false) n x ≡ x
not_so true n x = refl
not_so false n x = refl

and_true : (b : Bool) (n x : ℕ) → cond (b && true) n x ≡ cond b n x
and_true true n x = refl
and_true false n x = refl

and_true_too : (b z : Bool) (n x : ℕ) → cond (b && true && z) n x ≡ cond (b && z) n x
and_true_too true z n x = refl
and_true_too false z n x = refl

pub read_next : (n on : ℕ) (by : By) (o : OpId) (value target : ℕ) (old new : EndTables) → ReadsNow n o old new → EndsNext n (Act on by o (Read value) (Target target)) old new
read_next n on by o value target old new now = record {
  reads = λ q. now.each q ∙ sym (and_true (same_op o q) n (number_of q old.reads));
  lands = λ q. ap (λ t. number_of q t) now.lands ∙ sym (never (same_op o q) (number_of q old.lands == 0) n (number_of q old.lands));
}

pub land_next : (n on : ℕ) (by : By) (o : OpId) (place : Place) (old new : EndTables) → LandsNow n o old new → EndsNext n (Act on by o Land place) old new
land_next n on by o place old new now = record {
  reads = λ q. ap (λ t. number_of q t) now.reads ∙ sym (not_so (same_op o q) n (number_of q old.reads));
  lands = λ q. now.each q ∙ sym (and_true_too (same_op o q) (number_of q old.lands == 0) n (number_of q old.lands));
}

pub other_next : (n on : ℕ) (by : By) (o : OpId) (step : Step) (place : Place) (old : EndTables) → (is_read step && is_target place) ≡ false → is_land_step step ≡ false → EndsNext n (Act on by o step place) old old
other_next n on by o step place old no_read no_land = record {
  reads = λ q. sym (ap (λ b. cond (same_op o q && b) n (number_of q old.reads)) no_read ∙ not_so (same_op o q) n (number_of q old.reads));
  lands = λ q. sym (ap (λ b. cond (same_op o q && b && (number_of q old.lands == 0)) n (number_of q old.lands)) no_land ∙ never (same_op o q) (number_of q old.lands == 0) n (number_of q old.lands));
}

pub arrival_next : (n : ℕ) (lane : BridgeLane) (mark : Mark) (old : EndTables) → EndsNext n (Arrive lane mark) old old
arrival_next n lane mark old = record { reads = λ q. refl; lands = λ q. refl }

-- one event more
pub ends_next : (h : List Event) (e : Event) (n : ℕ) (old new : EndTables) → n ≡ suc (length h) → TellsEnds h old → EndsNext n e old new → TellsEnds (e ∷ h) new
ends_next h e n old new counted tells next = record {
  reads = λ q.
      next.reads q ∙ ap (λ x. cond (is_read_of q e) n x) (tells.reads q) ∙ ap (λ k. cond (is_read_of q e) k (told.read_event h q)) counted;
  lands = λ q.
      next.lands q ∙ ap (λ x. cond (is_land_of q e && (x == 0)) n x) (tells.lands q) ∙ ap (λ k. cond (is_land_of q e && (told.land_event h q == 0)) k (told.land_event h q)) counted;
}

-- what an event wants
pub ruleset of_event = (read_next, land_next, other_next, arrival_next)
