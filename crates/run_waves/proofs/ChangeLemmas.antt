-- What is written of a signal between two moments.
use Rattle.std.proofs.Common.{◌≡◌, ℕ, ◌+◌, ◌<◌, ◌≤◌, suc, Bool, true, false, not, cond, ◌||◌, List, [], ◌∷◌, ◌++◌, length, drop, get_or, Option, Some, None, refl, sym, ap, subst, ◌∙◌, arith, append_assoc, append-nil}
use Rattle.std.proofs.lemmas.List.{drop_all}
use Rattle.std.proofs.Math.Seq.{drop-cons}
use Rattle.board_model.specs.declared.board.Board.{Board}
use Rattle.history_model.specs.declared.event.Event.{Event}
use Rattle.board_printer.specs.Lines.{Line, line_text, text_of}
use Rattle.board_printer.proofs.LineLemmas.{text_of-append}
use Rattle.run_waves.specs.declared.scene.Scene.{Scene}
use Rattle.run_waves.specs.declared.signal.BusPart.{BusPart}
use Rattle.run_waves.specs.declared.signal.Signal.{Signal}
use Rattle.run_waves.specs.declared.signal.Signal.TheVariants.{Bus}
use Rattle.run_waves.specs.Shown.{Moment, beginning, Shown, is_event_on, idle_part, part_of, shown}
use Rattle.run_waves.specs.Scenes.{scene_at, scene_of, is_scene_on, shown_by, shown_on, new_line, bus_change}
use Rattle.run_waves.specs.Dump.{value_line, value_lines, same_shown, change_line, change_lines}

-- a scene is that of its moment
on_same : (board : Board) (bus : ℕ) (before : List Event) (event : Option Event) → is_scene_on board bus (scene_at board before event) ≡ is_event_on board bus event
on_same board bus before None = refl
on_same board bus before (Some e) = refl

by_same : (board : Board) (bus : ℕ) (part : BusPart) (before : List Event) (event : Option Event) → shown_by board bus part (scene_at board before event) ≡ part_of board part before event
by_same board bus part before None = refl
by_same board bus part before (Some e) = refl

shown_same : (board : Board) (bus : ℕ) (part : BusPart) (m : Moment) → shown_on board bus part (scene_of board m) ≡ shown board m (Bus bus part)
shown_same board bus part m =
    ap (λ (b : Bool). cond b (shown_by board bus part (scene_of board m)) (idle_part part)) (on_same board bus m.before m.event)
    ∙ ap (λ (s : Shown). cond (is_event_on board bus m.event) s (idle_part part)) (by_same board bus part m.before m.event)

-- a signal of a bus
change_by : (k : ℕ) (part : BusPart) (on : Bool) (old now : Shown) → (on ≡ false → now ≡ idle_part part)
    → cond on (value_line k now ∷ []) (new_line k old (idle_part part)) ≡ cond (on || not (same_shown old now)) (value_line k now ∷ []) []
change_by k part true old now idle = refl
change_by k part false old now idle = ap (λ (s : Shown). new_line k old s) (sym (idle refl))

idle_off : (board : Board) (bus : ℕ) (part : BusPart) (scene : Option Scene) → is_scene_on board bus scene ≡ false → shown_on board bus part scene ≡ idle_part part
idle_off board bus part scene off = ap (λ (b : Bool). cond b (shown_by board bus part scene) (idle_part part)) off

pub change_bus : (board : Board) (k bus : ℕ) (part : BusPart) (from to : Option Scene) (before after : Moment) → from ≡ scene_of board before → to ≡ scene_of board after
    → bus_change board k bus part from to ≡ change_line board before after k (Bus bus part)
change_bus board k bus part from to before after from_is to_is =
    let P : Option Scene → Option Scene → Type 0 = λ f t. bus_change board k bus part f t ≡ change_line board before after k (Bus bus part) in
    let f : Option Scene = scene_of board before in
    let t : Option Scene = scene_of board after in
    let moments : bus_change board k bus part f t ≡ change_line board before after k (Bus bus part) =
    change_by k part (is_scene_on board bus t) (shown_on board bus part f) (shown_on board bus part t) (idle_off board bus part t)
    ∙ ap (λ (b : Bool). cond (b || not (same_shown (shown_on board bus part f) (shown_on board bus part t))) (value_line k (shown_on board bus part t) ∷ []) []) (on_same board bus after.before after.event)
    ∙ ap (λ (s : Shown). cond (is_event_on board bus after.event || not (same_shown s (shown_on board bus part t))) (value_line k (shown_on board bus part t) ∷ []) []) (shown_same board bus part before)
    ∙ ap (λ (s : Shown). cond (is_event_on board bus after.event || not (same_shown (shown board before (Bus bus part)) s)) (value_line k s ∷ []) []) (shown_same board bus part after) in
    subst (λ (x : Option Scene). bus_change board k bus part x to ≡ change_line board before after k (Bus bus part)) (sym from_is)
    (subst (λ (x : Option Scene). bus_change board k bus part f x ≡ change_line board before after k (Bus bus part)) (sym to_is) moments)

-- signal by signal

pub values_more : (board : Board) (signals : List Signal) (n : ℕ) (d : Signal) (text longer whole : List ℕ) → n < length signals
    → text ++ text_of (value_lines board beginning n (drop n signals)) ≡ whole → longer ≡ text ++ line_text (value_line n (shown board beginning (get_or signals n d)))
    → longer ++ text_of (value_lines board beginning (n + 1) (drop (n + 1) signals)) ≡ whole
values_more board signals n d text longer whole within so is =
    let here : List ℕ = line_text (value_line n (shown board beginning (get_or signals n d))) in
    let next : suc n ≡ n + 1 = omega arith in
    let rest : List ℕ = text_of (value_lines board beginning (n + 1) (drop (n + 1) signals)) in
    let split : text_of (value_lines board beginning n (drop n signals)) ≡ here ++ rest =
    ap (λ (l : List Signal). text_of (value_lines board beginning n l)) (drop-cons signals n d within) ∙ ap (λ (m : ℕ). here ++ text_of (value_lines board beginning (n + 1) (drop m signals))) next in
    ap (λ (t : List ℕ). t ++ rest) is ∙ append_assoc text here rest ∙ ap (λ (t : List ℕ). text ++ t) (sym split) ∙ so

pub values_all : (board : Board) (signals : List Signal) (n : ℕ) (text whole : List ℕ) → length signals ≤ n → text ++ text_of (value_lines board beginning n (drop n signals)) ≡ whole → text ≡ whole
values_all board signals n text whole past so =
    sym (append-nil text) ∙ ap (λ (l : List Signal). text ++ text_of (value_lines board beginning n l)) (sym (drop_all n signals past)) ∙ so

pub changes_more : (board : Board) (before after : Moment) (signals : List Signal) (n : ℕ) (d : Signal) (text longer whole : List ℕ) → n < length signals
    → text ++ text_of (change_lines board before after n (drop n signals)) ≡ whole → longer ≡ text ++ text_of (change_line board before after n (get_or signals n d))
    → longer ++ text_of (change_lines board before after (n + 1) (drop (n + 1) signals)) ≡ whole
changes_more board before after signals n d text longer whole within so is =
    let lines : List Line = change_line board before after n (get_or signals n d) in
    let here : List ℕ = text_of lines in
    let next : suc n ≡ n + 1 = omega arith in
    let rest : List Line = change_lines board before after (n + 1) (drop (n + 1) signals) in
    let split : text_of (change_lines board before after n (drop n signals)) ≡ here ++ text_of rest =
    ap (λ (l : List Signal). text_of (change_lines board before after n l)) (drop-cons signals n d within) ∙ ap (λ (m : ℕ). text_of (lines ++ change_lines board before after (n + 1) (drop m signals))) next
    ∙ text_of-append lines rest in
    ap (λ (t : List ℕ). t ++ text_of rest) is ∙ append_assoc text here (text_of rest) ∙ ap (λ (t : List ℕ). text ++ t) (sym split) ∙ so

pub changes_all : (board : Board) (before after : Moment) (signals : List Signal) (n : ℕ) (text whole : List ℕ) → length signals ≤ n → text ++ text_of (change_lines board before after n (drop n signals)) ≡ whole → text ≡ whole
changes_all board before after signals n text whole past so =
    sym (append-nil text) ∙ ap (λ (l : List Signal). text ++ text_of (change_lines board before after n l)) (sym (drop_all n signals past)) ∙ so
