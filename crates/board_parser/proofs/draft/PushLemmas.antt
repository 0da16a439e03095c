-- One more element of a list: tests of all, counts, and names that differ.
use Rattle.std.proofs.Common.{sym, ◌∙◌, ◌≡◌, ℕ, ◌+◌, Bool, true, false, cond, not, ◌&&◌, ◌||◌, List, [], ◌∷◌, ◌++◌, length, refl, arith}
use Rattle.std.specs.Prelude.{◌==◌, count_by}
use Rattle.std.specs.List.{list_all, list_any}
use Rattle.std.specs.Str.{bytes_eq}
use Rattle.std.proofs.lemmas.Bool.{and_parts, and_from, or_parts, or_from, not-true, not_from_false, eqb-false, ne_eqb, false_from_ne_true}
use Rattle.std.proofs.lemmas.List.Folds.{list_all-append, list_any-append}
use Rattle.std.proofs.lemmas.List.Sums.{sum_by-append}
use Rattle.std.proofs.lemmas.Slice.Eq.{bytes_eq-Decides}
use Rattle.board_model.specs.declared.bridge.Bridge.{Bridge}
use Rattle.board_model.specs.declared.agents.Target.{Target}
use Rattle.board_model.specs.declared.agents.Master.{Master}
use Rattle.board_model.specs.WellFormed.{has_bus, are_numbered_apart, is_target_named, is_master_named, are_masters_named_apart, are_targets_named_apart}

pub all-push : {X : Type 0} (test : X → Bool) (xs : List X) (x : X) → list_all test xs ≡ true → test x ≡ true → list_all test (xs ++ x ∷ []) ≡ true
all-push test xs x all one = list_all-append test xs (x ∷ []) ∙ and_from (list_all test xs) (test x && true) all (and_from (test x) true one refl)

pub any-push : {X : Type 0} (test : X → Bool) (xs : List X) (x : X) → list_any test xs ≡ false → test x ≡ false → list_any test (xs ++ x ∷ []) ≡ false
any-push test xs x none one = list_any-append test xs (x ∷ []) ∙ or_from (list_any test xs) (test x || false) none (or_from (test x) false one refl)

pub length-push : {X : Type 0} (xs : List X) (x : X) → length (xs ++ x ∷ []) ≡ length xs + 1
length-push [] x = refl
length-push (y ∷ xs) x = let more = length-push xs x in omega (arith, more)

pub count-push : {X : Type 0} (test : X → Bool) (xs : List X) (x : X) → count_by test (xs ++ x ∷ []) ≡ count_by test xs + cond (test x) 1 0
count-push test xs x =
    let more = sum_by-append (λ y. cond (test y) 1 0) xs (x ∷ []) in
    omega (arith, more)

pub eq-swap : (a b : ℕ) → (a == b) ≡ false → (b == a) ≡ false
eq-swap a b differ = ne_eqb b a (λ same. eqb-false a b differ (sym same))

pub bytes-swap : (a b : List ℕ) → bytes_eq a b ≡ false → bytes_eq b a ≡ false
bytes-swap a b differ =
    false_from_ne_true (bytes_eq b a) (λ same. absurd (let again = (bytes_eq-Decides a b).1 (sym ((bytes_eq-Decides b a).0 same)) in cc))

pub numbered-push : (bridges : List Bridge) (bridge : Bridge) → are_numbered_apart bridges ≡ true → list_any (has_bus bridge.bus) bridges ≡ false → are_numbered_apart (bridges ++ bridge ∷ []) ≡ true
numbered-push [] bridge apart none = refl
numbered-push (first ∷ bridges) bridge apart none =
    let parts = and_parts (not (list_any (has_bus first.bus) bridges)) (are_numbered_apart bridges) apart in
    let others = or_parts (has_bus bridge.bus first) (list_any (has_bus bridge.bus) bridges) none in
    and_from (not (list_any (has_bus first.bus) (bridges ++ bridge ∷ []))) (are_numbered_apart (bridges ++ bridge ∷ []))
    (not_from_false _ (any-push (has_bus first.bus) bridges bridge (not-true _ parts.0) (eq-swap first.bus bridge.bus others.0)))
    (numbered-push bridges bridge parts.1 others.1)

pub masters-push : (masters : List Master) (master : Master) → are_masters_named_apart masters ≡ true → list_any (is_master_named master.name) masters ≡ false → are_masters_named_apart (masters ++ master ∷ []) ≡ true
masters-push [] master apart none = refl
masters-push (first ∷ masters) master apart none =
    let parts = and_parts (not (list_any (is_master_named first.name) masters)) (are_masters_named_apart masters) apart in
    let others = or_parts (is_master_named master.name first) (list_any (is_master_named master.name) masters) none in
    and_from (not (list_any (is_master_named first.name) (masters ++ master ∷ []))) (are_masters_named_apart (masters ++ master ∷ []))
    (not_from_false _ (any-push (is_master_named first.name) masters master (not-true _ parts.0) (bytes-swap first.name master.name others.0)))
    (masters-push masters master parts.1 others.1)

pub targets-push : (masters : List Master) (targets : List Target) (target : Target) → are_targets_named_apart masters targets ≡ true → list_any (is_target_named target.name) targets ≡ false → list_any (is_master_named target.name) masters ≡ false → are_targets_named_apart masters (targets ++ target ∷ []) ≡ true
targets-push masters [] target apart none lone = and_from (true && not (list_any (is_master_named target.name) masters)) true (not_from_false _ lone) refl
targets-push masters (first ∷ targets) target apart none lone =
    let parts = and_parts (not (list_any (is_target_named first.name) targets) && not (list_any (is_master_named first.name) masters)) (are_targets_named_apart masters targets) apart in
    let named = and_parts (not (list_any (is_target_named first.name) targets)) (not (list_any (is_master_named first.name) masters)) parts.0 in
    let others = or_parts (is_target_named target.name first) (list_any (is_target_named target.name) targets) none in
    and_from (not (list_any (is_target_named first.name) (targets ++ target ∷ [])) && not (list_any (is_master_named first.name) masters)) (are_targets_named_apart masters (targets ++ target ∷ []))
    (and_from _ _ (not_from_false _ (any-push (is_target_named first.name) targets target (not-true _ named.0) (bytes-swap first.name target.name others.0))) named.1)
    (targets-push masters targets target parts.1 others.1 lone)

-- a new master's name is none of a target's
pub targets-beside : (masters : List Master) (master : Master) (targets : List Target) → are_targets_named_apart masters targets ≡ true → list_any (is_target_named master.name) targets ≡ false → are_targets_named_apart (masters ++ master ∷ []) targets ≡ true
targets-beside masters master [] apart none = refl
targets-beside masters master (first ∷ targets) apart none =
    let parts = and_parts (not (list_any (is_target_named first.name) targets) && not (list_any (is_master_named first.name) masters)) (are_targets_named_apart masters targets) apart in
    let named = and_parts (not (list_any (is_target_named first.name) targets)) (not (list_any (is_master_named first.name) masters)) parts.0 in
    let others = or_parts (is_target_named master.name first) (list_any (is_target_named master.name) targets) none in
    and_from (not (list_any (is_target_named first.name) targets) && not (list_any (is_master_named first.name) (masters ++ master ∷ []))) (are_targets_named_apart (masters ++ master ∷ []) targets)
    (and_from _ _ named.0 (not_from_false _ (any-push (is_master_named first.name) masters master (not-true _ named.1) (bytes-swap first.name master.name others.0))))
    (targets-beside masters master targets parts.1 others.1)
